-- The text of a job is read as that job.
use Rattle.std.proofs.Common.{◌≡◌, ◌≢◌, inl, inr, ℕ, suc, ◌+◌, ◌*◌, ◌-◌, ◌%◌, ◌<◌, ◌≤◌, ◌^◌, ◌⊎◌, ◌||◌, ◌&&◌, Bool}
use Rattle.std.proofs.Common.{true, false, not, eqb, leb, cond, List, [], ◌∷◌, ◌++◌, length, map, take, Option, Some}
use Rattle.std.proofs.Common.{None, Ok, refl, sym, ap, subst, ◌∙◌, arith, codes, append_assoc, append-nil, length-append}
use Rattle.std.specs.List.{AllByRecursion, flat_map}
use Rattle.std.proofs.lemmas.Bool.{eqb-true, le-leb, lt-leb, lt-ltb, le-ltb, and_from, ne_eqb, eq-eqb}
use Rattle.std.proofs.lemmas.List.{map-append}
use Rattle.std.proofs.Math.Nat.{mul-le-mul_right}
use Rattle.wire_message.specs.Message.{is_version}
use Rattle.wire_message.specs.Parameters.{Parameters, IsPair, ArePairs, own_credits, credits_in_all}
use Rattle.wire_message.specs.declared.pairs.PairCredits.{PairCredits}
use Rattle.wire_message.proofs.Credits.{even_sum, last_pair}
use Rattle.text_calls.specs.Forms.{IsSaid, U8}
use Rattle.text_steps.specs.Bodies.{action_text, IsAction}
use Rattle.text_steps.specs.Events.{IsTimed}
use Rattle.text_steps.specs.Scripts.{step_text, IsStep}
use Rattle.text_job.specs.Places.{Setting, Version, Nodes, Credits, Threads, Segment, Last, Resend, Patience}
use Rattle.text_job.specs.Places as places
use Rattle.text_job.specs.Places.{Place, AtSetting, AtSieve, AtPairs, AtHandlers, AtBody, AtScripts, AtSteps}
use Rattle.text_job.specs.Places.{AtAtomics, atomics_text, AtCollect, collect_text, AtSchedule, AtDone, Over}
use Rattle.text_job.specs.CollectAreas.{IsCollect, IsCollectOrNone}
use Rattle.text_job.specs.Scopes.{scope_of}
use Rattle.text_calls.specs.declared.scope.Scope.{Scope}
use Rattle.text_job.specs.Places.{Named, Other, Item, item_text, IsItem, least, greatest, setting_fits}
use Rattle.text_job.specs.Places.{in_place}
use Rattle.text_job.specs.JobReading.{State, least_job, start, with_number, behind_setting, with_body}
use Rattle.text_job.specs.JobReading.{with_handler}
use Rattle.text_job.specs.JobReading.{with_steps, with_script, total_rounds, next, has_index, has_pair}
use Rattle.text_job.specs.JobReading.{has_thread}
use Rattle.text_job.specs.JobReading.{rounds_of, is_full, is_reserved, most_handlers, with_atomics}
use Rattle.text_job.specs.JobReading.{leading_job, read}
use Rattle.text_job.specs.JobReading.{amounts_of, is_full_script, lines_of, with_collect}
use Rattle.text_job.specs.PlanPieces.{most_pieces, event_pieces, schedule_pieces}
use Rattle.text_job.specs.StepPieces.{step_pieces, steps_pieces}
use Rattle.text_job.specs.PlanPieces.{scripts_pieces}
use Rattle.text_job.specs.JobText.{Line, spell, setting_line, sieve_line, pair_line, handler_lines}
use Rattle.text_job.specs.JobText.{timed_lines}
use Rattle.text_job.specs.JobText.{script_lines, schedule_lines, head_lines, lines_with_pairs}
use Rattle.text_job.specs.JobText.{lines_with_handlers}
use Rattle.text_job.specs.JobText.{job_lines, job_text, IsHandler, IsNodeScript, AreThreads, IsScheduleOrNone}
use Rattle.text_job.specs.JobText.{AreUnreserved, atomics_lines, lines_with_atomics, with_first_pairs, IsJob}
use Rattle.text_job.specs.JobText.{collect_lines, lines_with_collect}
use Rattle.text_job.specs.JobText.{setting_number, all_settings, header_line, script_line, IsSchedule}
use Rattle.text_job.specs.Refusals.{so_far}
use Rattle.text_steps.specs.declared.steps.Action.{Action}
use Rattle.text_job.specs.declared.job.CollectArea.{CollectArea}
use Rattle.text_job.specs.declared.job.HandlerText.{HandlerText}
use Rattle.text_job.specs.declared.job.Job.{Job}
use Rattle.text_job.specs.declared.job.NodeScript.{NodeScript}
use Rattle.text_steps.specs.declared.steps.ScriptStep.{ScriptStep}
use Rattle.text_steps.specs.declared.steps.ScheduledEvent.{ScheduledEvent}
use Rattle.text_steps.specs.declared.steps.TimedEvent.{TimedEvent}
use Rattle.text_job.specs.declared.schedules.Amounts.{Amounts}
use Rattle.text_job.specs.declared.sections.Section.TheVariants as section
use Rattle.text_job.proofs.Freshness.{AreFresh, AreNew, apart_fresh, fresh_to}
use Rattle.text_job.proofs.AreaLaws.{collect_passes, collect_said}
use Rattle.text_job.proofs.LockLaws.{AreLocks, listed_locks}
use Rattle.text_job.proofs.LineRuns.{line_again, read_on, over_read}
use Rattle.text_job.proofs.PlanPieces.{schedule_join, steps_join, scripts_join}
use Rattle.text_job.proofs.Ranges.{AreNumbers, sum_beside}
use Rattle.text_job.proofs.StateLaws.{done_line, end_line}
use Rattle.text_job.proofs.Threads.{threads_new}

-- ---- lines that lead from one state to another

pub record Leads (P : State → Type 0) (state : State) (line : Line) : Type 0 where
  pub item : Item state.place
  pub to : State
  pub text : line ≡ item_text state.place (scope_of state.job) item
  pub is : IsItem state.place (scope_of state.job) item
  pub goes : next state.place state.job item ≡ Ok to
  pub behind : P to

abbrev pub Reaches : State → List Line → State → Type 0
Reaches state [] end = state ≡ end
Reaches state (line ∷ lines) end = Leads (λ to. Reaches to lines end) state line

pub reach_join : (a b c : State) (xs ys : List Line) → Reaches a xs b → Reaches b ys c → Reaches a (xs ++ ys) c
reach_join a b c [] ys h k = subst (λ (s : State). Reaches s ys c) (sym h) k
reach_join a b c (x ∷ xs) ys h k = record {
  item = h.item;
  to = h.to;
  text = h.text;
  is = h.is;
  goes = h.goes;
  behind = reach_join h.to b c xs ys h.behind k;
}

-- parts, each behind those before it, where the test says of others that they may come behind these
parts_reach : {A : Type 0} (state : List A → State) (lines : A → List Line) (May : (prefix rest : List A) → Type 0)
    → ((prefix : List A) (part : A) (rest : List A) → May prefix (part ∷ rest)
    → Reaches (state prefix) (lines part) (state (prefix ++ part ∷ [])) × May (prefix ++ part ∷ []) rest)
    → (prefix parts rest : List A) → May prefix (parts ++ rest)
    → Reaches (state prefix) (flat_map lines parts) (state (prefix ++ parts)) × May (prefix ++ parts) rest
parts_reach {A} state lines May one prefix [] rest may =
    let same = sym (append-nil prefix) in
    (ap state same, subst (λ (all : List A). May all rest) same may)
parts_reach {A} state lines May one prefix (part ∷ parts) rest may =
    let first = one prefix part (parts ++ rest) may in
    let others = parts_reach state lines May one (prefix ++ part ∷ []) parts rest first.1 in
    let same = append_assoc prefix (part ∷ []) parts in (
      reach_join (state prefix) (state (prefix ++ part ∷ [])) (state (prefix ++ part ∷ parts)) (lines part)
          (flat_map lines parts) first.0
          (subst (λ (all : List A). Reaches (state (prefix ++ part ∷ [])) (flat_map lines parts) (state all)) same
          others.0),
      subst (λ (all : List A). May all rest) same others.1,
    )

-- they are read so
pub reach_read : (lines : List Line) (state end : State) (line : ℕ) (more : List ℕ) → Reaches state lines end
    → read state line (spell lines ++ more) ≡ read end (line + length lines) more
reach_read [] state end line more h = ap (λ (s : State). read s line more) h ∙ ap (λ (n : ℕ). read end n more)
    (omega arith)
reach_read (x ∷ lines) state end line more h =
    let text : spell (x ∷ lines) ++ more ≡ item_text state.place (scope_of state.job) h.item ++ 10 ∷ (spell lines
    ++ more) =
    append_assoc (x ++ 10 ∷ []) (spell lines) more ∙ append_assoc x (10 ∷ []) (spell lines ++ more) ∙ ap
    (λ (l : List ℕ). l ++ 10 ∷ (spell lines ++ more)) h.text in
    ap (read state line) text
    ∙ read_on state.place state.job line (item_text state.place (scope_of state.job) h.item ++ 10 ∷ (spell lines
    ++ more)) (spell lines ++ more) h.item h.to (line_again state.place (scope_of state.job) h.item (spell lines
    ++ more) h.is) h.goes
    ∙ reach_read lines h.to end (line + 1) more h.behind
    ∙ ap (λ (n : ℕ). read end n more) (omega arith)

-- ---- the head

-- the numbers of a job
version_by : (first second : Bool) (version : ℕ) → eqb version 1 ≡ first → eqb version 2 ≡ second → (first || second)
    ≡ true → (version ≡ 1) ⊎ (version ≡ 2)
version_by true second version e f h = inl (eqb-true version 1 e)
version_by false true version e f h = inr (eqb-true version 2 f)
version_by false false version e f h = absurd (cc)

versions : (version : ℕ) → is_version version ≡ true → (version ≡ 1) ⊎ (version ≡ 2)
versions version h = version_by (eqb version 1) (eqb version 2) version refl refl h

version_low : (version : ℕ) → (version ≡ 1) ⊎ (version ≡ 2) → 1 ≤ version
version_low version (inl e) = omega arith
version_low version (inr e) = omega arith

version_high : (version : ℕ) → (version ≡ 1) ⊎ (version ≡ 2) → version ≤ 2
version_high version (inl e) = omega arith
version_high version (inr e) = omega arith

or_true : (b : Bool) → (b || true) ≡ true
or_true true = refl
or_true false = refl

nodes_fit : (version nodes : ℕ) → (version ≡ 1) ⊎ (version ≡ 2) → (version ≡ 1 → nodes ≤ 64) → (leb nodes 64
    || eqb version 2) ≡ true
nodes_fit version nodes (inl e) f = rw (le-leb nodes 64 (f e)) refl
nodes_fit version nodes (inr e) f = rw (eq-eqb version 2 e) (or_true (leb nodes 64))

no_pairs_first : (pairs : List PairCredits) → take 0 pairs ≡ []
no_pairs_first [] = refl
no_pairs_first (pair ∷ pairs) = refl

job_numbers : (job : Job) → IsJob job → AreNumbers job
job_numbers job is Version = let v = versions job.settings.version is.settings.version in record {
  low = version_low
      job.settings.version v;
  high = version_high job.settings.version v;
  fits = refl;
}
job_numbers job is places.Job = record { low = omega arith; high = (let lt = is.job_fits in omega arith); fits = refl }
job_numbers job is Nodes = record {
  low = is.settings.some_node;
  high = is.settings.nodes;
  fits = nodes_fit job.settings.version job.settings.nodes
      (versions job.settings.version is.settings.version) is.settings.nodes_at_first;
}
job_numbers job is Credits = record {
  low = is.settings.some_credit;
  high = is.settings.credits;
  fits = le-leb
      (job.settings.nodes * (job.settings.nodes - 1) * job.settings.credits) 65536 (subst (λ (n : ℕ). n ≤ 65536)
      (even_sum (with_first_pairs 0 job.settings) (no_pairs_first job.settings.pairs)) (is.sums 0));
}
job_numbers job is Threads = record { low = is.settings.some_thread; high = is.settings.threads; fits = refl }
job_numbers job is Segment = record {
  low = is.settings.some_page;
  high = is.segment;
  fits = and_from _ _
      (eq-eqb (job.settings.segment % 4096) 0 is.settings.pages) (le-leb
      (job.settings.nodes * job.settings.segment) 268435456 is.segments);
}
job_numbers job is Last = record { low = is.settings.last; high = (let lt = is.last_fits in omega arith); fits = refl }
job_numbers job is Resend = record { low = is.settings.some_time; high = is.settings.resend; fits = refl }
job_numbers job is Patience = record { low = is.some_patience; high = is.patience; fits = refl }

-- the greatest numbers have 64 bits
greatest_fits : (setting : Setting) → greatest setting < 2 ^ 64
greatest_fits Version = omega arith
greatest_fits places.Job = omega arith
greatest_fits Nodes = omega arith
greatest_fits Credits = omega arith
greatest_fits Threads = omega arith
greatest_fits Segment = omega arith
greatest_fits Last = omega arith
greatest_fits Resend = omega arith
greatest_fits Patience = omega arith

setting_item : (setting : Setting) (scope : Scope) (number : ℕ) → least setting ≤ number
    → number ≤ greatest setting → setting_fits setting scope.settings number ≡ true → IsItem
    (AtSetting setting) scope number
setting_item setting scope number low high fits = (
  ((low, high, let g = greatest_fits setting in omega arith), tt),
  fits,
)

-- the job of the head of another
abbrev pub of_head : Job → List PairCredits → Job
of_head job pairs = record {
  settings = record job.settings { pairs = pairs };
  patience = job.patience;
  sieve = job.sieve;
  atomics = false;
  collect = None;
  handlers = [];
  scripts = [];
  schedule = None;
}

setting_lead : (setting : Setting) (job : Job) (number : ℕ) (lines : List Line) (end : State)
    → least setting ≤ number → number ≤ greatest setting → setting_fits setting job.settings number ≡ true → Reaches
    (record { place = behind_setting setting; job = with_number setting number job }) lines end
    → Reaches (record { place = AtSetting setting; job = job }) (item_text
    (AtSetting setting) (scope_of job) number ∷ lines) end
setting_lead setting job number lines end low high fits on = record {
  item = number;
  to = record { place = behind_setting setting; job = with_number setting number job };
  text = refl;
  is = setting_item setting (scope_of job) number low high fits;
  goes = refl;
  behind = on;
}

-- what was read of the settings up to one
abbrev pub version_said : Job → Job
version_said job = with_number Version job.settings.version least_job

abbrev pub job_said : Job → Job
job_said job = with_number places.Job job.settings.job (version_said job)

abbrev pub nodes_said : Job → Job
nodes_said job = with_number Nodes job.settings.nodes (job_said job)

abbrev pub credits_said : Job → Job
credits_said job = with_number Credits job.settings.credits (nodes_said job)

abbrev pub threads_said : Job → Job
threads_said job = with_number Threads job.settings.threads (credits_said job)

abbrev pub segment_said : Job → Job
segment_said job = with_number Segment job.settings.segment (threads_said job)

abbrev pub last_said : Job → Job
last_said job = with_number Last job.settings.last (segment_said job)

abbrev pub resend_said : Job → Job
resend_said job = with_number Resend job.settings.resend (last_said job)

abbrev pub patience_said : Job → Job
patience_said job = with_number Patience job.patience (resend_said job)

-- the lines of a job before a place of its head lead there
abbrev pub HeadLeads : Place → (Job → Job) → Type 0
HeadLeads place known =
    (job : Job) → IsJob job → Reaches start (so_far place job) (record { place = place; job = known job })

setting_reach : (setting : Setting) (job known : Job) (lines : List Line) → least setting ≤ setting_number setting job
    → setting_number setting job ≤ greatest setting
    → setting_fits setting known.settings (setting_number setting job) ≡ true
    → Reaches start lines (record { place = AtSetting setting; job = known })
    → Reaches start (lines ++ setting_line job setting ∷ [])
    (record { place = behind_setting setting; job = with_number setting (setting_number setting job) known })
setting_reach setting job known lines low high fits before =
    let end : State = record {
      place = behind_setting setting;
      job = with_number setting (setting_number setting job) known;
    } in
    reach_join start (record { place = AtSetting setting; job = known }) end lines (setting_line job setting ∷ []) before
    (setting_lead setting known (setting_number setting job) [] end low high fits refl)

pub to_job : HeadLeads (AtSetting places.Job) version_said
to_job job is =
    let number = job_numbers job is Version in
    setting_reach Version job least_job [] number.low number.high refl refl

pub to_nodes : HeadLeads (AtSetting Nodes) job_said
to_nodes job is =
    let number = job_numbers job is places.Job in
    setting_reach places.Job job (version_said job) (so_far (AtSetting places.Job) job) number.low number.high refl (to_job job is)

pub to_credits : HeadLeads (AtSetting Credits) nodes_said
to_credits job is =
    let number = job_numbers job is Nodes in
    setting_reach Nodes job (job_said job) (so_far (AtSetting Nodes) job) number.low number.high number.fits (to_nodes job is)

pub to_threads : HeadLeads (AtSetting Threads) credits_said
to_threads job is =
    let number = job_numbers job is Credits in
    setting_reach Credits job (nodes_said job) (so_far (AtSetting Credits) job) number.low number.high number.fits (to_credits job is)

pub to_segment : HeadLeads (AtSetting Segment) threads_said
to_segment job is =
    let number = job_numbers job is Threads in
    setting_reach Threads job (credits_said job) (so_far (AtSetting Threads) job) number.low number.high refl (to_threads job is)

pub to_last : HeadLeads (AtSetting Last) segment_said
to_last job is =
    let number = job_numbers job is Segment in
    setting_reach Segment job (threads_said job) (so_far (AtSetting Segment) job) number.low number.high number.fits (to_segment job is)

pub to_resend : HeadLeads (AtSetting Resend) last_said
to_resend job is =
    let number = job_numbers job is Last in
    setting_reach Last job (segment_said job) (so_far (AtSetting Last) job) number.low number.high refl (to_last job is)

pub to_patience : HeadLeads (AtSetting Patience) resend_said
to_patience job is =
    let number = job_numbers job is Resend in
    setting_reach Resend job (last_said job) (so_far (AtSetting Resend) job) number.low number.high refl (to_resend job is)

pub to_sieve : HeadLeads AtSieve patience_said
to_sieve job is =
    let number = job_numbers job is Patience in
    setting_reach Patience job (resend_said job) (so_far (AtSetting Patience) job) number.low number.high refl (to_patience job is)

pub head_reach : (job : Job) → IsJob job → Reaches start (head_lines job) (record { place = AtPairs; job = of_head job [] })
head_reach job is =
    let end : State = record { place = AtPairs; job = of_head job [] } in
    let sieve : Reaches (record { place = AtSieve; job = patience_said job }) (sieve_line job.sieve ∷ []) end = record {
      item = job.sieve;
      to = end;
      text = refl;
      is = (
        (
          (omega arith, is.sieve.lose, (let a = is.sieve.lose in omega arith)),
          (
            (omega arith, is.sieve.repeat, (let a = is.sieve.repeat in omega arith)),
            ((omega arith, is.sieve.swap, (let a = is.sieve.swap in omega arith)), tt),
          ),
        ),
        refl,
      );
      goes = refl;
      behind = refl;
    } in
    reach_join start (record { place = AtSieve; job = patience_said job }) end (map (setting_line job) all_settings)
    (sieve_line job.sieve ∷ []) (to_sieve job is) sieve

-- ---- pairs

-- pairs of which the first ones are these
are_first : (nodes : ℕ) (prefix pairs : List PairCredits) → ArePairs nodes (prefix ++ pairs) → ArePairs nodes prefix
are_first nodes [] pairs are = tt
are_first nodes (pair ∷ prefix) pairs are = (
  are.0,
  own_first prefix pairs pair.from pair.to are.1,
  are_first nodes prefix pairs are.2,
)
  where
    own_first : (xs ys : List PairCredits) (from to : ℕ) → own_credits (xs ++ ys) from to ≡ None
        → own_credits xs from to ≡ None
    own_first [] ys from to e = refl
    own_first (x ∷ xs) ys from to e = own_by (eqb x.from from && eqb x.to to) x.credits (own_credits
        (xs ++ ys) from to) (own_credits xs from to) (own_first xs ys from to) e
      where
        own_by : (t : Bool) (c : ℕ) (a b : Option ℕ) → (a ≡ None → b ≡ None) → cond t (Some c) a ≡ None → cond t
            (Some c) b ≡ None
        own_by true c a b f h = absurd (cc)
        own_by false c a b f h = f h

-- what has no credits of its own isn't among them
not_among : (pairs : List PairCredits) (pair : PairCredits) → own_credits pairs pair.from pair.to ≡ None
    → has_pair pairs pair ≡ false
not_among [] pair e = refl
not_among (x ∷ xs) pair e = among_by (eqb x.from pair.from && eqb x.to pair.to) x.credits
    (own_credits xs pair.from pair.to) (has_pair xs pair) (not_among xs pair) e
  where
    among_by : (t : Bool) (c : ℕ) (o : Option ℕ) (b : Bool) → (o ≡ None → b ≡ false) → cond t (Some c) o ≡ None → (t
        || b) ≡ false
    among_by true c o b f h = absurd (cc)
    among_by false c o b f h = f h

-- the first so many of them
take_prefix : (prefix : List PairCredits) (pair : PairCredits) (pairs : List PairCredits) → take (length prefix + 1)
    (prefix ++ pair ∷ pairs) ≡ prefix ++ pair ∷ []
take_prefix [] pair [] = refl
take_prefix [] pair (x ∷ xs) = refl
take_prefix (x ∷ prefix) pair pairs = ap (λ (n : ℕ). take n (x ∷ (prefix ++ pair ∷ pairs))) (let e : suc
    (length prefix) + 1 ≡ suc (length prefix + 1) = omega arith in e) ∙ ap (λ (ys : List PairCredits). x ∷ ys)
    (take_prefix prefix pair pairs)

not_same : (a b : ℕ) → a ≢ b → not (eqb a b) ≡ true
not_same a b h = rw (ne_eqb a b h) refl

-- the settings with other pairs
abbrev pub with_pairs : Parameters → List PairCredits → Parameters
with_pairs settings pairs = record settings { pairs = pairs }

-- a pair that may stand behind others
pub record IsNext (settings : Parameters) (prefix : List PairCredits) (pair : PairCredits) : Type 0 where
  pub is : IsPair settings.nodes pair
  pub nodes : settings.nodes ≤ 256
  pub none : own_credits prefix pair.from pair.to ≡ None
  pub sum : credits_in_all (with_pairs settings (prefix ++ pair ∷ [])) ≤ 65536
  pub few : length prefix < 64

pair_item : (settings : Parameters) (prefix : List PairCredits) (pair : PairCredits) → IsNext settings prefix pair
    → IsItem AtPairs (record { settings = with_pairs settings prefix; atomics = false; collect = false }) (Named pair)
pair_item settings prefix pair n =
    let i = n.is in
    let sum : credits_in_all (in_place (with_pairs settings prefix) pair) ≤ 65536 = rw (← sum_beside
    (with_pairs settings prefix) pair i n.none) n.sum in
    let from = i.from in
    let to = i.to in
    let nodes = n.nodes in
    let some = i.some_credit in
    let few = i.credits in (
      (
        (omega arith, omega arith, omega arith),
        (
          (omega arith, omega arith, omega arith),
          (
            (some, few, omega arith),
            tt,
          ),
        ),
      ),
      and_from _ _ (lt-ltb pair.from settings.nodes from) (and_from _ _ (lt-ltb pair.to settings.nodes to)
          (and_from _ _ (not_same pair.from pair.to i.apart) (le-leb
          (credits_in_all (in_place (with_pairs settings prefix) pair)) 65536 sum))),
    )

next_pair : (job : Job) → IsJob job → (prefix : List PairCredits) (pair : PairCredits) (rest : List PairCredits)
    → prefix ++ pair ∷ rest ≡ job.settings.pairs → IsNext job.settings prefix pair
next_pair job is prefix pair rest e =
    let are : ArePairs job.settings.nodes ((prefix ++ pair ∷ []) ++ rest) = subst (λ
    (ps : List PairCredits). ArePairs job.settings.nodes ps) (sym
    (append_assoc prefix (pair ∷ []) rest ∙ e)) is.settings.pairs in
    let last = last_pair job.settings.nodes prefix pair (are_first job.settings.nodes (prefix ++ pair ∷ []) rest are) in
    let first : take (length prefix + 1) job.settings.pairs ≡ prefix ++ pair ∷ [] = ap (take (length prefix + 1))
    (sym e) ∙ take_prefix prefix pair rest in
    let all : length (prefix ++ pair ∷ rest) ≤ 64 = subst (λ (ps : List PairCredits). length ps ≤ 64)
    (sym e) is.settings.few_pairs in
    let many : length (prefix ++ pair ∷ rest) ≡ length prefix + suc (length rest) = simp length-append in
    record {
      is = last.is;
      nodes = is.settings.nodes;
      none = last.none;
      sum = subst (λ (ps : List PairCredits). credits_in_all (with_pairs job.settings ps) ≤ 65536) first (is.sums
          (length prefix + 1));
      few = omega (arith, all, many);
    }

pub pairs_reach : (job : Job) → IsJob job → (prefix rest : List PairCredits) → prefix ++ rest ≡ job.settings.pairs
    → Reaches (record { place = AtPairs; job = of_head job prefix }) (map pair_line rest)
    (record { place = AtPairs; job = of_head job (prefix ++ rest) })
pairs_reach job is prefix [] e = ap (λ (ps : List PairCredits). record { place = AtPairs; job = of_head job ps }) (sym
    (append-nil prefix))
pairs_reach job is prefix (pair ∷ rest) e =
    let n = next_pair job is prefix pair rest e in
    record {
      item = Named pair;
      to = record { place = AtPairs; job = of_head job (prefix ++ pair ∷ []) };
      text = refl;
      is = pair_item job.settings prefix pair n;
      goes = rw (not_among prefix pair n.none, lt-leb 64 (length prefix) n.few) refl;
      behind = subst (λ (ps : List PairCredits). Reaches (record {
        place = AtPairs;
        job = of_head job (prefix
            ++ pair ∷ []);
      }) (map pair_line rest) (record { place = AtPairs; job = of_head job ps }))
          (append_assoc prefix (pair ∷ []) rest)
          (pairs_reach job is (prefix ++ pair ∷ []) rest (append_assoc prefix (pair ∷ []) rest ∙ e));
    }

-- ---- handlers

body_reach : (handler : HandlerText) (prefix rest : List Action) (job : Job) → AllByRecursion IsAction rest → length
    (prefix ++ rest) ≤ 64
    → Reaches (record { place = AtBody (with_body prefix handler); job = job }) (map action_text rest)
    (record { place = AtBody (with_body (prefix ++ rest) handler); job = job })
body_reach handler prefix [] job all few = ap (λ (body : List Action). record {
  place = AtBody (with_body body handler);
  job = job;
}) (sym (append-nil prefix))
body_reach handler prefix (action ∷ rest) job all few =
    let many : length (prefix ++ action ∷ rest) ≡ length prefix + suc (length rest) = simp length-append in
    record {
      item = Some action;
      to = record { place = AtBody (with_body (prefix ++ action ∷ []) handler); job = job };
      text = refl;
      is = all.0;
      goes = rw (lt-leb 64 (length prefix) (omega (arith, many))) refl;
      behind = subst (λ (body : List Action). Reaches (record {
        place = AtBody (with_body (prefix ++ action ∷ []) handler);
        job = job;
      }) (map action_text rest) (record { place = AtBody (with_body body handler); job = job }))
          (append_assoc prefix (action ∷ []) rest)
          (body_reach handler (prefix ++ action ∷ []) rest job all.1 (subst (λ (body : List Action). length body ≤ 64)
          (sym (append_assoc prefix (action ∷ []) rest)) few));
    }

-- the line that ends a handler
body_end : (h : HandlerText) (job : Job) → Reaches (record { place = AtBody h; job = job }) (end_line ∷ [])
    (record { place = AtHandlers; job = with_handler h job })
body_end h job = record {
  item = None;
  to = record { place = AtHandlers; job = with_handler h job };
  text = refl;
  is = tt;
  goes = refl;
  behind = refl;
}

-- the test of an index
index_test : (index : ℕ) → (index ≡ 0) ⊎ ((128 ≤ index) × (index < 256)) → (eqb index 0 || leb 128 index) ≡ true
index_test index (inl e) = rw (eq-eqb index 0 e) refl
index_test index (inr h) = rw (le-leb 128 index h.0) (or_true (eqb index 0))

index_high : (index : ℕ) → (index ≡ 0) ⊎ ((128 ≤ index) × (index < 256)) → index ≤ 255
index_high index (inl e) = omega arith
index_high index (inr h) = let lt = h.1 in omega arith

-- locks can be said
locks_said : (locks : List ℕ) → AreLocks locks → AllByRecursion (IsSaid U8) locks
locks_said [] are = tt
locks_said (lock ∷ locks) are = let high = are.0 in ((omega arith, omega arith, omega arith), locks_said locks are.1)

-- a handler up to its end
pub handler_begins : (h : HandlerText) (job : Job) → IsHandler h → has_index job.handlers h.index ≡ false
    → is_reserved (scope_of job) h.index ≡ false → length job.handlers < most_handlers (scope_of job)
    → Reaches (record { place = AtHandlers; job = job }) (header_line h ∷ map action_text h.body)
    (record { place = AtBody h; job = job })
handler_begins h job is new free few =
    let high = index_high h.index is.index in
    record {
      item = Named (record { index = h.index; role = h.role; locks = h.locks });
      to = record { place = AtBody (with_body [] h); job = job };
      text = refl;
      is = (
        ((omega arith, high, omega arith), (tt, locks_said h.locks (listed_locks 0 h.locks is.locks))),
        and_from _ _ (index_test h.index is.index) is.locks,
      );
      goes = rw (new, free, lt-leb (most_handlers (scope_of job)) (length job.handlers) few) refl;
      behind = body_reach h [] h.body job is.actions is.count;
    }

abbrev pub with_handlers : Job → List HandlerText → Job
with_handlers job handlers = record job { handlers = handlers }

-- handlers of which the first ones stand
abbrev pub MayFollow : Scope → (prefix rest : List HandlerText) → Type 0
MayFollow scope prefix rest = AllByRecursion IsHandler rest
    × AreFresh (map (λ (x : HandlerText). x.index) prefix) rest × (length (prefix ++ rest) ≤ most_handlers scope)
    × AreUnreserved scope rest

abbrev pub behind_prefix : Job → List HandlerText → State
behind_prefix job prefix = record { place = AtHandlers; job = with_handlers job prefix }

-- a handler behind others
pub handler_opens : (job : Job) (prefix : List HandlerText) (h : HandlerText) (rest : List HandlerText)
    → MayFollow (scope_of job) prefix (h ∷ rest)
    → Reaches (behind_prefix job prefix) (header_line h ∷ map action_text h.body)
    (record { place = AtBody h; job = with_handlers job prefix })
handler_opens job prefix h rest may =
    let many : length (prefix ++ h ∷ rest) ≡ length prefix + suc (length rest) = simp length-append in
    let few = may.2 in
    handler_begins h (with_handlers job prefix) may.0.0 (fresh_to prefix h.index may.1.0) may.3.0
    (omega (arith, many, few))

next_handler : (job : Job) (prefix : List HandlerText) (h : HandlerText) (rest : List HandlerText)
    → MayFollow (scope_of job) prefix (h ∷ rest)
    → Reaches (behind_prefix job prefix) (handler_lines h) (behind_prefix job (prefix ++ h ∷ []))
    × MayFollow (scope_of job) (prefix ++ h ∷ []) rest
next_handler job prefix h rest may =
    let begun : State = record { place = AtBody h; job = with_handlers job prefix } in
    let one = reach_join (behind_prefix job prefix) begun (behind_prefix job (prefix ++ h ∷ []))
    (header_line h ∷ map action_text h.body) (end_line ∷ []) (handler_opens job prefix h rest may)
    (body_end h (with_handlers job prefix)) in
    let indexes : map (λ (x : HandlerText). x.index) (prefix ++ h ∷ []) ≡ map (λ (x : HandlerText). x.index) prefix
    ++ h.index ∷ [] = map-append (λ (x : HandlerText). x.index) prefix (h ∷ []) in
    let fresh = subst (λ (t : List ℕ). AreFresh t rest) (sym indexes) may.1.1 in
    let room = subst (λ (hs : List HandlerText). length hs ≤ most_handlers (scope_of job))
    (sym (append_assoc prefix (h ∷ []) rest)) may.2 in
    (one, (may.0.1, fresh, room, may.3.1))

handlers_reach : (job : Job) (prefix hs rest : List HandlerText) → MayFollow (scope_of job) prefix (hs ++ rest)
    → Reaches (behind_prefix job prefix) (flat_map handler_lines hs) (behind_prefix job (prefix ++ hs))
    × MayFollow (scope_of job) (prefix ++ hs) rest
handlers_reach job prefix hs rest may =
    parts_reach (behind_prefix job) handler_lines (MayFollow (scope_of job)) (next_handler job) prefix hs rest may

-- ---- atomics and collectives

-- what may come behind handlers may come behind the line of collectives or in its place, what may come there may come
-- behind the line of atomics or in its place, and what may come there may come behind pairs
behind_collect : (job : Job) (line : Line) (lines : List Line) (end : State) → Reaches
    (record { place = AtHandlers; job = job }) (line ∷ lines) end → Reaches (record { place = AtCollect; job = job })
    (line ∷ lines) end
behind_collect job line lines end h = record {
  item = Other h.item;
  to = h.to;
  text = h.text;
  is = h.is;
  goes = h.goes;
  behind = h.behind;
}

behind_atomics : (job : Job) (line : Line) (lines : List Line) (end : State) → Reaches
    (record { place = AtCollect; job = job }) (line ∷ lines) end → Reaches (record { place = AtAtomics; job = job })
    (line ∷ lines) end
behind_atomics job line lines end h = record {
  item = Other h.item;
  to = h.to;
  text = h.text;
  is = h.is;
  goes = h.goes;
  behind = h.behind;
}

behind_pairs : (job : Job) (line : Line) (lines : List Line) (end : State) → Reaches
    (record { place = AtAtomics; job = job }) (line ∷ lines) end → Reaches (record { place = AtPairs; job = job })
    (line ∷ lines) end
behind_pairs job line lines end h = record {
  item = Other h.item;
  to = h.to;
  text = h.text;
  is = h.is;
  goes = h.goes;
  behind = h.behind;
}

-- the line of atomics
atomics_reach : (job : Job) → job.settings.version ≡ 2 → Reaches (record { place = AtAtomics; job = job })
    (atomics_text tt ∷ []) (record { place = AtCollect; job = with_atomics job })
atomics_reach job second = record {
  item = Named tt;
  to = record { place = AtCollect; job = with_atomics job };
  text = refl;
  is = (tt, eq-eqb job.settings.version 2 second);
  goes = refl;
  behind = refl;
}

-- the job with batches or without
abbrev pub with_flag : Job → Bool → Job
with_flag job atomics = record job { atomics = atomics }

-- the line of collectives
collect_reach : (job : Job) (area : CollectArea) → job.settings.segment ≤ 67108864 → IsCollect job.settings area
    → Reaches (record { place = AtCollect; job = job }) (collect_text area ∷ [])
    (record { place = AtHandlers; job = with_collect area job })
collect_reach job area few is =
    let low = collect_said job.settings area few is in
    let base = low.0 in
    let room = low.1 in
    record {
      item = Named area;
      to = record { place = AtHandlers; job = with_collect area job };
      text = refl;
      is = (
        ((omega arith, omega (arith, base), base), ((omega arith, omega (arith, room), room), tt)),
        collect_passes (scope_of job) area is,
      );
      goes = refl;
      behind = refl;
    }

-- the job with an area of collectives or without
abbrev pub with_area : Job → Option CollectArea → Job
with_area job collect = record job { collect = collect }

-- lines with the line of collectives before them or not
collect_then : (job : Job) (collect : Option CollectArea) (lines : List Line) (end : State)
    → job.settings.segment ≤ 67108864 → IsCollectOrNone job.settings collect → job.collect ≡ None
    → (collect ≡ None → lines ≡ [] → ⊥)
    → Reaches (record { place = AtHandlers; job = with_area job collect }) lines end
    → Reaches (record { place = AtCollect; job = job }) (collect_lines collect ++ lines) end
collect_then job (Some area) lines end few is none some h =
    reach_join (record { place = AtCollect; job = job }) (record { place = AtHandlers; job = with_collect area job }) end
    (collect_text area ∷ []) lines (collect_reach job area few is) h
collect_then job None [] end few is none some h = absurd (some refl refl)
collect_then job None (line ∷ lines) end few is none some h =
    let same : with_area job None ≡ job = ap (with_area job) (sym none) in
    behind_collect job line lines end
    (subst (λ (j : Job). Reaches (record { place = AtHandlers; job = j }) (line ∷ lines) end) same h)

-- some lines, behind the line of collectives or in its place
some_collect : (collect : Option CollectArea) (lines : List Line) → (collect ≡ None → lines ≡ [] → ⊥)
    → collect_lines collect ++ lines ≡ [] → ⊥
some_collect None lines some h = some refl h
some_collect (Some area) lines some h = absurd (cc)

-- lines behind pairs, with the line of atomics before them or not
atomics_then : (job : Job) (atomics : Bool) (lines : List Line) (end : State) → (atomics ≡ true
    → job.settings.version ≡ 2) → job.atomics ≡ false → (atomics ≡ false → lines ≡ [] → ⊥)
    → Reaches (record { place = AtCollect; job = with_flag job atomics }) lines end
    → Reaches (record { place = AtPairs; job = job }) (atomics_lines atomics ++ lines) end
atomics_then job true lines end second none some h =
    behind_pairs job (atomics_text tt) lines end
    (reach_join (record { place = AtAtomics; job = job }) (record { place = AtCollect; job = with_atomics job }) end
    (atomics_text tt ∷ []) lines (atomics_reach job (second refl)) h)
atomics_then job false [] end second none some h = absurd (some refl refl)
atomics_then job false (line ∷ lines) end second none some h =
    let same : with_flag job false ≡ job = ap (with_flag job) (sym none) in
    behind_pairs job line lines end (behind_atomics job line lines end
    (subst (λ (j : Job). Reaches (record { place = AtCollect; job = j }) (line ∷ lines) end) same h))

-- ---- scripts

-- there is room for a step
steps_free : (pieces steps : ℕ) (s : ScriptStep) → steps < 4096 → pieces + step_pieces s ≤ 65536
    → is_full_script pieces steps s ≡ false
steps_free pieces steps s a b = rw (lt-leb 4096 steps a, le-ltb 65536 (pieces + step_pieces s) b) refl

steps_reach : (script : NodeScript) (prefix rest : List ScriptStep) (job : Job)
    → AllByRecursion (IsStep (scope_of job)) rest → length (prefix ++ rest) ≤ 4096
    → scripts_pieces job.scripts + steps_pieces (prefix ++ rest) ≤ most_pieces
    → Reaches (record { place = AtSteps (with_steps prefix script); job = job }) (map step_text rest)
    (record { place = AtSteps (with_steps (prefix ++ rest) script); job = job })
steps_reach script prefix [] job all few room = ap (λ (steps : List ScriptStep). record {
  place = AtSteps (with_steps steps script);
  job = job;
}) (sym (append-nil prefix))
steps_reach script prefix (s ∷ rest) job all few room =
    let many : length (prefix ++ s ∷ rest) ≡ length prefix + suc (length rest) = simp length-append in
    let pieces = steps_join prefix (s ∷ rest) in
    let same = sym (append_assoc prefix (s ∷ []) rest) in
    record {
      item = Some s;
      to = record { place = AtSteps (with_steps (prefix ++ s ∷ []) script); job = job };
      text = refl;
      is = all.0;
      goes = rw (steps_free (scripts_pieces job.scripts + steps_pieces prefix) (length prefix) s
          (omega (arith, many)) (omega (arith, pieces, room))) refl;
      behind = subst (λ (steps : List ScriptStep). Reaches (record {
        place = AtSteps (with_steps (prefix ++ s ∷ []) script);
        job = job;
      }) (map step_text rest) (record { place = AtSteps (with_steps steps script); job = job }))
          (append_assoc prefix (s ∷ []) rest)
          (steps_reach script (prefix ++ s ∷ []) rest job all.1
          (subst (λ (steps : List ScriptStep). length steps ≤ 4096) same few)
          (subst (λ (steps : List ScriptStep). scripts_pieces job.scripts + steps_pieces steps ≤ most_pieces) same
          room));
    }

-- the line that ends a script
steps_end : (s : NodeScript) (job : Job) → Reaches (record { place = AtSteps s; job = job }) (end_line ∷ [])
    (record { place = AtScripts; job = with_script s job })
steps_end s job = record {
  item = None;
  to = record { place = AtScripts; job = with_script s job };
  text = refl;
  is = tt;
  goes = refl;
  behind = refl;
}

-- a script up to its end
script_begins : (s : NodeScript) (job : Job) → IsNodeScript (scope_of job) s
    → job.settings.nodes ≤ 256 → job.settings.threads ≤ 16 → has_thread job.scripts s.node s.thread ≡ false
    → scripts_pieces job.scripts + steps_pieces s.steps ≤ most_pieces
    → Reaches (record { place = AtScripts; job = job }) (script_line s ∷ map step_text s.steps)
    (record { place = AtSteps s; job = job })
script_begins s job is nodes threads new room =
    let node = is.node in
    let thread = is.thread in
    record {
      item = section.Script s.node s.thread;
      to = record { place = AtSteps (with_steps [] s); job = job };
      text = refl;
      is = (
        (
          (omega arith, omega (arith, node, nodes), omega (arith, node, nodes)),
          ((omega arith, omega (arith, thread, threads), omega (arith, thread, threads)), tt),
        ),
        and_from _ _ (lt-ltb s.node job.settings.nodes node) (lt-ltb s.thread job.settings.threads thread),
      );
      goes = rw new refl;
      behind = steps_reach s [] s.steps job is.steps is.count room;
    }

abbrev pub with_scripts : Job → List NodeScript → Job
with_scripts job scripts = record job { scripts = scripts }

-- scripts of which the first ones stand
abbrev pub MayGoOn : Job → (prefix rest : List NodeScript) → Type 0
MayGoOn job prefix rest =
    AllByRecursion (IsNodeScript (scope_of job)) rest × AreThreads (prefix ++ rest)
    × (scripts_pieces (prefix ++ rest) ≤ most_pieces)

abbrev pub behind_scripts_of : Job → List NodeScript → State
behind_scripts_of job prefix = record { place = AtScripts; job = with_scripts job prefix }

-- a script behind others
pub script_opens : (job : Job) → job.settings.nodes ≤ 256 → job.settings.threads ≤ 16 → (prefix : List NodeScript)
    (s : NodeScript) (rest : List NodeScript) → MayGoOn job prefix (s ∷ rest)
    → Reaches (behind_scripts_of job prefix) (script_line s ∷ map step_text s.steps)
    (record { place = AtSteps s; job = with_scripts job prefix })
script_opens job nodes threads prefix s rest may =
    let pieces = scripts_join prefix (s ∷ rest) in
    let room : scripts_pieces prefix + steps_pieces s.steps ≤ most_pieces = omega (arith, pieces, may.2) in
    script_begins s (with_scripts job prefix) may.0.0 nodes threads (threads_new prefix rest s may.1) room

next_script : (job : Job) → job.settings.nodes ≤ 256 → job.settings.threads ≤ 16 → (prefix : List NodeScript)
    (s : NodeScript) (rest : List NodeScript) → MayGoOn job prefix (s ∷ rest)
    → Reaches (behind_scripts_of job prefix) (script_lines s) (behind_scripts_of job (prefix ++ s ∷ []))
    × MayGoOn job (prefix ++ s ∷ []) rest
next_script job nodes threads prefix s rest may =
    let same = sym (append_assoc prefix (s ∷ []) rest) in
    let begun : State = record { place = AtSteps s; job = with_scripts job prefix } in
    let one = reach_join (behind_scripts_of job prefix) begun (behind_scripts_of job (prefix ++ s ∷ []))
    (script_line s ∷ map step_text s.steps) (end_line ∷ []) (script_opens job nodes threads prefix s rest may)
    (steps_end s (with_scripts job prefix)) in (
      one,
      (
        may.0.1,
        subst AreThreads same may.1,
        subst (λ (ss : List NodeScript). scripts_pieces ss ≤ most_pieces) same may.2,
      ),
    )

scripts_reach : (job : Job) (prefix ss rest : List NodeScript) → job.settings.nodes ≤ 256 → job.settings.threads ≤ 16
    → MayGoOn job prefix (ss ++ rest)
    → Reaches (behind_scripts_of job prefix) (flat_map script_lines ss) (behind_scripts_of job (prefix ++ ss))
    × MayGoOn job (prefix ++ ss) rest
scripts_reach job prefix ss rest nodes threads may =
    parts_reach (behind_scripts_of job) script_lines (MayGoOn job) (next_script job nodes threads) prefix ss rest may

-- what may come behind scripts may come behind handlers
behind_handlers : (job : Job) (line : Line) (lines : List Line) (end : State) → Reaches
    (record { place = AtScripts; job = job }) (line ∷ lines) end → Reaches (record { place = AtHandlers; job = job })
    (line ∷ lines) end
behind_handlers job line lines end h = record {
  item = Other h.item;
  to = h.to;
  text = h.text;
  is = h.is;
  goes = h.goes;
  behind = h.behind;
}

-- ---- the schedule

rounds_join : (prefix rest : List TimedEvent) → total_rounds (prefix ++ rest) ≡ total_rounds prefix + total_rounds rest
rounds_join [] rest = omega arith
rounds_join (t ∷ prefix) rest = let e = rounds_join prefix rest in omega arith

abbrev pub with_schedule : Job → List TimedEvent → Job
with_schedule job lines = record job { schedule = Some lines }

-- there is room
not_full : (nodes : ℕ) (so_far : Amounts) (e : ScheduledEvent) → so_far.lines < 65536
    → so_far.rounds + rounds_of e ≤ 4096 → (so_far.rounds + rounds_of e) * nodes ≤ 262144
    → so_far.pieces + event_pieces e ≤ 65536 → is_full nodes so_far e ≡ false
not_full nodes so_far e a b c d = rw (
  lt-leb 65536 so_far.lines a,
  le-ltb 4096 (so_far.rounds + rounds_of e) b,
  le-ltb 262144 ((so_far.rounds + rounds_of e) * nodes) c,
  le-ltb 65536 (so_far.pieces + event_pieces e) d,
) refl

fewer : (a b n limit : ℕ) → a ≤ b → b * n ≤ limit → a * n ≤ limit
fewer a b n limit h k = let m : a * n ≤ b * n = mul-le-mul_right n h in omega (arith, m, k)

schedule_reach : (job : Job) (prefix rest : List TimedEvent) → AllByRecursion
    (IsTimed (scope_of job)) rest → length (prefix ++ rest) ≤ 65536 → total_rounds (prefix
    ++ rest) ≤ 4096 → total_rounds (prefix ++ rest) * job.settings.nodes ≤ 262144
    → scripts_pieces job.scripts + schedule_pieces (prefix ++ rest) ≤ most_pieces
    → Reaches (record { place = AtSchedule; job = with_schedule job prefix }) (timed_lines job.settings rest)
    (record { place = AtSchedule; job = with_schedule job (prefix ++ rest) })
schedule_reach job prefix [] all a b c d = ap (λ (lines : List TimedEvent). record {
  place = AtSchedule;
  job = with_schedule job lines;
}) (sym (append-nil prefix))
schedule_reach job prefix (t ∷ rest) all a b c d =
    let many : length (prefix ++ t ∷ rest) ≡ length prefix + suc (length rest) = simp length-append in
    let sum = rounds_join prefix (t ∷ rest) in
    let less : total_rounds prefix + rounds_of t.event ≤ total_rounds (prefix ++ t ∷ rest) = omega (arith, sum) in
    let pieces = schedule_join prefix (t ∷ rest) in
    let before = scripts_pieces job.scripts in
    let same = sym (append_assoc prefix (t ∷ []) rest) in
    record {
      item = Some t;
      to = record { place = AtSchedule; job = with_schedule job (prefix ++ t ∷ []) };
      text = refl;
      is = all.0;
      goes = rw (not_full job.settings.nodes (amounts_of before prefix) t.event (omega (arith, many))
          (omega (arith, less)) (fewer (total_rounds prefix + rounds_of t.event) (total_rounds
          (prefix ++ t ∷ rest)) job.settings.nodes 262144 less c) (omega (arith, pieces, d))) refl;
      behind = subst (λ (lines : List TimedEvent). Reaches (record {
        place = AtSchedule;
        job = with_schedule job
            (prefix ++ t ∷ []);
      }) (timed_lines job.settings rest) (record { place = AtSchedule; job = with_schedule job lines }))
          (append_assoc prefix (t ∷ []) rest)
          (schedule_reach job (prefix ++ t ∷ []) rest all.1
          (subst (λ (lines : List TimedEvent). length lines ≤ 65536) same a)
          (subst (λ (lines : List TimedEvent). total_rounds lines ≤ 4096) same b)
          (subst (λ (lines : List TimedEvent). total_rounds lines * job.settings.nodes ≤ 262144) same c)
          (subst (λ (lines : List TimedEvent). before + schedule_pieces lines ≤ most_pieces) same d));
    }

-- the line that ends a schedule
schedule_ends : (job : Job) → Reaches (record { place = AtSchedule; job = job }) (end_line ∷ [])
    (record { place = AtDone; job = job })
schedule_ends job = record {
  item = None;
  to = record { place = AtDone; job = job };
  text = refl;
  is = tt;
  goes = refl;
  behind = refl;
}

-- ---- the whole text

done_reach : (job : Job) → Reaches (record { place = AtDone; job = job }) (done_line ∷ [])
    (record { place = Over; job = job })
done_reach job = record {
  item = tt;
  to = record { place = Over; job = job };
  text = refl;
  is = tt;
  goes = refl;
  behind = refl;
}

-- a schedule up to its end
pub schedule_begins : (job : Job) (lines : List TimedEvent) → IsSchedule (scope_of job) lines
    → scripts_pieces job.scripts + schedule_pieces lines ≤ most_pieces
    → Reaches (record { place = AtScripts; job = job }) (codes "schedule" ∷ timed_lines job.settings lines)
    (record { place = AtSchedule; job = with_schedule job lines })
schedule_begins job lines is room = record {
  item = section.Schedule;
  to = record { place = AtSchedule; job = with_schedule job [] };
  text = refl;
  is = (tt, refl);
  goes = refl;
  behind = schedule_reach job [] lines is.events_are is.count is.rounds is.rounds_of_nodes room;
}

-- a whole schedule
pub schedule_whole : (job : Job) (lines : List TimedEvent) → IsSchedule (scope_of job) lines
    → scripts_pieces job.scripts + schedule_pieces lines ≤ most_pieces
    → Reaches (record { place = AtScripts; job = job }) (schedule_lines job.settings (Some lines))
    (record { place = AtDone; job = with_schedule job lines })
schedule_whole job lines is room =
    reach_join (record { place = AtScripts; job = job }) (record { place = AtSchedule; job = with_schedule job lines })
    (record { place = AtDone; job = with_schedule job lines }) (codes "schedule" ∷ timed_lines job.settings lines)
    (end_line ∷ []) (schedule_begins job lines is room) (schedule_ends (with_schedule job lines))

tail_reach : (job : Job) (schedule : Option (List TimedEvent)) → job.schedule ≡ None
    → IsScheduleOrNone (scope_of job) schedule
    → scripts_pieces job.scripts + schedule_pieces (lines_of schedule) ≤ most_pieces
    → Reaches (record { place = AtScripts; job = job }) (schedule_lines job.settings schedule ++ done_line ∷ [])
    (record { place = Over; job = record job { schedule = schedule } })
tail_reach job None e is room = record {
  item = section.Done;
  to = record { place = Over; job = job };
  text = refl;
  is = (tt, refl);
  goes = refl;
  behind = ap (λ (s : Option (List TimedEvent)). record { place = Over; job = record job { schedule = s } }) e;
}
tail_reach job (Some lines) e is room =
    reach_join (record { place = AtScripts; job = job }) (record { place = AtDone; job = with_schedule job lines })
    (record { place = Over; job = with_schedule job lines }) (schedule_lines job.settings (Some lines))
    (done_line ∷ []) (schedule_whole job lines is room) (done_reach (with_schedule job lines))

-- some lines
some_lines : (a b : List Line) (last : Line) → a ++ (b ++ last ∷ []) ≡ [] → ⊥
some_lines [] [] last h = cc
some_lines [] (x ∷ b) last h = cc
some_lines (x ∷ a) b last h = cc

-- nor where some come last
pub some_behind : (a lines : List Line) → (lines ≡ [] → ⊥) → a ++ lines ≡ [] → ⊥
some_behind [] lines some h = some h
some_behind (x ∷ a) lines some h = absurd (cc)

handlers_then : (job : Job) (lines : List Line) (end : State) → (lines ≡ [] → ⊥) → Reaches
    (record { place = AtScripts; job = job }) lines end → Reaches (record { place = AtHandlers; job = job }) lines end
handlers_then job [] end some h = absurd (some refl)
handlers_then job (line ∷ lines) end some h = behind_handlers job line lines end h

fresh_all : (hs : List HandlerText) → AreNew [] hs
fresh_all hs k h e n = refl

-- what was read before the handlers of a job, and before its scripts
abbrev pub before_handlers : Job → Job
before_handlers job = with_area (with_flag (of_head job job.settings.pairs) job.atomics) job.collect

abbrev pub before_scripts : Job → Job
before_scripts job = with_handlers (before_handlers job) job.handlers

-- lines that come behind the pairs of a job
pairs_lead : (job : Job) → IsJob job → (lines : List Line) (end : State)
    → Reaches (record { place = AtPairs; job = of_head job job.settings.pairs }) lines end
    → Reaches start (lines_with_pairs job ++ lines) end
pairs_lead job is lines end on =
    let begun = of_head job job.settings.pairs in
    let head = reach_join start (record { place = AtPairs; job = of_head job [] })
    (record { place = AtPairs; job = begun }) (head_lines job) (map pair_line job.settings.pairs)
    (head_reach job is) (pairs_reach job is [] job.settings.pairs refl) in
    reach_join start (record { place = AtPairs; job = begun }) end (lines_with_pairs job) lines head on

-- lines that come behind the line of atomics of a job or in its place, where these are some, or that line is there
pub atomics_lead : (job : Job) → IsJob job → (lines : List Line) (end : State) → (job.atomics ≡ false → lines ≡ [] → ⊥)
    → Reaches (record { place = AtCollect; job = with_flag (of_head job job.settings.pairs) job.atomics }) lines end
    → Reaches start (lines_with_atomics job ++ lines) end
atomics_lead job is lines end some on =
    let begun = of_head job job.settings.pairs in
    subst (λ (ls : List Line). Reaches start ls end)
    (sym (append_assoc (lines_with_pairs job) (atomics_lines job.atomics) lines))
    (pairs_lead job is (atomics_lines job.atomics ++ lines) end
    (atomics_then begun job.atomics lines end is.atomics refl some on))

-- the same of the line of collectives
collect_lead : (job : Job) → IsJob job → (lines : List Line) (end : State) → (job.collect ≡ None → lines ≡ [] → ⊥)
    → Reaches (record { place = AtHandlers; job = before_handlers job }) lines end
    → Reaches start (lines_with_collect job ++ lines) end
collect_lead job is lines end some on =
    let begun = with_flag (of_head job job.settings.pairs) job.atomics in
    subst (λ (ls : List Line). Reaches start ls end)
    (sym (append_assoc (lines_with_atomics job) (collect_lines job.collect) lines))
    (atomics_lead job is (collect_lines job.collect ++ lines) end (λ none. some_collect job.collect lines some)
    (collect_then begun job.collect lines end is.segment is.collect refl some on))

-- lines that come behind the first handlers of a job, where these and those are some, or the line of collectives is
-- there
pub handlers_lead : (job : Job) → IsJob job → (hs rest : List HandlerText) → job.handlers ≡ hs ++ rest
    → (lines : List Line) (end : State)
    → (job.collect ≡ None → flat_map handler_lines hs ++ lines ≡ [] → ⊥)
    → (MayFollow (scope_of job) hs rest → Reaches (behind_prefix (before_handlers job) hs) lines end)
    → Reaches start (lines_with_collect job ++ (flat_map handler_lines hs ++ lines)) end
handlers_lead job is hs rest all lines end some on =
    let may : MayFollow (scope_of job) [] job.handlers = (
      is.handlers,
      apart_fresh [] job.handlers is.apart (fresh_all job.handlers),
      is.few_handlers,
      is.unreserved,
    ) in
    let part = flat_map handler_lines hs in
    let first = handlers_reach (before_handlers job) [] hs rest
    (subst (λ (all : List HandlerText). MayFollow (scope_of job) [] all) all may) in
    let later = reach_join (behind_prefix (before_handlers job) []) (behind_prefix (before_handlers job) hs) end part lines
    first.0 (on first.1) in
    collect_lead job is (part ++ lines) end some later

-- lines that come behind the first scripts of a job, where these and those are some
pub scripts_lead : (job : Job) → IsJob job → (ss rest : List NodeScript) → job.scripts ≡ ss ++ rest
    → (lines : List Line) (end : State) → (flat_map script_lines ss ++ lines ≡ [] → ⊥)
    → (MayGoOn (before_scripts job) ss rest → Reaches (behind_scripts_of (before_scripts job) ss) lines end)
    → Reaches start (lines_with_handlers job ++ (flat_map script_lines ss ++ lines)) end
scripts_lead job is ss rest all lines end some on =
    let pieces = is.pieces in
    let few : scripts_pieces job.scripts ≤ most_pieces = omega (arith, pieces) in
    let part = flat_map script_lines ss in
    let hs = flat_map handler_lines job.handlers in
    let first = scripts_reach (before_scripts job) [] ss rest is.settings.nodes is.settings.threads
    (subst (λ (all : List NodeScript). MayGoOn (before_scripts job) [] all) all (is.scripts, is.threads, few)) in
    let later = handlers_then (before_scripts job) (part ++ lines) end some
    (reach_join (behind_scripts_of (before_scripts job) []) (behind_scripts_of (before_scripts job) ss) end part lines
    first.0 (on first.1)) in
    subst (λ (ls : List Line). Reaches start ls end)
    (sym (append_assoc (lines_with_collect job) hs (part ++ lines)))
    (handlers_lead job is job.handlers [] (sym (append-nil job.handlers)) (part ++ lines) end
    (λ none. some_behind hs (part ++ lines) some) (λ may. later))

pub whole_reach : (job : Job) → IsJob job → Reaches start (job_lines job) (record { place = Over; job = job })
whole_reach job is =
    let last = schedule_lines job.settings job.schedule ++ done_line ∷ [] in
    let scripts = flat_map script_lines job.scripts in
    subst (λ (ls : List Line). Reaches start ls (record { place = Over; job = job }))
    (sym (append_assoc (lines_with_handlers job) scripts last))
    (scripts_lead job is job.scripts [] (sym (append-nil job.scripts)) last (record { place = Over; job = job })
    (some_lines scripts (schedule_lines job.settings job.schedule) done_line) (λ may.
    tail_reach (with_scripts (before_scripts job) job.scripts) job.schedule refl is.schedule is.pieces))

-- bytes that begin with the text of a job are read as that job, and those behind it are left
pub job_read : (job : Job) → IsJob job → (rest : List ℕ) → read start 1 (job_text job ++ rest)
    ≡ Ok (leading_job job (1 + length (job_lines job)) rest)
job_read job is rest =
    reach_read (job_lines job) start (record { place = Over; job = job }) 1 rest (whole_reach job is)
    ∙ over_read job (1 + length (job_lines job)) rest
