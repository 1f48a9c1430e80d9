-- What was read, and what a refusal means.
use Rattle.std.proofs.Common.{◌≡◌, ℕ, suc, ◌+◌, ◌-◌, List, [], ◌∷◌, ◌++◌, length, map, ltb, eqb, cond, Result, Ok, Err}
use Rattle.std.proofs.Common.{Bool, false, true, refl, sym, ap, subst, ◌∙◌, arith, append_assoc, append-nil}
use Rattle.std.proofs.Common.{eqb-true, length-append}
use Rattle.std.specs.List.{AllByRecursion, flat_map}
use Rattle.std.proofs.lemmas.List.Concat.{flat_map-append}
use Rattle.std.proofs.lemmas.Bool.{ltb-false}
use Rattle.text_job.specs.Places.{Setting, Nodes, Credits, Threads, Segment, Last, Resend, Patience}
use Rattle.text_job.specs.Places as places
use Rattle.text_job.specs.Places.{Place, AtSetting, AtSieve, AtPairs, AtHandlers, AtBody, AtScripts, AtSteps}
use Rattle.text_job.specs.Places.{AtAtomics, AtCollect, AtSchedule, AtDone, Over}
use Rattle.text_job.specs.Places.{Version}
use Rattle.text_job.specs.JobReading.{State, BadLine, LeadingJob, start, of_prefix, alone, within_size, read}
use Rattle.text_job.specs.JobReading.{job_of}
use Rattle.text_job.specs.JobReading.{prefix_of}
use Rattle.text_job.specs.JobText.{Line, spell, setting_line, sieve_line, pair_line, handler_lines}
use Rattle.text_job.specs.JobText.{schedule_lines}
use Rattle.text_job.specs.JobText.{script_lines, lines_with_pairs, lines_with_handlers, lines_with_scripts}
use Rattle.text_job.specs.JobText.{job_lines}
use Rattle.text_job.specs.JobText.{atomics_lines, collect_lines, lines_with_atomics, lines_with_collect}
use Rattle.text_job.specs.JobText.{job_text, IsJob, JobText, BeginsWith}
use Rattle.text_job.specs.Refusals.{first_lines, after_lines, IsPrefix}
use Rattle.text_job.specs.Reading.{GivesAt}
use Rattle.std.specs.Prelude.{IfOk}
use Rattle.text_job.specs.declared.fault.JobFault.{JobFault}
use Rattle.text_job.specs.declared.job.Job.{Job}
use Rattle.base_text.proofs.Prefixes.{cond_yes, cond_no}
use Rattle.text_calls.proofs.FormLaws.{IsFlat}
use Rattle.text_job.specs.Refusals.{completed_job, so_far, IsUnread}
use Rattle.text_job.proofs.StateLaws.{from_on, done_line, end_line, handler_more, script_more}
use Rattle.text_job.proofs.StateLaws.{end_schedule}
use Rattle.text_job.proofs.JobLaws.{sound_job}
use Rattle.text_job.proofs.States.{unread, start_is, sound_completed}
use Rattle.text_job.proofs.LineRuns.{IsOpen}
use Rattle.text_job.proofs.Walks.{Walks, Walked, walk_keeps, Outcome, EndsAs, Ends, Fails, IsOver}
use Rattle.text_job.proofs.Walks.{read_outcome}
use Rattle.text_job.specs.declared.reading.TheConstants.{MAX_JOB_BYTES}

-- ---- first lines

pub first_flat : (line rest : List ℕ) (count : ℕ) → IsFlat line → first_lines (suc count) (line ++ 10 ∷ rest) ≡ line
    ++ 10 ∷ first_lines count rest
first_flat [] rest count h = refl
first_flat (b ∷ line) rest count h = ap (λ (x : List ℕ). b ∷ x) (cond_no _ _ _ h.0 ∙ first_flat line rest count h.1)

after_flat : (line rest : List ℕ) (count : ℕ) → IsFlat line → after_lines (suc count) (line ++ 10 ∷ rest)
    ≡ after_lines count rest
after_flat [] rest count h = refl
after_flat (b ∷ line) rest count h = cond_no _ _ _ h.0 ∙ after_flat line rest count h.1

pub first_none : (rest : List ℕ) → first_lines 0 rest ≡ []
first_none [] = refl
first_none (b ∷ rest) = refl

after_none : (rest : List ℕ) → after_lines 0 rest ≡ rest
after_none [] = refl
after_none (b ∷ rest) = refl

spelled_one : (line : Line) (lines : List Line) (rest : List ℕ) → spell (line ∷ lines) ++ rest ≡ line ++ 10 ∷
    (spell lines ++ rest)
spelled_one line lines rest = append_assoc (line ++ 10 ∷ []) (spell lines) rest ∙ append_assoc line (10 ∷ [])
    (spell lines ++ rest)

pub first_spelled : (lines : List Line) (rest : List ℕ) (more : ℕ) → AllByRecursion IsFlat lines → first_lines
    (length lines + more) (spell lines ++ rest) ≡ spell lines ++ first_lines more rest
first_spelled [] rest more h = ap (λ (n : ℕ). first_lines n rest) (omega arith)
first_spelled (line ∷ lines) rest more h =
    let n : suc (length lines) + more ≡ suc (length lines + more) = omega arith in
    ap (λ (k : ℕ). first_lines k (spell (line ∷ lines) ++ rest)) n ∙ ap (first_lines (suc (length lines + more)))
    (spelled_one line lines rest)
    ∙ first_flat line (spell lines ++ rest) (length lines + more) h.0
    ∙ ap (λ (x : List ℕ). line ++ 10 ∷ x) (first_spelled lines rest more h.1) ∙ sym
    (spelled_one line lines (first_lines more rest))

pub after_spelled : (lines : List Line) (rest : List ℕ) → AllByRecursion IsFlat lines → after_lines (length lines)
    (spell lines ++ rest) ≡ rest
after_spelled [] rest h = after_none rest
after_spelled (line ∷ lines) rest h =
    ap (after_lines (suc (length lines))) (spelled_one line lines rest) ∙ after_flat line (spell lines ++ rest)
    (length lines) h.0 ∙ after_spelled lines rest h.1

-- ---- what is left

-- the lines behind the scripts, behind the handlers, behind the pairs, and behind the sieve
abbrev pub last_lines : Job → List Line
last_lines job = schedule_lines job.settings job.schedule ++ done_line ∷ []

abbrev pub behind_handlers : Job → List Line
behind_handlers job = flat_map script_lines job.scripts ++ last_lines job

abbrev pub behind_pairs : Job → List Line
behind_pairs job = flat_map handler_lines job.handlers ++ behind_handlers job

abbrev pub later_lines : Job → List Line
later_lines job =
    ((((map pair_line job.settings.pairs ++ atomics_lines job.atomics) ++ collect_lines job.collect)
    ++ flat_map handler_lines job.handlers) ++ flat_map script_lines job.scripts) ++ last_lines job

-- before these there is the line of collectives, and before that the line of atomics
abbrev pub with_collect_before : Job → List Line
with_collect_before job = collect_lines job.collect ++ behind_pairs job

abbrev pub with_atomics_before : Job → List Line
with_atomics_before job = atomics_lines job.atomics ++ with_collect_before job

-- the lines that were read and others are all
pub record IsPart (place : Place) (job : Job) : Type 0 where
  pub others : List Line
  pub all : job_lines (completed_job place job) ≡ so_far place job ++ others
  pub some : IsOpen place → spell others ≡ [] → ⊥

some_line : (line : Line) (lines : List Line) → spell (line ∷ lines) ≡ [] → ⊥
some_line [] lines h = cc
some_line (b ∷ line) lines h = cc

some_last : (prefix lines : List Line) → spell (prefix ++ (lines ++ done_line ∷ [])) ≡ [] → ⊥
some_last [] [] h = some_line done_line [] h
some_last [] (line ∷ lines) h = some_line line (lines ++ done_line ∷ []) h
some_last (line ∷ prefix) lines h = some_line line (prefix ++ (lines ++ done_line ∷ [])) h

some_prefix : (prefix lines : List Line) → (spell lines ≡ [] → ⊥) → spell (prefix ++ lines) ≡ [] → ⊥
some_prefix [] lines some h = some h
some_prefix (line ∷ prefix) lines some h = some_line line (prefix ++ lines) h

setting_part : (setting : Setting) (job : Job) → job_lines job ≡ so_far (AtSetting setting) job ++
    (map (setting_line job) (from_on setting) ++ (sieve_line job.sieve ∷ later_lines job))
setting_part Version job = refl
setting_part places.Job job = refl
setting_part Nodes job = refl
setting_part Credits job = refl
setting_part Threads job = refl
setting_part Segment job = refl
setting_part Last job = refl
setting_part Resend job = refl
setting_part Patience job = refl

some_between : (prefix : List Line) (line : Line) (lines : List Line) → spell (prefix ++ line ∷ lines) ≡ [] → ⊥
some_between [] line lines h = some_line line lines h
some_between (first ∷ prefix) line lines h = some_line first (prefix ++ line ∷ lines) h

some_collect : (job : Job) → spell (with_collect_before job) ≡ [] → ⊥
some_collect job =
    some_prefix (collect_lines job.collect) (behind_pairs job)
    (some_prefix (flat_map handler_lines job.handlers) (behind_handlers job)
    (some_last (flat_map script_lines job.scripts) (schedule_lines job.settings job.schedule)))

pairs_part : (place : Place) (job : Job) → so_far place job ≡ lines_with_pairs job → completed_job place job ≡ job
    → IsPart place job
pairs_part place job same done = record {
  others = with_atomics_before job;
  all = ap job_lines done
      ∙ append_assoc (lines_with_handlers job) (flat_map script_lines job.scripts) (last_lines job)
      ∙ append_assoc (lines_with_collect job) (flat_map handler_lines job.handlers) (behind_handlers job)
      ∙ append_assoc (lines_with_atomics job) (collect_lines job.collect) (behind_pairs job)
      ∙ append_assoc (lines_with_pairs job) (atomics_lines job.atomics) (with_collect_before job)
      ∙ ap (λ (ls : List Line). ls ++ with_atomics_before job) (sym same);
  some = λ o. some_prefix (atomics_lines job.atomics) (with_collect_before job) (some_collect job);
}

pub part_of : (place : Place) (job : Job) → IsUnread place job → IsPart place job
part_of (AtSetting setting) job u = record {
  others = map (setting_line job) (from_on setting) ++
      (sieve_line job.sieve ∷ later_lines job);
  all = setting_part setting job;
  some = λ o. some_between
      (map (setting_line job) (from_on setting)) (sieve_line job.sieve) (later_lines job);
}
part_of AtSieve job u = record {
  others = sieve_line job.sieve ∷ later_lines job;
  all = refl;
  some = λ o. some_line
      (sieve_line job.sieve) (later_lines job);
}
part_of AtPairs job u = pairs_part AtPairs job refl refl
part_of AtAtomics job u = pairs_part AtAtomics job refl refl
part_of AtCollect job u = record {
  others = with_collect_before job;
  all = append_assoc (lines_with_handlers job) (flat_map script_lines job.scripts) (last_lines job)
      ∙ append_assoc (lines_with_collect job) (flat_map handler_lines job.handlers) (behind_handlers job)
      ∙ append_assoc (lines_with_atomics job) (collect_lines job.collect) (behind_pairs job);
  some = λ o. some_collect job;
}
part_of AtHandlers job u = record {
  others = behind_handlers job;
  all = append_assoc (lines_with_handlers job) (flat_map script_lines job.scripts) (last_lines job);
  some = λ o. some_last (flat_map script_lines job.scripts) (schedule_lines job.settings job.schedule);
}
part_of (AtBody handler) job u = record {
  others = end_line ∷ behind_handlers job;
  all = append_assoc (lines_with_handlers (completed_job (AtBody handler) job)) (flat_map script_lines job.scripts)
      (last_lines job)
      ∙ ap (λ (ls : List Line). ls ++ behind_handlers job) (handler_more job.handlers handler (lines_with_collect job))
      ∙ append_assoc (so_far (AtBody handler) job) (end_line ∷ []) (behind_handlers job);
  some = λ o. some_line end_line (behind_handlers job);
}
part_of AtScripts job u = record {
  others = last_lines job;
  all = refl;
  some = λ o. some_last [] (schedule_lines job.settings job.schedule);
}
part_of (AtSteps script) job u = record {
  others = end_line ∷ last_lines job;
  all = ap (λ (ls : List Line). ls ++ last_lines job) (script_more job.scripts script (lines_with_handlers job))
      ∙ append_assoc (so_far (AtSteps script) job) (end_line ∷ []) (last_lines job);
  some = λ o. some_line end_line (last_lines job);
}
part_of AtSchedule job u = record {
  others = end_line ∷ done_line ∷ [];
  all = sym (append_assoc (lines_with_scripts job) (schedule_lines job.settings job.schedule) (done_line ∷ []))
      ∙ ap (λ (ls : List Line). ls ++ done_line ∷ []) (end_schedule job.settings job.schedule
      (lines_with_scripts job) u)
      ∙ append_assoc (so_far AtSchedule job) (end_line ∷ []) (done_line ∷ []);
  some = λ o. some_line end_line (done_line ∷ []);
}
part_of AtDone job u = record {
  others = done_line ∷ [];
  all = sym (append_assoc (lines_with_scripts job) (schedule_lines job.settings job.schedule) (done_line ∷ []));
  some = λ o. some_line done_line [];
}
part_of Over job u = record { others = []; all = sym (append-nil (job_lines job)); some = λ o. absurd o }

-- ---- prefixes

-- the walk from the first line on
pub record IsWalk (count : ℕ) (bytes : List ℕ) (end : State) (rest : List ℕ) : Type 0 where
  pub walked : Walked count start bytes end rest
  pub part : IsPart end.place end.job

pub walk_of : (count : ℕ) (bytes : List ℕ) (end : State) (rest : List ℕ) → Walks count start bytes end rest
    → IsWalk count bytes end rest
walk_of count bytes end rest w =
    let walked = walk_keeps count start bytes end rest start_is w in
    record { walked = walked; part = part_of end.place end.job (unread end.place end.job walked.is) }

-- the text of the job so far
pub text_of : (count : ℕ) (bytes : List ℕ) (end : State) (rest : List ℕ) (w : IsWalk count bytes end rest) → job_text
    (completed_job end.place end.job) ≡ spell w.walked.between ++ spell w.part.others
text_of count bytes end rest w =
    ap spell w.part.all ∙ flat_map-append (λ (line : Line). line ++ 10 ∷ []) (so_far end.place end.job) w.part.others
    ∙ ap (λ (ls : List Line). spell ls ++ spell w.part.others) w.walked.lines

-- the lines that were read
pub walk_lines : (count : ℕ) (bytes : List ℕ) (end : State) (rest : List ℕ) (w : IsWalk count bytes end rest)
    → first_lines count bytes ≡ spell w.walked.between
walk_lines count bytes end rest w =
    let k = w.walked in
    ap (first_lines count) k.text ∙ ap (λ (n : ℕ). first_lines n (spell k.between ++ rest)) (sym k.many ∙ omega arith)
    ∙ first_spelled k.between rest 0 k.flat ∙ ap (λ (r : List ℕ). spell k.between ++ r) (first_none rest)
    ∙ append-nil (spell k.between)

-- what was read is the prefix of a job's text
abbrev pub walk_prefix : (count : ℕ) (bytes : List ℕ) (end : State) (rest : List ℕ) → IsWalk count bytes end rest →
    (prefix : List ℕ) → prefix ≡ first_lines count bytes → IsPrefix prefix
walk_prefix count bytes end rest w prefix e =
    let k = w.walked in
    record {
      job = completed_job end.place end.job;
      more = spell w.part.others;
      is = sound_job (completed_job end.place end.job) (sound_completed end.place end.job k.is);
      text = text_of count bytes end rest w
          ∙ ap (λ (b : List ℕ). b ++ spell w.part.others) (sym (e ∙ walk_lines count bytes end rest w));
    }

-- ---- a job that was read

-- the text of a job that is over, and the bytes behind it
over_text : (count : ℕ) (bytes : List ℕ) (place : Place) (job : Job) (rest : List ℕ) → Walked count start bytes
    (record { place = place; job = job }) rest → place ≡ Over → IsJob job × (bytes ≡ job_text job ++ rest)
over_text count bytes place job rest walked over =
    let w : Walked count start bytes (record { place = Over; job = job }) rest = subst
    (λ (p : Place). Walked count start bytes (record { place = p; job = job }) rest) over walked in
    (sound_job job w.is, w.text ∙ ap (λ (ls : List Line). spell ls ++ rest) (sym w.lines))

pub prefix_same : {a b : LeadingJob} → ◌≡◌ {A = Result LeadingJob BadLine} (Ok a) (Ok b) → a ≡ b
prefix_same h = cc

read_by : (bytes : List ℕ) (prefix : LeadingJob) (o : Outcome start 1 bytes (read start 1 bytes)) → EndsAs o.end o.rest
    (1 + o.count) (read start 1 bytes) → read start 1 bytes ≡ Ok prefix
    → IsJob prefix.job × (bytes ≡ job_text prefix.job ++ prefix.rest)
read_by bytes prefix o (Ends open_ e r) h = absurd (cc)
read_by bytes prefix o (Fails why open_ s f r) h = absurd (cc)
read_by bytes prefix o (IsOver over r) h =
    subst (λ (f : LeadingJob). IsJob f.job × (bytes ≡ job_text f.job ++ f.rest)) (prefix_same (sym r ∙ h))
    (over_text o.count bytes o.end.place o.end.job o.rest (walk_keeps o.count start bytes o.end o.rest start_is
    o.walks) over)

-- the bytes begin with the text of what was read
pub read_text : (bytes : List ℕ) (prefix : LeadingJob) → read start 1 bytes ≡ Ok prefix
    → IsJob prefix.job × (bytes ≡ job_text prefix.job ++ prefix.rest)
read_text bytes prefix h = let o = read_outcome start 1 bytes in read_by bytes prefix o o.ends h

-- so many bytes are behind it
pub rest_size : (bytes : List ℕ) (prefix : LeadingJob) → read start 1 bytes ≡ Ok prefix → length bytes
    ≡ length (job_text prefix.job) + length prefix.rest
rest_size bytes prefix h = ap length (read_text bytes prefix h).1 ∙ length-append (job_text prefix.job) prefix.rest

-- ---- a job alone

record IsAlone (read : Result LeadingJob BadLine) (job : Job) : Type 0 where
  pub prefix : LeadingJob
  pub is : read ≡ Ok prefix
  pub none : prefix.rest ≡ []
  pub same : prefix.job ≡ job

no_bytes : (bytes : List ℕ) → length bytes ≡ 0 → bytes ≡ []
no_bytes [] e = refl
no_bytes (b ∷ bytes) e = absurd (omega arith)

alone_by : (prefix : LeadingJob) (job : Job) (bad : BadLine) (t : Bool) → eqb (length prefix.rest) 0 ≡ t → ◌≡◌
    {A = Result Job BadLine} (cond t (Ok prefix.job) (Err bad)) (Ok job) → IsAlone (Ok prefix) job
alone_by prefix job bad true e h = record {
  prefix = prefix;
  is = refl;
  none = no_bytes prefix.rest (eqb-true (length prefix.rest) 0 e);
  same = cc;
}
alone_by prefix job bad false e h = absurd (cc)

alone_of : (read : Result LeadingJob BadLine) (job : Job) → of_prefix alone read ≡ Ok job → IsAlone read job
alone_of (Err bad) job h = absurd (cc)
alone_of (Ok prefix) job h = alone_by prefix job _ (eqb (length prefix.rest) 0) refl h

long_by : (bytes : List ℕ) (job : Job) (t : Bool) → ltb MAX_JOB_BYTES (length bytes) ≡ t → job_of bytes ≡ Ok job
    → JobText job bytes
unfolding job_of
long_by bytes job true e h = absurd (err_ok (sym (cond_yes _ _ _ e) ∙ h))
  where
    err_ok : {bad : BadLine} {j : Job} → ◌≡◌ {A = Result Job BadLine} (Err bad) (Ok j) → ⊥
    err_ok h = cc
long_by bytes job false e h =
    let a = alone_of (read start 1 bytes) job (sym (cond_no _ _ _ e) ∙ h) in
    let p = read_text bytes a.prefix a.is in
    let text : bytes ≡ job_text a.prefix.job = p.1 ∙ ap (λ (r : List ℕ). job_text a.prefix.job ++ r) a.none
    ∙ append-nil (job_text a.prefix.job) in
    subst (λ (j : Job). JobText j bytes) a.same
    (record { is_job = p.0; text = text; within = ltb-false MAX_JOB_BYTES (length bytes) e })

pub job_text_of : (bytes : List ℕ) (job : Job) → job_of bytes ≡ Ok job → JobText job bytes
job_text_of bytes job h = long_by bytes job (ltb MAX_JOB_BYTES (length bytes)) refl h

-- what a reader returned
pub gives_found : (r : Result Job JobFault) (bytes : List ℕ) → GivesAt (λ (j : Job). j) r (job_of bytes) → IfOk r
    (λ job. JobText job bytes)
gives_found (Ok job) bytes h = job_text_of bytes job h
gives_found (Err fault) bytes h = tt

-- ---- a job at the prefix

begins_by : (bytes : List ℕ) (prefix : LeadingJob) (x : Job × ℕ) (bad : BadLine) (t : Bool)
    → ltb MAX_JOB_BYTES (length bytes - length prefix.rest) ≡ t → read start 1 bytes ≡ Ok prefix → ◌≡◌
    {A = Result (Job × ℕ) BadLine} (cond t (Err bad) (Ok (prefix.job, length bytes - length prefix.rest))) (Ok x)
    → BeginsWith x.0 x.1 bytes
begins_by bytes prefix x bad true e h same = absurd (cc)
begins_by bytes prefix x bad false e h same =
    let p = read_text bytes prefix h in
    let size : length bytes - length prefix.rest ≡ length (job_text prefix.job) = omega
    (arith, rest_size bytes prefix h) in
    let found : BeginsWith prefix.job (length bytes - length prefix.rest) bytes = record {
      is_job = p.0;
      rest = prefix.rest;
      text = p.1;
      long = size;
      within = ltb-false MAX_JOB_BYTES (length bytes - length prefix.rest) e;
    } in
    subst (λ (y : Job × ℕ). BeginsWith y.0 y.1 bytes) (ok_is same) found
  where
    ok_is : {a b : Job × ℕ} → ◌≡◌ {A = Result (Job × ℕ) BadLine} (Ok a) (Ok b) → a ≡ b
    ok_is h = cc

begins_with : (bytes : List ℕ) (x : Job × ℕ) (r : Result LeadingJob BadLine) → read start 1 bytes ≡ r
    → of_prefix (within_size (length bytes)) r ≡ Ok x → BeginsWith x.0 x.1 bytes
begins_with bytes x (Err bad) e h = absurd (cc)
begins_with bytes x (Ok prefix) e h =
    begins_by bytes prefix x _ (ltb MAX_JOB_BYTES (length bytes - length prefix.rest)) refl e h

pub gives_prefix_found : (r : Result (Job × ℕ) JobFault) (bytes : List ℕ)
    → GivesAt (λ (x : Job × ℕ). x) r (prefix_of bytes) → IfOk r (λ x. BeginsWith x.0 x.1 bytes)
unfolding prefix_of
gives_prefix_found (Ok x) bytes h = begins_with bytes x (read start 1 bytes) refl h
gives_prefix_found (Err fault) bytes h = tt
