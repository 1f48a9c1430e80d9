-- The lines of the steps of a run of traces, line by line.
use Rattle.std.proofs.Common.{◌≡◌, ◌<◌, ◌≤◌, ◌⊎◌, inl, inr, ℕ, zero, suc, ◌+◌, ◌&&◌, Bool, true, false, cond, eqb, List, [], ◌∷◌, ◌++◌}
use Rattle.std.proofs.Common.{length, take, drop, Option, Some, None, refl, sym, ap, subst, ◌∙◌, arith, slice_get, eq-eqb, ne_eqb}
use Rattle.std.proofs.Common.{append_assoc}
use Rattle.std.specs.Prelude.{is_some, is_none}
use Rattle.std.specs.Option.{option_map}
use Rattle.std.proofs.lemmas.Bool.{cases_eq, cases_lt}
use Rattle.std.proofs.lemmas.List.{length-append}
use Rattle.std.proofs.lemmas.Option.{same_Some, slice_get-map}
use Rattle.text_trace.specs.declared.trace.Trace.{Trace}
use Rattle.base_turns.specs.declared.entry.Entry.{Entry}
use Rattle.node_rules.specs.EndpointLocal.{EndpointLocal}
use Rattle.node_rules.specs.EndpointRules.{OtherCall}
use Rattle.node_rules.specs.declared.answer.Answer.{Answer}
use Rattle.text_job.specs.declared.job.Job.{Job as JobState}
use Rattle.text_steps.specs.declared.steps.ScriptStep.{ScriptStep}
use Rattle.proc_machine.specs.Laws.{IsRunOf, order_by}
use Rattle.proc_machine.specs.NodeState.{script_job, scripts_at, steps_of_thread}
use Rattle.spec_node.specs.Record.{Node}
use Rattle.law_traces.specs.Actions.{Form, Progress, begins, progress_after}
use Rattle.law_traces.specs.Order.{NodeEntry, own_entries, after_all, replay}
use Rattle.law_traces.specs.WorldRun.{opening_machines}
use Rattle.law_traces.specs.declared.script_answer.ScriptAnswer.{ScriptAnswer}
use Rattle.law_traces.proofs.Prefixing.{after_own}
use Rattle.base_text.specs.LineTexts.{Line}
use Rattle.spec_network.specs.World.{EventAt}
use Rattle.cli_check.specs.StepLines.{StepAt, machine_after, answer_of_step, lines_of_answer, step_line, step_lines}
use Rattle.cli_check.specs.StepLines.{steps_from}
use Rattle.cli_check.specs.StepsTold.{IsLater, IsStepTold, RunOrder, before_of, steps_ended_in, first_turns}
use Rattle.cli_check.specs.StepsTold.{lines_before, tried_at}
use Rattle.cli_check.specs.Machines.{first_machine}
use Rattle.cli_check.specs.TracesRun.{entries_of}
use Rattle.cli_check.proofs.StepsTold.{EndsInRun, Machine, Stands, at_entry, given_then, items_end}
use Rattle.cli_check.proofs.StepsTold.{scripts_apart, scripts_here, own_then, tried_then}
use Rattle.proc_steps.specs.Forms.{step_form}

-- ---- where the entries of a node stand among all

-- the entry at a place of a node's own ones
record OwnAt (items : List NodeEntry) (rank place : ℕ) (entry : Entry) : Type 0 where
  pub at : ℕ
  pub there : slice_get items at ≡ Some (record { node = rank; entry = entry })
  pub before : own_entries rank (take at items) ≡ take place (own_entries rank items)

-- behind one that is the node's, or another's
abbrev own_by : (mine : Bool) → Entry → List Entry → List Entry
own_by mine entry entries = cond mine (entry ∷ entries) entries

item_is : (item : NodeEntry) (rank : ℕ) (entry : Entry) → item.node ≡ rank → item.entry ≡ entry
    → ◌≡◌ {A = NodeEntry} item (record { node = rank; entry = entry })
item_is item rank entry same is =
    ap (λ (n : ℕ). record { node = n; entry = item.entry }) same
    ∙ ap (λ (e : Entry). record { node = rank; entry = e }) is

abbrev OwnOf : List NodeEntry → (rank : ℕ) → (entry : Entry) → Type 0
OwnOf items rank entry = (place : ℕ) → slice_get (own_entries rank items) place ≡ Some entry → OwnAt items rank place entry

-- behind an item of the node
own_here : (item : NodeEntry) (items : List NodeEntry) (rank place : ℕ) (entry : Entry)
    → eqb item.node rank ≡ true → item.node ≡ rank → OwnOf items rank entry
    → slice_get (item.entry ∷ own_entries rank items) place ≡ Some entry → OwnAt (item ∷ items) rank place entry
own_here item items rank zero entry is same later found = record {
  at = 0;
  there = ap (λ (one : NodeEntry). Some one) (item_is item rank entry same (same_Some item.entry entry found));
  before = ap (λ (b : Bool). take 0 (own_by b item.entry (own_entries rank items))) (sym is);
}
own_here item items rank (suc place) entry is same later found =
    let it = later place found in
    record {
      at = suc it.at;
      there = it.there;
      before = ap (λ (b : Bool). own_by b item.entry (own_entries rank (take it.at items))) is
          ∙ ap (λ (es : List Entry). item.entry ∷ es) it.before
          ∙ ap (λ (b : Bool). take (suc place) (own_by b item.entry (own_entries rank items))) (sym is);
    }

-- behind one of another node
own_later : (item : NodeEntry) (items : List NodeEntry) (rank place : ℕ) (entry : Entry)
    → eqb item.node rank ≡ false → OwnAt items rank place entry → OwnAt (item ∷ items) rank place entry
own_later item items rank place entry is it = record {
  at = suc it.at;
  there = it.there;
  before = ap (λ (b : Bool). own_by b item.entry (own_entries rank (take it.at items))) is
      ∙ it.before
      ∙ ap (λ (b : Bool). take place (own_by b item.entry (own_entries rank items))) (sym is);
}

own_at : (items : List NodeEntry) (rank place : ℕ) (entry : Entry)
    → slice_get (own_entries rank items) place ≡ Some entry → OwnAt items rank place entry
own_at [] rank place entry there = absurd (cc)
own_at (item ∷ items) rank place entry there = elim (cases_eq item.node rank) [
  | inl same ↦ (let is = eq-eqb item.node rank same in
      own_here item items rank place entry is same (λ p found. own_at items rank p entry found)
      (ap (λ (b : Bool). slice_get (own_by b item.entry (own_entries rank items)) place) (sym is) ∙ there))
  | inr apart ↦ (let is = ne_eqb item.node rank apart in
      own_later item items rank place entry is (own_at items rank place entry
      (ap (λ (b : Bool). slice_get (own_by b item.entry (own_entries rank items)) place) (sym is) ∙ there)))
]

-- ---- what is left of a script

-- a turn takes the first step off where it ended one, and else nothing
after_try : (form : Form EndpointLocal) (one : ScriptStep) (rest : List ScriptStep) (began given : Option Answer)
    (ended : Option ScriptAnswer)
    → (progress_after form one rest began ended given).left ≡ cond (is_some ended) rest (one ∷ rest)
after_try form one rest began given (Some answer) = refl
after_try form one rest began given None = by_begin (begins form && is_none began)
  where
    by_begin : (b : Bool) → (cond {A = Progress ScriptStep} b (record { left = one ∷ rest; began = given })
        (record { left = one ∷ rest; began = began })).left ≡ one ∷ rest
    by_begin true = refl
    by_begin false = refl

left_by : (job : JobState) (rank : ℕ) (machine : Machine) (entry : Entry) (left : List ScriptStep)
    → (machine.own.threads entry.thread).left ≡ left
    → (tried_then job (at_entry rank entry) machine entry left).left.left
    ≡ cond (is_some (tried_then job (at_entry rank entry) machine entry left).ended) (drop 1 left) left
left_by job rank machine entry [] same = refl
left_by job rank machine entry (one ∷ rest) same =
    let at = at_entry rank entry in
    after_try (step_form one (tried_at job at machine entry.now) (before_of job rank machine entry)) one rest
    (machine.own.threads entry.thread).began (given_then job at machine entry (one ∷ rest)) _

left_then : (job : JobState) (at : StepAt) (machine : Machine) (entry : Entry)
    → (own_then job at.rank machine entry at.thread).left
    ≡ cond (eqb entry.thread at.thread && is_some (answer_of_step job at.rank machine entry))
    (drop 1 (machine.own.threads at.thread).left) (machine.own.threads at.thread).left
left_then job at machine entry = elim (cases_eq at.thread entry.thread) [
  | inl same ↦
      ap (λ (p : Progress ScriptStep). p.left) (scripts_here job at.rank at.thread machine entry same)
      ∙ left_by job at.rank machine entry (machine.own.threads entry.thread).left refl
      ∙ ap (λ (t : ℕ). cond (is_some (answer_of_step job at.rank machine entry)) (drop 1 (machine.own.threads t).left)
      (machine.own.threads t).left) (sym same)
      ∙ ap (λ (b : Bool). cond (b && is_some (answer_of_step job at.rank machine entry))
      (drop 1 (machine.own.threads at.thread).left) (machine.own.threads at.thread).left)
      (sym (eq-eqb entry.thread at.thread (sym same)))
  | inr apart ↦
      ap (λ (p : Progress ScriptStep). p.left) (scripts_apart job at.rank at.thread machine entry apart)
      ∙ ap (λ (b : Bool). cond (b && is_some (answer_of_step job at.rank machine entry))
      (drop 1 (machine.own.threads at.thread).left) (machine.own.threads at.thread).left)
      (sym (ne_eqb entry.thread at.thread (λ same. apart (sym same))))
]

drop_none : (count : ℕ) → ◌≡◌ {A = List ScriptStep} (drop count []) []
drop_none zero = refl
drop_none (suc count) = refl

drop_more : (count : ℕ) (left : List ScriptStep) → drop count (drop 1 left) ≡ drop (suc count) left
drop_more count [] = drop_none count
drop_more count (one ∷ left) = ap (drop count) (drop_zero left)
  where
    drop_zero : (rest : List ScriptStep) → drop 0 rest ≡ rest
    drop_zero [] = refl
    drop_zero (x ∷ rest) = refl

drop_by : (b : Bool) (count : ℕ) (left : List ScriptStep)
    → drop count (cond b (drop 1 left) left) ≡ drop (cond b (suc count) count) left
drop_by true count left = drop_more count left
drop_by false count left = refl

drop_first : (left : List ScriptStep) → left ≡ drop 0 left
drop_first [] = refl
drop_first (one ∷ left) = refl

left_after : (job : JobState) (at : StepAt) (entries : List Entry) (machine : Machine)
    → ((replay (script_job job) at.rank machine entries).own.threads at.thread).left
    ≡ drop (steps_ended_in job at machine entries) (machine.own.threads at.thread).left
left_after job at [] machine = drop_first (machine.own.threads at.thread).left
left_after job at (entry ∷ entries) machine =
    let next = machine_after job at.rank machine entry in
    left_after job at entries next
    ∙ ap (drop (steps_ended_in job at next entries)) (left_then job at machine entry)
    ∙ drop_by (eqb entry.thread at.thread && is_some (answer_of_step job at.rank machine entry))
    (steps_ended_in job at next entries) (machine.own.threads at.thread).left

dropped_at : (count : ℕ) (steps : List ScriptStep) (one : ScriptStep) (rest : List ScriptStep)
    → drop count steps ≡ one ∷ rest → slice_get steps count ≡ Some one
dropped_at zero [] one rest same = absurd (cc)
dropped_at zero (first ∷ steps) one rest same = ap (λ (s : ScriptStep). Some s) (cc)
dropped_at (suc count) [] one rest same = absurd (cc)
dropped_at (suc count) (first ∷ steps) one rest same = dropped_at count steps one rest same

-- ---- the lines of one node

-- the line of this number of the lines of its steps
record LineOf (job : JobState) (rank : ℕ) (machine : Machine) (entries : List Entry) (words : Line) (line : ℕ)
    : Type 0 where
  pub place : ℕ
  pub entry : Entry
  pub entry_is : slice_get entries place ≡ Some entry
  pub line_is : line ≡ length (step_lines job rank machine (take place entries))
  pub answer : ScriptAnswer
  pub ended : answer_of_step job rank (replay (script_job job) rank machine (take place entries)) entry ≡ Some answer
  pub words_are : words ≡ step_line job (at_entry rank entry)
      (machine_after job rank (replay (script_job job) rank machine (take place entries)) entry).node answer

lines_split : (first second : List Line) (place : ℕ) (words : Line) → slice_get (first ++ second) place ≡ Some words
    → (slice_get first place ≡ Some words)
    ⊎ ((other : ℕ) × (slice_get second other ≡ Some words) × (place ≡ length first + other))
lines_split [] second place words there = inr (place, there, omega arith)
lines_split (one ∷ first) second zero words there = inl there
lines_split (one ∷ first) second (suc place) words there = elim (lines_split first second place words there) [
  | inl here ↦ inl here
  | inr later ↦ (let same = later.2 in inr (later.0, later.1, omega (arith, same)))
]

abbrev LinesOf : JobState → (rank : ℕ) → Machine → List Entry → Line → Type 0
LinesOf job rank machine entries words =
    (place : ℕ) → slice_get (step_lines job rank machine entries) place ≡ Some words
    → LineOf job rank machine entries words place

-- the lines of the turn of an entry and of these entries behind it, where the turn was answered so
abbrev lines_with : (job : JobState) (rank : ℕ) (machine : Machine) (entry : Entry) (entries : List Entry)
    → Option ScriptAnswer → List Line
lines_with job rank machine entry entries ended =
    lines_of_answer job (at_entry rank entry) (machine_after job rank machine entry).node ended
    ++ step_lines job rank (machine_after job rank machine entry) entries

-- behind the turn of an entry
line_later : (job : JobState) (rank : ℕ) (machine : Machine) (entry : Entry) (entries : List Entry) (words : Line)
    (ended : Option ScriptAnswer) (line other : ℕ) → answer_of_step job rank machine entry ≡ ended
    → (it : LineOf job rank (machine_after job rank machine entry) entries words other)
    → line ≡ length (lines_with job rank machine entry (take it.place entries) ended)
    → LineOf job rank machine (entry ∷ entries) words line
line_later job rank machine entry entries words ended line other is it same = record {
  place = suc it.place;
  entry = it.entry;
  entry_is = it.entry_is;
  line_is = same
      ∙ ap (λ (a : Option ScriptAnswer). length (lines_with job rank machine entry (take it.place entries) a)) (sym is);
  answer = it.answer;
  ended = it.ended;
  words_are = it.words_are;
}

-- at an entry whose turn ended a step
line_here : (job : JobState) (rank : ℕ) (machine : Machine) (entry : Entry) (entries : List Entry) (words : Line)
    (answer : ScriptAnswer) (place : ℕ) → answer_of_step job rank machine entry ≡ Some answer
    → LinesOf job rank (machine_after job rank machine entry) entries words
    → slice_get (step_line job (at_entry rank entry) (machine_after job rank machine entry).node answer
    ∷ step_lines job rank (machine_after job rank machine entry) entries) place ≡ Some words
    → LineOf job rank machine (entry ∷ entries) words place
line_here job rank machine entry entries words answer zero ended later found = record {
  place = 0;
  entry = entry;
  entry_is = refl;
  line_is = refl;
  answer = answer;
  ended = ended;
  words_are =
      sym (same_Some (step_line job (at_entry rank entry) (machine_after job rank machine entry).node answer) words
      found);
}
line_here job rank machine entry entries words answer (suc place) ended later found =
    let it = later place found in
    line_later job rank machine entry entries words (Some answer) (suc place) place ended it
    (ap (λ (n : ℕ). suc n) it.line_is)

line_by : (job : JobState) (rank : ℕ) (machine : Machine) (entry : Entry) (entries : List Entry) (words : Line)
    (ended : Option ScriptAnswer) (place : ℕ) → answer_of_step job rank machine entry ≡ ended
    → LinesOf job rank (machine_after job rank machine entry) entries words
    → slice_get (lines_of_answer job (at_entry rank entry) (machine_after job rank machine entry).node ended
    ++ step_lines job rank (machine_after job rank machine entry) entries) place ≡ Some words
    → LineOf job rank machine (entry ∷ entries) words place
line_by job rank machine entry entries words None place is later found =
    let it = later place found in line_later job rank machine entry entries words None place place is it it.line_is
line_by job rank machine entry entries words (Some answer) place is later found =
    line_here job rank machine entry entries words answer place is later found

line_of : (job : JobState) (rank : ℕ) (entries : List Entry) (machine : Machine) (words : Line)
    → LinesOf job rank machine entries words
line_of job rank [] machine words place there = absurd (cc)
line_of job rank (entry ∷ entries) machine words place there =
    line_by job rank machine entry entries words (answer_of_step job rank machine entry) place refl
    (line_of job rank entries (machine_after job rank machine entry) words) there

-- ---- the lines of all nodes

record LineAmong (job : JobState) (rank : ℕ) (traces : List Trace) (words : Line) (place : ℕ) : Type 0 where
  pub at : ℕ
  pub trace : Trace
  pub there : slice_get traces at ≡ Some trace
  pub number : ℕ
  pub place_is : place ≡ length (steps_from job rank (take at traces)) + number
  pub line : LineOf job (rank + at) (first_machine job (rank + at)) trace.entries words number

line_among : (job : JobState) (traces : List Trace) (rank place : ℕ) (words : Line)
    → slice_get (steps_from job rank traces) place ≡ Some words → LineAmong job rank traces words place
line_among job [] rank place words there = absurd (cc)
line_among job (trace ∷ traces) rank place words there = elim
    (lines_split (step_lines job rank (first_machine job rank) trace.entries) (steps_from job (rank + 1) traces) place
    words there) [
      | inl here ↦ (let same : rank ≡ rank + 0 = omega arith in record {
        at = 0;
        trace = trace;
        there = refl;
        number = place;
        place_is = omega arith;
        line = subst (λ (n : ℕ). LineOf job n (first_machine job n) trace.entries words place) same
            (line_of job rank trace.entries (first_machine job rank) words place here);
      })
      | inr later ↦ (let it = line_among job traces (rank + 1) later.0 words later.1 in
          let same : rank + 1 + it.at ≡ rank + suc it.at = omega arith in
          let own = step_lines job rank (first_machine job rank) trace.entries in
          let all = length-append own (steps_from job (rank + 1) (take it.at traces)) in
          let behind = later.2 in
          let place_is = it.place_is in
          record {
            at = suc it.at;
            trace = it.trace;
            there = it.there;
            number = it.number;
            place_is = omega (arith, all, behind, place_is);
            line = subst (λ (n : ℕ). LineOf job n (first_machine job n) it.trace.entries words it.number) same it.line;
          })
    ]

-- ---- what a line tells

opening_stands : (job : JobState) → Stands job [] (opening_machines job.settings (scripts_at job))
opening_stands job = record {
  nodes = λ rank. refl;
  pending = λ rank thread first is. absurd (none_began first is);
}
  where
    none_began : (first : Answer) → None ≡ Some first → ⊥
    none_began first is = cc

-- a run of traces: its turns, and that the entries of each node in it are its trace
abbrev pub IsRunBy : JobState → List Trace → (ranks : List ℕ) → (turns : List (List (EventAt OtherCall))) → Type 0
IsRunBy job traces ranks turns = IsRunOf job (order_by job (entries_of traces) ranks) turns

abbrev pub HaveOwn : JobState → List Trace → (ranks : List ℕ) → Type 0
HaveOwn job traces ranks =
    (rank : ℕ) (entries : List Entry) → slice_get (entries_of traces) rank ≡ Some entries
    → own_entries rank (order_by job (entries_of traces) ranks) ≡ entries

-- where the entry of a line stands among all, and how its step ended there
record LineTurn (job : JobState) (traces : List Trace) (ranks : List ℕ) (turns : List (List (EventAt OtherCall)))
    (rank : ℕ) (trace : Trace) (words : Line) (number : ℕ)
    (line : LineOf job rank (first_machine job rank) trace.entries words number) : Type 0 where
  pub turn : ℕ
  pub turn_is : slice_get (order_by job (entries_of traces) ranks) turn ≡ Some (record { node = rank; entry = line.entry })
  pub own_is : own_entries rank (take turn (order_by job (entries_of traces) ranks)) ≡ take line.place trace.entries
  pub ends : EndsInRun job (first_turns turn turns) (first_turns (suc turn) turns) rank
      (replay (script_job job) rank (first_machine job rank) (take line.place trace.entries)) line.entry line.answer

line_ends : (job : JobState) (traces : List Trace) (ranks : List ℕ) (turns : List (List (EventAt OtherCall)))
    → IsRunBy job traces ranks turns → HaveOwn job traces ranks → (rank : ℕ) (trace : Trace) (words : Line) (number : ℕ)
    → slice_get traces rank ≡ Some trace → (line : LineOf job rank (first_machine job rank) trace.entries words number)
    → LineTurn job traces ranks turns rank trace words number line
line_ends job traces ranks turns run has rank trace words number there line =
    let items = order_by job (entries_of traces) ranks in
    let machines = opening_machines job.settings (scripts_at job) in
    let listed : slice_get (entries_of traces) rank ≡ Some trace.entries =
    slice_get-map (λ (one : Trace). one.entries) traces rank
    ∙ ap (option_map (λ (one : Trace). one.entries)) there in
    let own = has rank trace.entries listed in
    let at = own_at items rank line.place line.entry
    (ap (λ (es : List Entry). slice_get es line.place) own ∙ line.entry_is) in
    let before : own_entries rank (take at.at items) ≡ take line.place trace.entries =
    at.before ∙ ap (take line.place) own in
    let machine : after_all (script_job job) machines (take at.at items) rank
    ≡ replay (script_job job) rank (first_machine job rank) (take line.place trace.entries) =
    after_own (script_job job) (take at.at items) machines rank
    ∙ ap (replay (script_job job) rank (first_machine job rank)) before in
    record {
      turn = at.at;
      turn_is = at.there;
      own_is = before;
      ends = subst (λ (m : Machine). EndsInRun job (first_turns at.at turns) (first_turns (suc at.at) turns) rank m
          line.entry line.answer) machine
          (items_end job items turns [] machines run.turns_are (opening_stands job) at.at
          (record { node = rank; entry = line.entry }) at.there line.answer
          (ap (λ (m : Machine). answer_of_step job rank m line.entry) machine ∙ line.ended));
    }

-- a run's order
abbrev pub order_of_run : JobState → List Trace → (ranks : List ℕ) → (turns : List (List (EventAt OtherCall))) → RunOrder
order_of_run job traces ranks turns = record { items = order_by job (entries_of traces) ranks; turns = turns }

line_told : (job : JobState) (traces : List Trace) (ranks : List ℕ) (turns : List (List (EventAt OtherCall))) (rank : ℕ)
    (trace : Trace) (words : Line) (place number : ℕ) → slice_get traces rank ≡ Some trace
    → place ≡ length (steps_from job 0 (take rank traces)) + number
    → (line : LineOf job rank (first_machine job rank) trace.entries words number)
    → LineTurn job traces ranks turns rank trace words number line
    → IsStepTold job traces (order_of_run job traces ranks turns) place words
line_told job traces ranks turns rank trace words place number there place_is line at =
    let step_at = at_entry rank line.entry in
    let before = take line.place trace.entries in
    let ends = at.ends.ends in
    let left : drop (steps_ended_in job step_at (first_machine job rank) before)
    (steps_of_thread job.scripts rank line.entry.thread) ≡ ends.step ∷ ends.rest =
    sym (left_after job step_at before (first_machine job rank)) ∙ ends.left_is in
    record {
      at = step_at;
      trace = trace;
      trace_is = there;
      place = line.place;
      entry = line.entry;
      entry_is = line.entry_is;
      line_is = place_is ∙ ap (λ (n : ℕ). length (steps_from job 0 (take rank traces)) + n) line.line_is;
      thread_is = refl;
      number = steps_ended_in job step_at (first_machine job rank) before;
      number_is = refl;
      step = ends.step;
      step_is = dropped_at (steps_ended_in job step_at (first_machine job rank) before)
          (steps_of_thread job.scripts rank line.entry.thread) ends.step ends.rest left;
      answer = line.answer;
      answered = line.ended;
      turn = at.turn;
      turn_is = at.turn_is;
      own_is = at.own_is;
      ends = ends.ends;
      node_is = at.ends.node_is;
      words_are = line.words_are
          ∙ ap (λ (node : Node EndpointLocal). step_line job step_at node line.answer) (sym at.ends.node_is);
    }

pub lines_told : (job : JobState) (traces : List Trace) (ranks : List ℕ) (turns : List (List (EventAt OtherCall)))
    → IsRunBy job traces ranks turns → HaveOwn job traces ranks → (line : ℕ) (words : Line)
    → slice_get (steps_from job 0 traces) line ≡ Some words
    → IsStepTold job traces (order_of_run job traces ranks turns) line words
lines_told job traces ranks turns run own line words there =
    let among = line_among job traces 0 line words there in
    let same : 0 + among.at ≡ among.at = omega arith in
    let its = subst (λ (n : ℕ). LineOf job n (first_machine job n) among.trace.entries words among.number) same
    among.line in
    line_told job traces ranks turns among.at among.trace words line among.number among.there among.place_is its
    (line_ends job traces ranks turns run own among.at among.trace words among.number among.there its)

-- ---- in which order

none_taken : {A : Type 0} (count : ℕ) → ◌≡◌ {A = List A} (take count []) []
none_taken zero = refl
none_taken (suc count) = refl

-- more entries, more lines
lines_grow : (job : JobState) (rank : ℕ) (entries : List Entry) (machine : Machine) (less more : ℕ) → less ≤ more
    → length (step_lines job rank machine (take less entries)) ≤ length (step_lines job rank machine (take more entries))
lines_grow job rank [] machine less more le =
    let few = ap (λ (es : List Entry). length (step_lines job rank machine es)) (none_taken less) in
    let many = ap (λ (es : List Entry). length (step_lines job rank machine es)) (none_taken more) in
    omega (arith, few, many)
lines_grow job rank (entry ∷ entries) machine zero more le = omega arith
lines_grow job rank (entry ∷ entries) machine (suc less) zero le = absurd (omega arith)
lines_grow job rank (entry ∷ entries) machine (suc less) (suc more) le =
    let next = machine_after job rank machine entry in
    let first = lines_of_answer job (at_entry rank entry) next.node (answer_of_step job rank machine entry) in
    let one = length-append first (step_lines job rank next (take less entries)) in
    let two = length-append first (step_lines job rank next (take more entries)) in
    let later = lines_grow job rank entries next less more (omega arith) in
    omega (arith, one, two, later)

-- more turns, more of a node's own
owns_by : (mine : Bool) (entry : Entry) (less more : List Entry) → length less ≤ length more
    → length (own_by mine entry less) ≤ length (own_by mine entry more)
owns_by true entry less more le = omega arith
owns_by false entry less more le = le

owns_grow : (rank : ℕ) (items : List NodeEntry) (less more : ℕ) → less ≤ more
    → length (own_entries rank (take less items)) ≤ length (own_entries rank (take more items))
owns_grow rank [] less more le =
    let few = ap (λ (items : List NodeEntry). length (own_entries rank items)) (none_taken less) in
    let many = ap (λ (items : List NodeEntry). length (own_entries rank items)) (none_taken more) in
    omega (arith, few, many)
owns_grow rank (item ∷ items) zero more le = omega arith
owns_grow rank (item ∷ items) (suc less) zero le = absurd (omega arith)
owns_grow rank (item ∷ items) (suc less) (suc more) le =
    owns_by (eqb item.node rank) item.entry (own_entries rank (take less items)) (own_entries rank (take more items))
    (owns_grow rank items less more (omega arith))

taken : (entries : List Entry) (place : ℕ) (entry : Entry) → slice_get entries place ≡ Some entry
    → length (take place entries) ≡ place
taken [] place entry there = absurd (cc)
taken (first ∷ entries) zero entry there = refl
taken (first ∷ entries) (suc place) entry there = let e = taken entries place entry there in omega arith

-- what happened in more turns begins with what happened in fewer
turns_prefix : (turns : List (List (EventAt OtherCall))) (less more : ℕ) → less ≤ more
    → (between : List (EventAt OtherCall)) × (first_turns more turns ≡ first_turns less turns ++ between)
turns_prefix turns zero more le = (first_turns more turns, refl)
turns_prefix turns (suc less) zero le = absurd (omega arith)
turns_prefix [] (suc less) (suc more) le = ([], refl)
turns_prefix (turn ∷ turns) (suc less) (suc more) le =
    let later = turns_prefix turns less more (omega arith) in (
      later.0,
      ap (λ (events : List (EventAt OtherCall)). turn ++ events) later.1
          ∙ sym (append_assoc turn (first_turns less turns) later.0),
    )

-- the later of two lines of a node is that of a later turn
rise_by : (job : JobState) (rank : ℕ) (entries : List Entry) (items : List NodeEntry)
    (place other turn later number more : ℕ) (one two : Entry) → slice_get entries place ≡ Some one
    → slice_get entries other ≡ Some two → own_entries rank (take turn items) ≡ take place entries
    → own_entries rank (take later items) ≡ take other entries
    → number ≡ length (step_lines job rank (first_machine job rank) (take place entries))
    → more ≡ length (step_lines job rank (first_machine job rank) (take other entries)) → number < more → turn < later
rise_by job rank entries items place other turn later number more one two first second own_one own_two number_is more_is
    less =
    elim (cases_lt turn later) [
      | inl rises ↦ rises
      | inr falls ↦
          (let owns = owns_grow rank items later turn falls in
          let at = taken entries place one first in
          let at_other = taken entries other two second in
          let own_place = ap length own_one in
          let own_other = ap length own_two in
          let back : other ≤ place = omega arith in
          let grown = lines_grow job rank entries (first_machine job rank) other place back in
          absurd (omega arith))
    ]

pub lines_rise : (job : JobState) (traces : List Trace) (order : RunOrder) (line other : ℕ) (words more : Line)
    (one : IsStepTold job traces order line words) (two : IsStepTold job traces order other more)
    → one.at.rank ≡ two.at.rank → line < other → IsLater order one.turn two.turn
lines_rise job traces order line other words more one two same less =
    let rank = two.at.rank in
    let trace : one.trace ≡ two.trace =
    same_Some one.trace two.trace (sym one.trace_is ∙ ap (slice_get traces) same ∙ two.trace_is) in
    let entries : one.trace.entries ≡ two.trace.entries = ap (λ (t : Trace). t.entries) trace in
    let before = length (steps_from job 0 (take rank traces)) in
    let first = length (step_lines job rank (first_machine job rank) (take one.place two.trace.entries)) in
    let second = length (step_lines job rank (first_machine job rank) (take two.place two.trace.entries)) in
    let line_is : line ≡ before + first =
    one.line_is ∙ ap (λ (n : ℕ). lines_before job traces n one.trace one.place) same
    ∙ ap (λ (t : Trace). lines_before job traces rank t one.place) trace in
    let other_is : other ≡ before + second = two.line_is in
    let later : one.turn < two.turn =
    rise_by job rank two.trace.entries order.items one.place two.place one.turn two.turn first second one.entry two.entry
    (ap (λ (es : List Entry). slice_get es one.place) (sym entries) ∙ one.entry_is) two.entry_is
    (ap (λ (n : ℕ). own_entries n (take one.turn order.items)) (sym same) ∙ one.own_is ∙ ap (take one.place) entries)
    two.own_is refl refl (omega arith) in
    let prefix = turns_prefix order.turns (suc one.turn) two.turn (omega arith) in
    record { more = later; between = prefix.0; is = prefix.1 }
