-- Each line of the steps of a run of traces tells how its step ended in that run.
use Rattle.std.proofs.Common.{◌≡◌, ◌≢◌, inl, inr, ℕ, zero, suc, ◌&&◌, Bool, true, false, cond, not, List, [], ◌∷◌}
use Rattle.std.proofs.Common.{◌++◌, take, Option, Some, None, refl, sym, ap, subst, ◌∙◌, slice_get, append_assoc, append-nil}
use Rattle.std.specs.Prelude.{◌==◌, is_none}
use Rattle.std.specs.Option.{option_to_list}
use Rattle.std.proofs.lemmas.Bool.{cases_eq}
use Rattle.std.proofs.lemmas.Option.{same_Some}
use Rattle.std.proofs.lemmas.List.{map-append}
use Rattle.base_lists.specs.Put.{put}
use Rattle.base_lists.proofs.Put.{put_same, put_other}
use Rattle.base_turns.specs.declared.entry.Entry.{Entry}
use Rattle.node_rules.specs.Called.{node_event}
use Rattle.node_rules.specs.EndpointLocal.{EndpointLocal}
use Rattle.node_rules.specs.EndpointRules.{OtherCall, RecordEvent, Records, at_the_opening}
use Rattle.node_rules.specs.declared.answer.Answer.{Answer}
use Rattle.text_job.specs.declared.job.Job.{Job as JobState}
use Rattle.text_steps.specs.declared.steps.ScriptStep.{ScriptStep}
use Rattle.text_steps.specs.declared.steps.ScriptStep.TheVariants as step
use Rattle.text_steps.specs.declared.steps.WaitingStep.TheVariants as waiting
use Rattle.proc_machine.specs.NodeState.{script_job}
use Rattle.spec_node.specs.Record.{Node}
use Rattle.law_traces.specs.Actions.{Form, Once, Again, Until, Twice, Looks, Several, OwnScripts, Progress, calls_of, ended_by}
use Rattle.law_traces.specs.Actions.{StepContext, begins, unless, progress_after, next_calls, tried_step}
use Rattle.law_traces.specs.Order.{NodeEntry, Machines, after_entry as after_item, after_all, turn_of}
use Rattle.law_traces.specs.Scripts.{ThreadCall, TryResult}
use Rattle.law_traces.specs.Turn.{MachineState, events_of, first_answer, first_events, node_run}
use Rattle.law_traces.specs.Turn.{turn_events}
use Rattle.law_traces.specs.WorldRun.{AreEvents, AreTurns}
use Rattle.law_traces.specs.declared.script_answer.ScriptAnswer.{ScriptAnswer}
use Rattle.law_traces.specs.declared.script_answer.ScriptAnswer.TheVariants as said
use Rattle.spec_network.specs.World.{EventAt, run}
use Rattle.part_collective_area.specs.declared.shape.Shape.{Shape}
use Rattle.proc_collective_steps.specs.Parts.{first_part, later_part}
use Rattle.node_collectives.specs.CollectivesState.{CollectivesState}
use Rattle.text_steps.specs.declared.steps.CollectiveText.{CollectiveText}
use Rattle.proc_steps.specs.Forms.{collective_form, nothing_there, step_form, waits_of, tried_while, whole_form}
use Rattle.cli_check.specs.StepLines.{StepAt, machine_after, answer_of_step}
use Rattle.cli_check.specs.StepsTold.{EndsAsTried, EndsAtCall, EndsLater, IsCallMade, IsMadeSince, before_of}
use Rattle.cli_check.specs.StepsTold.{begun_before}
use Rattle.cli_check.specs.StepsTold.{first_turns, records_after, rules_of, tried_at}
use Rattle.cli_check.proofs.CallsMade.{made_at, made_before, run_append, run_here, run_other}

abbrev pub Machine : Type 0
Machine = MachineState EndpointLocal (OwnScripts ScriptStep)

-- ---- how a try of a form ends the step

-- what was begun before by a step of this form, with this answer
abbrev pub WasBegun : JobState → List (EventAt OtherCall) → StepAt → Form EndpointLocal → Answer → Type 0
WasBegun job run at (Twice begin next waits says) first = IsCallMade job run at begin first
WasBegun job run at (Looks begin ready) first = IsCallMade job run at begin first
WasBegun job run at form first = Unit {0}

-- the call at the head of those of a try, if there is one, was made, with the answer of the try; what was made before it
-- stands before it
pub record FirstMade (job : JobState) (past happened : List (EventAt OtherCall)) (at : StepAt) (call : ThreadCall)
    (answer : Option Answer) : Type 0 where
  pub told : Answer
  pub is : answer ≡ Some told
  pub behind : IsMadeSince job past (past ++ happened) at call told

-- each call of a try was made
abbrev pub AllMade : JobState → (past run : List (EventAt OtherCall)) → StepAt → List ThreadCall → Type 0
AllMade job past run at calls =
    (place : ℕ) (call : ThreadCall) → slice_get calls place ≡ Some call
    → (told : Answer) × IsMadeSince job past run at call told

-- so the first of them was
abbrev pub HeadMade : JobState → (past happened : List (EventAt OtherCall)) → StepAt → List ThreadCall → Option Answer
    → Type 0
HeadMade job past happened at [] answer = answer ≡ None
HeadMade job past happened at (call ∷ calls) answer = FirstMade job past happened at call answer

ended_call : (job : JobState) (past happened : List (EventAt OtherCall)) (at : StepAt) (call : ThreadCall)
    (given : Option Answer) (ends : Answer → Option ScriptAnswer) (answer : ScriptAnswer)
    → (first : FirstMade job past happened at call given) → ends first.told ≡ Some answer
    → EndsAtCall job past (past ++ happened) at call ends answer
ended_call job past happened at call given ends answer first is =
    record { told = first.told; made = first.behind; ended = is }

-- an answer that is given
given_as : {A : Type 0} (f : Option Answer → A) (given : Option Answer) (told : Answer) (found : A)
    → given ≡ Some told → f given ≡ found → f (Some told) ≡ found
given_as f given told found is ends = ap f (sym is) ∙ ends

no_answer : {A : Type 0} (found : A) → None ≡ Some found → ⊥
no_answer found same = cc

unless_sure : (b : Bool) (told : Answer) (answer : ScriptAnswer) → unless b told ≡ Some answer → answer ≡ said.Call told
unless_sure true told answer same = absurd (cc)
unless_sure false told answer same = cc

pub ends_as : (job : JobState) (past happened : List (EventAt OtherCall)) (at : StepAt) (form : Form EndpointLocal)
    (began : Option Answer) (after : Node EndpointLocal) (given : Option Answer) (answer : ScriptAnswer)
    → ((first : Answer) → began ≡ Some first → WasBegun job past at form first)
    → HeadMade job past happened at (calls_of form began) given
    → AllMade job past (past ++ happened) at (calls_of form began)
    → ended_by form began after given ≡ Some answer → EndsAsTried job past (past ++ happened) at form began answer
ends_as job past happened at (Once call) began after given answer was head all ends =
    let Ends = λ (o : Option Answer). ended_by (Once call) began after o in
    ended_call job past happened at call given _ answer head (given_as Ends given head.told _ head.is ends)
ends_as job past happened at (Again waits call) began after given answer was head all ends =
    let Ends = λ (o : Option Answer). ended_by (Again waits call) began after o in
    ended_call job past happened at call given _ answer head (given_as Ends given head.told _ head.is ends)
ends_as job past happened at (Until call end) began after given answer was head all ends =
    let Ends = λ (o : Option Answer). ended_by (Until call end) began after o in
    ended_call job past happened at call given _ answer head (given_as Ends given head.told _ head.is ends)
ends_as job past happened at (Twice begin next waits says) None after given answer was head all ends =
    let Ends = λ (o : Option Answer). ended_by (Twice begin next waits says) None after o in
    inl (ended_call job past happened at begin given _ answer head (given_as Ends given head.told _ head.is ends))
ends_as job past happened at (Twice begin next waits says) (Some first) after given answer was head all ends =
    inr (second (next first) refl (was first refl) head)
  where
    Ends : Option Answer → Option ScriptAnswer
    Ends o = ended_by (Twice begin next waits says) (Some first) after o

    second : (found : Option ThreadCall) → next first ≡ found → IsCallMade job past at begin first
        → HeadMade job past happened at (option_to_list found) given
        → EndsLater job past (past ++ happened) at begin next (λ told. unless (waits told) (says told)) answer
    second None none begun made = absurd (no_answer answer (given_none given made ends))
      where
        given_none : (o : Option Answer) → o ≡ None → Ends o ≡ Some answer → None ≡ Some answer
        given_none o none is = ap Ends (sym none) ∙ is
    second (Some call) some begun made = record {
      first = first;
      call = call;
      next_is = some;
      told = made.told;
      made = made.behind;
      begun = subst (λ (events : List (EventAt OtherCall)). IsCallMade job events at begin first)
          (sym made.behind.before_is) (made_before job past made.behind.between at begin first begun);
      ended = given_as Ends given made.told _ made.is ends;
    }
ends_as job past happened at (Looks begin ready) None after given answer was head all ends =
    let Ends = λ (o : Option Answer). ended_by (Looks begin ready) None after o in
    record {
      first = head.told;
      begun = head.behind.made;
      ended = unless_sure (not (ready head.told after)) head.told answer
          (given_as Ends given head.told _ head.is ends);
    }
ends_as job past happened at (Looks begin ready) (Some first) after given answer was head all ends = record {
  first = first;
  begun = made_before job past happened at begin first (was first refl);
  ended = unless_sure (not (ready first after)) first answer ends;
}
ends_as job past happened at (Several first later) began after given answer was head all ends =
    record { each = all; ended = ends }

-- ---- more events follow

begun_more : (job : JobState) (run more : List (EventAt OtherCall)) (at : StepAt) (form : Form EndpointLocal)
    (first : Answer) → WasBegun job run at form first → WasBegun job (run ++ more) at form first
begun_more job run more at (Once call) first it = tt
begun_more job run more at (Again waits call) first it = tt
begun_more job run more at (Until call ends) first it = tt
begun_more job run more at (Twice begin next waits says) first it = made_before job run more at begin first it
begun_more job run more at (Looks begin ready) first it = made_before job run more at begin first it
begun_more job run more at (Several start later) first it = tt

-- ---- steps that begin something are read alike at each try

-- whatever the node's record is by then
abbrev pub StepBegun : JobState → List (EventAt OtherCall) → StepAt → ScriptStep → Answer → Type 0
StepBegun job run at one first =
    (context : StepContext) (node : Node EndpointLocal) → WasBegun job run at (step_form one context node) first

while_begins : (job : JobState) (run : List (EventAt OtherCall)) (at : StepAt) (waits : Option (Answer → Bool))
    (call other : ThreadCall) (first : Answer) → begins (tried_while waits call) ≡ true
    → WasBegun job run at (tried_while waits other) first
while_begins job run at None call other first is = absurd (cc)
while_begins job run at (Some waits) call other first is = absurd (cc)

-- what a step began that runs collectives says nothing of a call
collective_begun : (job : JobState) (run : List (EventAt OtherCall)) (at : StepAt) (call : CollectiveText)
    (first : Answer) (context : StepContext) (node : Node EndpointLocal)
    → WasBegun job run at (collective_form call context node) first
collective_begun job run at call first context node = by_state context.collectives
  where
    by_state : (state : Option CollectivesState)
        → WasBegun job run at (collective_form call (record context { collectives = state }) node) first
    by_state None = tt
    by_state (Some it) = tt

whole_begun : (job : JobState) (run : List (EventAt OtherCall)) (at : StepAt) (shape : Shape) (from dest : ℕ)
    (first : Answer) (context : StepContext) (node : Node EndpointLocal)
    → WasBegun job run at (whole_form shape from dest context node) first
whole_begun job run at shape from dest first context node = by_state context.collectives
  where
    by_me : (it : CollectivesState) (same : Bool)
        → WasBegun job run at (cond {A = Form EndpointLocal} same
        (Several (first_part context.place shape from node it) (later_part context.place dest node it)) nothing_there)
        first
    by_me it true = tt
    by_me it false = tt

    by_state : (state : Option CollectivesState)
        → WasBegun job run at (whole_form shape from dest (record context { collectives = state }) node) first
    by_state None = tt
    by_state (Some it) = by_me it (it.me == context.place.me)

begun_alike : (job : JobState) (run : List (EventAt OtherCall)) (at : StepAt) (one : ScriptStep) (first : Answer)
    (context : StepContext) (node : Node EndpointLocal) → begins (step_form one context node) ≡ true
    → WasBegun job run at (step_form one context node) first → StepBegun job run at one first
begun_alike job run at (step.Call call) first context node is was = λ other record_then.
    while_begins job run at (waits_of call) _ _ first is
begun_alike job run at (step.Vis vis) first context node is was = absurd (cc)
begun_alike job run at (step.Collective call) first context node is was = λ other record_then.
    collective_begun job run at call first other record_then
begun_alike job run at (step.Waiting (waiting.Collective shape from dest)) first context node is was =
    λ other record_then. whole_begun job run at shape from dest first other record_then
begun_alike job run at (step.Waiting (waiting.Until cell operand)) first context node is was = absurd (cc)
begun_alike job run at (step.Waiting (waiting.UntilWord offset number)) first context node is was = absurd (cc)
begun_alike job run at (step.Waiting (waiting.Transfer transfer)) first context node is was = λ other record_then. was
begun_alike job run at (step.Waiting (waiting.PutBegin register put)) first context node is was =
    λ other record_then. was
begun_alike job run at (step.Waiting (waiting.PutImplicit put)) first context node is was = λ other record_then. was
begun_alike job run at (step.Waiting (waiting.Wait register)) first context node is was = absurd (cc)
begun_alike job run at (step.Waiting (waiting.WaitAll registers)) first context node is was = absurd (cc)
begun_alike job run at (step.Waiting (waiting.WaitSome registers)) first context node is was = absurd (cc)
begun_alike job run at (step.Waiting (waiting.WaitImplicit which)) first context node is was = absurd (cc)
begun_alike job run at (step.Waiting (waiting.BarrierWait id flags)) first context node is was = absurd (cc)

-- where a step of a thread has begun, that is an event of the past
abbrev pub IsPending : JobState → List (EventAt OtherCall) → StepAt → Progress ScriptStep → Type 0
IsPending job past at progress =
    (first : Answer) → progress.began ≡ Some first → (one : ScriptStep) (rest : List ScriptStep)
    → progress.left ≡ one ∷ rest → StepBegun job past at one first

-- of all threads of all nodes
abbrev pub ArePending : JobState → List (EventAt OtherCall) → Machines EndpointLocal (OwnScripts ScriptStep) → Type 0
ArePending job past machines =
    (rank thread : ℕ)
    → IsPending job past (record { rank = rank; thread = thread }) ((machines rank).own.threads thread)

head_same : (one other : ScriptStep) (rest later : List ScriptStep) → ◌≡◌ {A = List ScriptStep} (one ∷ rest)
    (other ∷ later) → one ≡ other
head_same one other rest later same = cc

-- what a try of the form begins
form_begins : (job : JobState) (past happened : List (EventAt OtherCall)) (at : StepAt) (form : Form EndpointLocal)
    (given : Option Answer) (first : Answer) → given ≡ Some first
    → HeadMade job past happened at (calls_of form None) given → begins form ≡ true
    → WasBegun job (past ++ happened) at form first
form_begins job past happened at (Once call) given first is head begin = tt
form_begins job past happened at (Again waits call) given first is head begin = tt
form_begins job past happened at (Until call ends) given first is head begin = tt
form_begins job past happened at (Twice call next waits says) given first is head begin =
    subst (IsCallMade job (past ++ happened) at call) (same_Some head.told first (sym head.is ∙ is)) head.behind.made
form_begins job past happened at (Looks call ready) given first is head begin =
    subst (IsCallMade job (past ++ happened) at call) (same_Some head.told first (sym head.is ∙ is)) head.behind.made
form_begins job past happened at (Several start later) given first is head begin = tt

-- the script of the thread after a try of its step
step_pending : (job : JobState) (past happened : List (EventAt OtherCall)) (at : StepAt) (one : ScriptStep)
    (rest : List ScriptStep) (began : Option Answer) (context : StepContext) (before : Node EndpointLocal)
    (given : Option Answer) (ended : Option ScriptAnswer)
    → IsPending job past at (record { left = one ∷ rest; began = began })
    → HeadMade job past happened at (calls_of (step_form one context before) began) given
    → IsPending job (past ++ happened) at (progress_after (step_form one context before) one rest began ended given)
step_pending job past happened at one rest began context before given (Some answer) old head = λ first is other later
    left. absurd (no_answer first is)
step_pending job past happened at one rest began context before given None old head =
    by_begin (begins form) refl began refl old head
  where
    form : Form EndpointLocal
    form = step_form one context before

    by_begin : (b : Bool) → begins form ≡ b → (o : Option Answer) → began ≡ o
        → IsPending job past at (record { left = one ∷ rest; began = o })
        → HeadMade job past happened at (calls_of form o) given
        → IsPending job (past ++ happened) at (cond (b && is_none o)
        (record { left = one ∷ rest; began = given }) (record { left = one ∷ rest; began = o }))
    by_begin true is None none old made = λ first first_is other later left.
        subst (λ (s : ScriptStep). StepBegun job (past ++ happened) at s first) (head_same one other rest later left)
        (begun_alike job (past ++ happened) at one first context before is
        (form_begins job past happened at form given first first_is made is))
    by_begin false is None none old made = λ first first_is other later left. absurd (no_answer first first_is)
    by_begin b is (Some start) some old made = kept b
      where
        kept : (t : Bool) → IsPending job (past ++ happened) at (cond (t && false)
            (record { left = one ∷ rest; began = given }) (record { left = one ∷ rest; began = Some start }))
        kept true = λ first first_is other later left context node.
            begun_more job past happened at (step_form other context node) first
            (old first first_is other later left context node)
        kept false = λ first first_is other later left context node.
            begun_more job past happened at (step_form other context node) first
            (old first first_is other later left context node)

-- ---- the calls of a turn

split_at : (calls : List ThreadCall) (place : ℕ) (call : ThreadCall) → slice_get calls place ≡ Some call
    → (prefix : List ThreadCall) × (rest : List ThreadCall) × (calls ≡ prefix ++ call ∷ rest)
split_at [] place call there = absurd (cc)
split_at (one ∷ calls) zero call there =
    ([], calls, ap (λ (c : ThreadCall). c ∷ calls) (same_Some one call there))
split_at (one ∷ calls) (suc place) call there =
    let it = split_at calls place call there in
    (one ∷ it.0, it.1, ap (λ (cs : List ThreadCall). one ∷ cs) it.2)

-- the events of a turn: the first ones, and those of these calls
abbrev HaveCalls : JobState → (past : List (EventAt OtherCall)) → StepAt → (now : ℕ) → (first : List RecordEvent)
    → (calls : List ThreadCall) → (happened : List (EventAt OtherCall)) → Type 0
HaveCalls job past at now first calls happened =
    AreEvents (rules_of job) (records_after job past) at.rank now (first ++ events_of at.thread calls) happened

-- the answer of the first of these calls, where the record is this one
abbrev answer_of_first : JobState → StepAt → (now : ℕ) → List ThreadCall → Node EndpointLocal → Option Answer
answer_of_first job at now calls node = first_answer (rules_of job) at.rank at.thread now calls node

head_made : (job : JobState) (past : List (EventAt OtherCall)) (at : StepAt) (now : ℕ) (first : List RecordEvent)
    (calls : List ThreadCall) (happened : List (EventAt OtherCall)) (node : Node EndpointLocal)
    → records_after job past at.rank ≡ node → HaveCalls job past at now first calls happened
    → HeadMade job past happened at calls
    (answer_of_first job at now calls (node_run (rules_of job) at.rank now first node))
head_made job past at now first [] happened node is are = refl
head_made job past at now first (call ∷ calls) happened node is are = record {
  told = _;
  is = refl;
  behind = made_at job past at now first call (events_of at.thread calls) happened node is are;
}

all_made : (job : JobState) (past : List (EventAt OtherCall)) (at : StepAt) (now : ℕ) (first : List RecordEvent)
    (calls : List ThreadCall) (happened : List (EventAt OtherCall)) (node : Node EndpointLocal)
    → records_after job past at.rank ≡ node → HaveCalls job past at now first calls happened
    → AllMade job past (past ++ happened) at calls
all_made job past at now first calls happened node is are place call there =
    let it = split_at calls place call there in
    let prefix = first ++ events_of at.thread it.0 in
    let same : first ++ events_of at.thread calls ≡ prefix ++ node_event at.thread call ∷ events_of at.thread it.1 =
    ap (λ (cs : List ThreadCall). first ++ events_of at.thread cs) it.2
    ∙ ap (λ (es : List RecordEvent). first ++ es) (map-append (node_event at.thread) it.0 (call ∷ it.1))
    ∙ sym (append_assoc first (events_of at.thread it.0) (events_of at.thread (call ∷ it.1))) in (
      _,
      (made_at job past at now prefix call (events_of at.thread it.1) happened node is
          (subst (λ (es : List RecordEvent). AreEvents (rules_of job) (records_after job past) at.rank now es happened) same
          are)),
    )

-- ---- a turn

-- what a turn of a thread is made of: its first events, the record as the try begins, its calls, and what these leave
-- and answer
abbrev pub first_of : JobState → Machine → Entry → List RecordEvent
first_of job machine entry = first_events (script_job job) machine entry.thread entry.got

abbrev pub calls_then : JobState → StepAt → Machine → Entry → List ScriptStep → List ThreadCall
calls_then job at machine entry left =
    next_calls step_form (tried_at job at machine entry.now) (machine.own.threads at.thread).began left
    (before_of job at.rank machine entry)

abbrev pub given_then : JobState → StepAt → Machine → Entry → List ScriptStep → Option Answer
given_then job at machine entry left =
    answer_of_first job at entry.now (calls_then job at machine entry left) (before_of job at.rank machine entry)

abbrev pub after_then : JobState → StepAt → Machine → Entry → List ScriptStep → Node EndpointLocal
after_then job at machine entry left =
    node_run (rules_of job) at.rank entry.now
    (first_of job machine entry ++ events_of at.thread (calls_then job at machine entry left)) machine.node

abbrev pub tried_then : JobState → StepAt → Machine → Entry → List ScriptStep → TryResult (Progress ScriptStep)
tried_then job at machine entry left =
    tried_step step_form (tried_at job at machine entry.now) (machine.own.threads at.thread).began left
    (before_of job at.rank machine entry) (after_then job at machine entry left) (given_then job at machine entry left)

-- the thread whose turn it is
abbrev pub at_entry : (rank : ℕ) → Entry → StepAt
at_entry rank entry = record { rank = rank; thread = entry.thread }

-- the events of the turn happened behind the past
pub record Happened (job : JobState) (past happened : List (EventAt OtherCall)) (rank : ℕ) (machine : Machine)
    (entry : Entry) : Type 0 where
  pub node_is : records_after job past rank ≡ machine.node
  pub are : AreEvents (rules_of job) (records_after job past) rank entry.now
      (turn_events (script_job job) rank machine entry.thread entry.now entry.got) happened

-- a step that ended in a turn behind the past, where the run is that up to the end of the turn
pub record EndsInTurn (job : JobState) (past run : List (EventAt OtherCall)) (rank : ℕ) (machine : Machine)
    (entry : Entry) (left : List ScriptStep) (answer : ScriptAnswer) : Type 0 where
  pub step : ScriptStep
  pub rest : List ScriptStep
  pub left_is : left ≡ step ∷ rest
  pub ends : EndsAsTried job past run (at_entry rank entry)
      (step_form step (tried_at job (at_entry rank entry) machine entry.now) (before_of job rank machine entry))
      (begun_before machine (at_entry rank entry)) answer

ends_by_left : (job : JobState) (past happened : List (EventAt OtherCall)) (rank : ℕ) (machine : Machine) (entry : Entry)
    (left : List ScriptStep) (answer : ScriptAnswer) → (machine.own.threads entry.thread).left ≡ left
    → Happened job past happened rank machine entry
    → IsPending job past (at_entry rank entry) (machine.own.threads entry.thread)
    → (tried_then job (at_entry rank entry) machine entry left).ended ≡ Some answer
    → EndsInTurn job past (past ++ happened) rank machine entry left answer
ends_by_left job past happened rank machine entry [] answer same H pending ends = absurd (no_answer answer ends)
ends_by_left job past happened rank machine entry (one ∷ rest) answer same H pending ends =
    let at = at_entry rank entry in
    let began = (machine.own.threads entry.thread).began in
    let context = tried_at job at machine entry.now in
    let before = before_of job rank machine entry in
    let calls = calls_then job at machine entry (one ∷ rest) in
    let are : HaveCalls job past at entry.now (first_of job machine entry) calls happened =
    subst (λ (l : List ScriptStep). HaveCalls job past at entry.now (first_of job machine entry)
    (calls_then job at machine entry l) happened) same H.are in
    record {
      step = one;
      rest = rest;
      left_is = refl;
      ends = ends_as job past happened at (step_form one context before) began
          (after_then job at machine entry (one ∷ rest)) (given_then job at machine entry (one ∷ rest)) answer
          (λ first is. pending first is one rest same context before)
          (head_made job past at entry.now (first_of job machine entry) calls happened machine.node H.node_is are)
          (all_made job past at entry.now (first_of job machine entry) calls happened machine.node H.node_is are) ends;
    }

-- so it is of the answer of the turn
pub turn_ends : (job : JobState) (past happened : List (EventAt OtherCall)) (rank : ℕ) (machine : Machine) (entry : Entry)
    (answer : ScriptAnswer) → Happened job past happened rank machine entry
    → IsPending job past (at_entry rank entry) (machine.own.threads entry.thread)
    → answer_of_step job rank machine entry ≡ Some answer
    → EndsInTurn job past (past ++ happened) rank machine entry (machine.own.threads entry.thread).left answer
turn_ends job past happened rank machine entry answer H pending ends =
    ends_by_left job past happened rank machine entry (machine.own.threads entry.thread).left answer refl H pending ends

-- what is left of the thread's script, and what its step began
left_pending : (job : JobState) (past happened : List (EventAt OtherCall)) (rank : ℕ) (machine : Machine) (entry : Entry)
    (left : List ScriptStep) → (machine.own.threads entry.thread).left ≡ left
    → Happened job past happened rank machine entry
    → IsPending job past (at_entry rank entry) (machine.own.threads entry.thread)
    → IsPending job (past ++ happened) (at_entry rank entry) (tried_then job (at_entry rank entry) machine entry left).left
left_pending job past happened rank machine entry [] same H pending = λ first is other later none. absurd (cc)
left_pending job past happened rank machine entry (one ∷ rest) same H pending =
    let at = at_entry rank entry in
    let before = before_of job rank machine entry in
    let calls = calls_then job at machine entry (one ∷ rest) in
    let given = given_then job at machine entry (one ∷ rest) in
    let after = after_then job at machine entry (one ∷ rest) in
    let began = (machine.own.threads entry.thread).began in
    let are : HaveCalls job past at entry.now (first_of job machine entry) calls happened =
    subst (λ (l : List ScriptStep). HaveCalls job past at entry.now (first_of job machine entry)
    (calls_then job at machine entry l) happened) same H.are in
    step_pending job past happened at one rest began (tried_at job at machine entry.now) before given
    (ended_by (step_form one (tried_at job at machine entry.now) before) began after given)
    (λ first is other later left. pending first is other later (same ∙ left))
    (head_made job past at entry.now (first_of job machine entry) calls happened machine.node H.node_is are)

-- the scripts after the turn
abbrev pub own_then : JobState → (rank : ℕ) → Machine → Entry → (thread : ℕ) → Progress ScriptStep
own_then job rank machine entry = (machine_after job rank machine entry).own.threads

pub scripts_here : (job : JobState) (rank thread : ℕ) (machine : Machine) (entry : Entry) → thread ≡ entry.thread
    → own_then job rank machine entry thread
    ≡ (tried_then job (at_entry rank entry) machine entry (machine.own.threads entry.thread).left).left
scripts_here job rank thread machine entry same =
    let next = (tried_then job (at_entry rank entry) machine entry (machine.own.threads entry.thread).left).left in
    ap (put machine.own.threads entry.thread next) same ∙ put_same machine.own.threads entry.thread next

pub scripts_apart : (job : JobState) (rank thread : ℕ) (machine : Machine) (entry : Entry) → thread ≢ entry.thread
    → own_then job rank machine entry thread ≡ machine.own.threads thread
scripts_apart job rank thread machine entry apart = put_other machine.own.threads entry.thread
    (tried_then job (at_entry rank entry) machine entry (machine.own.threads entry.thread).left).left thread apart

pending_more : (job : JobState) (past more : List (EventAt OtherCall)) (at : StepAt) (progress : Progress ScriptStep)
    → IsPending job past at progress → IsPending job (past ++ more) at progress
pending_more job past more at progress old = λ first is one rest left context node.
    begun_more job past more at (step_form one context node) first (old first is one rest left context node)

-- of a node whose turn it is
turn_pending : (job : JobState) (past happened : List (EventAt OtherCall)) (rank : ℕ) (machine : Machine) (entry : Entry)
    → Happened job past happened rank machine entry
    → ((thread : ℕ) → IsPending job past (record { rank = rank; thread = thread }) (machine.own.threads thread))
    → (thread : ℕ) → IsPending job (past ++ happened) (record { rank = rank; thread = thread })
    (own_then job rank machine entry thread)
turn_pending job past happened rank machine entry H old thread = elim (cases_eq thread entry.thread) [
  | inl same ↦
      subst (λ (p : Progress ScriptStep). IsPending job (past ++ happened) (record { rank = rank; thread = thread }) p)
      (sym (scripts_here job rank thread machine entry same))
      (subst (λ (t : ℕ). IsPending job (past ++ happened) (record { rank = rank; thread = t })
      (tried_then job (at_entry rank entry) machine entry (machine.own.threads entry.thread).left).left) (sym same)
      (left_pending job past happened rank machine entry (machine.own.threads entry.thread).left refl H
      (old entry.thread)))
  | inr apart ↦
      subst (λ (p : Progress ScriptStep). IsPending job (past ++ happened) (record { rank = rank; thread = thread }) p)
      (sym (scripts_apart job rank thread machine entry apart))
      (pending_more job past happened (record { rank = rank; thread = thread }) (machine.own.threads thread)
      (old thread))
]

-- ---- the entries, one after another

-- what is known between two entries: the records are those of the machines, and what their steps began stands in the
-- events of the past
pub record Stands (job : JobState) (past : List (EventAt OtherCall)) (machines : Machines EndpointLocal (OwnScripts ScriptStep))
    : Type 0 where
  pub nodes : (rank : ℕ) → records_after job past rank ≡ (machines rank).node
  pub pending : ArePending job past machines

-- the machine of a node after an entry
machine_here : (job : JobState) (machines : Machines EndpointLocal (OwnScripts ScriptStep)) (item : NodeEntry) (rank : ℕ)
    → rank ≡ item.node
    → after_item (script_job job) machines item rank ≡ machine_after job item.node (machines item.node) item.entry
machine_here job machines item rank same =
    ap (put machines item.node (turn_of (script_job job) machines item).after) same
    ∙ put_same machines item.node (turn_of (script_job job) machines item).after

machine_apart : (job : JobState) (machines : Machines EndpointLocal (OwnScripts ScriptStep)) (item : NodeEntry)
    (rank : ℕ) → rank ≢ item.node → after_item (script_job job) machines item rank ≡ machines rank
machine_apart job machines item rank apart =
    put_other machines item.node (turn_of (script_job job) machines item).after rank apart

pub stands_on : (job : JobState) (past happened : List (EventAt OtherCall))
    (machines : Machines EndpointLocal (OwnScripts ScriptStep)) (item : NodeEntry) → Stands job past machines
    → Happened job past happened item.node (machines item.node) item.entry
    → Stands job (past ++ happened) (after_item (script_job job) machines item)
stands_on job past happened machines item S H = record {
  nodes = λ rank. elim (cases_eq rank item.node) [
    | inl same ↦
        ap (records_after job (past ++ happened)) same
        ∙ ap (λ (w : Records). w item.node) (run_append (rules_of job) past happened (at_the_opening job.settings))
        ∙ run_here (rules_of job) item.node item.entry.now events happened (records_after job past) H.are
        ∙ ap (node_run (rules_of job) item.node item.entry.now events) H.node_is
        ∙ ap (λ (m : Machine). m.node) (sym (machine_here job machines item rank same))
    | inr apart ↦
        ap (λ (w : Records). w rank) (run_append (rules_of job) past happened (at_the_opening job.settings))
        ∙ run_other (rules_of job) item.node item.entry.now rank events happened (records_after job past) apart H.are
        ∙ S.nodes rank
        ∙ ap (λ (m : Machine). m.node) (sym (machine_apart job machines item rank apart))
  ];
  pending = λ rank thread. elim (cases_eq rank item.node) [
    | inl same ↦
        subst (λ (m : Machine). IsPending job (past ++ happened) (record { rank = rank; thread = thread })
        (m.own.threads thread))
        (sym (machine_here job machines item rank same))
        (subst (λ (n : ℕ). IsPending job (past ++ happened) (record { rank = n; thread = thread })
        (own_then job item.node (machines item.node) item.entry thread)) (sym same)
        (turn_pending job past happened item.node (machines item.node) item.entry H (S.pending item.node) thread))
    | inr apart ↦
        subst (λ (m : Machine). IsPending job (past ++ happened) (record { rank = rank; thread = thread })
        (m.own.threads thread))
        (sym (machine_apart job machines item rank apart))
        (pending_more job past happened (record { rank = rank; thread = thread }) ((machines rank).own.threads thread)
        (S.pending rank thread))
  ];
}
  where
    events : List RecordEvent
    events = turn_events (script_job job) item.node (machines item.node) item.entry.thread item.entry.now item.entry.got

-- a step that ended in the turn of an item
pub record EndsInRun (job : JobState) (past run : List (EventAt OtherCall)) (rank : ℕ) (machine : Machine) (entry : Entry)
    (answer : ScriptAnswer) : Type 0 where
  pub ends : EndsInTurn job past run rank machine entry (machine.own.threads entry.thread).left answer
  pub node_is : records_after job run rank ≡ (machine_after job rank machine entry).node

pub items_end : (job : JobState) (items : List NodeEntry) (turns : List (List (EventAt OtherCall)))
    (past : List (EventAt OtherCall)) (machines : Machines EndpointLocal (OwnScripts ScriptStep))
    → AreTurns (script_job job) machines (records_after job past) items turns → Stands job past machines
    → (place : ℕ) (item : NodeEntry) → slice_get items place ≡ Some item → (answer : ScriptAnswer)
    → answer_of_step job item.node (after_all (script_job job) machines (take place items) item.node) item.entry
    ≡ Some answer
    → EndsInRun job (past ++ first_turns place turns) (past ++ first_turns (suc place) turns) item.node
    (after_all (script_job job) machines (take place items) item.node) item.entry answer
items_end job [] turns past machines are S place item there answer ends = absurd (cc)
items_end job (first ∷ items) [] past machines are S place item there answer ends = absurd are
items_end job (first ∷ items) (happened ∷ turns) past machines are S zero item there answer ends =
    subst (λ (one : NodeEntry). EndsInRun job (past ++ []) (past ++ (happened ++ [])) one.node (machines one.node)
    one.entry answer) (same_Some first item there)
    (here (ap (λ (one : NodeEntry). answer_of_step job one.node (machines one.node) one.entry) (same_Some first item there)
    ∙ ends))
  where
    H : Happened job past happened first.node (machines first.node) first.entry
    H = record { node_is = S.nodes first.node; are = are.0.events }

    turned : answer_of_step job first.node (machines first.node) first.entry ≡ Some answer
        → EndsInRun job past (past ++ happened) first.node (machines first.node) first.entry answer
    turned is = record {
      ends = turn_ends job past happened first.node (machines first.node) first.entry answer H
          (S.pending first.node first.entry.thread) is;
      node_is = (stands_on job past happened machines first S H).nodes first.node
          ∙ ap (λ (m : Machine). m.node) (machine_here job machines first first.node refl);
    }

    here : answer_of_step job first.node (machines first.node) first.entry ≡ Some answer
        → EndsInRun job (past ++ []) (past ++ (happened ++ [])) first.node (machines first.node) first.entry answer
    here is =
        subst (λ (before : List (EventAt OtherCall)). EndsInRun job before (past ++ (happened ++ [])) first.node
        (machines first.node) first.entry answer) (sym (append-nil past))
        (subst (λ (last : List (EventAt OtherCall)). EndsInRun job past (past ++ last) first.node (machines first.node)
        first.entry answer) (sym (append-nil happened)) (turned is))
items_end job (first ∷ items) (happened ∷ turns) past machines are S (suc place) item there answer ends =
    let H : Happened job past happened first.node (machines first.node) first.entry =
    record { node_is = S.nodes first.node; are = are.0.events } in
    let machine = after_all (script_job job) (after_item (script_job job) machines first) (take place items) item.node in
    subst (λ (before : List (EventAt OtherCall)). EndsInRun job before
    (past ++ (happened ++ first_turns (suc place) turns)) item.node machine item.entry answer)
    (append_assoc past happened (first_turns place turns))
    (subst (λ (run : List (EventAt OtherCall)). EndsInRun job ((past ++ happened) ++ first_turns place turns) run item.node
    machine item.entry answer) (append_assoc past happened (first_turns (suc place) turns))
    (items_end job items turns (past ++ happened) (after_item (script_job job) machines first)
    (subst (λ (w : Records). AreTurns (script_job job) (after_item (script_job job) machines first) w items turns)
    (sym (run_append (rules_of job) past happened (at_the_opening job.settings))) are.1)
    (stands_on job past happened machines first S H) place item there answer ends))
