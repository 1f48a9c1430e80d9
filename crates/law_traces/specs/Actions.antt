-- The steps of scripts: how each is tried, and when it ends.
-- Origin: this project's profile; waiting is that of the blocking calls of GASNet 1.8.1.
use Rattle.std.specs.Prelude.{ℕ, ◌≡◌, Bool, true, false, not, ◌&&◌, ◌||◌, if◌then◌else◌, List, [], ◌∷◌}
use Rattle.std.specs.Prelude.{Option, None, Some, is_some, is_none}
use Rattle.std.specs.List.{AllByRecursion}
use Rattle.std.specs.Option.{option_map, option_or, option_to_list}
use Rattle.base_lists.specs.Put.{put}
use Rattle.spec_node.specs.Record.{Node}
use Rattle.node_rules.specs.declared.answer.Answer.{Answer}
use Rattle.node_collectives.specs.CollectivesState.{CollectivesState}
use Rattle.law_traces.specs.declared.script_answer.ScriptAnswer.{ScriptAnswer}
use Rattle.law_traces.specs.declared.script_answer.ScriptAnswer.TheVariants as said
use Rattle.law_traces.specs.Scripts.{ThreadCall, TryResult, TryContext, Scripts}

-- what one try of a step that makes several calls does: these calls, in this order; the answer of the step, where the
-- try ends it; and how far the node's collectives are then, where it changes that
pub record Part : Type 0 where
  pub calls : List ThreadCall
  pub ended : Option ScriptAnswer
  pub next : Option CollectivesState

-- how a step is tried
pub data Form (Kept : Type 0) : Type 0 where
  -- one call, whatever its answer
  Once : ThreadCall → Form Kept
  -- one call, again at each turn while its answer is one to wait at: a request at not-yet, a lock at held, a wait and a
  -- barrier-wait at not-ready
  Again : (waits : Answer → Bool) → ThreadCall → Form Kept
  -- one call, again at each turn until its answer gives one of the step: a cell or a word is looked at
  Until : ThreadCall → (ends : Answer → Option ScriptAnswer) → Form Kept
  -- the first try begins, and ends the step only where its answer names no second call; each later try makes the second
  -- call, again while its answer is one to wait at: a blocking transfer, whose second call is the sync of the handle
  -- that was given. `says` is the answer of the step
  Twice : (begin : ThreadCall) → (next : Answer → Option ThreadCall) → (waits : Answer → Bool)
      → (says : Answer → Answer) → Form Kept
  -- the first try begins; then each try, the first one too, looks whether what was begun has come so far, and makes no
  -- call for it: a put whose chunks are to be issued
  Looks : (begin : ThreadCall) → (ready : Answer → Node Kept → Bool) → Form Kept
  -- several calls in one try, which an action that is read so knows by the context and the record of the try: those of
  -- the first try, and of each later one where the first began the step, which it does by changing the node's
  -- collectives
  Several : (first later : Part) → Form Kept

-- the part of a step of several calls that a try is, by the answer with which the step began
abbrev pub step_part_of : (first later : Part) → (began : Option Answer) → Part
step_part_of first later None = first
step_part_of first later (Some answer) = later

-- the calls of a try, in order, by the answer with which the step began
abbrev pub calls_of : {Kept : Type 0} → Form Kept → (began : Option Answer) → List ThreadCall
calls_of (Once call) began = call ∷ []
calls_of (Again waits call) began = call ∷ []
calls_of (Until call ends) began = call ∷ []
calls_of (Twice begin next waits says) None = begin ∷ []
calls_of (Twice begin next waits says) (Some answer) = option_to_list (next answer)
calls_of (Looks begin ready) None = begin ∷ []
calls_of (Looks begin ready) (Some answer) = []
calls_of (Several first later) began = (step_part_of first later began).calls

-- the answer, unless it is one to wait at
abbrev pub unless : Bool → Answer → Option ScriptAnswer
unless true answer = None
unless false answer = Some (said.Call answer)

-- the answer of the step, where a try ended it whose first call had this answer, and whose calls left this record
abbrev pub ended_by : {Kept : Type 0}
    → Form Kept → (began : Option Answer) → (after : Node Kept) → (answer : Option Answer) → Option ScriptAnswer
ended_by (Once call) began after answer = option_map (λ one. said.Call one) answer
ended_by (Again waits call) began after None = None
ended_by (Again waits call) began after (Some answer) = unless (waits answer) answer
ended_by (Until call ends) began after None = None
ended_by (Until call ends) began after (Some answer) = ends answer
ended_by (Twice begin next waits says) None after None = None
ended_by (Twice begin next waits says) None after (Some answer) = unless (is_some (next answer)) (says answer)
ended_by (Twice begin next waits says) (Some first) after None = None
ended_by (Twice begin next waits says) (Some first) after (Some answer) = unless (waits answer) (says answer)
ended_by (Looks begin ready) None after None = None
ended_by (Looks begin ready) None after (Some answer) = unless (not (ready answer after)) answer
ended_by (Looks begin ready) (Some first) after answer = unless (not (ready first after)) first
ended_by (Several first later) began after answer = (step_part_of first later began).ended

-- the step begins something that a later try finds again
abbrev pub begins : {Kept : Type 0} → Form Kept → Bool
begins (Once call) = false
begins (Again waits call) = false
begins (Until call ends) = false
begins (Twice begin next waits says) = true
begins (Looks begin ready) = true
begins (Several first later) = is_none first.ended && is_some first.next

-- the try of a step that began so changes the node's collectives
abbrev pub moves : {Kept : Type 0} → Form Kept → (began : Option Answer) → Bool
moves (Several first later) began = is_some (step_part_of first later began).next
moves form began = false

-- ---- the scripts of a node

-- what is left of a thread's script, and the answer with which its next step began
pub record Progress (Action : Type 0) : Type 0 where
  pub left : List Action
  pub began : Option Answer

-- of each thread; and how far the node's collectives are, which all its threads run. None where its job has none
pub record OwnScripts (Action : Type 0) : Type 0 where
  pub threads : (thread : ℕ) → Progress Action
  pub collectives : Option CollectivesState

-- where an action is tried: in which job, at which node, by which thread and when, and how far the node's collectives
-- are
pub record StepContext : Type 0 where
  pub place : TryContext
  pub collectives : Option CollectivesState

-- how an action is tried in a context, by the record as the try begins: an action may name cells
abbrev pub Reading : (Kept Action : Type 0) → Type 0
Reading Kept Action = Action → StepContext → Node Kept → Form Kept

-- the context of a node with these scripts
abbrev pub step_context : {Action : Type 0} → TryContext → OwnScripts Action → StepContext
step_context at own = record { place = at; collectives = own.collectives }

-- the calls of the thread's next step, if it has one, where this is left of its script
abbrev pub next_calls : {Kept Action : Type 0}
    → Reading Kept Action → StepContext → (began : Option Answer) → (left : List Action) → Node Kept → List ThreadCall
next_calls form at began [] node = []
next_calls form at began (action ∷ rest) node = calls_of (form action at node) began

-- the script after a try of this form: it goes on, or its step has begun, or it is as it was
abbrev pub progress_after : {Kept Action : Type 0}
    → Form Kept → (action : Action) → (rest : List Action) → (began : Option Answer) → (ended : Option ScriptAnswer)
    → (answer : Option Answer) → Progress Action
progress_after form action rest began ended answer =
    if is_some ended then record { left = rest; began = None }
    else (if begins form && is_none began then record { left = action ∷ rest; began = answer }
    else record { left = action ∷ rest; began = began })

-- how a try of this form went
abbrev pub tried_form : {Kept Action : Type 0}
    → Form Kept → (action : Action) → (rest : List Action) → (began : Option Answer)
    → (after : Node Kept) → (answer : Option Answer) → TryResult (Progress Action)
tried_form form action rest began after answer =
    let ended = ended_by form began after answer in
    record {
      left = progress_after form action rest began ended answer;
      ended = ended;
      began = (begins form && is_none began || moves form began) && is_none ended;
    }

-- how a try of the thread's next step went, where this is left of its script
abbrev pub tried_step : {Kept Action : Type 0}
    → Reading Kept Action → StepContext → (began : Option Answer) → (left : List Action) → (before after : Node Kept)
    → (answer : Option Answer) → TryResult (Progress Action)
tried_step form at began [] before after answer =
    record { left = record { left = []; began = began }; ended = None; began = false }
tried_step form at began (action ∷ rest) before after answer =
    tried_form (form action at before) action rest began after answer

-- how far the node's collectives are after a try of this form
abbrev pub collectives_after : {Kept : Type 0} → Form Kept → (began : Option Answer) → Option CollectivesState
    → Option CollectivesState
collectives_after (Several first later) began now = option_or (step_part_of first later began).next now
collectives_after form began now = now

-- and after a try of the thread's next step, where this is left of its script
abbrev pub collectives_then : {Kept Action : Type 0}
    → Reading Kept Action → StepContext → (began : Option Answer) → (left : List Action) → (before : Node Kept)
    → Option CollectivesState
collectives_then form at began [] before = at.collectives
collectives_then form at began (action ∷ rest) before =
    collectives_after (form action at before) began at.collectives

-- the scripts of a node whose actions are read so
abbrev pub scripts_of : {Kept Action : Type 0} → Reading Kept Action → Scripts Kept (OwnScripts Action)
scripts_of form = record {
  calls = λ at own before.
      next_calls form (step_context at own) (own.threads at.thread).began (own.threads at.thread).left before;
  tried = λ at own before after answer.
      let here = step_context at own in
      let progress = own.threads at.thread in
      let tried = tried_step form here progress.began progress.left before after answer in
      record {
        left = record {
          threads = put own.threads at.thread tried.left;
          collectives = collectives_then form here progress.began progress.left before;
        };
        ended = tried.ended;
        began = tried.began;
      };
}

-- ---- what actions may say

-- how far a node's collectives are is one that may be, where the node has any
abbrev pub IfFar : (CollectivesState → Type 0) → Option CollectivesState → Type 0
IfFar Far None = Unit {0}
IfFar Far (Some it) = Far it

-- each call of the form is one that may be made
abbrev pub FormMay : {Kept : Type 0} → (ThreadCall → Type 0) → Form Kept → Type 0
FormMay May (Once call) = May call
FormMay May (Again waits call) = May call
FormMay May (Until call ends) = May call
FormMay May (Twice begin next waits says) =
    May begin × ((answer : Answer) (call : ThreadCall) → next answer ≡ Some call → May call)
FormMay May (Looks begin ready) = May begin
FormMay May (Several first later) = AllByRecursion May first.calls × AllByRecursion May later.calls

-- so far the node's collectives may be after the form, where that changes them
abbrev pub FormFar : {Kept : Type 0} → (CollectivesState → Type 0) → Form Kept → Type 0
FormFar Far (Several first later) = IfFar Far first.next × IfFar Far later.next
FormFar Far form = Unit {0}

-- of an action that is read as this form: its calls may be made where the node keeps what fits
pub record ReadMay {Kept : Type 0} (Fits : Kept → Type 0) (May : ThreadCall → Type 0) (Far : CollectivesState → Type 0)
    (node : Node Kept) (form : Form Kept) : Type 0 where
  pub calls : Fits node.local → FormMay May form
  pub far : FormFar Far form

-- it is so in any context
abbrev pub ActionMay : {Kept Action : Type 0} → (Fits : Kept → Type 0) → (ThreadCall → Type 0)
    → (Far : CollectivesState → Type 0) → Reading Kept Action → Action → Type 0
ActionMay {Kept} Fits May Far form action =
    (at : StepContext) (node : Node Kept) → IfFar Far at.collectives → ReadMay Fits May Far node (form action at node)

-- so is each action that is left; and so far the node's collectives may be
pub record ActionsMay {Kept Action : Type 0} (Fits : Kept → Type 0) (May : ThreadCall → Type 0)
    (Far : CollectivesState → Type 0) (form : Reading Kept Action) (own : OwnScripts Action) : Type 0 where
  pub threads : (thread : ℕ) → AllByRecursion (ActionMay Fits May Far form) (own.threads thread).left
  pub far : IfFar Far own.collectives
