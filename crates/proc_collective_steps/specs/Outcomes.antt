-- What one try of a step does with the collectives of its node: the calls that are made, what the step is answered, and
-- how far the node is then. Origin: this project's profile, over GASNet 1.8.1, core API, active messages.
use Rattle.std.specs.Prelude.{ℕ, zero, suc, Bool, true, false, ◌&&◌, is_none, List, [], ◌∷◌}
use Rattle.std.specs.Prelude.{Option, None, Some}
use Rattle.spec_node.specs.Record.{Node}
use Rattle.spec_node.specs.declared.answer.SlotRef.{SlotRef}
use Rattle.node_rules.specs.EndpointLocal.{EndpointLocal}
use Rattle.node_rules.specs.Sends.{sends}
use Rattle.node_rules.specs.declared.answer.Answer.{Answer}
use Rattle.node_collectives.specs.CollectivesState.{CollectivesState, progress_of}
use Rattle.node_collectives.specs.Ends.{EndAsked, end_calls, ended_then, segment_in, tried_answer}
use Rattle.node_collectives.specs.Progress.{end_refusal, is_left, is_open, start_refusal, exhausted_node}
use Rattle.node_collectives.specs.Starts.{StartAsked, start_call, start_told, started_then}
use Rattle.node_collectives.specs.Steps.{after_ask, step_call, step_told}
use Rattle.node_collectives.specs.declared.answers.EndAnswer.{EndAnswer}
use Rattle.node_collectives.specs.declared.answers.EndAnswer.TheVariants as ends
use Rattle.node_collectives.specs.declared.answers.StartAnswer.{StartAnswer}
use Rattle.node_collectives.specs.declared.answers.StartAnswer.TheVariants as starts
use Rattle.node_collectives.specs.declared.answers.StepAnswer.{StepAnswer}
use Rattle.node_collectives.specs.declared.answers.StepAnswer.TheVariants as steps
use Rattle.node_endpoint.specs.Sites.{Site, ThreadCall, answer_at, node_then}

-- ---- a call of the node's collectives

-- the calls that it makes of the node, in order, what it is answered, and how far the node is then
pub record Outcome (Told : Type 0) : Type 0 where
  pub calls : List ThreadCall
  pub answer : Told
  pub next : CollectivesState

-- it makes no call
abbrev pub without_calls : {Told : Type 0} → Told → CollectivesState → Outcome Told
without_calls answer it = record { calls = []; answer = answer; next = it }

-- a start: refused before any call, or its one call is made
abbrev pub start_by : Site → Node EndpointLocal → CollectivesState → StartAsked → Option StartAnswer
    → Outcome StartAnswer
start_by site node it asked (Some refusal) = without_calls refusal it
start_by site node it asked None =
    let call = start_call it asked in
    let answer = start_told (Some (answer_at site node call)) in
    record { calls = call ∷ []; answer = answer; next = started_then answer it asked.shape }

abbrev pub start_outcome : Site → Node EndpointLocal → CollectivesState → StartAsked → Outcome StartAnswer
start_outcome site node it asked =
    start_by site node it asked
    (start_refusal it.area it.settings.segment (progress_of it) asked.shape asked.from)

-- behind a call of the node
abbrev pub behind_call : {Told : Type 0} → ThreadCall → Outcome Told → Outcome Told
behind_call call later = record { calls = call ∷ later.calls; answer = later.answer; next = later.next }

-- a step, from this node on, of so many: each that is left is asked, until one ends the step
abbrev pub step_from : Site → (thread to many : ℕ) → Node EndpointLocal → CollectivesState → Outcome StepAnswer
step_from site thread to zero node it = without_calls steps.Nothing it
step_from site thread to (suc many) node it = elim (is_left it.me to (progress_of it)) [
  | false ↦ step_from site thread (suc to) many node it
  | true ↦ (let call = step_call it thread to in
      let told = Some (answer_at site node call) in
      behind_call call (elim (step_told to told) [
        | Some end ↦ without_calls end (after_ask it to told)
        | None ↦ step_from site thread (suc to) many (node_then site node call) (after_ask it to told)
      ]))
]

-- where no phase is open, nothing is done
abbrev pub step_outcome : Site → (thread : ℕ) → Node EndpointLocal → CollectivesState → Outcome StepAnswer
step_outcome site thread node it = elim (is_open (progress_of it)) [
  | true ↦ step_from site thread 0 it.area.nodes node it
  | false ↦ without_calls steps.Nothing it
]

-- a try to end: refused before any call, or a poll and what writes the result
abbrev pub end_by : Site → Node EndpointLocal → CollectivesState → EndAsked → Option EndAnswer → Outcome EndAnswer
end_by site node it asked (Some refusal) = without_calls refusal it
end_by site node it asked None =
    let answer = tried_answer site node it asked.thread in
    record {
      calls = end_calls it (segment_in site node) asked answer;
      answer = answer;
      next = ended_then answer it;
    }

abbrev pub end_outcome : Site → Node EndpointLocal → CollectivesState → EndAsked → Outcome EndAnswer
end_outcome site node it asked =
    end_by site node it asked (end_refusal it.area it.settings.segment it.me (progress_of it) asked.dest)

-- ---- what a caller keeps

-- how the last of these calls is answered; this one, where there is none
abbrev pub last_from : Site → Option Answer → Node EndpointLocal → List ThreadCall → Option Answer
last_from site last node [] = last
last_from site last node (call ∷ later) =
    last_from site (Some (answer_at site node call)) (node_then site node call) later

-- the slot of the message that the call of this answer sent
abbrev pub sent_by : Option Answer → Option SlotRef
sent_by None = None
sent_by (Some answer) = sends answer

-- ---- a whole collective

-- a start that isn't refused: the phase is started, or the start waits for a lock
abbrev pub start_ends : StartAnswer → Option StartAnswer
start_ends starts.Started = None
start_ends (starts.LockBusy lock) = None
start_ends answer = Some answer

-- the phase is started
abbrev pub is_started : StartAnswer → Bool
is_started starts.Started = true
is_started answer = false

-- a step that ends the collective
abbrev pub step_ends : StepAnswer → Option StepAnswer
step_ends (steps.Forbidden why) = Some (steps.Forbidden why)
step_ends steps.NoMemory = Some steps.NoMemory
step_ends answer = None

-- a try that ends it
abbrev pub try_ends : EndAnswer → Option EndAnswer
try_ends ends.NotReady = None
try_ends answer = Some answer

-- a step that sent nothing
abbrev pub is_nothing : StepAnswer → Bool
is_nothing steps.Nothing = true
is_nothing answer = false

-- no node that wasn't sent to is known to be exhausted
abbrev pub is_unexhausted : CollectivesState → Bool
is_unexhausted it = is_none (exhausted_node it.area it.me (progress_of it))

-- a step that changed nothing where the phase isn't ended: it sent nothing, and no mark of a node was there to change
abbrev pub is_quiet : CollectivesState → StepAnswer → Bool
is_quiet it answer = is_nothing answer && is_unexhausted it
