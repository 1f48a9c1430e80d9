-- The parts of a step's outcome, by whether a node is left and by what it answered.
use Rattle.std.proofs.Common.{◌≡◌, ℕ, suc, Bool, true, false, Option, None, Some, refl}
use Rattle.spec_node.specs.Record.{Node}
use Rattle.spec_node.specs.declared.answer.Asked.{Asked}
use Rattle.node_rules.specs.EndpointLocal.{EndpointLocal}
use Rattle.node_rules.specs.EndpointRules.{asked_answer}
use Rattle.node_rules.specs.declared.answer.Answer.{Answer}
use Rattle.node_collectives.specs.CollectivesState.{CollectivesState}
use Rattle.node_collectives.specs.Steps.{after_ask, step_call, step_told}
use Rattle.node_collectives.specs.declared.answers.StepAnswer.{StepAnswer}
use Rattle.node_collectives.specs.declared.answers.StepAnswer.TheVariants as steps
use Rattle.node_endpoint.specs.Sites.{Site, answer_at, node_then}
use Rattle.proc_collective_steps.specs.Outcomes.{Outcome, behind_call, step_from, without_calls}

-- the rest of a step behind a call that was answered so
abbrev pub rest_from : Site → (thread to many : ℕ) → (next : Node EndpointLocal) → CollectivesState → Option Answer
    → Option StepAnswer → Outcome StepAnswer
rest_from site thread to many next it told stop = elim stop [
  | Some end ↦ without_calls end (after_ask it to told)
  | None ↦ step_from site thread (suc to) many next (after_ask it to told)
]

-- behind the call to a node
abbrev pub asked_from : Site → (thread to many : ℕ) → Node EndpointLocal → CollectivesState → Option Answer
    → Outcome StepAnswer
asked_from site thread to many node it told =
    let call = step_call it thread to in
    behind_call call (rest_from site thread to many (node_then site node call) it told (step_told to told))

-- by whether the node is left
abbrev pub from_left : Site → (thread to many : ℕ) → Node EndpointLocal → CollectivesState → (left : Bool)
    → Outcome StepAnswer
from_left site thread to many node it left = elim left [
  | false ↦ step_from site thread (suc to) many node it
  | true ↦ asked_from site thread to many node it (Some (answer_at site node (step_call it thread to)))
]

-- by whether a phase is open
abbrev pub from_open : Site → (thread : ℕ) → Node EndpointLocal → CollectivesState → (open_ : Bool) → Outcome StepAnswer
from_open site thread node it open_ = elim open_ [
  | true ↦ step_from site thread 0 it.area.nodes node it
  | false ↦ without_calls steps.Nothing it
]

-- how the node answers the request of a step
pub asked_there : (site : Site) (node : Node EndpointLocal) (it : CollectivesState) (thread to : ℕ)
    → (a : Asked) × (answer_at site node (step_call it thread to) ≡ asked_answer a)
asked_there site node it thread to = (_, refl)
