-- What a step does: the calls that it makes, in their order, how they are answered, and how far the node is then.
use Rattle.std.specs.Prelude.{ℕ, zero, suc, ◌≡◌, if◌then◌else◌, Bool, true, false, List, [], Option, None, Some}
use Rattle.std.specs.Prelude.{slice_set}
use Rattle.spec_node.specs.declared.answer.Asked.TheVariants as asked
use Rattle.spec_node.specs.Behaviour.{PayloadFrom, Lent, Own}
use Rattle.node_rules.specs.declared.answer.Answer.{Answer}
use Rattle.node_rules.specs.declared.answer.Answer.TheVariants as answers
use Rattle.node_endpoint.specs.declared.caller.Caller.{Ghosts}
use Rattle.node_endpoint.specs.Sites.{ThreadCall}
use Rattle.part_collective_area.specs.Shapes.{uses}
use Rattle.node_collectives.specs.declared.answers.StepAnswer.{StepAnswer}
use Rattle.node_collectives.specs.declared.answers.StepAnswer.TheVariants as step_answers
use Rattle.node_collectives.specs.Progress.{is_left, is_open, step_ask}
use Rattle.node_collectives.specs.CollectivesState.{CollectivesState, progress_of}
use Rattle.node_collectives.specs.Starts.{CallsOne, call_of}

-- ---- the call to one node

-- the local part's data, which begins at this offset, where that node's result uses it
abbrev pub payload_for : CollectivesState → (to offset : ℕ) → PayloadFrom
payload_for it to offset = if uses it.shape it.me to then Own offset it.shape.len else Lent []

-- the call
abbrev pub step_call : CollectivesState → (thread to : ℕ) → ThreadCall
step_call it thread to = call_of (step_ask it.area it.me thread to (progress_of it))

-- by its answer the step ends so, or goes on to the next node
abbrev pub step_told : (to : ℕ) → Option Answer → Option StepAnswer
step_told to None = Some step_answers.NoMemory
step_told to (Some (answers.Forbidden forbidden)) = Some (step_answers.Forbidden forbidden)
step_told to (Some (answers.Asked (asked.Accepted there slot number))) = Some (step_answers.Sent to)
step_told to (Some other) = None

-- the nodes that the phase was sent to then: an accepted call sent it
abbrev pub sent_then : List Bool → (to : ℕ) → Option Answer → List Bool
sent_then marks to (Some (answers.Asked (asked.Accepted there slot number))) = slice_set marks to true
sent_then marks to told = marks

-- the nodes for which no number was left then: a call that is answered at all, and not accepted or forbidden, tells
-- whether one is
abbrev pub exhausted_then : List Bool → (to : ℕ) → Option Answer → List Bool
exhausted_then marks to None = marks
exhausted_then marks to (Some (answers.Forbidden forbidden)) = marks
exhausted_then marks to (Some (answers.Asked (asked.Accepted there slot number))) = marks
exhausted_then marks to (Some (answers.Asked asked.Exhausted)) = slice_set marks to true
exhausted_then marks to (Some other) = slice_set marks to false

-- how far the node is then
abbrev pub after_ask : CollectivesState → (to : ℕ) → Option Answer → CollectivesState
after_ask it to told = record it { sent = sent_then it.sent to told; exhausted = exhausted_then it.exhausted to told }

-- the node was asked, and what came of it was noted
pub record Sends {K : Type 0} (caller : Ghosts K) (thread to : ℕ) (it : CollectivesState) (old : K)
    (stop : Option StepAnswer) (next : CollectivesState) (new : K) : Type 0 where
  pub told : Option Answer
  pub called : CallsOne caller old (step_call it thread to) told new
  pub stop_is : stop ≡ step_told to told
  pub next_is : next ≡ after_ask it to told

-- ---- the calls to nodes, in rising order

-- it made no call more
pub record Rests {K : Type 0} (it : CollectivesState) (old : K) (end answer : StepAnswer) (next : CollectivesState)
    (new : K) : Type 0 where
  pub answer_is : answer ≡ end
  pub next_is : next ≡ it
  pub same : new ≡ old

-- This node and the next ones, so many, are tried: each one that is left is asked, until one ends the step
abbrev pub StepsFrom : {K : Type 0} → (caller : Ghosts K) → (thread to many : ℕ) → CollectivesState → K → StepAnswer
    → CollectivesState → K → Type 0
StepsFrom caller thread to zero it old answer next new = Rests it old step_answers.Nothing answer next new
StepsFrom {K} caller thread to (suc many) it old answer next new = elim (is_left it.me to (progress_of it)) [
  | false ↦ StepsFrom caller thread (suc to) many it old answer next new
  | true ↦ (stop : Option StepAnswer) × (after : CollectivesState) × (between : K)
      × Sends caller thread to it old stop after between
      × (elim stop [
        | Some end ↦ Rests after between end answer next new
        | None ↦ StepsFrom caller thread (suc to) many after between answer next new
      ])
]

-- where no phase is open, nothing is done
abbrev pub Steps : {K : Type 0} → (caller : Ghosts K) → (thread : ℕ) → CollectivesState → K → StepAnswer
    → CollectivesState → K → Type 0
Steps caller thread it old answer next new = elim (is_open (progress_of it)) [
  | true ↦ StepsFrom caller thread 0 it.area.nodes it old answer next new
  | false ↦ Rests it old step_answers.Nothing answer next new
]
