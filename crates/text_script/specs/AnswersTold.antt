-- What an answer names, of an endpoint as it stands after it.
use Rattle.std.specs.Prelude.{◌≡◌, ◌+◌, ◌≤◌, ℕ, length, Some}
use Rattle.spec_node.specs.Record.{Node}
use Rattle.spec_node.specs.SlotMessages.{number_in_slot}
use Rattle.spec_node.specs.declared.answer.SlotRef.{SlotRef}
use Rattle.spec_node.specs.declared.answer.Ticked.{Ticked}
use Rattle.spec_node.specs.declared.answer.Ticked.TheVariants as ticked
use Rattle.node_core.specs.Kept.{segment_of}
use Rattle.node_rules.specs.EndpointLocal.{EndpointLocal}
use Rattle.node_endpoint.specs.EndpointState.{EndpointState, EndpointStands}
use Rattle.node_rules.specs.declared.answer.Answer.{Answer}
use Rattle.node_rules.specs.declared.answer.Answer.TheVariants as answers
use Rattle.node_rules.specs.declared.answer.Local.{Local as LocalAnswer}
use Rattle.node_rules.specs.declared.answer.Local.TheVariants as local
use Rattle.text_script.specs.AnswerWords.{Sight, sight_of}

-- what an answer names of the endpoint, whose node has this record
abbrev pub sight_at : EndpointState → Node EndpointLocal → Sight
sight_at endpoint node = sight_of endpoint.core.settings endpoint.core.me node

-- the slot of the endpoint has a message, with its number
pub record HasNumber (endpoint : EndpointState) (at : SlotRef) : Type 0 where
  pub node : Node EndpointLocal
  pub stands : EndpointStands endpoint node
  pub number : ℕ
  pub there : number_in_slot endpoint.core.settings endpoint.core.me node at ≡ Some number

-- the range lies inside the segment of the endpoint
pub record HasRange (endpoint : EndpointState) (offset len : ℕ) : Type 0 where
  pub node : Node EndpointLocal
  pub stands : EndpointStands endpoint node
  pub inside : offset + len ≤ length (segment_of endpoint.core.settings node.local.core)

-- the slot of what a tick sent has it
abbrev pub TicksItsNumbers : EndpointState → Ticked → Type 0
TicksItsNumbers endpoint (ticked.Retransmission at) = HasNumber endpoint at
TicksItsNumbers endpoint (ticked.Notification at) = HasNumber endpoint at
TicksItsNumbers endpoint (ticked.Chunk at) = HasNumber endpoint at
TicksItsNumbers endpoint ticked.Nothing = Unit {0}

-- the range that is shown lies inside the segment
abbrev pub NamesItsBytes : EndpointState → LocalAnswer → Type 0
NamesItsBytes endpoint (local.Shown offset len) = HasRange endpoint offset len
NamesItsBytes endpoint _ = Unit {0}

-- what an answer names is there at the endpoint as it stands after it
abbrev pub NamesWhatIs : EndpointState → Answer → Type 0
NamesWhatIs endpoint (answers.Local answer) = NamesItsBytes endpoint answer
NamesWhatIs endpoint (answers.Ticked sent) = TicksItsNumbers endpoint sent
NamesWhatIs endpoint _ = Unit {0}
