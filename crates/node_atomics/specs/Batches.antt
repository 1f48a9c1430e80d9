-- A batch, as a value, and how it is made.
use Rattle.std.specs.Prelude.{ℕ, ◌≡◌, ◌<◌, ◌^◌, Option, None, Some, Result, Ok, Err}
use Rattle.wire_message.specs.Parameters.{Parameters}
use Rattle.node_atomics.specs.declared.batch.BatchFault.{BatchFault}
use Rattle.node_atomics.specs.BatchRequests.{BatchRequest, batch_fault}
use Rattle.node_atomics.specs.Words.{AllHave64Bits}

-- the job's settings, the node that it is for, and what it asks of that node
pub record BatchState : Type 0 where
  pub settings : Parameters
  pub to : ℕ
  pub request : BatchRequest

-- nothing is wrong with it, and its numbers have 64 bits
pub record IsBatch (batch : BatchState) : Type 0 where
  pub faultless : batch_fault batch.settings batch.to batch.request ≡ None
  pub local : batch.request.local < 2 ^ 64
  pub tag : batch.request.tag < 2 ^ 64
  pub ops : AllHave64Bits batch.request.ops

-- the batch that was asked for, where nothing is wrong with it; else what is
abbrev pub IsMade : BatchState → Option BatchFault → Result BatchState BatchFault → Type 0
IsMade asked first (Ok made) = (first ≡ None) × (made ≡ asked)
IsMade asked first (Err why) = first ≡ Some why
