-- Batches of remote atomics, as a line says them.
use Rattle.std.specs.Prelude.{ℕ}
use Rattle.node_atomics.specs.BatchRequests.{BatchRequest}

-- the node that a batch is for, and what it asks of that node
pub record BatchWords : Type 0 where
  pub to : ℕ
  pub request : BatchRequest
