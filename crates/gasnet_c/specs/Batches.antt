-- Operations on words that C asks.
use Rattle.std.specs.Prelude.{ℕ, ◌≡◌, if◌then◌else◌, List, [], ◌∷◌, Option, Some, None, is_none, option_map}
use Rattle.std.proofs.Common.{ap, arith}
use Rattle.wire_message.specs.Parameters.{Parameters}
use Rattle.part_handlers.specs.Registered.{is_for_replies, is_for_requests}
use Rattle.part_handlers.specs.declared.table.Entry.{Entry}
use Rattle.node_rules.specs.Called.{Requests, meant}
use Rattle.node_rules.specs.declared.call.Call.{Call}
use Rattle.node_rules.specs.declared.call.Event.TheVariants as event
use Rattle.node_endpoint.specs.EndpointState.{EndpointState}
use Rattle.node_atomics.specs.Asking.{batch_asking}
use Rattle.node_atomics.specs.Batches.{BatchState}
use Rattle.node_atomics.specs.BatchRequests.{batch_fault}
use Rattle.node_atomics.specs.Served.{HasBatches}
use Rattle.node_atomics.specs.Words.{op_of}
use Rattle.part_collective_area.specs.Served.{HasCollectives}
use Rattle.node_atomics.specs.declared.word.Op.{Op}
use Rattle.gasnet_c.specs.Opening.{ServesAll}
use Rattle.gasnet_c.specs.OwnHandlers.{serving}
use Rattle.gasnet_c.specs.Telling.{IsDead, IsNumber, TellsOf}
use Rattle.gasnet_c.specs.declared.atomics.Operation.{Operation}
use Rattle.gasnet_c.specs.declared.told.Told.{Told}

-- a node that C opened has batches
pub has_batches : (table : List (Option Entry)) → ServesAll table → HasBatches table
has_batches table serves = record {
  requests = ap is_for_requests (serves 252 (omega arith) (omega arith));
  replies = ap is_for_replies (serves 253 (omega arith) (omega arith));
}

-- it has collectives too
pub has_collectives : (table : List (Option Entry)) → ServesAll table → HasCollectives table
has_collectives table serves = ap is_for_requests (serves 254 (omega arith) (omega arith))

-- ---- what C asks

-- a batch of one operation
abbrev pub batch_with : Parameters → Operation → Op → BatchState
batch_with settings what op = record {
  settings = settings;
  to = what.to;
  request = record {
    local = what.local;
    tag = what.tag;
    ops = record { op = op; offset = what.offset; a = what.a; b = what.b } ∷ [];
  };
}

-- a batch, where nothing is wrong with it
abbrev pub if_faultless : Option BatchState → Option BatchState
if_faultless None = None
if_faultless (Some batch) =
    if is_none (batch_fault batch.settings batch.to batch.request) then Some batch else None

-- the batch of an operation; none where no operation has its number, or something is wrong with it
abbrev pub batch_for : Parameters → Operation → Option BatchState
batch_for settings what = if_faultless (option_map (batch_with settings what) (op_of what.op))

-- ---- what C is told

-- the node's thread asked the batch by one call, and C is told the answer; where there is none, C is told so by the
-- number of what is bad, and nothing happened
abbrev pub AsksBatch : Option BatchState → EndpointState → (now : ℕ) → Told → List ℕ → EndpointState → Type 0
AsksBatch None old now told buffer new = IsNumber 5 0 told × (new ≡ old)
AsksBatch (Some batch) old now told buffer new =
    (call : Call) × (meant call ≡ Requests batch.to (batch_asking batch.request))
    × TellsOf serving old now (event.Call 0 call) told buffer new

-- so it is of a node that is held; else nothing happened
abbrev pub TellsBatch : Option EndpointState → (now : ℕ) → Operation → Told → List ℕ → Option EndpointState → Type 0
TellsBatch (Some old) now what told buffer (Some new) =
    AsksBatch (batch_for old.core.settings what) old now told buffer new
TellsBatch (Some old) now what told buffer None = ⊥
TellsBatch None now what told buffer new = IsDead told × (new ≡ None)
