-- What the calls of a schedule are to the records of the nodes.
use Rattle.std.specs.Prelude.{ℤ, List, [], map, Some}
use Rattle.spec_node.specs.Behaviour.{PayloadFrom, Lent, Own}
use Rattle.node_core.specs.ClientRules.{short_asking, medium_asking, long_asking}
use Rattle.node_rules.specs.EndpointRules.{OnCore, OnTransfers, OnBarrier}
use Rattle.node_rules.specs.CoreCalls.{Poll, Attempt, Lock, Unlock, Cell, SetCell, OnSegment}
use Rattle.node_rules.specs.Memory.{Show, Set, Fill, LoadWord, SetWord}
use Rattle.node_rules.specs.TransferCalls.{Begin, BeginImplicit, IsIssued, Sync, SyncAll, SyncSome, SyncImplicit}
use Rattle.node_rules.specs.TransferCalls.{RegionBegin, RegionEnd}
use Rattle.node_rules.specs.BarrierCalls.{Notify, TryBarrier}
use Rattle.node_rules.specs.Called.{Meant, Requests, Performs}
use Rattle.node_atomics.specs.Asking.{batch_asking}
use Rattle.text_calls.specs.Payloads.{IsPayload}
use Rattle.text_calls.specs.declared.scheduled.LongText.{LongText}
use Rattle.text_calls.specs.declared.scheduled.MediumText.{MediumText}
use Rattle.text_calls.specs.declared.values.Payload.{Payload}
use Rattle.text_calls.specs.declared.values.Payload.TheVariants as payload
use Rattle.text_calls.specs.declared.scheduled.ScheduledCall.{ScheduledCall}
use Rattle.text_calls.specs.declared.scheduled.ScheduledCall.TheVariants as call
use Rattle.text_script.specs.Bodies.{operand_value}

-- where a payload is. No schedule has that of a message, which would have no bytes
abbrev pub given_from : Payload → PayloadFrom
given_from (payload.Bytes bytes) = Lent bytes
given_from (payload.Range offset len) = Own offset len
given_from payload.Message = Lent []

-- a Medium request, by the cells of its node
abbrev pub meant_medium : (cells : List ℤ) → MediumText → Meant
meant_medium cells text =
    Requests text.to
    (medium_asking text.handler (map (operand_value cells []) text.operands) (given_from text.payload))

-- a Long request, by the cells of its node
abbrev pub meant_long : (cells : List ℤ) → LongText → Meant
meant_long cells text =
    Requests text.to
    (long_asking text.handler (map (operand_value cells []) text.operands) (given_from text.payload) text.offset)

-- a call, by the cells of its node
abbrev pub meant_by : (cells : List ℤ) → ScheduledCall → Meant
meant_by cells (call.Short to handler operands) =
    Requests to (short_asking handler (map (operand_value cells []) operands))
meant_by cells (call.Medium text) = meant_medium cells text
meant_by cells (call.Long text) = meant_long cells text
meant_by cells (call.LongAsync text) = meant_long cells text
meant_by cells (call.Lock lock) = Performs (OnCore (Lock lock))
meant_by cells (call.Unlock lock) = Performs (OnCore (Unlock lock))
meant_by cells call.Poll = Performs (OnCore Poll)
meant_by cells (call.Attempt kind) = Performs (OnCore (Attempt kind))
meant_by cells (call.Cell cell) = Performs (OnCore (Cell cell))
meant_by cells (call.SetCell cell operand) = Performs (OnCore (SetCell cell (operand_value cells [] operand)))
meant_by cells (call.Show offset len) = Performs (OnCore (OnSegment (Show offset len)))
meant_by cells (call.Set offset bytes) =
    Performs (OnCore (OnSegment (Set (record { offset = offset; bytes = bytes }))))
meant_by cells (call.Fill offset len byte) = Performs (OnCore (OnSegment (Fill offset len byte)))
meant_by cells (call.Word offset) = Performs (OnCore (OnSegment (LoadWord offset)))
meant_by cells (call.SetWord offset number) = Performs (OnCore (OnSegment (SetWord offset number)))
meant_by cells (call.Begin register transfer) =
    Performs (OnTransfers (Begin (Some register) transfer))
meant_by cells (call.BeginImplicit transfer) = Performs (OnTransfers (BeginImplicit transfer))
meant_by cells (call.IsIssued register) = Performs (OnTransfers (IsIssued register))
meant_by cells (call.Sync register) = Performs (OnTransfers (Sync register))
meant_by cells (call.SyncAll registers) = Performs (OnTransfers (SyncAll registers))
meant_by cells (call.SyncSome registers) = Performs (OnTransfers (SyncSome registers))
meant_by cells (call.SyncImplicit which) = Performs (OnTransfers (SyncImplicit which))
meant_by cells call.RegionBegin = Performs (OnTransfers RegionBegin)
meant_by cells (call.RegionEnd register) = Performs (OnTransfers (RegionEnd register))
meant_by cells (call.Notify id flags) = Performs (OnBarrier (Notify id flags))
meant_by cells (call.TryBarrier id flags) = Performs (OnBarrier (TryBarrier id flags))
meant_by cells (call.Atomic batch) = Requests batch.to (batch_asking batch.request)

-- the payload of a request is one of a schedule
abbrev pub IsGiven : ScheduledCall → Type 0
IsGiven (call.Medium text) = IsPayload text.payload
IsGiven (call.Long text) = IsPayload text.payload
IsGiven (call.LongAsync text) = IsPayload text.payload
IsGiven _ = Unit {0}

-- the call is no request
abbrev pub IsOwn : ScheduledCall → Type 0
IsOwn (call.Short to handler operands) = ⊥
IsOwn (call.Medium text) = ⊥
IsOwn (call.Long text) = ⊥
IsOwn (call.LongAsync text) = ⊥
IsOwn (call.Atomic batch) = ⊥
IsOwn _ = Unit {0}

-- the call is one on the local segment
abbrev pub IsOnSegment : ScheduledCall → Type 0
IsOnSegment (call.Show offset len) = Unit {0}
IsOnSegment (call.Set offset bytes) = Unit {0}
IsOnSegment (call.Fill offset len byte) = Unit {0}
IsOnSegment (call.Word offset) = Unit {0}
IsOnSegment (call.SetWord offset number) = Unit {0}
IsOnSegment _ = ⊥

-- the call is one on transfers, regions or the barrier
abbrev pub IsOnTransfers : ScheduledCall → Type 0
IsOnTransfers (call.Begin register transfer) = Unit {0}
IsOnTransfers (call.BeginImplicit transfer) = Unit {0}
IsOnTransfers (call.IsIssued register) = Unit {0}
IsOnTransfers (call.Sync register) = Unit {0}
IsOnTransfers (call.SyncAll registers) = Unit {0}
IsOnTransfers (call.SyncSome registers) = Unit {0}
IsOnTransfers (call.SyncImplicit which) = Unit {0}
IsOnTransfers call.RegionBegin = Unit {0}
IsOnTransfers (call.RegionEnd register) = Unit {0}
IsOnTransfers (call.Notify id flags) = Unit {0}
IsOnTransfers (call.TryBarrier id flags) = Unit {0}
IsOnTransfers _ = ⊥
