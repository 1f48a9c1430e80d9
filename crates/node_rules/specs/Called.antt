-- What a thread's call is to the records: a request, or another call.
use Rattle.std.specs.Prelude.{ℕ, ◌≡◌, ◌==◌, Bool, false, not, Option, None, Some}
use Rattle.spec_node.specs.Behaviour.{Asking}
use Rattle.node_core.specs.declared.asking.Asking.{Asking as CodeAsking}
use Rattle.node_core.specs.AskedFor.{payload_from, asking_of}
use Rattle.node_core.specs.ClientRules.{short_asking, medium_asking, long_asking}
use Rattle.spec_node.specs.NodeStep.{Asks as NodeAsks, Does as NodeDoes}
use Rattle.spec_network.specs.World.{Asks, Does}
use Rattle.node_rules.specs.EndpointRules.{OtherCall, OnCore, OnTransfers, OnBarrier, RecordEvent, RecordsEvent}
use Rattle.node_rules.specs.CoreCalls.{Poll, Attempt, Lock, Unlock, Cell, SetCell, OnSegment}
use Rattle.node_rules.specs.TransferCalls.{Begin, BeginImplicit, IsIssued, Sync, SyncHandle, SyncAll, SyncSome}
use Rattle.node_rules.specs.TransferCalls.{SyncImplicit, RegionBegin, RegionEnd}
use Rattle.node_rules.specs.BarrierCalls.{Notify, TryBarrier}
use Rattle.node_rules.specs.Memory.{SegmentCall, Show, Set, Fill, LoadWord, SetWord}
use Rattle.node_rules.specs.declared.call.Call.{Call}
use Rattle.node_rules.specs.declared.call.Call.TheVariants as call

pub data Meant : Type 0 where
  Requests : (to : ℕ) → Asking → Meant  -- this, of that node
  Performs : OtherCall → Meant

-- what the call is
abbrev pub meant : Call → Meant
meant (call.Short to handler args) = Requests to (short_asking handler args.now)
meant (call.Medium to handler args payload) =
    Requests to (medium_asking handler args.now (payload_from payload))
meant (call.Long to handler args payload offset) =
    Requests to (long_asking handler args.now (payload_from payload) offset)
meant (call.LongAsync to handler args payload offset) =
    Requests to (long_asking handler args.now (payload_from payload) offset)
meant call.Poll = Performs (OnCore Poll)
meant (call.Attempt kind) = Performs (OnCore (Attempt kind))
meant (call.Lock lock) = Performs (OnCore (Lock lock))
meant (call.Unlock lock) = Performs (OnCore (Unlock lock))
meant (call.Begin reg transfer) = Performs (OnTransfers (Begin reg transfer))
meant (call.BeginImplicit transfer) = Performs (OnTransfers (BeginImplicit transfer))
meant (call.IsIssued reg) = Performs (OnTransfers (IsIssued reg))
meant (call.Sync reg) = Performs (OnTransfers (Sync reg))
meant (call.SyncHandle handle) = Performs (OnTransfers (SyncHandle handle))
meant (call.SyncAll regs) = Performs (OnTransfers (SyncAll regs.now))
meant (call.SyncSome regs) = Performs (OnTransfers (SyncSome regs.now))
meant (call.SyncImplicit some) = Performs (OnTransfers (SyncImplicit some))
meant call.RegionBegin = Performs (OnTransfers RegionBegin)
meant (call.RegionEnd reg) = Performs (OnTransfers (RegionEnd reg))
meant (call.Notify id flags) = Performs (OnBarrier (Notify id flags))
meant (call.TryBarrier id flags) = Performs (OnBarrier (TryBarrier id flags))
meant (call.Cell cell) = Performs (OnCore (Cell cell))
meant (call.SetCell cell value) = Performs (OnCore (SetCell cell value))
meant (call.Show offset len) = Performs (OnCore (OnSegment (Show offset len)))
meant (call.Set offset bytes) = Performs (OnCore (OnSegment (Set (record { offset = offset; bytes = bytes.now }))))
meant (call.Fill offset len byte) = Performs (OnCore (OnSegment (Fill offset len byte)))
meant (call.LoadWord offset) = Performs (OnCore (OnSegment (LoadWord offset)))
meant (call.SetWord offset value) = Performs (OnCore (OnSegment (SetWord offset value)))

-- the call is one on the local segment
abbrev pub IsOnSegment : Call → Type 0
IsOnSegment call = (on : SegmentCall) × (meant call ≡ Performs (OnCore (OnSegment on)))

-- this is what the thread asks, where the call is a request; else the call is another one
abbrev pub IsMeantBy : Call → (thread : ℕ) → Option CodeAsking → Type 0
IsMeantBy call thread None = (other : OtherCall) × (meant call ≡ Performs other)
IsMeantBy call thread (Some asking) =
    (asking.thread ≡ thread) × (meant call ≡ Requests asking.to (asking_of asking))

-- ---- as an event

-- of the node whose thread makes it
abbrev pub node_event : (thread : ℕ) → Meant → RecordEvent
node_event thread (Requests to asking) = NodeAsks (record { thread = thread; to = to; what = asking })
node_event thread (Performs call) = NodeDoes thread call

abbrev pub event_of_call : (thread : ℕ) → Call → RecordEvent
event_of_call thread call = node_event thread (meant call)

-- of the world
abbrev pub event_at : (node thread : ℕ) → Meant → RecordsEvent
event_at node thread (Requests to asking) = Asks node (record { thread = thread; to = to; what = asking })
event_at node thread (Performs call) = Does node thread call

abbrev pub called_at : (node thread : ℕ) → Call → RecordsEvent
called_at node thread call = event_at node thread (meant call)

-- ---- the node of which it is asked

abbrev pub IsAskedOf : Meant → (node : ℕ) → Type 0
IsAskedOf (Requests to asking) node = to ≡ node
IsAskedOf (Performs call) node = ⊥

-- the call is a request to that node
abbrev pub HasTarget : Call → (to : ℕ) → Type 0
HasTarget call to = IsAskedOf (meant call) to

-- it is a request of this node to another one
abbrev pub is_of_another : (node : ℕ) → Meant → Bool
is_of_another node (Requests to asking) = not (to == node)
is_of_another node (Performs call) = false

-- so is the call
abbrev pub is_to_other : (node : ℕ) → Call → Bool
is_to_other node call = is_of_another node (meant call)
