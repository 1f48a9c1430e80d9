-- The frame of each call: which parts of a node's record it may change. It leaves the other parts as they were.
use Rattle.std.specs.Prelude.{◌≡◌, Bool, true, false, List, Option}
use Rattle.wire_message.specs.Parameters.{Parameters}
use Rattle.part_handlers.specs.declared.table.Entry.{Entry}
use Rattle.part_handlers.specs.Runs.{Meaning}
use Rattle.node_core.specs.ClientRules.{rules}
use Rattle.node_rules.specs.EndpointLocal.{EndpointLocal}
use Rattle.node_rules.specs.CoreCalls.{LocalCall, Lock, Unlock, SetCell, OnSegment}
use Rattle.node_rules.specs.TransferCalls.{TransferCall, Begin, BeginImplicit, Sync, SyncHandle, SyncAll}
use Rattle.node_rules.specs.TransferCalls.{SyncSome, SyncImplicit, RegionBegin, RegionEnd, Caller}
use Rattle.node_rules.specs.EndpointRules.{OtherCall, OnCore, OnTransfers, OnBarrier, endpoint_rules, does_call}

-- the parts of the record, and whether a call may change each; the log of violations is none of them, since any call
-- that is judged may add to it
pub record Parts : Type 0 where
  pub writes : Bool
  pub cells : Bool
  pub locks : Bool
  pub operations : Bool
  pub regions : Bool
  pub registers : Bool
  pub barrier : Bool

-- no part
abbrev pub nothing : Parts
nothing = record {
  writes = false;
  cells = false;
  locks = false;
  operations = false;
  regions = false;
  registers = false;
  barrier = false;
}

-- of calls on transfers; a call that touches nothing needs no row
abbrev pub transfer_touches : TransferCall → Parts
transfer_touches (Begin register transfer) =
    record nothing { writes = true; operations = true; registers = true }
transfer_touches (BeginImplicit transfer) = record nothing { writes = true; operations = true; regions = true }
transfer_touches (Sync register) = record nothing { operations = true }
transfer_touches (SyncHandle handle) = record nothing { operations = true }
transfer_touches (SyncAll registers) = record nothing { operations = true; registers = true }
transfer_touches (SyncSome registers) = record nothing { operations = true; registers = true }
transfer_touches (SyncImplicit some) = record nothing { operations = true }
transfer_touches RegionBegin = record nothing { regions = true }
transfer_touches (RegionEnd register) = record nothing { regions = true; registers = true }
transfer_touches _ = nothing

-- of calls on what a core keeps; a call that touches nothing needs no row
abbrev pub core_touches : LocalCall → Parts
core_touches (Lock lock) = record nothing { locks = true }
core_touches (Unlock lock) = record nothing { locks = true }
core_touches (SetCell cell value) = record nothing { cells = true }
core_touches (OnSegment call) = record nothing { writes = true }
core_touches _ = nothing

-- of any call; what a whole group of calls never touches is false for each of them, also for one that isn't known
abbrev pub touches : OtherCall → Parts
touches (OnCore call) = record nothing {
  writes = (core_touches call).writes;
  cells = (core_touches call).cells;
  locks = (core_touches call).locks;
}
touches (OnTransfers call) = record nothing {
  writes = (transfer_touches call).writes;
  operations = (transfer_touches call).operations;
  regions = (transfer_touches call).regions;
  registers = (transfer_touches call).registers;
}
touches (OnBarrier call) = record nothing { barrier = true }

-- the frame condition: each part that isn't touched is as before
pub record IsFramed (touched : Parts) (before after : EndpointLocal) : Type 0 where
  pub writes : touched.writes ≡ false → after.core.writes ≡ before.core.writes
  pub cells : touched.cells ≡ false → after.core.cells ≡ before.core.cells
  pub locks : touched.locks ≡ false → after.core.locks ≡ before.core.locks
  pub operations : touched.operations ≡ false → after.operations ≡ before.operations
  pub regions : touched.regions ≡ false → after.regions ≡ before.regions
  pub registers : touched.registers ≡ false → after.registers ≡ before.registers
  pub barrier : touched.barrier ≡ false → after.barrier ≡ before.barrier

-- each call that makes no request meets its frame condition, whatever it is answered
abbrev pub CallsAreFramed : Type 0
CallsAreFramed =
    (settings : Parameters) (table : List (Option Entry)) (meaning : Meaning) (caller : Caller) (call : OtherCall)
    (local : EndpointLocal)
    → IsFramed (touches call) local
    (does_call (endpoint_rules settings table meaning) (rules settings table meaning) caller call local).1
