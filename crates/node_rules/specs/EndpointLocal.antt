-- What an endpoint's node keeps beside its requests and runs.
-- Origin: GASNet 1.8.1, core API, extended API. Registers of handles are this project's profile.
use Rattle.std.specs.Prelude.{ℕ, ◌≡◌, ◌≢◌, ◌<◌, ◌≤◌, ◌+◌, nat_lt, Bool, true, List, [], Option, None, Some, replicate}
use Rattle.wire_message.specs.Parameters.{Parameters}
use Rattle.base_lists.specs.Numbered.{element_at}
use Rattle.part_transfers.specs.declared.regions.Region.{Region}
use Rattle.part_barrier.specs.Record.{BarrierRecord, opened_record}
use Rattle.part_barrier.specs.Within.{IsWithin}
use Rattle.part_transfers.specs.declared.operation.Handle.{Handle}
use Rattle.part_transfers.specs.declared.operation.Transfer.{Transfer}
use Rattle.part_transfers.specs.declared.operation.Transfer.TheVariants as transfers
use Rattle.part_transfers.specs.Operation.{Operation, target, size}
use Rattle.node_core.specs.Kept.{Local, IsKept, with_writes, nothing_done}
use Rattle.part_segment.specs.Image.{Write}

-- what handlers and the calls of the core API touch; all operations that ever began, in order; the access region that
-- each thread has begun; the registers of handles; and all that the node's barrier ever notified, heard and sent
pub record EndpointLocal : Type 0 where
  pub core : Local
  pub operations : List Operation
  pub regions : List (Option Region)
  pub registers : List Handle
  pub barrier : BarrierRecord

-- the part that a core keeps
abbrev pub core_of : EndpointLocal → Local
core_of local = local.core

abbrev pub with_core : EndpointLocal → Local → EndpointLocal
with_core local core = record local { core = core }

-- this was written into the segment, too
abbrev pub with_all_written : EndpointLocal → List Write → EndpointLocal
with_all_written local writes = with_core local (with_writes local.core writes)

-- GASNET_INVALID_HANDLE
abbrev pub invalid : Handle
invalid = record { serial = 0 }

-- before all events: no operation began, no thread has begun a region, each of the 256 registers is invalid, and the
-- barrier is in phase 0
abbrev pub nothing_begun : Parameters → EndpointLocal
nothing_begun settings = record {
  core = nothing_done;
  operations = [];
  regions = replicate settings.threads None;
  registers = replicate 256 invalid;
  barrier = opened_record;
}

-- ---- what holds of it in every state

-- where a transfer's range of the local segment ends
abbrev pub own_end : Transfer → ℕ
own_end (transfers.Put to remote local len) = local + len
own_end (transfers.Get to remote local len) = local + len
own_end (transfers.Memset to remote len byte) = 0

-- and its range of the target's segment
abbrev pub remote_end : Transfer → ℕ
remote_end (transfers.Put to remote local len) = remote + len
remote_end (transfers.Get to remote local len) = remote + len
remote_end (transfers.Memset to remote len byte) = remote + len

-- what a memset writes is a byte
abbrev pub has_byte : Transfer → Bool
has_byte (transfers.Memset to remote len byte) = nat_lt byte 256
has_byte _ = true

-- the transfer is one by chunks: it has bytes, its target is another node, and its ranges lie inside the segments
pub record IsByChunks (settings : Parameters) (me : ℕ) (transfer : Transfer) : Type 0 where
  pub there : target transfer < settings.nodes
  pub other : target transfer ≢ me
  pub some_bytes : 0 < size transfer
  pub own : own_end transfer ≤ settings.segment
  pub remote : remote_end transfer ≤ settings.segment
  pub byte : has_byte transfer ≡ true

-- so is that of each of these operations
abbrev pub AreByChunks : Parameters → (me : ℕ) → List Operation → Type 0
AreByChunks settings me operations =
    (number : ℕ) (operation : Operation) → element_at operations number ≡ Some operation
    → IsByChunks settings me operation.transfer

-- what holds of what the node `me` keeps: beside what holds of the core's part, its operations are by chunks, and the
-- notifications of its barrier can be written
pub record IsEndpointKept (settings : Parameters) (me : ℕ) (local : EndpointLocal) : Type 0 where
  pub core : IsKept settings me local.core
  pub operations : AreByChunks settings me local.operations
  pub barrier : IsWithin settings.nodes local.barrier
