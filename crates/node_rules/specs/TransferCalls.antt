-- The calls of threads on transfers: their answers, and what they leave.
-- Origin: GASNet 1.8.1, extended API: data transfer, explicit and implicit synchronisation, access regions. Registers,
-- the order of refusals, and that an operation belongs to the thread that began it are this project's profile.
use Rattle.std.specs.Prelude.{ℕ, ◌==◌, nat_le, nat_lt, Bool, not, ◌||◌, if◌then◌else◌, List, [], ◌∷◌, map, filter}
use Rattle.std.specs.Prelude.{Option, None, Some, Result, Ok, Err, replicate, slice_index_or, slice_set}
use Rattle.wire_message.specs.Parameters.{Parameters}
use Rattle.part_segment.specs.Bytes.{part}
use Rattle.part_segment.specs.Image.{Write}
use Rattle.part_handlers.specs.declared.message.Which.{Which}
use Rattle.part_handlers.specs.declared.message.Which.TheVariants as which
use Rattle.part_handlers.specs.declared.rules.CallKind.{CallKind}
use Rattle.part_handlers.specs.declared.rules.CallKind.TheVariants as kinds
use Rattle.part_transfers.specs.declared.regions.Region.{Region as BegunRegion}
use Rattle.part_transfers.specs.Regions.{region_of, has_begun, name_of, empty_region, after_operation}
use Rattle.part_transfers.specs.declared.operation.Handle.{Handle}
use Rattle.part_transfers.specs.declared.operation.Mode.{Mode}
use Rattle.part_transfers.specs.declared.operation.Mode.TheVariants.{Explicit, Implicit, InRegion}
use Rattle.part_transfers.specs.declared.operation.ImplicitKinds.{ImplicitKinds}
use Rattle.part_transfers.specs.declared.operation.Synced.{Synced}
use Rattle.part_transfers.specs.declared.operation.Synced.TheVariants as synced
use Rattle.part_transfers.specs.declared.operation.TooMany.{TooMany}
use Rattle.part_transfers.specs.declared.operation.Transfer.{Transfer}
use Rattle.part_transfers.specs.declared.operation.Transfer.TheVariants as transfers
use Rattle.part_transfers.specs.Operation.{Operation, target, size, begin_answer, after_begin}
use Rattle.part_transfers.specs.Syncs.{handle_answer, after_handle, implicit_answer, implicit_of, left_by, issued_answer}
use Rattle.part_transfers.specs.Syncs.{all_answer, members_of, some_answer, whole_of, is_whole}
use Rattle.node_core.specs.Kept.{segment_of}
use Rattle.node_rules.specs.EndpointLocal.{EndpointLocal, with_all_written, invalid, own_end, remote_end, has_byte}
use Rattle.node_rules.specs.declared.answer.Answer.{Answer}
use Rattle.node_rules.specs.declared.answer.Answer.TheVariants as answers
use Rattle.node_rules.specs.declared.answer.Begun.{Begun}
use Rattle.node_rules.specs.declared.answer.Begun.TheVariants as begun
use Rattle.node_rules.specs.declared.answer.Region.TheVariants as region

pub data TransferCall : Type 0 where
  Begin : (register : Option ℕ) → Transfer → TransferCall  -- an explicit one; the register gets its handle
  BeginImplicit : Transfer → TransferCall
  IsIssued : (register : ℕ) → TransferCall
  Sync : (register : ℕ) → TransferCall
  SyncHandle : Handle → TransferCall
  SyncAll : (registers : List ℕ) → TransferCall
  SyncSome : (registers : List ℕ) → TransferCall
  SyncImplicit : ImplicitKinds → TransferCall
  RegionBegin : TransferCall
  RegionEnd : (register : ℕ) → TransferCall  -- the register gets the region's handle

-- as which kind of call the rule table judges it
abbrev pub transfer_kind : TransferCall → CallKind
transfer_kind (Begin register transfer) = kinds.Transfer
transfer_kind (BeginImplicit transfer) = kinds.Transfer
transfer_kind (IsIssued register) = kinds.Sync
transfer_kind (Sync register) = kinds.Sync
transfer_kind (SyncHandle handle) = kinds.Sync
transfer_kind (SyncAll registers) = kinds.Sync
transfer_kind (SyncSome registers) = kinds.Sync
transfer_kind (SyncImplicit some) = kinds.Sync
transfer_kind RegionBegin = kinds.Region
transfer_kind (RegionEnd register) = kinds.Region

-- a thread of the node `me`, and the nodes for which no number is left
pub record Caller : Type 0 where
  pub settings : Parameters
  pub me : ℕ
  pub thread : ℕ
  pub exhausted : ℕ → Bool

-- ---- beginnings

-- the first part of a transfer that is bad
abbrev pub transfer_fault : Parameters → Transfer → Option Which
transfer_fault settings transfer =
    if nat_le settings.nodes (target transfer) then Some which.Node
    else (if nat_lt settings.segment (own_end transfer) then Some which.Source
    else (if nat_lt settings.segment (remote_end transfer) || not (has_byte transfer) then Some which.Offset
    else None))

-- it is done in its call: it has no bytes, or its target is the local node
abbrev pub is_at_once : (me : ℕ) → Transfer → Bool
is_at_once me transfer = (size transfer == 0) || (target transfer == me)

abbrev pub begun_as : Result Handle TooMany → Begun
begun_as (Ok handle) = begun.Handle handle
begun_as (Err many) = begun.TooMany

abbrev pub unless_bad : Option Which → Begun → Begun
unless_bad None answer = answer
unless_bad (Some part) answer = begun.BadArg part

-- how the beginning of a transfer is answered
abbrev pub begin_says : Caller → Transfer → List Operation → Begun
begin_says caller transfer operations =
    unless_bad (transfer_fault caller.settings transfer)
    (if is_at_once caller.me transfer then begun.Done else begun_as (begin_answer operations))

-- what a transfer of the node to itself writes, where its segment has these bytes
abbrev pub own_write : (segment : List ℕ) → Transfer → Write
own_write segment (transfers.Put to remote local len) =
    record { offset = remote; bytes = part segment local len }
own_write segment (transfers.Get to remote local len) =
    record { offset = local; bytes = part segment remote len }
own_write segment (transfers.Memset to remote len byte) =
    record { offset = remote; bytes = replicate len byte }

-- what is written at once: nothing, where it has no bytes
abbrev pub written_at_once : (segment : List ℕ) → Transfer → List Write
written_at_once segment transfer = if size transfer == 0 then [] else own_write segment transfer ∷ []

-- what the beginning leaves, by its answer
abbrev pub after_beginning : Caller → Transfer → Mode → Begun → EndpointLocal → EndpointLocal
after_beginning caller transfer mode (begun.Handle handle) local =
    record local { operations = after_begin caller.thread transfer mode local.operations }
after_beginning caller transfer mode begun.Done local =
    with_all_written local (written_at_once (segment_of caller.settings local.core) transfer)
after_beginning caller transfer mode _ local = local

-- ---- registers

-- the handle in a register
abbrev pub handle_in : List Handle → (register : ℕ) → Handle
handle_in registers register = slice_index_or registers register invalid

-- the registers after the beginning of a transfer, by its answer
abbrev pub with_begun : Option ℕ → Begun → List Handle → List Handle
with_begun (Some register) (begun.Handle handle) registers = slice_set registers register handle
with_begun (Some register) begun.Done registers = slice_set registers register invalid
with_begun _ _ registers = registers

-- those of a list become invalid
abbrev pub with_invalid : (which : List ℕ) → List Handle → List Handle
with_invalid [] registers = registers
with_invalid (register ∷ later) registers = with_invalid later (slice_set registers register invalid)

-- so they do where the answer is Ok
abbrev pub emptied_by : Synced → (which : List ℕ) → List Handle → List Handle
emptied_by synced.Ok which registers = with_invalid which registers
emptied_by _ which registers = registers

-- those of a list whose operations are complete
abbrev pub whole_registers : List Operation → List Handle → (which : List ℕ) → List ℕ
whole_registers operations registers which =
    filter (λ (register : ℕ). is_whole operations (handle_in registers register)) which

-- ---- implicit transfers

-- in the region that the thread has begun, or else in none
abbrev pub implicit_mode : List (Option BegunRegion) → (thread : ℕ) → Mode
implicit_mode regions thread = if has_begun regions thread then InRegion (name_of regions thread) else Implicit

-- the regions after the thread began an implicit transfer, by its answer
abbrev pub with_name : (thread : ℕ) → Begun → List (Option BegunRegion) → List (Option BegunRegion)
with_name thread (begun.Handle handle) regions = after_operation regions thread handle.serial
with_name thread _ regions = regions

-- ---- regions

-- the end of the region that the thread has begun
abbrev pub after_region : Caller → (register : ℕ) → Option BegunRegion → EndpointLocal → Answer × EndpointLocal
after_region caller register None local = (answers.Region region.NoRegion, local)
after_region caller register (Some was) local =
    let regions = slice_set local.regions caller.thread None in
    elim was.name [
      | None ↦ (
        answers.Region region.Done,
        record local { regions = regions; registers = slice_set local.registers register invalid },
      )
      | Some name ↦ (
        answers.Region (region.Handle (record { serial = name })),
        record local { regions = regions; registers = slice_set local.registers register (record { serial = name }) },
      )
    ]

-- ---- every call

-- the answer of a call that the rule table allows, and what it leaves
abbrev pub transfer_does : Caller → TransferCall → EndpointLocal → Answer × EndpointLocal
transfer_does caller (Begin register transfer) local =
    let says = begin_says caller transfer local.operations in (
      answers.Begun says,
      record (after_beginning caller transfer Explicit says local) {
        registers = with_begun register says local.registers;
      },
    )
transfer_does caller (BeginImplicit transfer) local =
    let says = begin_says caller transfer local.operations in
    let mode = implicit_mode local.regions caller.thread in (
      answers.Started says,
      record (after_beginning caller transfer mode says local) {
        regions = with_name caller.thread says local.regions;
      },
    )
transfer_does caller (IsIssued register) local =
    (answers.Issued (issued_answer (handle_in local.registers register).serial local.operations), local)
transfer_does caller (Sync register) local =
    let handle = (handle_in local.registers register).serial in
    let says = handle_answer caller.exhausted caller.thread handle local.operations in
    (answers.Synced says, record local { operations = after_handle says handle local.operations })
transfer_does caller (SyncHandle handle) local =
    let says = handle_answer caller.exhausted caller.thread handle.serial local.operations in
    (answers.Synced says, record local { operations = after_handle says handle.serial local.operations })
transfer_does caller (SyncAll registers) local =
    let handles = map (handle_in local.registers) registers in
    let says = all_answer caller.exhausted caller.thread handles local.operations in (
      answers.Synced says,
      record local {
        operations = left_by says (members_of handles local.operations) local.operations;
        registers = emptied_by says registers local.registers;
      },
    )
transfer_does caller (SyncSome registers) local =
    let handles = map (handle_in local.registers) registers in
    let says = some_answer caller.exhausted caller.thread handles local.operations in (
      answers.Synced says,
      record local {
        operations = left_by says (whole_of handles local.operations) local.operations;
        registers = emptied_by says (whole_registers local.operations local.registers registers) local.registers;
      },
    )
transfer_does caller (SyncImplicit some) local =
    if has_begun local.regions caller.thread then (answers.Region region.InRegion, local)
    else (let says = implicit_answer caller.exhausted caller.thread some local.operations in (
      answers.Synced says,
      record local { operations = left_by says (implicit_of caller.thread some) local.operations },
    ))
transfer_does caller RegionBegin local =
    if has_begun local.regions caller.thread then (answers.Region region.Nested, local)
    else (
      answers.Region region.Begun,
      record local { regions = slice_set local.regions caller.thread (Some empty_region) },
    )
transfer_does caller (RegionEnd register) local =
    after_region caller register (region_of local.regions caller.thread) local
