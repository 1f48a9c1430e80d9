-- What a client may rely on where a synchronisation of transfers answers Ok.
-- Origin: GASNet 1.8.1, extended API: data transfer, explicit and implicit synchronisation, access regions. That a
-- transfer goes by chunks, and what is written where ranges overlap, is this project's profile.
use Rattle.std.specs.Prelude.{ℕ, ◌≡◌, ◌⊎◌, ◌+◌, ◌<◌, ◌≤◌, ◌==◌, true, false, not, ◌&&◌, List, ◌++◌, map, length, Option}
use Rattle.std.specs.Prelude.{Some}
use Rattle.std.specs.List.{AllByRecursion}
use Rattle.wire_message.specs.Parameters.{Parameters, AreInRange}
use Rattle.base_lists.specs.Numbered.{element_at}
use Rattle.part_handlers.specs.declared.table.Entry.{Entry}
use Rattle.part_handlers.specs.Runs.{Meaning, IsLawfulMeaning}
use Rattle.spec_node.specs.NodeStep.{OfCall}
use Rattle.spec_network.specs.World.{EventAt, Does, WorldAnswer, OfNode, IsAmong, world_answer, world_after, run}
use Rattle.part_transfers.specs.declared.operation.Synced.TheVariants as synced
use Rattle.part_transfers.specs.declared.operation.Transfer.{Transfer}
use Rattle.part_transfers.specs.Operation.{Operation, target, size, chunks, chunk_start, chunk_size, is_complete}
use Rattle.part_transfers.specs.Syncs.{Choice, members, members_of, whole_of, implicit_of}
use Rattle.node_rules.specs.EndpointLocal.{EndpointLocal}
use Rattle.node_rules.specs.EndpointRules.{OtherCall, OnTransfers, Records, at_the_opening, job_of}
use Rattle.node_rules.specs.TransferCalls.{TransferCall, Begin, BeginImplicit, Sync, SyncHandle, SyncAll, SyncSome}
use Rattle.node_rules.specs.TransferCalls.{SyncImplicit, handle_in, written_at_once}
use Rattle.node_rules.specs.Tracking.{chunk_at}
use Rattle.node_rules.specs.declared.answer.Answer.{Answer}
use Rattle.node_rules.specs.declared.answer.Answer.TheVariants as answers
use Rattle.node_rules.specs.declared.answer.Begun.TheVariants as begun
use Rattle.law_transfers.specs.Chunks.{EndpointJob, Stretch, state_after, segment_at, writes_at, ChunkDone}

-- ---- a transfer begins

-- the call begins the transfer, and is answered that it is operation `number` of its node: by its handle, or as an
-- implicit one
abbrev pub IsBeginning : TransferCall → Transfer → (number : ℕ) → WorldAnswer Answer → Type 0
IsBeginning (Begin register asked) transfer number answer =
    (asked ≡ transfer) × (answer ≡ OfNode (OfCall (answers.Begun (begun.Handle (record { serial = number })))))
IsBeginning (BeginImplicit asked) transfer number answer =
    (asked ≡ transfer) × (answer ≡ OfNode (OfCall (answers.Started (begun.Handle (record { serial = number })))))
IsBeginning _ transfer number answer = ⊥

-- each of the events is among the nodes of the job
abbrev pub AreAmong : EndpointJob → List (EventAt OtherCall) → Type 0
AreAmong job events = AllByRecursion (λ (timed : EventAt OtherCall). IsAmong job.settings timed.event) events

-- a thread's call on transfers, at this time
abbrev pub transfer_event : (now node thread : ℕ) → TransferCall → EventAt OtherCall
transfer_event now node thread call = record { now = now; event = Does node thread (OnTransfers call) }

-- after any events from the opening of the job, a thread of a node begins a transfer
pub record Beginning (job : EndpointJob) : Type 0 where
  pub before : List (EventAt OtherCall)
  pub among : AreAmong job before
  pub now : ℕ
  pub node : ℕ
  pub there : node < job.settings.nodes
  pub thread : ℕ
  pub call : TransferCall
  pub transfer : Transfer
  pub number : ℕ
  pub begins : IsBeginning call transfer number
      (world_answer job (run job before (at_the_opening job.settings)) (transfer_event now node thread call))

-- from that call on, by these events
abbrev pub since : (job : EndpointJob) → Beginning job → List (EventAt OtherCall) → Stretch
since job beginning events = record {
  from = world_after job (run job beginning.before (at_the_opening job.settings))
      (transfer_event beginning.now beginning.node beginning.thread beginning.call);
  events = events;
}

-- ---- it is done

-- operation `number` of the node is this transfer; all of its chunks were issued, and each was done in the stretch
pub record IsDone (job : EndpointJob) (stretch : Stretch) (node number : ℕ) (transfer : Transfer) : Type 0 where
  pub operation : Operation
  pub there : element_at (state_after job stretch node).local.operations number ≡ Some operation
  pub transfer_is : operation.transfer ≡ transfer
  pub all_issued : length operation.sent ≡ chunks (size transfer)
  pub each : (index : ℕ) → index < chunks (size transfer) → ChunkDone job stretch node (chunk_at transfer number index)

-- so is the transfer that began
abbrev pub IsDoneSince : (job : EndpointJob) → Beginning job → List (EventAt OtherCall) → Type 0
IsDoneSince job beginning events =
    IsDone job (since job beginning events) beginning.node beginning.number beginning.transfer

-- ---- the laws

-- a transfer whose operation is complete, or was synchronised, is done
abbrev pub OverIsDone : EndpointJob → Type 0
OverIsDone job =
    (beginning : Beginning job) (events : List (EventAt OtherCall)) (operation : Operation)
    → AreAmong job events
    → element_at (state_after job (since job beginning events) beginning.node).local.operations beginning.number
    ≡ Some operation
    → (operation.synced ≡ true) ⊎ (is_complete operation ≡ true)
    → IsDoneSince job beginning events

-- a thread's call is answered that its operations were synchronised, and this operation of its node is one of them: it
-- wasn't marked before, and is then
pub record Synchronises
    (job : EndpointJob) (world : Records) (timed : EventAt OtherCall) (node number : ℕ) : Type 0 where
  pub thread : ℕ
  pub call : TransferCall
  pub event : timed.event ≡ Does node thread (OnTransfers call)
  pub answered : world_answer job world timed ≡ OfNode (OfCall (answers.Synced synced.Ok))
  pub old : Operation
  pub was : element_at (world node).local.operations number ≡ Some old
  pub unmarked : old.synced ≡ false
  pub new : Operation
  pub is : element_at (world_after job world timed node).local.operations number ≡ Some new
  pub marked : new.synced ≡ true

-- where a sync answers Ok (of a handle, of all or some of a list, of the implicit operations, of a region's handle),
-- each transfer that it synchronises was done between its beginning and the answer
abbrev pub SyncIsDone : EndpointJob → Type 0
SyncIsDone job =
    (beginning : Beginning job) (events : List (EventAt OtherCall)) (sync : EventAt OtherCall)
    → AreAmong job events
    → Synchronises job (state_after job (since job beginning events)) sync beginning.node beginning.number
    → IsDoneSince job beginning events

-- the members of a handle; the invalid handle has none
abbrev pub members_by : (handle : ℕ) → List Operation → Choice
members_by handle operations number operation = not (handle == 0) && members handle operations number operation

-- the operations of which a sync speaks: those of its handle (the operation with its number, or those in the access
-- region of its name), those of all of its handles, those of its handles that are complete, or the thread's implicit
-- ones. No other call synchronises
abbrev pub synced_by : TransferCall → (thread : ℕ) → EndpointLocal → Choice
synced_by (Sync register) thread local = members_by (handle_in local.registers register).serial local.operations
synced_by (SyncHandle handle) thread local = members_by handle.serial local.operations
synced_by (SyncAll registers) thread local = members_of (map (handle_in local.registers) registers) local.operations
synced_by (SyncSome registers) thread local = whole_of (map (handle_in local.registers) registers) local.operations
synced_by (SyncImplicit some) thread local = implicit_of thread some
synced_by call thread local = λ number operation. false

-- a sync is answered Ok, and this operation of the node is one of which it speaks
pub record SyncsIt
    (job : EndpointJob) (world : Records) (timed : EventAt OtherCall) (number : ℕ) (operation : Operation)
    : Type 0 where
  pub node : ℕ
  pub thread : ℕ
  pub call : TransferCall
  pub event : timed.event ≡ Does node thread (OnTransfers call)
  pub answered : world_answer job world timed ≡ OfNode (OfCall (answers.Synced synced.Ok))
  pub there : element_at (world node).local.operations number ≡ Some operation
  pub chosen : synced_by call thread (world node).local number operation ≡ true

-- the operation is one of the calling thread and complete, and is marked as synchronised
pub record Goes
    (job : EndpointJob) (world : Records) (timed : EventAt OtherCall) (number : ℕ) (operation : Operation)
    (syncs : SyncsIt job world timed number operation) : Type 0 where
  pub own : operation.thread ≡ syncs.thread
  pub complete : is_complete operation ≡ true
  pub marked : element_at (world_after job world timed syncs.node).local.operations number
      ≡ Some (record operation { synced = true })

-- so it is of each operation of which a sync speaks that answers Ok
abbrev pub OkGoes : EndpointJob → Type 0
OkGoes job =
    (world : Records) (timed : EventAt OtherCall) (number : ℕ) (operation : Operation)
    (syncs : SyncsIt job world timed number operation) → Goes job world timed number operation syncs

-- the beginning of this transfer is answered that it was done in the call
abbrev pub IsDoneAtOnce : TransferCall → Transfer → WorldAnswer Answer → Type 0
IsDoneAtOnce (Begin register asked) transfer answer =
    (asked ≡ transfer) × (answer ≡ OfNode (OfCall (answers.Begun begun.Done)))
IsDoneAtOnce (BeginImplicit asked) transfer answer =
    (asked ≡ transfer) × (answer ≡ OfNode (OfCall (answers.Started begun.Done)))
IsDoneAtOnce call transfer answer = ⊥

-- what is written then: nothing, where the transfer has no bytes; else its target is the local node, and its bytes are
-- written as the node's segment had them
abbrev pub OwnIsDone : EndpointJob → Type 0
OwnIsDone job =
    (world : Records) (now node thread : ℕ) (call : TransferCall) (transfer : Transfer)
    → IsDoneAtOnce call transfer (world_answer job world (transfer_event now node thread call))
    → ((size transfer ≡ 0) ⊎ (target transfer ≡ node))
    × (writes_at (world_after job world (transfer_event now node thread call)) node
    ≡ writes_at world node ++ written_at_once (segment_at job world node) transfer)

-- the byte at that offset of a range of `all` bytes lies in this chunk
pub record LiesIn (all offset index : ℕ) : Type 0 where
  pub is : index < chunks all
  pub first : chunk_start index ≤ offset
  pub last : offset < chunk_start index + chunk_size all index

-- each byte of a range lies in exactly one of its chunks
abbrev pub PiecesCover : Type 0
PiecesCover =
    (all offset : ℕ) → offset < all
    → (index : ℕ) × LiesIn all offset index × ((other : ℕ) → LiesIn all offset other → other ≡ index)

-- ---- all of them

-- the laws of transfers hold in every run of the job of these settings, this table and these handlers
pub record TransfersHold (settings : Parameters) (table : List (Option Entry)) (meaning : Meaning) : Type 0 where
  pub over : OverIsDone (job_of settings table meaning)
  pub synchronised : SyncIsDone (job_of settings table meaning)
  pub goes : OkGoes (job_of settings table meaning)
  pub own : OwnIsDone (job_of settings table meaning)
  pub cover : PiecesCover

-- so it is of each job with settings in range and lawful handlers
abbrev pub InEveryJob : (Parameters → List (Option Entry) → Meaning → Type 0) → Type 0
InEveryJob law =
    (settings : Parameters) (table : List (Option Entry)) (meaning : Meaning)
    → AreInRange settings → IsLawfulMeaning meaning → law settings table meaning
