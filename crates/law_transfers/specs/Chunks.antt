-- What it means that a chunk of a transfer was done in a stretch of a run.
-- Origin: GASNet 1.8.1, extended API: data transfer. That a transfer goes by chunks of 8,192 bytes, each a request of
-- the library's own that a tick issues, is this project's profile.
use Rattle.std.specs.Prelude.{ℕ, suc, ◌≡◌, ◌+◌, ◌<◌, ◌≤◌, List, [], ◌∷◌, ◌++◌, length, replicate, Some, slice_get}
use Rattle.part_segment.specs.Bytes.{part}
use Rattle.part_segment.specs.Image.{Write}
use Rattle.spec_node.specs.declared.answer.Ticked.TheVariants as ticked
use Rattle.spec_node.specs.Step.{request_slot}
use Rattle.spec_node.specs.NodeStep.{Job, OfTick}
use Rattle.spec_network.specs.World.{EventAt, Ticks, OfNode, run}
use Rattle.spec_network.specs.Plain.{IsRequest, plain_of}
use Rattle.spec_network.specs.PlainStep.{RequestName, request_name}
use Rattle.node_core.specs.Kept.{segment_of}
use Rattle.node_core.specs.Library.{Work, Put, Get, Memset, Notification, work_content}
use Rattle.part_transfers.specs.declared.operation.Next.{Next}
use Rattle.part_transfers.specs.Operation.{target}
use Rattle.node_rules.specs.EndpointLocal.{EndpointLocal}
use Rattle.node_rules.specs.EndpointRules.{OtherCall, Records, chunk_work}
use Rattle.node_rules.specs.declared.answer.Answer.{Answer}
use Rattle.law_transfers.specs.History.{Moment, answer_in, after_in, end_of, Sometime, ExactlyOnce, Runs, ComesBack}

-- a job whose nodes are endpoints
abbrev pub EndpointJob : Type 0
EndpointJob = Job EndpointLocal OtherCall Answer

-- an event of its run
abbrev pub EndpointMoment : Type 0
EndpointMoment = Moment EndpointLocal OtherCall

-- a stretch of its run: the state in which it begins, and its events
pub record Stretch : Type 0 where
  pub from : Records
  pub events : List (EventAt OtherCall)

-- the state at its end
abbrev pub state_after : EndpointJob → Stretch → Records
state_after job stretch = run job stretch.events stretch.from

-- the fact holds at one of its events
abbrev pub HappensIn : EndpointJob → Stretch → (EndpointMoment → Type 0) → Type 0
HappensIn job stretch fact = Sometime job fact stretch.events stretch.from

-- it holds at one, and at no other
abbrev pub HappensOnceIn : EndpointJob → Stretch → (EndpointMoment → Type 0) → Type 0
HappensOnceIn job stretch fact = ExactlyOnce job fact stretch.events stretch.from

-- ---- segments

-- the bytes of a node's segment
abbrev pub segment_at : EndpointJob → Records → (node : ℕ) → List ℕ
segment_at job world node = segment_of job.settings (world node).local.core

-- all that was written into it, the earliest first
abbrev pub writes_at : Records → (node : ℕ) → List Write
writes_at world node = (world node).local.core.writes

-- the write has a byte at that offset
abbrev pub Touches : Write → (offset : ℕ) → Type 0
Touches write offset = (write.offset ≤ offset) × (offset < write.offset + length write.bytes)

-- none of the writes has
abbrev pub LeaveAlone : List Write → (offset : ℕ) → Type 0
LeaveAlone writes offset = (place : ℕ) (write : Write) → slice_get writes place ≡ Some write → Touches write offset → ⊥

-- the event writes this, and nothing else, into the node's segment; at the end of the stretch each of its bytes stands
-- where no later write has one
pub record Writes (job : EndpointJob) (node : ℕ) (write : Write) (moment : EndpointMoment) : Type 0 where
  pub now : writes_at (after_in job moment) node ≡ writes_at moment.before node ++ write ∷ []
  pub later : List Write
  pub since : writes_at (end_of job moment) node ≡ writes_at (after_in job moment) node ++ later
  pub stand : (place byte : ℕ)
      → slice_get write.bytes place ≡ Some byte → LeaveAlone later (write.offset + place)
      → slice_get (segment_at job (end_of job moment) node) (write.offset + place) ≡ Some byte

-- ---- chunks

-- a chunk of a transfer of a node, with its ranges: offsets into the local segment and into the target's
pub record Piece : Type 0 where
  pub node : ℕ
  pub chunk : Next
  pub local : ℕ
  pub remote : ℕ
  pub len : ℕ

-- its request, by its number
abbrev pub request_of : Piece → (number : ℕ) → RequestName
request_of piece number = request_name piece.node (target piece.chunk.transfer) number

-- a tick of the node issues the chunk: its request is accepted under the next number of the pair, and says what the
-- chunk asks, with the bytes that the node's segment has then
pub record Issues (job : EndpointJob) (node : ℕ) (chunk : Next) (number : ℕ) (moment : EndpointMoment) : Type 0 where
  pub event : moment.timed.event ≡ Ticks node
  pub slot : ℕ
  pub answered : answer_in job moment ≡ OfNode (OfTick (ticked.Chunk (request_slot (target chunk.transfer) slot)))
  pub next : number ≡ suc (length ((plain_of moment.before).requests node (target chunk.transfer)))
  pub accepted :
      let content = work_content job.settings.version (segment_at job moment.before node) (chunk_work chunk) in
      IsRequest (plain_of (after_in job moment)) node (target chunk.transfer) number
      (record { content = content; slot = slot })

-- it is issued, and the local range holds these bytes
abbrev pub IssuesBytes : EndpointJob → Piece → (number : ℕ) → (bytes : List ℕ) → EndpointMoment → Type 0
IssuesBytes job piece number bytes moment =
    Issues job piece.node piece.chunk number moment
    × (bytes ≡ part (segment_at job moment.before piece.node) piece.local piece.len)

-- its request runs, and writes this at the target
abbrev pub RunWrites : EndpointJob → Piece → (number : ℕ) → Write → EndpointMoment → Type 0
RunWrites job piece number write moment =
    Runs job (request_of piece number) moment × Writes job (target piece.chunk.transfer) write moment

-- its request runs, where the target's range holds these bytes
abbrev pub RunReads : EndpointJob → Piece → (number : ℕ) → (bytes : List ℕ) → EndpointMoment → Type 0
RunReads job piece number bytes moment =
    Runs job (request_of piece number) moment
    × (bytes ≡ part (segment_at job moment.before (target piece.chunk.transfer)) piece.remote piece.len)

-- its reply comes back, and writes this at the node
abbrev pub BackWrites : EndpointJob → Piece → (number : ℕ) → Write → EndpointMoment → Type 0
BackWrites job piece number write moment =
    ComesBack job (request_of piece number) moment × Writes job piece.node write moment

-- a chunk of a put: it was issued with the bytes that the local range held then; its request ran exactly once, and wrote
-- these bytes to the target's range; its reply came back exactly once
pub record PutDone (job : EndpointJob) (stretch : Stretch) (piece : Piece) : Type 0 where
  pub number : ℕ
  pub bytes : List ℕ
  pub issued : HappensIn job stretch (IssuesBytes job piece number bytes)
  pub once : HappensOnceIn job stretch (Runs job (request_of piece number))
  pub written :
      HappensIn job stretch (RunWrites job piece number (record { offset = piece.remote; bytes = bytes }))
  pub back : HappensOnceIn job stretch (ComesBack job (request_of piece number))

-- a chunk of a memset: it was issued; its request ran exactly once, and wrote the byte to each place of the target's
-- range; its reply came back exactly once
pub record MemsetDone (job : EndpointJob) (stretch : Stretch) (piece : Piece) (byte : ℕ) : Type 0 where
  pub number : ℕ
  pub issued : HappensIn job stretch (Issues job piece.node piece.chunk number)
  pub once : HappensOnceIn job stretch (Runs job (request_of piece number))
  pub written :
      let bytes = replicate piece.len byte in
      HappensIn job stretch (RunWrites job piece number (record { offset = piece.remote; bytes = bytes }))
  pub back : HappensOnceIn job stretch (ComesBack job (request_of piece number))

-- a chunk of a get: it was issued; its request ran exactly once, where the target's range held these bytes at that one
-- moment; its reply came back exactly once, and wrote them to the local range
pub record GetDone (job : EndpointJob) (stretch : Stretch) (piece : Piece) : Type 0 where
  pub number : ℕ
  pub bytes : List ℕ
  pub issued : HappensIn job stretch (Issues job piece.node piece.chunk number)
  pub once : HappensOnceIn job stretch (Runs job (request_of piece number))
  pub read : HappensIn job stretch (RunReads job piece number bytes)
  pub back : HappensOnceIn job stretch (ComesBack job (request_of piece number))
  pub written :
      HappensIn job stretch (BackWrites job piece number (record { offset = piece.local; bytes = bytes }))

-- what the chunk asks was done
abbrev pub WorkDone : EndpointJob → Stretch → (node : ℕ) → Next → Work → Type 0
WorkDone job stretch node chunk (Put local remote len) =
    PutDone job stretch (record { node = node; chunk = chunk; local = local; remote = remote; len = len })
WorkDone job stretch node chunk (Get local remote len) =
    GetDone job stretch (record { node = node; chunk = chunk; local = local; remote = remote; len = len })
WorkDone job stretch node chunk (Memset remote len byte) =
    MemsetDone job stretch (record { node = node; chunk = chunk; local = 0; remote = remote; len = len }) byte
WorkDone job stretch node chunk (Notification notification) = ⊥

-- the chunk of the node's transfer was done
abbrev pub ChunkDone : EndpointJob → Stretch → (node : ℕ) → Next → Type 0
ChunkDone job stretch node chunk = WorkDone job stretch node chunk (chunk_work chunk)
