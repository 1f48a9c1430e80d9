-- The laws of plans: what was transferred where each piece was begun and synchronised, and what a beginning tells.
-- Origin: this project's profile, over the laws of transfers.
use Rattle.std.specs.Prelude.{ℕ, zero, suc, ◌≡◌, ◌≢◌, ◌+◌, ◌-◌, ◌<◌, List, [], ◌∷◌, ◌++◌, length, take, drop, Option}
use Rattle.std.specs.Prelude.{Some, slice_get}
use Rattle.wire_message.specs.Parameters.{Parameters}
use Rattle.part_handlers.specs.declared.table.Entry.{Entry}
use Rattle.part_handlers.specs.Runs.{Meaning}
use Rattle.part_segment.specs.Image.{Write, image}
use Rattle.spec_network.specs.World.{EventAt}
use Rattle.spec_network.specs.PlainStep.{request_name}
use Rattle.node_rules.specs.EndpointRules.{OtherCall, job_of}
use Rattle.spec_node.specs.Record.{Node}
use Rattle.node_rules.specs.EndpointLocal.{EndpointLocal}
use Rattle.node_rules.specs.TransferCalls.{BeginImplicit, RegionBegin, written_at_once}
use Rattle.node_rules.specs.declared.answer.Answer.{Answer}
use Rattle.node_rules.specs.declared.answer.Answer.TheVariants as answers
use Rattle.node_rules.specs.declared.answer.Begun.TheVariants as begun
use Rattle.node_endpoint.specs.Sites.{Site, answers_at, node_then, node_in_the_end}
use Rattle.node_vis.specs.declared.shapes.Vis.{Vis}
use Rattle.node_vis.specs.declared.shapes.Vis.TheVariants as vis
use Rattle.part_transfers.specs.declared.operation.Next.{Next}
use Rattle.part_transfers.specs.Operation.{target}
use Rattle.spec_network.specs.PlainStep.{RequestName}
use Rattle.law_transfers.specs.Chunks.{Issues}
use Rattle.node_rules.specs.Tracking.{chunk_at}
use Rattle.law_transfers.specs.History.{Runs, ComesBack}
use Rattle.law_transfers.specs.Chunks.{EndpointJob, EndpointMoment, Stretch, state_after, HappensIn, HappensOnceIn}
use Rattle.law_transfers.specs.Chunks.{segment_at, Writes}
use Rattle.law_transfers.specs.TransferLaws.{Beginning, since, transfer_event, Synchronises, AreAmong, LiesIn}
use Rattle.node_vis.specs.declared.shapes.Way.{Way}
use Rattle.node_vis.specs.declared.shapes.Way.TheVariants.{Put, Get}
use Rattle.node_vis.specs.declared.shapes.Piece.{Piece}
use Rattle.node_vis.specs.Pairs.{Pair}
use Rattle.node_vis.specs.Faults.{written_byte}
use Rattle.node_vis.specs.Pieces.{IsCut}
use Rattle.node_vis.specs.Plans.{PlanState, IsPlan}
use Rattle.node_vis.specs.Beginning.{BeginCall, beginnings, on_transfers, pieces_asked, transfer_of}
use Rattle.node_vis.specs.Beginning.{vis_answer}

-- ---- a plan in a run

-- in the run a thread of the node began the piece, and a later sync that answers Ok, of whatever form, synchronised it
pub record SyncedPiece (job : EndpointJob) (run : List (EventAt OtherCall)) (plan : PlanState) (node : ℕ)
    (piece : Piece)
    : Type 0 where
  pub beginning : Beginning job
  pub node_is : beginning.node ≡ node
  pub call_is : beginning.call ≡ BeginImplicit (transfer_of plan piece)
  pub transfer_is : beginning.transfer ≡ transfer_of plan piece
  pub events : List (EventAt OtherCall)
  pub among : AreAmong job events
  pub sync : EventAt OtherCall
  pub synchronises : Synchronises job (state_after job (since job beginning events)) sync
      beginning.node beginning.number
  pub later : List (EventAt OtherCall)
  pub run_is : run
      ≡ beginning.before
      ++ transfer_event beginning.now beginning.node beginning.thread beginning.call ∷ (events ++ sync ∷ later)

-- each piece of the plan was so
abbrev pub AllSynced : (job : EndpointJob) → List (EventAt OtherCall) → PlanState → (node : ℕ) → Type 0
AllSynced job run plan node =
    (place : ℕ) (piece : Piece) → slice_get plan.pieces place ≡ Some piece → SyncedPiece job run plan node piece

-- the part of the run from the beginning of the piece up to its sync
abbrev pub stretch_of : {job : EndpointJob} {run : List (EventAt OtherCall)} {plan : PlanState} {node : ℕ}
    {piece : Piece}
    → SyncedPiece job run plan node piece → Stretch
stretch_of {job} synced = since job synced.beginning synced.events

-- ---- where a pair lies

-- how many pairs come before the piece at this place
abbrev pub before : List Piece → (place : ℕ) → ℕ
before [] place = 0
before (piece ∷ pieces) zero = 0
before (piece ∷ pieces) (suc place) = piece.len + before pieces place

-- the pair of this number lies in the piece at this place, and there in this chunk
pub record LiesAt (pieces : List Piece) (number : ℕ) (pair : Pair) (place index : ℕ) (piece : Piece) : Type 0 where
  pub there : slice_get pieces place ≡ Some piece
  pub offset : ℕ
  pub inside : offset < piece.len
  pub number_is : number ≡ before pieces place + offset
  pub remote : pair.remote ≡ piece.remote + offset
  pub local : pair.local ≡ piece.local + offset
  pub chunk : LiesIn piece.len offset index

-- ---- what became of it

-- the event wrote this to the node's segment, and nothing else; it has this byte for that offset
pub record WritesByte (job : EndpointJob) (node offset byte : ℕ) (write : Write) (moment : EndpointMoment)
    : Type 0 where
  pub writes : Writes job node write moment
  pub at : ℕ
  pub byte_is : slice_get write.bytes at ≡ Some byte
  pub offset_is : offset ≡ write.offset + at

-- the write has bytes for no other places than those where the pairs are written
abbrev pub WritesWithin : Way → List Pair → Write → Type 0
WritesWithin way pairs write =
    (at : ℕ) → at < length write.bytes
    → (number : ℕ) × (pair : Pair) × (slice_get pairs number ≡ Some pair) × (written_byte way pair ≡ write.offset + at)

-- the request that a chunk of the node is, under this number
abbrev pub request_of_chunk : (node : ℕ) → Next → (number : ℕ) → RequestName
request_of_chunk node chunk number = request_name node (target chunk.transfer) number

-- The chunk put the pair: a tick issued it while the local byte was this; its request ran exactly once, and wrote that
-- byte to the place at the target. What it wrote lies where the pairs are written
pub record PairPut (job : EndpointJob) (stretch : Stretch) (node : ℕ) (chunk : Next) (pairs : List Pair) (pair : Pair)
    : Type 0 where
  pub number : ℕ
  pub byte : ℕ
  pub write : Write
  pub issued : HappensIn job stretch (λ moment. Issues job node chunk number moment
      × (slice_get (segment_at job moment.before node) pair.local ≡ Some byte))
  pub once : HappensOnceIn job stretch (Runs job (request_of_chunk node chunk number))
  pub written : HappensIn job stretch (λ moment. Runs job (request_of_chunk node chunk number) moment
      × WritesByte job (target chunk.transfer) pair.remote byte write moment)
  pub back : HappensOnceIn job stretch (ComesBack job (request_of_chunk node chunk number))
  pub within : WritesWithin Put pairs write

-- The chunk got the pair: a tick issued it; its request ran exactly once, while the target's byte was this; its reply
-- came back exactly once, and wrote that byte to the local place. What it wrote lies where the pairs are written
pub record PairGot (job : EndpointJob) (stretch : Stretch) (node : ℕ) (chunk : Next) (pairs : List Pair) (pair : Pair)
    : Type 0 where
  pub number : ℕ
  pub byte : ℕ
  pub write : Write
  pub issued : HappensIn job stretch (Issues job node chunk number)
  pub once : HappensOnceIn job stretch (Runs job (request_of_chunk node chunk number))
  pub read : HappensIn job stretch (λ moment. Runs job (request_of_chunk node chunk number) moment
      × (slice_get (segment_at job moment.before (target chunk.transfer)) pair.remote ≡ Some byte))
  pub back : HappensOnceIn job stretch (ComesBack job (request_of_chunk node chunk number))
  pub written : HappensIn job stretch (λ moment. ComesBack job (request_of_chunk node chunk number) moment
      × WritesByte job node pair.local byte write moment)
  pub within : WritesWithin Get pairs write

abbrev pub PairDone : Way → EndpointJob → Stretch → (node : ℕ) → Next → List Pair → Pair → Type 0
PairDone Put job stretch node chunk pairs pair = PairPut job stretch node chunk pairs pair
PairDone Get job stretch node chunk pairs pair = PairGot job stretch node chunk pairs pair

-- ---- the law

-- Where each piece of a plan of these pairs was begun by the node and synchronised, each pair lies in one chunk of one
-- piece, and in no other, and that chunk transferred it between the piece's beginning and its sync
abbrev pub PairsAreDone : EndpointJob → Type 0
PairsAreDone job =
    (run : List (EventAt OtherCall)) (plan : PlanState) (pairs : List Pair) (node : ℕ)
    → IsCut plan.pieces pairs → (synced : AllSynced job run plan node)
    → (number : ℕ) (pair : Pair) → slice_get pairs number ≡ Some pair
    → (place : ℕ) × (index : ℕ) × (piece : Piece) × (lies : LiesAt plan.pieces number pair place index piece)
    × ((other_place other_index : ℕ) (other : Piece) → LiesAt plan.pieces number pair other_place other_index other
    → (other_place ≡ place) × (other_index ≡ index))
    × PairDone plan.way job (stretch_of (synced place piece lies.there)) node
    (chunk_at (transfer_of plan piece) (synced place piece lies.there).beginning.number index) pairs pair

-- in the job of these settings, this table and these handlers
abbrev pub StridedHolds : Parameters → List (Option Entry) → Meaning → Type 0
StridedHolds settings table meaning = PairsAreDone (job_of settings table meaning)

-- ---- what `begin` tells of the pieces

-- each of these beginnings was answered by a handle: the first by this number, the others by the next ones
abbrev pub AreUnderWay : (number : ℕ) → List Answer → Type 0
AreUnderWay number [] = Unit {0}
AreUnderWay number (answer ∷ later) =
    (answer ≡ answers.Started (begun.Handle (record { serial = number }))) × AreUnderWay (suc number) later

-- the pieces that this answer tells as begun
abbrev pub begun_pieces : BeginCall → Vis → List Piece
begun_pieces asked vis.Whole = pieces_asked asked
begun_pieces asked (vis.Part next) = take (next - asked.from) (pieces_asked asked)
begun_pieces asked _ = []

-- Where a node begins a plan for another node, the pieces that the answer tells as begun are under way, under the next
-- numbers of the node
abbrev pub BegunAreUnderWay : Type 0
BegunAreUnderWay =
    (site : Site) (node : Node EndpointLocal) (asked : BeginCall) → asked.plan.settings ≡ site.settings
    → IsPlan asked.plan → asked.plan.to ≢ site.node
    → AreUnderWay (suc (length node.local.operations))
    (answers_at site (node_then site node (on_transfers asked.thread RegionBegin))
    (beginnings asked.plan asked.thread (begun_pieces asked (vis_answer site node asked))))

-- the writes of the local segment behind the beginnings of pieces, where it had these before: each piece adds what the
-- segment has then
abbrev pub local_writes_after : Parameters → PlanState → List Piece → List Write → List Write
local_writes_after settings plan [] writes = writes
local_writes_after settings plan (piece ∷ pieces) writes =
    local_writes_after settings plan pieces
    (writes ++ written_at_once (image settings.segment writes) (transfer_of plan piece))

-- where a node begins a plan for itself, and the answer is `Whole`, the pieces are copied in the calls, in their order
abbrev pub OwnIsCopied : Type 0
OwnIsCopied =
    (site : Site) (node : Node EndpointLocal) (asked : BeginCall) → asked.plan.settings ≡ site.settings
    → IsPlan asked.plan → asked.plan.to ≡ site.node → vis_answer site node asked ≡ vis.Whole
    → (node_in_the_end site (node_then site node (on_transfers asked.thread RegionBegin))
    (beginnings asked.plan asked.thread (drop asked.from asked.plan.pieces))).local.core.writes
    ≡ local_writes_after site.settings asked.plan (drop asked.from asked.plan.pieces) node.local.core.writes
