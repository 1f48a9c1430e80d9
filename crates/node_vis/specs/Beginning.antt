-- What it means to begin the pieces of a plan: the calls that are made, and the answer.
-- Origin: this project's profile, over the access regions of implicit transfers (GASNet 1.8.1, extended API).
use Rattle.std.specs.Prelude.{ℕ, suc, ◌+◌, ◌-◌, ◌==◌, Bool, true, false, if◌then◌else◌, List, [], ◌∷◌, ◌++◌, map, take}
use Rattle.std.specs.Prelude.{drop}
use Rattle.std.specs.Prelude.{Option, None, Some}
use Rattle.part_transfers.specs.declared.operation.Transfer.{Transfer}
use Rattle.part_transfers.specs.declared.operation.Transfer.TheVariants as transfers
use Rattle.spec_node.specs.Record.{Node}
use Rattle.spec_node.specs.NodeStep.{Job, node_answer, node_after}
use Rattle.node_endpoint.specs.EndpointLocal.{EndpointLocal}
use Rattle.node_endpoint.specs.EndpointRules.{OnTransfers, OtherCall, answer_told}
use Rattle.node_endpoint.specs.TransferCalls.{TransferCall, BeginImplicit, RegionBegin, RegionEnd}
use Rattle.node_endpoint.specs.Called.{Performs}
use Rattle.node_endpoint.specs.Answer.{Answer}
use Rattle.node_endpoint.specs.Answer.TheVariants as answers
use Rattle.node_endpoint.specs.Begun.TheVariants as begun
use Rattle.node_endpoint.specs.Region.TheVariants as region
use Rattle.node_endpoint.specs.Sites.{Site, ThreadCall, record_event_of, job_at}
use Rattle.node_vis.specs.declared.shapes.Way.TheVariants.{Put, Get}
use Rattle.node_vis.specs.declared.shapes.Piece.{Piece}
use Rattle.node_vis.specs.declared.shapes.Vis.{Vis}
use Rattle.node_vis.specs.declared.shapes.Vis.TheVariants as vis
use Rattle.node_vis.specs.Plans.{PlanState}

-- the transfer that a piece is
abbrev pub transfer_of : PlanState → Piece → Transfer
transfer_of plan piece = elim plan.way [
  | Put ↦ transfers.Put plan.to piece.remote piece.local piece.len
  | Get ↦ transfers.Get plan.to piece.remote piece.local piece.len
]

-- ---- the calls

abbrev pub on_transfers : (thread : ℕ) → TransferCall → ThreadCall
on_transfers thread call = record { thread = thread; call = Performs (OnTransfers call) }

-- a piece is begun as an implicit transfer, which belongs to the region that the thread has begun
abbrev pub beginning : PlanState → (thread : ℕ) → Piece → ThreadCall
beginning plan thread piece = on_transfers thread (BeginImplicit (transfer_of plan piece))

-- pieces, one after another
abbrev pub beginnings : PlanState → (thread : ℕ) → List Piece → List ThreadCall
beginnings plan thread pieces = map (beginning plan thread) pieces

-- the pieces of a plan from `from` on are to be begun by a thread, in a region whose handle goes into the register
pub record BeginCall : Type 0 where
  pub plan : PlanState
  pub thread : ℕ
  pub from : ℕ
  pub register : ℕ

-- the pieces that are asked for
abbrev pub pieces_asked : BeginCall → List Piece
pieces_asked asked = drop asked.from asked.plan.pieces

-- a region begins, these pieces are begun, and the region ends
abbrev pub in_region : BeginCall → List Piece → List ThreadCall
in_region asked pieces =
    on_transfers asked.thread RegionBegin
    ∷ (beginnings asked.plan asked.thread pieces ++ on_transfers asked.thread (RegionEnd asked.register) ∷ [])

-- The calls, by the answer. A piece that was refused is the last one that is begun
abbrev pub calls_made : BeginCall → Vis → List ThreadCall
calls_made asked vis.Whole = in_region asked (pieces_asked asked)
calls_made asked (vis.Part next) = in_region asked (take (next + 1 - asked.from) (pieces_asked asked))
calls_made asked vis.TooMany = in_region asked (take 1 (pieces_asked asked))
calls_made asked vis.Nested = on_transfers asked.thread RegionBegin ∷ []
calls_made asked (vis.Forbidden why) = on_transfers asked.thread RegionBegin ∷ []
calls_made asked vis.NoMemory = []

-- ---- the answer

-- the transfer was refused for want of room
abbrev pub is_refused : Answer → Bool
is_refused (answers.Started begun.TooMany) = true
is_refused _ = false

-- a node of a job at a time, by what the nodes of the job do
pub record NodeAt : Type 0 where
  pub job : Job EndpointLocal OtherCall Answer
  pub node : ℕ
  pub now : ℕ

abbrev pub node_at : Site → NodeAt
node_at site = record { job = job_at site; node = site.node; now = site.now }

-- how it answers a call, where it has this record, and the record that the call leaves
abbrev pub answer_of_call : NodeAt → Node EndpointLocal → ThreadCall → Answer
answer_of_call at node call = answer_told (node_answer at.job at.node node at.now (record_event_of call))

abbrev pub record_after_call : NodeAt → Node EndpointLocal → ThreadCall → Node EndpointLocal
record_after_call at node call = node_after at.job at.node node at.now (record_event_of call)

-- The first of these calls that is refused so, where the node has this record; the first call has this number, and the
-- others the next ones
abbrev pub first_refused_by : NodeAt → Node EndpointLocal → (number : ℕ) → List ThreadCall → Option ℕ
first_refused_by at node number [] = None
first_refused_by at node number (call ∷ later) =
    if is_refused (answer_of_call at node call) then Some number
    else first_refused_by at (record_after_call at node call) (suc number) later

abbrev pub first_refused : Site → Node EndpointLocal → (number : ℕ) → List ThreadCall → Option ℕ
first_refused site = first_refused_by (node_at site)

-- by the first piece that was refused
abbrev pub vis_by : (from : ℕ) → Option ℕ → Vis
vis_by from None = vis.Whole
vis_by from (Some next) = if next == from then vis.TooMany else vis.Part next

-- by the answer to the beginning of the region
abbrev pub vis_of : Answer → Vis → Vis
vis_of (answers.Forbidden why) begun = vis.Forbidden why
vis_of (answers.Region region.Nested) begun = vis.Nested
vis_of _ begun = begun

-- the answer where the node has this record
abbrev pub vis_answer_by : NodeAt → Node EndpointLocal → BeginCall → Vis
vis_answer_by at node asked =
    let opens = on_transfers asked.thread RegionBegin in
    vis_of (answer_of_call at node opens)
    (vis_by asked.from (first_refused_by at (record_after_call at node opens) asked.from
    (beginnings asked.plan asked.thread (pieces_asked asked))))

abbrev pub vis_answer : Site → Node EndpointLocal → BeginCall → Vis
vis_answer site = vis_answer_by (node_at site)
