-- What holds of a group in every state: how it is read as nodes that run collectives by themselves, and what stands in
-- all areas.
use Rattle.std.specs.Prelude.{ℕ, ◌≡◌, ◌⊎◌, ◌+◌, ◌<◌, ◌≤◌, ◌%◌, ◌^◌, ◌==◌, ◌&&◌, nat_lt, if◌then◌else◌, Bool, true}
use Rattle.std.specs.Prelude.{false}
use Rattle.std.specs.Prelude.{List, [], length, Option, None, Some}
use Rattle.std.specs.List.{list_any}
use Rattle.wire_message.specs.Content.{Content}
use Rattle.base_lists.specs.Numbered.{element_at}
use Rattle.spec_network.specs.Plain.{Plain, PlainRequest, IsRequest, plain_of}
use Rattle.spec_network.specs.Invariant.{Holds}
use Rattle.node_rules.specs.EndpointLocal.{EndpointLocal, IsEndpointKept}
use Rattle.law_transfers.specs.Chunks.{EndpointJob, segment_at}
use Rattle.part_collective_area.specs.Shapes.{shape_word, is_reduction, uses}
use Rattle.part_collective_area.specs.Area.{Area, data_place, stamp_in, word_in, data_in}
use Rattle.part_collective_area.specs.Served.{collective_content, collective_handler, number_at}
use Rattle.part_collective_area.specs.Results.{Contribution}
use Rattle.law_collectives.specs.Phases.{Phases, AllHold}
use Rattle.node_collectives.specs.Progress.{Progress, is_open}
use Rattle.law_collectives.specs.Groups.{Group}
use Rattle.law_collectives.specs.CollectiveLaws.{Gave}

-- ---- a group, as nodes that run collectives by themselves

-- a request is the message of this phase
abbrev pub asks_phase : (phase : ℕ) → Option PlainRequest → Bool
asks_phase phase None = false
asks_phase phase (Some request) =
    (request.content.handler == collective_handler) && (number_at request.content.args 0 == phase + 1)

-- the message of the phase from the one node ran at the other
abbrev pub ran_phase : Plain EndpointLocal → (from to phase : ℕ) → Bool
ran_phase plain from to phase =
    list_any (λ run. asks_phase phase (element_at (plain.requests from to) run.number)) (plain.runs from to)

-- how many phases a node that is this far has sent to another one
abbrev pub sent_count : Progress → (to : ℕ) → ℕ
sent_count progress to = progress.ended + (if is_open progress && progress.sent to then 1 else 0)

abbrev pub phases_of : EndpointJob → Area → Group → Phases
phases_of job area group = record {
  started = λ node. length (group.given node);
  ended = λ node. (group.progress node).ended;
  sent = λ from to. if to == from then length (group.given from) else sent_count (group.progress from) to;
  ran = λ from to phase.
      if to == from then nat_lt phase (length (group.given from)) else ran_phase (plain_of group.records) from to phase;
  stands = λ node parity from. stamp_in (segment_at job group.records node) area parity from;
}

-- ---- what holds

-- what a node gave is within its limits
pub record IsGiven (area : Area) (given : Contribution) : Type 0 where
  pub len : length given.bytes ≡ given.shape.len
  pub few : given.shape.len ≤ area.room
  pub root : given.shape.root < area.nodes
  pub words : is_reduction given.shape.kind ≡ true → given.shape.len % 8 ≡ 0

-- what a node keeps is what it gave
pub record ProgressHolds (area : Area) (group : Group) (node : ℕ) : Type 0 where
  pub started : (group.progress node).started ≡ length (group.given node)
  pub shape : (given : Contribution) → (group.progress node).ended < length (group.given node)
      → Gave group node (group.progress node).ended given → given.shape ≡ (group.progress node).shape
  pub given : (phase : ℕ) (given : Contribution) → Gave group node phase given → IsGiven area given
  pub small : length (group.given node) < 2 ^ 64

-- the data that goes along with a message
abbrev pub data_for : Contribution → (from to : ℕ) → List ℕ
data_for given from to = if uses given.shape from to then given.bytes else []

-- a request of collectives is the message of a phase that was sent
pub record IsMessageOf (job : EndpointJob) (area : Area) (group : Group) (from to : ℕ) (content : Content)
    : Type 0 where
  pub phase : ℕ
  pub given : Contribution
  pub gave : Gave group from phase given
  pub sent : phase < (phases_of job area group).sent from to
  pub content_is : content
      ≡ collective_content (phase + 1) (shape_word given.shape) (data_place area (phase % 2) from)
      (data_for given from to)

-- the data that stands in the part of a node is all that it gave
abbrev pub IsWholeAt : Contribution → (from to : ℕ) → Type 0
IsWholeAt given from to = (from ≡ to) ⊎ (uses given.shape from to ≡ true)

-- what stands in a part with the stamp of a phase is what its node gave to that phase
pub record PartHolds (job : EndpointJob) (area : Area) (group : Group) (node from phase : ℕ) (given : Contribution)
    : Type 0 where
  pub shape : word_in (segment_at job group.records node) area (phase % 2) from ≡ shape_word given.shape
  pub bytes : IsWholeAt given from node
      → data_in (segment_at job group.records node) area (phase % 2) from (length given.bytes) ≡ given.bytes

pub record GroupHolds (job : EndpointJob) (area : Area) (group : Group) : Type 0 where
  -- the records are those of a run
  pub records : Holds job (IsEndpointKept job.settings) group.records
  -- phases, messages and stamps are as they are where nodes run collectives by themselves
  pub phases : AllHold job.settings.nodes (phases_of job area group)
  pub progress : (node : ℕ) → node < job.settings.nodes → ProgressHolds area group node
  -- each request of collectives is the message of a phase, and of each phase there is at most one
  pub messages : (from to number : ℕ) (request : PlainRequest) → from < job.settings.nodes → to < job.settings.nodes
      → IsRequest (plain_of group.records) from to number request → request.content.handler ≡ collective_handler
      → IsMessageOf job area group from to request.content
  pub once : (from to number other phase : ℕ)
      → asks_phase phase (element_at ((plain_of group.records).requests from to) number) ≡ true
      → asks_phase phase (element_at ((plain_of group.records).requests from to) other) ≡ true → number ≡ other
  -- what stands in the parts
  pub parts : (node from phase : ℕ) (given : Contribution) → node < job.settings.nodes → from < job.settings.nodes
      → stamp_in (segment_at job group.records node) area (phase % 2) from ≡ phase + 1 → Gave group from phase given
      → PartHolds job area group node from phase given
