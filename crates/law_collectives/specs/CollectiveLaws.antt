-- What a client may rely on of collectives.
-- Origin: this project's profile, over GASNet 1.8.1, core API, active messages.
use Rattle.std.specs.Prelude.{ℕ, zero, suc, ◌≡◌, ◌≢◌, ◌<◌, List, [], ◌∷◌, length, Option, None, Some, slice_get}
use Rattle.wire_message.specs.Parameters.{Parameters, AreInRange}
use Rattle.part_segment.specs.Bytes.{part}
use Rattle.part_handlers.specs.declared.table.Entry.{Entry}
use Rattle.part_handlers.specs.Runs.{Meaning, IsLawfulMeaning}
use Rattle.node_rules.specs.EndpointRules.{job_of}
use Rattle.law_transfers.specs.Chunks.{EndpointJob, segment_at}
use Rattle.part_collective_area.specs.Area.{Area, IsArea}
use Rattle.part_collective_area.specs.Served.{HasCollectives, ServesCollectives}
use Rattle.part_collective_area.specs.Results.{Contribution, result_of}
use Rattle.law_collectives.specs.Groups.{Group, GroupEvent, GroupAnswer, OfEnd, End, opening_group, group_does}
use Rattle.law_collectives.specs.Groups.{group_after}
use Rattle.law_collectives.specs.Groups.{AreGroupEvents}
use Rattle.node_collectives.specs.declared.answers.EndAnswer.TheVariants as end_answers

-- what a node gave to a phase
abbrev pub Gave : Group → (node phase : ℕ) → Contribution → Type 0
Gave group node phase given = slice_get (group.given node) phase ≡ Some given

-- the bytes that so many nodes from this one on gave to a phase
abbrev pub given_bytes : Option Contribution → List ℕ
given_bytes None = []
given_bytes (Some given) = given.bytes

abbrev pub bytes_given : Group → (phase node many : ℕ) → List (List ℕ)
bytes_given group phase node zero = []
bytes_given group phase node (suc many) =
    given_bytes (slice_get (group.given node) phase) ∷ bytes_given group phase (suc node) many

-- a node tries to end its phase, after these events of the group from the opening
pub record Try (job : EndpointJob) (area : Area) : Type 0 where
  pub events : List GroupEvent
  pub good : AreGroupEvents job area (opening_group job.settings) events
  pub now : ℕ
  pub node : ℕ
  pub there : node < job.settings.nodes
  pub thread : ℕ
  pub dest : ℕ

abbrev pub group_at : {job : EndpointJob} {area : Area} → Try job area → Group
group_at {job} {area} try = group_after job area (opening_group job.settings) try.events

-- what it is answered, and the group then
abbrev pub answer_to_try : {job : EndpointJob} {area : Area} → Try job area → GroupAnswer × Group
answer_to_try {job} {area} try = group_does job area (group_at try) (End try.now try.node try.thread try.dest)

-- the phase that it tries to end
abbrev pub phase_of : {job : EndpointJob} {area : Area} → Try job area → ℕ
phase_of try = ((group_at try).progress try.node).ended

-- all nodes have started the phase
abbrev pub AllStarted : {job : EndpointJob} {area : Area} → Try job area → Type 0
AllStarted {job} try =
    (node : ℕ) → node < job.settings.nodes
    → (given : Contribution) × Gave (group_at try) node (phase_of try) given

-- where it is answered Ok: all of their shapes are equal, and the node has its result at `dest`
pub record EndsOk {job : EndpointJob} {area : Area} (try : Try job area) : Type 0 where
  pub own : Contribution
  pub gave : Gave (group_at try) try.node (phase_of try) own
  pub all : AllStarted try
  pub same : (node : ℕ) (given : Contribution) → node < job.settings.nodes
      → Gave (group_at try) node (phase_of try) given → given.shape ≡ own.shape
  pub result :
      let result = result_of own.shape (bytes_given (group_at try) (phase_of try) 0 job.settings.nodes) try.node in
      part (segment_at job (answer_to_try try).1.records try.node) try.dest (length result) ≡ result

-- where it is answered that the node `other` has another shape: it has, and no smaller node has
pub record EndsApart {job : EndpointJob} {area : Area} (try : Try job area) (other : ℕ) : Type 0 where
  pub own : Contribution
  pub gave : Gave (group_at try) try.node (phase_of try) own
  pub all : AllStarted try
  pub there : other < job.settings.nodes
  pub apart : (given : Contribution) → Gave (group_at try) other (phase_of try) given → given.shape ≢ own.shape
  pub first : (node : ℕ) (given : Contribution) → node < other
      → Gave (group_at try) node (phase_of try) given → given.shape ≡ own.shape

-- ---- the law

pub record CollectivesHold (job : EndpointJob) (area : Area) : Type 0 where
  pub ok : (try : Try job area) → (answer_to_try try).0 ≡ OfEnd end_answers.Ended → EndsOk try
  pub apart : (try : Try job area) (other : ℕ) → (answer_to_try try).0 ≡ OfEnd (end_answers.Mismatch other)
      → EndsApart try other

-- so it is of each job with settings in range and lawful handlers that has collectives: the handler is registered, and
-- runs as `serve` does; and of each area in its segments
abbrev pub InEveryJob : (EndpointJob → Area → Type 0) → Type 0
InEveryJob law =
    (settings : Parameters) (table : List (Option Entry)) (meaning : Meaning) (area : Area)
    → AreInRange settings → IsLawfulMeaning meaning → HasCollectives table → ServesCollectives meaning
    → IsArea settings.segment area → area.nodes ≡ settings.nodes
    → law (job_of settings table meaning) area
