-- Collectives that C starts, steps and ends.
use Rattle.std.specs.Prelude.{ℕ, ◌≡◌, ◌⊎◌, List, [], ◌∷◌, Option, Some, None, option_map, slice_get}
use Rattle.wire_message.specs.Parameters.{Parameters}
use Rattle.node_endpoint.specs.EndpointState.{EndpointState}
use Rattle.part_collective_area.specs.Area.{Area, IsArea}
use Rattle.part_collective_area.specs.declared.shape.CollectiveKind.{CollectiveKind}
use Rattle.part_collective_area.specs.declared.shape.CollectiveKind.TheVariants as kind
use Rattle.node_collectives.specs.CollectivesState.{CollectivesState, IsFresh}
use Rattle.node_collectives.specs.Starts.{StartAsked, Starts}
use Rattle.node_collectives.specs.Steps.{Steps}
use Rattle.node_collectives.specs.Ends.{Ends}
use Rattle.node_collectives.specs.declared.answers.StartAnswer.{StartAnswer}
use Rattle.node_collectives.specs.declared.answers.StepAnswer.{StepAnswer}
use Rattle.node_collectives.specs.declared.answers.EndAnswer.{EndAnswer}
use Rattle.gasnet_c.specs.Codes.{end_code, end_node, start_code}
use Rattle.gasnet_c.specs.Telling.{IsDead, IsNumber, IsToldStep}
use Rattle.gasnet_c.specs.contracts.sender.SenderCaller.TheImpl.{ghosts}
use Rattle.gasnet_c.specs.declared.collective_node.Collective.{Collective}
use Rattle.gasnet_c.specs.declared.collectives_handle.CollectivesHandle.{CollectivesHandle}
use Rattle.gasnet_c.specs.declared.handle.Handle.{Handle}
use Rattle.gasnet_c.specs.declared.sender.Sender.{Sender}
use Rattle.gasnet_c.specs.declared.told.Told.{Told}

-- ---- what C holds

-- what both handles hold
pub record Handles : Type 0 where
  pub node : Option EndpointState
  pub collectives : Option CollectivesState

abbrev pub handles : Handle → CollectivesHandle → Handles
handles handle collectives = record { node = handle.place.held; collectives = collectives.place.held }

-- a node, and its collectives
pub record NodeAndCollectives : Type 0 where
  pub node : EndpointState
  pub collectives : CollectivesState

abbrev pub pair : EndpointState → CollectivesState → NodeAndCollectives
pair node collectives = record { node = node; collectives = collectives }

-- both, where both handles are live
abbrev pub pair_of : Option EndpointState → Option CollectivesState → Option NodeAndCollectives
pair_of (Some node) (Some collectives) = Some (pair node collectives)
pair_of (Some node) None = None
pair_of None collectives = None

abbrev pub both : Handles → Option NodeAndCollectives
both held = pair_of held.node held.collectives

-- the collectives are of that node
pub record AreOf (held : NodeAndCollectives) : Type 0 where
  pub settings_are : held.collectives.settings ≡ held.node.core.settings
  pub me_is : held.collectives.me ≡ held.node.core.me

abbrev pub AreOfNode : Option NodeAndCollectives → Type 0
AreOfNode None = Unit {0}
AreOfNode (Some held) = AreOf held

-- ---- they begin

-- where they have the node, base and room that C names, this is their area
abbrev pub area_at : Parameters → (base room : ℕ) → Area
area_at settings base room = record { nodes = settings.nodes; base = base; room = room }

-- a node that is held has collectives, of which it has started none, where the area is one and there is memory
abbrev pub Begins : EndpointState → (base room : ℕ) → (answer : ℕ) → Option CollectivesState → Type 0
Begins node base room answer None =
    ((answer ≡ 1) × (IsArea node.core.settings.segment (area_at node.core.settings base room) → ⊥)) ⊎ (answer ≡ 2)
Begins node base room answer (Some it) = (answer ≡ 0) × IsFresh node.core.settings node.core.me base room it

-- live ones stay as they are, and there are none of a dead node
abbrev pub BeginsIn : Option EndpointState → (base room : ℕ) → Option CollectivesState → (answer : ℕ)
    → Option CollectivesState → Type 0
BeginsIn None base room old answer new = (answer ≡ 99) × (new ≡ old)
BeginsIn (Some node) base room None answer new = Begins node base room answer new
BeginsIn (Some node) base room (Some old) answer new = (answer ≡ 3) × (new ≡ Some old)

-- ---- the calls

-- the kinds, by their numbers
abbrev pub all_kinds : List CollectiveKind
all_kinds =
    kind.Broadcast ∷ kind.Gather ∷ kind.AllGather ∷ kind.Sum ∷ kind.Min ∷ kind.Max ∷ kind.AllSum ∷ kind.AllMin
    ∷ kind.AllMax ∷ []

-- the kind that C names by a number
abbrev pub collective_kind_of : (code : ℕ) → Option CollectiveKind
collective_kind_of code = slice_get all_kinds code

-- the start that C asks, of this kind
abbrev pub start_asked_by : Collective → CollectiveKind → StartAsked
start_asked_by what one = record {
  thread = 0;
  shape = record { kind = one; root = what.root; len = what.len };
  from = what.from;
}

-- a caller at the node at this time, which sends nothing yet
pub record IsCallerAt (node : EndpointState) (now : ℕ) (at : Sender) : Type 0 where
  pub node_is : at.endpoint.now ≡ node
  pub now_is : at.now ≡ now
  pub sends_none : at.sends ≡ None

-- The node's thread started a collective, by calls of a caller at the node, and C is told the answer
pub record StartsAs (now : ℕ) (asked : StartAsked) (old : NodeAndCollectives) (told : Told) (new : NodeAndCollectives)
    : Type 0 where
  pub answer : StartAnswer
  pub from : Sender
  pub to : Sender
  pub at : IsCallerAt old.node now from
  pub starts : Starts ghosts old.collectives from asked answer new.collectives to
  pub node_is : new.node ≡ to.endpoint.now
  pub told_is : IsNumber (start_code answer) 0 told

-- no kind has the number, and nothing happened; else the start
abbrev pub StartsOf : (now : ℕ) → Option StartAsked → NodeAndCollectives → Told → NodeAndCollectives → Type 0
StartsOf now None old told new = IsNumber 5 0 told × (new ≡ old)
StartsOf now (Some asked) old told new = StartsAs now asked old told new

abbrev pub StartsFor : (now : ℕ) → Collective → NodeAndCollectives → Told → NodeAndCollectives → Type 0
StartsFor now what old told new =
    StartsOf now (option_map (start_asked_by what) (collective_kind_of what.kind)) old told new

-- the node's thread made a step, and C is told the answer and the datagram that its last call sends
pub record StepsFor (now : ℕ) (buffer : List ℕ) (old : NodeAndCollectives) (told : Told) (new : NodeAndCollectives)
    : Type 0 where
  pub answer : StepAnswer
  pub from : Sender
  pub to : Sender
  pub at : IsCallerAt old.node now from
  pub steps : Steps ghosts 0 old.collectives from answer new.collectives to
  pub node_is : new.node ≡ to.endpoint.now
  pub told_is : IsToldStep new.node answer to.sends told buffer

-- the node's thread tried to end it, and C is told the answer
pub record EndsFor (now dest : ℕ) (old : NodeAndCollectives) (told : Told) (new : NodeAndCollectives) : Type 0 where
  pub answer : EndAnswer
  pub from : Sender
  pub to : Sender
  pub at : IsCallerAt old.node now from
  pub ends : Ends ghosts old.collectives from (record { thread = 0; dest = dest }) answer new.collectives to
  pub node_is : new.node ≡ to.endpoint.now
  pub told_is : IsNumber (end_code answer) (end_node answer) told

-- where this is held by both handles it happened to that; else C is told that one is dead, and nothing happened
abbrev pub WhereHeld : (NodeAndCollectives → Told → NodeAndCollectives → Type 0) → Option NodeAndCollectives
    → (old : Handles) → Told → (new : Handles) → Type 0
WhereHeld Happens None old told new = IsDead told × (new ≡ old)
WhereHeld Happens (Some held) old told new =
    (next : NodeAndCollectives) × (both new ≡ Some next) × Happens held told next

-- where both handles are live it happened to what they hold
abbrev pub WhereLive : (NodeAndCollectives → Told → NodeAndCollectives → Type 0) → (old : Handles) → Told
    → (new : Handles) → Type 0
WhereLive Happens old told new = WhereHeld Happens (both old) old told new
