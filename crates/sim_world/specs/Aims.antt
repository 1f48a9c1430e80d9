-- Where an event of a world falls.
use Rattle.std.specs.Prelude.{ℕ, ◌≡◌, ◌≢◌, ◌<◌, ◌==◌, Option, None, Some, unwrap_or, slice_get, if◌then◌else◌}
use Rattle.wire_message.specs.Parameters.{Parameters}
use Rattle.node_rules.specs.Called.{HasTarget}
use Rattle.node_rules.specs.declared.call.Call.{Call}
use Rattle.sim_world.specs.declared.event.WorldEvent.{WorldEvent}
use Rattle.sim_world.specs.declared.event.WorldEvent.TheVariants as event
use Rattle.spec_node.specs.Transition.{Transition}
use Rattle.node_endpoint.specs.EndpointState.{EndpointState, IsTickTarget, MayBeCalled}
use Rattle.sim_world.specs.WorldState.{WorldState}
use Rattle.sim_world.specs.EventScopes.{event_node}

-- where an event falls: on the node, with the pair of these two, and where it is a tick, with the node to which it
-- sends a request of its node's own accord
pub record Aim : Type 0 where
  pub node : ℕ
  pub from : ℕ
  pub to : ℕ
  pub target : Option ℕ

-- the second node of a pair, where it is another one
abbrev pub other_of : (from to : ℕ) → Option ℕ
other_of from to = if from == to then None else Some to

-- that of an event with this pair
abbrev pub aim_of : WorldEvent → (from to : ℕ) → Aim
aim_of event from to = record { node = event_node event; from = from; to = to; target = other_of from to }

-- at the node, with the pair of these two
pub record IsAim (node from to : ℕ) (aim : Aim) : Type 0 where
  pub node_is : aim.node ≡ node
  pub from_is : aim.from ≡ from
  pub to_is : aim.to ≡ to

-- this is the node to which the call is a request, where that is there, and a node in any case
pub record IsTargetOf (settings : Parameters) (node : ℕ) (call : Call) (target : ℕ) : Type 0 where
  pub to_in : node < settings.nodes → target < settings.nodes
  pub to_is : (to : ℕ) → HasTarget call to → to < settings.nodes → target ≡ to

-- the pair of a call is that of the node and of another node to which it is a request, else of the node and itself
pub record IsAimOfCall (settings : Parameters) (node : ℕ) (call : Call) (aim : Aim) : Type 0 where
  pub node_is : aim.node ≡ node
  pub from_is : aim.from ≡ node
  pub target : IsTargetOf settings node call aim.to

-- the pair of a tick is that of the node and of another one to which it sends a request of the node's own accord, else
-- of the node and itself
pub record IsAimOfTick (world : WorldState) (now node : ℕ) (aim : Aim) : Type 0 where
  pub node_is : aim.node ≡ node
  pub from_is : aim.from ≡ node
  pub to_is : aim.to ≡ unwrap_or aim.target node
  pub there : (to : ℕ) → aim.target ≡ Some to → (to < world.settings.nodes) × (to ≢ node)
  pub sends : (endpoint : EndpointState) → slice_get world.endpoints node ≡ Some endpoint
      → IsTickTarget endpoint now aim.target

-- where an event at this time falls
abbrev pub FallsAt : WorldState → (now : ℕ) → WorldEvent → Aim → Type 0
FallsAt world now (event.Call node thread call) aim = IsAimOfCall world.settings node call aim
FallsAt world now (event.Request from to number) aim = (from ≢ to) × IsAim to from to aim
FallsAt world now (event.Reply from to number) aim = (from ≢ to) × IsAim from from to aim
FallsAt world now (event.Tick node) aim = IsAimOfTick world now node aim

-- a message of a node to itself falls nowhere
abbrev pub FallsNowhere : WorldEvent → Type 0
FallsNowhere (event.Call node thread call) = ⊥
FallsNowhere (event.Request from to number) = from ≡ to
FallsNowhere (event.Reply from to number) = from ≡ to
FallsNowhere (event.Tick node) = ⊥

-- it falls with this pair, if it does
abbrev pub AimsAt : WorldState → Transition WorldEvent (Option (ℕ × ℕ)) → Type 0
AimsAt world step = elim step.answer [
  | Some pair ↦ FallsAt world step.now step.event (aim_of step.event pair.0 pair.1)
  | None ↦ FallsNowhere step.event
]

-- ---- what is asked of an event

-- a call may be made
abbrev pub MayFall : Parameters → WorldEvent → Type 0
MayFall settings (event.Call node thread call) = MayBeCalled settings thread call
MayFall settings _ = Unit {0}
