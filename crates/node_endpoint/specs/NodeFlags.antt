-- The flags that the transfers ask for, by the record of a core.
use Rattle.std.specs.Prelude.{ℕ, ◌≡◌, Bool}
use Rattle.spec_node.specs.Record.{Node}
use Rattle.spec_node.specs.Behaviour.{Behaviour}
use Rattle.spec_node.specs.Step.{can_ask}
use Rattle.node_core.specs.Kept.{Local}
use Rattle.node_core.specs.CoreState.{CoreState}
use Rattle.node_core.specs.Stands.{CoreStands}
use Rattle.node_core.specs.Known.{site_with, other_exhausted}

-- of some record for which the core stands: which nodes can be asked, whatever the node does beside its slots and numbers
pub record AreAskable (core : CoreState) (flag : ℕ → Bool) : Type 0 where
  pub behaviour : Behaviour Local
  pub node : Node Local
  pub stands : CoreStands core node
  pub each : (to : ℕ) → flag to ≡ can_ask (site_with core behaviour) node to

-- of some record for which the core stands: to which other nodes no number is left for requests
pub record AreExhausted (core : CoreState) (flag : ℕ → Bool) : Type 0 where
  pub node : Node Local
  pub stands : CoreStands core node
  pub each : (to : ℕ) → flag to ≡ other_exhausted core.settings core.me node to
