-- What this crate proves of the nodes of endpoints.
use Rattle.std.specs.Prelude.{ℕ, List, Option}
use Rattle.wire_message.specs.Parameters.{Parameters, AreInRange}
use Rattle.part_handlers.specs.declared.table.Entry.{Entry}
use Rattle.part_handlers.specs.Runs.{Meaning, IsLawfulMeaning}
use Rattle.spec_node.specs.Record.{Node, opening_node}
use Rattle.spec_node.specs.NodeStep.{IsAllSound, NodeEvent, node_after}
use Rattle.spec_node.specs.Under.{IsOver}
use Rattle.node_core.specs.ClientRules.{rules}
use Rattle.node_rules.specs.EndpointLocal.{EndpointLocal, core_of, nothing_begun, IsEndpointKept}
use Rattle.node_rules.specs.EndpointRules.{OtherCall, endpoint_rules, all_rules, job_of}
use Rattle.node_rules.specs.Tracking.{NodeTracks}

-- what nodes do by lawful handlers is sound
abbrev pub AreSound : Type 0
AreSound =
    (settings : Parameters) (table : List (Option Entry)) (meaning : Meaning)
    → AreInRange settings → IsLawfulMeaning meaning
    → IsAllSound (all_rules settings table meaning) (IsEndpointKept settings)

-- what a node keeps before all events is good
abbrev pub OpeningsAreGood : Type 0
OpeningsAreGood = (settings : Parameters) (me : ℕ) → IsEndpointKept settings me (nothing_begun settings)

-- with messages, an endpoint does to what its core keeps what the core does
abbrev pub AreOver : Type 0
AreOver =
    (settings : Parameters) (table : List (Option Entry)) (meaning : Meaning)
    → IsOver core_of (endpoint_rules settings table meaning) (rules settings table meaning)

-- before all events, and after each event of a node, whatever bytes come, its chunks are requests
abbrev pub ChunksAreRequests : Type 0
ChunksAreRequests =
    ((settings : Parameters) → NodeTracks settings.version (opening_node (nothing_begun settings)))
    × ((settings : Parameters) (table : List (Option Entry)) (meaning : Meaning) (me : ℕ) (node : Node EndpointLocal)
    (now : ℕ) (event : NodeEvent OtherCall)
    → NodeTracks settings.version node
    → NodeTracks settings.version (node_after (job_of settings table meaning) me node now event))
