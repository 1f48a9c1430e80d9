-- A core holds no more message buffers than the credits of its pairs.
use Rattle.std.proofs.Common.{◌≡◌, ◌≤◌, List, ap, ◌∙◌, arith}
use Rattle.wire_message.specs.Parameters.{credits_of}
use Rattle.spec_node.specs.Credits.{greatest_holding}
use Rattle.spec_node.specs.Executed.{slots_run}
use Rattle.spec_node.specs.Held.{held_buffers, held_with}
use Rattle.spec_node.specs.Record.{Node, Run}
use Rattle.spec_node.specs.Requests.{outstanding}
use Rattle.spec_node.proofs.Holding.{held_few, no_slots}
use Rattle.node_core.specs.CoreState.{CoreState}
use Rattle.node_core.specs.Kept.{Local}
use Rattle.node_core.specs.Stands.{CoreStands}

pub holds_few : (core : CoreState) (node : Node Local) → CoreStands core node
    → held_buffers core.settings core.me node ≤ greatest_holding core.settings core.me
holds_few core node stands =
    let credits = credits_of core.settings core.me core.me in
    let none_asked = ap outstanding stands.invariant_.own in
    let none_ran = ap (λ (runs : List Run). slots_run runs credits) stands.own_ran ∙ no_slots credits in
    let own : held_with core.settings core.me node core.me ≡ 0 = omega arith in
    held_few core.settings core.me node (λ peer. (stands.invariant_.orderly peer).few) own
