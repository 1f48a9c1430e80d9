use Rattle.std.proofs.Common.{ap, sym, subst, ◌∙◌}
use Rattle.wire_message.specs.Parameters.{Parameters}
use Rattle.node_core.specs.Kept.{segment_of}
use Rattle.sim_world.specs.Stands.{WorldStands}
use Rattle.sim_world.specs.WorldState.{WorldState}
use Rattle.sim_group.proofs.at_group.AtGroupCaller.segment.Goals as goal

pub returns : goal.returns
returns g c = λ whole stands.
    let here = subst (λ (world : WorldState). WorldStands world whole.group.records whole.most) (sym c.world.ensures)
    stands.world in
    c.segment.ensures (whole.group.records c.args.self.now.node)
    (c.endpoint.ensures.stands whole.group.records whole.most here)
    ∙ ap (λ (s : Parameters). segment_of s (whole.group.records c.args.self.now.node).local.core)
    (c.endpoint.ensures.node.settings_are ∙ ap (λ (world : WorldState). world.settings) c.world.ensures)
