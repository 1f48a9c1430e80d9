use Rattle.std.proofs.Common.{ap, ◌∙◌}
use Rattle.node_core.specs.Kept.{segment_of}
use Rattle.sim_world.proofs.at_node.AtNodeCaller.segment.Goals as goal

pub returns : goal.returns
returns g c = λ whole stands.
    c.segment.ensures (whole.records c.args.self.now.node) (c.endpoint.ensures.stands whole.records whole.most stands)
    ∙ ap (λ s. segment_of s (whole.records c.args.self.now.node).local.core) c.endpoint.ensures.node.settings_are
