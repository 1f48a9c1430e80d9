use Rattle.std.proofs.Common.{ap, ◌∙◌}
use Rattle.part_window.specs.SlotsState.{vacant_count}
use Rattle.node_core.specs.CoreState.{CoreState}
use Rattle.node_core.proofs.Readings.{free_is}
use Rattle.node_core.proofs.node.Core.free.Goals as goal

pub returns : goal.returns
returns c =
    λ r S. c.free.ensures
    ∙ (ap (λ (e : CoreState). vacant_count e.requests c.args.to) c.self.view_is
    ∙ free_is c.args.self.now r c.args.to S c.requires.node c.requires.other)
