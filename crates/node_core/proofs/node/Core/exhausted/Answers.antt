use Rattle.std.proofs.Common.{ap, ◌∙◌}
use Rattle.part_window.specs.SlotsState.{is_exhausted}
use Rattle.node_core.specs.CoreState.{CoreState}
use Rattle.node_core.proofs.Readings.{exhausted_is}
use Rattle.node_core.proofs.node.Core.exhausted.Goals as goal

pub returns : goal.returns
returns c =
    λ r S. c.exhausted.ensures
    ∙ (ap (λ (e : CoreState). is_exhausted e.requests c.args.to) c.self.view_is
    ∙ exhausted_is c.args.self.now r c.args.to S c.requires.node c.requires.other)
