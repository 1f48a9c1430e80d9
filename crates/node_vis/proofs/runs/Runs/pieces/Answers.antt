use Rattle.std.proofs.Common.{ap, ◌∙◌}
use Rattle.std.specs.Prelude.{map}
use Rattle.node_vis.specs.Runs.{piece_in}
use Rattle.node_vis.proofs.Fitting.{inside_runs}
use Rattle.node_vis.proofs.runs.Runs.pieces.Goals as goal

pub narrowed-requires : goal.narrowed-requires
narrowed-requires c =
    inside_runs c.args.settings.now c.deref.result.now c.args.self.now
    (ap (map piece_in) c.deref.ensures.value ∙ c.self.view_is) c.requires
