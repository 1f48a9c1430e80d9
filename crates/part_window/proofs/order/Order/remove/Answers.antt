use Rattle.std.proofs.Common.{Option, List}
use Rattle.std.proofs.Common.{ap, ◌∙◌}
use Rattle.std.specs.Prelude.{slice_get}
use Rattle.part_window.specs.declared.order.Due.{Due}
use Rattle.part_window.proofs.Entries.{listed-view}
use Rattle.part_window.proofs.order.Order.remove.Goals as goal

pub unlink-requires-clause-listed : goal.unlink-requires-clause-listed
unlink-requires-clause-listed c =
    (listed-view c.self.inside.entries _ c.args.due
    (ap (λ (dues : List (Option Due)). slice_get dues c.args.place) c.self.view_is ∙ c.requires)).0
