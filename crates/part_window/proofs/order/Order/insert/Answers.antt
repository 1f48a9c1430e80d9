use Rattle.std.proofs.Common.{Option, List}
use Rattle.std.proofs.Common.{ap, ◌∙◌}
use Rattle.std.specs.Prelude.{slice_get}
use Rattle.part_window.specs.declared.order.Due.{Due}
use Rattle.part_window.proofs.Entries.{unlisted-view}
use Rattle.part_window.proofs.order.Order.insert.Goals as goal

pub seek-at-requires-clause-unlisted : goal.seek-at-requires-clause-unlisted
seek-at-requires-clause-unlisted c =
    unlisted-view c.self.inside.entries c.args.place
    (ap (λ (dues : List (Option Due)). slice_get dues c.args.place) c.self.view_is ∙ c.requires.unlisted)

pub link-requires-clause-unlisted : goal.link-requires-clause-unlisted
link-requires-clause-unlisted c =
    unlisted-view c.self.inside.entries c.args.place
    (ap (λ (dues : List (Option Due)). slice_get dues c.args.place) c.self.view_is ∙ c.requires.unlisted)
