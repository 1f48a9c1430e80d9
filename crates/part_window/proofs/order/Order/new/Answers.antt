use Rattle.std.proofs.Common.{refl}
use Rattle.std.proofs.Common.{ap, ◌∙◌}
use Rattle.std.specs.Prelude.{map}
use Rattle.part_window.specs.Order.{due_view}
use Rattle.part_window.proofs.Entries.{view-new, order-new}
use Rattle.part_window.proofs.order.Order.new.Goals as goal

pub returns : goal.returns
returns c =
    ap (map due_view) c.in_ok-new.ensures ∙ view-new _ c.args.places refl

pub invariant_of-result : goal.invariant_of-result
invariant_of-result c = rw c.in_ok-new.ensures (order-new _ c.args.places c.requires refl refl refl)
