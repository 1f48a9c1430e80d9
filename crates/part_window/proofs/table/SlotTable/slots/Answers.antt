use Rattle.std.proofs.Common.{length, ap, sym}
use Rattle.std.proofs.Common.{◌∙◌, arith}
use Rattle.part_window.specs.TableState.{TableState}
use Rattle.part_window.proofs.TableViewed.{length-views}
use Rattle.part_window.proofs.table.SlotTable.slots.Goals as goal

pub returns-clause-count : goal.returns-clause-count
returns-clause-count c =
    c.len.ensures
    ∙ (sym (length-views c.self.inside.contents c.self.inside.block)
    ∙ ap (λ (table : TableState). length table.slots) c.self.view_is)

pub returns-clause-small : goal.returns-clause-small
returns-clause-small c =
    omega (arith, c.len.ensures, c.self.invariant.0.laid.small, c.self.invariant.0.whole)
