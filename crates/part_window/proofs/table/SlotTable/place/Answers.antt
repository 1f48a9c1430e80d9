use Rattle.std.proofs.Common.{length, ap}
use Rattle.std.proofs.Common.{arith}
use Rattle.part_window.specs.TableState.{TableState}
use Rattle.part_window.proofs.TableViewed.{length-views}
use Rattle.part_window.proofs.table.SlotTable.place.Goals as goal

pub returns-clause-inside : goal.returns-clause-inside
returns-clause-inside c =
    let fields = c.self.inside in
    omega (
      arith,
      c.place_in.ensures.inside,
      c.self.invariant.0.whole,
      length-views fields.contents fields.block,
      ap (λ (table : TableState). length table.slots) c.self.view_is,
    )
