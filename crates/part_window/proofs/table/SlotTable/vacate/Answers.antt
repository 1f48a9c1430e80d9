use Rattle.part_window.specs.declared.table.Contents.TheVariants.{Nothing}
use Rattle.part_window.proofs.TableViewed.{view-changed}
use Rattle.part_window.proofs.TableViewed.{slot-there}
use Rattle.part_window.proofs.table.SlotTable.vacate.Goals as goal

pub returns : goal.returns
returns c =
    let there = slot-there c.args.to c.args.slot c.self.invariant.0 c.self.invariant.1 c.self.view_is c.requires in
    let found = there.1 in
    view-changed c.put.new.peers.items c.put.new.contents Nothing found c.self.view_is c.put.ensures.counts
    c.put.ensures.changed
