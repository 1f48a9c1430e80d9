use Rattle.part_window.specs.declared.table.Contents.TheVariants.{Draft}
use Rattle.part_window.proofs.TableViewed.{view-changed}
use Rattle.part_window.proofs.TableViewed.{slot-there}
use Rattle.part_window.proofs.table.SlotTable.open.Goals as goal

pub returns : goal.returns
returns c =
    let there = slot-there c.args.to c.args.slot c.self.invariant.0 c.self.invariant.1 c.self.view_is c.requires in
    let found = there.1 in
    let changed =
    view-changed c.put.new.peers.items c.put.new.contents
    (Draft c.args.number c.args.time) found c.self.view_is c.put.ensures.counts c.put.ensures.changed in
    record { buffer = found.buffer; whole = found.whole; opened = changed }
