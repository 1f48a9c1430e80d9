use Rattle.std.proofs.Common.{List, ap, sym}
use Rattle.std.proofs.Common.{◌∙◌, subst}
use Rattle.part_window.specs.declared.table.Contents.{Contents}
use Rattle.part_window.specs.declared.table.Contents.TheVariants.{Message}
use Rattle.part_window.specs.TableState.{as_retransmitted}
use Rattle.part_window.specs.TableViews.{slot_view, FitsBuffer, IsBuffered}
use Rattle.part_window.proofs.TableViewed.{here, view-changed, change-is, change-none, buffered-after}
use Rattle.part_window.proofs.TableViewed.{not-message}
use Rattle.part_window.proofs.table.SlotTable.send_again.Goals as goal

pub invariant_of-self : goal.invariant_of-self
invariant_of-self c =
    let fields = c.self.inside in
    let found =
    here c.args.to c.args.slot c.place_in-place.result c.self.invariant.0 c.self.invariant.1 c.self.view_is c.requires
    c.place_in-place.ensures.place c.get.ensures in (
      c.put.ensures.counted,
      subst (λ (cs : List Contents). IsBuffered cs fields.block) (sym c.put.ensures.changed)
          (buffered-after fields.contents fields.block _
          (Message c.in-Message.number c.args.now c.in-Message.len) c.self.invariant.1
          (subst FitsBuffer c.in-Message.is found.fits)),
    )

pub returns-in-Message : goal.returns-in-Message
returns-in-Message c =
    let found =
    here c.args.to c.args.slot c.place_in-place.result c.self.invariant.0 c.self.invariant.1 c.self.view_is c.requires
    c.place_in-place.ensures.place c.get.ensures in
    let changed =
    view-changed c.put.new.peers.items c.put.new.contents
    (Message c.in-Message.number c.args.now c.in-Message.len) found c.self.view_is c.put.ensures.counts
    c.put.ensures.changed in
    changed
    ∙ change-is c.args.self.now c.args.to c.args.slot (slot_view c.get.result found.buffer) _
    (as_retransmitted c.args.now) found.is
    (ap (λ (x : Contents). as_retransmitted c.args.now (slot_view x found.buffer)) c.in-Message.is)

pub returns-in_default : goal.returns-in_default
returns-in_default c =
    let found =
    here c.args.to c.args.slot c.place_in-place.result c.self.invariant.0 c.self.invariant.1 c.self.view_is c.requires
    c.place_in-place.ensures.place c.get.ensures in
    change-none c.args.self.now c.args.to c.args.slot (slot_view c.get.result found.buffer)
    (as_retransmitted c.args.now) found.is
    (not-message c.get.result found.buffer c.args.now c.in_default.not-Message).1
