use Rattle.std.proofs.Common.{List, ap, sym}
use Rattle.std.proofs.Common.{◌∙◌, subst}
use Rattle.std.specs.Prelude.{option_and_then}
use Rattle.part_window.specs.declared.table.Contents.{Contents}
use Rattle.part_window.specs.declared.table.Contents.TheVariants.{Message}
use Rattle.part_window.specs.TableState.{opened_time}
use Rattle.part_window.specs.TableState.{as_committed}
use Rattle.part_window.specs.TableViews.{slot_view, IsBuffered}
use Rattle.part_window.proofs.TableViewed.{here, view-changed, change-is, change-none, buffered-after}
use Rattle.part_window.proofs.TableViewed.{not-draft}
use Rattle.part_window.proofs.table.SlotTable.commit.Goals as goal

pub returns-in_default : goal.returns-in_default
returns-in_default c =
    let found =
    here c.args.to c.args.slot c.place_in-place.result c.self.invariant.0 c.self.invariant.1 c.self.view_is
    c.requires.in_range c.place_in-place.ensures.place c.get.ensures in
    let no = not-draft c.get.result found.buffer c.args.len c.in_default.not-Draft in
    record {
      changed =
          change-none c.args.self.now c.args.to c.args.slot (slot_view c.get.result found.buffer)
          (as_committed c.args.len) found.is no.1;
      time = sym (ap (option_and_then opened_time) found.is ∙ no.0);
    }

pub invariant_of-self : goal.invariant_of-self
invariant_of-self c = (
  c.put.ensures.counted,
  subst (λ (cs : List Contents). IsBuffered cs c.self.inside.block)
      (sym c.put.ensures.changed)
      (buffered-after c.self.inside.contents c.self.inside.block _ _ c.self.invariant.1 c.requires.fits),
)

pub returns-clause-changed : goal.returns-clause-changed
returns-clause-changed c =
    let found =
    here c.args.to c.args.slot c.place_in-place.result c.self.invariant.0 c.self.invariant.1 c.self.view_is
    c.requires.in_range c.place_in-place.ensures.place c.get.ensures in
    let changed =
    view-changed c.put.new.peers.items c.put.new.contents
    (Message c.in-Draft.number c.in-Draft.time c.args.len) found c.self.view_is c.put.ensures.counts
    c.put.ensures.changed in
    changed
    ∙ change-is c.args.self.now c.args.to c.args.slot (slot_view c.get.result found.buffer) _
    (as_committed c.args.len) found.is (ap (λ (x : Contents). as_committed c.args.len (slot_view x found.buffer)) c.in-Draft.is)

pub returns-clause-time : goal.returns-clause-time
returns-clause-time c =
    let found =
    here c.args.to c.args.slot c.place_in-place.result c.self.invariant.0 c.self.invariant.1 c.self.view_is
    c.requires.in_range c.place_in-place.ensures.place c.get.ensures in
    sym (ap (option_and_then opened_time) found.is
    ∙ ap (λ (x : Contents). opened_time (slot_view x found.buffer)) c.in-Draft.is)
