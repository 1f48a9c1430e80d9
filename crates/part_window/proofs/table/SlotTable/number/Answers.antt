use Rattle.std.proofs.Common.{ap, sym}
use Rattle.std.proofs.Common.{◌∙◌}
use Rattle.std.specs.Prelude.{option_and_then}
use Rattle.part_window.specs.declared.table.Contents.{Contents}
use Rattle.part_window.specs.TableState.{number_of}
use Rattle.part_window.specs.TableViews.{slot_view}
use Rattle.part_window.proofs.TableViewed.{here}
use Rattle.part_window.proofs.table.SlotTable.number.Goals as goal

pub returns-in-Nothing : goal.returns-in-Nothing
returns-in-Nothing c =
    let found =
    here c.args.to c.args.slot c.place_in.result c.self.invariant.0 c.self.invariant.1 c.self.view_is c.requires
    c.place_in.ensures.place c.get.ensures in
    sym (ap (option_and_then number_of) found.is
    ∙ ap (λ (x : Contents). number_of (slot_view x found.buffer)) c.in-Nothing.is)

pub returns-in-Draft : goal.returns-in-Draft
returns-in-Draft c =
    let found =
    here c.args.to c.args.slot c.place_in.result c.self.invariant.0 c.self.invariant.1 c.self.view_is c.requires
    c.place_in.ensures.place c.get.ensures in
    sym (ap (option_and_then number_of) found.is
    ∙ ap (λ (x : Contents). number_of (slot_view x found.buffer)) c.in-Draft.is)

pub returns-in-Message : goal.returns-in-Message
returns-in-Message c =
    let found =
    here c.args.to c.args.slot c.place_in.result c.self.invariant.0 c.self.invariant.1 c.self.view_is c.requires
    c.place_in.ensures.place c.get.ensures in
    sym (ap (option_and_then number_of) found.is
    ∙ ap (λ (x : Contents). number_of (slot_view x found.buffer)) c.in-Message.is)
