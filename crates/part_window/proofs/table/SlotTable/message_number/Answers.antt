use Rattle.std.proofs.Common.{ap, sym}
use Rattle.std.proofs.Common.{◌∙◌}
use Rattle.std.specs.Prelude.{option_and_then}
use Rattle.part_window.specs.declared.table.Contents.{Contents}
use Rattle.part_window.specs.TableState.{message_number}
use Rattle.part_window.specs.TableViews.{slot_view}
use Rattle.part_window.proofs.TableViewed.{here}
use Rattle.part_window.proofs.TableViewed.{not-message}
use Rattle.part_window.proofs.table.SlotTable.message_number.Goals as goal

pub returns-in-Message : goal.returns-in-Message
returns-in-Message c =
    let found =
    here c.args.to c.args.slot c.place_in.result c.self.invariant.0 c.self.invariant.1 c.self.view_is c.requires
    c.place_in.ensures.place c.get.ensures in
    sym (ap (option_and_then message_number) found.is
    ∙ ap (λ (x : Contents). message_number (slot_view x found.buffer)) c.in-Message.is)

pub returns-in_default : goal.returns-in_default
returns-in_default c =
    let found =
    here c.args.to c.args.slot c.place_in.result c.self.invariant.0 c.self.invariant.1 c.self.view_is c.requires
    c.place_in.ensures.place c.get.ensures in
    sym (ap (option_and_then message_number) found.is
    ∙ (not-message c.get.result found.buffer 0 c.in_default.not-Message).2)
