use Rattle.std.proofs.Common.{ap, sym, ◌∙◌}
use Rattle.std.specs.Prelude.{option_and_then}
use Rattle.part_window.specs.SlotsState.{SlotsState}
use Rattle.part_window.specs.SlotsState.{message_number}
use Rattle.part_window.specs.SlotsState.{committed_number_at}
use Rattle.part_window.proofs.CreditsViewed.{slot-is}
use Rattle.part_window.proofs.CreditsViewed.{in-range}
use Rattle.part_window.proofs.credits.CreditSlots.number.Goals as goal

pub message_number-requires : goal.message_number-requires
message_number-requires c =
    in-range c.args.to c.args.slot c.self.invariant c.self.view_is c.requires

pub returns : goal.returns
returns c =
    let fields = c.self.inside in
    let given = fields.given.items in
    let table = fields.table in
    let to = c.args.to in
    let slot = c.args.slot in
    let inside = in-range to slot c.self.invariant c.self.view_is c.requires in
    c.message_number.ensures
    ∙ (ap (option_and_then message_number) (sym (slot-is fields.last given table to slot c.self.invariant.nodes inside))
    ∙ ap (λ (u : SlotsState). committed_number_at u to slot) c.self.view_is)
