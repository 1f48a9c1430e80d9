use Rattle.std.proofs.Common.{◌≡◌, ◌<◌, Some, ap, sym, ◌∙◌}
use Rattle.std.specs.Prelude.{option_and_then}
use Rattle.std.specs.Option.{option_map}
use Rattle.base_lists.specs.Cut.{count_at}
use Rattle.part_window.specs.TableState.{message_number as slot_number}
use Rattle.part_window.specs.RepliesState.{RepliesState, slot_at, message_number}
use Rattle.part_window.specs.ReplyViews.{reply_of}
use Rattle.part_window.proofs.RepliesViewed.{slot-is, in-range, message_number-is}
use Rattle.part_window.proofs.replies.ReplySlots.number.Goals as goal
use Rattle.part_window.proofs.Slots.{place-there}

pub message_number-requires : goal.message_number-requires
message_number-requires c =
    in-range c.self.inside.table c.args.self.now c.args.from c.args.slot c.self.view_is c.self.invariant c.requires

pub returns : goal.returns
returns c =
    let table = c.self.inside.table in
    let from = c.args.from in
    let slot = c.args.slot in
    let inside : slot < count_at table.counts from =
    in-range table c.args.self.now from slot c.self.view_is c.self.invariant c.requires in
    let there = place-there table from slot inside c.self.invariant.whole in
    let at : slot_at c.args.self.now from slot ≡ Some (reply_of there.0) =
    ap (λ (u : RepliesState). slot_at u from slot) (sym c.self.view_is)
    ∙ (slot-is table from slot inside ∙ ap (option_map reply_of) there.1) in
    c.message_number.ensures
    ∙ (ap (option_and_then slot_number) there.1
    ∙ (sym (message_number-is there.0) ∙ sym (ap (option_and_then message_number) at)))
