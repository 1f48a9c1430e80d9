use Rattle.std.proofs.Common.{ℕ, ◌≡◌, ◌<◌, Option, Some, ap, sym, ◌∙◌, subst, arith}
use Rattle.std.specs.Prelude.{option_and_then, IfSome}
use Rattle.std.specs.Option.{option_map, unwrap_or}
use Rattle.base_lists.specs.Cut.{count_at}
use Rattle.part_window.specs.TableState.{number_of}
use Rattle.part_window.specs.RepliesState.{ReplyState, RepliesState, slot_at, last_number, Judges}
use Rattle.part_window.specs.declared.replies.Judged.TheVariants.{New, Duplicate, Stale}
use Rattle.part_window.specs.ReplyViews.{reply_of}
use Rattle.part_window.proofs.RepliesViewed.{slot-is, in-range, last-is}
use Rattle.part_window.proofs.replies.ReplySlots.judge.Goals as goal
use Rattle.part_window.proofs.Slots.{place-there}

pub number-requires : goal.number-requires
number-requires c =
    in-range c.self.inside.table c.args.self.now c.args.from c.args.slot c.self.view_is c.self.invariant c.requires

pub returns-then-number-last : goal.returns-then-number-last
returns-then-number-last c =
    let table = c.self.inside.table in
    let from = c.args.from in
    let slot = c.args.slot in
    let inside : slot < count_at table.counts from =
    in-range table c.args.self.now from slot c.self.view_is c.self.invariant c.requires in
    let there = place-there table from slot inside c.self.invariant.whole in
    let at : slot_at c.args.self.now from slot ≡ Some (reply_of there.0) =
    ap (λ (u : RepliesState). slot_at u from slot) (sym c.self.view_is)
    ∙ (slot-is table from slot inside ∙ ap (option_map reply_of) there.1) in
    let last : c.unwrap_or-last.result ≡ last_number (reply_of there.0) =
    c.unwrap_or-last.ensures
    ∙ (ap (λ (o : Option ℕ). unwrap_or o 0) (c.number.ensures ∙ ap (option_and_then number_of) there.1)
    ∙ sym (last-is there.0)) in
    subst (λ (o : Option ReplyState). IfSome o (λ s. Judges s c.args.number New)) (sym at)
    (omega (arith, c.if-number-last.true, last))

pub returns-then-number-last-2 : goal.returns-then-number-last-2
returns-then-number-last-2 c =
    let table = c.self.inside.table in
    let from = c.args.from in
    let slot = c.args.slot in
    let inside : slot < count_at table.counts from =
    in-range table c.args.self.now from slot c.self.view_is c.self.invariant c.requires in
    let there = place-there table from slot inside c.self.invariant.whole in
    let at : slot_at c.args.self.now from slot ≡ Some (reply_of there.0) =
    ap (λ (u : RepliesState). slot_at u from slot) (sym c.self.view_is)
    ∙ (slot-is table from slot inside ∙ ap (option_map reply_of) there.1) in
    let last : c.unwrap_or-last.result ≡ last_number (reply_of there.0) =
    c.unwrap_or-last.ensures
    ∙ (ap (λ (o : Option ℕ). unwrap_or o 0) (c.number.ensures ∙ ap (option_and_then number_of) there.1)
    ∙ sym (last-is there.0)) in
    subst (λ (o : Option ReplyState). IfSome o (λ s. Judges s c.args.number Duplicate)) (sym at) (c.if-number-last-2.true
    ∙ last)

pub returns-else-number-last-2 : goal.returns-else-number-last-2
returns-else-number-last-2 c =
    let table = c.self.inside.table in
    let from = c.args.from in
    let slot = c.args.slot in
    let inside : slot < count_at table.counts from =
    in-range table c.args.self.now from slot c.self.view_is c.self.invariant c.requires in
    let there = place-there table from slot inside c.self.invariant.whole in
    let at : slot_at c.args.self.now from slot ≡ Some (reply_of there.0) =
    ap (λ (u : RepliesState). slot_at u from slot) (sym c.self.view_is)
    ∙ (slot-is table from slot inside ∙ ap (option_map reply_of) there.1) in
    let last : c.unwrap_or-last.result ≡ last_number (reply_of there.0) =
    c.unwrap_or-last.ensures
    ∙ (ap (λ (o : Option ℕ). unwrap_or o 0) (c.number.ensures ∙ ap (option_and_then number_of) there.1)
    ∙ sym (last-is there.0)) in
    subst (λ (o : Option ReplyState). IfSome o (λ s. Judges s c.args.number Stale)) (sym at)
    (omega (arith, c.if-number-last.false, c.if-number-last-2.false, last))
