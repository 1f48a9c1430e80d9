use Rattle.std.proofs.Common.{ℕ, ◌≡◌, ◌<◌, Option, Some, None, List, [], ap, sym, ◌∙◌, subst, refl}
use Rattle.std.specs.Prelude.{IsSomeAnd}
use Rattle.std.specs.Option.{option_map}
use Rattle.base_lists.specs.Cut.{count_at}
use Rattle.part_window.specs.TableState.{SlotState, with_written as slot_written}
use Rattle.part_window.specs.TableState.{IsOpened as SlotOpened, opened_bytes as slot_bytes}
use Rattle.part_window.specs.RepliesState.{ReplyState, RepliesState, slot_at, with_slot_changed, with_written}
use Rattle.part_window.specs.RepliesState.{IsOpened, opened_bytes}
use Rattle.part_window.specs.ReplyViews.{reply_of}
use Rattle.part_window.proofs.RepliesViewed.{changed-is, written-is, slot-is}
use Rattle.part_window.proofs.RepliesViewed.{bytes-is, opened-is, replies-after, number-written, said-of, slot-there}
use Rattle.part_window.proofs.replies.ReplySlots.buffer_mut.Goals as goal
use Rattle.part_window.proofs.Slots.{place-there}

pub buffer_mut-requires-clause-in_range : goal.buffer_mut-requires-clause-in_range
buffer_mut-requires-clause-in_range c =
    let from = c.args.from in
    let slot = c.args.slot in
    let said = said-of IsOpened (slot_at c.args.self.now from slot) c.requires in
    slot-there c.self.inside.table from slot said.0 c.self.invariant.whole
    (ap (λ (u : RepliesState). slot_at u from slot) c.self.view_is ∙ said.1)

pub buffer_mut-requires-clause-opened : goal.buffer_mut-requires-clause-opened
buffer_mut-requires-clause-opened c =
    let table = c.self.inside.table in
    let from = c.args.from in
    let slot = c.args.slot in
    let said = said-of IsOpened (slot_at c.args.self.now from slot) c.requires in
    let inside : slot < count_at table.counts from =
    slot-there table from slot said.0 c.self.invariant.whole
    (ap (λ (u : RepliesState). slot_at u from slot) c.self.view_is ∙ said.1) in
    let there = place-there table from slot inside c.self.invariant.whole in
    let at : slot_at c.args.self.now from slot ≡ Some (reply_of there.0) =
    ap (λ (u : RepliesState). slot_at u from slot) (sym c.self.view_is)
    ∙ (slot-is table from slot inside ∙ ap (option_map reply_of) there.1) in
    subst (λ (o : Option SlotState). IsSomeAnd o SlotOpened) (sym there.1)
    (opened-is there.0 (subst (λ (o : Option ReplyState). IsSomeAnd o IsOpened) at c.requires))

pub invariant_of-self-lent : goal.invariant_of-self-lent
invariant_of-self-lent c =
    let table = c.self.inside.table in
    let kept = c.self.invariant in
    let from = c.args.from in
    let slot = c.args.slot in
    let said = said-of IsOpened (slot_at c.args.self.now from slot) c.requires in
    let inside : slot < count_at table.counts from =
    slot-there table from slot said.0 kept.whole (ap (λ (u : RepliesState). slot_at u from slot) c.self.view_is
    ∙ said.1) in
    let there = place-there table from slot inside kept.whole in
    λ written. replies-after table from slot there.0 (slot_written written) kept there.1
    (λ number is. kept.numbered _ number there.0 there.1 (sym (number-written written there.0) ∙ is))

pub returns : goal.returns
returns c =
    let table = c.self.inside.table in
    let view = c.self.view_is in
    let from = c.args.from in
    let slot = c.args.slot in
    let said = said-of IsOpened (slot_at c.args.self.now from slot) c.requires in
    let inside : slot < count_at table.counts from =
    slot-there table from slot said.0 c.self.invariant.whole (ap (λ (u : RepliesState). slot_at u from slot) view
    ∙ said.1) in
    let there = place-there table from slot inside c.self.invariant.whole in
    let at : slot_at c.args.self.now from slot ≡ Some (reply_of there.0) =
    ap (λ (u : RepliesState). slot_at u from slot) (sym view)
    ∙ (slot-is table from slot inside ∙ ap (option_map reply_of) there.1) in (
      (
        refl,
        λ written. changed-is table from slot (slot_written written) (with_written written)
            (written-is written) inside
            ∙ ap (λ (u : RepliesState). with_slot_changed u from slot (with_written written)) view,
      ),
      record {
        writes_back = tt;
        value =
            c.buffer_mut.ensures.value
            ∙ (ap (λ (o : Option SlotState). elim o as (λ _. List ℕ) [ Some s ↦ slot_bytes s | None ↦ [] ]) there.1
            ∙ (sym (bytes-is there.0)
            ∙ sym (ap (λ (o : Option ReplyState). elim o as (λ _. List ℕ) [ Some s ↦ opened_bytes s | None ↦ [] ])
            at)));
        len = c.buffer_mut.ensures.len;
      },
    )
