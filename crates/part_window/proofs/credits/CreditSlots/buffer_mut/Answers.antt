use Rattle.std.proofs.Common.{ℕ, Option, Some, None, List, []}
use Rattle.std.proofs.Common.{ap, sym, ◌∙◌, subst, refl}
use Rattle.std.specs.Prelude.{IsSomeAnd}
use Rattle.part_window.specs.SlotsState.{SlotState, SlotsState}
use Rattle.part_window.specs.SlotsState.{slot_at}
use Rattle.part_window.specs.SlotsState.{opened_bytes, opened_bytes_at, IsOpened, with_slot_changed}
use Rattle.part_window.specs.SlotsState.{with_written}
use Rattle.part_window.proofs.CreditsViewed.{seen-there, slot-is, changed-is}
use Rattle.part_window.proofs.CreditsViewed.{credits-after}
use Rattle.part_window.proofs.CreditsViewed.{said-of, matches-written}
use Rattle.part_window.proofs.credits.CreditSlots.buffer_mut.Goals as goal

pub buffer_mut-requires-clause-in_range : goal.buffer_mut-requires-clause-in_range
buffer_mut-requires-clause-in_range c =
    let said = said-of IsOpened (slot_at c.args.self.now c.args.to c.args.slot) c.requires in
    let there = seen-there c.args.to c.args.slot said.0 c.self.invariant c.self.view_is said.1 in
    there.0

pub buffer_mut-requires-clause-opened : goal.buffer_mut-requires-clause-opened
buffer_mut-requires-clause-opened c =
    let said = said-of IsOpened (slot_at c.args.self.now c.args.to c.args.slot) c.requires in
    let there = seen-there c.args.to c.args.slot said.0 c.self.invariant c.self.view_is said.1 in
    subst (λ (o : Option SlotState). IsSomeAnd o IsOpened) (sym there.1) said.2

pub invariant_of-self-lent : goal.invariant_of-self-lent
invariant_of-self-lent c =
    let fields = c.self.inside in
    let given = fields.given.items in
    let table = fields.table in
    let kept = c.self.invariant in
    let to = c.args.to in
    let slot = c.args.slot in
    let said = said-of IsOpened (slot_at c.args.self.now to slot) c.requires in
    let there = seen-there to slot said.0 kept c.self.view_is said.1 in
    λ written. credits-after given fields.order to slot said.0 (with_written written) kept refl there.1 refl
    (λ _ _. refl) (matches-written table.counts _ said.0 written _ (kept.matched _ said.0 there.1))

pub returns : goal.returns
returns c =
    let fields = c.self.inside in
    let given = fields.given.items in
    let table = fields.table in
    let view = c.self.view_is in
    let to = c.args.to in
    let slot = c.args.slot in
    let said = said-of IsOpened (slot_at c.args.self.now to slot) c.requires in
    let there = seen-there to slot said.0 c.self.invariant view said.1 in (
      (
        refl,
        λ written. changed-is fields.last given table to slot (with_written written) there.0
            ∙ ap (λ (u : SlotsState). with_slot_changed u to slot (with_written written)) view,
      ),
      record {
        writes_back = tt;
        value =
            c.buffer_mut.ensures.value
            ∙ (ap (λ (o : Option SlotState). elim o as (λ _. List ℕ) [ Some s ↦ opened_bytes s | None ↦ [] ])
            (sym (slot-is fields.last given table to slot c.self.invariant.nodes there.0))
            ∙ ap (λ (u : SlotsState). opened_bytes_at u to slot) view);
        len = c.buffer_mut.ensures.len;
      },
    )
