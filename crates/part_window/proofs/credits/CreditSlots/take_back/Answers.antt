use Rattle.std.proofs.Common.{ℕ, rules, ◌≡◌, Option, Some, None, List, ap, sym, ◌∙◌, subst, refl, length-set}
use Rattle.std.specs.Prelude.{slice_get, slice_set, option_and_then}
use Rattle.part_window.specs.TableState.{TableState, slot_in, place_of, with_change}
use Rattle.part_window.specs.SlotsState.{Vacant, SlotsState, slot_at, with_slot_changed}
use Rattle.part_window.specs.declared.order.Due.{Due}
use Rattle.part_window.specs.CreditViews.{credits_view, IsCredits}
use Rattle.std.proofs.lemmas.Option.{slice_get_within, same_Some}
use Rattle.part_window.proofs.CreditsViewed.{slot-seen, changed-is, credits-after, in-range}
use Rattle.base_lists.proofs.Indexes.{get-set_same, get-set_other}
use Rattle.part_window.specs.SlotsState.{number_of}
use Rattle.part_window.proofs.Dues.{taken-no, taken-yes}
use Rattle.part_window.proofs.credits.CreditSlots.take_back.Goals as goal
use Rattle.part_window.proofs.Slots.{place-there}

pub number-requires : goal.number-requires
number-requires c =
    in-range c.args.to c.args.slot c.self.invariant c.self.view_is c.requires

pub place-place-requires : goal.place-place-requires
place-place-requires c =
    in-range c.args.to c.args.slot c.self.invariant c.self.view_is c.requires

pub vacate-requires : goal.vacate-requires
vacate-requires c =
    in-range c.args.to c.args.slot c.self.invariant c.self.view_is c.requires

pub returns-in_default-clause-answer : goal.returns-in_default-clause-answer
returns-in_default-clause-answer c =
    let to = c.args.to in
    let slot = c.args.slot in
    let at : slot_at c.args.self.now to slot ≡ slot_in c.self.inside.table to slot =
    slot-seen to slot c.self.invariant c.self.view_is c.requires in
    let no : (number : ℕ) → option_and_then number_of (slot_at c.args.self.now to slot) ≡ Some number → ⊥ =
    λ number is. c.in_default.not-Some number (c.number.ensures ∙ (ap (option_and_then number_of) (sym at) ∙ is)) in (
      λ answer. absurd (search rules),
      λ taken. absurd
          (taken-no (slot_at c.args.self.now to slot) c.args.number (λ number is. absurd (no number is)) taken),
    )

pub returns-then-taken-number-clause-answer : goal.returns-then-taken-number-clause-answer
returns-then-taken-number-clause-answer c =
    let to = c.args.to in
    let slot = c.args.slot in
    let at : slot_at c.args.self.now to slot ≡ slot_in c.self.inside.table to slot =
    slot-seen to slot c.self.invariant c.self.view_is c.requires in
    let read : option_and_then number_of (slot_at c.args.self.now to slot) ≡ Some c.in-Some.taken =
    ap (option_and_then number_of) at ∙ (sym c.number.ensures ∙ c.in-Some.is) in (
      λ answer. absurd (search rules),
      λ taken. absurd
          (taken-no (slot_at c.args.self.now to slot) c.args.number
          (λ number is same. c.if-taken-number.true (sym (same_Some _ _ (sym is ∙ read)) ∙ same)) taken),
    )

pub invariant_of-self : goal.invariant_of-self
invariant_of-self c =
    let fields = c.self.inside in
    let given = fields.given.items in
    let table = fields.table in
    let kept = c.self.invariant in
    let to = c.args.to in
    let slot = c.args.slot in
    let inside = in-range to slot kept c.self.view_is c.requires in
    let place : ℕ = place_of table to slot in
    let there = place-there table to slot inside kept.whole in
    let listed : slice_get fields.order place ≡ Some (Some c.in-Some-due.due) =
    ap (slice_get fields.order) (sym c.place-place.ensures.place)
    ∙ (sym c.due.ensures ∙ ap (λ (o : Option Due). Some o) c.in-Some-due.is) in
    let order : c.remove.new.self ≡ slice_set fields.order place None =
    c.remove.ensures ∙ ap (λ (number : ℕ). slice_set fields.order number None) c.place-place.ensures.place in
    subst (λ (u : TableState). IsCredits given u c.remove.new.self) (sym c.vacate.ensures)
    (subst (λ (o : List (Option Due)). IsCredits given (with_change table to slot (λ _. Vacant)) o) (sym order)
    (credits-after given (slice_set fields.order place None) to slot there.0 (λ _. Vacant) kept refl there.1
    (length-set fields.order place None) (λ number ne. get-set_other fields.order place None number ne)
    (get-set_same fields.order place None (slice_get_within fields.order place (Some c.in-Some-due.due) listed))))

pub invariant_of-self-in_default-due : goal.invariant_of-self-in_default-due
invariant_of-self-in_default-due c =
    let fields = c.self.inside in
    let given = fields.given.items in
    let table = fields.table in
    let kept = c.self.invariant in
    let to = c.args.to in
    let slot = c.args.slot in
    let inside = in-range to slot kept c.self.view_is c.requires in
    let place : ℕ = place_of table to slot in
    let there = place-there table to slot inside kept.whole in
    let none : slice_get fields.order place ≡ Some None =
    ap (slice_get fields.order) (sym c.place-place.ensures.place)
    ∙ (sym c.due.ensures ∙ ap (λ (o : Option Due). Some o) c.in_default-due.is) in
    subst (λ (u : TableState). IsCredits given u fields.order) (sym c.vacate.ensures)
    (credits-after given fields.order to slot there.0 (λ _. Vacant) kept refl there.1 refl (λ _ _. refl) none)

pub returns-in-Some-due-clause-answer : goal.returns-in-Some-due-clause-answer
returns-in-Some-due-clause-answer c =
    let seen = c.args.self.now in
    let to = c.args.to in
    let slot = c.args.slot in
    let at : slot_at seen to slot ≡ slot_in c.self.inside.table to slot =
    slot-seen to slot c.self.invariant c.self.view_is c.requires in
    let number : option_and_then number_of (slot_at seen to slot) ≡ Some c.args.number =
    ap (option_and_then number_of) at
    ∙ (sym c.number.ensures ∙ (c.in-Some.is ∙ ap (λ (n : ℕ). Some n) c.if-taken-number.false)) in
    (λ _. taken-yes (slot_at seen to slot) c.args.number number, λ _. search rules)

pub returns-in-Some-due-clause-freed : goal.returns-in-Some-due-clause-freed
returns-in-Some-due-clause-freed c =
    let fields = c.self.inside in
    let given = fields.given.items in
    let table = fields.table in
    let to = c.args.to in
    let slot = c.args.slot in
    let inside = in-range to slot c.self.invariant c.self.view_is c.requires in
    ap (credits_view fields.last given) c.vacate.ensures
    ∙ (changed-is fields.last given table to slot (λ _. Vacant) inside
    ∙ ap (λ (u : SlotsState). with_slot_changed u to slot (λ _. Vacant)) c.self.view_is)

pub returns-in_default-due-clause-answer : goal.returns-in_default-due-clause-answer
returns-in_default-due-clause-answer c =
    let seen = c.args.self.now in
    let to = c.args.to in
    let slot = c.args.slot in
    let at : slot_at seen to slot ≡ slot_in c.self.inside.table to slot =
    slot-seen to slot c.self.invariant c.self.view_is c.requires in
    let number : option_and_then number_of (slot_at seen to slot) ≡ Some c.args.number =
    ap (option_and_then number_of) at
    ∙ (sym c.number.ensures ∙ (c.in-Some.is ∙ ap (λ (n : ℕ). Some n) c.if-taken-number.false)) in
    (λ _. taken-yes (slot_at seen to slot) c.args.number number, λ _. search rules)

pub returns-in_default-due-clause-freed : goal.returns-in_default-due-clause-freed
returns-in_default-due-clause-freed c =
    let fields = c.self.inside in
    let given = fields.given.items in
    let table = fields.table in
    let to = c.args.to in
    let slot = c.args.slot in
    let inside = in-range to slot c.self.invariant c.self.view_is c.requires in
    ap (credits_view fields.last given) c.vacate.ensures
    ∙ (changed-is fields.last given table to slot (λ _. Vacant) inside
    ∙ ap (λ (u : SlotsState). with_slot_changed u to slot (λ _. Vacant)) c.self.view_is)
