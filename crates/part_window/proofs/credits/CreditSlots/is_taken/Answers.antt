use Rattle.std.proofs.Common.{ℕ, rules, ◌≡◌, Some, ap, sym, ◌∙◌}
use Rattle.std.specs.Prelude.{option_and_then}
use Rattle.part_window.specs.TableState.{slot_in}
use Rattle.part_window.specs.SlotsState.{slot_at, number_of}
use Rattle.std.proofs.lemmas.Option.{same_Some}
use Rattle.part_window.proofs.CreditsViewed.{slot-seen, in-range}
use Rattle.part_window.proofs.Dues.{taken-no, taken-yes}
use Rattle.part_window.proofs.credits.CreditSlots.is_taken.Goals as goal

pub number-requires : goal.number-requires
number-requires c =
    in-range c.args.to c.args.slot c.self.invariant c.self.view_is c.requires

pub returns-in_default : goal.returns-in_default
returns-in_default c =
    let to = c.args.to in
    let slot = c.args.slot in
    let at : slot_at c.args.self.now to slot ≡ slot_in c.self.inside.table to slot =
    slot-seen to slot c.self.invariant c.self.view_is c.requires in
    let no : (number : ℕ) → option_and_then number_of (slot_at c.args.self.now to slot) ≡ Some number → ⊥ =
    λ number is. c.in_default.not-Some number (c.number.ensures ∙ (ap (option_and_then number_of) (sym at) ∙ is)) in (
      λ answer. absurd (search rules),
      λ taken. absurd
          (taken-no (slot_at c.args.self.now to slot) c.args.number (λ number is. absurd (no number is)) taken),
    )

pub returns-then-current-number : goal.returns-then-current-number
returns-then-current-number c =
    let to = c.args.to in
    let slot = c.args.slot in
    let at : slot_at c.args.self.now to slot ≡ slot_in c.self.inside.table to slot =
    slot-seen to slot c.self.invariant c.self.view_is c.requires in
    let read : option_and_then number_of (slot_at c.args.self.now to slot) ≡ Some c.in-Some.current =
    ap (option_and_then number_of) at ∙ (sym c.number.ensures ∙ c.in-Some.is) in (
      λ answer. absurd (search rules),
      λ taken. absurd
          (taken-no (slot_at c.args.self.now to slot) c.args.number
          (λ number is same. c.if-current-number.true (sym (same_Some _ _ (sym is ∙ read)) ∙ same)) taken),
    )

pub returns : goal.returns
returns c =
    let seen = c.args.self.now in
    let to = c.args.to in
    let slot = c.args.slot in
    let at : slot_at seen to slot ≡ slot_in c.self.inside.table to slot =
    slot-seen to slot c.self.invariant c.self.view_is c.requires in
    let number : option_and_then number_of (slot_at seen to slot) ≡ Some c.args.number =
    ap (option_and_then number_of) at
    ∙ (sym c.number.ensures ∙ (c.in-Some.is ∙ ap (λ (n : ℕ). Some n) c.if-current-number.false)) in
    (λ _. taken-yes (slot_at seen to slot) c.args.number number, λ _. search rules)
