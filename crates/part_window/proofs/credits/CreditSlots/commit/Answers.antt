use Rattle.std.proofs.Common.{ℕ, ◌≡◌, ◌<◌, Option, Some, None, List, length, ap, sym, ◌∙◌, subst, refl, length-set}
use Rattle.std.specs.Prelude.{slice_get, slice_set, option_and_then}
use Rattle.base_lists.specs.Cut.{count_at}
use Rattle.part_window.specs.TableState.{TableState, slot_in, place_of, with_change, opened_time}
use Rattle.part_window.specs.SlotsState.{SlotState, Opened, SlotsState, with_slot_changed, as_committed}
use Rattle.part_window.specs.declared.order.Due.{Due}
use Rattle.part_window.specs.CreditViews.{credits_view, Matches, IsCredits}
use Rattle.std.proofs.lemmas.Option.{slice_get_within}
use Rattle.base_lists.proofs.Indexes.{get-set_same, get-set_other}
use Rattle.part_window.proofs.CreditsViewed.{changed-is, credits-after, in-range, time-opened, not-as_committed}
use Rattle.part_window.proofs.credits.CreditSlots.commit.Goals as goal
use Rattle.part_window.proofs.Slots.{place-there}

pub commit-requires-clause-in_range : goal.commit-requires-clause-in_range
commit-requires-clause-in_range c =
    in-range c.args.to c.args.slot c.self.invariant c.self.view_is c.requires.in_range

pub place-place-requires : goal.place-place-requires
place-place-requires c =
    let inside = in-range c.args.to c.args.slot c.self.invariant c.self.view_is c.requires.in_range in
    subst (λ (u : TableState). c.args.slot < count_at u.counts c.args.to) (sym c.commit.ensures.changed) inside

pub insert-requires-clause-unlisted : goal.insert-requires-clause-unlisted
insert-requires-clause-unlisted c =
    let fields = c.self.inside in
    let table = fields.table in
    let to = c.args.to in
    let slot = c.args.slot in
    let place : ℕ = place_of table to slot in
    let found = time-opened (slot_in table to slot) c.in-Some.time (sym c.commit.ensures.time ∙ c.in-Some.is) in
    let here : c.place-place.result ≡ place =
    c.place-place.ensures.place ∙ ap (λ (u : TableState). place_of u to slot) c.commit.ensures.changed in
    let none : slice_get fields.order place ≡ Some None =
    c.self.invariant.matched place (Opened found.0 c.in-Some.time found.1) found.2 in
    ap (slice_get fields.order) here ∙ none

pub invariant_of-self : goal.invariant_of-self
invariant_of-self c =
    let fields = c.self.inside in
    let given = fields.given.items in
    let table = fields.table in
    let kept = c.self.invariant in
    let to = c.args.to in
    let slot = c.args.slot in
    let inside = in-range to slot kept c.self.view_is c.requires.in_range in
    let place : ℕ = place_of table to slot in
    let found = time-opened (slot_in table to slot) c.in-Some.time (sym c.commit.ensures.time ∙ c.in-Some.is) in
    let here : c.place-place.result ≡ place =
    c.place-place.ensures.place ∙ ap (λ (u : TableState). place_of u to slot) c.commit.ensures.changed in
    let none : slice_get fields.order place ≡ Some None =
    kept.matched place (Opened found.0 c.in-Some.time found.1) found.2 in
    let due : Due = record { time = c.in-Some.time; node = to; slot = slot } in
    let order : c.insert.new.self ≡ slice_set fields.order place (Some due) =
    c.insert.ensures ∙ ap (λ (number : ℕ). slice_set fields.order number (Some due)) here in
    let within : place < length fields.order = slice_get_within fields.order place None none in
    subst (λ (u : TableState). IsCredits given u c.insert.new.self) (sym c.commit.ensures.changed)
    (subst (λ (o : List (Option Due)). IsCredits given (with_change table to slot (as_committed c.args.len)) o) (sym order)
    (credits-after given (slice_set fields.order place (Some due)) to slot (Opened found.0 c.in-Some.time found.1)
    (as_committed c.args.len) kept refl found.2 (length-set fields.order place (Some due))
    (λ number ne. get-set_other fields.order place (Some due) number ne)
    (due, get-set_same fields.order place (Some due) within, refl, inside, refl)))

pub invariant_of-self-in_default : goal.invariant_of-self-in_default
invariant_of-self-in_default c =
    let fields = c.self.inside in
    let given = fields.given.items in
    let table = fields.table in
    let kept = c.self.invariant in
    let to = c.args.to in
    let slot = c.args.slot in
    let inside = in-range to slot kept c.self.view_is c.requires.in_range in
    let there = place-there table to slot inside kept.whole in
    let same =
    not-as_committed there.0 c.args.len (λ time is. c.in_default.not-Some time (c.commit.ensures.time
    ∙ (ap (option_and_then opened_time) there.1 ∙ is))) in
    subst (λ (u : TableState). IsCredits given u fields.order) (sym c.commit.ensures.changed)
    (credits-after given fields.order to slot there.0 (as_committed c.args.len) kept refl there.1 refl (λ _ _. refl)
    (subst (λ (x : SlotState). Matches table.counts (place_of table to slot) x
    (slice_get fields.order (place_of table to slot))) (sym same) (kept.matched _ there.0 there.1)))

pub returns-in-Some : goal.returns-in-Some
returns-in-Some c =
    let fields = c.self.inside in
    let given = fields.given.items in
    let table = fields.table in
    let to = c.args.to in
    let slot = c.args.slot in
    let inside = in-range to slot c.self.invariant c.self.view_is c.requires.in_range in
    ap (credits_view fields.last given) c.commit.ensures.changed
    ∙ (changed-is fields.last given table to slot (as_committed c.args.len) inside
    ∙ ap (λ (u : SlotsState). with_slot_changed u to slot (as_committed c.args.len)) c.self.view_is)

pub returns-in_default : goal.returns-in_default
returns-in_default c =
    let fields = c.self.inside in
    let given = fields.given.items in
    let table = fields.table in
    let to = c.args.to in
    let slot = c.args.slot in
    let inside = in-range to slot c.self.invariant c.self.view_is c.requires.in_range in
    ap (credits_view fields.last given) c.commit.ensures.changed
    ∙ (changed-is fields.last given table to slot (as_committed c.args.len) inside
    ∙ ap (λ (u : SlotsState). with_slot_changed u to slot (as_committed c.args.len)) c.self.view_is)
