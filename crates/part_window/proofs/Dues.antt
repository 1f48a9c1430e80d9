-- What is due next, by the first place of the order.
use Rattle.std.proofs.Common.{ℕ, ◌≡◌, ◌≢◌, ◌+◌, ◌^◌, ◌<◌, ◌≤◌, Option, Some, None, Bool, List, length, refl, sym, ap, subst}
use Rattle.std.proofs.Common.{◌∙◌, inl, inr, arith, cond}
use Rattle.std.specs.Prelude.{nat_le, slice_get, option_and_then, IsSomeAnd, SomeIff}
use Rattle.std.proofs.lemmas.Option.{slice_get_cases}
use borrow.Author.Tests.{le-leb, lt-leb}
use Rattle.std.proofs.lemmas.Bool.{cases_Bool, leb-true, leb-false}
use Rattle.base_lists.specs.Cut.{start_of, count_at}
use Rattle.base_lists.proofs.Cut.{place_order}
use Rattle.part_window.specs.TableState.{TableState, place_of}
use Rattle.part_window.specs.SlotsState.{SlotState, Vacant, Opened, Committed, SlotsState, slot_at, IsTakenWith}
use Rattle.part_window.specs.SlotsState.{number_of}
use Rattle.part_window.specs.Due.{due_time, IsFirstDue, IsNextDue, NoneIsDue}
use Rattle.part_window.specs.Order.{IsFirst}
use Rattle.part_window.specs.CreditViews.{credits_view, Matches, IsCredits}
use Rattle.part_window.specs.declared.order.Due.{Due}
use Rattle.part_window.proofs.Due.{due_at-as_committed}
use Rattle.part_window.proofs.CreditsViewed.{slot-is, seen-there}

-- a listed place has a message, with its time and its address
pub listed-slot : (given : List ℕ) (table : TableState) (order : List (Option Due)) (place : ℕ) (due : Due)
    → IsCredits given table order → slice_get order place ≡ Some (Some due) → place + 1 < length order
    → (number : ℕ) × (message : List ℕ) × (slice_get table.slots place ≡ Some (Committed number due.time message))
    × (due.slot < count_at table.counts due.node) × (start_of table.counts due.node + due.slot ≡ place)
listed-slot given table order place due kept at inside = elim ((slice_get_cases table.slots place).1) [
  | inl known ↦ of known.0 known.2 (kept.matched place known.0 known.2)
  | inr known ↦ absurd (omega (arith, known.0, inside, kept.places))
] where
  of : (state : SlotState) → slice_get table.slots place ≡ Some state
      → Matches table.counts place state (slice_get order place)
      → (number : ℕ) × (message : List ℕ) × (slice_get table.slots place ≡ Some (Committed number due.time message))
      × (due.slot < count_at table.counts due.node) × (start_of table.counts due.node + due.slot ≡ place)
  of Vacant is matched = let none : slice_get order place ≡ Some None = matched in absurd cc
  of (Opened number time buffer) is matched = let none : slice_get order place ≡ Some None = matched in absurd cc
  of (Committed number time message) is matched =
      let some : slice_get order place ≡ Some (Some matched.0) = matched.1 in
      let same : matched.0 ≡ due = cc in (
        number,
        message,
        is
            ∙ ap (λ (other_time : ℕ). Some (Committed number other_time message)) (sym matched.2
            ∙ ap (λ (x : Due). x.time) same),
        subst (λ (x : Due). x.slot < count_at table.counts x.node) same matched.3,
        subst
            (λ (x : Due). start_of table.counts x.node + x.slot ≡ place) same matched.4,
      )

-- a message is listed, with its time
pub slot-listed : (last : ℕ) (given : List ℕ) (table : TableState) (order : List (Option Due)) (seen : SlotsState)
    (node slot number time : ℕ) (message : List ℕ) → credits_view last given table ≡ seen → IsCredits given table order
    → slot_at seen node slot ≡ Some (Committed number time message)
    → (due : Due) × (slice_get order (start_of table.counts node + slot) ≡ Some (Some due)) × (due.time ≡ time)
    × (slot < count_at table.counts node)
slot-listed last given table order seen node slot number time message view kept at =
    let there = seen-there node slot (Committed number time message) kept view at in
    let matched = kept.matched (place_of table node slot) (Committed number time message) there.1 in
    (matched.0, matched.1, matched.2, there.0)

-- what is not listed, or was sent too late, isn't due
pub none-due : (last : ℕ) (given : List ℕ) (table : TableState) (order : List (Option Due)) (seen : SlotsState)
    (now resend : ℕ) → credits_view last given table ≡ seen → IsCredits given table order
    → ((i : ℕ) (due : Due) → slice_get order i ≡ Some (Some due) → now < due.time + resend) → NoneIsDue seen now resend
none-due last given table order seen now resend view kept late =
    λ node slot. at node slot (slot_at seen node slot) refl where
      at : (node slot : ℕ) (found : Option SlotState) → slot_at seen node slot ≡ found
          → option_and_then (due_time now resend) (slot_at seen node slot) ≡ None
      at node slot None is = ap (option_and_then (due_time now resend)) is
      at node slot (Some Vacant) is = ap (option_and_then (due_time now resend)) is
      at node slot (Some (Opened number time buffer)) is = ap (option_and_then (due_time now resend)) is
      at node slot (Some (Committed number time message)) is =
          let known = slot-listed last given table order seen node slot number time message view kept is in
          let low : now < known.0.time + resend = late (start_of table.counts node + slot) known.0 known.1 in
          ap (option_and_then (due_time now resend)) is
          ∙ ap (λ (b : Bool). cond b (Some time) None) (lt-leb (time + resend) now (omega (arith, low, known.2)))

-- the first that is listed is due next, where it was sent early enough
pub first-due : (last : ℕ) (given : List ℕ) (table : TableState) (order : List (Option Due)) (seen : SlotsState)
    (now resend place : ℕ) (due : Due) → credits_view last given table ≡ seen → IsCredits given table order
    → slice_get order place ≡ Some (Some due) → place + 1 < length order → IsFirst order place due.time
    → due.time + resend ≤ now
    → IsFirstDue seen now resend due.node due.slot
first-due last given table order seen now resend place due view kept at inside first early =
    let known = listed-slot given table order place due kept at inside in
    let here : slot_at seen due.node due.slot ≡ Some (Committed known.0 due.time known.1) =
    ap (λ (value : SlotsState). slot_at value due.node due.slot) (sym view)
    ∙ (slot-is last given table due.node due.slot kept.nodes known.3
    ∙ (ap (slice_get table.slots) known.4 ∙ known.2)) in
    record {
      time = due.time;
      due =
          ap (option_and_then (due_time now resend)) here
          ∙ ap (λ (b : Bool). cond b (Some due.time) None) (le-leb (due.time + resend) now early);
      first = λ other_node slot other_time is.
          let message_there = due_at-as_committed seen now resend other_node slot other_time is in
          let listed_there =
          slot-listed last given table order seen other_node slot message_there.0 other_time message_there.1 view
          kept message_there.2 in
          let not_after = first (start_of table.counts other_node + slot) listed_there.0 listed_there.1 in
          let after : other_time ≡ due.time
          → start_of table.counts due.node + due.slot ≤ start_of table.counts other_node + slot =
          λ same. let at_most : place ≤ start_of table.counts other_node + slot = not_after.1 (listed_there.2
          ∙ same) in omega (arith, at_most, known.4) in
          record {
            earlier = omega (arith, not_after.0, listed_there.2);
            lower_node =
                λ same. (place_order table.counts due.node due.slot other_node slot known.3 listed_there.3
                (after same)).0;
            lower_slot =
                λ same nodes.
                (place_order table.counts due.node due.slot other_node slot known.3 listed_there.3 (after same)).1
                nodes;
          };
    }

-- which number a slot is taken with
pub taken-no : (found : Option SlotState) (wanted : ℕ)
    → ((number : ℕ) → option_and_then number_of found ≡ Some number → number ≢ wanted)
    → IsSomeAnd found (IsTakenWith wanted) → ⊥
taken-no None wanted other taken = taken
taken-no (Some Vacant) wanted other taken = taken
taken-no (Some (Opened number time buffer)) wanted other taken = other number refl taken
taken-no (Some (Committed number time message)) wanted other taken = other number refl taken

pub taken-yes : (found : Option SlotState) (wanted : ℕ) → option_and_then number_of found ≡ Some wanted
    → IsSomeAnd found (IsTakenWith wanted)
taken-yes None wanted is = absurd cc
taken-yes (Some Vacant) wanted is = absurd cc
taken-yes (Some (Opened number time buffer)) wanted is = let same : number ≡ wanted = cc in same
taken-yes (Some (Committed number time message)) wanted is = let same : number ≡ wanted = cc in same

-- where nothing is listed, or what is listed first would be due at no time that 64 bits hold, no slot ever is
pub never-due : (last : ℕ) (given : List ℕ) (table : TableState) (order : List (Option Due)) (seen : SlotsState)
    (resend : ℕ) → credits_view last given table ≡ seen → IsCredits given table order
    → ((i : ℕ) (due : Due) → slice_get order i ≡ Some (Some due) → 2 ^ 64 ≤ due.time + resend)
    → IsNextDue seen resend None
never-due last given table order seen resend view kept late now low =
    none-due last given table order seen now resend view kept
    (λ i due is. let far : 2 ^ 64 ≤ due.time + resend = late i due is in omega (arith, low, far))

-- else a slot is due from then on
pub due-from : (last : ℕ) (given : List ℕ) (table : TableState) (order : List (Option Due)) (seen : SlotsState)
    (resend place : ℕ) (due : Due) → credits_view last given table ≡ seen → IsCredits given table order
    → slice_get order place ≡ Some (Some due) → place + 1 < length order → IsFirst order place due.time
    → IsNextDue seen resend (Some (due.time + resend))
due-from last given table order seen resend place due view kept at inside first now =
    elim (cases_Bool (nat_le (due.time + resend) now)) [
      | inl come ↦ (let long = leb-true (due.time + resend) now come in
          rw come (
            (due.node, due.slot),
            first-due last given table order seen now resend place due view kept at inside first (omega (arith, long)),
          ))
      | inr early ↦ (let short = leb-false (due.time + resend) now early in
          rw early (none-due last given table order seen now resend view kept
          (λ j other is. let f = first j other is in omega (arith, f.0, short))))
    ]

-- either way the sum tells it, where there is one
pub due-by : (last : ℕ) (given : List ℕ) (table : TableState) (order : List (Option Due)) (seen : SlotsState)
    (resend place : ℕ) (due : Due) (answer : Option ℕ) → credits_view last given table ≡ seen
    → IsCredits given table order → slice_get order place ≡ Some (Some due) → place + 1 < length order
    → IsFirst order place due.time → SomeIff answer (due.time + resend < 2 ^ 64) (due.time + resend)
    → IsNextDue seen resend answer
due-by last given table order seen resend place due None view kept at inside first none =
    never-due last given table order seen resend view kept
    (λ j other is. let f = first j other is in omega (arith, f.0, none))
due-by last given table order seen resend place due (Some time) view kept at inside first some =
    subst (λ (t : ℕ). IsNextDue seen resend (Some t)) (sym some.1)
    (due-from last given table order seen resend place due view kept at inside first)
