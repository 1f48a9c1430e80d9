-- The locks that are held stay those that there are, each held once; so they are at most 64.
use Rattle.std.proofs.Common.{◌≡◌, ◌<◌, ◌≤◌, inl, inr, ℕ, ◌+◌, List, [], ◌∷◌, ◌++◌, length, Some, None, Bool, true}
use Rattle.std.proofs.Common.{false}
use Rattle.std.proofs.Common.{eqb, eqb-true, ne_eqb, refl, sym, ap, arith, length-append}
use Rattle.std.specs.Prelude.{map, filter, cond}
use Rattle.std.specs.List.{AllByRecursion, IsDistinct, list_any}
use Rattle.std.proofs.lemmas.Bool.{cases_Bool, or_cases, eqb-false}
use Rattle.std.proofs.lemmas.List.{length-map}
use Rattle.std.proofs.lemmas.List.Sums.{sum_by-cons}
use Rattle.std.proofs.lemmas.Map.Steps.{length-le_from_distinct_below}
use Rattle.base_lists.proofs.Cases.{none_some}
use Rattle.part_handlers.specs.declared.lock_answer.Held.{Held}
use Rattle.part_handlers.specs.declared.lock_answer.Owner.{Owner}
use Rattle.part_handlers.specs.Locks.{holder, is_of, held_by, without}
use Rattle.part_handlers.specs.KeptLocks.{AreLocks}

-- a lock that nobody holds is none of those that are held
free_tells : (one : Held) (held : List Held) (lock : ℕ) → holder (one ∷ held) lock ≡ None
    → (eqb one.lock lock ≡ false) × (holder held lock ≡ None)
free_tells one held lock free = elim (cases_Bool (eqb one.lock lock)) [
  | inl same ↦ let taken : Some one.owner ≡ None = rw same at free in absurd (none_some (sym taken))
  | inr apart ↦ (apart, rw apart at free)
]

-- which locks are held
abbrev locks_of : List Held → List ℕ
locks_of held = map (λ one. one.lock) held

free_all : (held : List Held) (lock : ℕ) → holder held lock ≡ None
    → AllByRecursion (λ other. eqb lock other ≡ false) (locks_of held)
free_all [] lock free = tt
free_all (one ∷ held) lock free =
    let told = free_tells one held lock free in
    (ne_eqb lock one.lock (λ same. eqb-false one.lock lock told.0 (sym same)), free_all held lock told.1)

apart_all : (held : List Held) → AreLocks held → IsDistinct eqb (locks_of held)
unfolding IsDistinct
apart_all [] kept = tt
apart_all (one ∷ held) kept = (free_all held one.lock kept.1, apart_all held kept.2)

there_all : (held : List Held) (lock : ℕ) → AreLocks held → list_any (eqb lock) (locks_of held) ≡ true → lock < 64
there_all [] lock kept found = absurd cc
there_all (one ∷ held) lock kept found =
    elim (or_cases (eqb lock one.lock) (list_any (eqb lock) (locks_of held)) found) [
      | inl same ↦ omega (arith, eqb-true lock one.lock same, kept.0)
      | inr later ↦ there_all held lock kept.2 later
    ]

-- at most 64 locks are held
pub few : (held : List Held) → AreLocks held → length held ≤ 64
few held kept = omega (
  arith,
  length-map held (λ (one : Held). one.lock),
  length-le_from_distinct_below (locks_of held) 64 (apart_all held kept) (λ lock found. there_all held lock kept found),
)

-- a lock that nobody holds may be taken
pub added : (held : List Held) (next : Held) → AreLocks held → next.lock < 64 → holder held next.lock ≡ None
    → AreLocks (held ++ next ∷ [])
added [] next kept there free = (there, refl, tt)
added (one ∷ held) next kept there free =
    let told = free_tells one held next.lock free in
    (kept.0, free_behind held next one.lock kept.1 told.0, added held next kept.2 there told.1) where
      free_behind : (held : List Held) (next : Held) (lock : ℕ) → holder held lock ≡ None → eqb lock next.lock ≡ false
          → holder (held ++ next ∷ []) lock ≡ None
      free_behind [] next lock free apart =
          rw (ne_eqb next.lock lock (λ same. eqb-false lock next.lock apart (sym same))) refl
      free_behind (one ∷ held) next lock free apart =
          let told = free_tells one held lock free in rw told.0 (free_behind held next lock told.1 apart)

-- there is room for it
pub room : (held : List Held) (next : Held) → AreLocks held → next.lock < 64 → holder held next.lock ≡ None
    → length held < 64
room held next kept there free =
    omega (arith, few (held ++ next ∷ []) (added held next kept there free), length-append held (next ∷ []))

free_filtered : (keep : Held → Bool) (held : List Held) (lock : ℕ) → holder held lock ≡ None
    → holder (filter keep held) lock ≡ None
free_filtered keep [] lock free = refl
free_filtered keep (one ∷ held) lock free =
    let told = free_tells one held lock free in let rest = free_filtered keep held lock told.1 in
    elim (cases_Bool (keep one)) [ inl stays ↦ rw (stays, told.0) rest | inr goes ↦ rw goes rest ]

-- some of them may be given back
pub filtered : (keep : Held → Bool) (held : List Held) → AreLocks held → AreLocks (filter keep held)
filtered keep [] kept = tt
filtered keep (one ∷ held) kept =
    let rest = filtered keep held kept.2 in elim (cases_Bool (keep one)) [
      | inl stays ↦ rw stays (kept.0, free_filtered keep held one.lock kept.1, rest)
      | inr goes ↦ rw goes rest
    ]

-- what the others hold, and what the owner holds
pub counted : (owner : Owner) (held : List Held) → length (without owner held) + held_by held owner ≡ length held
counted owner [] = refl
counted owner (one ∷ held) =
    let rest = counted owner held in
    let more = sum_by-cons (λ (other : Held). weight (is_of owner other)) one held in
    elim (cases_Bool (is_of owner one)) [
      | inl own ↦
          let same : length (without owner (one ∷ held)) ≡ length (without owner held) = rw own refl in
          omega (arith, rest, more, same, ap weight own)
      | inr other ↦
          let longer : length (without owner (one ∷ held)) ≡ length (without owner held) + 1 = rw other (omega arith) in
          omega (arith, rest, more, longer, ap weight other)
    ] where
      weight : Bool → ℕ
      weight own = cond own 1 0
