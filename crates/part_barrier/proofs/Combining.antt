-- Notifies combined: in any order, in any groups, and again.
use Rattle.std.proofs.Common.{◌≡◌, ◌≢◌, ◌⊎◌, inl, inr, ℕ, zero, suc, ◌<◌, Bool, true, false, true≢false, ◌||◌, cond}
use Rattle.std.proofs.Common.{Option, Some, None, refl, sym, ap, ◌∙◌, arith, ℤ}
use Rattle.std.specs.Int.{int_min}
use Rattle.std.specs.Ordering.{int_eq}
use Rattle.std.specs.Prelude.{bit_or}
use Rattle.std.proofs.lemmas.Bool.Decides.{nat_tests, Decides-int_eq}
use Rattle.std.proofs.lemmas.Bool.{cases_Bool}
use Rattle.std.proofs.lemmas.Int.{ints, clamps}
use Rattle.std.proofs.lemmas.Nat.Bits.{bit_at_or, bit_at-lt}
use Rattle.part_barrier.specs.declared.known.Combination.{Combination}
use Rattle.part_barrier.specs.Masks.{has}
use Rattle.part_barrier.specs.Combinations.{Notifies, one_notify, no_notify, differ, least, combine, combined_id}
use Rattle.part_barrier.specs.Combinations.{combined_flags, notified_by, all_of, among}
use Rattle.std.proofs.Math.Bool.{or-false, or-true}

-- ---- ids

pub int_min_comm : (id other : ℤ) → int_min id other ≡ int_min other id
int_min_comm id other = omega (arith, ints, clamps)

pub int_min_assoc : (id other third : ℤ) → int_min (int_min id other) third ≡ int_min id (int_min other third)
int_min_assoc id other third = omega (arith, ints, clamps)

pub int_min_same : (id : ℤ) → int_min id id ≡ id
int_min_same id = omega (arith, ints, clamps)

pub int_eq_tells : (id other : ℤ) → ((int_eq id other ≡ true) × (id ≡ other))
    ⊎ ((int_eq id other ≡ false) × (id ≢ other))
int_eq_tells id other = elim (cases_Bool (int_eq id other)) [
  | inl holds ↦ inl (holds, (Decides-int_eq id other).0 holds)
  | inr fails ↦ inr (fails, λ same. absurd (true≢false (sym ((Decides-int_eq id other).1 same) ∙ fails)))
]

pub int_eq_same : (id : ℤ) → int_eq id id ≡ true
int_eq_same id = (Decides-int_eq id id).1 refl

-- ---- combine

pub differ_comm : (first second : Option ℤ) → differ first second ≡ differ second first
differ_comm None None = refl
differ_comm None (Some other) = refl
differ_comm (Some id) None = refl
differ_comm (Some id) (Some other) = elim (int_eq_tells id other) [
  | inl one ↦ rw one.1 refl
  | inr one ↦ elim (int_eq_tells other id) [ inl two ↦ absurd (one.1 (sym two.1)) | inr two ↦ rw (one.0, two.0) refl ]
]

-- ids of two, and then of a third
pub differ_assoc : (first second third : Option ℤ)
    → (differ first second || differ (least first second) third)
    ≡ (differ second third || differ first (least second third))
differ_assoc None second third = sym (or-false (differ second third))
differ_assoc (Some id) None third = refl
differ_assoc (Some id) (Some other) None = or-false (differ (Some id) (Some other))
differ_assoc (Some id) (Some other) (Some more) = elim (int_eq_tells id other) [
  | inl one ↦ rw (one.1, int_eq_same other, int_min_same other) (elim (int_eq_tells other more) [
    | inl two ↦ rw (two.1, int_eq_same more, int_min_same more, int_eq_same more) refl
    | inr two ↦ rw two.0 refl
  ])
  | inr one ↦ rw one.0 (elim (int_eq_tells other more) [
    | inl two ↦ rw (← two.1, int_eq_same other, int_min_same other, one.0) refl
    | inr two ↦ rw two.0 refl
  ])
]

least_comm : (first second : Option ℤ) → least first second ≡ least second first
least_comm None None = refl
least_comm None (Some other) = refl
least_comm (Some id) None = refl
least_comm (Some id) (Some other) = ap Some (int_min_comm id other)

least_assoc : (first second third : Option ℤ) → least (least first second) third ≡ least first (least second third)
least_assoc None second third = refl
least_assoc (Some id) None third = refl
least_assoc (Some id) (Some other) None = refl
least_assoc (Some id) (Some other) (Some more) = ap Some (int_min_assoc id other more)

shuffle : (one two three first second third fourth : Bool) → (first || second) ≡ (third || fourth)
    → (one || two || first || three || second) ≡ (one || (two || three || third) || fourth)
shuffle true two three first second third fourth same = refl
shuffle false true three first second third fourth same = refl
shuffle false false true first second third fourth same = rw (or-true first) refl
shuffle false false false first second third fourth same = rw (or-false first) same

swap : (one two three : Bool) → (one || two || three) ≡ (two || one || three)
swap true true three = refl
swap true false three = refl
swap false two three = rw (or-false two) refl

abbrev made : Bool → Option ℤ → Combination
made is_mismatch named = record { mismatch = is_mismatch; id = named }

same_combination : {first second : Combination} → first.mismatch ≡ second.mismatch → first.id ≡ second.id
    → first ≡ second
same_combination {first = first} {second = second} mismatches identifiers =
    ap (λ is_mismatch. made is_mismatch first.id) mismatches ∙ ap (λ named. made second.mismatch named) identifiers

pub combine_assoc : (first second third : Combination)
    → combine (combine first second) third ≡ combine first (combine second third)
combine_assoc first second third = same_combination
    (shuffle first.mismatch second.mismatch third.mismatch (differ first.id second.id)
    (differ (least first.id second.id) third.id) (differ second.id third.id)
    (differ first.id (least second.id third.id)) (differ_assoc first.id second.id third.id))
    (least_assoc first.id second.id third.id)

pub combine_comm : (first second : Combination) → combine first second ≡ combine second first
combine_comm first second = same_combination
    (rw (differ_comm first.id second.id) (swap first.mismatch second.mismatch (differ second.id first.id)))
    (least_comm first.id second.id)

pub combine_none : (combined : Combination) → combine combined no_notify ≡ combined
combine_none combined = combine_comm combined no_notify ∙ none_combine combined
  where
    none_combine : (combined : Combination) → combine no_notify combined ≡ combined
    none_combine combined = same_combination (or-false combined.mismatch) refl

pub none_combine : (combined : Combination) → combine no_notify combined ≡ combined
none_combine combined = combine_comm no_notify combined ∙ combine_none combined

pub combine_same : (combined : Combination) → combine combined combined ≡ combined
combine_same combined = same_combination (same combined.mismatch combined.id) (same_id combined.id)
  where
    same : (is_mismatch : Bool) (named : Option ℤ) → (is_mismatch || is_mismatch || differ named named) ≡ is_mismatch
    same true named = refl
    same false None = refl
    same false (Some id) = rw (int_eq_same id) refl

    same_id : (named : Option ℤ) → least named named ≡ named
    same_id None = refl
    same_id (Some id) = ap Some (int_min_same id)

-- (a, b) and (c, d) are (a, c) and (b, d)
pub combine_pairs : (first second third fourth : Combination)
    → combine (combine first second) (combine third fourth) ≡ combine (combine first third) (combine second fourth)
combine_pairs first second third fourth = combine_assoc first second (combine third fourth)
    ∙ (ap (combine first) (sym (combine_assoc second third fourth)
    ∙ (ap (λ pair. combine pair fourth) (combine_comm second third) ∙ combine_assoc third second fourth))
    ∙ sym (combine_assoc first third (combine second fourth)))

-- a part that is written as one_notify notify is read as that part
pub one_written : (combined : Combination) → one_notify (combined_id combined) (combined_flags combined) ≡ combined
one_written combined = same_combination (flag combined.mismatch combined.id) (named combined.mismatch combined.id)
  where
    flag : (is_mismatch : Bool) (known : Option ℤ) → has (combined_flags (made is_mismatch known)) 1 ≡ is_mismatch
    flag true None = refl
    flag true (Some id) = refl
    flag false None = refl
    flag false (Some id) = refl

    named : (is_mismatch : Bool) (known : Option ℤ)
        → (one_notify (combined_id (made is_mismatch known)) (combined_flags (made is_mismatch known))).id ≡ known
    named true None = refl
    named true (Some id) = refl
    named false None = refl
    named false (Some id) = refl

-- ---- masks

pub has_or : (first second node : ℕ) → has (bit_or first second) node ≡ (has first node || has second node)
has_or first second node = rw (bit_at_or first second node)
    (grind (arith, nat_tests, bit_at-lt first node, bit_at-lt second node))

-- ---- the notifies of many nodes

pub all_of-same : (notifies newer : Notifies) (nodes : ℕ) → ((other : ℕ) → other < nodes → notifies other ≡ newer other)
    → all_of notifies nodes ≡ all_of newer nodes
all_of-same notifies newer zero alike = refl
all_of-same notifies newer (suc node) alike =
    rw (all_of-same notifies newer node (λ other low. alike other (omega arith)), alike node (omega arith)) refl

pub only_or : (first second : ℕ) (notifies : Notifies) (node : ℕ)
    → notified_by (among (bit_or first second) notifies node) ≡ combine (notified_by (among first notifies node))
    (notified_by (among second notifies node))
only_or first second notifies node = rw (has_or first second node) (split (has first node) (has second node))
  where
    split : (one two : Bool) → notified_by (cond (one || two) (notifies node) None) ≡ combine
        (notified_by (cond one (notifies node) None)) (notified_by (cond two (notifies node) None))
    split true true = sym (combine_same (notified_by (notifies node)))
    split true false = sym (combine_none (notified_by (notifies node)))
    split false true = sym (none_combine (notified_by (notifies node)))
    split false false = refl

pub all_of-or : (first second : ℕ) (notifies : Notifies) (nodes : ℕ)
    → all_of (among (bit_or first second) notifies) nodes ≡ combine (all_of (among first notifies) nodes)
    (all_of (among second notifies) nodes)
all_of-or first second notifies zero = refl
all_of-or first second notifies (suc node) =
    rw (all_of-or first second notifies node, only_or first second notifies node)
    (combine_pairs (all_of (among first notifies) node) (all_of (among second notifies) node)
    (notified_by (among first notifies node)) (notified_by (among second notifies node)))
