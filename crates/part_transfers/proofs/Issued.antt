-- Which operation the next chunk is of, and what a chunk that goes out or comes back leaves of the operations.
use Rattle.std.proofs.Common.{◌≡◌, ◌⊎◌, inl, inr, ℕ, zero, suc, ◌+◌, ◌==◌, Bool, true, false, true≢false, ◌&&◌, List}
use Rattle.std.proofs.Common.{[], ◌∷◌, Some, length, refl, sym, ap, ◌∙◌, arith, eq-eqb}
use Rattle.std.specs.List.{slice_get}
use Rattle.std.proofs.lemmas.Bool.{cases_Bool, and_parts, and_from, eqb-true}
use Rattle.std.proofs.lemmas.Option.{same_Some}
use Rattle.base_lists.specs.Numbered.{element_at, change}
use Rattle.base_lists.specs.Update.{update}
use Rattle.base_lists.proofs.Numbered.{numbered_mapped}
use Rattle.base_lists.proofs.Update.{update-on}
use Rattle.part_transfers.specs.declared.operation.Next.{Next}
use Rattle.part_transfers.specs.Operation.{Operation, target, has_next, chunk_of, next_chunk, with_sent, issue, with_back}
use Rattle.part_transfers.specs.Operation.{come_back, IsFirst}

-- ---- the next chunk

first_from : (can : ℕ → Bool) (number : ℕ) (operations : List Operation) (next : Next)
    → next_chunk can number operations ≡ Some next
    → (place : ℕ) × (operation : Operation) × (slice_get operations place ≡ Some operation)
    × (next ≡ chunk_of (number + place) operation) × (has_next operation ≡ true)
    × (can (target operation.transfer) ≡ true)
    × ((slot request : ℕ) (bytes : List ℕ)
    → issue (target operation.transfer) slot request bytes operations
    ≡ update operations place (with_sent slot request bytes))
first_from can number [] next is = absurd (cc)
first_from can number (first ∷ later) next is = elim (cases_Bool (has_next first && can (target first.transfer))) [
  | inl here ↦ (
      let both = and_parts (has_next first) (can (target first.transfer)) here in
      let found : chunk_of number first ≡ next = same_Some _ _ (rw here at is) in (
        0,
        first,
        refl,
        sym found ∙ ap (λ n. chunk_of n first) (omega arith),
        both.0,
        both.1,
        λ slot request bytes. rw (and_from _ _ both.0 (eq-eqb (target first.transfer) (target first.transfer) refl))
            refl,
      ))
  | inr isnt ↦ (
      let it = first_from can (suc number) later next (rw isnt at is) in
      let passed : (has_next first && (target first.transfer == target it.1.transfer)) ≡ false =
      elim (cases_Bool (has_next first && (target first.transfer == target it.1.transfer))) [
        | inl taken ↦ (
            let both = and_parts (has_next first) (target first.transfer == target it.1.transfer) taken in
            let same = eqb-true (target first.transfer) (target it.1.transfer) both.1 in
            absurd (true≢false (sym (and_from _ _ both.0 (ap can same ∙ it.5)) ∙ isnt)))
        | inr passed ↦ passed
      ] in (
        suc it.0,
        it.1,
        it.2,
        it.3 ∙ ap (λ n. chunk_of n it.1) (omega arith),
        it.4,
        it.5,
        λ slot request bytes. rw passed (ap (λ rest. first ∷ rest) (it.6 slot request bytes)
            ∙ sym (update-on first later it.0 (with_sent slot request bytes))),
      ))
]

-- the next chunk is of the first operation that has one to its node, and that is the one which issuing it changes
pub next_is_first : (can : ℕ → Bool) (operations : List Operation) (next : Next)
    → next_chunk can 1 operations ≡ Some next → IsFirst can operations next
next_is_first can operations next is =
    let it = first_from can 1 operations next is in
    let one : 1 + it.0 ≡ suc it.0 = omega arith in
    let number : next.number ≡ suc it.0 = ap (λ (n : Next). n.number) it.3 ∙ one in
    let to : target next.transfer ≡ target it.1.transfer = ap (λ (n : Next). target n.transfer) it.3 in
    record {
      operation = it.1;
      here = ap (element_at operations) number ∙ it.2;
      chunk = it.3 ∙ ap (λ n. chunk_of n it.1) (one ∙ sym number);
      has = it.4;
      open_to = ap can to ∙ it.5;
      issued = λ slot request bytes. ap (λ n. issue n slot request bytes operations) to
          ∙ (it.6 slot request bytes ∙ ap (change (with_sent slot request bytes) operations) (sym number));
    }

-- ---- a chunk goes out

pub length-issue : (to slot request : ℕ) (bytes : List ℕ) (operations : List Operation)
    → length (issue to slot request bytes operations) ≡ length operations
length-issue to slot request bytes [] = refl
length-issue to slot request bytes (first ∷ later) =
    elim (cases_Bool (has_next first && (target first.transfer == to))) [
      | inl here ↦ rw here refl
      | inr isnt ↦ rw isnt (ap suc (length-issue to slot request bytes later))
    ]

-- the operation has one chunk more that went to the node, or is as it was
abbrev pub IsAsIssued : (to slot request : ℕ) → (bytes : List ℕ) → (was now : Operation) → Type 0
IsAsIssued to slot request bytes was now =
    (now ≡ was) ⊎ ((now ≡ with_sent slot request bytes was) × (has_next was ≡ true) × (target was.transfer ≡ to))

-- what is at a place afterwards was there
pub issue_was : (to slot request : ℕ) (bytes : List ℕ) (operations : List Operation) (place : ℕ) (now : Operation)
    → slice_get (issue to slot request bytes operations) place ≡ Some now
    → (was : Operation) × (slice_get operations place ≡ Some was) × IsAsIssued to slot request bytes was now
issue_was to slot request bytes [] place now at = absurd (cc)
issue_was to slot request bytes (first ∷ later) place now at =
    elim (cases_Bool (has_next first && (target first.transfer == to))) [
      | inl here ↦ here_was place (rw here at at) (and_parts (has_next first) (target first.transfer == to) here)
      | inr isnt ↦ later_was place (λ p e. issue_was to slot request bytes later p now e) (rw isnt at at)
    ]
  where
    here_was : (p : ℕ) → slice_get (with_sent slot request bytes first ∷ later) p ≡ Some now
        → (has_next first ≡ true) × ((target first.transfer == to) ≡ true)
        → (was : Operation) × (slice_get (first ∷ later) p ≡ Some was) × IsAsIssued to slot request bytes was now
    here_was zero e both =
        (first, refl, inr (sym (same_Some _ _ e), both.0, eqb-true (target first.transfer) to both.1))
    here_was (suc p) e both = (now, e, inl refl)

    later_was : (p : ℕ)
        → ((q : ℕ) → slice_get (issue to slot request bytes later) q ≡ Some now
        → (was : Operation) × (slice_get later q ≡ Some was) × IsAsIssued to slot request bytes was now)
        → slice_get (first ∷ issue to slot request bytes later) p ≡ Some now
        → (was : Operation) × (slice_get (first ∷ later) p ≡ Some was) × IsAsIssued to slot request bytes was now
    later_was zero rest e = (first, refl, inl (sym (same_Some _ _ e)))
    later_was (suc p) rest e = rest p e

-- and what was at a place is there
pub issue_has : (to slot request : ℕ) (bytes : List ℕ) (operations : List Operation) (place : ℕ) (was : Operation)
    → slice_get operations place ≡ Some was
    → (now : Operation) × (slice_get (issue to slot request bytes operations) place ≡ Some now)
    × IsAsIssued to slot request bytes was now
issue_has to slot request bytes [] place was at = absurd (cc)
issue_has to slot request bytes (first ∷ later) place was at =
    elim (cases_Bool (has_next first && (target first.transfer == to))) [
      | inl here ↦ rw here (here_has place at (and_parts (has_next first) (target first.transfer == to) here))
      | inr isnt ↦ rw isnt (later_has place (λ p e. issue_has to slot request bytes later p was e) at)
    ]
  where
    here_has : (p : ℕ) → slice_get (first ∷ later) p ≡ Some was
        → (has_next first ≡ true) × ((target first.transfer == to) ≡ true)
        → (now : Operation) × (slice_get (with_sent slot request bytes first ∷ later) p ≡ Some now)
        × IsAsIssued to slot request bytes was now
    here_has zero e both =
        let same : first ≡ was = same_Some _ _ e in (
          with_sent slot request bytes first,
          refl,
          inr (
            ap (with_sent slot request bytes) same,
            ap has_next (sym same)
                ∙ both.0,
            ap (λ (o : Operation). target o.transfer) (sym same)
                ∙ eqb-true (target first.transfer) to both.1,
          ),
        )
    here_has (suc p) e both = (was, e, inl refl)

    later_has : (p : ℕ)
        → ((q : ℕ) → slice_get later q ≡ Some was
        → (now : Operation) × (slice_get (issue to slot request bytes later) q ≡ Some now)
        × IsAsIssued to slot request bytes was now)
        → slice_get (first ∷ later) p ≡ Some was
        → (now : Operation) × (slice_get (first ∷ issue to slot request bytes later) p ≡ Some now)
        × IsAsIssued to slot request bytes was now
    later_has zero rest e = (first, refl, inl (same_Some _ _ e))
    later_has (suc p) rest e = rest p e

-- ---- a chunk comes back

-- nothing but the chunks of an operation changes
pub with_back_keeps : (from slot request : ℕ) (operation : Operation)
    → with_back from slot request operation ≡ record operation { sent = (with_back from slot request operation).sent }
with_back_keeps from slot request operation = elim (cases_Bool (target operation.transfer == from)) [
  | inl is ↦ rw is refl
  | inr isnt ↦ rw isnt refl
]

-- what has a number afterwards had it
pub come_back_was : (from slot request : ℕ) (operations : List Operation) (number : ℕ) (now : Operation)
    → element_at (come_back from slot request operations) number ≡ Some now
    → (was : Operation) × (element_at operations number ≡ Some was) × (with_back from slot request was ≡ now)
come_back_was from slot request operations number now at =
    numbered_mapped (with_back from slot request) operations number now at
