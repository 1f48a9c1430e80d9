-- The smallest node with a flag to which one of the records of a list has an unissued chunk.
use Rattle.std.proofs.Common.{◌≡◌, inl, inr, ℕ, ◌+◌, ◌<◌, ◌≤◌, ◌==◌, Bool, true, false, true≢false, ◌&&◌, min, List}
use Rattle.std.proofs.Common.{Option, Some, None, refl, sym, ap, ◌∙◌, subst, arith, eq-eqb}
use Rattle.std.specs.List.{slice_get}
use Rattle.std.proofs.lemmas.Bool.{cases_Bool, cases_lt, cases_eq, and_parts, and_from, eqb-true}
use Rattle.std.proofs.lemmas.Option.{same_Some}
use Rattle.part_transfers.specs.declared.table.OperationRecord.{OperationRecord}
use Rattle.part_transfers.specs.declared.queue.Queued.{Queued}
use Rattle.part_transfers.specs.Operation.{target}
use Rattle.part_transfers.specs.Queue.{Queues}
use Rattle.part_transfers.specs.Syncs.{less}
use Rattle.part_transfers.specs.Table.{on_place, stands_at, is_unissued, is_ready, smaller_target}
use Rattle.part_transfers.specs.Table.{has_unissued_to, IsFirstExhausted}
use Rattle.part_transfers.proofs.Tests.{any_from}
use Rattle.part_transfers.proofs.Standing.{NoneOf, none_more, none_stands}

-- the test of a place, and a chunk of its record may be issued
abbrev pub is_meant : (flag : ℕ → Bool) → (ℕ → OperationRecord → Bool) → ℕ → OperationRecord → Bool
is_meant flag test place there = test place there && is_ready flag there

-- some record that is meant has this target
pub record HasTarget (flag : ℕ → Bool) (test : ℕ → OperationRecord → Bool) (places : List (Option OperationRecord))
    (node : ℕ) : Type 0 where
  pub place : ℕ
  pub there : OperationRecord
  pub at : slice_get places place ≡ Some (Some there)
  pub meant : is_meant flag test place there ≡ true
  pub same : target there.transfer ≡ node

-- no entry from one up to another that is meant has a smaller target
abbrev pub NoneBelow : (flag : ℕ → Bool) → (ℕ → OperationRecord → Bool) → List (Option OperationRecord) → List Queued
    → (from end node : ℕ) → Type 0
NoneBelow flag test places standing from end node =
    (index : ℕ) (entry : Queued) (there : OperationRecord) → from ≤ index → index < end
    → slice_get standing index ≡ Some entry → slice_get places entry.place ≡ Some (Some there)
    → is_meant flag test entry.place there ≡ true → node ≤ target there.transfer

-- what was found is the smallest target of the entries from one up to another that are meant
abbrev pub IsSmallest : (flag : ℕ → Bool) → (ℕ → OperationRecord → Bool) → List (Option OperationRecord) → List Queued
    → (from end : ℕ) → Option ℕ → Type 0
IsSmallest flag test places standing from end None = NoneOf (is_meant flag test) places standing from end
IsSmallest flag test places standing from end (Some node) =
    HasTarget flag test places node × NoneBelow flag test places standing from end node

pub smallest_none : (flag : ℕ → Bool) (test : ℕ → OperationRecord → Bool) (places : List (Option OperationRecord))
    (standing : List Queued) (from : ℕ) → IsSmallest flag test places standing from from None
smallest_none flag test places standing from index entry there low high at here = absurd (omega (arith, low, high))

-- the last entry has this record, and the others are before it
below_more : (flag : ℕ → Bool) (test : ℕ → OperationRecord → Bool) (places : List (Option OperationRecord))
    (standing : List Queued) (from end node : ℕ) (entry : Queued) (place : Option OperationRecord)
    → slice_get standing end ≡ Some entry → slice_get places entry.place ≡ Some place
    → ((there : OperationRecord) → place ≡ Some there → is_meant flag test entry.place there ≡ true
    → node ≤ target there.transfer)
    → NoneBelow flag test places standing from end node → NoneBelow flag test places standing from (end + 1) node
below_more flag test places standing from end node entry place at here last known index other there low high at_other here_other meant =
    elim (cases_eq index end) [
      | inl same ↦ (
          let is : entry ≡ other = same_Some entry other (sym at ∙ (ap (slice_get standing) (sym same) ∙ at_other)) in
          let there_is : place ≡ Some there = same_Some place (Some there)
          (sym here ∙ (ap (λ (y : Queued). slice_get places y.place) is ∙ here_other)) in
          last there there_is (ap (λ (y : Queued). is_meant flag test y.place there) is ∙ meant))
      | inr apart ↦ known index other there low (omega (arith, high, apart)) at_other here_other meant
    ]

-- a smaller node is below what another one is below
below_by : (flag : ℕ → Bool) (test : ℕ → OperationRecord → Bool) (places : List (Option OperationRecord))
    (standing : List Queued) (from end node other : ℕ) → node ≤ other
    → NoneBelow flag test places standing from end other → NoneBelow flag test places standing from end node
below_by flag test places standing from end node other less known index entry there low high at here meant =
    let before = known index entry there low high at here meant in omega (arith, less, before)

-- nothing was meant before, so nothing meant is below
below_none : (flag : ℕ → Bool) (test : ℕ → OperationRecord → Bool) (places : List (Option OperationRecord))
    (standing : List Queued) (from end node : ℕ) → NoneOf (is_meant flag test) places standing from end
    → NoneBelow flag test places standing from end node
below_none flag test places standing from end node none index entry there low high at here meant =
    absurd (true≢false (sym meant ∙ none index entry there low high at here))

-- one entry more, whose record isn't meant
smallest_skips : (flag : ℕ → Bool) (test : ℕ → OperationRecord → Bool) (places : List (Option OperationRecord))
    (standing : List Queued) (from end : ℕ) (found : Option ℕ) (entry : Queued) (place : Option OperationRecord)
    → slice_get standing end ≡ Some entry → slice_get places entry.place ≡ Some place
    → on_place (is_meant flag test entry.place) place ≡ false
    → IsSmallest flag test places standing from end found → IsSmallest flag test places standing from (end + 1) found
smallest_skips flag test places standing from end None entry place at here isnt none =
    none_more (is_meant flag test) places standing from end entry place at here isnt none
smallest_skips flag test places standing from end (Some node) entry place at here isnt some = (
  some.0,
  below_more flag test places standing from end node entry place at here
      (λ there same meant. absurd (true≢false
      (sym meant ∙ (ap (on_place (is_meant flag test entry.place)) (sym same) ∙ isnt)))) some.1,
)

-- one entry more, whose record is meant
smallest_takes : (flag : ℕ → Bool) (test : ℕ → OperationRecord → Bool) (places : List (Option OperationRecord))
    (standing : List Queued) (from end : ℕ) (found : Option ℕ) (entry : Queued) (there : OperationRecord)
    → slice_get standing end ≡ Some entry → slice_get places entry.place ≡ Some (Some there)
    → is_meant flag test entry.place there ≡ true
    → IsSmallest flag test places standing from end found
    → IsSmallest flag test places standing from (end + 1) (less (target there.transfer) found)
smallest_takes flag test places standing from end None entry there at here meant none = (
  record { place = entry.place; there = there; at = here; meant = meant; same = refl },
  below_more flag test places standing from end (target there.transfer) entry (Some there) at here
      (λ other same is. (let alike = ap (λ (o : OperationRecord). target o.transfer) (same_Some there other same) in
      omega (arith, alike)))
      (below_none flag test places standing from end (target there.transfer) none),
)
smallest_takes flag test places standing from end (Some node) entry there at here meant some =
    elim (cases_lt (target there.transfer) node) [
      | inl smaller ↦ (
          let here_is : min (target there.transfer) node ≡ target there.transfer = omega (arith, smaller) in
          subst (λ (n : ℕ). IsSmallest flag test places standing from (end + 1) (Some n)) (sym here_is) (
            record { place = entry.place; there = there; at = here; meant = meant; same = refl },
            below_more flag test places standing from end (target there.transfer) entry (Some there) at here
                (λ other same is. (let alike = ap (λ (o : OperationRecord). target o.transfer) (same_Some there other same) in
                omega (arith, alike)))
                (below_by flag test places standing from end (target there.transfer) node (omega (arith, smaller)) some.1),
          ))
      | inr greater ↦ (
          let there_is : min (target there.transfer) node ≡ node = omega (arith, greater) in
          subst (λ (n : ℕ). IsSmallest flag test places standing from (end + 1) (Some n)) (sym there_is) (
            some.0,
            below_more flag test places standing from end node entry (Some there) at here
                (λ other same is. (let alike = ap (λ (o : OperationRecord). target o.transfer) (same_Some there other same) in
                omega (arith, alike, greater)))
                some.1,
          ))
    ]

-- one entry more
pub smallest_more : (flag : ℕ → Bool) (test : ℕ → OperationRecord → Bool) (places : List (Option OperationRecord))
    (standing : List Queued) (from end : ℕ) (found : Option ℕ) (entry : Queued) (place : Option OperationRecord)
    (meant : Bool)
    → slice_get standing end ≡ Some entry → slice_get places entry.place ≡ Some place
    → ((there : OperationRecord) → place ≡ Some there → meant ≡ test entry.place there)
    → IsSmallest flag test places standing from end found
    → IsSmallest flag test places standing from (end + 1) (smaller_target flag meant found place)
smallest_more flag test places standing from end found entry None meant at here says known =
    smallest_skips flag test places standing from end found entry None at here refl known
smallest_more flag test places standing from end found entry (Some there) meant at here says known =
    let same : (meant && is_ready flag there) ≡ is_meant flag test entry.place there =
    ap (λ (m : Bool). m && is_ready flag there) (says there refl) in
    elim (cases_Bool (is_meant flag test entry.place there)) [
      | inl is ↦ rw (same ∙ is) (smallest_takes flag test places standing from end found entry there at here is known)
      | inr isnt ↦
          rw (same ∙ isnt) (smallest_skips flag test places standing from end found entry (Some there) at here isnt known)
    ]

-- a record with an unissued chunk to a node with a flag is ready
ready_to : (flag : ℕ → Bool) (node : ℕ) (there : OperationRecord) → flag node ≡ true
    → (is_unissued there && (target there.transfer == node)) ≡ true
    → (is_ready flag there ≡ true) × (target there.transfer ≡ node)
ready_to flag node there set is =
    let both = and_parts (is_unissued there) (target there.transfer == node) is in
    let same = eqb-true (target there.transfer) node both.1 in
    (and_from (is_unissued there) (flag (target there.transfer)) both.0 (ap flag same ∙ set), same)

-- where all entries that may be meant were passed
pub smallest_is : (flag : ℕ → Bool) (test : OperationRecord → Bool) (by_place : ℕ → OperationRecord → Bool)
    (places : List (Option OperationRecord)) (standing : List Queued) (from end : ℕ) (found : Option ℕ)
    → Queues (stands_at places) standing
    → ((index : ℕ) (entry : Queued) (there : OperationRecord) → slice_get standing index ≡ Some entry
    → there.number ≡ entry.number → test there ≡ true → (from ≤ index) × (index < end))
    → ((place : ℕ) (there : OperationRecord) → slice_get places place ≡ Some (Some there)
    → by_place place there ≡ test there)
    → IsSmallest flag by_place places standing from end found → IsFirstExhausted flag test places found
smallest_is flag test by_place places standing from end found Q inside same = by found
  where
    to : ℕ → OperationRecord → Bool
    to node there = is_unissued there && (target there.transfer == node)

    -- nothing that is meant goes to the node
    none_to : (node : ℕ)
        → ((index : ℕ) (entry : Queued) (there : OperationRecord) → from ≤ index → index < end
        → slice_get standing index ≡ Some entry → slice_get places entry.place ≡ Some (Some there)
        → by_place entry.place there ≡ true → to node there ≡ true → ⊥)
        → has_unissued_to test node places ≡ false
    none_to node never =
        none_stands (λ there. test there && to node there) (λ place there. by_place place there && to node there)
        places standing from end Q
        (λ index entry there at number holds. inside index entry there at number
        (and_parts (test there) (to node there) holds).0)
        (λ place there at. ap (λ (m : Bool). m && to node there) (same place there at))
        (λ index entry there low high at here. elim (cases_Bool (by_place entry.place there && to node there)) [
          | inr isnt ↦ isnt
          | inl is ↦ (let both = and_parts (by_place entry.place there) (to node there) is in
              absurd (never index entry there low high at here both.0 both.1))
        ])

    by : (found : Option ℕ) → IsSmallest flag by_place places standing from end found → IsFirstExhausted flag test places found
    by None none = λ node set. none_to node
        (λ index entry there low high at here meant goes. true≢false
        (sym (and_from (by_place entry.place there) (is_ready flag there) meant (ready_to flag node there set goes).0)
        ∙ none index entry there low high at here))
    by (Some node) some =
        let it = some.0 in
        let both = and_parts (by_place it.place it.there) (is_ready flag it.there) it.meant in
        let ready = and_parts (is_unissued it.there) (flag (target it.there.transfer)) both.1 in (
          ap flag (sym it.same) ∙ ready.1,
          any_from (on_place (λ there. test there && to node there)) places it.place (Some it.there) it.at
              (and_from (test it.there) (to node it.there) (sym (same it.place it.there it.at) ∙ both.0)
              (and_from (is_unissued it.there) (target it.there.transfer == node) ready.0
              (eq-eqb (target it.there.transfer) node it.same))),
          λ other less set. none_to other
              (λ index entry there low high at here meant goes. (let is = ready_to flag other there set goes in
              let above = some.1 index entry there low high at here
              (and_from (by_place entry.place there) (is_ready flag there) meant is.0) in
              let same_node = is.1 in
              omega (arith, above, same_node, less))),
        )
