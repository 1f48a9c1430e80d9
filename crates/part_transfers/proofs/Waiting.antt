-- What the queue says of the records.
use Rattle.std.proofs.Common.{◌≡◌, ◌==◌, inl, inr, ℕ, ◌+◌, ◌<◌, ◌≤◌, Bool, true, false, true≢false, not, List, [], ◌∷◌}
use Rattle.std.proofs.Common.{Option, Some, None, IfSome, IfNone, length, set, refl, sym, ap, ◌∙◌, arith}
use Rattle.std.specs.List.{slice_get, list_any}
use Rattle.std.proofs.Math.Dec.{eqb-suc-zero}
use Rattle.std.proofs.lemmas.Bool.{cases_Bool, cases_eq, cases_lt, and_parts}
use Rattle.std.proofs.lemmas.Option.{same_Some, slice_get_within}
use Rattle.base_lists.proofs.Indexes.{get-set_same, get-set_other}
use Rattle.part_transfers.specs.declared.table.OperationRecord.{OperationRecord}
use Rattle.part_transfers.specs.declared.table.Check.TheVariants.{Unissued}
use Rattle.part_transfers.specs.declared.queue.Queued.{Queued}
use Rattle.part_transfers.specs.Operation.{target}
use Rattle.part_transfers.specs.Queue.{IsQueue, Queues}
use Rattle.part_transfers.specs.Table.{flat, on_place, is_unissued, waits_by, waits_at, IsPlaceOf, is_ready, ready, IsLeast}
use Rattle.part_transfers.proofs.Tests.{any_from, none_picked}

-- ---- a place that waits

never : (number : ℕ) → ◌≡◌ {A = Option ℕ} None (Some number) → ⊥
never number is = cc

-- the record that it waits for
pub waiting_there : (places : List (Option OperationRecord)) (place number : ℕ) → waits_at places place ≡ Some number
    → IsPlaceOf places number Unissued place
waiting_there places place number waits = by (slice_get places place) refl waits
  where
    by : (found : Option (Option OperationRecord)) → slice_get places place ≡ found → waits_by (flat found) ≡ Some number
        → IsPlaceOf places number Unissued place
    by None at is = absurd (never number is)
    by (Some None) at is = absurd (never number is)
    by (Some (Some there)) at is = elim (cases_Bool (is_unissued there)) [
      | inl unissued ↦ (there, at, same_Some there.number number (rw unissued at is), unissued)
      | inr issued ↦ absurd (never number (rw issued at is))
    ]

pub waits_there : (places : List (Option OperationRecord)) (place : ℕ) (there : OperationRecord)
    → slice_get places place ≡ Some (Some there) → is_unissued there ≡ true → waits_at places place ≡ Some there.number
waits_there places place there at unissued = ap (λ found. waits_by (flat found)) at ∙ rw unissued refl

-- after a write
-- the number by which a place is in a list
abbrev pub by_at : (Option OperationRecord → Option ℕ) → List (Option OperationRecord) → (place : ℕ) → Option ℕ
by_at by places place = by (flat (slice_get places place))

pub by_written : (by : Option OperationRecord → Option ℕ) (places : List (Option OperationRecord)) (place : ℕ)
    (there : Option OperationRecord)
    → place < length places → by_at by (set places place there) place ≡ by there
by_written by places place there less = ap (λ found. by (flat found)) (get-set_same places place there less)

pub by_elsewhere : (by : Option OperationRecord → Option ℕ) (places : List (Option OperationRecord)) (place : ℕ)
    (there : Option OperationRecord) (other : ℕ)
    → (other ≡ place → ⊥) → by_at by (set places place there) other ≡ by_at by places other
by_elsewhere by places place there other apart =
    ap (λ found. by (flat found)) (get-set_other places place there other apart)

-- ---- the queue of the places

-- the queue is empty exactly where no record has an unissued chunk
pub queue_idle : (places : List (Option OperationRecord)) (queue : List Queued) → Queues (waits_at places) queue
    → (length queue == 0) ≡ not (list_any (on_place is_unissued) places)
queue_idle places [] Q = sym (ap not (none_picked (on_place is_unissued) places issued))
  where
    issued : (place : ℕ) (there : Option OperationRecord) → slice_get places place ≡ Some there
        → on_place is_unissued there ≡ false
    issued place None at = refl
    issued place (Some there) at = elim (cases_Bool (is_unissued there)) [
      | inr isnt ↦ isnt
      | inl is ↦ (let found = (Q.all place there.number (waits_there places place there at is)).1 in absurd (cc))
    ]
queue_idle places (entry ∷ queue) Q =
    let there = waiting_there places entry.place entry.number (Q.each 0 entry refl) in
    eqb-suc-zero (length queue)
    ∙ sym (ap not (any_from (on_place is_unissued) places entry.place (Some there.0) there.1 there.3))

-- what was found in the queue by its number
pub place_found : (places : List (Option OperationRecord)) (queue : List Queued) (number : ℕ) (place : Option ℕ)
    → Queues (waits_at places) queue
    → IfSome place (λ p. (index : ℕ) × (slice_get queue index ≡ Some (record { number = number; place = p })))
    → IfSome place (λ p. IsPlaceOf places number Unissued p)
place_found places queue number None Q found = found
place_found places queue number (Some place) Q found =
    waiting_there places place number (Q.each found.0 (record { number = number; place = place }) found.1)

pub place_within : (places : List (Option OperationRecord)) (number : ℕ) (place : Option ℕ) → length places ≡ 256
    → IfSome place (λ p. IsPlaceOf places number Unissued p) → IfSome place (λ p. p < 256)
place_within places number None many found = found
place_within places number (Some place) many found =
    let within = slice_get_within places place (Some found.0) found.1 in omega (arith, within, many)

pub place_missed : (places : List (Option OperationRecord)) (queue : List Queued) (number : ℕ) (place : Option ℕ)
    → Queues (waits_at places) queue
    → IfNone place ((index : ℕ) (entry : Queued) → slice_get queue index ≡ Some entry → entry.number ≡ number → ⊥)
    → IfNone place ((p : ℕ) → IsPlaceOf places number Unissued p → ⊥)
place_missed places queue number (Some place) Q none = none
place_missed places queue number None Q none = λ place it.
    (let at = Q.all place it.0.number (waits_there places place it.0 it.1 it.3) in
    none at.0 (record { number = it.0.number; place = place }) at.1 it.2)

-- ---- the first record that is ready

-- no record of the places below an index of the queue is ready
abbrev pub NoneReady : (ℕ → Bool) → List (Option OperationRecord) → List Queued → (end : ℕ) → Type 0
NoneReady can places queue end =
    (index : ℕ) (entry : Queued) (there : OperationRecord) → index < end → slice_get queue index ≡ Some entry
    → slice_get places entry.place ≡ Some (Some there) → is_ready can there ≡ false

pub ready_some : (can : ℕ → Bool) (place : Option OperationRecord) (best : OperationRecord) → ready can place ≡ Some best
    → (place ≡ Some best) × (is_ready can best ≡ true)
ready_some can None best is = absurd (cc)
ready_some can (Some there) best is = elim (cases_Bool (is_ready can there)) [
  | inl holds ↦
      (let same : there ≡ best = same_Some there best (rw holds at is) in
      (ap (λ (z : OperationRecord). Some z) same, ap (is_ready can) (sym same) ∙ holds))
  | inr fails ↦ absurd (none (rw fails at is))
]
  where
    none : ◌≡◌ {A = Option OperationRecord} None (Some best) → ⊥
    none same = cc

ready_none : (can : ℕ → Bool) (place : Option OperationRecord) (there : OperationRecord) → ready can place ≡ None
    → place ≡ Some there → is_ready can there ≡ false
ready_none can None there is here = absurd (cc)
ready_none can (Some other) there is here = elim (cases_Bool (is_ready can other)) [
  | inl holds ↦ absurd (none (sym (rw holds at is)))
  | inr fails ↦ ap (is_ready can) (sym (same_Some other there here)) ∙ fails
]
  where
    none : ◌≡◌ {A = Option OperationRecord} None (Some other) → ⊥
    none same = cc

-- one more place isn't ready
pub ready_more : (can : ℕ → Bool) (places : List (Option OperationRecord)) (queue : List Queued) (end : ℕ) (entry : Queued)
    (place : Option OperationRecord)
    → slice_get queue end ≡ Some entry → slice_get places entry.place ≡ Some place → ready can place ≡ None
    → NoneReady can places queue end → (index : ℕ) (other : Queued) (there : OperationRecord) → index < end + 1
    → slice_get queue index ≡ Some other → slice_get places other.place ≡ Some (Some there)
    → is_ready can there ≡ false
ready_more can places queue end entry place at here idle known index other there less at_other here_other =
    elim (cases_eq index end) [
      | inl same ↦ (
          let is : entry ≡ other = same_Some entry other (sym at ∙ (ap (slice_get queue) (sym same) ∙ at_other)) in
          ready_none can place there idle
          (same_Some place (Some there)
          (sym here ∙ (ap (λ (y : Queued). slice_get places y.place) is ∙ here_other))))
      | inr apart ↦ known index other there (omega (arith, less, apart)) at_other here_other
    ]

pub least_none : (can : ℕ → Bool) (places : List (Option OperationRecord)) (queue : List Queued) (end : ℕ)
    → Queues (waits_at places) queue → length queue ≤ end → NoneReady can places queue end → IsLeast can places None
least_none can places queue end Q past none = λ place there at. elim (cases_Bool (is_unissued there)) [
  | inr issued ↦ rw issued refl
  | inl unissued ↦ (
      let entry : Queued = record { number = there.number; place = place } in
      let found = Q.all place there.number (waits_there places place there at unissued) in
      let within = slice_get_within queue found.0 entry found.1 in
      none found.0 entry there (omega (arith, within, past)) found.1 at)
]

-- the first that is ready began first of all that are
pub least_some : (can : ℕ → Bool) (places : List (Option OperationRecord)) (queue : List Queued) (end : ℕ) (entry : Queued)
    (best : OperationRecord)
    → Queues (waits_at places) queue → IsQueue queue → slice_get queue end ≡ Some entry
    → slice_get places entry.place ≡ Some (Some best) → is_ready can best ≡ true → NoneReady can places queue end
    → IsLeast can places (Some best)
least_some can places queue end entry best Q order at here is none = ((entry.place, here, is), least)
  where
    number : entry.number ≡ best.number
    number = same_Some entry.number best.number (sym (Q.each end entry at)
        ∙ waits_there places entry.place best here (and_parts (is_unissued best) (can (target best.transfer)) is).0)

    least : (place : ℕ) (there : OperationRecord) → slice_get places place ≡ Some (Some there) → is_ready can there ≡ true
        → best.number ≤ there.number
    least place there stands ready_there =
        let unissued = (and_parts (is_unissued there) (can (target there.transfer)) ready_there).0 in
        let other : Queued = record { number = there.number; place = place } in
        let found = Q.all place there.number (waits_there places place there stands unissued) in
        elim (cases_lt found.0 end) [
          | inl before ↦ absurd (true≢false (sym ready_there ∙ none found.0 other there before found.1 stands))
          | inr from ↦ elim (cases_eq found.0 end) [
            | inl same ↦ (
                let is_it : entry ≡ other = same_Some entry other
                (sym at ∙ (ap (slice_get queue) (sym same) ∙ found.1)) in
                omega (arith, number, ap (λ (y : Queued). y.number) is_it))
            | inr apart ↦ (
                let rises = (order.order end found.0 entry other (omega (arith, from, apart)) at found.1).0 in
                omega (arith, number, rises))
          ]
        ]
