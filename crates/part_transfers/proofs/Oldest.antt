-- The least number among the records that are ready is that of the oldest operation.
use Rattle.std.proofs.Common.{◌≡◌, IfSome, IfNone, is_some, inl, inr, ℕ, zero, suc, ◌+◌, ◌<◌, Bool, true}
use Rattle.std.proofs.Common.{false, true≢false, not, ◌&&◌, List, [], ◌∷◌, Option, None, Some, refl, sym, ap, ap₂, ◌∙◌}
use Rattle.std.proofs.Common.{arith}
use Rattle.std.specs.List.{slice_get, list_all, list_any}
use Rattle.std.proofs.lemmas.Bool.{cases_Bool, and_parts, not-true}
use Rattle.std.proofs.lemmas.Option.{same_Some}
use Rattle.part_transfers.specs.declared.operation.Next.{Next}
use Rattle.part_transfers.specs.declared.transfers.Transfers.{Transfers}
use Rattle.part_transfers.specs.declared.table.OperationRecord.{OperationRecord}
use Rattle.base_lists.specs.Numbered.{element_at}
use Rattle.part_transfers.specs.declared.table.Check.TheVariants.{Unissued}
use Rattle.part_transfers.specs.Operation.{Operation, SentChunk, target, has_next, has_next_in, has_unissued, next_chunk, chunk_of}
use Rattle.part_transfers.specs.Table.{is_unissued, on_place, IsPlaceOf, is_ready, IsLeast}
use Rattle.part_transfers.specs.Stands.{record_of, Stands, next_of, CanMarkSent}
use Rattle.part_transfers.proofs.Counts.{number_at}
use Rattle.part_transfers.proofs.Tests.{same_test, any_at, any_from}

none_is : (can : ℕ → Bool) (number : ℕ) (operations : List Operation)
    → ((place : ℕ) (operation : Operation) → slice_get operations place ≡ Some operation
    → (has_next operation && can (target operation.transfer)) ≡ false)
    → next_chunk can number operations ≡ None
none_is can number [] none = refl
none_is can number (operation ∷ operations) none =
    rw (none 0 operation refl) (none_is can (suc number) operations (λ place later at. none (suc place) later at))

first_is : (can : ℕ → Bool) (number : ℕ) (operations : List Operation) (place : ℕ) (operation : Operation)
    → slice_get operations place ≡ Some operation → (has_next operation && can (target operation.transfer)) ≡ true
    → ((before : ℕ) (earlier : Operation) → before < place → slice_get operations before ≡ Some earlier
    → (has_next earlier && can (target earlier.transfer)) ≡ false)
    → next_chunk can number operations ≡ Some (chunk_of (number + place) operation)
first_is can number [] place operation at is none = absurd (cc)
first_is can number (first ∷ operations) zero operation at is none =
    let same : first ≡ operation = same_Some first operation at in
    rw (ap (λ (y : Operation). has_next y && can (target y.transfer)) same ∙ is)
    (ap Some (ap₂ chunk_of (omega arith) same))
first_is can number (first ∷ operations) (suc place) operation at is none =
    rw (none 0 first (omega arith) refl)
    (first_is can (suc number) operations place operation at is
    (λ before earlier less was. none (suc before) earlier (omega (arith, less)) was)
    ∙ ap (λ n. Some (chunk_of n operation)) (omega arith))

-- an operation that is ready stands
stands_ready : (can : ℕ → Bool) (table : Transfers) (operations : List Operation) (place : ℕ) (operation : Operation)
    → Stands table operations → slice_get operations place ≡ Some operation
    → (has_next operation && can (target operation.transfer)) ≡ true
    → (at : ℕ) × (slice_get table.table at ≡ Some (Some (record_of (suc place) operation)))
stands_ready can table operations place operation S at is = elim (cases_Bool operation.synced) [
  | inl synced ↦
      absurd (true≢false (sym (and_parts (has_next operation) (can (target operation.transfer)) is).0
      ∙ not-true (has_next operation)
      (and_parts (not (has_next operation)) (list_all (λ (sent : SentChunk). sent.back) operation.sent)
      (S.settled (suc place) operation at synced)).0))
  | inr stands ↦ S.keeps.all (suc place) operation at stands
]

abbrev pub answer : Option OperationRecord → Option Next
answer None = None
answer (Some best) = Some (next_of best)

pub oldest_is : (can : ℕ → Bool) (table : Transfers) (operations : List Operation) (best : Option OperationRecord)
    → Stands table operations → IsLeast can table.table best → answer best ≡ next_chunk can 1 operations
oldest_is can table operations None S least =
    sym (none_is can 1 operations
    (λ place operation at. elim (cases_Bool (has_next operation && can (target operation.transfer))) [
      | inl is ↦ (
          let found = stands_ready can table operations place operation S at is in
          absurd (true≢false (sym is ∙ least found.0 (record_of (suc place) operation) found.1)))
      | inr isnt ↦ isnt
    ]))
oldest_is can table operations (Some best) S least =
    let o = S.keeps.each least.0.0 best least.0.1 in
    let a = number_at operations best.number o.0 o.1 in
    let ready : (has_next o.0 && can (target o.0.transfer)) ≡ true = ap (is_ready can) (sym o.3) ∙ least.0.2 in
    sym (first_is can 1 operations a.0 o.0 a.2 ready
    (λ before earlier less at. elim (cases_Bool (has_next earlier && can (target earlier.transfer))) [
      | inl is ↦ (
          let found = stands_ready can table operations before earlier S at is in
          let smallest = least.1 found.0 (record_of (suc before) earlier) found.1 is in
          let number = a.1 in
          absurd (omega (arith, smallest, number, less)))
      | inr isnt ↦ isnt
    ]) ∙ ap Some (ap (λ n. chunk_of n o.0) (sym a.1) ∙ ap next_of (sym o.3)))

-- ---- nothing is unissued

any_here : (test : Operation → Bool) (operations : List Operation) → list_any test operations ≡ false
    → (place : ℕ) (operation : Operation) → slice_get operations place ≡ Some operation → test operation ≡ false
any_here test operations none place operation at = elim (cases_Bool (test operation)) [
  | inr isnt ↦ isnt
  | inl is ↦ absurd (true≢false (sym (any_from test operations place operation at is) ∙ none))
]

-- an unissued chunk of a record is one of an operation
pub idle_is : (table : Transfers) (operations : List Operation) → Stands table operations
    → list_any (on_place is_unissued) table.table ≡ list_any has_next operations
idle_is table operations S = same_test _ _ forth back
  where
    in_place : (there : Option OperationRecord) → on_place is_unissued there ≡ true
        → (r : OperationRecord) × (there ≡ Some r) × (is_unissued r ≡ true)
    in_place None is = absurd (true≢false (sym is))
    in_place (Some r) is = (r, refl, is)

    forth : list_any (on_place is_unissued) table.table ≡ true → list_any has_next operations ≡ true
    forth any =
        let p = any_at (on_place is_unissued) table.table any in
        let r = in_place p.1 p.3 in
        let o = S.keeps.each p.0 r.0 (p.2 ∙ ap Some r.1) in
        let a = number_at operations r.0.number o.0 o.1 in
        any_from has_next operations a.0 o.0 a.2 (ap is_unissued (sym o.3) ∙ r.2)

    back : list_any has_next operations ≡ true → list_any (on_place is_unissued) table.table ≡ true
    back any =
        let o = any_at has_next operations any in
        let there = stands_ready (λ node. true) table operations o.0 o.1 S o.2 (rw o.3 refl) in
        any_from (on_place is_unissued) table.table there.0 (Some (record_of (suc o.0) o.1)) there.1 o.3

-- no chunk is next where none is unissued
pub idle_next : (can : ℕ → Bool) (operations : List Operation) → list_any has_next operations ≡ false
    → next_chunk can 1 operations ≡ None
idle_next can operations none =
    none_is can 1 operations
    (λ place operation at. ap (λ has. has && can (target operation.transfer))
    (any_here has_next operations none place operation at))

-- ---- one operation

-- a place was found for the operation of that number where a chunk of it is unissued
pub unissued_is : (table : Transfers) (operations : List Operation) (number : ℕ) (place : Option ℕ)
    → Stands table operations
    → IfSome place (λ at. IsPlaceOf table.table number Unissued at)
    → IfNone place ((at : ℕ) → IsPlaceOf table.table number Unissued at → ⊥)
    → is_some place ≡ has_unissued number operations
unissued_is table operations number (Some place) S found none =
    let o = S.keeps.each place found.0 found.1 in
    let here : element_at operations number ≡ Some o.0 = ap (element_at operations) (sym found.2) ∙ o.1 in
    sym (rw here (ap is_unissued (sym o.3) ∙ found.3))
unissued_is table operations number None S found none = nowhere (element_at operations number) refl
  where
    is_issued : (operation : Operation) → element_at operations number ≡ Some operation → has_next operation ≡ false
    is_issued operation here = elim (cases_Bool (has_next operation)) [
      | inr isnt ↦ isnt
      | inl is ↦ (
          let at = number_at operations number operation here in
          let there = stands_ready (λ node. true) table operations at.0 operation S at.2 (rw is refl) in
          let number_is = at.1 in
          absurd (none there.0 (record_of (suc at.0) operation, there.1, omega (arith, number_is), is)))
    ]

    nowhere : (operation : Option Operation) → element_at operations number ≡ operation → false ≡ has_next_in operation
    nowhere None at = refl
    nowhere (Some operation) at = sym (is_issued operation at)
