-- What the entry of a slot says of a reply that comes in it.
use Rattle.std.proofs.Common.{◌≡◌, ◌≢◌, inl, inr, ℕ, ◌<◌, ◌==◌, true, false, List, [], ◌∷◌, Option, None, Some, length}
use Rattle.std.proofs.Common.{refl, sym, ap, ◌∙◌, subst, arith, eq-eqb, ne_eqb}
use Rattle.std.specs.List.{slice_get, list_any}
use Rattle.std.proofs.lemmas.Bool.{cases_Bool}
use Rattle.std.proofs.lemmas.Option.{same_Some, slice_get_within}
use Rattle.base_lists.proofs.Numbered.{numbered_at}
use Rattle.part_transfers.specs.declared.table.OperationRecord.{OperationRecord}
use Rattle.part_transfers.specs.declared.slots.Waiting.{Waiting}
use Rattle.part_transfers.specs.declared.transfers.Transfers.{Transfers}
use Rattle.part_transfers.specs.Operation.{Operation, target, returned_of, has_out, come_back}
use Rattle.part_transfers.specs.ChunkSlots.{entry_at}
use Rattle.part_transfers.specs.Outs.{Out, requests_of}
use Rattle.part_transfers.specs.Stands.{Stands}
use Rattle.part_transfers.proofs.Outs.{has_out_is, none_back, one_out, out_less}
use Rattle.part_transfers.proofs.Said.{said, said_none}

-- where there is none, nothing is out
pub not_out : (table : Transfers) (operations : List Operation) (to slot request : ℕ) → Stands table operations
    → entry_at table.slots to slot ≡ None → has_out to slot request operations ≡ false
not_out table operations to slot request S at =
    has_out_is to slot request 1 operations
    ∙ ap (list_any (λ (out : Out). out.request == request)) (said_none table operations to slot S at)

-- where it is of another request, that one isn't out
pub other_out : (table : Transfers) (operations : List Operation) (to slot request : ℕ) (waiting : Waiting)
    → Stands table operations → entry_at table.slots to slot ≡ Some waiting → waiting.request ≢ request
    → has_out to slot request operations ≡ false
other_out table operations to slot request waiting S at apart =
    has_out_is to slot request 1 operations
    ∙ (ap (list_any (λ (out : Out). out.request == request)) (said table operations to slot waiting S at).2
    ∙ rw (ne_eqb waiting.request request apart) refl)

pub this_out : (table : Transfers) (operations : List Operation) (to slot : ℕ) (waiting : Waiting)
    → Stands table operations → entry_at table.slots to slot ≡ Some waiting
    → has_out to slot waiting.request operations ≡ true
this_out table operations to slot waiting S at =
    has_out_is to slot waiting.request 1 operations
    ∙ (ap (list_any (λ (out : Out). out.request == waiting.request)) (said table operations to slot waiting S at).2
    ∙ rw (eq-eqb waiting.request waiting.request refl) refl)

-- and the operations are as they were
pub stands_unless : (table : Transfers) (operations : List Operation) (to slot request : ℕ) → Stands table operations
    → has_out to slot request operations ≡ false → Stands table (come_back to slot request operations)
stands_unless table operations to slot request S isnt =
    subst (Stands table) (sym (none_back to slot request operations isnt)) S

-- its record stands, and has a chunk that isn't back
pub place_within : (table : Transfers) (operations : List Operation) (to slot : ℕ) (waiting : Waiting)
    → Stands table operations → entry_at table.slots to slot ≡ Some waiting → waiting.place < 256
place_within table operations to slot waiting S at =
    let it = said table operations to slot waiting S at in
    let within = slice_get_within table.table waiting.place (Some it.0) it.1 in
    let many = S.keeps.many in
    omega (arith, within, many)

pub there_is : (table : Transfers) (operations : List Operation) (to slot : ℕ) (waiting : Waiting)
    → Stands table operations → entry_at table.slots to slot ≡ Some waiting
    → slice_get table.table waiting.place ≡ Some None → ⊥
there_is table operations to slot waiting S at blank =
    let it = said table operations to slot waiting S at in
    apart it.0 (sym blank ∙ it.1)
  where
    apart : (there : OperationRecord) → ◌≡◌ {A = Option (Option OperationRecord)} (Some None) (Some (Some there)) → ⊥
    apart there is = cc

pub outstanding : (table : Transfers) (operations : List Operation) (to slot : ℕ) (waiting : Waiting) (there : OperationRecord)
    → Stands table operations → entry_at table.slots to slot ≡ Some waiting
    → slice_get table.table waiting.place ≡ Some (Some there) → there.returned < there.issued
outstanding table operations to slot waiting there S entry at =
    let it = said table operations to slot waiting S entry in
    let out : Out = record { operation = it.0.number; request = waiting.request } in
    let one = one_out to slot 1 operations out it.2 in
    let is : it.0 ≡ there = same_Some _ _ (same_Some _ _ (sym it.1 ∙ at)) in
    let here = numbered_at operations it.0.number one.place one.operation one.here one.numbered_so in
    let o = S.keeps.each waiting.place it.0 it.1 in
    let less : returned_of o.0.sent < length o.0.sent =
    less_of o.0 (ap (requests_of to slot) (same_Some _ _ (sym o.1 ∙ here)) ∙ one.one) in
    subst (λ (z : OperationRecord). z.returned < z.issued) (sym o.3 ∙ is) less
  where
    less_of : (operation : Operation) → requests_of to slot operation ≡ waiting.request ∷ []
        → returned_of operation.sent < length operation.sent
    less_of operation one = elim (cases_Bool (target operation.transfer == to)) [
      | inl here ↦ out_less slot operation.sent waiting.request (rw here at one)
      | inr other ↦ absurd (none (rw other at one))
    ]
      where
        none : ◌≡◌ {A = List ℕ} [] (waiting.request ∷ []) → ⊥
        none is = cc
