-- The records stand where an operation begins.
use Rattle.std.proofs.Common.{◌≡◌, ◌≢◌, inl, inr, ℕ, zero, suc, ◌+◌, ◌<◌, ◌≤◌, true, false, true≢false, replicate}
use Rattle.std.proofs.Common.{nat_le, List, [], ◌∷◌, ◌++◌, Option, None, Some, length, set, refl, sym, ap, ◌∙◌, subst}
use Rattle.std.proofs.Common.{arith}
use Rattle.std.specs.List.{slice_get}
use Rattle.std.proofs.lemmas.Bool.{cases_Bool, lt-leb}
use Rattle.std.proofs.lemmas.List.{length-set, length-append}
use Rattle.std.proofs.lemmas.Option.{same_Some, slice_get_within}
use Rattle.base_lists.specs.Numbered.{element_at}
use Rattle.base_lists.proofs.Indexes.{get-set_same, get-set_other, replicate-is}
use Rattle.base_lists.proofs.Places.{slice_get_last}
use Rattle.base_lists.proofs.Numbered.{numbered_nil, numbered_push, numbered_kept, numbered_in}
use Rattle.part_transfers.specs.declared.operation.Transfer.{Transfer}
use Rattle.part_transfers.specs.declared.operation.Mode.{Mode}
use Rattle.part_transfers.specs.declared.table.OperationRecord.{OperationRecord}
use Rattle.part_transfers.specs.declared.transfers.Transfers.{Transfers}
use Rattle.part_transfers.specs.Operation.{Operation, unsynced_count, is_full, after_begin, fresh}
use Rattle.part_transfers.specs.Table.{taken_count}
use Rattle.part_transfers.specs.ChunkSlots.{ChunkSlots, entry_at}
use Rattle.part_transfers.specs.Outs.{outs}
use Rattle.part_transfers.specs.Stands.{record_of, Keeps, Says, Stands}
use Rattle.part_transfers.proofs.Tests.{get_set}
use Rattle.part_transfers.proofs.Outs.{outs_begun, none_sent}
use Rattle.part_transfers.proofs.Said.{says_blank}
use Rattle.part_transfers.proofs.Counts.{count_from}

pub taken_all : {X : Type 0} (xs : List (Option X)) → ((p : ℕ) → p < length xs → slice_get xs p ≡ Some None → ⊥)
    → taken_count xs ≡ length xs
taken_all [] n = refl
taken_all (None ∷ xs) n = absurd (n 0 (omega arith) refl)
taken_all (Some x ∷ xs) n = ap suc (taken_all xs (λ p l e. n (suc p) (omega arith) e))

taken_le : {X : Type 0} (xs : List (Option X)) → taken_count xs ≤ length xs
taken_le [] = omega arith
taken_le (None ∷ xs) = let ih = taken_le xs in omega arith
taken_le (Some x ∷ xs) = let ih = taken_le xs in omega arith

pub taken_less : {X : Type 0} (xs : List (Option X)) (p : ℕ) → slice_get xs p ≡ Some None → taken_count xs < length xs
taken_less [] p e = absurd (cc)
taken_less (None ∷ xs) p e = let l = taken_le xs in omega arith
taken_less (Some x ∷ xs) zero e = absurd (cc)
taken_less (Some x ∷ xs) (suc p) e = let ih = taken_less xs p e in omega arith

pub keeps_begun : (places : List (Option OperationRecord)) (operations : List Operation) (place : ℕ) (operation : Operation)
    → slice_get places place ≡ Some None
    → operation.synced ≡ false → Keeps places operations
    → Keeps (set places place (Some (record_of (suc (length operations)) operation))) (operations ++ operation ∷ [])
keeps_begun places operations place operation blank fresh K =
    record {
      many = length-set places place (Some new) ∙ K.many;
      each = each;
      all = all;
      once = once;
      count = count_from (set places place (Some new)) (operations ++ operation ∷ []) each all once;
    }
  where
    new : OperationRecord
    new = record_of (suc (length operations)) operation

    apart : (there : OperationRecord) → ◌≡◌ {A = Option (Option OperationRecord)} (Some None) (Some (Some there)) → ⊥
    apart there is = cc

    old : (other : ℕ) (there : OperationRecord) → slice_get places other ≡ Some (Some there)
        → there.number ≢ suc (length operations)
    old other there at same = let was = K.each other there at in
        let in_list = numbered_in operations there.number was.0 was.1 in omega (arith, same, in_list)

    each : (other : ℕ) (there : OperationRecord) → slice_get (set places place (Some new)) other ≡ Some (Some there)
        → (o : Operation) × (element_at (operations ++ operation ∷ []) there.number ≡ Some o) × (o.synced ≡ false)
        × (there ≡ record_of there.number o)
    each other there at = elim (get_set places place (Some new) other (Some there) at) [
      | inl here ↦ (
          let is : new ≡ there = same_Some _ _ here.1 in (
            operation,
            ap (element_at (operations ++ operation ∷ [])) (ap (λ (z : OperationRecord). z.number) (sym is))
                ∙ slice_get_last operations operation,
            fresh,
            sym is
                ∙ ap (λ n. record_of n operation) (ap (λ (z : OperationRecord). z.number) is),
          ))
      | inr apart_from ↦
          (let was = K.each other there apart_from.1 in
          (was.0, numbered_kept operations operation there.number was.0 was.1, was.2, was.3))
    ]

    all : (number : ℕ) (o : Operation) → element_at (operations ++ operation ∷ []) number ≡ Some o → o.synced ≡ false
        → (other : ℕ) × (slice_get (set places place (Some new)) other ≡ Some (Some (record_of number o)))
    all number o at stands = elim (numbered_push operations operation number o at) [
      | inl was ↦ (let it = K.all number o was stands in (
        it.0,
        get-set_other places place (Some new) it.0
            (λ same. apart (record_of number o) (sym blank ∙ (ap (slice_get places) (sym same) ∙ it.1))) ∙ it.1,
      ))
      | inr it ↦ (
        place,
        get-set_same places place (Some new) (slice_get_within places place None blank)
            ∙ ap (λ (y : OperationRecord). Some (Some y)) (ap (λ n. record_of n operation) (sym it.0) ∙ ap (record_of number) it.1),
      )
    ]

    once : (one other : ℕ) (first second : OperationRecord) → slice_get (set places place (Some new)) one ≡ Some (Some first)
        → slice_get (set places place (Some new)) other ≡ Some (Some second) → first.number ≡ second.number
        → one ≡ other
    once one other first second at there same = elim (get_set places place (Some new) one (Some first) at) [
      | inl here ↦ elim (get_set places place (Some new) other (Some second) there) [
        | inl too ↦ here.0 ∙ sym too.0
        | inr isnt ↦
            absurd (old other second isnt.1
            (sym same ∙ ap (λ (z : OperationRecord). z.number) (sym (same_Some new first here.1))))
      ]
      | inr isnt ↦ elim (get_set places place (Some new) other (Some second) there) [
        | inl too ↦ absurd
            (old one first isnt.1 (same ∙ ap (λ (z : OperationRecord). z.number) (sym (same_Some new second too.1))))
        | inr neither ↦ K.once one other first second isnt.1 neither.1 same
      ]
    ]

-- whether an operation may begin
pub full_by_places : (operations : List Operation) → unsynced_count operations ≡ 256 → is_full operations ≡ true
full_by_places operations many = rw many refl

pub full_by_numbers : (operations : List Operation) → length operations ≡ 18446744073709551615
    → is_full operations ≡ true
full_by_numbers operations many = elim (cases_Bool (nat_le 256 (unsynced_count operations))) [
  | inl is ↦ rw is refl
  | inr isnt ↦ rw (isnt, many) refl
]

pub not_full : (operations : List Operation) → unsynced_count operations < 256 → length operations < 18446744073709551615
    → is_full operations ≡ false
not_full operations room left =
    rw (lt-leb 256 (unsynced_count operations) room, lt-leb 18446744073709551615 (length operations) left) refl

-- ---- the table

pub stands_none : (places : List (Option OperationRecord)) (slots : ChunkSlots) → places ≡ replicate 256 None
    → ((to slot : ℕ) → entry_at slots to slot ≡ None)
    → Stands (record { given = 0; table = places; slots = slots }) []
stands_none places slots is none = record {
  keeps = rw is (record {
    many = refl;
    each = λ place there at. absurd (blank place there at);
    all = λ number operation at. absurd (numbered_nil number operation at);
    once = λ place other first second at. absurd (blank place first at);
    count = refl;
  });
  given = refl;
  says = λ to slot. rw (none to slot) refl;
  settled = λ number operation at. absurd (numbered_nil number operation at);
}
  where
    blank : (place : ℕ) (there : OperationRecord) → slice_get (replicate 256 None) place ≡ Some (Some there) → ⊥
    blank place there at = let is_none : Some there ≡ None = replicate-is 256 place None (Some there) at in cc

pub stands_begun : (table : Transfers) (operations : List Operation) (place : ℕ) (thread : ℕ) (transfer : Transfer)
    (mode : Mode)
    → Stands table operations → slice_get table.table place ≡ Some None
    → length operations < 18446744073709551615
    → Stands (record table {
      given = table.given + 1;
      table = set table.table place (Some (record_of (table.given + 1) (fresh thread transfer mode (table.given + 1))));
    }) (after_begin thread transfer mode operations)
stands_begun table operations place thread transfer mode S blank left =
    let less = taken_less table.table place blank in
    let count = S.keeps.count in
    let many = S.keeps.many in
    let number : suc (length operations) ≡ table.given + 1 = omega (arith, S.given) in
    let new = fresh thread transfer mode (suc (length operations)) in
    let now = set table.table place (Some (record_of (table.given + 1) (fresh thread transfer mode (table.given + 1)))) in
    rw (not_full operations (omega (arith, less, count, many)) left) (record {
      keeps = subst
          (λ n. Keeps (set table.table place (Some (record_of n (fresh thread transfer mode n)))) (operations ++ new ∷ []))
          number
          (keeps_begun table.table operations place new blank refl S.keeps);
      given = omega (arith, number, length-append operations (new ∷ []));
      says = λ to slot. subst (λ out. Says now (entry_at table.slots to slot) out)
          (sym (outs_begun to slot 1 operations new (none_sent to slot new refl)))
          (says_blank table.table place (record_of (table.given + 1) (fresh thread transfer mode (table.given + 1)))
          (entry_at table.slots to slot) (outs to slot 1 operations) blank (S.says to slot));
      settled = λ n operation at synced. elim (numbered_push operations new n operation at) [
        | inl was ↦ S.settled n operation was synced
        | inr it ↦ absurd (true≢false (sym synced ∙ ap (λ (z : Operation). z.synced) (sym it.1)))
      ];
    })
