-- The records stand where one operation changes.
use Rattle.std.proofs.Common.{◌≡◌, ◌≢◌, inl, inr, ℕ, suc, ◌+◌, ◌==◌, false, true≢false, if◌then◌else◌, List, [], ◌∷◌}
use Rattle.std.proofs.Common.{◌++◌, Option, None, Some, length, set, refl, sym, ap, ap₂, ◌∙◌, subst, arith}
use Rattle.std.specs.List.{slice_get}
use Rattle.std.proofs.lemmas.Bool.{cases_Bool, cases_eq}
use Rattle.std.proofs.lemmas.List.{length-set, length-append, length-map}
use Rattle.std.proofs.lemmas.Option.{same_Some, slice_get_within}
use Rattle.base_lists.specs.Numbered.{element_at, change}
use Rattle.base_lists.specs.Update.{update}
use Rattle.base_lists.proofs.Indexes.{get-set_same, get-set_other}
use Rattle.base_lists.proofs.Numbered.{numbered-change, numbered-changed, numbered-change_here, length-change, numbered_at}
use Rattle.part_transfers.specs.declared.table.OperationRecord.{OperationRecord}
use Rattle.part_transfers.specs.declared.slots.Waiting.{Waiting}
use Rattle.part_transfers.specs.declared.transfers.Transfers.{Transfers}
use Rattle.part_transfers.specs.Operation.{Operation, SentChunk, target, returned_of, is_complete, with_sent, as_back, with_back}
use Rattle.part_transfers.specs.Operation.{come_back, IsFreeSlot}
use Rattle.part_transfers.specs.ChunkSlots.{ChunkSlots, entry_at, HasSet}
use Rattle.part_transfers.specs.Outs.{Out, requests_of, outs}
use Rattle.part_transfers.specs.Stands.{record_of, Keeps, Says, Stands}
use Rattle.part_transfers.proofs.Tests.{get_set}
use Rattle.part_transfers.proofs.Counts.{count_from, number_at}
use Rattle.part_transfers.proofs.Issued.{with_back_keeps}
use Rattle.part_transfers.proofs.Outs.{IsOne, one_out, one_operation, outs_other, outs_issued, outs_kept, outs_free}
use Rattle.part_transfers.proofs.Outs.{issued_elsewhere}
use Rattle.part_transfers.proofs.Said.{said, says_rewritten}

numbered_other : (f : Operation → Operation) (operations : List Operation) (number other : ℕ) (operation : Operation)
    → other ≢ number → element_at operations other ≡ Some operation
    → element_at (change f operations number) other ≡ Some operation
numbered_other f operations number other operation apart at =
    let now = numbered-changed f operations number other operation at in
    let was = numbered-change f operations number other now.0 now.1 in
    elim was.2 [
      | inl is ↦ now.1 ∙ ap Some (is.1 ∙ same_Some was.0 operation (sym was.1 ∙ at))
      | inr is ↦ absurd (apart is.0)
    ]

pub keeps_changed : (f : Operation → Operation) (places : List (Option OperationRecord)) (operations : List Operation)
    (place : ℕ) (there : OperationRecord) (operation : Operation)
    → Keeps places operations
    → slice_get places place ≡ Some (Some there) → element_at operations there.number ≡ Some operation
    → operation.synced ≡ false → (f operation).synced ≡ false
    → Keeps (set places place (Some (record_of there.number (f operation)))) (change f operations there.number)
keeps_changed f places operations place there operation K at is stands stays =
    record {
      many = length-set places place (Some new) ∙ K.many;
      each = each;
      all = all;
      once = once;
      count = count_from (set places place (Some new)) (change f operations there.number) each all once;
    }
  where
    new : OperationRecord
    new = record_of there.number (f operation)

    own : (other : ℕ) (second : OperationRecord) → slice_get places other ≡ Some (Some second) → second.number ≡ there.number
        → other ≡ place
    own other second also same = K.once other place second there also at same

    each : (other : ℕ) (second : OperationRecord) → slice_get (set places place (Some new)) other ≡ Some (Some second)
        → (o : Operation) × (element_at (change f operations there.number) second.number ≡ Some o) × (o.synced ≡ false)
        × (second ≡ record_of second.number o)
    each other second also = elim (get_set places place (Some new) other (Some second) also) [
      | inl here ↦ (
          let same : new ≡ second = same_Some _ _ here.1 in
          let number : there.number ≡ second.number = ap (λ (z : OperationRecord). z.number) same in (
            f operation,
            ap (element_at (change f operations there.number)) (sym number)
                ∙ numbered-change_here f operations there.number operation is,
            stays,
            sym same
                ∙ ap (λ n. record_of n (f operation)) number,
          ))
      | inr apart ↦ (
          let was = K.each other second apart.1 in (
            was.0,
            numbered_other f operations there.number second.number was.0
                (λ same. apart.0 (own other second apart.1 same)) was.1,
            was.2,
            was.3,
          ))
    ]

    all : (number : ℕ) (o : Operation) → element_at (change f operations there.number) number ≡ Some o → o.synced ≡ false
        → (other : ℕ) × (slice_get (set places place (Some new)) other ≡ Some (Some (record_of number o)))
    all number o now open_now =
        let was = numbered-change f operations there.number number o now in
        elim was.2 [
          | inl it ↦ (
              let found = K.all number was.0 was.1 (ap (λ (z : Operation). z.synced) (sym it.1) ∙ open_now) in
              let numbers : found.0 ≢ place =
              λ same. it.0
              (ap (λ (y : OperationRecord). y.number)
              (same_Some (record_of number was.0) there
              (same_Some (Some (record_of number was.0)) (Some there) (sym found.1 ∙ (ap (slice_get places) same ∙ at))))) in (
                found.0,
                get-set_other places place (Some new) found.0 numbers
                    ∙ (found.1 ∙ ap (λ (y : Operation). Some (Some (record_of number y))) (sym it.1)),
              ))
          | inr it ↦ (
              let same : was.0 ≡ operation = same_Some _ _ (sym was.1 ∙ (ap (element_at operations) it.0 ∙ is)) in (
                place,
                get-set_same places place (Some new) (slice_get_within places place (Some there) at)
                    ∙ ap (λ (y : OperationRecord). Some (Some y)) (ap₂ record_of (sym it.0) (ap f (sym same) ∙ sym it.1)),
              ))
        ]

    once : (one other : ℕ) (first second : OperationRecord) → slice_get (set places place (Some new)) one ≡ Some (Some first)
        → slice_get (set places place (Some new)) other ≡ Some (Some second) → first.number ≡ second.number
        → one ≡ other
    once one other first second here also same = elim (get_set places place (Some new) one (Some first) here) [
      | inl it ↦ elim (get_set places place (Some new) other (Some second) also) [
        | inl too ↦ it.0 ∙ sym too.0
        | inr isnt ↦
            absurd (isnt.0
            (own other second isnt.1 (sym same ∙ ap (λ (z : OperationRecord). z.number) (sym (same_Some new first it.1)))))
      ]
      | inr isnt ↦ elim (get_set places place (Some new) other (Some second) also) [
        | inl too ↦ absurd
            (isnt.0 (own one first isnt.1 (same ∙ ap (λ (z : OperationRecord). z.number) (sym (same_Some new second too.1)))))
        | inr neither ↦ K.once one other first second isnt.1 neither.1 same
      ]
    ]

-- ---- the whole table

pub stands_changed : (f : Operation → Operation) (table : Transfers) (operations : List Operation) (place : ℕ)
    (there new : OperationRecord) (slots : ChunkSlots)
    → Stands table operations → slice_get table.table place ≡ Some (Some there)
    → ((o : Operation) → (f o).synced ≡ o.synced)
    → ((o : Operation) → element_at operations there.number ≡ Some o → there ≡ record_of there.number o
    → record_of there.number (f o) ≡ new)
    → ((to slot : ℕ)
    → Says (set table.table place (Some new)) (entry_at slots to slot)
    (outs to slot 1 (change f operations there.number)))
    → Stands (record table {
      table = set table.table place (Some new);
      slots = slots;
    }) (change f operations there.number)
stands_changed f table operations place there new slots S at stays is says =
    let o = S.keeps.each place there at in record {
      keeps = subst (λ r. Keeps (set table.table place (Some r)) (change f operations there.number)) (is o.0 o.1 o.3)
          (keeps_changed f table.table operations place there o.0 S.keeps at o.1 o.2 (stays o.0 ∙ o.2));
      given = S.given ∙ sym (length-change f operations there.number);
      says = says;
      settled = λ number operation now synced. (
          let was = numbered-change f operations there.number number operation now in
          elim was.2 [
            | inl it ↦ ap is_complete it.1
                ∙ S.settled number was.0 was.1 (ap (λ (z : Operation). z.synced) (sym it.1) ∙ synced)
            | inr it ↦ absurd
                (true≢false (sym synced
                ∙ (ap (λ (z : Operation). z.synced) it.1
                ∙ (stays was.0
                ∙ (ap (λ (z : Operation). z.synced)
                (same_Some was.0 o.0 (sym was.1 ∙ (ap (element_at operations) it.0 ∙ o.1))) ∙ o.2)))))
          ]);
    }

-- ---- a chunk is issued

returned_push : (sent : List SentChunk) (new : SentChunk) → new.back ≡ false → returned_of (sent ++ new ∷ []) ≡ returned_of sent
returned_push [] new waits = rw waits refl
returned_push (first ∷ sent) new waits = ap (λ n. (if first.back then 1 else 0) + n) (returned_push sent new waits)

kept_noted : (number slot request : ℕ) (bytes : List ℕ) (operation : Operation)
    → record_of number (with_sent slot request bytes operation)
    ≡ record (record_of number operation) { issued = length operation.sent + 1 }
kept_noted number slot request bytes operation =
    let new : SentChunk = record { slot = slot; number = request; bytes = bytes; back = false } in
    ap₂ (λ issued returned. record (record_of number operation) {
      issued = issued;
      returned = returned;
    }) (length-append operation.sent (new ∷ [])) (returned_push operation.sent new refl)

pub stands_noted : (table : Transfers) (operations : List Operation) (place : ℕ) (there : OperationRecord)
    (to slot request : ℕ)
    (bytes : List ℕ) (slots : ChunkSlots)
    → Stands table operations → slice_get table.table place ≡ Some (Some there) → target there.transfer ≡ to
    → IsFreeSlot operations to slot → HasSet table.slots to slot (Some (record {
      request = request;
      place = place;
    })) slots
    → Stands (record table {
      table = set table.table place (Some (record there { issued = there.issued + 1 }));
      slots = slots;
    })
    (change (with_sent slot request bytes) operations there.number)
stands_noted table operations place there to slot request bytes slots S at is free H =
    stands_changed f table operations place there new slots S at (λ any. refl)
    (λ any here same. kept_noted there.number slot request bytes any
    ∙ ap (λ (z : OperationRecord). record z { issued = z.issued + 1 }) (sym same))
    says
  where
    f : Operation → Operation
    f = with_sent slot request bytes

    new : OperationRecord
    new = record there { issued = there.issued + 1 }

    places : List (Option OperationRecord)
    places = set table.table place (Some new)

    says : (node other : ℕ)
        → Says places (entry_at slots node other) (outs node other 1 (change f operations there.number))
    says node other =
        let o = S.keeps.each place there at in
        let a = number_at operations there.number o.0 o.1 in
        let one : there.number ≡ suc a.0 = omega (arith, a.1) in
        let to_is : target o.0.transfer ≡ to = ap (λ (z : OperationRecord). target z.transfer) (sym o.3) ∙ is in
        let changed : change f operations there.number ≡ update operations a.0 f = ap (change f operations) one in
        let elsewhere : (node ≡ to → other ≡ slot → ⊥)
        → Says places (entry_at slots node other) (outs node other 1 (change f operations there.number)) = λ apart. (
        let kept_so : outs node other 1 (change f operations there.number) ≡ outs node other 1 operations =
        ap (outs node other 1) changed
        ∙ outs_kept node other 1 f operations a.0 o.0 a.2
        (issued_elsewhere to slot request bytes node other o.0 to_is apart) in
        subst (λ entry. Says places entry (outs node other 1 (change f operations there.number)))
        (sym (H.others node other apart))
        (subst (λ out. Says places (entry_at table.slots node other) out) (sym kept_so)
        (says_rewritten table.table place there new (entry_at table.slots node other)
        (outs node other 1 operations) at refl (S.says node other)))) in
        elim (cases_eq node to) [
          | inr apart ↦ elsewhere (λ same. absurd (apart same))
          | inl same_node ↦ elim (cases_eq other slot) [
            | inr apart ↦ elsewhere (λ any same. absurd (apart same))
            | inl same_slot ↦ (
                let issued : outs to slot 1 (change f operations there.number) ≡ record {
                  operation = there.number;
                  request = request;
                } ∷ [] =
                ap (outs to slot 1) changed
                ∙ (outs_issued to slot request 1 bytes operations a.0 o.0
                (outs_free to slot 1 operations free) a.2 to_is ∙ ap (λ n. record {
                  operation = n;
                  request = request;
                } ∷ []) (sym a.1)) in
                subst (λ entry. Says places entry (outs node other 1 (change f operations there.number)))
                (sym (ap₂ (entry_at slots) same_node same_slot ∙ H.here)) (
                  new,
                  get-set_same table.table place (Some new) (slice_get_within table.table place (Some there) at),
                  ap₂ (λ n s. outs n s 1 (change f operations there.number)) same_node same_slot ∙ issued,
                ))
          ]
        ]

-- ---- a chunk comes back

kept_returned : (number to slot request : ℕ) (operation : Operation) → requests_of to slot operation ≡ request ∷ []
    → record_of number (with_back to slot request operation)
    ≡ record (record_of number operation) { returned = returned_of operation.sent + 1 }
kept_returned number to slot request operation one =
    let it = (one_operation to slot request operation one).1 in
    elim (cases_Bool (target operation.transfer == to)) [
      | inl here ↦ rw here (ap₂ (λ issued returned. record (record_of number operation) {
        issued = issued;
        returned = returned;
      }) (length-map operation.sent (as_back slot request)) (rw here at it))
      | inr other ↦ absurd (none (rw other at one))
    ]
  where
    none : ◌≡◌ {A = List ℕ} [] (request ∷ []) → ⊥
    none is = cc

pub stands_returned : (table : Transfers) (operations : List Operation) (there : OperationRecord) (to slot : ℕ)
    (waiting : Waiting) (slots : ChunkSlots)
    → Stands table operations → entry_at table.slots to slot ≡ Some waiting
    → slice_get table.table waiting.place ≡ Some (Some there) → HasSet table.slots to slot None slots
    → Stands (record table {
      table = set table.table waiting.place (Some (record there { returned = there.returned + 1 }));
      slots = slots;
    })
    (come_back to slot waiting.request operations)
stands_returned table operations there to slot waiting slots S entry at H =
    subst (Stands (record table { table = places; slots = slots })) (sym back_is)
    (stands_changed f table operations waiting.place there new slots S at
    (λ any. ap (λ (z : Operation). z.synced) (with_back_keeps to slot waiting.request any))
    (λ any here same. kept_returned there.number to slot waiting.request any
    (ap (requests_of to slot) (same_Some _ _ (sym here ∙ here_is)) ∙ one.one)
    ∙ ap (λ (z : OperationRecord). record z { returned = z.returned + 1 }) (sym same))
    says)
  where
    f : Operation → Operation
    f = with_back to slot waiting.request

    new : OperationRecord
    new = record there { returned = there.returned + 1 }

    places : List (Option OperationRecord)
    places = set table.table waiting.place (Some new)

    out : Out
    out = record { operation = there.number; request = waiting.request }

    outs_are : outs to slot 1 operations ≡ out ∷ []
    outs_are =
        let it = said table operations to slot waiting S entry in
        it.2 ∙ ap (λ (z : OperationRecord). record {
          operation = z.number;
          request = waiting.request;
        } ∷ []) (same_Some _ _ (same_Some _ _ (sym it.1 ∙ at)))

    one : IsOne to slot 1 operations out
    one = one_out to slot 1 operations out outs_are

    here_is : element_at operations there.number ≡ Some one.operation
    here_is = numbered_at operations there.number one.place one.operation one.here one.numbered_so

    back_is : come_back to slot waiting.request operations ≡ change f operations there.number
    back_is = one.changes ∙ ap (change f operations) {x = suc one.place} (omega (arith, one.numbered_so))

    says : (node other : ℕ)
        → Says places (entry_at slots node other) (outs node other 1 (change f operations there.number))
    says node other =
        let elsewhere : (node ≡ to → other ≡ slot → ⊥)
        → Says places (entry_at slots node other) (outs node other 1 (change f operations there.number)) = λ apart. (
        let kept_so : outs node other 1 (change f operations there.number) ≡ outs node other 1 operations =
        ap (outs node other 1) (sym back_is) ∙ outs_other to slot waiting.request node other 1 operations apart in
        subst (λ found. Says places found (outs node other 1 (change f operations there.number)))
        (sym (H.others node other apart))
        (subst (λ found. Says places (entry_at table.slots node other) found) (sym kept_so)
        (says_rewritten table.table waiting.place there new (entry_at table.slots node other)
        (outs node other 1 operations) at refl (S.says node other)))) in
        elim (cases_eq node to) [
          | inr apart ↦ elsewhere (λ same. absurd (apart same))
          | inl same_node ↦ elim (cases_eq other slot) [
            | inr apart ↦ elsewhere (λ any same. absurd (apart same))
            | inl same_slot ↦
                subst (λ found. Says places found (outs node other 1 (change f operations there.number)))
                (sym (ap₂ (entry_at slots) same_node same_slot ∙ H.here))
                (ap₂ (λ n s. outs n s 1 (change f operations there.number)) same_node same_slot
                ∙ (ap (outs to slot 1) (sym back_is) ∙ one.gone))
          ]
        ]
