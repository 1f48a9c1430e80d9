-- There are as many records as operations that stand.
use Rattle.std.proofs.Common.{◌≡◌, inl, inr, ℕ, zero, suc, ◌+◌, Bool, true, false, true≢false, if◌then◌else◌, List, []}
use Rattle.std.proofs.Common.{◌∷◌, Option, None, Some, length, refl, sym, ap, ◌∙◌, arith, eqb, eq-eqb, ne_eqb}
use Rattle.std.specs.Cmp.{IsEquivalence}
use Rattle.std.specs.List.{slice_get, list_any, IsDistinct, AllByRecursion}
use Rattle.std.proofs.lemmas.Bool.{cases_Bool, cases_eq, eqb-true}
use Rattle.std.proofs.lemmas.Map.Made.{length-from_same_keys}
use Rattle.std.proofs.lemmas.Option.{same_Some}
use Rattle.base_lists.specs.Numbered.{element_at}
use Rattle.part_transfers.specs.declared.table.OperationRecord.{OperationRecord}
use Rattle.part_transfers.specs.Operation.{Operation, unsynced_count}
use Rattle.part_transfers.specs.Table.{taken_count}
use Rattle.part_transfers.specs.Stands.{record_of}
use Rattle.part_transfers.proofs.Tests.{same_test}

abbrev serials : List (Option OperationRecord) → List ℕ
serials [] = []
serials (None ∷ places) = serials places
serials (Some r ∷ places) = r.number ∷ serials places

abbrev numbers : ℕ → List Operation → List ℕ
numbers k [] = []
numbers k (o ∷ operations) = if o.synced then numbers (suc k) operations else k ∷ numbers (suc k) operations

length-serials : (places : List (Option OperationRecord)) → length (serials places) ≡ taken_count places
length-serials [] = refl
length-serials (None ∷ places) = length-serials places
length-serials (Some r ∷ places) = ap suc (length-serials places)

length-numbers : (k : ℕ) (operations : List Operation) → length (numbers k operations) ≡ unsynced_count operations
length-numbers k [] = refl
length-numbers k (o ∷ operations) = let ih = length-numbers (suc k) operations in
    elim (cases_Bool o.synced) [ inl t ↦ rw t ih | inr f ↦ rw f (ap suc ih) ]

serials_at : (places : List (Option OperationRecord)) (q : ℕ) → list_any (eqb q) (serials places) ≡ true
    → (p : ℕ) × (r : OperationRecord) × (slice_get places p ≡ Some (Some r)) × (r.number ≡ q)
serials_at [] q e = absurd (true≢false (sym e))
serials_at (None ∷ places) q e = let h = serials_at places q e in (suc h.0, h.1, h.2, h.3)
serials_at (Some r ∷ places) q e = elim (cases_eq q r.number) [
  | inl same ↦ (0, r, refl, sym same)
  | inr n ↦ (let h = serials_at places q (rw (ne_eqb q r.number n) at e) in (suc h.0, h.1, h.2, h.3))
]

serials_from : (places : List (Option OperationRecord)) (p : ℕ) (r : OperationRecord) → slice_get places p ≡ Some (Some r)
    → list_any (eqb r.number) (serials places) ≡ true
serials_from [] p r e = absurd (cc)
serials_from (None ∷ places) zero r e = absurd (cc)
serials_from (None ∷ places) (suc p) r e = serials_from places p r e
serials_from (Some v ∷ places) zero r e = let same : v ≡ r = same_Some v r (same_Some (Some v) (Some r) e) in
    rw (eq-eqb r.number v.number (ap (λ (z : OperationRecord). z.number) (sym same))) refl
serials_from (Some v ∷ places) (suc p) r e = let ih = serials_from places p r e in
    elim (cases_Bool (eqb r.number v.number)) [ inl t ↦ rw t refl | inr f ↦ rw f ih ]

numbers_at : (k : ℕ) (operations : List Operation) (q : ℕ) → list_any (eqb q) (numbers k operations) ≡ true
    → (a : ℕ) × (o : Operation) × (slice_get operations a ≡ Some o) × (o.synced ≡ false) × (q ≡ k + a)
numbers_at k [] q e = absurd (true≢false (sym e))
numbers_at k (o ∷ operations) q e = elim (cases_Bool o.synced) [
  | inl t ↦ later (numbers_at (suc k) operations q (rw t at e))
  | inr f ↦ elim (cases_eq q k) [
    | inl same ↦ (0, o, refl, f, omega (arith, same))
    | inr n ↦ later (numbers_at (suc k) operations q (rw (f, ne_eqb q k n) at e))
  ]
]
  where
    later : ((a : ℕ) × (p : Operation) × (slice_get operations a ≡ Some p) × (p.synced ≡ false) × (q ≡ suc k + a))
        → (a : ℕ) × (p : Operation) × (slice_get (o ∷ operations) a ≡ Some p) × (p.synced ≡ false) × (q ≡ k + a)
    later h = (suc h.0, h.1, h.2, h.3, omega (arith, h.4))

numbers_from : (k : ℕ) (operations : List Operation) (a : ℕ) (o : Operation) → slice_get operations a ≡ Some o
    → o.synced ≡ false → list_any (eqb (k + a)) (numbers k operations) ≡ true
numbers_from k [] a o e n = absurd (cc)
numbers_from k (z ∷ operations) zero o e n =
    let same = same_Some z o e in
    rw (ap (λ (y : Operation). y.synced) same ∙ n, eq-eqb (k + 0) k (omega arith)) refl
numbers_from k (z ∷ operations) (suc a) o e n =
    let ih = ap (λ q. list_any (eqb q) (numbers (suc k) operations)) (omega arith)
    ∙ numbers_from (suc k) operations a o e n in
    elim (cases_Bool z.synced) [
      | inl t ↦ rw t (more (k + suc a) ih)
      | inr f ↦ rw f (elim (cases_Bool (eqb (k + suc a) k)) [ inl t ↦ rw t refl | inr g ↦ rw g (more (k + suc a) ih) ])
    ]
  where
    more : (q : ℕ) → list_any (eqb q) (numbers (suc k) operations) ≡ true
        → list_any (eqb q) (numbers (suc k) operations) ≡ true
    more q h = h

pub none_same : (q : ℕ) (xs : List ℕ) → (list_any (eqb q) xs ≡ true → ⊥) → AllByRecursion (λ y. eqb q y ≡ false) xs
none_same q [] n = tt
none_same q (x ∷ xs) n = (
  ne_eqb q x (λ e. n (rw (eq-eqb q x e) refl)),
  none_same q xs (λ h. n (elim (cases_Bool (eqb q x)) [ inl t ↦ rw t refl | inr f ↦ rw f h ])),
)

distinct_serials : (places : List (Option OperationRecord))
    → ((p q : ℕ) (r v : OperationRecord) → slice_get places p ≡ Some (Some r) → slice_get places q ≡ Some (Some v)
    → r.number ≡ v.number → p ≡ q)
    → IsDistinct eqb (serials places)
unfolding IsDistinct
distinct_serials [] once = tt
distinct_serials (None ∷ places) once =
    distinct_serials places (λ p q r v e f s. (let h = once (suc p) (suc q) r v e f s in omega (arith, h)))
distinct_serials (Some r ∷ places) once = (
  none_same r.number (serials places)
      (λ e. (let h = serials_at places r.number e in let z = once 0 (suc h.0) r h.1 refl h.2 (sym h.3) in
      absurd (omega (arith, z)))),
  distinct_serials places (λ p q u v e f s. (let h = once (suc p) (suc q) u v e f s in omega (arith, h))),
)

distinct_cons : (k : ℕ) (b : Bool) (xs : List ℕ) → (list_any (eqb k) xs ≡ true → ⊥) → IsDistinct eqb xs
    → IsDistinct eqb (if b then xs else k ∷ xs)
unfolding IsDistinct
distinct_cons k true xs n d = d
distinct_cons k false xs n d = (none_same k xs n, d)

distinct_none : IsDistinct eqb []
unfolding IsDistinct
distinct_none = tt

distinct_numbers : (k : ℕ) (operations : List Operation) → IsDistinct eqb (numbers k operations)
distinct_numbers k [] = distinct_none
distinct_numbers k (o ∷ operations) =
    distinct_cons k o.synced (numbers (suc k) operations)
    (λ e. (let h = numbers_at (suc k) operations k e in absurd (omega (arith, h.4))))
    (distinct_numbers (suc k) operations)

eqb_laws : IsEquivalence eqb
eqb_laws = record {
  refl = λ x. eq-eqb x x refl;
  symm = λ x y. elim (cases_eq x y) [ inl h ↦ rw h refl | inr n ↦ ne_eqb x y n ∙ sym (ne_eqb y x (λ e. n (sym e))) ];
  congr = λ x y z e. ap (λ q. eqb q z) (eqb-true x y e);
}

pub number_at : (operations : List Operation) (h : ℕ) (o : Operation) → element_at operations h ≡ Some o
    → (a : ℕ) × (h ≡ 1 + a) × (slice_get operations a ≡ Some o)
number_at operations zero o e = absurd (cc)
number_at operations (suc a) o e = (a, omega arith, e)

-- the count follows from the rest
pub count_from : (places : List (Option OperationRecord)) (operations : List Operation)
    → ((p : ℕ) (r : OperationRecord) → slice_get places p ≡ Some (Some r)
    → (o : Operation) × (element_at operations r.number ≡ Some o) × (o.synced ≡ false) × (r ≡ record_of r.number o))
    → ((h : ℕ) (o : Operation) → element_at operations h ≡ Some o → o.synced ≡ false
    → (p : ℕ) × (slice_get places p ≡ Some (Some (record_of h o))))
    → ((p q : ℕ) (r v : OperationRecord) → slice_get places p ≡ Some (Some r) → slice_get places q ≡ Some (Some v)
    → r.number ≡ v.number → p ≡ q)
    → taken_count places ≡ unsynced_count operations
count_from places operations each all once =
    sym (length-serials places)
    ∙ (length-from_same_keys eqb_laws (serials places) (numbers 1 operations) (distinct_serials places once)
    (distinct_numbers 1 operations)
    (λ q. same_test (list_any (eqb q) (serials places)) (list_any (eqb q) (numbers 1 operations)) (forth q)
    (back q)) ∙ length-numbers 1 operations)
  where
    forth : (q : ℕ) → list_any (eqb q) (serials places) ≡ true → list_any (eqb q) (numbers 1 operations) ≡ true
    forth q e =
        let h = serials_at places q e in
        let o = each h.0 h.1 h.2 in
        let a = number_at operations h.1.number o.0 o.1 in
        ap (λ n. list_any (eqb n) (numbers 1 operations)) (sym h.3 ∙ a.1) ∙ numbers_from 1 operations a.0 o.0 a.2 o.2

    back : (q : ℕ) → list_any (eqb q) (numbers 1 operations) ≡ true → list_any (eqb q) (serials places) ≡ true
    back q e =
        let h = numbers_at 1 operations q e in
        let one : q ≡ suc h.0 = omega (arith, h.4) in
        let p = all (suc h.0) h.1 h.2 h.3 in
        ap (λ n. list_any (eqb n) (serials places)) one ∙ serials_from places p.0 (record_of (suc h.0) h.1) p.1
