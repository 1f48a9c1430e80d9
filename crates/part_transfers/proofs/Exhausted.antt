-- The smallest node that is exhausted and has an unissued chunk.
use Rattle.std.proofs.Common.{◌≡◌, inl, inr, ℕ, ◌≤◌, ◌==◌, Bool, true, false, true≢false, ◌&&◌, min, List, [], ◌∷◌}
use Rattle.std.proofs.Common.{Option, None, Some, refl, sym, ap, ◌∙◌, subst, arith, eq-eqb}
use Rattle.std.specs.List.{list_any}
use Rattle.std.proofs.lemmas.Bool.{cases_Bool, cases_lt, and_parts, and_from, eqb-true}
use Rattle.part_transfers.specs.declared.table.OperationRecord.{OperationRecord}
use Rattle.part_transfers.specs.Operation.{Operation, target, has_next}
use Rattle.part_transfers.specs.Syncs.{Choice, chosen, exhausted_of, less}
use Rattle.part_transfers.specs.Stands.{Keeps, Agrees}
use Rattle.part_transfers.specs.Table.{IsFirstExhausted}
use Rattle.part_transfers.proofs.Members.{to_is}

abbrev unissued_to : (node : ℕ) → Operation → Bool
unissued_to node operation = has_next operation && (target operation.transfer == node)

abbrev IsSmallest : (exhausted : ℕ → Bool) → List Operation → Option ℕ → Type 0
IsSmallest exhausted operations None = (node : ℕ) → exhausted node ≡ true → list_any (unissued_to node) operations ≡ false
IsSmallest exhausted operations (Some node) =
    (exhausted node ≡ true) × (list_any (unissued_to node) operations ≡ true)
    × ((other : ℕ) → exhausted other ≡ true → list_any (unissued_to other) operations ≡ true → node ≤ other)

own : (operation : Operation) → has_next operation ≡ true → unissued_to (target operation.transfer) operation ≡ true
own operation is = and_from _ _ is (eq-eqb (target operation.transfer) (target operation.transfer) refl)

taken : (exhausted : ℕ → Bool) (operation : Operation) (later : List Operation) (smallest : Option ℕ)
    → exhausted (target operation.transfer) ≡ true → has_next operation ≡ true
    → IsSmallest exhausted later smallest → IsSmallest exhausted (operation ∷ later) (less (target operation.transfer) smallest)
taken exhausted operation later None is next none = (
  is,
  rw (own operation next) refl,
  λ other is_out any. elim (cases_Bool (unissued_to other operation)) [
    | inl here ↦
        (let same = eqb-true (target operation.transfer) other
        (and_parts (has_next operation) (target operation.transfer == other) here).1 in omega (arith, same))
    | inr isnt ↦ absurd (true≢false (sym (rw isnt at any) ∙ none other is_out))
  ],
)
taken exhausted operation later (Some node) is next some = elim (cases_lt (target operation.transfer) node) [
  | inl smaller ↦ (
      let here : min (target operation.transfer) node ≡ target operation.transfer = omega (arith, smaller) in
      subst (λ smallest. IsSmallest exhausted (operation ∷ later) (Some smallest)) (sym here) (
        is,
        rw (own operation next) refl,
        λ other is_out any. elim (cases_Bool (unissued_to other operation)) [
          | inl this ↦
              (let same = eqb-true (target operation.transfer) other
              (and_parts (has_next operation) (target operation.transfer == other) this).1 in omega (arith, same))
          | inr isnt ↦ (let known = some.2 other is_out (rw isnt at any) in omega (arith, known, smaller))
        ],
      ))
  | inr greater ↦ (
      let there : min (target operation.transfer) node ≡ node = omega (arith, greater) in
      subst (λ smallest. IsSmallest exhausted (operation ∷ later) (Some smallest)) (sym there) (
        some.0,
        elim (cases_Bool (unissued_to node operation)) [ inl this ↦ rw this refl | inr isnt ↦ rw isnt some.1 ],
        λ other is_out any. elim (cases_Bool (unissued_to other operation)) [
          | inl this ↦
              (let same = eqb-true (target operation.transfer) other
              (and_parts (has_next operation) (target operation.transfer == other) this).1 in
              omega (arith, same, greater))
          | inr isnt ↦ some.2 other is_out (rw isnt at any)
        ],
      ))
]

skipped : (exhausted : ℕ → Bool) (operation : Operation) (later : List Operation) (smallest : Option ℕ)
    → (exhausted (target operation.transfer) && has_next operation) ≡ false
    → IsSmallest exhausted later smallest → IsSmallest exhausted (operation ∷ later) smallest
skipped exhausted operation later smallest isnt = by smallest
  where
    free : (node : ℕ) → exhausted node ≡ true → unissued_to node operation ≡ true → ⊥
    free node is this =
        let both = and_parts (has_next operation) (target operation.transfer == node) this in
        let same = eqb-true (target operation.transfer) node both.1 in
        true≢false (sym (and_from _ _ (ap exhausted same ∙ is) both.0) ∙ isnt)

    by : (found : Option ℕ) → IsSmallest exhausted later found → IsSmallest exhausted (operation ∷ later) found
    by None none =
        λ node is. elim (cases_Bool (unissued_to node operation)) [
          | inl this ↦ absurd (free node is this)
          | inr other ↦
              rw other (none node is)
        ]
    by (Some node) some = (
      some.0,
      elim (cases_Bool (unissued_to node operation)) [ inl this ↦ rw this refl | inr other ↦ rw other some.1 ],
      λ other is any. elim (cases_Bool (unissued_to other operation)) [
        | inl this ↦ absurd (free other is this)
        | inr differs ↦ some.2 other is (rw differs at any)
      ],
    )

smallest_is : (exhausted : ℕ → Bool) (operations : List Operation) → IsSmallest exhausted operations (exhausted_of exhausted operations)
smallest_is exhausted [] = λ node is. refl
smallest_is exhausted (operation ∷ later) = elim (cases_Bool (exhausted (target operation.transfer) && has_next operation)) [
  | inl is ↦ (let both = and_parts (exhausted (target operation.transfer)) (has_next operation) is in
      rw is (taken exhausted operation later (exhausted_of exhausted later) both.0 both.1 (smallest_is exhausted later)))
  | inr isnt ↦ rw isnt (skipped exhausted operation later (exhausted_of exhausted later) isnt (smallest_is exhausted later))
]

-- the first node that was found is the smallest one
pub exhausted_is : (exhausted : ℕ → Bool) (places : List (Option OperationRecord)) (operations : List Operation) (choice : Choice)
    (test : OperationRecord → Bool) (found : Option ℕ)
    → Keeps places operations → Agrees choice test
    → IsFirstExhausted exhausted test places found → found ≡ exhausted_of exhausted (chosen choice 1 operations)
exhausted_is exhausted places operations choice test found K A first =
    by found (exhausted_of exhausted (chosen choice 1 operations)) first (smallest_is exhausted (chosen choice 1 operations))
  where
    by : (one other : Option ℕ) → IsFirstExhausted exhausted test places one → IsSmallest exhausted (chosen choice 1 operations) other
        → one ≡ other
    by None None none also = refl
    by None (Some node) none some =
        absurd (true≢false (sym some.1 ∙ (sym (to_is places operations choice test node K A) ∙ none node some.0)))
    by (Some node) None it none =
        absurd (true≢false (sym it.1 ∙ (to_is places operations choice test node K A ∙ none node it.0)))
    by (Some node) (Some other) it some =
        let below : other ≤ node = some.2 node it.0 (sym (to_is places operations choice test node K A) ∙ it.1) in
        elim (cases_lt other node) [
          | inl smaller ↦
              absurd (true≢false
              (sym some.1 ∙ (sym (to_is places operations choice test other K A) ∙ it.2 other smaller some.0)))
          | inr least ↦ ap Some (omega (arith, below, least))
        ]
