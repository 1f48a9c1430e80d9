-- The records stand where those that were chosen go.
use Rattle.std.proofs.Common.{◌≡◌, ◌⊎◌, inl, inr, ℕ, zero, suc, ◌+◌, Bool, true, false, true≢false, List, [], ◌∷◌}
use Rattle.std.proofs.Common.{Option, None, Some, length, refl, sym, ap, ap₂, ◌∙◌, subst, arith}
use Rattle.std.specs.List.{slice_get, list_all}
use Rattle.std.proofs.lemmas.Bool.{cases_Bool, and_parts}
use Rattle.std.proofs.lemmas.Option.{same_Some, slice_get_within}
use Rattle.base_lists.specs.Numbered.{element_at}
use Rattle.base_lists.proofs.Places.{slice_get_there}
use Rattle.part_transfers.specs.declared.table.OperationRecord.{OperationRecord}
use Rattle.part_transfers.specs.declared.transfers.Transfers.{Transfers}
use Rattle.part_transfers.specs.Operation.{Operation, is_complete}
use Rattle.part_transfers.specs.Syncs.{Choice, go, chosen}
use Rattle.part_transfers.specs.Table.{unless_picked, AreDropped}
use Rattle.part_transfers.specs.ChunkSlots.{entry_at}
use Rattle.part_transfers.specs.Outs.{requests_of, outs}
use Rattle.part_transfers.proofs.Outs.{one_out, outs_gone, complete_none}
use Rattle.part_transfers.proofs.Said.{says_dropped}
use Rattle.base_lists.proofs.Numbered.{numbered_at}
use Rattle.part_transfers.specs.Stands.{Says, record_of, Keeps, Stands, Agrees}
use Rattle.part_transfers.proofs.Counts.{count_from, number_at}

length-go : (choice : Choice) (number : ℕ) (operations : List Operation)
    → length (go choice number operations) ≡ length operations
length-go choice number [] = refl
length-go choice number (operation ∷ operations) = ap suc (length-go choice (suc number) operations)

-- what is there afterwards was there, and is marked where it was chosen
go_was : (choice : Choice) (number : ℕ) (operations : List Operation) (place : ℕ) (now : Operation)
    → slice_get (go choice number operations) place ≡ Some now
    → (was : Operation) × (slice_get operations place ≡ Some was)
    × (((choice (number + place) was ≡ false) × (now ≡ was))
    ⊎ ((choice (number + place) was ≡ true) × (now ≡ record was { synced = true })))
go_was choice number [] place now at = absurd (cc)
go_was choice number (first ∷ operations) zero now at = (
  first,
  refl,
  elim (cases_Bool (choice number first)) [
    | inl is ↦ inr (ap (λ n. choice n first) (omega arith) ∙ is, sym (same_Some _ _ (rw is at at)))
    | inr isnt ↦ inl (ap (λ n. choice n first) (omega arith) ∙ isnt, sym (same_Some _ _ (rw isnt at at)))
  ],
)
go_was choice number (first ∷ operations) (suc place) now at =
    let later = go_was choice (suc number) operations place now at in (
      later.0,
      later.1,
      elim later.2 [
        | inl it ↦ inl (ap (λ n. choice n later.0) (omega arith) ∙ it.0, it.1)
        | inr it ↦ inr (ap (λ n. choice n later.0) (omega arith) ∙ it.0, it.1)
      ],
    )

go_other : (choice : Choice) (number : ℕ) (operations : List Operation) (place : ℕ) (operation : Operation)
    → slice_get operations place ≡ Some operation → choice (number + place) operation ≡ false
    → slice_get (go choice number operations) place ≡ Some operation
go_other choice number [] place operation at isnt = absurd (cc)
go_other choice number (first ∷ operations) zero operation at isnt =
    let same : first ≡ operation = same_Some _ _ at in
    let here : choice number first ≡ false =
    ap (choice number) same ∙ (ap (λ n. choice n operation) (omega arith) ∙ isnt) in
    rw here (ap (λ (y : Operation). Some y) same)
go_other choice number (first ∷ operations) (suc place) operation at isnt =
    go_other choice (suc number) operations place operation at (ap (λ n. choice n operation) (omega arith) ∙ isnt)

-- what was chosen is complete, where all chosen are
pub chosen_complete : (choice : Choice) (number : ℕ) (operations : List Operation) (place : ℕ) (operation : Operation)
    → list_all is_complete (chosen choice number operations) ≡ true → slice_get operations place ≡ Some operation
    → choice (number + place) operation ≡ true → is_complete operation ≡ true
chosen_complete choice number [] place operation all at is = absurd (cc)
chosen_complete choice number (first ∷ operations) zero operation all at is =
    let same : first ≡ operation = same_Some _ _ at in
    let here : choice number first ≡ true =
    ap (choice number) same ∙ (ap (λ n. choice n operation) (omega arith) ∙ is) in
    ap is_complete (sym same)
    ∙ (and_parts (is_complete first) (list_all is_complete (chosen choice (suc number) operations))
    (rw here at all)).0
chosen_complete choice number (first ∷ operations) (suc place) operation all at is =
    elim (cases_Bool (choice number first)) [
      | inl here ↦
          chosen_complete choice (suc number) operations place operation
          ((and_parts (is_complete first) (list_all is_complete (chosen choice (suc number) operations))
          (rw here at all)).1) at (ap (λ n. choice n operation) (omega arith) ∙ is)
      | inr isnt ↦
          chosen_complete choice (suc number) operations place operation (rw isnt at all) at
          (ap (λ n. choice n operation) (omega arith) ∙ is)
    ]

not_dropped : (test : OperationRecord → Bool) (place : Option OperationRecord) (there : OperationRecord) → unless_picked test place ≡ Some there
    → (place ≡ Some there) × (test there ≡ false)
not_dropped test None there is = absurd (cc)
not_dropped test (Some was) there is = elim (cases_Bool (test was)) [
  | inl holds ↦ absurd (none (rw holds at is))
  | inr fails ↦
      (let same : was ≡ there = same_Some was there (rw fails at is) in (ap Some same, ap test (sym same) ∙ fails))
]
  where
    none : ◌≡◌ {A = Option OperationRecord} None (Some there) → ⊥
    none none_is = cc

keeps_gone : (old new : List (Option OperationRecord)) (operations : List Operation) (choice : Choice) (test : OperationRecord → Bool)
    → Agrees choice test → AreDropped test old new → Keeps old operations → Keeps new (go choice 1 operations)
keeps_gone old new operations choice test A D K =
    record {
      many = D.many ∙ K.many;
      each = each;
      all = all;
      once = once;
      count = count_from new (go choice 1 operations) each all once;
    }
  where
    was : (place : ℕ) (there : OperationRecord) → slice_get new place ≡ Some (Some there)
        → (slice_get old place ≡ Some (Some there)) × (test there ≡ false)
    was place there at =
        let within = slice_get_within new place (Some there) at in
        let many = D.many in
        let o = slice_get_there old place (omega (arith, within, many)) in
        let stays = not_dropped test o.0 there (same_Some _ _ (sym (D.each place o.0 o.1) ∙ at)) in
        (o.1 ∙ ap Some stays.0, stays.1)

    each : (place : ℕ) (there : OperationRecord) → slice_get new place ≡ Some (Some there)
        → (o : Operation) × (element_at (go choice 1 operations) there.number ≡ Some o) × (o.synced ≡ false)
        × (there ≡ record_of there.number o)
    each place there at =
        let h = was place there at in
        let o = K.each place there h.0 in
        let a = number_at operations there.number o.0 o.1 in
        let one : there.number ≡ suc a.0 = omega (arith, a.1) in
        let free : choice (1 + a.0) o.0 ≡ false = ap (λ n. choice n o.0) (sym a.1)
        ∙ (A.chosen there.number o.0 o.2 ∙ (ap test (sym o.3) ∙ h.1)) in
        (o.0, ap (element_at (go choice 1 operations)) one ∙ go_other choice 1 operations a.0 o.0 a.2 free, o.2, o.3)

    all : (number : ℕ) (now : Operation) → element_at (go choice 1 operations) number ≡ Some now → now.synced ≡ false
        → (place : ℕ) × (slice_get new place ≡ Some (Some (record_of number now)))
    all number now at stands =
        let a = number_at (go choice 1 operations) number now at in
        let o = go_was choice 1 operations a.0 now a.2 in
        elim o.2 [
          | inl it ↦ (
              let one : number ≡ suc a.0 = omega (arith, a.1) in
              let open_now : o.0.synced ≡ false = ap (λ (y : Operation). y.synced) (sym it.1) ∙ stands in
              let p = K.all (suc a.0) o.0 o.1 open_now in
              let free : test (record_of (suc a.0) o.0) ≡ false = sym (A.chosen (suc a.0) o.0 open_now)
              ∙ (ap (λ m. choice m o.0) (sym one ∙ a.1) ∙ it.0) in (
                p.0,
                D.each p.0 (Some (record_of (suc a.0) o.0)) p.1
                    ∙ rw free (ap (λ (y : OperationRecord). Some (Some y)) (ap₂ record_of (sym one) (sym it.1))),
              ))
          | inr it ↦ absurd (true≢false (sym (ap (λ (y : Operation). y.synced) it.1) ∙ stands))
        ]

    once : (place other : ℕ) (first second : OperationRecord) → slice_get new place ≡ Some (Some first)
        → slice_get new other ≡ Some (Some second) → first.number ≡ second.number → place ≡ other
    once place other first second at also same =
        K.once place other first second (was place first at).0 (was other second also).0 same

-- those chosen go, where all are complete
pub stands_gone : (table : Transfers) (new : List (Option OperationRecord)) (operations : List Operation) (choice : Choice)
    (test : OperationRecord → Bool)
    → Stands table operations → Agrees choice test → AreDropped test table.table new
    → list_all is_complete (chosen choice 1 operations) ≡ true
    → Stands (record table { table = new }) (go choice 1 operations)
stands_gone table new operations choice test S A D all = record {
  keeps = keeps_gone table.table new operations choice test A D S.keeps;
  given = S.given ∙ sym (length-go choice 1 operations);
  says = λ to slot. subst (λ out. Says new (entry_at table.slots to slot) out)
      (sym (outs_gone to slot 1 choice 1 operations))
      (says_dropped table.table new test (entry_at table.slots to slot) (outs to slot 1 operations) D (stays to slot)
      (S.says to slot));
  settled = λ number now at synced. (
      let a = number_at (go choice 1 operations) number now at in
      let o = go_was choice 1 operations a.0 now a.2 in
      elim o.2 [
        | inl it ↦ ap is_complete it.1
            ∙ S.settled (suc a.0) o.0 o.1 (ap (λ (y : Operation). y.synced) (sym it.1) ∙ synced)
        | inr it ↦ ap is_complete it.1 ∙ chosen_complete choice 1 operations a.0 o.0 all o.1 it.0
      ]);
}
  where
    none : (request : ℕ) → ◌≡◌ {A = List ℕ} [] (request ∷ []) → ⊥
    none request is = cc

    stays : (to slot : ℕ) (place : ℕ) (there : OperationRecord) (request : ℕ) → slice_get table.table place ≡ Some (Some there)
        → outs to slot 1 operations ≡ record { operation = there.number; request = request } ∷ [] → test there ≡ false
    stays to slot place there request at out = elim (cases_Bool (test there)) [
      | inr isnt ↦ isnt
      | inl is ↦ (
          let one = one_out to slot 1 operations (record { operation = there.number; request = request }) out in
          let o = S.keeps.each place there at in
          let a = number_at operations there.number o.0 o.1 in
          let here = numbered_at operations there.number one.place one.operation one.here one.numbered_so in
          let chosen_so : choice (1 + a.0) o.0 ≡ true = ap (λ n. choice n o.0) (sym a.1)
          ∙ (A.chosen there.number o.0 o.2 ∙ (ap test (sym o.3) ∙ is)) in
          let complete = chosen_complete choice 1 operations a.0 o.0 all a.2 chosen_so in
          absurd (none request (sym (complete_none to slot o.0 complete)
          ∙ (ap (requests_of to slot) (same_Some _ _ (sym o.1 ∙ here)) ∙ one.one))))
    ]
