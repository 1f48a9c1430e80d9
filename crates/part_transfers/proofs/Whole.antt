-- Those of a list of handles that are complete.
use Rattle.std.proofs.Common.{◌≡◌, inl, inr, ℕ, ◌+◌, ◌==◌, true, false, true≢false, not, ◌&&◌, ◌||◌, List, [], ◌∷◌}
use Rattle.std.proofs.Common.{Option, Some, refl, sym, ap, ap₂, ◌∙◌}
use Rattle.std.specs.List.{slice_get, list_any, list_all}
use Rattle.std.proofs.lemmas.Bool.{cases_Bool, and_parts, not-true}
use Rattle.part_transfers.specs.declared.table.OperationRecord.{OperationRecord}
use Rattle.part_transfers.specs.declared.operation.Handle.{Handle}
use Rattle.part_transfers.specs.Operation.{Operation, is_complete}
use Rattle.part_transfers.specs.Syncs.{chosen, members, is_whole, whole_of}
use Rattle.part_transfers.specs.Stands.{record_of, Keeps, Agrees, member_in, is_whole_in, whole_in}
use Rattle.part_transfers.proofs.Members.{members_agree, complete_is, all_not_any, chosen_at}
use Rattle.part_transfers.proofs.Gone.{chosen_complete}

pub whole_is : (places : List (Option OperationRecord)) (operations : List Operation) (handle : Handle)
    → Keeps places operations → is_whole operations handle ≡ is_whole_in places handle
whole_is places operations handle K =
    ap (λ all. not (handle.serial == 0) && all)
    (complete_is places operations (members handle.serial operations) (member_in places handle.serial) K
    (members_agree places operations handle.serial K))

pub any_whole_is : (places : List (Option OperationRecord)) (operations : List Operation) (handles : List Handle)
    → Keeps places operations → list_any (is_whole operations) handles ≡ list_any (is_whole_in places) handles
any_whole_is places operations [] K = refl
any_whole_is places operations (handle ∷ handles) K =
    ap₂ (λ here later. here || later) (whole_is places operations handle K) (any_whole_is places operations handles K)

pub whole_agrees : (places : List (Option OperationRecord)) (operations : List Operation) (handles : List Handle)
    → Keeps places operations → Agrees (whole_of handles operations) (whole_in places handles)
whole_agrees places operations handles K = record { chosen = chosen_so handles; open_only = open_so handles }
  where
    chosen_so : (hs : List Handle) (number : ℕ) (operation : Operation) → operation.synced ≡ false
        → whole_of hs operations number operation ≡ whole_in places hs (record_of number operation)
    chosen_so [] number operation stands = refl
    chosen_so (handle ∷ hs) number operation stands =
        ap₂ (λ here later. here || later)
        (ap₂ (λ whole member. whole && member) (whole_is places operations handle K)
        ((members_agree places operations handle.serial K).chosen number operation stands))
        (chosen_so hs number operation stands)

    open_so : (hs : List Handle) (number : ℕ) (operation : Operation) → whole_of hs operations number operation ≡ true
        → operation.synced ≡ false
    open_so [] number operation is = absurd (true≢false (sym is))
    open_so (handle ∷ hs) number operation is =
        elim (cases_Bool (is_whole operations handle && members handle.serial operations number operation)) [
          | inl here ↦
              (members_agree places operations handle.serial K).open_only number operation
              (and_parts (is_whole operations handle) (members handle.serial operations number operation) here).1
          | inr isnt ↦ open_so hs number operation (rw isnt at is)
        ]

whole_complete : (operations : List Operation) (handles : List Handle) (place : ℕ) (operation : Operation)
    → slice_get operations place ≡ Some operation → whole_of handles operations (1 + place) operation ≡ true
    → is_complete operation ≡ true
whole_complete operations [] place operation at is = absurd (true≢false (sym is))
whole_complete operations (handle ∷ handles) place operation at is =
    elim (cases_Bool (is_whole operations handle && members handle.serial operations (1 + place) operation)) [
      | inl here ↦ (
          let both = and_parts (is_whole operations handle) (members handle.serial operations (1 + place) operation)
          here in
          let all = (and_parts (not (handle.serial == 0))
          (list_all is_complete (chosen (members handle.serial operations) 1 operations)) both.0).1 in
          chosen_complete (members handle.serial operations) 1 operations place operation all at both.1)
      | inr isnt ↦ whole_complete operations handles place operation at (rw isnt at is)
    ]

-- all that go are complete
pub all_whole : (operations : List Operation) (handles : List Handle)
    → list_all is_complete (chosen (whole_of handles operations) 1 operations) ≡ true
all_whole operations handles =
    elim (cases_Bool
    (list_any (λ operation. not (is_complete operation)) (chosen (whole_of handles operations) 1 operations))) [
      | inl some ↦ (
          let it = chosen_at (whole_of handles operations) (λ operation. not (is_complete operation)) 1 operations
          some in
          absurd (true≢false (sym (whole_complete operations handles it.0 it.1 it.2 it.3)
          ∙ not-true (is_complete it.1) it.4)))
      | inr none ↦ all_not_any (chosen (whole_of handles operations) 1 operations) ∙ ap not none
    ]
