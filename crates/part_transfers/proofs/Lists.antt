-- Syncs of lists of handles.
use Rattle.std.proofs.Common.{◌≡◌, inl, inr, ℕ, zero, suc, ◌+◌, ◌==◌, Bool, true, false, true≢false, not, ◌&&◌, ◌||◌}
use Rattle.std.proofs.Common.{List, [], ◌∷◌, Option, None, Some, take, length, get_or, ◌<◌, refl, sym, ap, ap₂, ◌∙◌}
use Rattle.std.proofs.Common.{arith}
use Rattle.std.specs.List.{slice_get, list_any}
use Rattle.std.proofs.lemmas.Bool.{cases_Bool, and_parts}
use Rattle.std.proofs.lemmas.Option.{same_Some}
use Rattle.part_transfers.specs.declared.table.OperationRecord.{OperationRecord}
use Rattle.part_transfers.specs.declared.operation.Handle.{Handle}
use Rattle.part_transfers.specs.Operation.{Operation}
use Rattle.std.specs.Option.{option_or}
use Rattle.part_transfers.specs.declared.operation.Synced.{Synced}
use Rattle.part_transfers.specs.declared.operation.Synced.TheVariants as synced
use Rattle.part_transfers.specs.declared.transfers.Transfers.{Transfers}
use Rattle.part_transfers.specs.Syncs.{Choice, chosen, is_empty, is_other, members, members_of, fault_of, fault_here, left_by}
use Rattle.part_transfers.specs.Stands.{record_of, Keeps, Stands, Agrees, member_of_any}
use Rattle.part_transfers.proofs.Members.{members_agree}

any_next : {X : Type 0} (test : X → Bool) (xs : List X) (index : ℕ) (x : X) → slice_get xs index ≡ Some x
    → list_any test (take (suc index) xs) ≡ (list_any test (take index xs) || test x)
any_next test [] index x at = absurd (cc)
any_next test (first ∷ xs) zero x at = or_none (test first) ∙ ap test (same_Some first x at)
  where
    or_none : (one : Bool) → (one || false) ≡ one
    or_none true = refl
    or_none false = refl
any_next test (first ∷ xs) (suc index) x at = let later = any_next test xs index x at in
    elim (cases_Bool (test first)) [ inl is ↦ rw is refl | inr isnt ↦ rw isnt later ]

pub any_take : {X : Type 0} (test : X → Bool) (xs : List X) (index : ℕ) (x : X) → slice_get xs index ≡ Some x
    → list_any test (take (index + 1) xs) ≡ (list_any test (take index xs) || test x)
any_take test xs index x at = let same : index + 1 ≡ suc index = omega arith in
    ap (λ n. list_any test (take n xs)) same ∙ any_next test xs index x at

pub or_assoc : (one two three : Bool) → ((one || two) || three) ≡ (one || (two || three))
or_assoc true two three = refl
or_assoc false two three = refl

pub any_agrees : (places : List (Option OperationRecord)) (operations : List Operation) (handles : List Handle)
    → Keeps places operations → Agrees (members_of handles operations) (member_of_any places handles)
any_agrees places operations handles K = record { chosen = chosen_so handles; open_only = open_so handles }
  where
    chosen_so : (hs : List Handle) (number : ℕ) (operation : Operation) → operation.synced ≡ false
        → members_of hs operations number operation ≡ member_of_any places hs (record_of number operation)
    chosen_so [] number operation stands = refl
    chosen_so (handle ∷ hs) number operation stands =
        ap₂ (λ here later. (not (handle.serial == 0) && here) || later)
        ((members_agree places operations handle.serial K).chosen number operation stands)
        (chosen_so hs number operation stands)

    open_so : (hs : List Handle) (number : ℕ) (operation : Operation) → members_of hs operations number operation ≡ true
        → operation.synced ≡ false
    open_so [] number operation is = absurd (true≢false (sym is))
    open_so (handle ∷ hs) number operation is =
        elim (cases_Bool (not (handle.serial == 0) && members handle.serial operations number operation)) [
          | inl here ↦
              (members_agree places operations handle.serial K).open_only number operation
              (and_parts (not (handle.serial == 0)) (members handle.serial operations number operation) here).1
          | inr isnt ↦ open_so hs number operation (rw isnt at is)
        ]

pub or_false : (one : Bool) → (one || false) ≡ one
or_false true = refl
or_false false = refl

-- a fault is no Ok
not_ok : (thread : ℕ) (operations : List Operation) → fault_here thread operations ≡ Some synced.Ok → ⊥
not_ok thread operations is = elim (cases_Bool (is_empty operations)) [
  | inl none ↦ bad (same_Some synced.BadHandle synced.Ok (rw none at is))
  | inr some ↦ elim (cases_Bool (list_any (is_other thread) operations)) [
    | inl other ↦ worse (same_Some synced.NotYours synced.Ok (rw (some, other) at is))
    | inr own ↦ never (rw (some, own) at is)
  ]
]
  where
    bad : synced.BadHandle ≡ synced.Ok → ⊥
    bad same = cc

    worse : synced.NotYours ≡ synced.Ok → ⊥
    worse same = cc

    never : ◌≡◌ {A = Option Synced} None (Some synced.Ok) → ⊥
    never same = cc

never_ok : (thread : ℕ) (operations : List Operation) (handles : List Handle)
    → fault_of thread operations handles ≡ Some synced.Ok → ⊥
never_ok thread operations [] is = absurd (cc)
never_ok thread operations (handle ∷ later) is = elim (cases_Bool (handle.serial == 0)) [
  | inl invalid ↦ never_ok thread operations later (rw invalid at is)
  | inr valid ↦ here (chosen (members handle.serial operations) 1 operations) (never_ok thread operations later)
      (rw valid at is)
]
  where
    here : (ms : List Operation) → (fault_of thread operations later ≡ Some synced.Ok → ⊥)
        → option_or (fault_here thread ms) (fault_of thread operations later) ≡ Some synced.Ok → ⊥
    here ms rest is = by (fault_here thread ms) refl is
      where
        by : (fault : Option Synced) → fault_here thread ms ≡ fault
            → option_or fault (fault_of thread operations later) ≡ Some synced.Ok → ⊥
        by None none at = rest at
        by (Some fault) some at = not_ok thread ms (some ∙ at)

-- what isn't Ok leaves the operations as they were
left_alone : (table : Transfers) (operations : List Operation) (choice : Choice) (fault : Synced)
    → (fault ≡ synced.Ok → ⊥) → Stands table operations → Stands table (left_by fault choice operations)
left_alone table operations choice synced.Ok isnt S = absurd (isnt refl)
left_alone table operations choice synced.NotReady isnt S = S
left_alone table operations choice synced.NotYours isnt S = S
left_alone table operations choice synced.BadHandle isnt S = S
left_alone table operations choice (synced.Exhausted node) isnt S = S

pub here_stays : (table : Transfers) (operations : List Operation) (thread : ℕ) (members_here : List Operation)
    (choice : Choice) (fault : Synced)
    → fault_here thread members_here ≡ Some fault → Stands table operations
    → Stands table (left_by fault choice operations)
here_stays table operations thread members_here choice fault is S =
    left_alone table operations choice fault (λ ok. not_ok thread members_here (is ∙ ap (λ (x : Synced). Some x) ok)) S

pub fault_stays : (table : Transfers) (operations : List Operation) (thread : ℕ) (handles : List Handle)
    (choice : Choice) (fault : Synced)
    → fault_of thread operations handles ≡ Some fault → Stands table operations
    → Stands table (left_by fault choice operations)
fault_stays table operations thread handles choice fault is S =
    left_alone table operations choice fault
    (λ ok. never_ok thread operations handles (is ∙ ap (λ (x : Synced). Some x) ok)) S

pub at_get : {X : Type 0} (xs : List X) (index : ℕ) (default : X) → index < length xs
    → slice_get xs index ≡ Some (get_or xs index default)
at_get [] index default less = absurd (omega (arith, less))
at_get (first ∷ xs) zero default less = refl
at_get (first ∷ xs) (suc index) default less = at_get xs index default (omega (arith, less))
