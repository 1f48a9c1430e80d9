-- What a test finds among the records, it finds among the operations chosen.
use Rattle.std.proofs.Common.{◌≡◌, inl, inr, ℕ, zero, suc, ◌+◌, ◌≤◌, ◌==◌, Bool, true, false, true≢false, not, ◌&&◌}
use Rattle.std.proofs.Common.{◌||◌, List, [], ◌∷◌, Option, None, Some, length, refl, sym, ap, ap₂, ◌∙◌, arith, eqb}
use Rattle.std.proofs.Common.{nat_lt, lt-ltb, le-ltb}
use Rattle.std.specs.List.{slice_get, list_any, list_all}
use Rattle.std.proofs.lemmas.Bool.{cases_Bool, cases_lt, and_parts, and_from, not-true}
use Rattle.std.proofs.lemmas.Option.{same_Some}
use Rattle.part_transfers.specs.declared.table.OperationRecord.{OperationRecord}
use Rattle.part_transfers.specs.declared.table.Pick.TheVariants as pick
use Rattle.part_transfers.specs.declared.table.Check.{Check}
use Rattle.part_transfers.specs.declared.table.Check.TheVariants.{Any, Others, Unissued, Unfinished, Open}
use Rattle.part_transfers.specs.declared.operation.ImplicitKinds.{ImplicitKinds}
use Rattle.part_transfers.specs.declared.operation.Synced.TheVariants.{Ok}
use Rattle.part_transfers.specs.Operation.{Operation, SentChunk, returned_of, has_next, is_complete, target}
use Rattle.part_transfers.specs.Syncs.{Choice, chosen, members, in_region, is_name, is_empty, is_other, implicit_of}
use Rattle.part_transfers.specs.Syncs.{members_answer}
use Rattle.part_transfers.specs.Table.{on_place, fits_pick, passes, has_passing, is_unissued, has_unissued_to}
use Rattle.part_transfers.specs.Stands.{record_of, Keeps, Agrees, member_in}
use Rattle.part_transfers.proofs.Tests.{same_test, any_at, any_from}
use Rattle.part_transfers.proofs.Counts.{number_at}

pub chosen_at : (choice : Choice) (test : Operation → Bool) (number : ℕ) (operations : List Operation)
    → list_any test (chosen choice number operations) ≡ true
    → (place : ℕ) × (operation : Operation) × (slice_get operations place ≡ Some operation)
    × (choice (number + place) operation ≡ true) × (test operation ≡ true)
chosen_at choice test number [] any = absurd (true≢false (sym any))
chosen_at choice test number (first ∷ operations) any = elim (cases_Bool (choice number first)) [
  | inl is ↦ elim (cases_Bool (test first)) [
    | inl passes ↦ (0, first, refl, ap (λ n. choice n first) (omega arith) ∙ is, passes)
    | inr isnt ↦ later (chosen_at choice test (suc number) operations (rw (is, isnt) at any))
  ]
  | inr isnt ↦ later (chosen_at choice test (suc number) operations (rw isnt at any))
]
  where
    later : ((place : ℕ) × (operation : Operation) × (slice_get operations place ≡ Some operation)
        × (choice (suc number + place) operation ≡ true) × (test operation ≡ true))
        → (place : ℕ) × (operation : Operation) × (slice_get (first ∷ operations) place ≡ Some operation)
        × (choice (number + place) operation ≡ true) × (test operation ≡ true)
    later it = (suc it.0, it.1, it.2, ap (λ n. choice n it.1) (omega arith) ∙ it.3, it.4)

pub chosen_from : (choice : Choice) (test : Operation → Bool) (number : ℕ) (operations : List Operation) (place : ℕ)
    (operation : Operation)
    → slice_get operations place ≡ Some operation
    → choice (number + place) operation ≡ true → test operation ≡ true
    → list_any test (chosen choice number operations) ≡ true
chosen_from choice test number [] place operation at is passes = absurd (cc)
chosen_from choice test number (first ∷ operations) zero operation at is passes =
    let same : first ≡ operation = same_Some _ _ at in
    let here : choice number first ≡ true =
    ap (choice number) same ∙ (ap (λ n. choice n operation) (omega arith) ∙ is) in
    rw (here, ap test same ∙ passes) refl
chosen_from choice test number (first ∷ operations) (suc place) operation at is passes =
    let later = chosen_from choice test (suc number) operations place operation at
    (ap (λ n. choice n operation) (omega arith) ∙ is) passes in
    elim (cases_Bool (choice number first)) [
      | inl here ↦ rw here (elim (cases_Bool (test first)) [ inl does ↦ rw does refl | inr isnt ↦ rw isnt later ])
      | inr isnt ↦ rw isnt later
    ]

-- a test of the operations chosen, and a test of the records picked
pub any_is : (places : List (Option OperationRecord)) (operations : List Operation) (choice : Choice) (pick : OperationRecord → Bool)
    (test : Operation → Bool) (check : OperationRecord → Bool)
    → Keeps places operations → Agrees choice pick
    → ((number : ℕ) (operation : Operation) → test operation ≡ check (record_of number operation))
    → list_any (on_place (λ there. pick there && check there)) places ≡ list_any test (chosen choice 1 operations)
any_is places operations choice pick test check K A alike = same_test _ _ forth back
  where
    in_place : (there : Option OperationRecord) → on_place (λ r. pick r && check r) there ≡ true
        → (r : OperationRecord) × (there ≡ Some r) × (pick r ≡ true) × (check r ≡ true)
    in_place None is = absurd (true≢false (sym is))
    in_place (Some r) is = let both = and_parts (pick r) (check r) is in (r, refl, both.0, both.1)

    forth : list_any (on_place (λ r. pick r && check r)) places ≡ true
        → list_any test (chosen choice 1 operations) ≡ true
    forth any =
        let p = any_at (on_place (λ r. pick r && check r)) places any in
        let r = in_place p.1 p.3 in
        let o = K.each p.0 r.0 (p.2 ∙ ap Some r.1) in
        let a = number_at operations r.0.number o.0 o.1 in
        chosen_from choice test 1 operations a.0 o.0 a.2 (ap (λ n. choice n o.0) (sym a.1)
        ∙ (A.chosen r.0.number o.0 o.2 ∙ (ap pick (sym o.3) ∙ r.2)))
        (alike r.0.number o.0 ∙ (ap check (sym o.3) ∙ r.3))

    back : list_any test (chosen choice 1 operations) ≡ true
        → list_any (on_place (λ r. pick r && check r)) places ≡ true
    back any =
        let o = chosen_at choice test 1 operations any in
        let one : 1 + o.0 ≡ suc o.0 = omega arith in
        let goes : choice (suc o.0) o.1 ≡ true = ap (λ n. choice n o.1) (sym one) ∙ o.3 in
        let open_now = A.open_only (suc o.0) o.1 goes in
        let p = K.all (suc o.0) o.1 o.2 open_now in
        any_from (on_place (λ r. pick r && check r)) places p.0 (Some (record_of (suc o.0) o.1)) p.1
        (and_from _ _ (sym (A.chosen (suc o.0) o.1 open_now) ∙ goes) (sym (alike (suc o.0) o.1) ∙ o.4))

-- ---- which records are picked

region_agrees : (handle : ℕ) → Agrees (in_region handle) (fits_pick (pick.Region handle))
region_agrees handle = record {
  chosen = λ number operation stands. rw stands refl;
  open_only = λ number operation is. not-true operation.synced
      (and_parts (not operation.synced) (is_name handle operation.region) is).0;
}

or_parts : (one other : Bool) → (one || other) ≡ false → (one ≡ false) × (other ≡ false)
or_parts true other is = absurd (true≢false is)
or_parts false other is = (refl, is)

flipped : (operations : List Operation)
    → list_any (λ (operation : Operation). true) operations ≡ not (is_empty operations)
flipped [] = refl
flipped (operation ∷ operations) = refl

-- whether some record is picked at all
pub any_there : (places : List (Option OperationRecord)) (operations : List Operation) (choice : Choice)
    (test : OperationRecord → Bool)
    → Keeps places operations → Agrees choice test
    → has_passing test Any places ≡ not (is_empty (chosen choice 1 operations))
any_there places operations choice test K A =
    any_is places operations choice test (λ operation. true) (passes Any) K A (λ number operation. refl)
    ∙ flipped (chosen choice 1 operations)

pub and_true : (test : Bool) → (test && true) ≡ test
and_true true = refl
and_true false = refl

pub any_plain : (test : OperationRecord → Bool) (places : List (Option OperationRecord))
    → list_any (on_place (λ there. test there && true)) places ≡ list_any (on_place test) places
any_plain test [] = refl
any_plain test (None ∷ places) = any_plain test places
any_plain test (Some there ∷ places) =
    ap₂ (λ first later. first || later) (and_true (test there)) (any_plain test places)

region_is : (places : List (Option OperationRecord)) (operations : List Operation) (handle : ℕ) → Keeps places operations
    → list_any (on_place (fits_pick (pick.Region handle))) places ≡ not (is_empty (chosen (in_region handle) 1 operations))
region_is places operations handle K =
    sym (any_plain (fits_pick (pick.Region handle)) places)
    ∙ any_there places operations (in_region handle) (fits_pick (pick.Region handle)) K (region_agrees handle)

pub members_agree : (places : List (Option OperationRecord)) (operations : List Operation) (handle : ℕ)
    → Keeps places operations → Agrees (members handle operations) (member_in places handle)
members_agree places operations handle K = elim (cases_Bool (is_empty (chosen (in_region handle) 1 operations))) [
  | inl none ↦ record {
    chosen = λ number operation stands. rw (region_is places operations handle K, none, stands) refl;
    open_only = λ number operation goes. not-true operation.synced
        (and_parts (not operation.synced) (eqb number handle) (rw none at goes)).0;
  }
  | inr some ↦ record {
    chosen = λ number operation stands. rw (region_is places operations handle K, some, stands) refl;
    open_only = λ number operation goes. (region_agrees handle).open_only number operation (rw some at goes);
  }
]

-- a test in the place of an equal one
pub agrees_by : (choice : Choice) (test other : OperationRecord → Bool)
    → ((there : OperationRecord) → other there ≡ test there) → Agrees choice test → Agrees choice other
agrees_by choice test other same A = record {
  chosen = λ number operation stands. A.chosen number operation stands ∙ sym (same (record_of number operation));
  open_only = A.open_only;
}

pub passing_by : (test other : OperationRecord → Bool) (check : Check) (places : List (Option OperationRecord))
    → ((there : OperationRecord) → test there ≡ other there)
    → has_passing test check places ≡ has_passing other check places
passing_by test other check [] same = refl
passing_by test other check (None ∷ places) same = passing_by test other check places same
passing_by test other check (Some there ∷ places) same =
    ap₂ (λ holds later. (holds && passes check there) || later) (same there) (passing_by test other check places same)

pub implicit_agree : (thread : ℕ) (which : ImplicitKinds)
    → Agrees (implicit_of thread which) (fits_pick (pick.Implicit thread which))
implicit_agree thread which = record {
  chosen = λ number operation stands. rw stands refl;
  open_only = λ number operation goes. not-true operation.synced (and_parts (not operation.synced) _ goes).0;
}

-- what is settled is all the thread's own, and complete
others_open : (thread : ℕ) (there : OperationRecord) → passes (Open thread) there ≡ false
    → passes (Others thread) there ≡ false
others_open thread there is = elim (cases_Bool (passes (Others thread) there)) [
  | inl other ↦ absurd (true≢false (sym (rw other refl) ∙ is))
  | inr own ↦ own
]

unfinished_open : (thread : ℕ) (there : OperationRecord) → passes (Open thread) there ≡ false
    → passes Unfinished there ≡ false
unfinished_open thread there is = elim (cases_Bool (passes (Others thread) there)) [
  | inl other ↦ absurd (true≢false (sym (rw other refl) ∙ is))
  | inr own ↦ rw own at is
]

-- where none passes that asks less, none passes
none_weaker : (test : OperationRecord → Bool) (check weaker : Check) (places : List (Option OperationRecord))
    → ((there : OperationRecord) → passes weaker there ≡ false → passes check there ≡ false)
    → has_passing test weaker places ≡ false → has_passing test check places ≡ false
none_weaker test check weaker [] less none = refl
none_weaker test check weaker (None ∷ places) less none = none_weaker test check weaker places less none
none_weaker test check weaker (Some there ∷ places) less none =
    let parts = or_parts (test there && passes weaker there) (has_passing test weaker places) none in
    let later = none_weaker test check weaker places less parts.1 in
    elim (cases_Bool (test there)) [
      | inr isnt ↦ rw isnt later
      | inl is ↦ (let fails = less there (rw is at parts.0) in rw (is, fails) later)
    ]

pub no_others : (test : OperationRecord → Bool) (thread : ℕ) (places : List (Option OperationRecord))
    → has_passing test (Open thread) places ≡ false → has_passing test (Others thread) places ≡ false
no_others test thread places none = none_weaker test (Others thread) (Open thread) places (others_open thread) none

pub none_unfinished : (test : OperationRecord → Bool) (thread : ℕ) (places : List (Option OperationRecord))
    → has_passing test (Open thread) places ≡ false → has_passing test Unfinished places ≡ false
none_unfinished test thread places none = none_weaker test Unfinished (Open thread) places (unfinished_open thread) none

-- ---- complete

count_le : (sent : List SentChunk) → returned_of sent ≤ length sent
count_le [] = omega arith
count_le (one ∷ sent) = let later = count_le sent in
    elim (cases_Bool one.back) [ inl is ↦ rw is (omega (arith, later)) | inr isnt ↦ rw isnt (omega (arith, later)) ]

shifted : (one other : ℕ) → nat_lt one other ≡ nat_lt (1 + one) (suc other)
shifted one other = elim (cases_lt one other) [
  | inl less ↦ lt-ltb one other less ∙ sym (lt-ltb (1 + one) (suc other) (omega (arith, less)))
  | inr less ↦ le-ltb one other less ∙ sym (le-ltb (1 + one) (suc other) (omega (arith, less)))
]

all_back : (sent : List SentChunk) → not (list_all (λ (one : SentChunk). one.back) sent) ≡ nat_lt (returned_of sent) (length sent)
all_back [] = refl
all_back (one ∷ sent) = let later = all_back sent in elim (cases_Bool one.back) [
  | inl is ↦ rw is (later ∙ shifted (returned_of sent) (length sent))
  | inr isnt ↦
      rw isnt (let less = count_le sent in
      sym (lt-ltb (0 + returned_of sent) (suc (length sent)) (omega (arith, less))))
]

pub unfinished_is : (number : ℕ) (operation : Operation)
    → not (is_complete operation) ≡ passes Unfinished (record_of number operation)
unfinished_is number operation = elim (cases_Bool (has_next operation)) [
  | inl is ↦ rw is refl
  | inr isnt ↦ rw isnt (all_back operation.sent)
]

pub all_not_any : (operations : List Operation)
    → list_all is_complete operations ≡ not (list_any (λ operation. not (is_complete operation)) operations)
all_not_any [] = refl
all_not_any (operation ∷ operations) = let later = all_not_any operations in
    elim (cases_Bool (is_complete operation)) [ inl is ↦ rw is later | inr isnt ↦ rw isnt refl ]

-- the looks of a sync
pub others_is : (places : List (Option OperationRecord)) (operations : List Operation) (choice : Choice)
    (test : OperationRecord → Bool) (thread : ℕ)
    → Keeps places operations → Agrees choice test
    → has_passing test (Others thread) places ≡ list_any (is_other thread) (chosen choice 1 operations)
others_is places operations choice test thread K A =
    any_is places operations choice test (is_other thread) (passes (Others thread)) K A (λ number operation. refl)

pub complete_is : (places : List (Option OperationRecord)) (operations : List Operation) (choice : Choice)
    (test : OperationRecord → Bool)
    → Keeps places operations → Agrees choice test
    → list_all is_complete (chosen choice 1 operations) ≡ not (has_passing test Unfinished places)
complete_is places operations choice test K A =
    all_not_any (chosen choice 1 operations)
    ∙ ap not (sym
    (any_is places operations choice test (λ operation. not (is_complete operation))
    (passes Unfinished) K A unfinished_is))

pub unissued_is : (places : List (Option OperationRecord)) (operations : List Operation) (choice : Choice)
    (test : OperationRecord → Bool)
    → Keeps places operations → Agrees choice test
    → has_passing test Unissued places ≡ list_any has_next (chosen choice 1 operations)
unissued_is places operations choice test K A =
    any_is places operations choice test has_next (passes Unissued) K A (λ number operation. refl)

pub to_is : (places : List (Option OperationRecord)) (operations : List Operation) (choice : Choice) (test : OperationRecord → Bool)
    (node : ℕ)
    → Keeps places operations → Agrees choice test
    → has_unissued_to test node places
    ≡ list_any (λ operation. has_next operation && (target operation.transfer == node)) (chosen choice 1 operations)
to_is places operations choice test node K A =
    any_is places operations choice test (λ operation. has_next operation && (target operation.transfer == node))
    (λ there. is_unissued there && (target there.transfer == node)) K A (λ number operation. refl)

-- ---- a sync of what is settled

pub settled_complete : (places : List (Option OperationRecord)) (operations : List Operation) (choice : Choice)
    (test : OperationRecord → Bool) (thread : ℕ)
    → Keeps places operations → Agrees choice test
    → (has_passing test Any places && not (has_passing test (Open thread) places)) ≡ true
    → list_all is_complete (chosen choice 1 operations) ≡ true
settled_complete places operations choice test thread K A settled =
    let parts = and_parts (has_passing test Any places) (not (has_passing test (Open thread) places)) settled in
    complete_is places operations choice test K A
    ∙ ap not (none_unfinished test thread places (not-true (has_passing test (Open thread) places) parts.1))

pub settled_answer : (places : List (Option OperationRecord)) (operations : List Operation) (choice : Choice)
    (test : OperationRecord → Bool) (exhausted : ℕ → Bool) (thread : ℕ)
    → Keeps places operations → Agrees choice test
    → (has_passing test Any places && not (has_passing test (Open thread) places)) ≡ true
    → Ok ≡ members_answer exhausted thread (chosen choice 1 operations)
settled_answer places operations choice test exhausted thread K A settled =
    let parts = and_parts (has_passing test Any places) (not (has_passing test (Open thread) places)) settled in
    let there = any_there places operations choice test K A in
    let others = others_is places operations choice test thread K A in
    rw (
      not-true (is_empty (chosen choice 1 operations)) (sym there ∙ parts.0),
      sym others ∙ no_others test thread places (not-true (has_passing test (Open thread) places) parts.1),
      settled_complete places operations choice test thread K A settled,
    ) refl
