-- What the list of all says of the records.
use Rattle.std.proofs.Common.{◌≡◌, ◌⊎◌, inl, inr, ℕ, ◌+◌, ◌<◌, ◌≤◌, Bool, true, false, true≢false, ◌||◌, List, Option, Some, None}
use Rattle.std.proofs.Common.{length, set, refl, sym, ap, ◌∙◌, arith}
use Rattle.std.specs.List.{slice_get, list_any}
use Rattle.std.proofs.lemmas.Bool.{cases_Bool, cases_eq}
use Rattle.std.proofs.lemmas.List.{length-set}
use Rattle.std.proofs.lemmas.Option.{same_Some, slice_get_within}
use Rattle.base_lists.proofs.Indexes.{get-set_same, get-set_other}
use Rattle.part_transfers.specs.declared.table.OperationRecord.{OperationRecord}
use Rattle.part_transfers.specs.declared.queue.Queued.{Queued}
use Rattle.part_transfers.specs.Queue.{Queues}
use Rattle.part_transfers.specs.Table.{flat, on_place, stands_by, stands_at, also, AreMarks}
use Rattle.part_transfers.proofs.Tests.{any_from, none_picked}

-- the entry of a record
pub entry_of : (places : List (Option OperationRecord)) (standing : List Queued) (place : ℕ) (there : OperationRecord)
    → Queues (stands_at places) standing → slice_get places place ≡ Some (Some there)
    → (index : ℕ) × (slice_get standing index ≡ Some (record { number = there.number; place = place }))
entry_of places standing place there Q at = Q.all place there.number (ap (λ found. stands_by (flat found)) at)

-- the record of an entry
pub record_of : (places : List (Option OperationRecord)) (standing : List Queued) (index : ℕ) (entry : Queued)
    → Queues (stands_at places) standing → slice_get standing index ≡ Some entry
    → (there : OperationRecord) × (slice_get places entry.place ≡ Some (Some there)) × (there.number ≡ entry.number)
record_of places standing index entry Q at = by (slice_get places entry.place) refl (Q.each index entry at)
  where
    never : (number : ℕ) → ◌≡◌ {A = Option ℕ} None (Some number) → ⊥
    never number is = cc

    by : (found : Option (Option OperationRecord)) → slice_get places entry.place ≡ found
        → stands_by (flat found) ≡ Some entry.number
        → (there : OperationRecord) × (slice_get places entry.place ≡ Some (Some there))
        × (there.number ≡ entry.number)
    by None here is = absurd (never entry.number is)
    by (Some None) here is = absurd (never entry.number is)
    by (Some (Some there)) here is = (there, here, same_Some there.number entry.number is)

-- ---- a search

-- of the entries from one up to another none has a record of which the test of its place holds
abbrev pub NoneOf : (ℕ → OperationRecord → Bool) → List (Option OperationRecord) → List Queued → (from end : ℕ) → Type 0
NoneOf test places standing from end =
    (index : ℕ) (entry : Queued) (there : OperationRecord) → from ≤ index → index < end
    → slice_get standing index ≡ Some entry → slice_get places entry.place ≡ Some (Some there)
    → test entry.place there ≡ false

-- one more
pub none_more : (test : ℕ → OperationRecord → Bool) (places : List (Option OperationRecord)) (standing : List Queued)
    (from end : ℕ) (entry : Queued) (place : Option OperationRecord)
    → slice_get standing end ≡ Some entry → slice_get places entry.place ≡ Some place
    → on_place (test entry.place) place ≡ false → NoneOf test places standing from end
    → NoneOf test places standing from (end + 1)
none_more test places standing from end entry place at here fails known index other there low high at_other here_other =
    elim (cases_eq index end) [
      | inl same ↦ (
          let is : entry ≡ other = same_Some entry other (sym at ∙ (ap (slice_get standing) (sym same) ∙ at_other)) in
          let there_is : place ≡ Some there = same_Some place (Some there)
          (sym here ∙ (ap (λ (y : Queued). slice_get places y.place) is ∙ here_other)) in
          ap (λ (y : Queued). test y.place there) (sym is)
          ∙ (ap (on_place (test entry.place)) (sym there_is) ∙ fails))
      | inr apart ↦ known index other there low (omega (arith, high, apart)) at_other here_other
    ]

-- where none of them passes, no record does of which the test holds
pub none_stands : (test : OperationRecord → Bool) (by_place : ℕ → OperationRecord → Bool)
    (places : List (Option OperationRecord)) (standing : List Queued) (from end : ℕ)
    → Queues (stands_at places) standing
    → ((index : ℕ) (entry : Queued) (there : OperationRecord) → slice_get standing index ≡ Some entry
    → there.number ≡ entry.number → test there ≡ true → (from ≤ index) × (index < end))
    → ((place : ℕ) (there : OperationRecord) → slice_get places place ≡ Some (Some there)
    → by_place place there ≡ test there)
    → NoneOf by_place places standing from end → list_any (on_place test) places ≡ false
none_stands test by_place places standing from end Q inside same none = none_picked (on_place test) places each
  where
    each : (place : ℕ) (there : Option OperationRecord) → slice_get places place ≡ Some there
        → on_place test there ≡ false
    each place None at = refl
    each place (Some there) at = elim (cases_Bool (test there)) [
      | inr fails ↦ fails
      | inl holds ↦ (
          let found = entry_of places standing place there Q at in
          let entry : Queued = record { number = there.number; place = place } in
          let spot = inside found.0 entry there found.1 refl holds in
          sym (same place there at) ∙ none found.0 entry there spot.0 spot.1 found.1 at)
    ]

-- whether one of the entries from one up to another has a record of which the test holds
pub record Tells (test : OperationRecord → Bool) (places : List (Option OperationRecord)) (standing : List Queued)
    (from end : ℕ) (flag : Bool) : Type 0 where
  pub some : flag ≡ true → list_any (on_place test) places ≡ true
  pub none : flag ≡ false → NoneOf (λ place. test) places standing from end

pub tells_none : (test : OperationRecord → Bool) (places : List (Option OperationRecord)) (standing : List Queued)
    (from : ℕ) → Tells test places standing from from false
tells_none test places standing from = record {
  some = λ is. absurd (true≢false (sym is));
  none = λ is index entry there low high at here. absurd (omega (arith, low, high));
}

pub tells_more : (test : OperationRecord → Bool) (places : List (Option OperationRecord)) (standing : List Queued)
    (from end : ℕ) (flag : Bool) (entry : Queued) (place : Option OperationRecord)
    → Tells test places standing from end flag → slice_get standing end ≡ Some entry
    → slice_get places entry.place ≡ Some place
    → Tells test places standing from (end + 1) (flag || on_place test place)
tells_more test places standing from end true entry place T at here = record {
  some = λ is. T.some refl;
  none = λ is. absurd (true≢false is);
}
tells_more test places standing from end false entry place T at here = record {
  some = λ is. any_from (on_place test) places entry.place place here is;
  none = λ is. none_more (λ spot. test) places standing from end entry place at here is (T.none refl);
}

pub tells_all : (test : OperationRecord → Bool) (places : List (Option OperationRecord)) (standing : List Queued)
    (from end : ℕ) (flag : Bool)
    → Queues (stands_at places) standing
    → ((index : ℕ) (entry : Queued) (there : OperationRecord) → slice_get standing index ≡ Some entry
    → there.number ≡ entry.number → test there ≡ true → (from ≤ index) × (index < end))
    → Tells test places standing from end flag → flag ≡ list_any (on_place test) places
tells_all test places standing from end true Q inside T = sym (T.some refl)
tells_all test places standing from end false Q inside T =
    sym (none_stands test (λ place. test) places standing from end Q inside (λ place there at. refl) (T.none refl))

-- ---- marks

-- a place has the mark that it had, or is marked besides where the test holds, as those of the entries from one up to
-- another are
pub record IsMarking (test : OperationRecord → Bool) (places : List (Option OperationRecord)) (standing : List Queued)
    (old new : List Bool) (from end : ℕ) : Type 0 where
  pub many : length new ≡ length old
  pub some : (place : ℕ) (mark : Bool) → slice_get old place ≡ Some mark
      → (slice_get new place ≡ Some mark)
      ⊎ (slice_get new place ≡ Some (mark || on_place test (flat (slice_get places place))))
  pub those : (index : ℕ) (entry : Queued) (mark : Bool) → from ≤ index → index < end
      → slice_get standing index ≡ Some entry → slice_get old entry.place ≡ Some mark
      → slice_get new entry.place ≡ Some (mark || on_place test (flat (slice_get places entry.place)))

twice : (mark other : Bool) → ((mark || other) || other) ≡ (mark || other)
twice true other = refl
twice false true = refl
twice false false = refl

pub mark_more : (test : OperationRecord → Bool) (places : List (Option OperationRecord)) (standing : List Queued)
    (old new : List Bool) (from end : ℕ) (entry : Queued) (mark : Bool) (place : Option OperationRecord)
    → IsMarking test places standing old new from end → slice_get standing end ≡ Some entry
    → slice_get new entry.place ≡ Some mark → slice_get places entry.place ≡ Some place
    → IsMarking test places standing old (set new entry.place (mark || on_place test place)) from (end + 1)
mark_more test places standing old new from end entry mark place M at here there = record {
  many = length-set new entry.place (mark || on_place test place) ∙ M.many;
  some = some;
  those = those;
}
  where
    now : List Bool
    now = set new entry.place (mark || on_place test place)

    -- the place of the entry
    marked : (was : Bool) → slice_get old entry.place ≡ Some was
        → slice_get now entry.place ≡ Some (was || on_place test (flat (slice_get places entry.place)))
    marked was before =
        let on : on_place test place ≡ on_place test (flat (slice_get places entry.place)) =
        ap (λ found. on_place test (flat found)) (sym there) in
        get-set_same new entry.place (mark || on_place test place) (slice_get_within new entry.place mark here)
        ∙ (ap (λ x. Some (mark || x)) on ∙ elim (M.some entry.place was before) [
          | inl same ↦ ap (λ x. Some (x || on_place test (flat (slice_get places entry.place))))
              (same_Some mark was (sym here ∙ same))
          | inr same ↦ ap (λ x. Some (x || on_place test (flat (slice_get places entry.place))))
              (same_Some mark (was || on_place test (flat (slice_get places entry.place))) (sym here ∙ same))
              ∙ ap Some (twice was (on_place test (flat (slice_get places entry.place))))
        ])

    some : (spot : ℕ) (was : Bool) → slice_get old spot ≡ Some was
        → (slice_get now spot ≡ Some was)
        ⊎ (slice_get now spot ≡ Some (was || on_place test (flat (slice_get places spot))))
    some spot was before = elim (cases_eq spot entry.place) [
      | inl same ↦ inr (ap (slice_get now) same
          ∙ (marked was (ap (slice_get old) (sym same) ∙ before)
          ∙ ap (λ n. Some (was || on_place test (flat (slice_get places n)))) (sym same)))
      | inr apart ↦ (
          let stays = get-set_other new entry.place (mark || on_place test place) spot apart in
          elim (M.some spot was before) [ inl is ↦ inl (stays ∙ is) | inr is ↦ inr (stays ∙ is) ])
    ]

    those : (index : ℕ) (other : Queued) (was : Bool) → from ≤ index → index < end + 1
        → slice_get standing index ≡ Some other → slice_get old other.place ≡ Some was
        → slice_get now other.place ≡ Some (was || on_place test (flat (slice_get places other.place)))
    those index other was low high at_other before = elim (cases_eq other.place entry.place) [
      | inl same ↦ ap (slice_get now) same
          ∙ (marked was (ap (slice_get old) (sym same) ∙ before)
          ∙ ap (λ n. Some (was || on_place test (flat (slice_get places n)))) (sym same))
      | inr apart ↦ elim (cases_eq index end) [
        | inl last ↦ absurd (apart (ap (λ (y : Queued). y.place)
            (same_Some other entry (sym at_other ∙ (ap (slice_get standing) last ∙ at)))))
        | inr before_it ↦ get-set_other new entry.place (mark || on_place test place) other.place apart
            ∙ M.those index other was low (omega (arith, high, before_it)) at_other before
      ]
    ]

unmarked : (mark : Bool) → (mark || false) ≡ mark
unmarked true = refl
unmarked false = refl

-- all records of which the test holds are marked besides
pub marked_all : (test other : OperationRecord → Bool) (places : List (Option OperationRecord)) (standing : List Queued)
    (old new : List Bool) (from end : ℕ)
    → Queues (stands_at places) standing → AreMarks test places old
    → ((index : ℕ) (entry : Queued) (there : OperationRecord) → slice_get standing index ≡ Some entry
    → there.number ≡ entry.number → other there ≡ true → (from ≤ index) × (index < end))
    → IsMarking other places standing old new from end → AreMarks (also test other) places new
marked_all test other places standing old new from end Q A inside M = record {
  many = M.many ∙ A.many;
  each = λ place less. by place (slice_get places place) refl (A.each place less);
}
  where
    -- a place where the test doesn't hold
    stays : (place : ℕ) (mark : Bool) → slice_get old place ≡ Some mark
        → on_place other (flat (slice_get places place)) ≡ false → slice_get new place ≡ Some mark
    stays place mark before fails = elim (M.some place mark before) [
      | inl same ↦ same
      | inr same ↦ same ∙ ap Some (ap (λ x. mark || x) fails ∙ unmarked mark)
    ]

    by : (place : ℕ) (found : Option (Option OperationRecord)) → slice_get places place ≡ found
        → slice_get old place ≡ Some (on_place test (flat (slice_get places place)))
        → slice_get new place ≡ Some (on_place (also test other) (flat (slice_get places place)))
    by place None is before = rw is (stays place false (rw is at before) (rw is refl))
    by place (Some None) is before = rw is (stays place false (rw is at before) (rw is refl))
    by place (Some (Some there)) is before = elim (cases_Bool (other there)) [
      | inl holds ↦ (
          let found = entry_of places standing place there Q is in
          let entry : Queued = record { number = there.number; place = place } in
          let spot = inside found.0 entry there found.1 refl holds in
          let marked = M.those found.0 entry (test there) spot.0 spot.1 found.1 (rw is at before) in
          rw is (rw is at marked))
      | inr fails ↦ (
          let kept = stays place (test there) (rw is at before) (rw is fails) in
          rw (is, fails) (kept ∙ ap Some (sym (unmarked (test there)))))
    ]
