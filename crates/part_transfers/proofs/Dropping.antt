-- The records that are to go, while the list of all is gone through from its end.
use Rattle.std.proofs.Common.{◌≡◌, ◌⊎◌, inl, inr, ℕ, suc, ◌-◌, ◌<◌, ◌≤◌, Bool, true, false, List, Option, Some}
use Rattle.std.proofs.Common.{None, length, set, remove, refl, sym, ap, ◌∙◌, arith, subst}
use Rattle.std.specs.List.{slice_get}
use Rattle.std.proofs.lemmas.Bool.{cases_lt, cases_eq}
use Rattle.std.proofs.lemmas.List.{length-set}
use Rattle.std.proofs.lemmas.List.Edits.{length-remove}
use Rattle.std.proofs.lemmas.Option.{same_Some, slice_get_within}
use Rattle.base_lists.proofs.Indexes.{get-set_same, get-set_other}
use Rattle.slab.specs.Slab.{Slab}
use Rattle.part_transfers.specs.declared.table.OperationRecord.{OperationRecord}
use Rattle.part_transfers.specs.declared.queue.Queued.{Queued}
use Rattle.part_transfers.specs.Table.{unless_picked, AreDropped}
use Rattle.part_transfers.specs.Places.{record_places, IsIndexed}
use Rattle.part_transfers.proofs.Tests.{get_set}
use Rattle.part_transfers.proofs.Edits.{removed_was}
use Rattle.part_transfers.proofs.Standing.{entry_of}

-- a place has what it had, or a record that was to go is gone from it. Of the entries before `from` and of those from
-- `end` on none has a record that is to go.
pub record IsDropping (goes : ℕ → OperationRecord → Bool) (old : List (Option OperationRecord))
    (records : Slab OperationRecord) (queue standing : List Queued) (many from end : ℕ) : Type 0 where
  pub indexed : IsIndexed records queue standing many
  pub within : end ≤ length standing
  pub same : length (record_places records) ≡ length old
  pub some : (place : ℕ) (there : Option OperationRecord) → slice_get old place ≡ Some there
      → (slice_get (record_places records) place ≡ Some there)
      ⊎ ((gone : OperationRecord) × (there ≡ Some gone) × (goes place gone ≡ true)
      × (slice_get (record_places records) place ≡ Some None))
  pub rest : (index : ℕ) (entry : Queued) (there : OperationRecord) → (index < from) ⊎ (end ≤ index)
      → slice_get standing index ≡ Some entry → slice_get (record_places records) entry.place ≡ Some (Some there)
      → goes entry.place there ≡ false

pub dropping_from : (goes : ℕ → OperationRecord → Bool) (old : List (Option OperationRecord))
    (records : Slab OperationRecord) (queue standing : List Queued) (many from end : ℕ)
    → record_places records ≡ old → IsIndexed records queue standing many → end ≤ length standing
    → ((index : ℕ) (entry : Queued) (there : OperationRecord) → (index < from) ⊎ (end ≤ index)
    → slice_get standing index ≡ Some entry → slice_get old entry.place ≡ Some (Some there)
    → goes entry.place there ≡ false)
    → IsDropping goes old records queue standing many from end
dropping_from goes old records queue standing many from end view I within rest = record {
  indexed = I;
  within = within;
  same = ap length view;
  some = λ place there at. inl (ap (λ places. slice_get places place) view ∙ at);
  rest = λ index entry there outside at here. rest index entry there outside at
      (ap (λ places. slice_get places entry.place) (sym view) ∙ here);
}

-- the record of the last entry stays
pub dropping_kept : (goes : ℕ → OperationRecord → Bool) (old : List (Option OperationRecord))
    (records : Slab OperationRecord) (queue standing : List Queued) (many from end : ℕ) (entry : Queued)
    → IsDropping goes old records queue standing many from end → 0 < end
    → slice_get standing (end - 1) ≡ Some entry
    → ((there : OperationRecord) → slice_get (record_places records) entry.place ≡ Some (Some there)
    → goes entry.place there ≡ false)
    → IsDropping goes old records queue standing many from (end - 1)
dropping_kept goes old records queue standing many from end entry D some at stays = record {
  indexed = D.indexed;
  within = (let within = D.within in omega (arith, within));
  same = D.same;
  some = D.some;
  rest = rest;
}
  where
    rest : (index : ℕ) (other : Queued) (there : OperationRecord) → (index < from) ⊎ (end - 1 ≤ index)
        → slice_get standing index ≡ Some other → slice_get (record_places records) other.place ≡ Some (Some there)
        → goes other.place there ≡ false
    rest index other there outside here stands = elim outside [
      | inl before ↦ D.rest index other there (inl before) here stands
      | inr behind ↦ elim (cases_eq index (end - 1)) [
        | inl last ↦ (
            let is : entry ≡ other = same_Some entry other (sym at ∙ (ap (slice_get standing) (sym last) ∙ here)) in
            subst (λ (y : Queued). goes y.place there ≡ false) is
            (stays there (ap (λ (y : Queued). slice_get (record_places records) y.place) is ∙ stands)))
        | inr apart ↦ D.rest index other there (inr (omega (arith, behind, apart, some))) here stands
      ]
    ]

never : (it : OperationRecord) → ◌≡◌ {A = Option OperationRecord} None (Some it) → ⊥
never it is = cc

-- it goes
pub dropping_gone : (goes : ℕ → OperationRecord → Bool) (old : List (Option OperationRecord))
    (records new : Slab OperationRecord) (queue later standing after : List Queued) (many now from end : ℕ)
    (entry : Queued) (gone : OperationRecord)
    → IsDropping goes old records queue standing many from end → from < end
    → slice_get standing (end - 1) ≡ Some entry
    → slice_get (record_places records) entry.place ≡ Some (Some gone) → goes entry.place gone ≡ true
    → IsIndexed new later after now → after ≡ remove standing (end - 1)
    → record_places new ≡ set (record_places records) entry.place None
    → IsDropping goes old new later after now from (end - 1)
dropping_gone goes old records new queue later standing after many now from end entry gone D some at there goes_so I less_one less
    = record {
      indexed = I;
      within = within;
      same = ap length less ∙ (length-set places entry.place None ∙ D.same);
      some = kept;
      rest = rest;
    }
  where
    places : List (Option OperationRecord)
    places = record_places records

    -- what stands in the list without the entry
    was : (index : ℕ) (other : Queued) → slice_get after index ≡ Some other
        → ((index < end - 1) × (slice_get standing index ≡ Some other))
        ⊎ ((end - 1 ≤ index) × (slice_get standing (suc index) ≡ Some other))
    was index other here = removed_was standing (end - 1) index other
        (ap (λ xs. slice_get xs index) (sym less_one) ∙ here)

    within : end - 1 ≤ length after
    within =
        let there_was = slice_get_within standing (end - 1) entry at in
        let many_now = ap length less_one in
        let one_less = length-remove standing (end - 1) there_was in
        let known = D.within in
        omega (arith, there_was, many_now, one_less, known)

    kept : (place : ℕ) (there : Option OperationRecord) → slice_get old place ≡ Some there
        → (slice_get (record_places new) place ≡ Some there)
        ⊎ ((gone : OperationRecord) × (there ≡ Some gone) × (goes place gone ≡ true)
        × (slice_get (record_places new) place ≡ Some None))
    kept place was_there stood = elim (cases_eq place entry.place) [
      | inl same ↦ (
          let blank : slice_get (record_places new) place ≡ Some None =
          ap (λ xs. slice_get xs place) less ∙ (ap (slice_get (set places entry.place None)) same
          ∙ get-set_same places entry.place None (slice_get_within places entry.place (Some gone) there)) in
          elim (D.some place was_there stood) [
            | inl still ↦ (
                let is : was_there ≡ Some gone =
                same_Some was_there (Some gone) (sym still ∙ (ap (slice_get places) same ∙ there)) in
                inr (gone, is, ap (λ n. goes n gone) same ∙ goes_so, blank))
            | inr it ↦ inr (it.0, it.1, it.2, blank)
          ])
      | inr apart ↦ (
          let stays : slice_get (record_places new) place ≡ slice_get places place =
          ap (λ xs. slice_get xs place) less ∙ get-set_other places entry.place None place apart in
          elim (D.some place was_there stood) [
            | inl still ↦ inl (stays ∙ still)
            | inr it ↦ inr (it.0, it.1, it.2, stays ∙ it.3)
          ])
    ]

    -- a record that stands stood
    stood : (place : ℕ) (it : OperationRecord) → slice_get (record_places new) place ≡ Some (Some it)
        → slice_get places place ≡ Some (Some it)
    stood place it here =
        elim (get_set places entry.place None place (Some it) (ap (λ xs. slice_get xs place) (sym less) ∙ here)) [
          | inl same ↦ absurd (never it same.1)
          | inr apart ↦ apart.1
        ]

    rest : (index : ℕ) (other : Queued) (it : OperationRecord) → (index < from) ⊎ (end - 1 ≤ index)
        → slice_get after index ≡ Some other → slice_get (record_places new) other.place ≡ Some (Some it)
        → goes other.place it ≡ false
    rest index other it outside here stands = elim (was index other here) [
      | inl before ↦ elim outside [
        | inl out ↦ D.rest index other it (inl out) before.1 (stood other.place it stands)
        | inr out ↦ absurd (omega (arith, out, before.0))
      ]
      | inr behind ↦ D.rest (suc index) other it (inr (omega (arith, behind.0, some))) behind.1
          (stood other.place it stands)
    ]

-- all that were to go are gone
pub dropped_all : (goes : ℕ → OperationRecord → Bool) (test : OperationRecord → Bool) (old : List (Option OperationRecord))
    (records : Slab OperationRecord) (queue standing : List Queued) (many from end : ℕ)
    → IsDropping goes old records queue standing many from end → end ≤ from
    → ((place : ℕ) (there : OperationRecord) → slice_get old place ≡ Some (Some there) → goes place there ≡ test there)
    → AreDropped test old (record_places records)
dropped_all goes test old records queue standing many from end D past same_test = record {
  many = D.same;
  each = each;
}
  where
    places : List (Option OperationRecord)
    places = record_places records

    by : (place : ℕ) (there : Option OperationRecord) → slice_get old place ≡ Some there
        → slice_get places place ≡ Some there → slice_get places place ≡ Some (unless_picked test there)
    by place None at still = still
    by place (Some there) at still =
        let found = entry_of places standing place there D.indexed.listed still in
        let outside : (found.0 < from) ⊎ (end ≤ found.0) = elim (cases_lt found.0 from) [
          | inl before ↦ inl before
          | inr behind ↦ inr (omega (arith, behind, past))
        ] in
        let stays : test there ≡ false = sym (same_test place there at)
        ∙ D.rest found.0 (record { number = there.number; place = place }) there outside found.1 still in
        rw stays still

    each : (place : ℕ) (there : Option OperationRecord) → slice_get old place ≡ Some there
        → slice_get places place ≡ Some (unless_picked test there)
    each place there at = elim (D.some place there at) [
      | inl still ↦ by place there at still
      | inr it ↦ (
          let goes_so : test it.0 ≡ true = sym (same_test place it.0 (at ∙ ap Some it.1)) ∙ it.2 in
          let blank : unless_picked test (Some it.0) ≡ None = rw goes_so refl in
          it.3 ∙ ap Some (sym (ap (unless_picked test) it.1 ∙ blank)))
    ]
