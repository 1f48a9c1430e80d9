-- The places are what a slab has under its keys.
use Rattle.std.proofs.Common.{◌≡◌, ◌≢◌, inl, inr, ℕ, zero, suc, ◌+◌, ◌<◌, ◌≤◌, List, [], ◌∷◌, Option, None, Some, map, length}
use Rattle.std.proofs.Common.{set, replicate, is_some, count_by, cond, subst, refl, sym, ap, ap₂, ◌∙◌, arith, false}
use Rattle.std.specs.List.{slice_get, slice_index_or, range_with_len, sum_by, list_any}
use Rattle.std.proofs.lemmas.Bool.{cases_Bool, cases_eq, cases_lt}
use Rattle.std.proofs.lemmas.Option.{same_Some, slice_get_read, slice_get_past, slice_get_within, get_or_from_slice_get}
use Rattle.std.proofs.lemmas.List.FromFn.{length-map-range_with_len, get_or-map-range_with_len}
use Rattle.std.proofs.lemmas.List.Sums.{count_by-le-length, sum_by-cons, sum_by-set}
use Rattle.base_lists.proofs.Indexes.{same_by_gets, get-set_same, get-set_other}
use Rattle.slab.specs.Slab.{Slab, get, slab_len, Updates}
use Rattle.part_transfers.specs.declared.table.OperationRecord.{OperationRecord}
use Rattle.part_transfers.specs.declared.table.Pick.TheVariants as pick
use Rattle.part_transfers.specs.declared.queue.Queued.{Queued}
use Rattle.part_transfers.specs.Queue.{IsQueuedAs, Changes, Queues}
use Rattle.part_transfers.specs.Table.{flat, taken_count, on_place, fits_pick, waits_by, waits_at, stands_by, stands_at, regions_of}
use Rattle.part_transfers.specs.Places.{record_places, IsIndexed}
use Rattle.part_transfers.proofs.Began.{taken_all}
use Rattle.part_transfers.proofs.Queueing.{queued_as, queues_changed}
use Rattle.part_transfers.proofs.Waiting.{by_at, by_written, by_elsewhere}

module _ {X : Type 0} where
  pub places_length : (slab : Slab X) → length (record_places slab) ≡ slab.capacity
  places_length slab = length-map-range_with_len (get slab) 0 slab.capacity

  -- there are as many places as the slab has room for
  pub many_places : (slab : Slab X) (places : List (Option X)) → record_places slab ≡ places → slab.capacity ≡ 256
      → length places ≡ 256
  many_places slab places view room = ap length (sym view) ∙ places_length slab ∙ room

  -- what stands in a place
  pub place_at : (slab : Slab X) (place : ℕ) → place < slab.capacity
      → slice_get (record_places slab) place ≡ Some (get slab place)
  place_at slab place less =
      slice_get_read (record_places slab) slab.capacity place (get slab place) (sym (places_length slab)) less
      (sym (get_or-map-range_with_len (get slab) 0 slab.capacity place place (get slab place) less (omega arith)))

  -- a key was updated: its place is written
  pub places_set : (old new : Slab X) (key : ℕ) (there : Option X) → Updates old new key there
      → new.capacity ≡ old.capacity → key < old.capacity → record_places new ≡ set (record_places old) key there
  places_set old new key there updates room less = same_by_gets (record_places new) (set (record_places old) key there) each
    where
      elsewhere : (index : ℕ) → index ≢ key → slice_get (record_places new) index ≡ slice_get (record_places old) index
      elsewhere index apart = elim (cases_lt index old.capacity) [
        | inl within ↦ place_at new index (omega (arith, within, room)) ∙ ap Some (updates.others index apart)
            ∙ sym (place_at old index within)
        | inr past ↦ (let many = places_length old in let now = places_length new in
            slice_get_past (record_places new) index (omega (arith, past, room, now))
            ∙ sym (slice_get_past (record_places old) index (omega (arith, past, many))))
      ]

      each : (index : ℕ) → slice_get (record_places new) index ≡ slice_get (set (record_places old) key there) index
      each index = elim (cases_eq index key) [
        | inl here ↦ (let many = places_length old in
            ap (slice_get (record_places new)) here ∙ place_at new key (omega (arith, less, room))
            ∙ ap Some updates.changed
            ∙ sym (ap (slice_get (set (record_places old) key there)) here
            ∙ get-set_same (record_places old) key there (omega (arith, less, many))))
        | inr apart ↦ elsewhere index apart ∙ sym (get-set_other (record_places old) key there index apart)
      ]

  -- ---- an empty slab

  -- what a key finds in these slots
  abbrev found : List (Option X) → ℕ → Option X
  found slots key = slice_index_or slots key None

  blank_from : (from many : ℕ) → map (found []) (range_with_len from many) ≡ replicate many None
  blank_from from zero = refl
  blank_from from (suc many) = ap (λ later. None ∷ later) (blank_from (from + 1) many)

  pub places_blank : (slab : Slab X) (many : ℕ) → slab.slots ≡ [] → slab.capacity ≡ many
      → record_places slab ≡ replicate many None
  places_blank slab many empty room =
      ap₂ (λ slots end. map (found slots) (range_with_len 0 end)) empty room ∙ blank_from 0 many

  -- ---- a full slab

  count_cons : (slot : Option X) (slots : List (Option X))
      → count_by is_some (slot ∷ slots) ≡ cond (is_some slot) 1 0 + count_by is_some slots
  count_cons slot slots = sum_by-cons (λ o. cond (is_some o) 1 0) slot slots

  -- where there are as many values as slots, each slot has one
  each_has : (slots : List (Option X)) (key : ℕ) → length slots ≤ count_by is_some slots → key < length slots
      → found slots key ≡ None → ⊥
  each_has [] key full less none = omega (arith, less)
  each_has (None ∷ slots) key full less none =
      (let counted = count_cons None slots in let later = count_by-le-length is_some slots in
      omega (arith, full, counted, later))
  each_has (Some x ∷ slots) zero full less none = cc
  each_has (Some x ∷ slots) (suc key) full less none =
      (let counted = count_cons (Some x) slots in
      each_has slots key (omega (arith, full, counted)) (omega (arith, less)) none)

  -- each place is taken
  pub places_full : (slab : Slab X) → slab_len slab ≡ slab.capacity → length slab.slots ≤ slab.capacity
      → taken_count (record_places slab) ≡ slab.capacity
  places_full slab full slots =
      taken_all (record_places slab) (λ place less none. each_has slab.slots place (omega (arith, full, slots))
      (omega (arith, less, places_length slab, full, slots, count_by-le-length is_some slab.slots))
      (same_Some _ _ (sym (place_at slab place (omega (arith, less, places_length slab))) ∙ none)))
      ∙ places_length slab

-- ---- the lists by number

by_here : (by : Option OperationRecord → Option ℕ) (slab : Slab OperationRecord) (place : ℕ) (was : Option ℕ)
    → place < slab.capacity → by (get slab place) ≡ was → by_at by (record_places slab) place ≡ was
by_here by slab place was less is = ap (λ there. by (flat there)) (place_at slab place less) ∙ is

-- a place is in a list by its number
pub listed_here : (by : Option OperationRecord → Option ℕ) (slab : Slab OperationRecord) (queue : List Queued) (place : ℕ)
    (was : Option ℕ)
    → place < slab.capacity → Queues (by_at by (record_places slab)) queue → by (get slab place) ≡ was
    → IsQueuedAs queue place was
listed_here by slab queue place was less Q is =
    queued_as (by_at by (record_places slab)) queue place was Q (by_here by slab place was less is)

-- a key was updated, and a list was told
list_set : (by : Option OperationRecord → Option ℕ) (old new : Slab OperationRecord) (queue later : List Queued)
    (place : ℕ) (was there : Option OperationRecord)
    → Updates old new place there → new.capacity ≡ old.capacity → place < old.capacity
    → Queues (by_at by (record_places old)) queue → get old place ≡ was
    → Changes place (by was) (by there) queue later → Queues (by_at by (record_places new)) later
list_set by old new queue later place was there updates room less Q is changes =
    let places = record_places old in
    let many = places_length old in
    subst (λ after. Queues (by_at by after) later) (sym (places_set old new place there updates room less))
    (queues_changed (by_at by places) (by_at by (set places place there)) place (by was) (by there) queue later Q
    (by_here by old place (by was) less (ap by is)) (by_written by places place there (omega (arith, less, many)))
    (by_elsewhere by places place there) changes)

-- ---- how many records are in a region

pub region_one : (there : Option OperationRecord) → regions_of there ≤ 1
region_one None = omega arith
region_one (Some r) = elim (cases_Bool (is_some r.region)) [
  | inl is ↦ rw is (omega arith)
  | inr isnt ↦ rw isnt (omega arith)
]

regions_le : (places : List (Option OperationRecord)) → sum_by regions_of places ≤ length places
regions_le [] = omega arith
regions_le (there ∷ places) =
    let sums = sum_by-cons regions_of there places in
    let later = regions_le places in
    let here = region_one there in
    omega (arith, sums, later, here)

sum_set : (places : List (Option OperationRecord)) (place : ℕ) (was there : Option OperationRecord)
    → slice_get places place ≡ Some was
    → sum_by regions_of (set places place there) + regions_of was ≡ sum_by regions_of places + regions_of there
sum_set places place was there at =
    let within = slice_get_within places place was at in
    ap (λ one. sum_by regions_of (set places place there) + regions_of one)
    (sym (get_or_from_slice_get places place was None at))
    ∙ sum_by-set regions_of places place there None within

-- a record that is in a region is counted
pub counted : (slab : Slab OperationRecord) (queue standing : List Queued) (many place : ℕ) (was : Option OperationRecord)
    → IsIndexed slab queue standing many → place < 256 → get slab place ≡ was → regions_of was ≤ many
counted slab queue standing many place was I inside is =
    let at = place_at slab place (omega (arith, inside, I.room)) ∙ ap Some is in
    let sums = sum_set (record_places slab) place was None at in
    omega (arith, sums, I.regions)

pub few : (slab : Slab OperationRecord) (queue standing : List Queued) (many : ℕ)
    → IsIndexed slab queue standing many → many ≤ 256
few slab queue standing many I =
    let sums = regions_le (record_places slab) in
    let length_is = places_length slab in
    omega (arith, sums, length_is, I.room, I.regions)

-- where none is counted there is no region
pub no_region : (places : List (Option OperationRecord)) (name : ℕ) → sum_by regions_of places ≡ 0
    → list_any (on_place (fits_pick (pick.Region name))) places ≡ false
no_region [] name none = refl
no_region (None ∷ places) name none =
    let sums = sum_by-cons regions_of None places in no_region places name (omega (arith, sums, none))
no_region (Some there ∷ places) name none =
    let sums = sum_by-cons regions_of (Some there) places in
    by there.region refl (no_region places name (omega (arith, sums, none)))
  where
    by : (region : Option ℕ) → there.region ≡ region
        → list_any (on_place (fits_pick (pick.Region name))) places ≡ false
        → list_any (on_place (fits_pick (pick.Region name))) (Some there ∷ places) ≡ false
    by None is later = rw is later
    by (Some other) is later =
        let one : regions_of (Some there) ≡ 1 = rw is refl in
        let sums = sum_by-cons regions_of (Some there) places in
        absurd (omega (arith, sums, none, one))

-- ---- a key was updated, and the lists were told

pub indexed_set : (old new : Slab OperationRecord) (queue later standing after : List Queued) (many count place : ℕ)
    (was there : Option OperationRecord)
    → IsIndexed old queue standing many → Updates old new place there → new.capacity ≡ old.capacity → place < 256
    → get old place ≡ was → Changes place (waits_by was) (waits_by there) queue later
    → Changes place (stands_by was) (stands_by there) standing after
    → count + regions_of was ≡ many + regions_of there
    → IsIndexed new later after count
indexed_set old new queue later standing after many count place was there I updates room inside is waiting stood told =
    let less : place < old.capacity = omega (arith, inside, I.room) in
    let at = place_at old place less ∙ ap Some is in
    let sums = sum_set (record_places old) place was there at in
    let written = ap (sum_by regions_of) (places_set old new place there updates room less) in
    record {
      room = room ∙ I.room;
      waiting = list_set waits_by old new queue later place was there updates room less I.waiting is waiting;
      listed = list_set stands_by old new standing after place was there updates room less I.listed is stood;
      regions = omega (arith, sums, written, told, I.regions);
    }

-- no blank place is in a list
pub indexed_blank : (slab : Slab OperationRecord) → record_places slab ≡ replicate 256 None → slab.capacity ≡ 256
    → IsIndexed slab [] [] 0
indexed_blank slab blank room = record {
  room = room;
  waiting = subst (λ places. Queues (waits_at places) []) (sym blank) (listed_blank waits_by refl 256);
  listed = subst (λ places. Queues (stands_at places) []) (sym blank) (listed_blank stands_by refl 256);
  regions = sym (ap (sum_by regions_of) blank ∙ none 256);
}
  where
    never : (number : ℕ) → ◌≡◌ {A = Option ℕ} None (Some number) → ⊥
    never number is = cc

    blank_at : (by : Option OperationRecord → Option ℕ) → by None ≡ None → (many place : ℕ)
        → by_at by (replicate many None) place ≡ None
    blank_at by none zero place = none
    blank_at by none (suc many) zero = none
    blank_at by none (suc many) (suc place) = blank_at by none many place

    listed_blank : (by : Option OperationRecord → Option ℕ) → by None ≡ None → (many : ℕ)
        → Queues (by_at by (replicate many None)) []
    listed_blank by none many = record {
      each = λ index entry at. absurd (cc);
      all = λ place number is. absurd (never number (sym (blank_at by none many place) ∙ is));
    }

    none : (many : ℕ) → sum_by regions_of (replicate many None) ≡ 0
    none zero = refl
    none (suc many) = let sums = sum_by-cons regions_of None (replicate many None) in let later = none many in
        omega (arith, sums, later)
