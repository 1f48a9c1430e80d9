-- What is read of the entries after one of them was written.
use Rattle.std.proofs.Common.{ℕ, ◌≡◌, ◌≢◌, ◌+◌, ◌-◌, ◌<◌, ◌≤◌, Bool, true, false, Option, Some, None, List, length}
use Rattle.std.proofs.Common.{cond, refl, sym, ap, subst, ◌∙◌, inl, inr, arith, length-set, replicate, zero}
use Rattle.std.proofs.Common.{suc, ◌∷◌}
use Rattle.std.proofs.Common.{[], ◌++◌, get_or, length-append}
use Rattle.std.specs.Prelude.{slice_get, slice_set, map}
use Rattle.std.specs.Option.{option_map}
use Rattle.std.proofs.lemmas.Option.{slice_get_within, get_or_from_slice_get, slice_get-map}
use Rattle.std.proofs.lemmas.Option.{slice_get_cases}
use Rattle.std.proofs.lemmas.List.{map-set, length-replicate}
use Rattle.std.proofs.Math.Seq.{map-set_same}
use Rattle.base_lists.specs.Update.{update}
use Rattle.base_lists.proofs.Cases.{cases_option}
use Rattle.base_lists.proofs.Update.{update-Some, update-None, length-update}
use Rattle.base_lists.proofs.Indexes.{get-set_same, get-set_other, get-append_left, read-as}
use Rattle.part_window.specs.declared.order.Due.{Due}
use Rattle.part_window.specs.declared.order.DueEntry.{DueEntry}
use Rattle.part_window.specs.Ring.{put, IsOn, IsBefore, IsRing}
use Rattle.base_lists.proofs.Put.{put_other}
use Rattle.base_lists.proofs.Places.{slice_get-replicate, slice_get_last, slice_get_there}
use Rattle.std.proofs.Math.Path.{fun_ext}
use Rattle.part_window.specs.PaddedLists.{with_padding}
use Rattle.part_window.specs.Order.{due_of, due_view, next_at, previous_at, time_at, listed_at, head_of, IsOrder}
use Rattle.part_window.specs.Order.{blank_entry, IsSpot}
use Rattle.part_window.proofs.Blanks.{length-padded, get-blank, update-last, update-written}
use Rattle.part_window.proofs.Ring.{put-same, same?, ring-without, ring-with, ring-first}

-- a field of each entry
abbrev field : {X : Type 0} → (DueEntry → X) → X → List DueEntry → ℕ → X
field field_of blank entries index = elim (slice_get entries index) [ Some entry ↦ field_of entry | None ↦ blank ]

field-at : {X : Type 0} (field_of : DueEntry → X) (blank : X) (entries : List DueEntry) (index : ℕ) (entry : DueEntry)
    → slice_get entries index ≡ Some entry → field field_of blank entries index ≡ field_of entry
field-at {X = X} field_of blank entries index entry at =
    ap (λ (found : Option DueEntry). elim found as (λ _. X) [ Some each ↦ field_of each | None ↦ blank ]) at

field-set : {X : Type 0} (field_of : DueEntry → X) (blank : X) (entries : List DueEntry) (index : ℕ) (entry : DueEntry)
    → index < length entries
    → field field_of blank (slice_set entries index entry) ≡ put (field field_of blank entries) index (field_of entry)
field-set {X = X} field_of blank entries index entry inside = fun_ext (λ other. elim (same? other index) [
  | inl same ↦
      ap (field field_of blank (slice_set entries index entry)) same
      ∙ (field-at field_of blank (slice_set entries index entry) index entry
      (get-set_same entries index entry inside)
      ∙ sym (put-same (field field_of blank entries) index (field_of entry) other same))
  | inr apart ↦
      ap (λ (found : Option DueEntry). elim found as (λ _. X) [ Some each ↦ field_of each | None ↦ blank ])
      (get-set_other entries index entry other apart)
      ∙ sym (put_other (field field_of blank entries) index (field_of entry) other apart)
])

put-self : {A : Type 0} (values : ℕ → A) (index : ℕ) (value : A) → values index ≡ value
    → put values index value ≡ values
put-self values index value is = fun_ext (λ other. elim (same? other index) [
  | inl same ↦ put-same values index value other same ∙ (sym is ∙ ap values (sym same))
  | inr apart ↦ put_other values index value other apart
])

-- what is read of the entries
pub record Reads (entries : List DueEntry) (next previous time : ℕ → ℕ) (listed : ℕ → Bool) : Type 0 where
  pub next_is : next_at entries ≡ next
  pub previous_is : previous_at entries ≡ previous
  pub time_is : time_at entries ≡ time
  pub listed_is : listed_at entries ≡ listed

pub reads : (entries : List DueEntry)
    → Reads entries (next_at entries) (previous_at entries) (time_at entries) (listed_at entries)
reads entries = record { next_is = refl; previous_is = refl; time_is = refl; listed_is = refl }

-- an entry is written whole
pub reads-entry : (entries : List DueEntry) (place : ℕ) (entry : DueEntry) (next previous time : ℕ → ℕ) (listed : ℕ → Bool)
    → place < length entries → Reads entries next previous time listed
    → Reads (slice_set entries place entry) (put next place entry.next) (put previous place entry.previous)
    (put time place entry.time) (put listed place entry.listed)
reads-entry entries place entry next previous time listed inside before = record {
  next_is =
      field-set (λ each. each.next) 0 entries place entry inside
      ∙ ap (λ (values : ℕ → ℕ). put values place entry.next) before.next_is;
  previous_is =
      field-set (λ each. each.previous) 0 entries place entry inside
      ∙ ap (λ (values : ℕ → ℕ). put values place entry.previous) before.previous_is;
  time_is =
      field-set (λ each. each.time) 0 entries place entry inside
      ∙ ap (λ (values : ℕ → ℕ). put values place entry.time) before.time_is;
  listed_is =
      field-set (λ each. each.listed) false entries place entry inside
      ∙ ap (λ (values : ℕ → Bool). put values place entry.listed) before.listed_is;
}

-- a field that an entry keeps
kept : {X : Type 0} (field_of : DueEntry → X) (blank : X) (entries : List DueEntry) (index : ℕ) (old : DueEntry) (values : ℕ → X)
    → slice_get entries index ≡ Some old → field field_of blank entries ≡ values
    → put values index (field_of old) ≡ values
kept {X = X} field_of blank entries index old values at is = put-self values index (field_of old)
    (ap (λ (each : ℕ → X). each index) (sym is) ∙ field-at field_of blank entries index old at)

-- one field of an entry is written
pub reads-next : (entries : List DueEntry) (place value : ℕ) (old : DueEntry) (next previous time : ℕ → ℕ)
    (listed : ℕ → Bool) → slice_get entries place ≡ Some old → Reads entries next previous time listed → Reads
    (slice_set entries place (record old { next = value })) (put next place value) previous time listed
reads-next entries place value old next previous time listed at before =
    let known =
    reads-entry entries place (record old { next = value }) next previous time listed
    (slice_get_within entries place old at) before in
    record {
      next_is = known.next_is;
      previous_is = known.previous_is ∙ kept (λ each. each.previous) 0 entries place old previous at before.previous_is;
      time_is = known.time_is ∙ kept (λ each. each.time) 0 entries place old time at before.time_is;
      listed_is = known.listed_is ∙ kept (λ each. each.listed) false entries place old listed at before.listed_is;
    }

pub reads-previous : (entries : List DueEntry) (place value : ℕ) (old : DueEntry) (next previous time : ℕ → ℕ)
    (listed : ℕ → Bool) → slice_get entries place ≡ Some old → Reads entries next previous time listed → Reads
    (slice_set entries place (record old { previous = value })) next (put previous place value) time listed
reads-previous entries place value old next previous time listed at before =
    let known =
    reads-entry entries place (record old { previous = value }) next previous time listed
    (slice_get_within entries place old at) before in
    record {
      next_is = known.next_is ∙ kept (λ each. each.next) 0 entries place old next at before.next_is;
      previous_is = known.previous_is;
      time_is = known.time_is ∙ kept (λ each. each.time) 0 entries place old time at before.time_is;
      listed_is = known.listed_is ∙ kept (λ each. each.listed) false entries place old listed at before.listed_is;
    }

pub reads-unlisted : (entries : List DueEntry) (place : ℕ) (old : DueEntry) (next previous time : ℕ → ℕ)
    (listed : ℕ → Bool) → slice_get entries place ≡ Some old → Reads entries next previous time listed → Reads
    (slice_set entries place (record old { listed = false })) next previous time (put listed place false)
reads-unlisted entries place old next previous time listed at before =
    let known =
    reads-entry entries place (record old { listed = false }) next previous time listed
    (slice_get_within entries place old at) before in
    record {
      next_is = known.next_is ∙ kept (λ each. each.next) 0 entries place old next at before.next_is;
      previous_is = known.previous_is ∙ kept (λ each. each.previous) 0 entries place old previous at before.previous_is;
      time_is = known.time_is ∙ kept (λ each. each.time) 0 entries place old time at before.time_is;
      listed_is = known.listed_is;
    }

-- a write that keeps what is due at a place
pub view-kept : (entries : List DueEntry) (place : ℕ) (old new : DueEntry) → slice_get entries place ≡ Some old
    → due_view new ≡ due_view old → map due_view (slice_set entries place new) ≡ map due_view entries
view-kept entries place old new at same =
    map-set_same due_view entries place new old (same
    ∙ ap due_view (sym (get_or_from_slice_get entries place old old at)))

-- a place of the ring is an entry
pub on-inside : (entries : List DueEntry) (index : ℕ) → IsOrder entries → IsOn (head_of entries) (listed_at entries) index
    → index < length entries
on-inside entries index order (inl same) = omega (arith, order.some, same)
on-inside entries index order (inr on) = omega (arith, order.some, order.ring.below index on)

pub next-inside : (entries : List DueEntry) (index : ℕ) (entry : DueEntry) → IsOrder entries
    → IsOn (head_of entries) (listed_at entries) index → slice_get entries index ≡ Some entry
    → entry.next < length entries
next-inside entries index entry order on at =
    subst (λ (next_of : ℕ). next_of < length entries) (field-at (λ each. each.next) 0 entries index entry at)
    (on-inside entries (next_at entries index) order (order.ring.next_on index on))

pub previous-inside : (entries : List DueEntry) (index : ℕ) (entry : DueEntry) → IsOrder entries
    → IsOn (head_of entries) (listed_at entries) index → slice_get entries index ≡ Some entry
    → entry.previous < length entries
previous-inside entries index entry order on at =
    subst (λ (next_of : ℕ). next_of < length entries) (field-at (λ each. each.previous) 0 entries index entry at)
    (on-inside entries (previous_at entries index) order (order.ring.previous_on index on))

-- the entries are in order, by what is read of them
pub order-by : (entries new : List DueEntry) (next previous time : ℕ → ℕ) (listed : ℕ → Bool) → IsOrder entries
    → length new ≡ length entries → Reads new next previous time listed
    → IsRing (head_of entries) next previous time listed → IsOrder new
order-by entries new next previous time listed order long r ring = record {
  some = omega (arith, long, order.some);
  small = omega (arith, long, order.small);
  ring =
      subst (λ (next_of : ℕ). IsRing next_of (next_at new) (previous_at new) (time_at new) (listed_at new))
      (ap (λ (place : ℕ). place - 1) (sym long))
      (subst (λ (values : ℕ → ℕ). IsRing (head_of entries) values (previous_at new) (time_at new) (listed_at new))
      (sym r.next_is)
      (subst (λ (values : ℕ → ℕ). IsRing (head_of entries) next values (time_at new) (listed_at new))
      (sym r.previous_is)
      (subst (λ (values : ℕ → ℕ). IsRing (head_of entries) next previous values (listed_at new)) (sym r.time_is)
      (subst (λ (values : ℕ → Bool). IsRing (head_of entries) next previous time values) (sym r.listed_is) ring))));
}

-- a place is taken out by three writes
pub unlinked : (entries : List DueEntry) (place : ℕ) (entry first_read second_read third_read : DueEntry)
    (first_written second_written : List DueEntry) → IsOrder entries → listed_at entries place ≡ true
    → slice_get entries place ≡ Some entry → slice_get entries entry.previous ≡ Some first_read
    → first_written ≡ slice_set entries entry.previous (record first_read { next = entry.next })
    → slice_get first_written entry.next ≡ Some second_read
    → second_written ≡ slice_set first_written entry.next (record second_read { previous = entry.previous })
    → slice_get second_written place ≡ Some third_read
    → IsOrder (slice_set second_written place (record third_read { listed = false }))
    × (map due_view (slice_set second_written place (record third_read { listed = false }))
    ≡ slice_set (map due_view entries) place None)
unlinked entries place entry first_read second_read third_read first_written second_written order on at at₁ is₁ at₂ is₂
    at₃ =
    let left : ℕ = entry.previous in
    let right : ℕ = entry.next in
    let next_of : ℕ → ℕ = next_at entries in
    let previous_of : ℕ → ℕ = previous_at entries in
    let time_of : ℕ → ℕ = time_at entries in
    let listed_of : ℕ → Bool = listed_at entries in
    let r₁ : Reads first_written (put next_of left right) previous_of time_of listed_of =
    subst (λ (xs : List DueEntry). Reads xs (put next_of left right) previous_of time_of listed_of) (sym is₁)
    (reads-next entries left right first_read next_of previous_of time_of listed_of at₁ (reads entries)) in
    let r₂ : Reads second_written (put next_of left right) (put previous_of right left) time_of listed_of =
    subst (λ (xs : List DueEntry). Reads xs (put next_of left right) (put previous_of right left) time_of listed_of)
    (sym is₂) (reads-previous first_written right left second_read (put next_of left right) previous_of time_of
    listed_of at₂ r₁) in
    let r₃ =
    reads-unlisted second_written place third_read (put next_of left right)
    (put previous_of right left) time_of listed_of at₃ r₂ in
    let long₁ : length first_written ≡ length entries =
    ap length is₁ ∙ length-set entries left (record first_read { next = entry.next }) in
    let long₂ : length second_written ≡ length entries =
    ap length is₂ ∙ (length-set first_written right (record second_read { previous = entry.previous }) ∙ long₁) in
    let ring : IsRing (head_of entries) (put next_of left right) (put previous_of right left) time_of
    (put listed_of place false) =
    subst (λ (index : ℕ). IsRing (head_of entries) (put next_of left index) (put previous_of index left) time_of
    (put listed_of place false)) (field-at (λ y. y.next) 0 entries place entry at)
    (subst (λ (index : ℕ). IsRing (head_of entries) (put next_of index (next_of place))
    (put previous_of (next_of place) index)
    time_of (put listed_of place false)) (field-at (λ y. y.previous) 0 entries place entry at)
    (ring-without (head_of entries) next_of previous_of time_of listed_of place order.ring on)) in
    let view₁ : map due_view first_written ≡ map due_view entries =
    ap (map due_view) is₁ ∙ view-kept entries left first_read (record first_read { next = entry.next }) at₁ refl in
    let view₂ : map due_view second_written ≡ map due_view entries =
    ap (map due_view) is₂
    ∙ (view-kept first_written right second_read (record second_read { previous = entry.previous }) at₂ refl
    ∙ view₁) in (
      order-by entries (slice_set second_written place (record third_read { listed = false }))
          (put next_of left right) (put previous_of right left) time_of (put listed_of place false) order
          (length-set second_written place (record third_read { listed = false }) ∙ long₂) r₃ ring,
      map-set due_view second_written place (record third_read { listed = false })
          ∙ ap (λ (dues : List (Option Due)). slice_set dues place None) view₂,
    )

-- a place is listed by three writes
pub linked : (entries : List DueEntry) (place at right : ℕ) (entry second_read third_read : DueEntry)
    (first_written second_written : List DueEntry) → IsOrder entries → place + 1 < length entries
    → listed_at entries place ≡ false → IsSpot entries place entry.time at → right ≡ next_at entries at
    → entry.previous ≡ at → entry.next ≡ right → entry.listed ≡ true
    → first_written ≡ slice_set entries place entry → slice_get first_written at ≡ Some second_read
    → second_written ≡ slice_set first_written at (record second_read { next = place })
    → slice_get second_written right ≡ Some third_read
    → IsOrder (slice_set second_written right (record third_read { previous = place }))
    × (map due_view (slice_set second_written right (record third_read { previous = place }))
    ≡ slice_set (map due_view entries) place (Some (due_of entry)))
linked entries place at right entry second_read third_read first_written second_written order inside off spot is_q
    is_previous is_next is_listed is₁ at₂ is₂ at₃ =
    let next_of : ℕ → ℕ = next_at entries in
    let previous_of : ℕ → ℕ = previous_at entries in
    let time_of : ℕ → ℕ = time_at entries in
    let listed_of : ℕ → Bool = listed_at entries in
    let new_time : ℕ → ℕ = put time_of place entry.time in
    let new_listed : ℕ → Bool = put listed_of place true in
    let r₀ = reads-entry entries place entry next_of previous_of time_of listed_of (omega arith) (reads entries) in
    let r₁ : Reads first_written (put next_of place right) (put previous_of place at) new_time new_listed =
    subst (λ (xs : List DueEntry). Reads xs (put next_of place right) (put previous_of place at) new_time new_listed)
    (sym is₁)
    (subst (λ (index : ℕ). Reads (slice_set entries place entry) (put next_of place index) (put previous_of place at)
    new_time new_listed) is_next
    (subst (λ (index : ℕ). Reads (slice_set entries place entry) (put next_of place entry.next)
    (put previous_of place index) new_time new_listed) is_previous
    (subst (λ (b : Bool). Reads (slice_set entries place entry) (put next_of place entry.next)
    (put previous_of place entry.previous) new_time (put listed_of place b)) is_listed r₀))) in
    let r₂ : Reads second_written (put (put next_of place right) at place)
    (put previous_of place at) new_time new_listed =
    subst (λ (xs : List DueEntry). Reads xs (put (put next_of place right) at place) (put previous_of place at)
    new_time new_listed) (sym is₂)
    (reads-next first_written at place second_read (put next_of place right)
    (put previous_of place at) new_time new_listed at₂ r₁) in
    let r₃ =
    reads-previous second_written right place third_read (put (put next_of place right) at place)
    (put previous_of place at) new_time new_listed at₃ r₂ in
    let long₁ : length first_written ≡ length entries = ap length is₁ ∙ length-set entries place entry in
    let long₂ : length second_written ≡ length entries =
    ap length is₂ ∙ (length-set first_written at (record second_read { next = place }) ∙ long₁) in
    let ring : IsRing (head_of entries) (put (put next_of place right) at place)
    (put (put previous_of place at) right place) new_time new_listed =
    subst (λ (index : ℕ). IsRing (head_of entries) (put (put next_of place index) at place)
    (put (put previous_of place at) index place) new_time new_listed) (sym is_q)
    (ring-with (head_of entries) next_of previous_of time_of listed_of place at entry.time order.ring
    (omega arith) off spot.on spot.before spot.after) in
    let view₁ : map due_view first_written ≡ slice_set (map due_view entries) place (Some (due_of entry)) =
    ap (map due_view) is₁
    ∙ (map-set due_view entries place entry
    ∙ ap (λ (b : Bool). slice_set (map due_view entries) place (cond b (Some (due_of entry)) None)) is_listed) in
    let view₂ : map due_view second_written ≡ slice_set (map due_view entries) place (Some (due_of entry)) =
    ap (map due_view) is₂
    ∙ (view-kept first_written at second_read (record second_read { next = place }) at₂ refl ∙ view₁) in (
      order-by entries (slice_set second_written right (record third_read { previous = place }))
          (put (put next_of place right) at place)
          (put (put previous_of place at) right place) new_time new_listed order
          (length-set second_written right (record third_read { previous = place }) ∙ long₂) r₃ ring,
      view-kept second_written right third_read (record third_read { previous = place }) at₃ refl ∙ view₂,
    )

pub read-next : (entries : List DueEntry) (index : ℕ) (entry : DueEntry) → slice_get entries index ≡ Some entry
    → next_at entries index ≡ entry.next
read-next entries index entry at = field-at (λ each. each.next) 0 entries index entry at

pub read-previous : (entries : List DueEntry) (index : ℕ) (entry : DueEntry) → slice_get entries index ≡ Some entry
    → previous_at entries index ≡ entry.previous
read-previous entries index entry at = field-at (λ each. each.previous) 0 entries index entry at

pub read-time : (entries : List DueEntry) (index : ℕ) (entry : DueEntry) → slice_get entries index ≡ Some entry
    → time_at entries index ≡ entry.time
read-time entries index entry at = field-at (λ each. each.time) 0 entries index entry at

-- a place of the ring, where what is behind it is `next`, and comes after a place with this time
pub record IsBehind (entries : List DueEntry) (place time at next : ℕ) : Type 0 where
  pub on : IsOn (head_of entries) (listed_at entries) at
  pub next_is : next_at entries at ≡ next
  pub after : next_at entries at ≢ head_of entries
      → IsBefore time place (time_at entries (next_at entries at)) (next_at entries at)

-- a place of the ring is not one that is not listed
pub behind-apart : (entries : List DueEntry) (at place : ℕ) → listed_at entries place ≡ false → place ≢ head_of entries
    → IsOn (head_of entries) (listed_at entries) at → at ≢ place
behind-apart entries at place off no_head (inl head) = λ same. no_head (sym same ∙ head)
behind-apart entries at place off no_head (inr on) = λ same.
    let both : listed_at entries at ≡ false = ap (listed_at entries) same ∙ off in absurd cc

-- what is listed, by the order's value
pub listed-view : (entries : List DueEntry) (index : ℕ) (due : Due)
    → slice_get (map due_view entries) index ≡ Some (Some due)
    → (listed_at entries index ≡ true)
    × ((entry : DueEntry) × (slice_get entries index ≡ Some entry) × ((due_of entry) ≡ due))
listed-view entries index due at = found (slice_get entries index) refl where
  tells : (entry : DueEntry) (b : Bool) → entry.listed ≡ b → due_view entry ≡ Some due
      → (entry.listed ≡ true) × ((due_of entry) ≡ due)
  tells entry true is seen =
      let shown : due_view entry ≡ Some (due_of entry) =
      ap (λ (flag : Bool). cond flag (Some (due_of entry)) None) is in
      let same : (due_of entry) ≡ due = cc in (is, same)
  tells entry false is seen =
      let shown : due_view entry ≡ None = ap (λ (flag : Bool). cond flag (Some (due_of entry)) None) is in absurd cc

  found : (o : Option DueEntry) → slice_get entries index ≡ o
      → (listed_at entries index ≡ true)
      × ((entry : DueEntry) × (slice_get entries index ≡ Some entry) × ((due_of entry) ≡ due))
  found None is =
      let none : slice_get (map due_view entries) index ≡ None =
      slice_get-map due_view entries index ∙ ap (option_map due_view) is in
      absurd cc
  found (Some entry) is =
      let some : slice_get (map due_view entries) index ≡ Some (due_view entry) =
      slice_get-map due_view entries index ∙ ap (option_map due_view) is in
      let shown : due_view entry ≡ Some due = cc in
      let known = tells entry entry.listed refl shown in
      (field-at (λ each. each.listed) false entries index entry is ∙ known.0, (entry, is, known.1))

pub unlisted-view : (entries : List DueEntry) (index : ℕ) → slice_get (map due_view entries) index ≡ Some None
    → listed_at entries index ≡ false
unlisted-view entries index at = found (slice_get entries index) refl where
  tells : (entry : DueEntry) (b : Bool) → entry.listed ≡ b → due_view entry ≡ None → entry.listed ≡ false
  tells entry true is seen =
      let shown : due_view entry ≡ Some (due_of entry) =
      ap (λ (flag : Bool). cond flag (Some (due_of entry)) None) is in
      absurd cc
  tells entry false is seen = is

  found : (o : Option DueEntry) → slice_get entries index ≡ o → listed_at entries index ≡ false
  found None is = ap (λ (o : Option DueEntry). elim o as (λ _. Bool) [ Some each ↦ each.listed | None ↦ false ]) is
  found (Some entry) is =
      let some : slice_get (map due_view entries) index ≡ Some (due_view entry) =
      slice_get-map due_view entries index ∙ ap (option_map due_view) is in
      let shown : due_view entry ≡ None = cc in
      field-at (λ each. each.listed) false entries index entry is ∙ tells entry entry.listed refl shown

-- the order's value at an entry that is listed
pub view-listed : (entries : List DueEntry) (index : ℕ) (entry : DueEntry) → slice_get entries index ≡ Some entry
    → listed_at entries index ≡ true → slice_get (map due_view entries) index ≡ Some (Some (due_of entry))
view-listed entries index entry at on =
    slice_get-map due_view entries index
    ∙ (ap (option_map due_view) at
    ∙ ap (λ (place : Bool). Some (cond place (Some (due_of entry)) None))
    (sym (field-at (λ each. each.listed) false entries index entry at) ∙ on))

-- the first listed place, by what the head has behind it
pub first-view : (entries : List DueEntry) (entry : DueEntry) → IsOrder entries → entry.next ≢ head_of entries
    → slice_get entries (head_of entries) ≡ Some entry
    → (listed_at entries entry.next ≡ true) × (entry.next + 1 < length entries)
    × ((index : ℕ) (due : Due) → slice_get (map due_view entries) index ≡ Some (Some due)
    → (time_at entries entry.next ≤ due.time) × (due.time ≡ time_at entries entry.next → entry.next ≤ index))
first-view entries entry order ne at =
    let is_next : next_at entries (head_of entries) ≡ entry.next =
    field-at (λ each. each.next) 0 entries (head_of entries) entry at in
    let on : IsOn (head_of entries) (listed_at entries) entry.next =
    subst (IsOn (head_of entries) (listed_at entries)) is_next (order.ring.next_on (head_of entries) (inl refl)) in
    let listed : listed_at entries entry.next ≡ true = elim on [ inl same ↦ absurd (ne same) | inr found ↦ found ] in (
      listed,
      omega (arith, order.ring.below entry.next listed, order.some),
      λ index due is.
          let known = listed-view entries index due is in
          let first =
          ring-first (head_of entries) (next_at entries) (previous_at entries) (time_at entries)
          (listed_at entries) index order.ring known.0 in
          let time_i : time_at entries index ≡ due.time =
          field-at (λ each. each.time) 0 entries index known.1.0 known.1.1
          ∙ ap (λ (each : Due). each.time) known.1.2 in
          let low : time_at entries entry.next ≤ time_at entries index =
          subst (λ (left : ℕ). time_at entries left ≤ time_at entries index) is_next first.1 in (
            omega (arith, low, time_i),
            λ same.
                subst (λ (left : ℕ). left ≤ index) is_next
                (first.2 (time_i ∙ (same ∙ ap (time_at entries) (sym is_next)))),
          ),
    )

-- nothing is listed where the head is behind itself
pub none-view : (entries : List DueEntry) (entry : DueEntry) → IsOrder entries → entry.next ≡ head_of entries
    → slice_get entries (head_of entries) ≡ Some entry → (index : ℕ) (due : Due)
    → slice_get (map due_view entries) index ≢ Some (Some due)
none-view entries entry order same at index due is =
    let is_next : next_at entries (head_of entries) ≡ entry.next =
    field-at (λ each. each.next) 0 entries (head_of entries) entry at in
    let known = listed-view entries index due is in
    let first =
    ring-first (head_of entries) (next_at entries) (previous_at entries) (time_at entries)
    (listed_at entries) index order.ring known.0 in
    let on : listed_at entries (head_of entries) ≡ true = ap (listed_at entries) (sym (is_next ∙ same)) ∙ first.0 in
    let off : listed_at entries (head_of entries) ≡ false = order.ring.apart in
    absurd cc

pub view-new : (head : DueEntry) (places : ℕ) → head.listed ≡ false
    → map due_view (replicate places blank_entry ++ head ∷ []) ≡ replicate (places + 1) None
view-new head zero off = ap (λ (flag : Bool). cond flag (Some (due_of head)) None ∷ []) off
view-new head (suc places) off =
    let more : suc places + 1 ≡ suc (places + 1) = omega arith in
    ap (λ (dues : List (Option Due)). None ∷ dues) (view-new head places off)
    ∙ ap (λ (count : ℕ). replicate count None) (sym more)

-- new entries are in order: none is listed, and the head is behind and before itself
pub order-new : (head : DueEntry) (places : ℕ) → places ≤ 65536 → head.next ≡ places → head.previous ≡ places
    → head.listed ≡ false → IsOrder (replicate places blank_entry ++ head ∷ [])
order-new head places small is_next is_previous off = record {
  some = omega (arith, long);
  small = omega (arith, long);
  ring = record {
    apart = never (head_of entries);
    below = λ index on. absurd (clash index on);
    next_on = λ index on. inl (next_head index on);
    previous_on = λ index on. inl (previous_head index on);
    there = λ index on. ap (previous_at entries) (next_head index on) ∙ (previous_head (head_of entries) (inl refl)
        ∙ sym (at_head index on));
    back = λ index on. ap (next_at entries) (previous_head index on) ∙ (next_head (head_of entries) (inl refl)
        ∙ sym (at_head index on));
    rising = λ index on apart other. absurd (apart (at_head index on));
  };
} where
  entries : List DueEntry
  entries = replicate places blank_entry ++ head ∷ []

  bare : length (replicate places blank_entry) ≡ places
  bare = length-replicate places blank_entry

  long : length entries ≡ places + 1
  long = omega (arith, length-append (replicate places blank_entry) (head ∷ []), bare)

  is_head : head_of entries ≡ places
  is_head = omega (arith, long)

  at : slice_get entries places ≡ Some head
  at = ap (slice_get entries) (sym bare) ∙ slice_get_last (replicate places blank_entry) head

  blank : (index : ℕ) → index < places → slice_get entries index ≡ Some blank_entry
  blank index low =
      get-append_left (replicate places blank_entry) (head ∷ []) index (omega (arith, low, bare))
      ∙ slice_get-replicate places index blank_entry low

  never : (index : ℕ) → listed_at entries index ≡ false
  never index = elim ((slice_get_cases entries index).1) [
    | inl found ↦ elim (same? index places) [
      | inl same ↦
          field-at (λ each. each.listed) false entries index head (ap (slice_get entries) same ∙ at) ∙ off
      | inr apart ↦
          field-at (λ each. each.listed) false entries index blank_entry
          (blank index (omega (arith, found.1, long, apart)))
    ]
    | inr past ↦
        ap (λ (o : Option DueEntry). elim o as (λ _. Bool) [ Some each ↦ each.listed | None ↦ false ]) past.1
  ]

  clash : (index : ℕ) → listed_at entries index ≡ true → ⊥
  clash index on = let not : listed_at entries index ≡ false = never index in absurd cc

  at_head : (index : ℕ) → IsOn (head_of entries) (listed_at entries) index → index ≡ head_of entries
  at_head index on = elim on [ inl same ↦ same | inr listed ↦ absurd (clash index listed) ]

  next_head : (index : ℕ) → IsOn (head_of entries) (listed_at entries) index → next_at entries index ≡ head_of entries
  next_head index on =
      ap (next_at entries) (at_head index on ∙ is_head)
      ∙ (field-at (λ each. each.next) 0 entries places head at ∙ (is_next ∙ sym is_head))

  previous_head : (index : ℕ) → IsOn (head_of entries) (listed_at entries) index
      → previous_at entries index ≡ head_of entries
  previous_head index on =
      ap (previous_at entries) (at_head index on ∙ is_head)
      ∙ (field-at (λ each. each.previous) 0 entries places head at ∙ (is_previous ∙ sym is_head))

-- ---- the entries as they are kept

-- a place of the ring that is not the head was written
on-written : (written : List DueEntry) (places : ℕ) (head : DueEntry) (index : ℕ) → length written ≤ places
    → IsOn (head_of (with_padding written blank_entry places ++ head ∷ []))
    (listed_at (with_padding written blank_entry places ++ head ∷ [])) index → index ≢ places → index < length written
on-written written places head index inside on apart = elim ((slice_get_cases written index).1) [
  | inl found ↦ found.1
  | inr past ↦ absurd (elim on [
    | inl same ↦ apart (omega (arith, same, long))
    | inr listed ↦ let not : listed_at entries index ≡ false = never past.0 in absurd cc
  ])
] where
  entries : List DueEntry
  entries = with_padding written blank_entry places ++ head ∷ []

  long : length entries ≡ places + 1
  long =
      omega (
        arith,
        length-append (with_padding written blank_entry places) (head ∷ []),
        length-padded written blank_entry places inside,
      )

  never : length written ≤ index → listed_at entries index ≡ false
  never past = elim ((slice_get_cases entries index).1) [
    | inl found ↦
        field-at (λ each. each.listed) false entries index blank_entry
        (get-blank written blank_entry places head index past (omega (arith, found.1, long, apart)))
    | inr none ↦
        ap (λ (o : Option DueEntry). elim o as (λ _. Bool) [ Some each ↦ each.listed | None ↦ false ]) none.1
  ]

-- the head is changed
pub head-changed : (written : List DueEntry) (places : ℕ) (head : DueEntry) (index : ℕ) (change : DueEntry → DueEntry)
    (entries : List DueEntry) → length written ≤ places → index ≡ places
    → with_padding written blank_entry places ++ head ∷ [] ≡ entries
    → with_padding written blank_entry places ++ change head ∷ [] ≡ update entries index change
head-changed written places head index change entries inside same is =
    sym (ap (λ (list : List DueEntry). update list index change) (sym is)
    ∙ (ap (λ (place : ℕ). update (with_padding written blank_entry places ++ head ∷ []) place change) same
    ∙ update-last written blank_entry places head change inside))

-- the entry of a place that is on the ring is changed
pub entry-changed : (written : List DueEntry) (places : ℕ) (head : DueEntry) (index : ℕ) (change : DueEntry → DueEntry)
    (was : DueEntry) (entries : List DueEntry) → length written ≤ places
    → IsOn (head_of entries) (listed_at entries) index → index ≢ places → was ≡ get_or written index was
    → with_padding written blank_entry places ++ head ∷ [] ≡ entries
    → with_padding (slice_set written index (change was)) blank_entry places ++ head ∷ [] ≡ update entries index change
entry-changed written places head index change was entries inside on apart at is =
    let low : index < length written =
    on-written written places head index inside
    (subst (λ (list : List DueEntry). IsOn (head_of list) (listed_at list) index) (sym is) on) apart in
    update-written written blank_entry places head change index was low (read-as written index was was low at refl)
    ∙ ap (λ (list : List DueEntry). update list index change) is

-- ---- several writes

field-update : {X : Type 0} (field_of : DueEntry → X) (blank : X) (entries : List DueEntry) (index : ℕ)
    (change : DueEntry → DueEntry) → ((each : DueEntry) → field_of (change each) ≡ field_of each)
    → field field_of blank (update entries index change) ≡ field field_of blank entries
field-update field_of blank entries index change keeps = elim (cases_option (slice_get entries index)) [
  | inl none ↦ ap (field field_of blank) (update-None entries index change none)
  | inr some ↦
      ap (field field_of blank) (update-Some entries index change some.0 some.1)
      ∙ (field-set field_of blank entries index (change some.0) (slice_get_within entries index some.0 some.1)
      ∙ put-self (field field_of blank entries) index (field_of (change some.0))
      (field-at field_of blank entries index some.0 some.1 ∙ sym (keeps some.0)))
]

-- which places are listed is the same after a change that keeps it
pub listed-kept : (entries new : List DueEntry) (index : ℕ) (change : DueEntry → DueEntry)
    → ((each : DueEntry) → (change each).listed ≡ each.listed) → new ≡ update entries index change
    → listed_at new ≡ listed_at entries
listed-kept entries new index change keeps is =
    ap listed_at is ∙ field-update (λ each. each.listed) false entries index change keeps

pub head-kept : (entries new : List DueEntry) (index : ℕ) (change : DueEntry → DueEntry)
    → new ≡ update entries index change → head_of new ≡ head_of entries
head-kept entries new index change is = ap head_of is ∙ ap (λ (long : ℕ). long - 1) (length-update entries index change)

-- a place is still on the ring after a change of another kind
pub on-kept : (entries new : List DueEntry) (index : ℕ) (change : DueEntry → DueEntry) (place : ℕ)
    → ((each : DueEntry) → (change each).listed ≡ each.listed) → new ≡ update entries index change
    → IsOn (head_of entries) (listed_at entries) place → IsOn (head_of new) (listed_at new) place
on-kept entries new index change place keeps is on =
    subst (λ (head : ℕ). IsOn head (listed_at new) place) (sym (head-kept entries new index change is))
    (subst (λ (listed : ℕ → Bool). IsOn (head_of entries) listed place)
    (sym (listed-kept entries new index change keeps is)) on)

-- a place is still on the ring after another was listed
pub on-listed : (entries new : List DueEntry) (index : ℕ) (entry : DueEntry) (place : ℕ) → index < length entries
    → entry.listed ≡ true → new ≡ slice_set entries index entry
    → IsOn (head_of entries) (listed_at entries) place → IsOn (head_of new) (listed_at new) place
on-listed entries new index entry place inside listed is on =
    let same : head_of new ≡ head_of entries =
    ap head_of is ∙ ap (λ (long : ℕ). long - 1) (length-set entries index entry) in
    let shown : listed_at new ≡ put (listed_at entries) index entry.listed =
    ap listed_at is ∙ field-set (λ each. each.listed) false entries index entry inside in
    elim on [
      | inl head ↦ inl (head ∙ sym same)
      | inr found ↦ inr (ap (λ (values : ℕ → Bool). values place) shown ∙ elim (same? place index) [
        | inl here ↦ put-same (listed_at entries) index entry.listed place here ∙ listed
        | inr apart ↦ put_other (listed_at entries) index entry.listed place apart ∙ found
      ])
    ]

-- what stood where an entry is changed, and what is written there
updated : (entries : List DueEntry) (index : ℕ) (change : DueEntry → DueEntry) → index < length entries
    → (was : DueEntry) × (slice_get entries index ≡ Some was)
    × (update entries index change ≡ slice_set entries index (change was))
updated entries index change inside =
    let there = slice_get_there entries index inside in
    (there.0, there.1, update-Some entries index change there.0 there.1)

-- a place is taken out by three changes
pub unlinked-by : (entries : List DueEntry) (place : ℕ) (entry : DueEntry) (first second third : List DueEntry)
    → IsOrder entries → listed_at entries place ≡ true → slice_get entries place ≡ Some entry
    → first ≡ update entries entry.previous (λ (each : DueEntry). record each { next = entry.next })
    → second ≡ update first entry.next (λ (each : DueEntry). record each { previous = entry.previous })
    → third ≡ update second place (λ (each : DueEntry). record each { listed = false })
    → IsOrder third × (map due_view third ≡ slice_set (map due_view entries) place None)
unlinked-by entries place entry first second third order on at is₁ is₂ is₃ =
    let change₁ : DueEntry → DueEntry = λ each. record each { next = entry.next } in
    let change₂ : DueEntry → DueEntry = λ each. record each { previous = entry.previous } in
    let change₃ : DueEntry → DueEntry = λ each. record each { listed = false } in
    let long₁ : length first ≡ length entries =
    ap (λ (list : List DueEntry). length list) is₁ ∙ length-update entries entry.previous change₁ in
    let long₂ : length second ≡ length first =
    ap (λ (list : List DueEntry). length list) is₂ ∙ length-update first entry.next change₂ in
    let u₁ = updated entries entry.previous change₁ (previous-inside entries place entry order (inr on) at) in
    let u₂ = updated first entry.next change₂ (omega (arith, next-inside entries place entry order (inr on) at, long₁)) in
    let u₃ = updated second place change₃ (omega (arith, slice_get_within entries place entry at, long₁, long₂)) in
    let done =
    unlinked entries place entry u₁.0 u₂.0 u₃.0 first second order on at u₁.1 (is₁ ∙ u₁.2) u₂.1 (is₂ ∙ u₂.2) u₃.1 in
    let is : third ≡ slice_set second place (record u₃.0 { listed = false }) = is₃ ∙ u₃.2 in
    (subst IsOrder (sym is) done.0, ap (map due_view) is ∙ done.1)

-- what is behind a place of the ring is an entry
pub next-low : (entries : List DueEntry) (at next : ℕ) → IsOrder entries → IsOn (head_of entries) (listed_at entries) at
    → next_at entries at ≡ next → next < length entries
next-low entries at next order on is =
    subst (λ (index : ℕ). index < length entries) is
    (on-inside entries (next_at entries at) order (order.ring.next_on at on))

-- a place is listed by a write and two changes
pub linked-by : (entries : List DueEntry) (place at next : ℕ) (entry : DueEntry) (first second third : List DueEntry)
    → IsOrder entries → place + 1 < length entries → listed_at entries place ≡ false
    → IsSpot entries place entry.time at → next_at entries at ≡ next → entry.previous ≡ at → entry.next ≡ next
    → entry.listed ≡ true → first ≡ slice_set entries place entry
    → second ≡ update first at (λ (each : DueEntry). record each { next = place })
    → third ≡ update second next (λ (each : DueEntry). record each { previous = place })
    → IsOrder third × (map due_view third ≡ slice_set (map due_view entries) place (Some (due_of entry)))
linked-by entries place at next entry first second third order inside off spot is_n is_previous is_next listed is₁ is₂ is₃ =
    let change₂ : DueEntry → DueEntry = λ each. record each { next = place } in
    let change₃ : DueEntry → DueEntry = λ each. record each { previous = place } in
    let long₁ : length first ≡ length entries =
    ap (λ (list : List DueEntry). length list) is₁ ∙ length-set entries place entry in
    let long₂ : length second ≡ length first =
    ap (λ (list : List DueEntry). length list) is₂ ∙ length-update first at change₂ in
    let low : next < length entries = next-low entries at next order spot.on is_n in
    let u₂ = updated first at change₂ (omega (arith, on-inside entries at order spot.on, long₁)) in
    let u₃ = updated second next change₃ (omega (arith, low, long₁, long₂)) in
    let done =
    linked entries place at next entry u₂.0 u₃.0 first second order inside off spot (sym is_n) is_previous is_next listed
    is₁ u₂.1 (is₂ ∙ u₂.2) u₃.1 in
    let is : third ≡ slice_set second next (record u₃.0 { previous = place }) = is₃ ∙ u₃.2 in
    (subst IsOrder (sym is) done.0, ap (map due_view) is ∙ done.1)
