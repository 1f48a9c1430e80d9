-- The places of a block's parts: a new one, and a write to the part at one.
use Rattle.std.proofs.Common.{ℕ, ◌≡◌, ◌≢◌, ◌+◌, ◌<◌, ◌≤◌, Option, Some, None, List, [], ◌∷◌, ◌++◌, length, get_or, suc}
use Rattle.std.proofs.Common.{zero, refl, sym, ap, ◌∙◌, inl, inr, arith, cond, length-set}
use Rattle.std.proofs.Common.{replicate}
use Rattle.std.specs.Prelude.{slice_get, slice_set, count_by, map}
use Rattle.std.specs.Option.{option_map}
use Rattle.std.specs.List.{refill}
use Rattle.std.proofs.lemmas.Option.{slice_get_read, slice_get_within, slice_get-map}
use Rattle.std.proofs.lemmas.Option.{get_or_from_slice_get}
use Rattle.std.proofs.lemmas.List.{length-replicate, get_or-replicate, length-map}
use Rattle.std.proofs.lemmas.List.Sums.{count_by-le-length, sum_by-set, sum_by-cons}
use Rattle.std.proofs.lemmas.List.Folds.{sum_by-replicate}
use Rattle.std.proofs.lemmas.Bool.Decides.{eqb_tells}
use Rattle.base_lists.proofs.Places.{slice_get_last}
use Rattle.base_lists.proofs.Indexes.{same_by_gets, get-set_same, get-set_other, get-append_left}
use Rattle.part_window.specs.Blocks.{part_at, parts_with, with_part, has_place, IsPlaced}

-- 1 for a part with a place
abbrev one : Option ℕ → ℕ
one found = cond (has_place found) 1 0

-- fewer parts have a place than there are, where one has none
pub placed_below : (places : List (Option ℕ)) (part : ℕ) → slice_get places part ≡ Some None
    → count_by has_place places < length places
placed_below [] part at = absurd cc
placed_below (None ∷ places) zero at = omega (arith, count_by-le-length has_place places, sum_by-cons one None places)
placed_below (Some place ∷ places) zero at = absurd cc
placed_below (None ∷ places) (suc part) at = omega (arith, placed_below places part at, sum_by-cons one None places)
placed_below (Some place ∷ places) (suc part) at =
    omega (arith, placed_below places part at, sum_by-cons one (Some place) places)

-- one more part has a place
placed_more : (places : List (Option ℕ)) (part place : ℕ) → slice_get places part ≡ Some None
    → count_by has_place (slice_set places part (Some place)) ≡ count_by has_place places + 1
placed_more places part place at =
    let here : get_or places part None ≡ None = get_or_from_slice_get places part None None at in
    omega (arith, sum_by-set one places part (Some place) None (slice_get_within places part None at), ap one here)

-- a part without a place gets the next one
pub placed-next : (filled capacity : ℕ) (places : List (Option ℕ)) (part : ℕ) → slice_get places part ≡ Some None
    → IsPlaced filled capacity places → IsPlaced (filled + 1) capacity (slice_set places part (Some filled))
placed-next filled capacity places part at placed =
    let inside_x : part < length places = slice_get_within places part None at in
    let here : slice_get (slice_set places part (Some filled)) part ≡ Some (Some filled) =
    get-set_same places part (Some filled) inside_x in
    record {
      room = rw length-set placed.room;
      few = rw length-set placed.few;
      counted = placed_more places part filled at ∙ ap (λ number. number + 1) placed.counted;
      inside = λ other place is. elim (eqb_tells other part) [
        | inl w ↦
            let mine : slice_get (slice_set places part (Some filled)) part ≡ Some (Some place) =
            ap (λ j. slice_get (slice_set places part (Some filled)) j) (sym w.1) ∙ is in
            let same : filled ≡ place = cc in omega arith
        | inr w ↦
            let old : place < filled =
            placed.inside other place (sym (get-set_other places part (Some filled) other w.1) ∙ is) in
            omega arith
      ];
      apart = λ other third place is it. elim (eqb_tells other part) [
        | inl w ↦ elim (eqb_tells third part) [
          | inl equal ↦ w.1 ∙ sym equal.1
          | inr equal ↦
              let mine : slice_get (slice_set places part (Some filled)) part ≡ Some (Some place) =
              ap (λ j. slice_get (slice_set places part (Some filled)) j) (sym w.1) ∙ is in
              let same : filled ≡ place = cc in
              let old : place < filled =
              placed.inside third place (sym (get-set_other places part (Some filled) third equal.1) ∙ it) in
              absurd (omega arith)
        ]
        | inr w ↦ elim (eqb_tells third part) [
          | inl equal ↦
              let mine : slice_get (slice_set places part (Some filled)) part ≡ Some (Some place) =
              ap (λ j. slice_get (slice_set places part (Some filled)) j) (sym equal.1) ∙ it in
              let same : filled ≡ place = cc in
              let old : place < filled =
              placed.inside other place (sym (get-set_other places part (Some filled) other w.1) ∙ is) in
              absurd (omega arith)
          | inr equal ↦
              placed.apart other third place (sym (get-set_other places part (Some filled) other w.1)
              ∙ is) (sym (get-set_other places part (Some filled) third equal.1) ∙ it)
        ]
      ];
    }

-- no part has a place
pub placed-none : (parts capacity : ℕ) (places : List (Option ℕ)) → places ≡ replicate parts None → parts ≤ capacity
    → parts ≤ 65536 → IsPlaced 0 capacity places
placed-none parts capacity places are room few = record {
  room = omega (arith, long, room);
  few = omega (arith, long, few);
  counted = ap (count_by has_place) are ∙ (sum_by-replicate one parts None ∙ omega arith);
  inside = λ part place is. absurd (none part place is);
  apart = λ part other place is it. absurd (none part place is);
} where
  long : length places ≡ parts
  long = ap length are ∙ length-replicate parts None

  none : (part place : ℕ) → slice_get places part ≡ Some (Some place) → ⊥
  none part place is =
      let inside : part < parts = omega (arith, slice_get_within places part (Some place) is, long) in
      let found : get_or places part None ≡ Some place = get_or_from_slice_get places part (Some place) None is in
      let same : get_or places part None ≡ None =
      ap (λ (ps : List (Option ℕ)). get_or ps part None) are ∙ get_or-replicate parts part None None inside in
      absurd cc

pub parts-none : (blank : List ℕ) (filled : List (List ℕ)) (parts : ℕ) (places : List (Option ℕ))
    → places ≡ replicate parts None → parts_with blank filled places ≡ replicate parts blank
parts-none blank filled parts places are = ap (map (part_at blank filled)) are ∙ all parts where
  all : (number : ℕ) → map (part_at blank filled) (replicate number None) ≡ replicate number blank
  all zero = refl
  all (suc number) = let rest = all number in cc

-- a part's bytes, at its place
pub part-get : (blank : List ℕ) (filled : List (List ℕ)) (places : List (Option ℕ)) (part place : ℕ) (bytes : List ℕ)
    → slice_get places part ≡ Some (Some place) → slice_get filled place ≡ Some bytes
    → slice_get (parts_with blank filled places) part ≡ Some bytes
part-get blank filled places part place bytes at is =
    slice_get-map (part_at blank filled) places part ∙ (ap (option_map (part_at blank filled)) at
    ∙ ap (λ (found : Option (List ℕ)). Some (elim found as (λ _. List ℕ) [ Some b ↦ b | None ↦ [] ])) is)

pub part-blank : (blank : List ℕ) (filled : List (List ℕ)) (places : List (Option ℕ)) (part : ℕ)
    → slice_get places part ≡ Some None → slice_get (parts_with blank filled places) part ≡ Some blank
part-blank blank filled places part at =
    slice_get-map (part_at blank filled) places part ∙ ap (option_map (part_at blank filled)) at

-- a new place begins with the bytes that its part had
pub parts-next : (blank : List ℕ) (filled : List (List ℕ)) (places : List (Option ℕ)) (part capacity : ℕ)
    → slice_get places part ≡ Some None → IsPlaced (length filled) capacity places
    → parts_with blank (filled ++ blank ∷ [])
    (slice_set places part (Some (length filled))) ≡ parts_with blank filled places
parts-next blank filled places part capacity at placed =
    same_by_gets _ _ (λ index. slice_get-map new _ index
    ∙ (here index ∙ sym (slice_get-map (part_at blank filled) places index))) where
      new : Option ℕ → List ℕ
      new = part_at blank (filled ++ blank ∷ [])

      old_place : (o : Option ℕ) → ((place : ℕ) → o ≡ Some place → place < length filled)
          → new o ≡ part_at blank filled o
      old_place None inside = refl
      old_place (Some place) inside =
          ap (λ (bytes : Option (List ℕ)). elim bytes as (λ _. List ℕ) [ Some bytes ↦ bytes | None ↦ [] ])
          (get-append_left filled (blank ∷ []) place (inside place refl))

      found : (index : ℕ) (o : Option (Option ℕ)) → slice_get places index ≡ o
          → option_map new o ≡ option_map (part_at blank filled) o
      found index None is = refl
      found index (Some o) is =
          ap (λ (bytes : List ℕ). Some bytes) (old_place o (λ place equal. placed.inside index place (is
          ∙ ap (λ (number : Option ℕ). Some number) equal)))

      here : (index : ℕ)
          → option_map new (slice_get (slice_set places part (Some (length filled))) index)
          ≡ option_map (part_at blank filled) (slice_get places index)
      here index = elim (eqb_tells index part) [
        | inl same ↦
            ap (λ (j : ℕ). option_map new (slice_get (slice_set places part (Some (length filled))) j)) same.1
            ∙ (ap (option_map new)
            (get-set_same places part (Some (length filled)) (slice_get_within places part None at))
            ∙ (ap (λ (bytes : Option (List ℕ)). Some (elim bytes as (λ _. List ℕ) [ Some bytes ↦ bytes | None ↦ [] ]))
            (slice_get_last filled blank)
            ∙ sym (ap (λ (j : ℕ). option_map (part_at blank filled) (slice_get places j)) same.1
            ∙ ap (option_map (part_at blank filled)) at)))
        | inr same ↦
            ap (option_map new) (get-set_other places part (Some (length filled)) index same.1)
            ∙ found index (slice_get places index) refl
      ]

-- a write at a place changes its part alone
pub parts-set : (blank : List ℕ) (filled : List (List ℕ)) (places : List (Option ℕ))
    (part place filled_len capacity : ℕ) (bytes : List ℕ) → slice_get places part ≡ Some (Some place)
    → place < length filled → IsPlaced filled_len capacity places
    → parts_with blank (slice_set filled place bytes) places ≡ slice_set (parts_with blank filled places) part bytes
parts-set blank filled places part place filled_len capacity bytes at inside placed =
    same_by_gets _ _ (λ index. slice_get-map new places index ∙ here index) where
      new : Option ℕ → List ℕ
      new = part_at blank (slice_set filled place bytes)

      long : length (parts_with blank filled places) ≡ length places
      long = length-map places (part_at blank filled)

      other : (o : Option ℕ) → o ≢ Some place → new o ≡ part_at blank filled o
      other None differs = refl
      other (Some p) differs =
          ap (λ (b : Option (List ℕ)). elim b as (λ _. List ℕ) [ Some b ↦ b | None ↦ [] ])
          (get-set_other filled place bytes p (λ equal. differs (ap (λ (number : ℕ). Some number) equal)))

      found : (index : ℕ) (o : Option (Option ℕ)) → index ≢ part → slice_get places index ≡ o
          → option_map new o ≡ option_map (part_at blank filled) o
      found index None differs is = refl
      found index (Some o) differs is =
          ap (λ (b : List ℕ). Some b) (other o (λ equal. differs (placed.apart index part place (is
          ∙ ap (λ (p : Option ℕ). Some p) equal) at)))

      here : (index : ℕ)
          → option_map new (slice_get places index)
          ≡ slice_get (slice_set (parts_with blank filled places) part bytes) index
      here index = elim (eqb_tells index part) [
        | inl same ↦
            ap (λ (j : ℕ). option_map new (slice_get places j)) same.1 ∙ (ap (option_map new) at
            ∙ (ap (λ (b : Option (List ℕ)). Some (elim b as (λ _. List ℕ) [ Some b ↦ b | None ↦ [] ]))
            (get-set_same filled place bytes inside)
            ∙ sym (ap (λ (j : ℕ). slice_get (slice_set (parts_with blank filled places) part bytes) j) same.1
            ∙ get-set_same (parts_with blank filled places) part bytes
            (omega (arith, slice_get_within places part (Some place) at, long)))))
        | inr same ↦
            found index (slice_get places index) same.1 refl
            ∙ (sym (slice_get-map (part_at blank filled) places index)
            ∙ sym (get-set_other (parts_with blank filled places) part bytes index same.1))
      ]

-- the parts after one of them was lent, at its place
pub parts-lent : (blank : List ℕ) (filled : List (List ℕ)) (places : List (Option ℕ))
    (part place filled_len capacity : ℕ) (old written : List ℕ) → slice_get places part ≡ Some (Some place)
    → slice_get filled place ≡ Some old → IsPlaced filled_len capacity places
    → parts_with blank (slice_set filled place (refill 8296 old written)) places
    ≡ with_part (parts_with blank filled places) part written
parts-lent blank filled places part place filled_len capacity old written at is placed =
    parts-set blank filled places part place filled_len capacity (refill 8296 old written) at
    (slice_get_within filled place old is) placed
    ∙ sym (ap (λ (found : Option (List ℕ)). elim found as (λ _. List (List ℕ)) [
      | Some bytes ↦ slice_set (parts_with blank filled places) part
          (refill 8296 bytes written)
      | None ↦ parts_with blank filled places
    ])
    (part-get blank filled places part place old at is))

-- a part's place, as it is read, where the parts' value is `parts`
pub place-read : (parts : List (List ℕ)) (filled : List (List ℕ)) (places : List (Option ℕ)) (part : ℕ)
    (read place : Option ℕ) (blank : List ℕ) → parts_with blank filled places ≡ parts → part < length parts
    → read ≡ get_or places part read → read ≡ place → slice_get places part ≡ Some place
place-read parts filled places part read place blank view inside is what =
    let long : length parts ≡ length places = ap length (sym view) ∙ length-map places (part_at blank filled) in
    slice_get_read places (length places) part read refl (omega (arith, long, inside)) is
    ∙ ap (λ (found : Option ℕ). Some found) what

-- the next place is below 65536, and there is room for it
pub place-fits : (filled capacity : ℕ) (places : List (Option ℕ)) (part : ℕ) → slice_get places part ≡ Some None
    → IsPlaced filled capacity places → (filled < 65536) × (filled < capacity)
place-fits filled capacity places part at placed =
    let below : count_by has_place places < length places = placed_below places part at in
    (omega (arith, below, placed.counted, placed.few), omega (arith, below, placed.counted, placed.room))
