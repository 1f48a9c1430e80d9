-- The parts of a list that is cut, and what a change of one element does to them.
use Rattle.std.proofs.Common.{ℕ, ◌≡◌, ◌≢◌, ◌+◌, ◌≤◌, ◌<◌, suc, zero, ◌∷◌, [], arith, refl, Some}
use Rattle.std.proofs.Common.{List, length, take, drop, sym, ap, ◌∙◌, inl, inr, length-drop}
use Rattle.std.specs.Prelude.{slice_get, sum_by}
use Rattle.std.proofs.lemmas.List.{take-append-drop, length-take-le, drop-drop, take-set-le, drop-set-lt, drop-set-add}
use Rattle.std.proofs.Math.Seq.{take-set-lt}
use Rattle.std.proofs.lemmas.List.Sums.{sum_by-cons, sum_by-append}
use Rattle.std.proofs.lemmas.Option.{slice_get_cases}
use Rattle.base_lists.specs.Update.{update}
use Rattle.base_lists.specs.Cut.{cut, start_of, total_of, count_at, part_of}
use Rattle.base_lists.proofs.Update.{update-Some, update-None, slice_get-update_other, update-on}

pub get-take : {A : Type 0} (prefix index : ℕ) (xs : List A) → index < prefix
    → slice_get (take prefix xs) index ≡ slice_get xs index
get-take zero index xs inside = absurd (omega arith)
get-take (suc prefix) index [] inside = refl
get-take (suc prefix) zero (x ∷ xs) inside = refl
get-take (suc prefix) (suc index) (x ∷ xs) inside = get-take prefix index xs (omega arith)

pub get-drop : {A : Type 0} (prefix index : ℕ) (xs : List A)
    → slice_get (drop prefix xs) index ≡ slice_get xs (prefix + index)
get-drop zero index xs = let same : index ≡ 0 + index = omega arith in ap (slice_get xs) same
get-drop (suc prefix) index [] = refl
get-drop (suc prefix) index (x ∷ xs) =
    let same : suc (prefix + index) ≡ suc prefix + index = omega arith in
    get-drop prefix index xs ∙ ap (λ (other_part : ℕ). slice_get (x ∷ xs) other_part) same

-- an element of a part
pub get-part : {A : Type 0} (counts : List ℕ) (xs : List A) (part index : ℕ) → index < count_at counts part
    → slice_get (part_of counts xs part) index ≡ slice_get xs (start_of counts part + index)
get-part counts xs part index inside =
    get-take (count_at counts part) index (drop (start_of counts part) xs) inside
    ∙ get-drop (start_of counts part) index xs

-- an element of a part is an element of the list, before the end of the parts
pub start-inside : (counts : List ℕ) (part index : ℕ) → index < count_at counts part
    → start_of counts part + index < total_of counts
start-inside [] part index inside = absurd (omega arith)
start-inside (count ∷ counts) zero index inside = omega arith
start-inside (count ∷ counts) (suc part) index inside =
    let rest : start_of counts part + index < total_of counts = start-inside counts part index inside in omega arith

-- parts follow one another
pub start-next : (counts : List ℕ) (part other_part : ℕ) → part < other_part → other_part < length counts
    → start_of counts part + count_at counts part ≤ start_of counts other_part
start-next [] part other_part inside within = absurd (omega arith)
start-next (count ∷ counts) part zero inside within = absurd (omega arith)
start-next (count ∷ counts) zero (suc other_part) inside within = omega arith
start-next (count ∷ counts) (suc part) (suc other_part) inside within =
    let rest : start_of counts part + count_at counts part ≤ start_of counts other_part =
    start-next counts part other_part (omega arith) (omega arith) in
    omega arith

pub start-whole : (counts : List ℕ) (part : ℕ) → start_of counts part + count_at counts part ≤ total_of counts
start-whole [] part = omega arith
start-whole (count ∷ counts) zero = omega arith
start-whole (count ∷ counts) (suc part) =
    let rest : start_of counts part + count_at counts part ≤ total_of counts = start-whole counts part in omega arith

-- a part with an element is there
pub count-inside : (counts : List ℕ) (part index : ℕ) → index < count_at counts part → part < length counts
count-inside [] part index inside = absurd (omega arith)
count-inside (count ∷ counts) zero index inside = omega arith
count-inside (count ∷ counts) (suc part) index inside =
    let rest : part < length counts = count-inside counts part index inside in omega arith

-- an element of the list is in one part alone
pub same_place : (counts : List ℕ) (part index other_part other_index : ℕ) → index < count_at counts part
    → other_index < count_at counts other_part → start_of counts part + index ≡ start_of counts other_part + other_index
    → (part ≡ other_part) × (index ≡ other_index)
same_place [] part index other_part other_index inside other_inside same = absurd (omega arith)
same_place (count ∷ counts) zero index zero other_index inside other_inside same = (refl, omega arith)
same_place (count ∷ counts) zero index (suc other_part) other_index inside other_inside same = absurd (omega arith)
same_place (count ∷ counts) (suc part) index zero other_index inside other_inside same = absurd (omega arith)
same_place (count ∷ counts) (suc part) index (suc other_part) other_index inside other_inside same =
    let rest : (part ≡ other_part) × (index ≡ other_index) =
    same_place counts part index other_part other_index inside other_inside (omega arith) in
    (ap suc rest.0, rest.1)

-- elements in order of their places are in order of their parts, and within a part in order
pub place_order : (counts : List ℕ) (part index other_part other_index : ℕ) → index < count_at counts part
    → other_index < count_at counts other_part → start_of counts part + index ≤ start_of counts other_part + other_index
    → (part ≤ other_part) × (other_part ≡ part → index ≤ other_index)
place_order [] part index other_part other_index inside other_inside e = absurd (omega arith)
place_order (count ∷ counts) zero index zero other_index inside other_inside e = (omega arith, λ _. omega arith)
place_order (count ∷ counts) zero index (suc other_part) other_index inside other_inside e =
    (omega arith, λ no. absurd (omega arith))
place_order (count ∷ counts) (suc part) index zero other_index inside other_inside e = absurd (omega arith)
place_order (count ∷ counts) (suc part) index (suc other_part) other_index inside other_inside e =
    let rest : (part ≤ other_part) × (other_part ≡ part → index ≤ other_index) =
    place_order counts part index other_part other_index inside other_inside (omega arith) in
    (omega (arith, rest.0), λ same. rest.1 (omega arith))

pub length-cut : {A : Type 0} (counts : List ℕ) (xs : List A) → length (cut counts xs) ≡ length counts
length-cut [] xs = refl
length-cut (count ∷ counts) xs =
    let rest : length (cut counts (drop count xs)) ≡ length counts = length-cut counts (drop count xs) in omega arith

pub get-cut : {A : Type 0} (counts : List ℕ) (xs : List A) (part : ℕ) → part < length counts
    → slice_get (cut counts xs) part ≡ Some (part_of counts xs part)
get-cut [] xs part inside = absurd (omega arith)
get-cut (count ∷ counts) xs zero inside = refl
get-cut {A = A} (count ∷ counts) xs (suc part) inside =
    get-cut counts (drop count xs) part (omega arith)
    ∙ ap (λ (others : List A). Some (take (count_at counts part) others)) (drop-drop (start_of counts part) count xs)

-- a part has as many elements as its count, where the list has them
pub length-part : {A : Type 0} (counts : List ℕ) (xs : List A) (part : ℕ) → total_of counts ≤ length xs
    → length (part_of counts xs part) ≡ count_at counts part
length-part counts xs part le =
    length-take-le (count_at counts part) (drop (start_of counts part) xs)
    (omega (arith, start-whole counts part, le, length-drop (start_of counts part) xs))

-- a change of an element within the first ones, and behind them
pub take-update_in : {A : Type 0} (prefix index : ℕ) (xs : List A) (change : A → A) → index < prefix
    → take prefix (update xs index change) ≡ update (take prefix xs) index change
take-update_in {A = A} prefix index xs change inside = elim ((slice_get_cases xs index).1) [
  | inl found ↦
      ap (take prefix) (update-Some xs index change found.0 found.2)
      ∙ (take-set-lt prefix xs index (change found.0) inside
      ∙ sym (update-Some (take prefix xs) index change found.0 (get-take prefix index xs inside ∙ found.2)))
  | inr found ↦
      ap (take prefix) (update-None xs index change found.1)
      ∙ sym (update-None (take prefix xs) index change (get-take prefix index xs inside ∙ found.1))
]

pub drop-update_in : {A : Type 0} (prefix index : ℕ) (xs : List A) (change : A → A) → index < prefix
    → drop prefix (update xs index change) ≡ drop prefix xs
drop-update_in prefix index xs change inside = elim ((slice_get_cases xs index).1) [
  | inl found ↦
      ap (drop prefix) (update-Some xs index change found.0 found.2)
      ∙ drop-set-lt prefix xs index (change found.0) inside
  | inr found ↦ ap (drop prefix) (update-None xs index change found.1)
]

pub take-update_past : {A : Type 0} (prefix index : ℕ) (xs : List A) (change : A → A)
    → take prefix (update xs (prefix + index) change) ≡ take prefix xs
take-update_past prefix index xs change = elim ((slice_get_cases xs (prefix + index)).1) [
  | inl found ↦
      ap (take prefix) (update-Some xs (prefix + index) change found.0 found.2)
      ∙ take-set-le prefix xs (prefix + index) (change found.0) (omega arith)
  | inr found ↦ ap (take prefix) (update-None xs (prefix + index) change found.1)
]

pub drop-update_past : {A : Type 0} (prefix index : ℕ) (xs : List A) (change : A → A)
    → drop prefix (update xs (prefix + index) change) ≡ update (drop prefix xs) index change
drop-update_past prefix index xs change = elim ((slice_get_cases xs (prefix + index)).1) [
  | inl found ↦
      ap (drop prefix) (update-Some xs (prefix + index) change found.0 found.2)
      ∙ (drop-set-add prefix xs index (change found.0)
      ∙ sym (update-Some (drop prefix xs) index change found.0 (get-drop prefix index xs ∙ found.2)))
  | inr found ↦
      ap (drop prefix) (update-None xs (prefix + index) change found.1)
      ∙ sym (update-None (drop prefix xs) index change (get-drop prefix index xs ∙ found.1))
]

-- a change of an element changes its part alone
pub cut-update : {A : Type 0} (counts : List ℕ) (xs : List A) (part index : ℕ) (change : A → A)
    → index < count_at counts part
    → cut counts (update xs (start_of counts part + index) change)
    ≡ update (cut counts xs) part (λ piece. update piece index change)
cut-update [] xs part index change inside = absurd (omega arith)
cut-update {A = A} (count ∷ counts) xs zero index change inside =
    let same : 0 + index ≡ index = omega arith in
    ap (λ (other_part : ℕ). cut (count ∷ counts) (update xs other_part change)) same
    ∙ (ap (λ (piece : List A). piece ∷ cut counts (drop count (update xs index change)))
    (take-update_in count index xs change inside)
    ∙ ap (λ (others : List A). update (take count xs) index change ∷ cut counts others)
    (drop-update_in count index xs change inside))
cut-update {A = A} (count ∷ counts) xs (suc part) index change inside =
    let same : count + start_of counts part + index ≡ count + (start_of counts part + index) = omega arith in
    ap (λ (other_part : ℕ). cut (count ∷ counts) (update xs other_part change)) same
    ∙ (ap (λ (piece : List A). piece ∷ cut counts
    (drop count (update xs (count + (start_of counts part + index)) change)))
    (take-update_past count (start_of counts part + index) xs change)
    ∙ (ap (λ (others : List A). take count xs ∷ cut counts others)
    (drop-update_past count (start_of counts part + index) xs change)
    ∙ (ap (λ (ps : List (List A)). take count xs ∷ ps) (cut-update counts (drop count xs) part index change inside)
    ∙ sym (update-on (take count xs) (cut counts (drop count xs)) part (λ piece. update piece index change)))))

-- what is counted in the parts is what is counted in the list
pub sum-cut : {A : Type 0} (value : A → ℕ) (counts : List ℕ) (xs : List A) → total_of counts ≡ length xs
    → sum_by (λ piece. sum_by value piece) (cut counts xs) ≡ sum_by value xs
sum-cut value [] [] same = refl
sum-cut value [] (x ∷ xs) same = absurd (omega arith)
sum-cut {A = A} value (count ∷ counts) xs same =
    let rest : total_of counts ≡ length (drop count xs) = omega (arith, length-drop count xs) in
    omega (
      arith,
      sum_by-cons (λ (piece : List A). sum_by value piece) (take count xs) (cut counts (drop count xs)),
      sum-cut value counts (drop count xs) rest,
      sum_by-append value (take count xs) (drop count xs),
      ap (sum_by value)
          (take-append-drop count xs),
    )

-- what is counted in a list of as many elements as there are counts, each of which counts as much as its count
pub sum_by-total : {A : Type 0} (value : A → ℕ) (items : List A) (counts : List ℕ) → length items ≡ length counts
    → ((place : ℕ) (item : A) (count : ℕ) → slice_get items place ≡ Some item → slice_get counts place ≡ Some count
    → value item ≡ count)
    → sum_by value items ≡ total_of counts
sum_by-total value [] [] same each = refl
sum_by-total value [] (count ∷ counts) same each = absurd (omega arith)
sum_by-total value (item ∷ items) [] same each = absurd (omega arith)
sum_by-total value (item ∷ items) (count ∷ counts) same each =
    let rest : sum_by value items ≡ total_of counts =
    sum_by-total value items counts (omega arith) (λ place later number. each (suc place) later number) in
    omega (arith, sum_by-cons value item items, each 0 item count refl refl, rest)

-- the part with the changed element, and the others
pub part-update_same : {A : Type 0} (counts : List ℕ) (xs : List A) (part index : ℕ) (change : A → A)
    → index < count_at counts part
    → part_of counts (update xs (start_of counts part + index) change) part
    ≡ update (part_of counts xs part) index change
part-update_same counts xs part index change inside =
    ap (take (count_at counts part)) (drop-update_past (start_of counts part) index xs change)
    ∙ take-update_in (count_at counts part) index (drop (start_of counts part) xs) change inside

pub part-update_other : {A : Type 0} (counts : List ℕ) (xs : List A) (part index : ℕ) (change : A → A) (other_part : ℕ)
    → index < count_at counts part → other_part ≢ part → other_part < length counts
    → part_of counts (update xs (start_of counts part + index) change) other_part ≡ part_of counts xs other_part
part-update_other {A = A} counts xs part index change other_part inside other within =
    let both : Some (part_of counts (update xs (start_of counts part + index) change) other_part) ≡ Some
    (part_of counts xs other_part) =
    sym (get-cut counts (update xs (start_of counts part + index) change) other_part within)
    ∙ (ap (λ (ps : List (List A)). slice_get ps other_part) (cut-update counts xs part index change inside)
    ∙ (slice_get-update_other (cut counts xs) part (λ piece. update piece index change) other_part other
    ∙ get-cut counts xs other_part within)) in
    cc
