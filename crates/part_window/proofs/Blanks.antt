-- A list with blanks behind it: what is read and written.
use Rattle.std.proofs.Common.{ℕ, zero, suc, ◌≡◌, ◌+◌, ◌-◌, ◌<◌, ◌≤◌, List, [], ◌∷◌, ◌++◌, Some, length, sym, ap}
use Rattle.std.proofs.Common.{◌∙◌, arith, replicate, append_assoc}
use Rattle.std.proofs.Common.{length-append, length-set}
use Rattle.std.specs.Prelude.{slice_get, slice_set}
use Rattle.std.proofs.lemmas.List.{length-replicate, replicate-append-replicate, set_at, set-append_left}
use Rattle.base_lists.proofs.Indexes.{get-append_left}
use Rattle.base_lists.proofs.Places.{slice_get_last, slice_get-replicate}
use Rattle.base_lists.specs.Update.{update}
use Rattle.base_lists.proofs.Update.{update-Some}
use Rattle.part_window.specs.PaddedLists.{with_padding}

pub length-padded : {A : Type 0} (items : List A) (blank : A) (len : ℕ) → length items ≤ len
    → length (with_padding items blank len) ≡ len
length-padded items blank len inside =
    omega (
      arith,
      length-append items (replicate (len - length items) blank),
      length-replicate (len - length items) blank,
    )

-- with some of the blanks kept it is the same list
pub padded-more : {A : Type 0} (items : List A) (blank : A) (len kept : ℕ) → kept ≤ len
    → with_padding (items ++ replicate (kept - length items) blank) blank len ≡ with_padding items blank len
padded-more items blank len kept inside =
    let more : ℕ = kept - length items in
    let long : length (items ++ replicate more blank) ≡ length items + more =
    omega (arith, length-append items (replicate more blank), length-replicate more blank) in
    let all : more + (len - length (items ++ replicate more blank)) ≡ len - length items = omega (arith, long) in
    append_assoc items (replicate more blank) _ ∙ ap (λ (rest : List _). items ++ rest)
    (replicate-append-replicate more (len - length (items ++ replicate more blank)) blank
    ∙ ap (λ (count : ℕ). replicate count blank) all)

-- a write within what is kept
pub padded-set : {A : Type 0} (items : List A) (blank : A) (len index : ℕ) (value : A) → index < length items
    → with_padding (slice_set items index value) blank len ≡ slice_set (with_padding items blank len) index value
padded-set items blank len index value inside =
    ap (λ (count : ℕ). slice_set items index value ++ replicate (len - count) blank) (length-set items index value)
    ∙ sym (set-append_left items (replicate (len - length items) blank) index value inside)

get-behind : {A : Type 0} (xs ys : List A) (index : ℕ) → length xs ≤ index
    → slice_get (xs ++ ys) index ≡ slice_get ys (index - length xs)
get-behind [] ys index past = ap (slice_get ys) (omega arith)
get-behind (x ∷ xs) ys zero past = absurd (omega arith)
get-behind (x ∷ xs) ys (suc index) past = get-behind xs ys index (omega arith) ∙ ap (slice_get ys) (omega arith)

-- what stands in the list with one element more: what was written, a blank, or the one
pub get-written : {A : Type 0} (items : List A) (blank : A) (len : ℕ) (last : A) (index : ℕ) → index < length items
    → slice_get (with_padding items blank len ++ last ∷ []) index ≡ slice_get items index
get-written items blank len last index inside =
    get-append_left (with_padding items blank len) (last ∷ []) index
    (omega (arith, length-append items (replicate (len - length items) blank)))
    ∙ get-append_left items (replicate (len - length items) blank) index inside

pub get-blank : {A : Type 0} (items : List A) (blank : A) (len : ℕ) (last : A) (index : ℕ) → length items ≤ index
    → index < len → slice_get (with_padding items blank len ++ last ∷ []) index ≡ Some blank
get-blank items blank len last index past low =
    get-append_left (with_padding items blank len) (last ∷ []) index
    (omega (arith, length-padded items blank len (omega arith)))
    ∙ (get-behind items (replicate (len - length items) blank) index past
    ∙ slice_get-replicate (len - length items) (index - length items) blank (omega arith))

pub get-last : {A : Type 0} (items : List A) (blank : A) (len : ℕ) (last : A) → length items ≤ len
    → slice_get (with_padding items blank len ++ last ∷ []) len ≡ Some last
get-last items blank len last inside =
    ap (slice_get (with_padding items blank len ++ last ∷ [])) (sym (length-padded items blank len inside))
    ∙ slice_get_last (with_padding items blank len) last

-- the one, or what was written, is changed
pub update-last : {A : Type 0} (items : List A) (blank : A) (len : ℕ) (last : A) (change : A → A) → length items ≤ len
    → update (with_padding items blank len ++ last ∷ []) len change ≡ with_padding items blank len ++ change last ∷ []
update-last items blank len last change inside =
    update-Some (with_padding items blank len ++ last ∷ []) len change last (get-last items blank len last inside)
    ∙ set_at (with_padding items blank len) last [] (change last) len (length-padded items blank len inside)

pub update-written : {A : Type 0} (items : List A) (blank : A) (len : ℕ) (last : A) (change : A → A) (index : ℕ) (was : A)
    → index < length items → slice_get items index ≡ Some was
    → with_padding (slice_set items index (change was)) blank len ++ last ∷ []
    ≡ update (with_padding items blank len ++ last ∷ []) index change
update-written items blank len last change index was inside at =
    ap (λ (list : List _). list ++ last ∷ []) (padded-set items blank len index (change was) inside)
    ∙ (sym (set-append_left (with_padding items blank len) (last ∷ []) index (change was)
    (omega (arith, length-append items (replicate (len - length items) blank))))
    ∙ sym (update-Some (with_padding items blank len ++ last ∷ []) index change was
    (get-written items blank len last index inside ∙ at)))
