-- What is read at an index of a list.
use Rattle.std.proofs.Common.{ℕ, ◌≡◌, ◌≢◌, ◌<◌, zero, suc, List, [], ◌∷◌, ◌++◌, length, get_or, replicate, Some}
use Rattle.std.proofs.Common.{None}
use Rattle.std.proofs.Common.{refl, sym, ap, ◌∙◌, inl, inr, arith, length-set, get_or-set_same, get_or-set_other}
use Rattle.std.specs.Prelude.{slice_get, slice_set}
use Rattle.std.proofs.lemmas.Option.{slice_get_cases, slice_get_past, slice_get_within, slice_get_read}
use Rattle.std.proofs.lemmas.Option.{get_or_from_slice_get}
use Rattle.std.proofs.lemmas.List.{length-replicate, get_or-replicate}

-- two lists with the same element at each index
pub same_by_gets : {A : Type 0} (xs ys : List A) → ((index : ℕ) → slice_get xs index ≡ slice_get ys index) → xs ≡ ys
same_by_gets [] [] same = refl
same_by_gets [] (y ∷ ys) same = let none : None ≡ Some y = same 0 in absurd cc
same_by_gets (x ∷ xs) [] same = let none : Some x ≡ None = same 0 in absurd cc
same_by_gets (x ∷ xs) (y ∷ ys) same =
    let head : Some x ≡ Some y = same 0 in
    let first : x ≡ y = cc in
    let rest : xs ≡ ys = same_by_gets xs ys (λ index. same (suc index)) in
    cc

-- what a read gave stands at the index, within the list
pub read-at : {A : Type 0} (xs : List A) (index : ℕ) (read : A) → index < length xs → read ≡ get_or xs index read
    → slice_get xs index ≡ Some read
read-at xs index read inside is = slice_get_read xs (length xs) index read refl inside is

-- the same, where more is known of what was read
pub read-as : {A : Type 0} (xs : List A) (index : ℕ) (read known : A) → index < length xs
    → read ≡ get_or xs index read → read ≡ known → slice_get xs index ≡ Some known
read-as {A = A} xs index read known inside is same = read-at xs index read inside is ∙ ap (λ (x : A). Some x) same

-- after a write: the element that was written, and the others
pub get-set_same : {A : Type 0} (xs : List A) (index : ℕ) (new : A) → index < length xs
    → slice_get (slice_set xs index new) index ≡ Some new
get-set_same xs index new inside =
    slice_get_read (slice_set xs index new) (length xs) index new (sym (length-set xs index new)) inside
    (sym (get_or-set_same xs index new new inside))

pub get-set_other : {A : Type 0} (xs : List A) (index : ℕ) (new : A) (other : ℕ) → other ≢ index
    → slice_get (slice_set xs index new) other ≡ slice_get xs other
get-set_other xs index new other apart = elim ((slice_get_cases xs other).1) [
  | inl there ↦
      slice_get_read (slice_set xs index new) (length xs) other there.0 (sym (length-set xs index new)) there.1
      (sym (get_or-set_other xs index other new there.0 apart ∙ there.3))
      ∙ sym there.2
  | inr past ↦ slice_get_past (slice_set xs index new) other (rw length-set past.0) ∙ sym past.1
]

-- the elements before those that are appended
pub get-append_left : {A : Type 0} (xs ys : List A) (index : ℕ) → index < length xs
    → slice_get (xs ++ ys) index ≡ slice_get xs index
get-append_left (x ∷ xs) ys zero inside = refl
get-append_left (x ∷ xs) ys (suc index) inside = get-append_left xs ys index (omega arith)
get-append_left [] ys index inside = absurd (omega arith)

-- an element of a list of equal ones
pub replicate-is : {A : Type 0} (count index : ℕ) (x y : A) → slice_get (replicate count x) index ≡ Some y → y ≡ x
replicate-is count index x y at =
    sym (get_or_from_slice_get (replicate count x) index y x at)
    ∙ get_or-replicate count index x x
    (omega (arith, slice_get_within (replicate count x) index y at, length-replicate count x))
