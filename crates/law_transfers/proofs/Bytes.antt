-- Bytes that were written stand where no later write has one.
use Rattle.std.proofs.Common.{◌≡◌, inl, inr, ℕ, suc, ◌+◌, ◌-◌, List, [], ◌∷◌, ◌++◌, length, Some, refl, sym, ap, ◌∙◌}
use Rattle.std.proofs.Common.{arith, take}
use Rattle.std.specs.List.{slice_get}
use Rattle.std.proofs.lemmas.Bool.{cases_lt}
use Rattle.std.proofs.lemmas.List.{length-take-le}
use Rattle.std.proofs.lemmas.Option.{slice_get_within}
use Rattle.std.proofs.lemmas.List.Elements.{All-nil, All-cons, All-head, All-tail}
use Rattle.base_lists.proofs.Cut.{get-take, get-drop}
use Rattle.base_lists.proofs.Indexes.{get-append_left}
use Rattle.part_segment.specs.Image.{Write, FitsIn, AllFit, overwritten, written_by, image}
use Rattle.part_segment.proofs.Images.{length-overwritten, length-image, image-append}
use Rattle.law_transfers.specs.Chunks.{Touches, LeaveAlone}
use Rattle.base_lists.proofs.Appended.{get-append_right}

get-append_from : {A : Type 0} (xs ys : List A) (at index : ℕ) → at ≡ length xs + index
    → slice_get (xs ++ ys) at ≡ slice_get ys index
get-append_from xs ys at index is = ap (slice_get (xs ++ ys)) is ∙ get-append_right xs ys index

-- a byte that the write has
written_there : (bytes : List ℕ) (write : Write) (place byte : ℕ) → FitsIn (length bytes) write
    → slice_get write.bytes place ≡ Some byte
    → slice_get (overwritten bytes write) (write.offset + place) ≡ Some byte
written_there bytes write place byte fits at =
    let first : length (take write.offset bytes)
    ≡ write.offset = length-take-le write.offset bytes (omega (arith, fits)) in
    get-append_from (take write.offset bytes) _ (write.offset + place) place (omega (arith, first))
    ∙ (get-append_left write.bytes _ place (slice_get_within write.bytes place byte at) ∙ at)

-- one that it hasn't
written_apart : (bytes : List ℕ) (write : Write) (offset : ℕ) → FitsIn (length bytes) write
    → (Touches write offset → ⊥)
    → slice_get (overwritten bytes write) offset ≡ slice_get bytes offset
written_apart bytes write offset fits apart =
    let first : length (take write.offset bytes)
    ≡ write.offset = length-take-le write.offset bytes (omega (arith, fits)) in
    elim (cases_lt offset write.offset) [
      | inl before ↦ get-append_left (take write.offset bytes) _ offset (omega (arith, first, before))
          ∙ get-take write.offset offset bytes before
      | inr past ↦ elim (cases_lt offset (write.offset + length write.bytes)) [
        | inl inside ↦ absurd (apart (past, inside))
        | inr behind ↦ (
            let rest = offset - (write.offset + length write.bytes) in
            let is : offset ≡ (write.offset + length write.bytes) + rest = omega (arith, behind) in
            get-append_from (take write.offset bytes) _ offset (length write.bytes + rest) (omega (arith, first, is))
            ∙ (get-append_right write.bytes _ rest
            ∙ (get-drop (write.offset + length write.bytes) rest bytes ∙ ap (slice_get bytes) (sym is))))
      ]
    ]

-- after writes that haven't
later_apart : (len : ℕ) (bytes : List ℕ) (writes : List Write) (offset : ℕ) → length bytes ≡ len → AllFit len writes
    → LeaveAlone writes offset → slice_get (written_by bytes writes) offset ≡ slice_get bytes offset
later_apart len bytes [] offset long fit alone = refl
later_apart len bytes (write ∷ writes) offset long fit alone =
    let first : FitsIn (length bytes) write = rw long (All-head (FitsIn len) write writes fit) in
    later_apart len (overwritten bytes write) writes offset (length-overwritten bytes write first ∙ long)
    (All-tail (FitsIn len) write writes fit) (λ place other at. alone (suc place) other at)
    ∙ written_apart bytes write offset first (alone 0 write refl)

-- writes of which the first ones fit
pub all_fit_first : (len : ℕ) (writes later : List Write) → AllFit len (writes ++ later) → AllFit len writes
all_fit_first len [] later fit = All-nil (FitsIn len)
all_fit_first len (write ∷ writes) later fit =
    All-cons (FitsIn len) write writes (All-head (FitsIn len) write (writes ++ later) fit)
    (all_fit_first len writes later (All-tail (FitsIn len) write (writes ++ later) fit))

pub all_fit_later : (len : ℕ) (writes later : List Write) → AllFit len (writes ++ later) → AllFit len later
all_fit_later len [] later fit = fit
all_fit_later len (write ∷ writes) later fit = all_fit_later len writes later
    (All-tail (FitsIn len) write (writes ++ later) fit)

-- the bytes of a write stand where no later write has one
pub stands : (len : ℕ) (before : List Write) (write : Write) (later : List Write)
    → AllFit len (before ++ write ∷ later) → (place byte : ℕ) → slice_get write.bytes place ≡ Some byte
    → LeaveAlone later (write.offset + place)
    → slice_get (image len (before ++ write ∷ later)) (write.offset + place) ≡ Some byte
stands len before write later fit place byte at alone =
    let long = length-image len before (all_fit_first len before (write ∷ later) fit) in
    let rest = all_fit_later len before (write ∷ later) fit in
    let here : FitsIn (length (image len before)) write = rw long (All-head (FitsIn len) write later rest) in
    ap (λ (bytes : List ℕ). slice_get bytes (write.offset + place)) (image-append len before (write ∷ later))
    ∙ (later_apart len (overwritten (image len before) write) later (write.offset + place)
    (length-overwritten (image len before) write here ∙ long) (All-tail (FitsIn len) write later rest) alone
    ∙ written_there (image len before) write place byte here at)
