-- A segment after writes: its length, and the writes in two steps.
use Rattle.std.proofs.Common.{◌≡◌, ℕ, List, [], ◌∷◌, ◌++◌, length, ◌∙◌}
use Rattle.std.specs.Prelude.{replicate}
use Rattle.std.proofs.lemmas.List.Sums.{fold-append}
use Rattle.std.proofs.lemmas.List.Elements.{All-append, All-nil, All-cons, All-head, All-tail}
use Rattle.std.proofs.lemmas.List.{length-replicate}
use Rattle.part_segment.specs.Image.{Write, FitsIn, AllFit, overwritten, written_by, image}
use Rattle.part_segment.proofs.Lengths.{length-with_part}

-- no writes fit
pub all_fit_none : (len : ℕ) → AllFit len []
all_fit_none len = All-nil (FitsIn len)

-- one write that fits
pub all_fit_one : (len : ℕ) (write : Write) → FitsIn len write → AllFit len (write ∷ [])
all_fit_one len write fits = All-cons (FitsIn len) write [] fits (All-nil (FitsIn len))

-- writes that fit, and more that do
pub all_fit-append : (len : ℕ) (writes later : List Write) → AllFit len writes → AllFit len later
    → AllFit len (writes ++ later)
all_fit-append len writes later = All-append (FitsIn len) writes later

-- a write that fits keeps the length
pub length-overwritten : (bytes : List ℕ) (write : Write) → FitsIn (length bytes) write
    → length (overwritten bytes write) ≡ length bytes
length-overwritten bytes write fits = length-with_part bytes write.offset write.bytes fits

-- so do writes that fit
pub length-written_by : (len : ℕ) (bytes : List ℕ) (writes : List Write) → length bytes ≡ len → AllFit len writes
    → length (written_by bytes writes) ≡ len
length-written_by len bytes [] long fit = long
length-written_by len bytes (write ∷ writes) long fit =
    let first : FitsIn (length bytes) write = rw long (All-head (FitsIn len) write writes fit) in
    length-written_by len (overwritten bytes write) writes (length-overwritten bytes write first ∙ long)
    (All-tail (FitsIn len) write writes fit)

-- writes in two steps
pub written_by-append : (bytes : List ℕ) (writes later : List Write)
    → written_by bytes (writes ++ later) ≡ written_by (written_by bytes writes) later
written_by-append bytes writes later = fold-append overwritten bytes writes later

-- a segment has its length, whatever was written that fits
pub length-image : (len : ℕ) (writes : List Write) → AllFit len writes → length (image len writes) ≡ len
length-image len writes fit = length-written_by len (replicate len 0) writes (length-replicate len 0) fit

-- a segment to which more is written
pub image-append : (len : ℕ) (writes later : List Write)
    → image len (writes ++ later) ≡ written_by (image len writes) later
image-append len writes later = written_by-append (replicate len 0) writes later
