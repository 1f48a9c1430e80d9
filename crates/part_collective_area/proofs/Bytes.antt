-- What the message of a part leaves of the parts.
use Rattle.std.proofs.Common.{◌≡◌, ◌⊎◌, inl, inr, ℕ, ◌+◌, ◌-◌, ◌^◌, ◌<◌, ◌≤◌, List, [], ◌∷◌, ◌++◌}
use Rattle.std.proofs.Common.{length, take, drop, None, refl, sym, ap, ◌∙◌, arith}
use Rattle.std.specs.List.{slice_get}
use Rattle.std.specs.Int.{w64, to_le_bytes, from_le_bytes}
use Rattle.std.proofs.Math.Seq.{take-append_seam, drop-append_seam}
use Rattle.std.proofs.lemmas.Bool.{cases_lt}
use Rattle.std.proofs.lemmas.List.{length-take, length-take-le}
use Rattle.std.proofs.lemmas.Nat.{from_le_bytes-to_le_bytes_8}
use Rattle.std.proofs.lemmas.Option.{slice_get_past}
use Rattle.std.proofs.lemmas.List.Elements.{All-head, All-tail}
use Rattle.base_lists.proofs.Cut.{get-take, get-drop}
use Rattle.base_lists.proofs.Indexes.{get-append_left, same_by_gets}
use Rattle.base_lists.proofs.Appended.{get-append_right}
use Rattle.part_segment.specs.Bytes.{part, with_part}
use Rattle.part_segment.specs.Image.{Write, FitsIn, AllFit, overwritten, written_by}
use Rattle.part_segment.proofs.Images.{length-overwritten}
use Rattle.part_segment.proofs.Lists.{with_none}

-- the bytes of a write stand at its place
pub part_written : (bytes new : List ℕ) (offset : ℕ) → offset + length new ≤ length bytes
    → part (with_part bytes offset new) offset (length new) ≡ new
part_written bytes new offset inside =
    let first : length (take offset bytes) ≡ offset = length-take-le offset bytes (omega (arith, inside)) in
    ap (take (length new)) (ap (λ (many : ℕ). drop many (with_part bytes offset new)) (sym first)
    ∙ drop-append_seam (take offset bytes) _)
    ∙ take-append_seam new _

-- the range has no byte of the write
abbrev pub IsApart : Write → (offset len : ℕ) → Type 0
IsApart write offset len =
    (write.bytes ≡ []) ⊎ ((write.offset + length write.bytes ≤ offset) ⊎ (offset + len ≤ write.offset))

get-append_from : {A : Type 0} (xs ys : List A) (at index : ℕ) → at ≡ length xs + index
    → slice_get (xs ++ ys) at ≡ slice_get ys index
get-append_from xs ys at index is = ap (slice_get (xs ++ ys)) is ∙ get-append_right xs ys index

byte_before : (bytes : List ℕ) (write : Write) (at : ℕ) → FitsIn (length bytes) write → at < write.offset
    → slice_get (overwritten bytes write) at ≡ slice_get bytes at
byte_before bytes write at fits before =
    let first : length (take write.offset bytes)
    ≡ write.offset = length-take-le write.offset bytes (omega (arith, fits)) in
    get-append_left (take write.offset bytes) _ at (omega (arith, first, before)) ∙ get-take write.offset at bytes before

byte_behind : (bytes : List ℕ) (write : Write) (at : ℕ) → FitsIn (length bytes) write
    → write.offset + length write.bytes ≤ at → slice_get (overwritten bytes write) at ≡ slice_get bytes at
byte_behind bytes write at fits behind =
    let first : length (take write.offset bytes)
    ≡ write.offset = length-take-le write.offset bytes (omega (arith, fits)) in
    let rest = at - (write.offset + length write.bytes) in
    let is : at ≡ (write.offset + length write.bytes) + rest = omega (arith, behind) in
    get-append_from (take write.offset bytes) _ at (length write.bytes + rest) (omega (arith, first, is))
    ∙ (get-append_right write.bytes _ rest
    ∙ (get-drop (write.offset + length write.bytes) rest bytes ∙ ap (slice_get bytes) (sym is)))

taken_past : (count place : ℕ) (xs : List ℕ) → count ≤ place → slice_get (take count xs) place ≡ None
taken_past count place xs far =
    let few = length-take count xs in
    slice_get_past (take count xs) place (omega (arith, few, far))

-- a part that a write leaves alone
pub part_spared : (bytes : List ℕ) (write : Write) (offset len : ℕ) → FitsIn (length bytes) write
    → IsApart write offset len → part (overwritten bytes write) offset len ≡ part bytes offset len
part_spared bytes write offset len fits (inl none) =
    ap (λ (now : List ℕ). part now offset len)
    (ap (with_part bytes write.offset) none ∙ with_none bytes write.offset)
part_spared bytes write offset len fits (inr apart) =
    same_by_gets (part (overwritten bytes write) offset len) (part bytes offset len) (λ place.
    elim (cases_lt place len) [
      | inl inside ↦ get-take len place (drop offset (overwritten bytes write)) inside
          ∙ (get-drop offset place (overwritten bytes write)
          ∙ (elim apart [
            | inl before ↦ byte_behind bytes write (offset + place) fits (omega (arith, before))
            | inr behind ↦ byte_before bytes write (offset + place) fits (omega (arith, behind, inside))
          ]
          ∙ (sym (get-drop offset place bytes) ∙ sym (get-take len place (drop offset bytes) inside))))
      | inr past ↦ taken_past len place (drop offset (overwritten bytes write)) past
          ∙ sym (taken_past len place (drop offset bytes) past)
    ])

-- a part that writes leave alone
abbrev pub AreApart : List Write → (offset len : ℕ) → Type 0
AreApart [] offset len = Unit {0}
AreApart (write ∷ writes) offset len = IsApart write offset len × AreApart writes offset len

pub parts_spared : (size : ℕ) (bytes : List ℕ) (writes : List Write) (offset len : ℕ) → length bytes ≡ size
    → AllFit size writes → AreApart writes offset len
    → part (written_by bytes writes) offset len ≡ part bytes offset len
parts_spared size bytes [] offset len long fit apart = refl
parts_spared size bytes (write ∷ writes) offset len long fit apart =
    let first : FitsIn (length bytes) write = rw long (All-head (FitsIn size) write writes fit) in
    parts_spared size (overwritten bytes write) writes offset len (length-overwritten bytes write first ∙ long)
    (All-tail (FitsIn size) write writes fit) apart.1
    ∙ part_spared bytes write offset len first apart.0

-- the number that was written
pub number_written : (bytes : List ℕ) (offset number : ℕ) → offset + 8 ≤ length bytes → number < 2 ^ 64
    → from_le_bytes w64 (part (with_part bytes offset (to_le_bytes w64 number)) offset 8) ≡ number
number_written bytes offset number inside small =
    ap (from_le_bytes w64) (part_written bytes (to_le_bytes w64 number) offset inside)
    ∙ from_le_bytes-to_le_bytes_8 number small
