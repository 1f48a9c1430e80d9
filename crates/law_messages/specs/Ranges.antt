-- Ranges of bytes, and writes that have none of their bytes.
use Rattle.std.specs.Prelude.{◌≡◌, ℕ, ◌+◌, ◌≤◌, ◌⊎◌, List, [], ◌∷◌, length}
use Rattle.std.specs.Int.{w64, from_le_bytes}
use Rattle.part_segment.specs.Bytes.{part}
use Rattle.part_segment.specs.Image.{Write, FitsIn, AllFit, overwritten, written_by}

-- the write has no byte of the range
abbrev pub SparesRange : Write → (offset len : ℕ) → Type 0
SparesRange write offset len =
    (write.bytes ≡ []) ⊎ ((write.offset + length write.bytes ≤ offset) ⊎ (offset + len ≤ write.offset))

-- none of these writes has one
abbrev pub SpareRange : List Write → (offset len : ℕ) → Type 0
SpareRange [] offset len = Unit {0}
SpareRange (write ∷ later) offset len = SparesRange write offset len × SpareRange later offset len

-- the number of 64 bits whose bytes stand at an offset, little-endian
abbrev pub word_at_offset : List ℕ → (offset : ℕ) → ℕ
word_at_offset bytes offset = from_le_bytes w64 (part bytes offset 8)

-- ---- the laws

-- the bytes of a write stand at its place
abbrev pub WritesStand : Type 0
WritesStand =
    (bytes : List ℕ) (write : Write) → FitsIn (length bytes) write
    → part (overwritten bytes write) write.offset (length write.bytes) ≡ write.bytes

-- writes leave a range as it is that they spare
abbrev pub RangesStay : Type 0
RangesStay =
    (bytes : List ℕ) (writes : List Write) (offset len : ℕ) → AllFit (length bytes) writes
    → SpareRange writes offset len
    → part (written_by bytes writes) offset len ≡ part bytes offset len
