-- What writes leave of a range of bytes.
use Rattle.std.proofs.Common.{◌≡◌, ℕ, ◌+◌, ◌/◌, ◌%◌, ◌^◌, ◌≤◌, List, length, refl, ap, ◌∙◌, arith}
use Rattle.std.specs.Int.{w64, to_le_bytes, from_le_bytes}
use Rattle.std.proofs.lemmas.Nat.{from_le_bytes-to_le_bytes_8}
use Rattle.part_segment.specs.Bytes.{with_part}
use Rattle.part_segment.specs.Image.{Write, AllFit, written_by}
use Rattle.part_collective_area.proofs.Bytes.{part_written, parts_spared}
use Rattle.law_messages.specs.Ranges.{SpareRange, WritesStand, RangesStay, word_at_offset}

pub writes_stand : WritesStand
writes_stand bytes write fits = part_written bytes write.bytes write.offset fits

pub ranges_stay : RangesStay
ranges_stay bytes writes offset len fit spare = parts_spared (length bytes) bytes writes offset len refl fit spare

-- ---- words

-- eight bytes are those of the number's 64 bits
eight_bytes : (number : ℕ) → to_le_bytes w64 number ≡ to_le_bytes w64 (number % 2 ^ 64)
eight_bytes number =
    let low = number % 2 ^ 64 in
    let first : number % 256 ≡ low % 256 = omega arith in
    let second : number / 256 % 256 ≡ low / 256 % 256 = omega arith in
    let third : number / 65536 % 256 ≡ low / 65536 % 256 = omega arith in
    let fourth : number / 16777216 % 256 ≡ low / 16777216 % 256 = omega arith in
    let fifth : number / 4294967296 % 256 ≡ low / 4294967296 % 256 = omega arith in
    let sixth : number / 1099511627776 % 256 ≡ low / 1099511627776 % 256 = omega arith in
    let seventh : number / 281474976710656 % 256 ≡ low / 281474976710656 % 256 = omega arith in
    let last : number / 72057594037927936 % 256 ≡ low / 72057594037927936 % 256 = omega arith in
    cc

-- a number of any size that was written as a word: its 64 lowest bits
pub word_written : (bytes : List ℕ) (offset number : ℕ) → offset + 8 ≤ length bytes
    → word_at_offset (with_part bytes offset (to_le_bytes w64 number)) offset ≡ number % 2 ^ 64
word_written bytes offset number inside =
    ap (from_le_bytes w64) (part_written bytes (to_le_bytes w64 number) offset inside ∙ eight_bytes number)
    ∙ from_le_bytes-to_le_bytes_8 (number % 2 ^ 64) (omega arith)

-- a word that writes spare
pub word_spared : (size : ℕ) (bytes : List ℕ) (writes : List Write) (offset : ℕ) → length bytes ≡ size
    → AllFit size writes → SpareRange writes offset 8
    → word_at_offset (written_by bytes writes) offset ≡ word_at_offset bytes offset
word_spared size bytes writes offset long fit spare =
    ap (from_le_bytes w64) (parts_spared size bytes writes offset 8 long fit spare)
