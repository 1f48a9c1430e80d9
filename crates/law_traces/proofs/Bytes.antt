-- Bytes, and numbers of 32 bits.
use Rattle.std.proofs.Common.{ℕ, zero, suc, ◌+◌, ◌<◌, ◌≤◌, ◌^◌, List, [], ◌∷◌, ◌++◌, length, take, arith, rules}
use Rattle.std.specs.Prelude.{drop, replicate, pos}
use Rattle.std.specs.Int.{w32, w64, to_le_bytes, cast_signed}
use Rattle.std.specs.Int.RustNames.{FitsSigned}
use Rattle.wire_message.specs.Notifications.{high_half, low_half}
use Rattle.part_segment.specs.Bytes.{part}
use Rattle.part_segment.specs.Image.{Write, overwritten, written_by, image}
use Rattle.law_traces.specs.Fitting.{AreBytes, WriteBytes}

-- ---- lists of bytes

pub bytes_none : AreBytes []
bytes_none place = omega arith

bytes_on : (byte : ℕ) (bytes : List ℕ) → byte < 2 ^ 8 → AreBytes bytes → AreBytes (byte ∷ bytes)
bytes_on byte bytes low rest zero = low
bytes_on byte bytes low rest (suc place) = rest place

pub bytes_append : (first second : List ℕ) → AreBytes first → AreBytes second → AreBytes (first ++ second)
bytes_append [] second h k = k
bytes_append (byte ∷ first) second h k =
    bytes_on byte (first ++ second) (h 0) (bytes_append first second (λ place. h (suc place)) k)

bytes_take : (many : ℕ) (bytes : List ℕ) → AreBytes bytes → AreBytes (take many bytes)
bytes_take zero bytes h = bytes_none
bytes_take (suc many) [] h = bytes_none
bytes_take (suc many) (byte ∷ bytes) h =
    bytes_on byte (take many bytes) (h 0) (bytes_take many bytes (λ place. h (suc place)))

bytes_drop : (many : ℕ) (bytes : List ℕ) → AreBytes bytes → AreBytes (drop many bytes)
bytes_drop zero bytes h = h
bytes_drop (suc many) [] h = bytes_none
bytes_drop (suc many) (byte ∷ bytes) h = bytes_drop many bytes (λ place. h (suc place))

pub bytes_same : (many byte : ℕ) → byte < 2 ^ 8 → AreBytes (replicate many byte)
bytes_same zero byte low = bytes_none
bytes_same (suc many) byte low = bytes_on byte (replicate many byte) low (bytes_same many byte low)

pub bytes_part : (bytes : List ℕ) (offset len : ℕ) → AreBytes bytes → AreBytes (part bytes offset len)
bytes_part bytes offset len h = bytes_take len (drop offset bytes) (bytes_drop offset bytes h)

-- a number's bytes
pub bytes_word : (value : ℕ) → AreBytes (to_le_bytes w64 value)
bytes_word value zero = omega arith
bytes_word value (suc zero) = omega arith
bytes_word value (suc (suc zero)) = omega arith
bytes_word value (suc (suc (suc zero))) = omega arith
bytes_word value (suc (suc (suc (suc zero)))) = omega arith
bytes_word value (suc (suc (suc (suc (suc zero))))) = omega arith
bytes_word value (suc (suc (suc (suc (suc (suc zero)))))) = omega arith
bytes_word value (suc (suc (suc (suc (suc (suc (suc zero))))))) = omega arith
bytes_word value (suc (suc (suc (suc (suc (suc (suc (suc place)))))))) = omega arith

-- ---- segments

bytes_overwritten : (bytes : List ℕ) (write : Write) → AreBytes bytes → AreBytes write.bytes
    → AreBytes (overwritten bytes write)
bytes_overwritten bytes write h k =
    bytes_append (take write.offset bytes) _ (bytes_take write.offset bytes h)
    (bytes_append write.bytes _ k (bytes_drop (write.offset + length write.bytes) bytes h))

pub bytes_written : (bytes : List ℕ) (writes : List Write) → AreBytes bytes → WriteBytes writes
    → AreBytes (written_by bytes writes)
bytes_written bytes [] h all = h
bytes_written bytes (write ∷ writes) h all =
    bytes_written (overwritten bytes write) writes (bytes_overwritten bytes write h all.0) all.1

pub bytes_image : (len : ℕ) (writes : List Write) → WriteBytes writes → AreBytes (image len writes)
bytes_image len writes all = bytes_written (replicate len 0) writes (bytes_same len 0 (omega arith)) all

-- ---- numbers

pub half_fits : (half : ℕ) → half < 2 ^ 32 → FitsSigned w32 (cast_signed w32 half)
half_fits half low = search rules

pub high_fits : (number : ℕ) → number < 2 ^ 64 → FitsSigned w32 (high_half number)
high_fits number low = half_fits _ (omega (arith, low))

pub low_fits : (number : ℕ) → FitsSigned w32 (low_half number)
low_fits number = half_fits _ (omega arith)

pub small_fits : (number : ℕ) → number ≤ 8192 → FitsSigned w32 (pos number)
small_fits number low = search rules
