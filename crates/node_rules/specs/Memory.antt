-- What a thread's call on the node's own segment answers, and what it writes.
-- Origin: the segment is that of GASNet 1.8.1, core API; these calls are this project's profile.
use Rattle.std.specs.Prelude.{ℕ, ◌≡◌, ◌+◌, ◌%◌, ◌==◌, nat_lt, if◌then◌else◌, List, [], ◌∷◌, length, replicate}
use Rattle.std.specs.Prelude.{Option, None, Some}
use Rattle.std.specs.Int.{w64, to_le_bytes, from_le_bytes}
use Rattle.part_segment.specs.declared.segment.TypedFault.{TypedFault}
use Rattle.part_segment.specs.declared.segment.TypedFault.TheVariants as typed
use Rattle.part_segment.specs.Bytes.{part}
use Rattle.part_segment.specs.Image.{Write, written_by}
use Rattle.node_rules.specs.declared.answer.Local.{Local as LocalAnswer}
use Rattle.node_rules.specs.declared.answer.Local.TheVariants as local

pub data SegmentCall : Type 0 where
  Show : (offset len : ℕ) → SegmentCall  -- the range is told
  Set : Write → SegmentCall  -- these bytes are written there
  Fill : (offset len byte : ℕ) → SegmentCall  -- this byte is written to each place of the range
  LoadWord : (offset : ℕ) → SegmentCall  -- the number of 8 bytes there, little-endian
  SetWord : (offset value : ℕ) → SegmentCall  -- it becomes this

-- the range passes the end of these bytes
abbrev pub range_fault : List ℕ → (offset len : ℕ) → Option LocalAnswer
range_fault bytes offset len = if nat_lt (length bytes) (offset + len) then Some local.Outside else None

-- 8 bytes from there on aren't the place of a number: they pass the end, or the offset is no multiple of 8
abbrev pub word_fault : List ℕ → (offset : ℕ) → Option LocalAnswer
word_fault bytes offset =
    if nat_lt (length bytes) (offset + 8) then Some local.Outside
    else (if offset % 8 == 0 then None else Some local.Unaligned)

-- how the segment refuses a number, as an answer
abbrev pub refused_as : TypedFault → LocalAnswer
refused_as typed.Outside = local.Outside
refused_as typed.Unaligned = local.Unaligned

-- after a fault nothing is written
abbrev pub unless_fault : Option LocalAnswer → LocalAnswer × List Write → LocalAnswer × List Write
unless_fault None outcome = outcome
unless_fault (Some fault) outcome = (fault, [])

-- the answer, and what is written, where the segment has these bytes
abbrev pub segment_does : List ℕ → SegmentCall → LocalAnswer × List Write
segment_does bytes (Show offset len) =
    unless_fault (range_fault bytes offset len) (local.Shown offset len, [])
segment_does bytes (Set write) =
    unless_fault (range_fault bytes write.offset (length write.bytes)) (local.Done, write ∷ [])
segment_does bytes (Fill offset len byte) =
    unless_fault (range_fault bytes offset len)
    (local.Done, record { offset = offset; bytes = replicate len byte } ∷ [])
segment_does bytes (LoadWord offset) =
    unless_fault (word_fault bytes offset) (local.Number (from_le_bytes w64 (part bytes offset 8)), [])
segment_does bytes (SetWord offset value) =
    unless_fault (word_fault bytes offset)
    (local.Done, record { offset = offset; bytes = to_le_bytes w64 value } ∷ [])

-- the call was so answered, and the bytes are then as it wrote
pub record OnSegment (old : List ℕ) (call : SegmentCall) (answer : LocalAnswer) (new : List ℕ) : Type 0 where
  pub answer_is : answer ≡ (segment_does old call).0
  pub written : new ≡ written_by old (segment_does old call).1
