-- A segment as what was written to it: the writes in order, and the bytes that they leave of zeros.
use Rattle.std.specs.Prelude.{ℕ, ◌+◌, ◌≤◌, List, length, fold, All, replicate}
use Rattle.part_segment.specs.Bytes.{with_part}

-- bytes that are written from `offset` on
pub record Write : Type 0 where
  pub offset : ℕ
  pub bytes : List ℕ

-- the write stays within `len` bytes
abbrev pub FitsIn : (len : ℕ) → Write → Type 0
FitsIn len write = write.offset + length write.bytes ≤ len

-- each of the writes does
abbrev pub AllFit : (len : ℕ) → List Write → Type 0
AllFit len writes = All (FitsIn len) writes

-- the bytes after a write
abbrev pub overwritten : List ℕ → Write → List ℕ
overwritten bytes write = with_part bytes write.offset write.bytes

-- the bytes after the writes, the earliest first
abbrev pub written_by : List ℕ → List Write → List ℕ
written_by bytes writes = fold overwritten bytes writes

-- a segment of `len` bytes, all 0 at first, after the writes, the earliest first
abbrev pub image : (len : ℕ) → List Write → List ℕ
image len writes = written_by (replicate len 0) writes
