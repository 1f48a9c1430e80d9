-- Parts of a list of bytes, by offset and length.
use Rattle.std.specs.Prelude.{ℕ, ◌+◌, ◌≤◌, List, ◌++◌, length, take, drop}

-- the range of `len` bytes from `offset` on lies inside
abbrev pub IsInside : List ℕ → (offset len : ℕ) → Type 0
IsInside bytes offset len = offset + len ≤ length bytes

-- the `len` bytes from `offset` on
abbrev pub part : List ℕ → (offset len : ℕ) → List ℕ
part bytes offset len = take len (drop offset bytes)

-- the bytes with `written` in the place of as many bytes from `offset` on
abbrev pub with_part : List ℕ → (offset : ℕ) → List ℕ → List ℕ
with_part bytes offset written = take offset bytes ++ (written ++ drop (offset + length written) bytes)

-- what a part becomes that was lent: a part keeps its length, and then this is `written`
abbrev pub refill : List ℕ → List ℕ → List ℕ
refill old written = take (length old) (written ++ drop (length written) old)

-- what the bytes become where a part of them was lent
abbrev pub with_lent : List ℕ → (offset len : ℕ) → List ℕ → List ℕ
with_lent bytes offset len written = with_part bytes offset (refill (part bytes offset len) written)
