use Rattle.std.proofs.Common.{◌≡◌, ◌+ℤ◌, pos, take}
use Rattle.std.specs.Int.{int_wrap, w32}
use Rattle.std.specs.List.{sum}
use Rattle.text_script.proofs.body_numbers.sum_with.Given as goal

-- the sum so far
abbrev pub invariant-loop-byte : goal.invariant-loop-byte
invariant-loop-byte l = l.total ≡ int_wrap w32 (l.number +ℤ pos (sum (take l.byte-index l.bytes)))
