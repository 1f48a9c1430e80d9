use Rattle.std.proofs.Common.{◌≡◌, ◌*◌, take, drop}
use Rattle.base_text.specs.HexBytes.{pairs_of}
use Rattle.base_text.proofs.BytePairs.{with_bytes}
use Rattle.base_text.proofs.digits.decode.Given as goal

-- the bytes so far are read
abbrev pub invariant-bytes : goal.invariant-bytes
invariant-bytes l = pairs_of l.digits ≡ with_bytes (take l.i l.bytes) (pairs_of (drop (2 * l.i) l.digits))
