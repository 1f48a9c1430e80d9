use Rattle.std.proofs.Common.{◌≡◌, ◌*◌, ◌++◌, take, drop}
use Rattle.std.specs.List.{flat_map}
use Rattle.base_text.specs.HexBytes.{hex_byte}
use Rattle.base_text.proofs.digit_writer.put_digits.Given as goal

-- the digits of the bytes so far are written
abbrev pub invariant-bytes : goal.invariant-bytes
invariant-bytes l = take (2 * l.i) l.digits ++ flat_map hex_byte (drop l.i l.bytes) ≡ flat_map hex_byte l.bytes
