use Rattle.std.proofs.Common.{◌≡◌, ◌+◌, length, drop, decimal, arith}
use Rattle.std.proofs.lemmas.Fmt.{length-decimal-le}
use Rattle.std.proofs.lemmas.List.{take_at}
use Rattle.std.proofs.Math.Seq.{take-add}
use Rattle.base_io.proofs.buffered.put_digits_at.Goals as goal

pub overflow_add-after : goal.overflow_add-after
overflow_add-after c =
    let few =
    length-decimal-le 20 c.args.number (omega arith) (omega (arith, c.ranges.number.fits)) c.ranges.number.fits in
    omega (arith, few, c.digits_of.ensures, c.requires)

pub write_digits-requires : goal.write_digits-requires
write_digits-requires c =
    let few =
    length-decimal-le 20 c.args.number (omega arith) (omega (arith, c.ranges.number.fits)) c.ranges.number.fits in
    (omega (arith, c.digits_of.ensures), omega (arith, few, c.digits_of.ensures, c.requires))

pub returns-clause-written : goal.returns-clause-written
returns-clause-written c =
    let w = c.write_digits in
    let text = decimal c.args.number in
    let start : w.result ≡ c.args.end = omega (arith, w.ensures.start, c.digits_of.ensures) in
    let before = rw start at w.ensures.before in
    let written = rw start at w.ensures.written in
    rw (
      c.digits_of.ensures,
      take-add c.args.end (length text) w.new.buf,
      before,
      written,
      take_at text (drop (c.args.end + c.digits_of.result) c.args.buffer.now) (length text) (omega arith),
    )
