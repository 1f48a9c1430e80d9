use Rattle.std.proofs.Common.{arith}
use Rattle.std.proofs.lemmas.Fmt.{length-decimal-le}
use Rattle.itoa.proofs.Decimal.{length_four}
use Rattle.base_io.proofs.buffered.digits_of.Goals as goal

pub loop-rest-preserved : goal.loop-rest-preserved
loop-rest-preserved c =
    let l = c.loop-rest in
    let four = length_four l.rest c.loop-rest-test.true l.auto.rest-fits.fits in
    let few =
    length-decimal-le 20 c.args.number (omega arith) (omega (arith, c.ranges.number.fits)) c.ranges.number.fits in
    (omega (arith, four, l.invariant.0), omega (arith, four, few, l.invariant.0))

pub overflow_add-result : goal.overflow_add-result
overflow_add-result c =
    let few =
    length-decimal-le 20 c.args.number (omega arith) (omega (arith, c.ranges.number.fits)) c.ranges.number.fits in
    omega (arith, few, c.few_digits_of.ensures, c.loop-rest.invariant.0)
