use Rattle.std.proofs.Common.{◌∙◌, sym, arith}
use Rattle.base_text.proofs.Decimals.{overflows, step, fitting_some}
use Rattle.base_text.proofs.numbers.long_number.Goals as goal

pub returns-in_default : goal.returns-in_default
returns-in_default c =
    let at = c.has_digit.ensures.0 c.loop-number-test.true in
    overflows c.args.bytes.now c.loop-number.count c.loop-number.number at.0 at.1 c.loop-number.invariant.digits
    c.loop-number.invariant.value (sym c.with_digit.ensures ∙ c.in_default.is)

pub loop-number-preserved : goal.loop-number-preserved
loop-number-preserved c =
    let at = c.has_digit.ensures.0 c.loop-number-test.true in
    let more = step c.args.bytes.now c.loop-number.count c.loop-number.number at.0 at.1 c.loop-number.invariant.digits
    c.loop-number.invariant.value in
    let fits = fitting_some _ _ (sym c.with_digit.ensures ∙ c.in-Some.is) in
    record { within = omega (arith, at.0); digits = more.0; value = sym fits.0 ∙ sym more.1; fits = fits.1 }
