use Rattle.std.proofs.Common.{arith}
use Rattle.base_text.proofs.Decimals.{few_digits, step}
use Rattle.base_text.proofs.numbers.first_digits.Goals as goal

pub overflow_mul-number : goal.overflow_mul-number
overflow_mul-number c =
    let at = c.has_digit.ensures.0 c.loop-prefix-test.true in
    let small = few_digits c.split_at.result.0.now c.loop-prefix.number c.loop-prefix.count c.loop-prefix.invariant
    (omega (arith, at.0, c.split_at.ensures.front_len, c.min.ensures)) in
    omega (arith, small)

pub overflow_add-number : goal.overflow_add-number
overflow_add-number c =
    let at = c.has_digit.ensures.0 c.loop-prefix-test.true in
    let small = few_digits c.split_at.result.0.now c.loop-prefix.number c.loop-prefix.count c.loop-prefix.invariant
    (omega (arith, at.0, c.split_at.ensures.front_len, c.min.ensures)) in
    let digit = at.1 in
    omega (arith, small, digit, c.from.ensures)

pub loop-prefix-preserved : goal.loop-prefix-preserved
loop-prefix-preserved c =
    let at = c.has_digit.ensures.0 c.loop-prefix-test.true in
    let small = few_digits c.split_at.result.0.now c.loop-prefix.number c.loop-prefix.count c.loop-prefix.invariant
    (omega (arith, at.0, c.split_at.ensures.front_len, c.min.ensures)) in
    let more = step c.split_at.result.0.now c.loop-prefix.count c.loop-prefix.number at.0 at.1
    c.loop-prefix.invariant.digits c.loop-prefix.invariant.value in
    let digit = at.1 in
    record {
      within = omega (arith, at.0);
      digits = more.0;
      value = omega (arith, more.1, c.from.ensures);
      fits = omega (arith, small, digit, c.from.ensures);
    }
