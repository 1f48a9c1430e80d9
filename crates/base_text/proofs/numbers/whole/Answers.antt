use Rattle.std.proofs.Common.{◌∙◌, sym, arith, ap, ◌<◌, ◌≤◌, Some, ℕ}
use Rattle.base_text.proofs.Decimals.{no_digits, zero_first, no_digit, number_is}
use Rattle.base_text.proofs.Prefixes.{stops_from}
use Rattle.base_text.proofs.numbers.whole.Goals as goal

pub returns-then-count-eq0 : goal.returns-then-count-eq0
returns-then-count-eq0 c =
    let last = rw c.if-count-eq0.true at c.requires.last in
    no_digits c.args.bytes.now (λ some range. last (some, range))

pub returns-then-is_padded : goal.returns-then-is_padded
returns-then-is_padded c =
    let padded = c.is_padded.ensures.0 c.if-is_padded.true in
    let begin = c.requires.begin in
    zero_first c.args.bytes.now c.args.count begin.within padded.1 begin.digits padded.0

pub returns-then-goes_on : goal.returns-then-goes_on
returns-then-goes_on c =
    let more = c.goes_on.ensures.0 c.if-goes_on.true in
    no_digit c.args.bytes.now c.args.count more.0 c.requires.begin.digits more.1
    (λ range. c.requires.last (more.0, range))

-- what isn't above one
short_by : (count : ℕ) → (1 < count → ⊥) → count ≤ 1
short_by count short = omega (arith, short)

pub returns : goal.returns
returns c =
    let begin = c.requires.begin in
    let read = number_is c.args.bytes.now c.args.count c.args.number begin.within
    (omega arith) begin.digits begin.value begin.fits
    (λ zero. short_by c.args.count (λ long. let padded = c.is_padded.ensures.1 (zero, long) in
    let other = c.if-is_padded.false in absurd (cc)))
    (stops_from _ _ c.goes_on.result c.if-goes_on.false c.goes_on.ensures.1) in
    read ∙ ap (λ rest. Some (c.args.number, rest)) (sym c.split_at.ensures.back)
