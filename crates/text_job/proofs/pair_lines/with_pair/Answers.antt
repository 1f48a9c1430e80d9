use Rattle.std.proofs.Common.{◌∙◌, ◌≡◌, sym, arith, false, ◌<◌, length}
use Rattle.text_job.specs.JobReading.{has_pair}
use Rattle.text_job.proofs.PairSums.{sum_in_place}
use Rattle.text_job.proofs.Ranges.{fitting, not_own, is_pair, pair_range, sum_behind}
use Rattle.text_job.proofs.pair_lines.with_pair.Goals as goal

pub overflow_add-sum : goal.overflow_add-sum
overflow_add-sum c =
    let s = c.args.head.settings in
    let fit = fitting s c.args.pair c.requires.fits in
    let sums = sum_in_place s c.args.pair fit.from fit.to fit.apart in
    omega (
      arith,
      sums,
      fit.sum,
      c.from-own.ensures,
      c.credits.ensures,
      c.credits.type_inv,
      c.from.ensures,
      c.requires.sum,
    )

pub overflow_sub-sum : goal.overflow_sub-sum
overflow_sub-sum c =
    let s = c.args.head.settings in
    let fit = fitting s c.args.pair c.requires.fits in
    let sums = sum_in_place s c.args.pair fit.from fit.to fit.apart in
    omega (arith, sums, c.from-own.ensures, c.credits.ensures, c.from.ensures, c.requires.sum)

pub returns-in-Some-clause-sum : goal.returns-in-Some-clause-sum
returns-in-Some-clause-sum c =
    let s = c.args.head.settings in
    let fit = fitting s c.args.pair c.requires.fits in
    let is = is_pair s c.args.pair fit c.requires.few.0 c.requires.few.1 in
    let new : has_pair s.pairs c.args.pair ≡ false = rw (← c.pairs.ensures) (sym c.has_pair.ensures
    ∙ c.if-has_pair.false) in
    let sums = sum_in_place s c.args.pair fit.from fit.to fit.apart in
    let same = sum_behind s c.args.pair fit is (not_own s.pairs c.args.pair new) in
    rw c.in-Some.ensures.0 (omega (
      arith,
      sums,
      same,
      c.from-own.ensures,
      c.credits.ensures,
      c.from.ensures,
      c.requires.sum,
    ))

pub returns-in-None-clause-value : goal.returns-in-None-clause-value
returns-in-None-clause-value c =
    let s = c.args.head.settings in
    let fit = fitting s c.args.pair c.requires.fits in
    let is = is_pair s c.args.pair fit c.requires.few.0 c.requires.few.1 in
    let new : has_pair s.pairs c.args.pair ≡ false = rw (← c.pairs.ensures) (sym c.has_pair.ensures
    ∙ c.if-has_pair.false) in
    let few : length s.pairs < 64 = rw (← c.pairs-2.ensures) (omega (arith, c.if-pairs-ge-PAIRS.false)) in
    absurd (c.in-None.ensures (pair_range s c.args.pair c.requires.range fit is new few))
