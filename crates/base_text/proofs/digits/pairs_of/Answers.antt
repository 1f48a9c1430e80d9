use Rattle.std.proofs.Common.{sym, ◌∙◌}
use Rattle.base_text.proofs.BytePairs.{pairs_not, pairs_odd}
use Rattle.base_text.proofs.digits.pairs_of.Goals as goal

pub returns-then-digits-ne0 : goal.returns-then-digits-ne0
returns-then-digits-ne0 c = pairs_odd c.args.digits.now (λ even. c.if-digits-ne0.true even)

pub returns-then-not-are_digits : goal.returns-then-not-are_digits
returns-then-not-are_digits c = pairs_not c.args.digits.now (sym c.are_digits.ensures ∙ c.if-not-are_digits.true)
