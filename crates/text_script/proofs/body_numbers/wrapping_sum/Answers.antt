use Rattle.std.proofs.Common.{rules}
use Rattle.std.proofs.lemmas.Int.{wraps}
use Rattle.text_script.proofs.body_numbers.wrapping_sum.Goals as goal

pub returns : goal.returns
returns c = search (rules, wraps)
