use Rattle.std.proofs.Common.{length, ◌-◌}
use Rattle.base_text.specs.Words.{BeginWith}
use Rattle.base_text.proofs.numbers.first_digits.Given as goal

abbrev pub invariant-loop-prefix : goal.invariant-loop-prefix
invariant-loop-prefix l = BeginWith l.prefix l.number l.count

abbrev pub decreases-loop-prefix : goal.decreases-loop-prefix
decreases-loop-prefix l = length l.prefix - l.count
