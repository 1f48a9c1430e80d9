use Rattle.std.proofs.Common.{length, ◌-◌}
use Rattle.base_text.specs.Words.{BeginWith}
use Rattle.base_text.proofs.numbers.long_number.Given as goal

abbrev pub invariant-loop-number : goal.invariant-loop-number
invariant-loop-number l = BeginWith l.bytes l.number l.count

abbrev pub decreases-loop-number : goal.decreases-loop-number
decreases-loop-number l = length l.bytes - l.count
