use Rattle.std.proofs.Common.{length, ◌-◌}
use Rattle.base_text.proofs.Names.{AreAlike}
use Rattle.base_text.proofs.words.begins.Given as goal

abbrev pub invariant-loop-end : goal.invariant-loop-end
invariant-loop-end l = AreAlike l.bytes l.name l.end

abbrev pub decreases-loop-end : goal.decreases-loop-end
decreases-loop-end l = length l.name - l.end
