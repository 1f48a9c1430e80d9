use Rattle.std.proofs.Common.{◌≡◌}
use Rattle.proc_runner.proofs.threads.work.Given as goal

abbrev pub invariant-loop : goal.invariant-loop
invariant-loop g l =
    (l.mine.parts ≡ 1) × (goal.iterator-loop g).can_next l.iterator' × (goal.iterator-loop g).is_finite l.iterator'
