use Rattle.std.proofs.Common.{◌≡◌, ◌≤◌, drop}
use Rattle.text_job.specs.Locks.{are_listed}
use Rattle.text_job.proofs.locks.are_listed.Given as goal

abbrev pub invariant-loop-lock : goal.invariant-loop-lock
invariant-loop-lock l = record {
  so_far : are_listed 0 l.locks ≡ are_listed l.least (drop l.lock-index l.locks);
  small : l.least ≤ 64;
}
