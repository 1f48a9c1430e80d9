use Rattle.std.proofs.Common.{◌≡◌, ◌^◌, drop, bit_or}
use Rattle.std.specs.List.{fold}
use Rattle.text_job.specs.Locks.{listed_by}
use Rattle.text_job.proofs.LockLaws.{AreLocks}
use Rattle.text_job.proofs.locks.listed_by.Given as goal

abbrev pub invariant-loop-lock : goal.invariant-loop-lock
invariant-loop-lock l = record {
  so_far : fold (λ listed lock. bit_or listed (2 ^ lock)) l.listed (drop l.lock-index l.locks) ≡ listed_by l.locks;
  later : AreLocks (drop l.lock-index l.locks);
}
