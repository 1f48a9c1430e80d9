use Rattle.std.proofs.Common.{◌≡◌, ◌<◌, ◌≤◌, ◌-◌, ℕ, Some, length}
use Rattle.std.specs.List.{slice_get}
use Rattle.part_transfers.specs.declared.queue.Queued.{Queued}
use Rattle.part_transfers.proofs.queue.Queue.bisect.Given as goal

abbrev pub invariant-loop-from : goal.invariant-loop-from
invariant-loop-from l = record {
  order : l.from ≤ l.end;
  within : l.end ≤ length l.self;
  before : (at : ℕ) (entry : Queued) → at < l.from → slice_get l.self at ≡ Some entry → entry.number < l.number;
  behind : (at : ℕ) (entry : Queued) → l.end ≤ at → slice_get l.self at ≡ Some entry → l.number ≤ entry.number;
}

abbrev pub decreases-loop-from : goal.decreases-loop-from
decreases-loop-from l = l.end - l.from
