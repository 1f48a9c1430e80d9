use Rattle.std.proofs.Common.{◌≡◌, ◌+◌, ◌≤◌, vec_len, vec_capacity}
use Rattle.proc_runner.proofs.threads.run_all.Given as goal

abbrev pub invariant-loop-thread : goal.invariant-loop-thread
invariant-loop-thread g l =
    (l.all.parts + l.thread ≡ l.threads + 1) × (l.all.amount ≡ 0)
    × (vec_len l.running + vec_len l.refused ≡ l.thread)
    × (l.threads ≤ vec_capacity l.running) × (l.threads ≤ vec_capacity l.refused)

abbrev pub invariant-loop-own : goal.invariant-loop-own
invariant-loop-own g l =
    l.all.parts + (vec_len l.running + vec_len l.refused) ≡ l.threads + 1

abbrev pub decreases-loop-own : goal.decreases-loop-own
decreases-loop-own g l = vec_len l.refused

abbrev pub invariant-loop-child : goal.invariant-loop-child
invariant-loop-child g l =
    l.all.parts + vec_len l.running ≡ l.threads + 1

abbrev pub decreases-loop-child : goal.decreases-loop-child
decreases-loop-child g l = vec_len l.running
