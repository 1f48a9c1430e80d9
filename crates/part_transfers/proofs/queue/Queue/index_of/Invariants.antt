use Rattle.std.proofs.Common.{◌≡◌, ◌<◌, ℕ, Some}
use Rattle.std.specs.List.{slice_get}
use Rattle.part_transfers.specs.declared.queue.Queued.{Queued}
use Rattle.part_transfers.proofs.queue.Queue.index_of.Given as goal

abbrev pub invariant-loop-index : goal.invariant-loop-index
invariant-loop-index l =
    (at : ℕ) (entry : Queued) → at < l.index → slice_get l.self at ≡ Some entry → entry.number ≡ l.number
    → entry.place ≡ l.place → ⊥
