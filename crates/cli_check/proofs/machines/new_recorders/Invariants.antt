-- The recorders of the nodes below this rank.
use Rattle.std.proofs.Common.{◌≡◌, ℕ, length, Some, slice_get}
use Rattle.cli_check.specs.Recording.{RecorderKept, RecorderStands, opening_record}
use Rattle.cli_check.proofs.machines.new_recorders.Given as goal

abbrev pub invariant-loop-rank : goal.invariant-loop-rank
invariant-loop-rank l = record {
  count : length l.recorders.items ≡ l.rank;
  each : (place : ℕ) (kept : RecorderKept) → slice_get l.recorders.items place ≡ Some kept
      → RecorderStands kept (opening_record l.job place);
}
