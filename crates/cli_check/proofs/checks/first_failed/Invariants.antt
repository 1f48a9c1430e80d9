-- All before this one ended with status 0 or 1.
use Rattle.std.proofs.Common.{◌≡◌, ℕ, ◌<◌, true, Some, slice_get}
use Rattle.text_trace.specs.declared.output.Output.{Output}
use Rattle.cli_check.specs.Statuses.{is_over}
use Rattle.cli_check.proofs.checks.first_failed.Given as goal

abbrev pub invariant-loop-rank : goal.invariant-loop-rank
invariant-loop-rank l = record {
  over : (place : ℕ) → place < l.rank → (one : Output) → slice_get l.outputs place ≡ Some one
      → is_over one.status ≡ true;
}
