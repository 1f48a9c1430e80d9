-- Each child before this one gave the output at its place.
use Rattle.std.proofs.Common.{◌≡◌, length}
use Rattle.cli_check.specs.CheckInputs.{HaveTraces}
use Rattle.cli_launch.proofs.Ends.{Gave}
use Rattle.cli_launch.proofs.outputs.outputs_of.Given as goal

abbrev pub invariant-loop-child : goal.invariant-loop-child
invariant-loop-child l = record {
  count : length l.outputs.items ≡ l.child-index;
  gave : Gave l.job l.children l.outputs.items l.child-index;
  traces : HaveTraces l.job l.outputs.items;
}
