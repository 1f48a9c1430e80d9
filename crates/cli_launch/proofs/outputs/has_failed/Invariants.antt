-- No finish before this one failed.
use Rattle.cli_launch.proofs.Ends.{NoneFailed}
use Rattle.cli_launch.proofs.outputs.has_failed.Given as goal

abbrev pub invariant-loop-child : goal.invariant-loop-child
invariant-loop-child l = NoneFailed l.children l.child-index
