use Rattle.std.proofs.Common.{◌≡◌}
use Rattle.cli_check.specs.CheckInputs.{traces_in}
use Rattle.cli_check.proofs.checks.traces_of.Given as goal

abbrev pub invariant-loop-output : goal.invariant-loop-output
invariant-loop-output l = l.traces.items ≡ traces_in l.yielded
