-- The children of the ranks below this one were started.
use Rattle.std.proofs.Common.{◌≡◌, ◌≤◌}
use Rattle.std.specs.Prelude.{option_map}
use Rattle.cli_launch.specs.Children.{with_starts}
use Rattle.cli_launch.proofs.children.start_children.Given as goal

abbrev pub invariant-loop-rank : goal.invariant-loop-rank
invariant-loop-rank g l = record {
  told : g.P.Spawner.told l.spawner ≡ option_map (with_starts l.rank l.port l.input) (g.P.Spawner.told l.fn.spawner);
  later : g.P.Spawner.faults l.fn.spawner ≤ g.P.Spawner.faults l.spawner;
}
