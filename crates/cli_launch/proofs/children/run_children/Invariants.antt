-- The children of the ranks below this one were finished.
use Rattle.std.proofs.Common.{◌≡◌, ◌≤◌, length, vec_capacity}
use Rattle.cli_launch.specs.Children.{Spawns, ends_of, spawner_seen}
use Rattle.cli_launch.proofs.children.run_children.Given as goal

abbrev pub invariant-loop-rank : goal.invariant-loop-rank
invariant-loop-rank g l = record {
  spawns : Spawns l.nodes l.port l.input (spawner_seen g.P.Spawner l.fn.spawner)
      (spawner_seen g.P.Spawner l.spawner) l.started (ends_of l.children.items);
  count : length l.children.items ≡ l.rank;
  room : l.started ≤ vec_capacity l.children;
}
