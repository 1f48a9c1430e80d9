-- A node that has started nothing.
use Rattle.std.proofs.Common.{refl}
use Rattle.node_collectives.proofs.collectives.Collectives.new.Goals as goal

pub returns-clause-some : goal.returns-clause-some
returns-clause-some c = record {
  settings_are = refl;
  me_is = refl;
  area_is = refl;
  started = refl;
  ended = refl;
  shape = refl;
  sent = c.no_nodes.ensures;
  exhausted = c.no_nodes-2.ensures;
}
