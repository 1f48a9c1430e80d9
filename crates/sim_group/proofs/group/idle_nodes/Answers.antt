use Rattle.std.proofs.Common.{List, length, ap, sym, subst, ◌∙◌}
use Rattle.part_collective_area.specs.Area.{Area}
use Rattle.node_collectives.specs.CollectivesState.{CollectivesState}
use Rattle.sim_group.specs.GroupState.{AreAt}
use Rattle.sim_group.specs.Opening.{AreIdle}
use Rattle.sim_group.proofs.Nodes.{at_more, fresh_idle, idle_more, many_more}
use Rattle.sim_group.proofs.group.idle_nodes.Goals as goal

pub loop-node-preserved : goal.loop-node-preserved
loop-node-preserved c =
    let fresh = c.in-Some.ensures.some in
    let settings = c.args.settings.now in
    let area : Area = record { nodes = settings.nodes; base = c.args.base; room = c.args.room } in
    record {
      count = ap (λ (nodes : List CollectivesState). length nodes) c.in_ok-push.ensures.items
          ∙ many_more c.loop-node.nodes.items c.in-Some.one c.loop-node.node c.loop-node.invariant.count;
      at = subst (λ (nodes : List CollectivesState). AreAt settings nodes) (sym c.in_ok-push.ensures.items)
          (at_more settings c.loop-node.nodes.items c.in-Some.one c.loop-node.invariant.at fresh.settings_are
          (fresh.me_is ∙ sym c.loop-node.invariant.count));
      idle = subst (λ (nodes : List CollectivesState). AreIdle area nodes) (sym c.in_ok-push.ensures.items)
          (idle_more area c.loop-node.nodes.items c.in-Some.one c.loop-node.invariant.idle fresh.area_is
          (fresh_idle settings c.loop-node.node c.args.base c.args.room c.in-Some.one fresh));
    }
