use Rattle.std.proofs.Common.{◌<◌, length, refl, ap, ◌∙◌, arith}
use Rattle.part_handlers.specs.Runs.{Meaning}
use Rattle.node_endpoint.specs.Sites.{Site}
use Rattle.sim_world.specs.Wholes.{WorldWhole}
use Rattle.sim_world.specs.contracts.at_node.AtNodeCaller.TheImpl.{ghosts}
use Rattle.sim_group.specs.GroupState.{GroupState}
use Rattle.sim_group.proofs.Nodes.{at_place, group_set}
use Rattle.sim_group.proofs.Starting.{site_in}
use Rattle.sim_group.proofs.Stepping.{step_does, steps_came}
use Rattle.sim_group.proofs.world_nodes.WorldNodes.step.Goals as goal

pub step-requires : goal.step-requires
step-requires g c =
    let low : c.from.result < length c.args.self.now.collectives.items =
    omega (arith, c.requires.group.count, c.from.ensures, c.requires.node) in
    let both = c.requires.group.at c.from.result c.index_mut.result.now
    (at_place c.args.self.now.collectives.items c.from.result c.index_mut.result.now low
    c.index_mut.ensures.value) in
    record { settings = both.0; me = both.1 ∙ c.from.ensures; thread = c.requires.thread }

pub returns-clause-settings : goal.returns-clause-settings
returns-clause-settings g c = ap (λ (site : Site). site.settings) c.step.ensures.same_site

pub returns-clause-table : goal.returns-clause-table
returns-clause-table g c = ap (λ (site : Site). site.table) c.step.ensures.same_site

pub returns-clause-group : goal.returns-clause-group
returns-clause-group g c =
    let low : c.from.result < length c.args.self.now.collectives.items =
    omega (arith, c.requires.group.count, c.from.ensures, c.requires.node) in
    group_set c.args.self.now.world c.step.new.caller.world.now c.args.self.now.collectives.items c.from.result
    c.index_mut.result.now c.step.new.self c.requires.group
    (ap (λ (site : Site). site.settings) c.step.ensures.same_site) low
    (at_place c.args.self.now.collectives.items c.from.result c.index_mut.result.now low c.index_mut.ensures.value)
    c.step.ensures.same_node

pub returns-clause-does : goal.returns-clause-does
returns-clause-does g c =
    let low : c.from.result < length c.args.self.now.collectives.items =
    omega (arith, c.requires.group.count, c.from.ensures, c.requires.node) in
    let meaning : Meaning = g.H.Handlers.meaning c.args.handlers.now in
    let old : GroupState = record { world = c.args.self.now.world; nodes = c.args.self.now.collectives.items } in
    step_does meaning old c.step.new.caller.world.now c.args.now c.args.node c.from.result c.args.thread
    c.index_mut.result.now c.step.new.self c.step.result (record {
      group = c.requires.group;
      good = c.step.ensures.stands;
      low = low;
      there = at_place c.args.self.now.collectives.items c.from.result c.index_mut.result.now low
          c.index_mut.ensures.value;
    }) c.from.ensures c.step.ensures.same_node
    (λ group most stands.
    let whole : WorldWhole = record { records = group.records; most = most } in
    steps_came (ghosts g.row.H g.H.Handlers g.H.Handlers-dict)
    (site_in meaning c.args.self.now.world c.args.node c.args.now) c.args.thread c.index_mut.result.now _ c.step.result
    c.step.new.self c.step.new.caller c.step.ensures.steps whole stands refl)
