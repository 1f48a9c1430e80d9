use Rattle.std.proofs.Common.{◌<◌, length, ap, ◌∙◌, arith}
use Rattle.part_handlers.specs.Runs.{Meaning}
use Rattle.node_endpoint.specs.Sites.{Site}
use Rattle.sim_world.specs.Wholes.{WorldWhole}
use Rattle.sim_world.specs.contracts.at_node.AtNodeCaller.TheImpl.{ghosts}
use Rattle.node_collectives.specs.Starts.{StartAsked}
use Rattle.sim_group.specs.GroupState.{GroupState}
use Rattle.sim_group.proofs.Nodes.{at_place, group_set}
use Rattle.sim_group.proofs.Starting.{start_came, start_does}
use Rattle.sim_group.proofs.world_nodes.WorldNodes.start.Goals as goal

pub start-requires : goal.start-requires
start-requires g c =
    let low : c.from.result < length c.args.self.now.collectives.items =
    omega (arith, c.requires.group.count, c.from.ensures, c.requires.node) in
    let both = c.requires.group.at c.from.result c.index_mut.result.now
    (at_place c.args.self.now.collectives.items c.from.result c.index_mut.result.now low
    c.index_mut.ensures.value) in
    record { settings = both.0; me = both.1 ∙ c.from.ensures; thread = c.requires.thread }

pub returns-clause-settings : goal.returns-clause-settings
returns-clause-settings g c = ap (λ (site : Site). site.settings) c.start.ensures.same_site

pub returns-clause-table : goal.returns-clause-table
returns-clause-table g c = ap (λ (site : Site). site.table) c.start.ensures.same_site

pub returns-clause-group : goal.returns-clause-group
returns-clause-group g c =
    let low : c.from.result < length c.args.self.now.collectives.items =
    omega (arith, c.requires.group.count, c.from.ensures, c.requires.node) in
    group_set c.args.self.now.world c.start.new.caller.world.now c.args.self.now.collectives.items c.from.result
    c.index_mut.result.now c.start.new.self c.requires.group
    (ap (λ (site : Site). site.settings) c.start.ensures.same_site) low
    (at_place c.args.self.now.collectives.items c.from.result c.index_mut.result.now low c.index_mut.ensures.value)
    c.start.ensures.same_node

pub returns-clause-does : goal.returns-clause-does
returns-clause-does g c =
    let low : c.from.result < length c.args.self.now.collectives.items =
    omega (arith, c.requires.group.count, c.from.ensures, c.requires.node) in
    let meaning : Meaning = g.H.Handlers.meaning c.args.handlers.now in
    let old : GroupState = record { world = c.args.self.now.world; nodes = c.args.self.now.collectives.items } in
    let asked : StartAsked = record { thread = c.args.thread; shape = c.args.shape; from = c.args.from } in
    start_does meaning old c.start.new.caller.world.now c.args.now c.args.node c.from.result c.index_mut.result.now
    c.start.new.self asked c.start.result (record {
      group = c.requires.group;
      good = c.start.ensures.stands;
      low = low;
      there = at_place c.args.self.now.collectives.items c.from.result c.index_mut.result.now low
          c.index_mut.ensures.value;
    }) c.from.ensures c.start.ensures.same_node
    (λ group most stands.
    let whole : WorldWhole = record { records = group.records; most = most } in
    start_came (ghosts g.row.H g.H.Handlers g.H.Handlers-dict) c.index_mut.result.now _ asked c.start.result
    c.start.new.self c.start.new.caller c.start.ensures.starts whole stands)
