use Rattle.std.proofs.Common.{◌≡◌, ◌<◌, List, [], ◌∷◌, length, refl, ap, ◌∙◌, arith}
use Rattle.part_handlers.specs.Runs.{Meaning}
use Rattle.node_endpoint.specs.Making.{whole_after}
use Rattle.node_endpoint.specs.Sites.{Site, ThreadCall}
use Rattle.sim_world.specs.Wholes.{WorldWhole, whole_then}
use Rattle.sim_world.specs.contracts.at_node.AtNodeCaller.TheImpl.{ghosts}
use Rattle.node_collectives.specs.Ends.{EndAsked}
use Rattle.sim_group.specs.GroupState.{GroupState}
use Rattle.sim_group.proofs.Ending.{after_calls, end_came, end_does, long_at}
use Rattle.sim_group.proofs.Nodes.{at_place, group_set}
use Rattle.sim_group.proofs.Starting.{site_in}
use Rattle.sim_group.proofs.world_nodes.WorldNodes.try_end.Goals as goal

pub try_end-requires : goal.try_end-requires
try_end-requires g c =
    let low : c.from.result < length c.args.self.now.collectives.items =
    omega (arith, c.requires.group.count, c.from.ensures, c.requires.node) in
    let both = c.requires.group.at c.from.result c.index_mut.result.now
    (at_place c.args.self.now.collectives.items c.from.result c.index_mut.result.now low
    c.index_mut.ensures.value) in
    record { settings = both.0; me = both.1 ∙ c.from.ensures; thread = c.requires.thread }

pub returns-clause-settings : goal.returns-clause-settings
returns-clause-settings g c = ap (λ (site : Site). site.settings) c.try_end.ensures.same_site

pub returns-clause-table : goal.returns-clause-table
returns-clause-table g c = ap (λ (site : Site). site.table) c.try_end.ensures.same_site

pub returns-clause-group : goal.returns-clause-group
returns-clause-group g c =
    let low : c.from.result < length c.args.self.now.collectives.items =
    omega (arith, c.requires.group.count, c.from.ensures, c.requires.node) in
    group_set c.args.self.now.world c.try_end.new.caller.world.now c.args.self.now.collectives.items c.from.result
    c.index_mut.result.now c.try_end.new.self c.requires.group
    (ap (λ (site : Site). site.settings) c.try_end.ensures.same_site) low
    (at_place c.args.self.now.collectives.items c.from.result c.index_mut.result.now low c.index_mut.ensures.value)
    c.try_end.ensures.same_node

pub returns-clause-does : goal.returns-clause-does
returns-clause-does g c =
    end_does meaning old c.try_end.new.caller.world.now c.args.now c.args.node c.from.result c.index_mut.result.now
    c.try_end.new.self asked c.try_end.result
    (λ whole calls. whole_after (ghosts g.row.H g.H.Handlers g.H.Handlers-dict) site whole calls) one_by_one (record {
      group = c.requires.group;
      good = c.try_end.ensures.stands;
      low = low;
      there = at_place c.args.self.now.collectives.items c.from.result c.index_mut.result.now low
          c.index_mut.ensures.value;
    }) c.from.ensures c.try_end.ensures.same_node
    (λ group most stands.
    let whole : WorldWhole = record { records = group.records; most = most } in
    end_came (ghosts g.row.H g.H.Handlers g.H.Handlers-dict) c.index_mut.result.now _ asked c.try_end.result
    c.try_end.new.self c.try_end.new.caller c.try_end.ensures.ends whole stands
    (long_at meaning c.args.self.now.world c.args.node c.args.now group.records most stands))
  where
    meaning : Meaning
    meaning = g.H.Handlers.meaning c.args.handlers.now

    site : Site
    site = site_in meaning c.args.self.now.world c.args.node c.args.now

    old : GroupState
    old = record { world = c.args.self.now.world; nodes = c.args.self.now.collectives.items }

    asked : EndAsked
    asked = record { thread = c.args.thread; dest = c.args.dest }

    low : c.from.result < length c.args.self.now.collectives.items
    low = omega (arith, c.requires.group.count, c.from.ensures, c.requires.node)

    one_by_one : (whole : WorldWhole) (calls : List ThreadCall)
        → whole_after (ghosts g.row.H g.H.Handlers g.H.Handlers-dict) site whole calls
        ≡ after_calls site whole calls
    one_by_one whole [] = refl
    one_by_one whole (call ∷ later) = one_by_one (whole_then site whole call) later
