use Rattle.std.proofs.Common.{◌<◌, sym, ap, subst, ◌∙◌}
use Rattle.part_handlers.specs.Runs.{Meaning}
use Rattle.law_collectives.specs.Groups.{GroupEvent, Start}
use Rattle.sim_group.specs.GroupState.{GroupState, group_in}
use Rattle.sim_group.specs.Standing.{DoesStart}
use Rattle.sim_group.proofs.Growing.{start_grows}
use Rattle.sim_group.proofs.group.Group.coll_start.Goals as goal

pub start-requires : goal.start-requires
start-requires g c = record {
  group = c.self.invariant;
  node = subst (λ (one : GroupState). c.args.node < one.world.settings.nodes) (sym c.self.view_is) c.requires.node;
  thread = subst (λ (one : GroupState). c.args.thread < one.world.settings.threads) (sym c.self.view_is)
      c.requires.thread;
}

pub returns-clause-settings : goal.returns-clause-settings
returns-clause-settings g c =
    c.start.ensures.settings ∙ ap (λ (one : GroupState). one.world.settings) c.self.view_is

pub returns-clause-table : goal.returns-clause-table
returns-clause-table g c = c.start.ensures.table ∙ ap (λ (one : GroupState). one.world.table) c.self.view_is

pub returns-clause-does : goal.returns-clause-does
returns-clause-does g c =
    let meaning : Meaning = g.H.Handlers.meaning c.args.handlers.now in
    let event : GroupEvent = Start c.args.now c.args.node c.args.thread c.args.shape c.args.from in
    subst (λ (one : GroupState). DoesStart meaning one event c.start.result (group_in c.start.new.self)) c.self.view_is
    c.start.ensures.does

pub returns-clause-history : goal.returns-clause-history
returns-clause-history g c =
    start_grows (g.H.Handlers.meaning c.args.handlers.now) c.args.self.now (group_in c.start.new.self)
    (Start c.args.now c.args.node c.args.thread c.args.shape c.args.from) c.start.result
    (record { settings = returns-clause-settings g c; table = returns-clause-table g c })
    (λ area group. c.requires.node) (returns-clause-does g c)
