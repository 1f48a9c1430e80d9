use Rattle.std.proofs.Common.{◌<◌, sym, ap, subst, ◌∙◌}
use Rattle.part_handlers.specs.Runs.{Meaning}
use Rattle.sim_world.specs.Events.{job_in}
use Rattle.spec_network.specs.MostHeld.{most_after}
use Rattle.law_collectives.specs.Groups.{End, GroupEvent, OfEnd}
use Rattle.sim_group.specs.GroupState.{GroupState, group_in}
use Rattle.sim_group.specs.CallsOf.{calls_of}
use Rattle.sim_group.specs.Histories.{left_by}
use Rattle.sim_group.specs.Standing.{Does}
use Rattle.sim_group.proofs.Growing.{grows, tells}
use Rattle.sim_group.proofs.group.Group.coll_end.Goals as goal

pub try_end-requires : goal.try_end-requires
try_end-requires g c = record {
  group = c.self.invariant;
  node = subst (λ (one : GroupState). c.args.node < one.world.settings.nodes) (sym c.self.view_is) c.requires.node;
  thread = subst (λ (one : GroupState). c.args.thread < one.world.settings.threads) (sym c.self.view_is)
      c.requires.thread;
}

pub returns-clause-settings : goal.returns-clause-settings
returns-clause-settings g c =
    c.try_end.ensures.settings ∙ ap (λ (one : GroupState). one.world.settings) c.self.view_is

pub returns-clause-table : goal.returns-clause-table
returns-clause-table g c = c.try_end.ensures.table ∙ ap (λ (one : GroupState). one.world.table) c.self.view_is

pub returns-clause-does : goal.returns-clause-does
returns-clause-does g c =
    let meaning : Meaning = g.H.Handlers.meaning c.args.handlers.now in
    let event : GroupEvent = End c.args.now c.args.node c.args.thread c.args.dest in
    subst (λ (one : GroupState). Does meaning one event (OfEnd c.try_end.result) (group_in c.try_end.new.self))
    c.self.view_is
    c.try_end.ensures.does

pub returns-clause-history : goal.returns-clause-history
returns-clause-history g c = λ history is.
    let meaning : Meaning = g.H.Handlers.meaning c.args.handlers.now in
    let event : GroupEvent = End c.args.now c.args.node c.args.thread c.args.dest in
    grows meaning c.args.self.now (group_in c.try_end.new.self) history event
    (record { settings = returns-clause-settings g c; table = returns-clause-table g c }) is c.requires.node (
      most_after (job_in meaning c.args.self.now.world)
          (calls_of (job_in meaning c.args.self.now.world) history.area (left_by meaning c.args.self.now history) event)
          (left_by meaning c.args.self.now history).records is.is_left.0,
      (returns-clause-does g c history.area (left_by meaning c.args.self.now history) is.is_left.0 is.is_left.1).1,
    )

pub returns-clause-law : goal.returns-clause-law
returns-clause-law g c = λ history is there.
    tells (g.H.Handlers.meaning c.args.handlers.now) c.args.self.now (group_in c.try_end.new.self)
    (record { now = c.args.now; node = c.args.node; thread = c.args.thread; dest = c.args.dest }) c.try_end.result
    (g.met.H.Handlers.is_lawful c.args.handlers.now) (returns-clause-does g c) history is there
