use Rattle.std.proofs.Common.{◌<◌, sym, ap, subst, ◌∙◌}
use Rattle.part_handlers.specs.Runs.{Meaning}
use Rattle.law_collectives.specs.Groups.{Step}
use Rattle.sim_group.specs.GroupState.{GroupState, group_in}
use Rattle.sim_group.specs.Standing.{DoesStep}
use Rattle.sim_group.proofs.Growing.{step_grows}
use Rattle.sim_group.proofs.group.Group.coll_step.Goals as goal

pub step-requires : goal.step-requires
step-requires g c = record {
  group = c.self.invariant;
  node = subst (λ (one : GroupState). c.args.node < one.world.settings.nodes) (sym c.self.view_is) c.requires.node;
  thread = subst (λ (one : GroupState). c.args.thread < one.world.settings.threads) (sym c.self.view_is)
      c.requires.thread;
}

pub returns-clause-settings : goal.returns-clause-settings
returns-clause-settings g c =
    c.step.ensures.settings ∙ ap (λ (one : GroupState). one.world.settings) c.self.view_is

pub returns-clause-table : goal.returns-clause-table
returns-clause-table g c = c.step.ensures.table ∙ ap (λ (one : GroupState). one.world.table) c.self.view_is

pub returns-clause-does : goal.returns-clause-does
returns-clause-does g c =
    let meaning : Meaning = g.H.Handlers.meaning c.args.handlers.now in
    subst (λ (one : GroupState). DoesStep meaning one (Step c.args.now c.args.node c.args.thread) c.step.result
    (group_in c.step.new.self)) c.self.view_is
    c.step.ensures.does

pub returns-clause-history : goal.returns-clause-history
returns-clause-history g c =
    step_grows (g.H.Handlers.meaning c.args.handlers.now) c.args.self.now (group_in c.step.new.self)
    (Step c.args.now c.args.node c.args.thread) c.step.result
    (record { settings = returns-clause-settings g c; table = returns-clause-table g c })
    (λ among few area group. (c.requires.node, few)) (returns-clause-does g c)
