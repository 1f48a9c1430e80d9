use Rattle.std.proofs.Common.{refl, sym, ap, subst, ◌∙◌}
use Rattle.wire_message.specs.Parameters.{Parameters}
use Rattle.part_handlers.specs.Runs.{Meaning}
use Rattle.node_rules.specs.EndpointRules.{timed_event, transition}
use Rattle.spec_network.specs.World.{IsAmong}
use Rattle.sim_world.specs.Aims.{MayFall}
use Rattle.sim_world.specs.Events.{StepsInWorld, event_of}
use Rattle.sim_group.specs.GroupState.{AreAt, GroupState}
use Rattle.sim_group.specs.Histories.{GrowsBeside}
use Rattle.sim_group.proofs.Growing.{beside_grows}
use Rattle.sim_group.proofs.group.Group.event.Goals as goal

pub step-requires : goal.step-requires
step-requires g c = record {
  among = subst (λ (one : GroupState). IsAmong one.world.settings (event_of c.args.event.now)) (sym c.self.view_is)
      c.requires.among;
  called = subst (λ (one : GroupState). MayFall one.world.settings c.args.event.now) (sym c.self.view_is)
      c.requires.called;
}

pub invariant_of-self : goal.invariant_of-self
invariant_of-self g c = record {
  count = c.self.invariant.count ∙ sym (ap (λ (one : Parameters). one.nodes) c.step.ensures.settings);
  at = subst (λ (one : Parameters). AreAt one c.self.inside.nodes.collectives.items) (sym c.step.ensures.settings)
      c.self.invariant.at;
}

pub returns-clause-settings : goal.returns-clause-settings
returns-clause-settings g c =
    c.step.ensures.settings ∙ ap (λ (one : GroupState). one.world.settings) c.self.view_is

pub returns-clause-table : goal.returns-clause-table
returns-clause-table g c = c.step.ensures.table ∙ ap (λ (one : GroupState). one.world.table) c.self.view_is

pub returns-clause-same : goal.returns-clause-same
returns-clause-same g c = ap (λ (one : GroupState). one.nodes) c.self.view_is

pub returns-clause-steps : goal.returns-clause-steps
returns-clause-steps g c =
    subst (λ (one : GroupState). StepsInWorld (g.H.Handlers.meaning c.args.handlers.now) one.world
    (transition c.args.now (event_of c.args.event.now) c.step.result) c.step.new.self) c.self.view_is
    c.step.ensures.steps

pub returns-clause-history : goal.returns-clause-history
returns-clause-history g c =
    let meaning : Meaning = g.H.Handlers.meaning c.args.handlers.now in
    let old : GroupState = record { world = c.self.inside.nodes.world; nodes = c.self.inside.nodes.collectives.items } in
    let new : GroupState = record { world = c.step.new.self; nodes = c.self.inside.nodes.collectives.items } in
    subst (λ (one : GroupState). GrowsBeside meaning one (timed_event c.args.now (event_of c.args.event.now)) c.step.result
    new) c.self.view_is
    (beside_grows meaning old new (timed_event c.args.now (event_of c.args.event.now)) c.step.result
    (record { settings = c.step.ensures.settings; table = c.step.ensures.table }) refl c.step.ensures.steps)
