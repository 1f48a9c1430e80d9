use Rattle.std.proofs.Common.{List, Option, refl, sym, ap, subst, subst₂, ◌∙◌}
use Rattle.wire_message.specs.Parameters.{AreInRange, Parameters}
use Rattle.part_handlers.specs.declared.table.Entry.{Entry}
use Rattle.node_rules.specs.EndpointRules.{job_of}
use Rattle.part_collective_area.specs.Area.{Area}
use Rattle.law_collectives.specs.CollectiveLaws.{CollectivesHold}
use Rattle.sim_group.specs.GroupState.{AreAt, GroupState}
use Rattle.sim_group.proofs.Growing.{law_of, opens}
use Rattle.sim_group.proofs.group.Group.new.Goals as goal

pub invariant_of-result : goal.invariant_of-result
invariant_of-result c = record {
  count = c.in_ok-collectives.ensures.count ∙ sym (ap (λ (s : Parameters). s.nodes) c.in_ok-world.ensures.settings);
  at = subst (λ (s : Parameters). AreAt s c.in_ok-collectives.collectives.items) (sym c.in_ok-world.ensures.settings)
      c.in_ok-collectives.ensures.at;
}

pub returns-clause-opened : goal.returns-clause-opened
returns-clause-opened c = (
  (λ i. 0),
  record { world = c.in_ok-world.ensures.stands; nodes = c.in_ok-collectives.ensures.idle },
)

pub returns-clause-history : goal.returns-clause-history
returns-clause-history c = λ meaning serves.
    let area : Area = record { nodes = c.args.settings.now.nodes; base = c.args.base; room = c.args.room } in
    let it : GroupState = record { world = c.in_ok-world.world; nodes = c.in_ok-collectives.collectives.items } in
    opens meaning it c.args.settings.now c.args.table.now area c.in_ok-world.ensures.settings
    c.in_ok-world.ensures.table serves c.requires.registered c.requires.area refl (returns-clause-opened c)

pub returns-clause-laws : goal.returns-clause-laws
returns-clause-laws c = λ meaning lawful serves.
    let area : Area = record { nodes = c.args.settings.now.nodes; base = c.args.base; room = c.args.room } in
    subst₂ (λ (s : Parameters) (t : List (Option Entry)). CollectivesHold (job_of s t meaning) area)
    (sym c.in_ok-world.ensures.settings) (sym c.in_ok-world.ensures.table)
    (law_of meaning c.args.settings.now c.args.table.now area
    (subst AreInRange c.in_ok-world.ensures.settings c.in_ok-world.ensures.stands.range) lawful c.requires.registered
    serves c.requires.area refl)
