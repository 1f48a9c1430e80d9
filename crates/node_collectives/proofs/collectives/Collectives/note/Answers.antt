-- What is noted of a node.
use Rattle.std.proofs.Common.{◌<◌, ◌∙◌, subst, sym}
use Rattle.std.proofs.lemmas.List.{length-set}
use Rattle.node_collectives.specs.CollectivesState.{CollectivesState}
use Rattle.node_collectives.specs.contracts.collectives.Collectives.{the_view}
use Rattle.node_collectives.proofs.Stepping.{mark_inside, stands_exhausted, stands_sent}
use Rattle.node_collectives.proofs.collectives.Collectives.note.Goals as goal

pub bounds-self-inside-from : goal.bounds-self-inside-from
bounds-self-inside-from c =
    mark_inside (the_view c.self.inside) c.args.to c.from.result c.self.invariant c.from.ensures
    (subst (λ (it : CollectivesState). c.args.to < it.area.nodes) (sym c.self.view_is) c.requires)

pub invariant_of-self : goal.invariant_of-self
invariant_of-self c =
    stands_sent (the_view c.self.inside) _ (length-set c.self.inside.sent c.from.result _ ∙ c.self.told.0)
    c.self.invariant

pub bounds-self-inside-from-in-Some-Asked-Exhausted : goal.bounds-self-inside-from-in-Some-Asked-Exhausted
bounds-self-inside-from-in-Some-Asked-Exhausted c =
    mark_inside (the_view c.self.inside) c.args.to c.from-in-Some-Asked-Exhausted.result c.self.invariant
    c.from-in-Some-Asked-Exhausted.ensures
    (subst (λ (it : CollectivesState). c.args.to < it.area.nodes) (sym c.self.view_is) c.requires)

pub invariant_of-self-in-Exhausted-1 : goal.invariant_of-self-in-Exhausted-1
invariant_of-self-in-Exhausted-1 c =
    stands_exhausted (the_view c.self.inside) _
    (length-set c.self.inside.exhausted c.from-in-Some-Asked-Exhausted.result _ ∙ c.self.told.1) c.self.invariant

pub bounds-self-inside-from-in-Some : goal.bounds-self-inside-from-in-Some
bounds-self-inside-from-in-Some c =
    mark_inside (the_view c.self.inside) c.args.to c.from-in-Some.result c.self.invariant
    c.from-in-Some.ensures
    (subst (λ (it : CollectivesState). c.args.to < it.area.nodes) (sym c.self.view_is) c.requires)

pub invariant_of-self-in-Some : goal.invariant_of-self-in-Some
invariant_of-self-in-Some c =
    stands_exhausted (the_view c.self.inside) _
    (length-set c.self.inside.exhausted c.from-in-Some.result _ ∙ c.self.told.1) c.self.invariant
