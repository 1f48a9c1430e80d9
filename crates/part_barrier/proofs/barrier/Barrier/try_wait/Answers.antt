use Rattle.std.proofs.Common.{sym, subst, arith}
use Rattle.part_barrier.specs.Stands.{BarrierStands}
use Rattle.part_barrier.specs.Views.{fields_view}
use Rattle.part_barrier.proofs.Stepping.{stands_try}
use Rattle.part_barrier.proofs.barrier.Barrier.try_wait.Goals as goal

pub returns-clause-stands : goal.returns-clause-stands
returns-clause-stands c = λ nodes me kept stood.
    let inside = c.self.inside in
    let before = subst (λ state. BarrierStands nodes me state kept) (sym c.self.view_is) stood in
    rw c.no_part-self-inside.ensures
    (stands_try nodes me (fields_view inside) kept c.in-Some.own
    (record { id = c.args.id; flags = c.args.flags; exhausted = c.args.exhausted }) before (omega arith)
    c.in-Some.is (grind (arith, c.has_all.ensures, c.if-not-has_all.false)))
