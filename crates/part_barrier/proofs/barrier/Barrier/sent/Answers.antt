use Rattle.std.proofs.Common.{sym, ap, ◌∙◌, subst}
use Rattle.std.specs.Prelude.{is_some, IsSome}
use Rattle.part_barrier.specs.Stands.{BarrierStands}
use Rattle.part_barrier.specs.BarrierState.{last_due, notification_at}
use Rattle.part_barrier.specs.Views.{fields_view}
use Rattle.part_barrier.proofs.Stepping.{sends_last, sends_now}
use Rattle.part_barrier.proofs.barrier.Barrier.sent.Goals as goal

pub returns-then-is_some-clause-stands : goal.returns-then-is_some-clause-stands
returns-then-is_some-clause-stands c = λ nodes me kept stood.
    let inside = c.self.inside in
    let before = subst (λ state. BarrierStands nodes me state kept) (sym c.self.view_is) stood in
    let same = ap (λ state. is_some (last_due state c.args.to)) c.self.view_is
    ∙ (ap is_some (sym c.last_due.ensures) ∙ sym c.is_some.ensures) in
    rw c.put_in.ensures
    (sends_last nodes me (fields_view inside) kept c.args.to before (same ∙ c.if-is_some.true))

pub returns-else-is_some-clause-stands : goal.returns-else-is_some-clause-stands
returns-else-is_some-clause-stands c = λ nodes me kept stood.
    let inside = c.self.inside in
    let before = subst (λ state. BarrierStands nodes me state kept) (sym c.self.view_is) stood in
    let same = ap (λ state. is_some (last_due state c.args.to)) c.self.view_is
    ∙ (ap is_some (sym c.last_due.ensures) ∙ sym c.is_some.ensures) in
    let due = subst (λ state. IsSome (notification_at state c.args.to)) (sym c.self.view_is) c.requires.due in
    rw c.put_in-else-is_some.ensures
    (sends_now nodes me (fields_view inside) kept c.args.to before (same ∙ c.if-is_some.false) due)
