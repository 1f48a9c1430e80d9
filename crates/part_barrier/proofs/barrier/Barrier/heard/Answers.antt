use Rattle.std.proofs.Common.{sym, ap, ◌∙◌, subst, arith}
use Rattle.part_barrier.specs.Record.{join, hear}
use Rattle.part_barrier.specs.Stands.{BarrierStands}
use Rattle.part_barrier.specs.Views.{fields_view}
use Rattle.part_barrier.proofs.Stepping.{stands_present, stands_next}
use Rattle.part_barrier.proofs.barrier.Barrier.heard.Goals as goal

pub returns-then-notification-self-clause-stands : goal.returns-then-notification-self-clause-stands
returns-then-notification-self-clause-stands c = λ nodes me kept stood.
    let inside = c.self.inside in
    let before = subst (λ state. BarrierStands nodes me state kept) (sym c.self.view_is) stood in
    let state = fields_view inside in
    let present = c.join-self-inside.ensures ∙ ap (join state.present) c.part_of.ensures in
    subst (λ part. BarrierStands nodes me (record state { present = part }) (hear kept c.args.notification.now)) (sym present)
    (stands_present nodes me state kept c.args.notification.now before (omega arith))

pub returns-then-notification-self-eq1-clause-stands : goal.returns-then-notification-self-eq1-clause-stands
returns-then-notification-self-eq1-clause-stands c = λ nodes me kept stood.
    let inside = c.self.inside in
    let before = subst (λ state. BarrierStands nodes me state kept) (sym c.self.view_is) stood in
    let state = fields_view inside in
    let next = c.join-self-inside-then-notification-self-eq1.ensures
    ∙ ap (join state.next) c.part_of-then-notification-self-eq1.ensures in
    subst (λ part. BarrierStands nodes me (record state { next = part }) (hear kept c.args.notification.now)) (sym next)
    (stands_next nodes me state kept c.args.notification.now before (omega arith))
