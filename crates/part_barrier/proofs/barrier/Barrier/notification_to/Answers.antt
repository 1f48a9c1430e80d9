use Rattle.std.proofs.Common.{sym, ap, ◌∙◌}
use Rattle.part_barrier.specs.Record.{or_else}
use Rattle.part_barrier.specs.BarrierState.{now_due}
use Rattle.part_barrier.proofs.Stepping.{notification_is}
use Rattle.part_barrier.proofs.barrier.Barrier.notification_to.Goals as goal

pub returns-in-Some-clause-notification : goal.returns-in-Some-clause-notification
returns-in-Some-clause-notification c = λ nodes me kept stood.
    let last = sym c.last_due.ensures ∙ c.in-Some.is in
    sym (ap (λ notification. or_else notification (now_due c.args.self.now c.args.to)) last)
    ∙ notification_is nodes me c.args.self.now kept c.args.to stood

pub returns-in-None-clause-notification : goal.returns-in-None-clause-notification
returns-in-None-clause-notification c = λ nodes me kept stood.
    let last = sym c.last_due.ensures ∙ c.in-None.is in
    c.now_due.ensures
    ∙ (sym (ap (λ notification. or_else notification (now_due c.args.self.now c.args.to)) last)
    ∙ notification_is nodes me c.args.self.now kept c.args.to stood)
