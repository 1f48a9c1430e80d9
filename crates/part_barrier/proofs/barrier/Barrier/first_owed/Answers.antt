use Rattle.std.proofs.Common.{sym, ap, ◌∙◌, arith}
use Rattle.part_barrier.specs.BarrierState.{notification_at}
use Rattle.part_barrier.proofs.Stepping.{notification_is, unowed}
use Rattle.part_barrier.proofs.barrier.Barrier.first_owed.Goals as goal

pub returns-then-self-eq0 : goal.returns-then-self-eq0
returns-then-self-eq0 c = λ nodes me kept stood to below.
    sym (notification_is nodes me c.args.self.now kept to stood)
    ∙ (sym (ap (λ state. notification_at state to) c.self.view_is)
    ∙ unowed c.self.inside to c.self.invariant (c.first_without-now.ensures to below)
    (λ some. absurd (some c.if-self-eq0.true)))

pub returns : goal.returns
returns c = λ nodes me kept stood to below.
    sym (notification_is nodes me c.args.self.now kept to stood)
    ∙ (sym (ap (λ state. notification_at state to) c.self.view_is)
    ∙ unowed c.self.inside to c.self.invariant
    (c.first_without-now.ensures to (omega (arith, below, c.min.ensures)))
    (λ some. c.first_without.ensures to (omega (arith, below, c.min.ensures))))
