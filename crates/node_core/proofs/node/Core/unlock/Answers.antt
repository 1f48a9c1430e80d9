use Rattle.std.proofs.Common.{rules, ap, ◌∙◌}
use Rattle.part_handlers.specs.declared.lock_answer.Owner.TheVariants as owner
use Rattle.part_handlers.specs.Locks.{holds}
use Rattle.node_core.proofs.ThreadLocks.{unlock_unheld}
use Rattle.node_core.proofs.CoreSteps.{unlock_step, unlock_step_quiet}
use Rattle.node_core.proofs.node.Core.unlock.Goals as goal

pub returns-in-Refused-clause-steps : goal.returns-in-Refused-clause-steps
returns-in-Refused-clause-steps c = λ meaning now.
    unlock_step meaning c.args.self.now now c.args.thread c.args.lock _ c.log_violation.new.self (search rules) (search rules)

pub returns-in_default-clause-steps : goal.returns-in_default-clause-steps
returns-in_default-clause-steps c = λ meaning now.
    unlock_step_quiet meaning c.args.self.now now c.args.thread c.args.lock c.unlock-answer.result _
    (search rules) (λ fault. c.in_default.not-Refused fault) (search rules)

pub invariant_of-self-in_default : goal.invariant_of-self-in_default
invariant_of-self-in_default c = (
  c.self.invariant.0,
  c.self.invariant.1,
  c.self.invariant.2,
  ap (holds owner.Handler) c.unlock-answer.ensures.locks
      ∙ unlock_unheld c.self.inside.locks c.args.thread c.args.lock c.self.invariant.3,
)
