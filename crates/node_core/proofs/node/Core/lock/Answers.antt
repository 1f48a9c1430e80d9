use Rattle.std.proofs.Common.{rules}
use Rattle.node_core.proofs.CoreSteps.{lock_step, lock_step_quiet}
use Rattle.node_core.proofs.node.Core.lock.Goals as goal

pub returns-in-Refused-clause-steps : goal.returns-in-Refused-clause-steps
returns-in-Refused-clause-steps c = λ meaning now.
    lock_step meaning c.args.self.now now c.args.thread c.args.lock _ c.log_violation.new.self (search rules) (search rules)

pub returns-in_default : goal.returns-in_default
returns-in_default c = record {
  answer = search rules;
  steps = λ meaning now. lock_step_quiet meaning c.args.self.now now c.args.thread c.args.lock c.lock-answer.result _
      (search rules) (λ fault. c.in_default.not-Refused fault) (search rules);
}
