use Rattle.node_core.proofs.CoreSteps.{checks_step}
use Rattle.node_core.proofs.node.Core.check.Goals as goal

pub returns-clause-steps : goal.returns-clause-steps
returns-clause-steps c = λ meaning now.
    checks_step meaning c.args.self.now now c.args.thread c.args.call c.judge.result c.judge.new.self
    c.judge.ensures.judged c.judge.ensures.noted
