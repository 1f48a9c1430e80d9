use Rattle.node_core.specs.AskedFor.{work_of}
use Rattle.node_core.proofs.CoreSteps.{own_ask_step}
use Rattle.node_core.proofs.node.Core.ask.Goals as goal

pub returns : goal.returns
returns c =
    own_ask_step c.args.self.now c.args.now c.args.to (work_of c.args.work.now) c.claim_work.result
    c.claim_work.new.self c.requires.node c.requires.other c.claim_work.ensures
