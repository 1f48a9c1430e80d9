use Rattle.node_core.specs.AskedFor.{ask_of}
use Rattle.node_core.proofs.CoreSteps.{requests_step}
use Rattle.node_core.proofs.node.Core.request.Goals as goal

pub returns : goal.returns
returns g c =
    requests_step (g.H.Handlers.meaning c.args.handlers.now) c.args.self.now c.args.now (ask_of c.args.asking.now)
    c.make.result c.make.new.self (g.met.H.Handlers.is_lawful c.args.handlers.now) c.requires c.make.ensures
