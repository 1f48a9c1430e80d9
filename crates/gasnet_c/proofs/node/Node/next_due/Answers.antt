use Rattle.gasnet_c.proofs.NextDue.{due_from, due_never}
use Rattle.gasnet_c.proofs.node.Node.next_due.Goals as goal

pub returns-in-Some : goal.returns-in-Some
returns-in-Some c = due_from c.self.inside.endpoint c.args.self.now c.in-Some.time c.self.view_is c.in-Some.ensures

pub returns-in-None : goal.returns-in-None
returns-in-None c = due_never c.self.inside.endpoint c.args.self.now c.self.view_is c.in-None.ensures
