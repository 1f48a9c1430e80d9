use Rattle.node_rules.proofs.Calling.{asks_nothing}
use Rattle.node_rules.proofs.call.Call.asking.Goals as goal

pub returns-in_default : goal.returns-in_default
returns-in_default c =
    asks_nothing c.args.self.now c.in_default.not-Short c.in_default.not-Medium c.in_default.not-Long
    c.in_default.not-LongAsync
