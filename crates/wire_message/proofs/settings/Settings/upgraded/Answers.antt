use Rattle.wire_message.proofs.Keeping.{upgraded_stored}
use Rattle.wire_message.proofs.settings.Settings.upgraded.Goals as goal

pub invariant_of-result : goal.invariant_of-result
invariant_of-result c = upgraded_stored c.self.inside c.self.invariant
