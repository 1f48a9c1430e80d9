use Rattle.std.proofs.Common.{rules}
use Rattle.part_window.specs.Due.{IsDue as SlotsDue}
use Rattle.node_core.proofs.Ticking.{due_told}
use Rattle.node_core.proofs.node.Core.is_due.Goals as goal

pub returns : goal.returns
returns c =
    let told : SlotsDue c.args.self.now.requests c.args.now c.args.self.now.settings.resend c.is_due.result =
    search rules in
    due_told c.args.self.now c.args.now c.is_due.result told
