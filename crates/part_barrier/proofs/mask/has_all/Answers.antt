use Rattle.std.proofs.Common.{sym, arith}
use Rattle.wire_message.specs.Notifications.{mask_number}
use Rattle.part_barrier.proofs.RoundLaws.{has_all-false}
use Rattle.part_barrier.proofs.mask.has_all.Goals as goal

pub returns-then-not-is_in : goal.returns-then-not-is_in
returns-then-not-is_in c =
    sym (has_all-false (mask_number c.args.mask.now) c.args.nodes c.loop-node.node c.loop-node-test.true
    (grind (arith, c.is_in.ensures, c.if-not-is_in.true)))
