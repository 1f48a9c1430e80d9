use Rattle.std.proofs.Common.{◌∙◌}
use Rattle.wire_message.proofs.Notified.{all_written, is_second}
use Rattle.wire_message.proofs.notification.notification_args.Goals as goal

pub returns-else-version-eq1-clause-written : goal.returns-else-version-eq1-clause-written
returns-else-version-eq1-clause-written c =
    c.wide_arguments.ensures
    ∙ all_written c.args.version c.args.notification.now c.args.args.now
    (is_second c.args.version c.requires c.if-version-eq1.false) c.told-args
