use Rattle.base_io.proofs.Children.{pending_started, pending_unstarted}
use Rattle.base_io.proofs.memory_spawner.is_pending.Goals as goal

pub returns-then-was_started : goal.returns-then-was_started
returns-then-was_started c =
    pending_started c.was_started.result c.was_finished.result c.args.rank c.args.calls.now c.was_started.ensures
    c.was_finished.ensures c.if-was_started.true

pub returns-else-was_started : goal.returns-else-was_started
returns-else-was_started c =
    pending_unstarted c.was_started.result c.args.rank c.args.calls.now c.was_started.ensures c.if-was_started.false
