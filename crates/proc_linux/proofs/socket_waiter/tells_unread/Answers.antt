use Rattle.std.proofs.Common.{rules}
use borrow.Author.Tests.{tests}
use Rattle.std.proofs.lemmas.Iterator.{cases_from_any, YieldsList-from_slice}
use Rattle.mio.specs.Events.{items}
use Rattle.proc_linux.specs.Waits.{SaysUnread, SaysNone}
use Rattle.proc_linux.proofs.socket_waiter.tells_unread.Goals as goal

pub returns : goal.returns
returns c =
    cases_from_any _ _ _ SaysUnread SaysNone c.any.ensures.ran (YieldsList-from_slice (items c.args.events.now) c.iter.ensures.rest)
    (λ x q k. search (rules, tests)) (λ x q k. search (rules, tests))
