use Rattle.std.proofs.Common.{rules}
use Rattle.part_window.proofs.Requests.{request_committed}
use Rattle.wire_message.proofs.Spelling.{spelling_fits}
use Rattle.node_core.proofs.committing.keep_request.Goals as goal

pub returns-clause-message : goal.returns-clause-message
returns-clause-message c = rw c.outgoing.ensures.value at c.spell-len.ensures.message

pub returns-clause-kept : goal.returns-clause-kept
returns-clause-kept c =
    let message = rw c.outgoing.ensures.value at c.spell-len.ensures.message in
    let len = rw c.outgoing.ensures.value at c.spell-len.ensures.len in
    let written = rw len at (rw c.outgoing.ensures.value at c.spell-len.ensures.written) in
    let as_committed = rw (← len) at
    (request_committed _ _ _ c.in_ok-claimed.ensures.claimed written (spelling_fits _ message).buffer) in
    search (rules, as_committed)
