use Rattle.std.proofs.Common.{rules}
use Rattle.wire_message.proofs.Spelling.{spelling_fits}
use Rattle.part_window.proofs.KeptReplies.{reply_committed}
use Rattle.node_core.proofs.committing.keep_reply.Goals as goal

pub returns-clause-kept : goal.returns-clause-kept
returns-clause-kept c =
    let spelled = c.spell-len.ensures in
    let written = rw spelled.len at spelled.written in
    let as_committed = rw (← spelled.len) at
    (reply_committed _ _ _ c.place-place.ensures.placed written (spelling_fits _ spelled.message).buffer) in
    search (rules, as_committed)
