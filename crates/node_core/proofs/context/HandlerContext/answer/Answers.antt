use Rattle.std.proofs.Common.{arith, rules}
use Rattle.wire_message.proofs.Spelling.{spelling_fits}
use Rattle.part_window.proofs.KeptReplies.{reply_committed}
use Rattle.node_core.proofs.context.HandlerContext.answer.Goals as goal

pub commit-requires-clause-some : goal.commit-requires-clause-some
commit-requires-clause-some g c =
    let fits = spelling_fits _ c.answer_into-len.ensures.left.message in
    omega (arith, c.answer_into-len.ensures.left.len_is, fits.header)

pub returns-clause-kept : goal.returns-clause-kept
returns-clause-kept g c =
    let ran = c.answer_into-len.ensures.left in
    let as_committed = rw (← ran.len_is) at
    (reply_committed _ _ _ c.place-place.ensures.placed ran.buffer_is (spelling_fits _ ran.message).buffer) in
    record {
      left = ran.left;
      message = ran.message;
      replies_are = search
          (rules, as_committed);
    }
