use Rattle.std.proofs.Common.{◌∙◌, ap, map, subst, ℤ, List}
use Rattle.wire_message.specs.Content.{long_reply}
use Rattle.text_script.specs.ActionResult.{AsksReply}
use Rattle.text_script.specs.Bodies.{operand_value}
use Rattle.text_script.proofs.RepliesAsked.{reply_asked}
use Rattle.text_script.proofs.body_replies.reply_long.Goals as goal

pub returns-clause-asks : goal.returns-clause-asks
returns-clause-asks c =
    let are = c.values_of-values.ensures
    ∙ ap (λ (args : List ℤ). map (operand_value c.args.cells.now args) c.args.operands.now) c.args-2.ensures in
    subst (λ (values : List ℤ). AsksReply (long_reply c.args.aim.handler values c.args.aim.offset c.args.payload.now)
    c.args.token.now c.reply_long.new.self) are
    (reply_asked c.args.token.now c.reply_long.new.self _ c.reply_long.result c.reply_long.ensures.answer
    c.reply_long.ensures.answered c.reply_long.ensures.spelled)
