use Rattle.std.proofs.Common.{◌∙◌, ap, map, subst, ℤ, List}
use Rattle.wire_message.specs.Content.{medium_reply}
use Rattle.text_script.specs.ActionResult.{AsksReply}
use Rattle.text_script.specs.Bodies.{operand_value}
use Rattle.text_script.proofs.RepliesAsked.{reply_asked}
use Rattle.text_script.proofs.body_replies.reply_medium.Goals as goal

pub returns-clause-asks : goal.returns-clause-asks
returns-clause-asks c =
    let are = c.values_of-values.ensures
    ∙ ap (λ (args : List ℤ). map (operand_value c.args.cells.now args) c.args.operands.now) c.args-2.ensures in
    subst (λ (values : List ℤ). AsksReply (medium_reply c.args.handler values c.args.payload.now) c.args.token.now
    c.reply_medium.new.self) are
    (reply_asked c.args.token.now c.reply_medium.new.self _ c.reply_medium.result c.reply_medium.ensures.answer
    c.reply_medium.ensures.answered c.reply_medium.ensures.spelled)
