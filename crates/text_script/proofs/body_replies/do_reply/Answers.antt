-- Each reply adds to the outcome what the token's call does.
use Rattle.text_script.proofs.RepliesAsked.{long_at, medium_at, short_at}
use Rattle.text_script.proofs.body_replies.do_reply.Goals as goal

pub returns-in-Short-clause-at : goal.returns-in-Short-clause-at
returns-in-Short-clause-at c opening outcome at =
    rw c.in-Short.is
    (short_at opening outcome c.args.segment.now c.args.cells.now c.args.token.now c.reply_short.new.token
    c.in-Short.handler c.in-Short.operands c.items.result.now at c.items.ensures.items c.reply_short.ensures.asks)

pub returns-in-Some-clause-at : goal.returns-in-Some-clause-at
returns-in-Some-clause-at c opening outcome at =
    rw c.in-Medium.is
    (medium_at opening outcome c.args.segment.now c.args.cells.now c.args.token.now c.reply_medium.new.token
    c.in-Medium.handler c.in-Medium.payload c.in-Some.payload.now c.in-Medium.operands c.items-in-Some.result.now at
    c.items-in-Some.ensures.items c.in-Some.ensures c.reply_medium.ensures.asks)

pub returns-in-Some-payload_bytes-clause-at : goal.returns-in-Some-payload_bytes-clause-at
returns-in-Some-payload_bytes-clause-at c opening outcome at =
    rw c.in-Long.is
    (long_at opening outcome c.args.segment.now c.args.cells.now c.args.token.now c.reply_long.new.token
    c.in-Long.handler c.in-Long.offset c.in-Long.payload c.in-Some-payload_bytes.payload.now c.in-Long.operands
    c.items-in-Some-payload_bytes.result.now at c.items-in-Some-payload_bytes.ensures.items
    c.in-Some-payload_bytes.ensures c.reply_long.ensures.asks)
