use Rattle.std.proofs.Common.{◌≡◌, ◌∙◌, [], List, ℕ, subst}
use Rattle.wire_message.specs.Content.{long_reply}
use Rattle.node_atomics.specs.Served.{block_of, changes_of, olds_of}
use Rattle.node_atomics.proofs.Served.{Replies, replied_at}
use Rattle.node_atomics.proofs.serving.do_batch.Goals as goal

pub returns-clause-at : goal.returns-clause-at
returns-clause-at c cells opening outcome at =
    let segment = c.args.segment.now in
    let block = block_of (olds_of segment c.args.ops.now) c.args.tag in
    let token = c.args.token.now in
    let reply : Replies (long_reply 253 [] c.args.local c.deref.result.now) token c.reply_long.new.self
    c.reply_long.result = record {
      answer = c.reply_long.ensures.answer;
      answered_so = c.reply_long.ensures.answered;
      spelled = c.reply_long.ensures.spelled;
    } in
    let is : c.deref.result.now ≡ block = c.deref.ensures.0 ∙ c.block_after-block.ensures.block in
    replied_at opening outcome segment c.block_after-block.new.segment cells token c.reply_long.new.self
    (changes_of segment c.args.ops.now) (long_reply 253 [] c.args.local block) c.reply_long.result at
    c.block_after-block.ensures.segment c.block_after-block.ensures.same_length
    (subst (λ (bytes : List ℕ). Replies (long_reply 253 [] c.args.local bytes) token c.reply_long.new.self
    c.reply_long.result) is reply)
