use Rattle.std.proofs.Common.{rules}
use Rattle.node_core.specs.Sizes.{AreFreeRequests, AreFreeReplies}
use Rattle.node_core.proofs.CoreStands.{core_opens}
use Rattle.node_core.proofs.Sized.{sized_new}
use Rattle.node_core.proofs.node.Core.with_segment.Goals as goal

pub invariant_of-result : goal.invariant_of-result
invariant_of-result c =
    let s = c.args.settings.now in
    let asked : AreFreeRequests s c.args.me c.in_ok-requests.requests = c.in_ok-requests.ensures in
    let ran : AreFreeReplies s c.args.me c.in_ok-replies.replies = c.in_ok-replies.ensures in (
      sized_new s asked.range c.args.me c.requires.me asked.counts ran.counts asked.slots ran.slots
          c.in_ok-requests.requests c.in_ok-replies.replies asked.new ran.new,
      search rules,
      search rules,
      search rules,
    )

pub returns-clause-stands : goal.returns-clause-stands
returns-clause-stands c =
    let s = c.args.settings.now in
    let asked : AreFreeRequests s c.args.me c.in_ok-requests.requests = c.in_ok-requests.ensures in
    let ran : AreFreeReplies s c.args.me c.in_ok-replies.replies = c.in_ok-replies.ensures in
    core_opens s c.args.me c.args.table.now _ asked.range c.requires.me
    (record {
      settings = search rules;
      me_is = search rules;
      table_is = search rules;
      asked = asked.counts;
      asked_are = asked.slots;
      requests = asked.new;
      ran = ran.counts;
      ran_are = ran.slots;
      replies = ran.new;
      segment_is = search rules;
      locks_are = search rules;
      cells_are = search rules;
      log_is = search rules;
    })
