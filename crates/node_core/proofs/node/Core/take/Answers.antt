use Rattle.std.proofs.Common.{◌≡◌, false, None, rules}
use Rattle.wire_message.specs.Content.{code, is_ack}
use Rattle.wire_message.specs.Reading.{viewed_message}
use Rattle.node_core.specs.CoreStep.{lock_at}
use Rattle.node_core.proofs.LibraryLaws.{freed_can_run}
use Rattle.node_core.proofs.Sized.{sized_slot}
use Rattle.node_core.proofs.node.Core.take.Goals as goal

pub run_reply-requires-clause-reply : goal.run_reply-requires-clause-reply
run_reply-requires-clause-reply g c =
    let message = viewed_message c.args.message.now in
    let runs : is_ack (code message.kind) ≡ false = search rules in
    let free : lock_at c.args.self.now message ≡ None = search rules in
    freed_can_run c.args.self.now _ message c.take_back.new.self c.self.view_is c.requires.ours runs free

pub invariant_of-self-then-ne : goal.invariant_of-self-then-ne
invariant_of-self-then-ne g c = (
  rw c.if-not-take_back.ensures.freed (sized_slot _ _ _ _ _ _ _ c.self.invariant.0),
  c.self.invariant.1,
  c.self.invariant.2,
  c.self.invariant.3,
)

pub invariant_of-self-else-ne : goal.invariant_of-self-else-ne
invariant_of-self-else-ne g c = (
  rw c.if-not-take_back.ensures.freed (sized_slot _ _ _ _ _ _ _ c.self.invariant.0),
  c.self.invariant.1,
  c.self.invariant.2,
  c.self.invariant.3,
)
