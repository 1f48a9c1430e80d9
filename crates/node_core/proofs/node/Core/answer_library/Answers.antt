use Rattle.node_core.proofs.Sized.{sized_reply}
use Rattle.node_core.proofs.node.Core.answer_library.Goals as goal

pub invariant_of-self : goal.invariant_of-self
invariant_of-self c = (
  rw c.keep_reply.ensures.kept (sized_reply _ _ _ _ _ _ _ _ c.self.invariant.0),
  c.self.invariant.1,
  c.self.invariant.2,
  c.self.invariant.3,
)

pub invariant_of-self-2 : goal.invariant_of-self-2
invariant_of-self-2 c = (
  rw c.keep_reply-2.ensures.kept (sized_reply _ _ _ _ _ _ _ _ c.self.invariant.0),
  c.self.invariant.1,
  c.self.invariant.2,
  c.self.invariant.3,
)
