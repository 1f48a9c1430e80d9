use Rattle.std.proofs.Common.{ap, ◌∙◌}
use Rattle.part_handlers.specs.declared.lock_answer.Owner.TheVariants as owner
use Rattle.part_handlers.specs.Locks.{holds}
use Rattle.node_core.proofs.Sized.{sized_reply}
use Rattle.node_core.proofs.node.Core.run_new.Goals as goal

pub invariant_of-self : goal.invariant_of-self
invariant_of-self g c = (
  rw c.answer.ensures.kept.replies_are (sized_reply _ _ _ _ _ _ _ _ c.self.invariant.0),
  c.self.invariant.1,
  c.self.invariant.2,
  ap (holds owner.Handler) c.answer.ensures.kept.left.locks_are ∙ c.self.invariant.3,
)
