use Rattle.node_core.proofs.Sized.{sized_asked}
use Rattle.node_core.proofs.node.Core.claim_own.Goals as goal

pub invariant_of-self : goal.invariant_of-self
invariant_of-self c = (
  sized_asked _ _ _ _ _ c.request_way-way.result.to c.args.now c.keep_request.result _ c.keep_request.ensures.kept
      c.keep_request.ensures.refused
      c.self.invariant.0,
  c.self.invariant.1,
  c.self.invariant.2,
  c.self.invariant.3,
)
