use Rattle.std.proofs.Common.{◌≡◌, Option, Some, rules, subst, sym}
use Rattle.node_endpoint.specs.EndpointState.{EndpointState}
use Rattle.gasnet_c.specs.Retransmission.{TellsNextDue}
use Rattle.gasnet_c.proofs.retransmission.gasnet_c_next_due.Goals as goal

pub returns-clause-tells : goal.returns-clause-tells
returns-clause-tells c =
    let held : c.args.handle.now.place.held ≡ Some c.deref.result.now = search rules in
    subst (λ (node : Option EndpointState). TellsNextDue node c.next_due-time.result) (sym held) c.next_due-time.ensures
