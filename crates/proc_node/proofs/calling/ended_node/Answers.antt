use Rattle.std.proofs.Common.{◌∙◌, sym, ap, subst, refl, not, ◌==◌}
use Rattle.part_handlers.specs.LogState.{LogRecord}
use Rattle.node_endpoint.specs.EndpointState.{EndpointState, EndpointStands}
use Rattle.proc_node.specs.NodeEnds.{node_for}
use Rattle.proc_node.proofs.calling.ended_node.Goals as goal

pub returns : goal.returns
returns g c = record {
  violated_is = λ node stands. ap (λ n. not (n == 0))
      (c.count-violated.ensures ∙ ap (λ (log : LogRecord). log.count)
      (c.log.ensures node
      (subst (λ (any : EndpointState). EndpointStands any node) (sym c.into_endpoint-endpoint.ensures.is)
      stands)));
  end_is = refl;
  node_is = c.node_for.ensures ∙ ap (node_for c.args.left.end) c.into_endpoint-endpoint.ensures.is;
  link = c.into_inner.ensures;
  clock = refl;
  sink = c.into_sink.ensures;
}
