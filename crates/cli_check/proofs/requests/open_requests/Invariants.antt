-- The peers below this one.
use Rattle.std.proofs.Common.{◌≡◌, ◌≤◌, ◌*◌}
use Rattle.node_endpoint.specs.EndpointState.{ForItsRecord}
use Rattle.cli_check.specs.NodeReplays.{open_among}
use Rattle.cli_check.proofs.requests.open_requests.Given as goal

abbrev pub invariant-loop-peer : goal.invariant-loop-peer
invariant-loop-peer l = record {
  count : ForItsRecord l.endpoint (λ node.
      l.count ≡ open_among l.endpoint.core.settings l.endpoint.core.me node l.peer);
  few : l.count ≤ 32 * l.peer;
}
