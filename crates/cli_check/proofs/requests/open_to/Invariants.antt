-- The slots below this one.
use Rattle.std.proofs.Common.{◌≡◌, ◌≤◌}
use Rattle.node_endpoint.specs.EndpointState.{ForItsRecord}
use Rattle.cli_check.specs.NodeReplays.{open_below}
use Rattle.cli_check.proofs.requests.open_to.Given as goal

abbrev pub invariant-loop-slot : goal.invariant-loop-slot
invariant-loop-slot l = record {
  count : ForItsRecord l.endpoint (λ node.
      l.count ≡ open_below l.endpoint.core.settings l.endpoint.core.me node l.peer l.slot);
  few : l.count ≤ l.slot;
}
