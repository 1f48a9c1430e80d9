-- One peer more.
use Rattle.std.proofs.Common.{◌+◌, ap, ap₂, ◌∙◌, arith}
use Rattle.cli_check.specs.NodeReplays.{open_among}
use Rattle.cli_check.proofs.OpenCounts.{none_among, peer_more}
use Rattle.cli_check.proofs.requests.open_requests.Goals as goal

pub loop-peer-init : goal.loop-peer-init
loop-peer-init c = record {
  count = λ node stands. none_among c.args.endpoint.now.core.settings c.args.endpoint.now.core.me node;
  few = omega arith;
}

pub loop-peer-preserved : goal.loop-peer-preserved
loop-peer-preserved c = record {
  count = λ node stands.
      ap₂ (λ a b. a + b) (c.loop-peer.invariant.count node stands) (c.open_to-count.ensures.is node stands)
      ∙ peer_more c.args.endpoint.now.core.settings c.args.endpoint.now.core.me node c.loop-peer.peer;
  few = omega (arith, c.loop-peer.invariant.few, c.open_to-count.ensures.few);
}

pub returns : goal.returns
returns c = λ node stands.
    c.loop-peer.invariant.count node stands
    ∙ ap (open_among c.args.endpoint.now.core.settings c.args.endpoint.now.core.me node)
    (omega (arith, c.loop-peer-test.false, c.loop-peer.auto.peer-end))
