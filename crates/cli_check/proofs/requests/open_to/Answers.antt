-- One slot more.
use Rattle.std.proofs.Common.{◌+◌, ap, ap₂, ◌∙◌, arith}
use Rattle.cli_check.specs.NodeReplays.{open_below}
use Rattle.cli_check.proofs.OpenCounts.{none_below, one_more}
use Rattle.cli_check.proofs.requests.open_to.Goals as goal

pub loop-slot-init : goal.loop-slot-init
loop-slot-init c = record {
  count = λ node stands. none_below c.args.endpoint.now.core.settings c.args.endpoint.now.core.me node c.args.peer;
  few = omega arith;
}

pub loop-slot-preserved : goal.loop-slot-preserved
loop-slot-preserved c = record {
  count = λ node stands.
      ap₂ (λ a b. a + b) (c.loop-slot.invariant.count node stands) (c.one_if_open-count.ensures.is node stands)
      ∙ one_more c.args.endpoint.now.core.settings c.args.endpoint.now.core.me node c.args.peer c.loop-slot.slot;
  few = omega (arith, c.loop-slot.invariant.few, c.one_if_open-count.ensures.few);
}

pub returns-clause-is : goal.returns-clause-is
returns-clause-is c = λ node stands.
    c.loop-slot.invariant.count node stands
    ∙ ap (open_below c.args.endpoint.now.core.settings c.args.endpoint.now.core.me node c.args.peer)
    (omega (arith, c.loop-slot-test.false, c.loop-slot.auto.slot-end))
