use Rattle.std.proofs.Common.{subst}
use Rattle.part_handlers.specs.Runs.{Meaning}
use Rattle.node_core.specs.InPlace.{keeping_in}
use Rattle.node_rules.specs.EndpointRules.{transition}
use Rattle.node_rules.specs.declared.call.Event.TheVariants as event
use Rattle.node_endpoint.specs.EndpointState.{EndpointState, EndpointSteps}
use Rattle.gasnet_c.specs.Replayed.{asking}
use Rattle.gasnet_c.proofs.node.Node.deliver.Goals as goal

pub returns : goal.returns
returns c =
    let meaning : Meaning = λ handler frame start. asking c.args.replying.now.reply frame start in (
      c.deliver_in_place-answer.result,
      subst (λ (old : EndpointState). EndpointSteps (keeping_in old.core.segment meaning) old
          (transition c.args.now (event.Deliver c.args.bytes) c.deliver_in_place-answer.result)
          c.deliver_in_place-answer.new.self) c.self.view_is c.deliver_in_place-answer.ensures,
      c.tell.ensures,
    )
