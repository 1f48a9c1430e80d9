-- One call of the node's collectives, by what the step says.
use Rattle.std.proofs.Common.{subst, sym}
use Rattle.text_steps.specs.declared.steps.CollectiveText.{CollectiveText}
use Rattle.node_endpoint.specs.EndpointState.{ForItsRecord}
use Rattle.proc_collective_steps.specs.Tries.{IsPartTried, context_at}
use Rattle.proc_steps.specs.Forms.{call_part}
use Rattle.proc_steps.proofs.collectives.try_part.Goals as goal

pub try_start-requires : goal.try_start-requires
try_start-requires g c = record { thread = c.requires.thread; of = c.requires.of }

pub returns-in-Start : goal.returns-in-Start
returns-in-Start g c = record {
  same = c.try_start.ensures.same;
  same_node = c.try_start.ensures.same_node;
  tried = subst (λ (call : CollectiveText). ForItsRecord c.args.endpoint.now (λ node.
      let here = context_at (g.H.Handlers.meaning c.args.handlers.now) c.args.endpoint.now c.args.at in
      IsPartTried here node (call_part call here node c.args.collectives.now) c.args.collectives.now
      c.try_start.result c.try_start.new.collectives c.try_start.new.endpoint)) (sym c.in-Start.is) c.try_start.ensures.tried;
}

pub try_step-requires : goal.try_step-requires
try_step-requires g c = record { thread = c.requires.thread; of = c.requires.of }

pub returns-in-Step : goal.returns-in-Step
returns-in-Step g c = record {
  same = c.try_step.ensures.same;
  same_node = c.try_step.ensures.same_node;
  tried = subst (λ (call : CollectiveText). ForItsRecord c.args.endpoint.now (λ node.
      let here = context_at (g.H.Handlers.meaning c.args.handlers.now) c.args.endpoint.now c.args.at in
      IsPartTried here node (call_part call here node c.args.collectives.now) c.args.collectives.now
      c.try_step.result c.try_step.new.collectives c.try_step.new.endpoint)) (sym c.in-Step.is) c.try_step.ensures.tried;
}

pub try_end-requires : goal.try_end-requires
try_end-requires g c = record { thread = c.requires.thread; of = c.requires.of }

pub returns-in-Try : goal.returns-in-Try
returns-in-Try g c = record {
  same = c.try_end.ensures.same;
  same_node = c.try_end.ensures.same_node;
  tried = subst (λ (call : CollectiveText). ForItsRecord c.args.endpoint.now (λ node.
      let here = context_at (g.H.Handlers.meaning c.args.handlers.now) c.args.endpoint.now c.args.at in
      IsPartTried here node (call_part call here node c.args.collectives.now) c.args.collectives.now
      c.try_end.result c.try_end.new.collectives c.try_end.new.endpoint)) (sym c.in-Try.is) c.try_end.ensures.tried;
}
