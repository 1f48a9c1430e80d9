-- The try of a step.
use Rattle.std.proofs.Common.{ap, sym, ◌∙◌}
use Rattle.text_steps.specs.declared.steps.ScriptStep.TheVariants as step
use Rattle.proc_steps.proofs.BegunPieces.{may_begin}
use Rattle.proc_steps.proofs.Attempts.{call_attempted, found_attempted, kept_there, vis_attempted}
use Rattle.proc_steps.proofs.tries.attempt.Goals as goal

pub returns-in-Call : goal.returns-in-Call
returns-in-Call g c = record {
  tries = call_attempted (g.H.Handlers.meaning c.args.handlers.now) c.args.endpoint.now c.try_call.new.endpoint
      c.args.collectives.now c.args.trial.now c.try_call.result _ c.in-Call.is c.try_call.ensures;
  there = kept_there c.args.endpoint.now c.try_call.new.endpoint c.args.collectives.now
      c.try_call.ensures.happen.same c.requires.there;
}

pub try_vis-requires-clause-from : goal.try_vis-requires-clause-from
try_vis-requires-clause-from g c =
    (may_begin c.args.endpoint.now.core.settings c.args.trial.now.step.now _ _ c.requires.step c.in-Vis.is
    c.text.ensures).0

pub try_vis-requires-clause-settings : goal.try_vis-requires-clause-settings
try_vis-requires-clause-settings g c =
    (may_begin c.args.endpoint.now.core.settings c.args.trial.now.step.now _ _ c.requires.step c.in-Vis.is
    c.text.ensures).1

pub returns-in-Vis : goal.returns-in-Vis
returns-in-Vis g c = record {
  tries = vis_attempted (g.H.Handlers.meaning c.args.handlers.now) c.args.endpoint.now c.try_vis.new.endpoint
      c.args.collectives.now c.args.trial.now c.try_vis.result _ (ap step.Vis c.text.ensures ∙ sym c.in-Vis.is)
      c.try_vis.ensures;
  there = kept_there c.args.endpoint.now c.try_vis.new.endpoint c.args.collectives.now
      c.try_vis.ensures.happen.same c.requires.there;
}

pub returns-in-Collective : goal.returns-in-Collective
returns-in-Collective g c = record {
  tries = found_attempted (g.H.Handlers.meaning c.args.handlers.now) _ _ c.args.trial.now c.try_collective.result _
      c.in-Collective.is c.try_collective.ensures.tries;
  there = c.try_collective.ensures.there;
}

pub returns-in-Waiting : goal.returns-in-Waiting
returns-in-Waiting g c = record {
  tries = found_attempted (g.H.Handlers.meaning c.args.handlers.now) _ _ c.args.trial.now c.try_scripted.result _
      c.in-Waiting.is c.try_scripted.ensures.tries;
  there = c.try_scripted.ensures.there;
}
