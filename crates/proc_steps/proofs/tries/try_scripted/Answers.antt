-- The try of a step that scripts alone have.
use Rattle.std.proofs.Common.{sym, subst}
use Rattle.text_steps.specs.declared.steps.WaitingStep.{WaitingStep}
use Rattle.proc_steps.specs.Forms.{waiting_in}
use Rattle.proc_steps.specs.Tries.{TriesFound}
use Rattle.proc_steps.proofs.Attempts.{kept_there, plain_found, plain_step}
use Rattle.proc_steps.proofs.tries.try_scripted.Goals as goal

pub returns-in-Collective-clause-tries : goal.returns-in-Collective-clause-tries
returns-in-Collective-clause-tries g c =
    subst (λ (one : WaitingStep). TriesFound (g.H.Handlers.meaning c.args.handlers.now)
    (record { endpoint = c.args.endpoint.now; collectives = c.args.collectives.now }) c.args.trial.now (waiting_in one)
    c.try_whole.result
    (record { endpoint = c.try_whole.new.endpoint; collectives = c.try_whole.new.collectives })) (sym c.in-Collective.is)
    c.try_whole.ensures.tries

pub returns-in_default : goal.returns-in_default
returns-in_default g c = record {
  tries = plain_found (g.H.Handlers.meaning c.args.handlers.now) c.args.endpoint.now c.try_waiting.new.endpoint
      c.args.collectives.now c.args.trial.now c.try_waiting.result c.args.step.now
      (plain_step c.args.step.now (λ shape from dest e. c.in_default.not-Collective shape from dest e))
      c.try_waiting.ensures;
  there = kept_there c.args.endpoint.now c.try_waiting.new.endpoint c.args.collectives.now
      c.try_waiting.ensures.happen.same c.requires.there;
}
