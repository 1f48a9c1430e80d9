-- The try of a step that scripts alone have.
use Rattle.std.proofs.Common.{sym, ap, ◌∙◌, subst}
use Rattle.text_steps.specs.declared.steps.WaitingStep.{WaitingStep}
use Rattle.text_steps.specs.declared.steps.WaitingStep.TheVariants as waiting
use Rattle.proc_steps.specs.Forms.{waiting_form}
use Rattle.proc_steps.specs.Tries.{TriesForm, read_as}
use Rattle.proc_steps.proofs.Forming.{tries_alike}
use Rattle.proc_steps.proofs.waiting.try_waiting.Goals as goal

pub returns-in-Transfer : goal.returns-in-Transfer
returns-in-Transfer g c =
    subst (λ (one : WaitingStep). TriesForm (g.H.Handlers.meaning c.args.handlers.now) c.args.endpoint.now
    (read_as c.args.trial.now (λ node. waiting_form node.local.core.cells one)) c.try_transfer.result
    c.try_transfer.new.endpoint)
    (ap waiting.Transfer c.text.ensures ∙ sym c.in-Transfer.is) c.try_transfer.ensures

pub returns-in-PutBegin : goal.returns-in-PutBegin
returns-in-PutBegin g c =
    tries_alike _ _ _ c.args.trial.now _ _ _ (λ node. c.put_call.ensures.form node.local.core.cells) c.try_put.ensures
