-- The first try of a blocking transfer.
use Rattle.std.proofs.Common.{refl, sym, ◌∙◌}
use Rattle.proc_steps.proofs.Forming.{transfer_begun, transfer_not_begun}
use Rattle.proc_steps.proofs.waiting.begin_transfer.Goals as goal

pub returns-in-Some : goal.returns-in-Some
returns-in-Some g c =
    transfer_begun _ _ _ c.args.trial.now _ _ c.make-answer.result c.in-Some.field-0 _ c.make-answer.ensures
    refl c.requires.first (sym c.begun_handle.ensures ∙ c.in-Some.is) c.begun.ensures

pub returns-in-None : goal.returns-in-None
returns-in-None g c =
    transfer_not_begun _ _ _ c.args.trial.now _ _ c.make-answer.result c.as_synced.result _ c.make-answer.ensures
    refl c.requires.first (sym c.begun_handle.ensures ∙ c.in-None.is) c.as_synced.ensures
    c.unless.ensures
