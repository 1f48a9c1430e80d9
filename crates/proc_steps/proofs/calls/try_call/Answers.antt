-- The try of a call that a schedule has, too.
use Rattle.std.proofs.Common.{ap, ◌∙◌, ℤ, List}
use Rattle.text_script.specs.ScheduledCalls.{meant_by}
use Rattle.text_script.proofs.ScheduleNodes.{call_given}
use Rattle.proc_steps.proofs.Forming.{tries_scheduled}
use Rattle.proc_steps.proofs.calls.try_call.Goals as goal

pub call_of-made-requires : goal.call_of-made-requires
call_of-made-requires g c = call_given c.requires.call.0 c.args.call.now c.requires.call.1

pub returns : goal.returns
returns g c =
    tries_scheduled _ _ _ c.args.trial.now _ _ c.make-answer.result c.waits_at.result _ c.make-answer.ensures
    (λ node stands.
    c.call_of-made.ensures.meant
    ∙ ap (λ (cells : List ℤ). meant_by cells c.args.call.now) (c.cells.ensures node stands))
    c.waits_at.ensures c.unless.ensures
