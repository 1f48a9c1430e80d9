-- One thread more.
use Rattle.std.proofs.Common.{List, None, ap, ◌∙◌}
use Rattle.text_job.specs.declared.job.NodeScript.{NodeScript}
use Rattle.text_steps.specs.declared.steps.ScriptStep.{ScriptStep}
use Rattle.proc_machine.specs.NodeState.{steps_of_thread}
use Rattle.law_traces.specs.Actions.{Progress}
use Rattle.proc_machine.proofs.Opening.{first_push}
use Rattle.proc_machine.proofs.node.cursors_of.Goals as goal

pub loop-thread-preserved : goal.loop-thread-preserved
loop-thread-preserved c =
    let progress : List ScriptStep → Progress ScriptStep = λ left. record { left = left; began = None } in
    first_push c.args.job.now c.args.me c.loop-thread.thread c.loop-thread.cursors.items c.push.new.self.items
    c.new.result c.loop-thread.invariant c.in_ok-push.ensures.items
    (c.new.ensures ∙ ap progress (c.steps_of_thread.ensures
    ∙ ap (λ (scripts : List NodeScript). steps_of_thread scripts c.args.me c.loop-thread.thread) c.scripts.ensures))
