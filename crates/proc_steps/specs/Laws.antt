-- What holds of the steps that a text can say.
-- Origin: this project's profile.
use Rattle.std.specs.Prelude.{ℕ, List, Option}
use Rattle.std.specs.List.{AllByRecursion}
use Rattle.wire_message.specs.Parameters.{Parameters}
use Rattle.part_handlers.specs.declared.table.Entry.{Entry}
use Rattle.part_handlers.specs.Runs.{Meaning}
use Rattle.text_steps.specs.declared.steps.ScriptStep.{ScriptStep}
use Rattle.law_traces.specs.Actions.{OwnScripts, ActionsMay, IfFar, scripts_of}
use Rattle.law_traces.specs.Empty.{IsCalm}
use Rattle.law_traces.specs.Fitting.{CallFits, CollectivesFit, KeptFits}
use Rattle.law_traces.specs.WorldRun.{endpoint_job}
use Rattle.proc_steps.specs.Forms.{IsJobStep, step_form}

-- each call of scripts whose steps a text can say may be made, where the node keeps what fits
abbrev pub StepsFit : Type 0
StepsFit =
    (settings : Parameters) (own : OwnScripts ScriptStep)
    → ((thread : ℕ) → AllByRecursion (IsJobStep settings) (own.threads thread).left)
    → IfFar CollectivesFit own.collectives
    → ActionsMay KeptFits CallFits CollectivesFit step_form own

-- a try that waits leaves the record of its node, and the scripts
abbrev pub WaitingIsCalm : Type 0
WaitingIsCalm =
    (settings : Parameters) (table : List (Option Entry)) (meaning : Meaning)
    → IsCalm (endpoint_job settings table meaning (scripts_of step_form))
