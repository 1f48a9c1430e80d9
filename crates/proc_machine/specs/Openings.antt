-- What is left of the scripts of a node's threads at the opening.
-- Origin: this project's profile.
use Rattle.std.specs.Prelude.{ℕ, ◌≡◌, ◌<◌, List, length, Some, slice_get}
use Rattle.text_job.specs.declared.job.Job.{Job as JobState}
use Rattle.text_steps.specs.declared.steps.ScriptStep.{ScriptStep}
use Rattle.law_traces.specs.Actions.{Progress}
use Rattle.proc_machine.specs.NodeState.{threads_at}

-- of each of the first so many threads of the node `me` all steps of its script are left
pub record AreFirst (job : JobState) (me count : ℕ) (scripts : List (Progress ScriptStep)) : Type 0 where
  pub threads : length scripts ≡ count
  pub each : (thread : ℕ) → thread < count → slice_get scripts thread ≡ Some (threads_at job me thread)
