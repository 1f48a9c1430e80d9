-- What the machine of a node keeps, as contracts see it.
-- Origin: this project's profile.
use Rattle.std.specs.Prelude.{ℕ, ◌≡◌, ◌==◌, Bool, not, List, [], length, Option, None, Some, slice_get}
use Rattle.std.specs.List.{AllByRecursion, list_all}
use Rattle.wire_message.specs.Parameters.{Parameters}
use Rattle.part_handlers.specs.declared.lock_answer.Owner.TheVariants as owner
use Rattle.part_handlers.specs.Locks.{holds}
use Rattle.spec_node.specs.declared.answer.SlotRef.{SlotRef}
use Rattle.law_traces.specs.declared.script_answer.ScriptAnswer.{ScriptAnswer}
use Rattle.node_endpoint.specs.EndpointState.{EndpointState, IsNodeOf}
use Rattle.node_endpoint.specs.Parts.{HasRecord}
use Rattle.text_job.specs.JobText.{IsJob}
use Rattle.node_collectives.specs.CollectivesState.{CollectivesState}
use Rattle.proc_steps.specs.Forms.{IsJobStep}
use Rattle.proc_steps.specs.Tries.{AreThere}
use Rattle.text_job.specs.declared.job.Job.{Job as JobState}
use Rattle.text_steps.specs.declared.steps.ScriptStep.{ScriptStep}
use Rattle.text_script.specs.Registration.{handlers_of, registry_of}
use Rattle.law_traces.specs.Actions.{Progress, OwnScripts}

-- the machine of a node of a job
pub record MachineKept : Type 0 where
  pub job : JobState
  pub endpoint : EndpointState
  -- how far the node's collectives are; None where the job has none
  pub collectives : Option CollectivesState
  -- of each thread: what is left of its script, and the answer with which its next step began
  pub scripts : List (Progress ScriptStep)
  -- the slots of the messages that its last turn sent which wasn't empty, in order
  pub outgoing : List SlotRef
  pub answer : Option ScriptAnswer  -- of the script step that ended in that turn

-- ---- scripts

-- a script without steps
abbrev pub no_steps : Progress ScriptStep
no_steps = record { left = []; began = None }

abbrev pub progress_or_none : Option (Progress ScriptStep) → Progress ScriptStep
progress_or_none None = no_steps
progress_or_none (Some progress) = progress

-- what is left of each thread's script; a thread that isn't there has none
abbrev pub own_threads : List (Progress ScriptStep) → (thread : ℕ) → Progress ScriptStep
own_threads scripts thread = progress_or_none (slice_get scripts thread)

-- with how far the node's collectives are
abbrev pub own_scripts : MachineKept → OwnScripts ScriptStep
own_scripts machine = record { threads = own_threads machine.scripts; collectives = machine.collectives }

-- no step is left
abbrev pub is_done : Progress ScriptStep → Bool
is_done progress = length progress.left == 0

-- no script has a step left
abbrev pub are_done : List (Progress ScriptStep) → Bool
are_done scripts = list_all is_done scripts

-- the steps that are left may stand in a job of these settings
abbrev pub CanBeSaid : Parameters → Progress ScriptStep → Type 0
CanBeSaid settings progress = AllByRecursion (IsJobStep settings) progress.left

-- ---- the machine

-- the thread polls, since it holds no lock
abbrev pub polls_at : MachineKept → (thread : ℕ) → Bool
polls_at machine thread = not (holds (owner.Thread thread) machine.endpoint.core.locks)

-- what holds of every machine
pub record IsMachine (machine : MachineKept) : Type 0 where
  pub job : IsJob machine.job
  pub node : IsNodeOf machine.job.settings (registry_of (handlers_of machine.job)).table machine.endpoint.core.me
      machine.endpoint
  pub there : AreThere machine.endpoint machine.collectives
  pub threads : length machine.scripts ≡ machine.job.settings.threads
  pub said : (thread : ℕ) (progress : Progress ScriptStep) → slice_get machine.scripts thread ≡ Some progress
      → CanBeSaid machine.job.settings progress
  pub record_ : HasRecord machine.endpoint
