-- The try of a thread's next step, by what is left of its script.
-- Origin: this project's profile.
use Rattle.std.specs.Prelude.{ℕ, ◌≡◌, if◌then◌else◌, List, [], ◌∷◌, Option, None, is_some}
use Rattle.std.specs.Option.{option_or, option_to_list}
use Rattle.part_handlers.specs.Runs.{Meaning}
use Rattle.spec_node.specs.Record.{Node}
use Rattle.node_rules.specs.EndpointLocal.{EndpointLocal}
use Rattle.node_rules.specs.EndpointRules.{RecordEvent, job_of}
use Rattle.node_rules.specs.declared.answer.Answer.{Answer}
use Rattle.node_endpoint.specs.EndpointState.{ForItsRecord}
use Rattle.text_steps.specs.declared.steps.ScriptStep.{ScriptStep}
use Rattle.law_traces.specs.Actions.{Progress, StepContext, collectives_then, next_calls, tried_step}
use Rattle.law_traces.specs.Scripts.{ThreadCall, TryResult as FormTried}
use Rattle.law_traces.specs.Turn.{node_run, events_of, first_answer}
use Rattle.proc_steps.specs.Forms.{step_form}
use Rattle.proc_steps.specs.Tries.{FoundNode, Happen, step_here}
use Rattle.proc_steps.specs.declared.trial.Tried.{Tried}

-- a try of the next step of a thread's script, of which this is left
pub record NextTrial : Type 0 where
  pub now : ℕ
  pub thread : ℕ
  pub progress : Progress ScriptStep

-- the calls that it makes, in order, by the record that it finds
abbrev pub calls_of_next : StepContext → Progress ScriptStep → Node EndpointLocal → List ThreadCall
calls_of_next at progress node = next_calls step_form at progress.began progress.left node

-- the events of these calls
abbrev pub events_of_next : StepContext → Progress ScriptStep → Node EndpointLocal → List RecordEvent
events_of_next at progress node = events_of at.place.thread (calls_of_next at progress node)

-- the answer of the first of them
abbrev pub answer_of_next : StepContext → Progress ScriptStep → Node EndpointLocal → Option Answer
answer_of_next at progress node =
    first_answer (job_of at.place.settings at.place.table at.place.meaning) at.place.me at.place.thread at.place.now
    (calls_of_next at progress node) node

-- the record after them
abbrev pub after_next : StepContext → Progress ScriptStep → Node EndpointLocal → Node EndpointLocal
after_next at progress node =
    node_run (job_of at.place.settings at.place.table at.place.meaning) at.place.me at.place.now
    (events_of_next at progress node) node

-- how the try goes
abbrev pub tried_next : StepContext → Progress ScriptStep → Node EndpointLocal → FormTried (Progress ScriptStep)
tried_next at progress node =
    tried_step step_form at progress.began progress.left node (after_next at progress node)
    (answer_of_next at progress node)

-- what is left of a script, behind this step, after a try of the step that went so
abbrev pub left_after : (step : ScriptStep) → (rest : List ScriptStep) → (began : Option Answer) → Tried
    → Progress ScriptStep
left_after step rest began tried =
    if is_some tried.ended then record { left = rest; began = None }
    else record { left = step ∷ rest; began = option_or tried.began began }

-- what is left of a script after a try of its next step that went so
abbrev pub progress_after : Progress ScriptStep → Tried → Progress ScriptStep
progress_after progress tried = elim progress.left [
  | [] ↦ progress
  | step ∷ rest ↦ left_after step rest progress.began tried
]

-- how the try went, as what it told says it
abbrev pub as_said : NextTrial → Tried → FormTried (Progress ScriptStep)
as_said trial tried =
    record { left = progress_after trial.progress tried; ended = tried.ended; began = is_some tried.began }

-- the next step was tried, if there is one: of every record for which the endpoint stood, the try made the calls that
-- the step's form makes, in order, went as the form says, and left the collectives as far as it says
pub record TriesNext (meaning : Meaning) (old : FoundNode) (trial : NextTrial) (tried : Tried) (new : FoundNode)
    : Type 0 where
  pub happen : Happen meaning old.endpoint (record {
    now = trial.now;
    events = events_of_next (step_here meaning old trial.thread trial.now) trial.progress;
    slots = option_to_list tried.sent;
  }) new.endpoint
  pub tried_so : ForItsRecord old.endpoint (λ node.
      tried_next (step_here meaning old trial.thread trial.now) trial.progress node ≡ as_said trial tried)
  pub far : ForItsRecord old.endpoint (λ node.
      new.collectives
      ≡ collectives_then step_form (step_here meaning old trial.thread trial.now) trial.progress.began
      trial.progress.left node)
