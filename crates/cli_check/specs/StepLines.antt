-- The lines of traces that are a run: the answers of the steps that ended, and the lines of each node at the end.
-- Origin: this project's profile.
use Rattle.std.specs.Prelude.{ℕ, ◌+◌, ◌==◌, ◌||◌, Bool, false, not, List, [], ◌∷◌, ◌++◌, Option, None, Some, decimal}
use Rattle.node_rules.specs.EndpointLocal.{EndpointLocal}
use Rattle.text_trace.specs.declared.trace.Trace.{Trace}
use Rattle.text_job.specs.declared.job.Job.{Job as JobState}
use Rattle.text_steps.specs.declared.steps.ScriptStep.{ScriptStep}
use Rattle.base_turns.specs.declared.entry.Entry.{Entry}
use Rattle.proc_machine.specs.NodeState.{script_job}
use Rattle.spec_node.specs.Record.{Node as Record}
use Rattle.law_traces.specs.Actions.{OwnScripts}
use Rattle.law_traces.specs.Most.{most_in}
use Rattle.law_traces.specs.Turn.{MachineState, try_of, turn}
use Rattle.law_traces.specs.declared.script_answer.ScriptAnswer.{ScriptAnswer}
use Rattle.law_traces.specs.declared.script_answer.ScriptAnswer.TheVariants as said
use Rattle.text_script.specs.AnswerWords.{Sight, answer_words, sight_of, vis_words}
use Rattle.text_script.specs.CollectiveWords.{collective_words}
use Rattle.base_text.specs.LineTexts.{Line}
use Rattle.text_script.specs.declared.collective_texts.CollectiveAnswer.TheVariants as collective
use Rattle.sim_run.specs.RunText.{lines_of_node, violations}
use Rattle.cli_check.specs.Machines.{first_machine, last_record}

-- ---- steps

-- which step's answer it is: the rank of its node, and its thread
pub record StepAt : Type 0 where
  pub rank : ℕ
  pub thread : ℕ

-- the words of what a step is answered, by what its node has after it
abbrev pub script_words : Sight → ScriptAnswer → Line
script_words sight (said.Call answer) = answer_words sight answer
script_words sight (said.Vis vis) = vis_words vis
script_words sight (said.Start answer) = collective_words (collective.Start answer)
script_words sight (said.Step answer) = collective_words (collective.Step answer)
script_words sight (said.End answer) = collective_words (collective.End answer)

-- the line of the answer of a step, by the record of its node after it
abbrev pub step_line : JobState → StepAt → Record EndpointLocal → ScriptAnswer → Line
step_line job at node answer =
    decimal at.rank ∷ decimal at.thread ∷ script_words (sight_of job.settings at.rank node) answer

-- that line, where a step ended
abbrev pub lines_of_answer : JobState → StepAt → Record EndpointLocal → Option ScriptAnswer → List Line
lines_of_answer job at node None = []
lines_of_answer job at node (Some answer) = step_line job at node answer ∷ []

-- the machine of a node after the turn of an entry
abbrev pub machine_after : JobState → (rank : ℕ) → MachineState EndpointLocal (OwnScripts ScriptStep) → Entry
    → MachineState EndpointLocal (OwnScripts ScriptStep)
machine_after job rank machine entry =
    (turn (script_job job) rank machine entry.thread entry.now entry.got).after

-- the answer of the step that ended in it, if one did
abbrev pub answer_of_step : JobState → (rank : ℕ) → MachineState EndpointLocal (OwnScripts ScriptStep) → Entry
    → Option ScriptAnswer
answer_of_step job rank machine entry =
    (try_of (script_job job) rank machine entry.thread entry.now entry.got).ended

-- the line of each step that ended in the turns of these entries of a node
abbrev pub step_lines : JobState → (rank : ℕ) → MachineState EndpointLocal (OwnScripts ScriptStep) → List Entry
    → List Line
step_lines job rank machine [] = []
step_lines job rank machine (entry ∷ entries) =
    lines_of_answer job (record { rank = rank; thread = entry.thread }) (machine_after job rank machine entry).node
    (answer_of_step job rank machine entry)
    ++ step_lines job rank (machine_after job rank machine entry) entries

-- those of the nodes from this rank on, which have these traces
abbrev pub steps_from : JobState → (rank : ℕ) → List Trace → List Line
steps_from job rank [] = []
steps_from job rank (trace ∷ traces) =
    step_lines job rank (first_machine job rank) trace.entries ++ steps_from job (rank + 1) traces

-- ---- ends

-- the most message buffers that a node held before, between and after the entries of its trace
abbrev pub most_held : JobState → (rank : ℕ) → List Entry → ℕ
most_held job rank entries = most_in (script_job job) rank (first_machine job rank) entries 0

-- the lines of a node at the end: those of its record after its trace
abbrev pub end_lines : JobState → (rank : ℕ) → Trace → List Line
end_lines job rank trace =
    lines_of_node job.settings rank (most_held job rank trace.entries) (last_record job rank trace.entries)

-- those of the nodes from this rank on, which have these traces
abbrev pub ends_from : JobState → (rank : ℕ) → List Trace → List Line
ends_from job rank [] = []
ends_from job rank (trace ∷ traces) = end_lines job rank trace ++ ends_from job (rank + 1) traces

-- a node noted a violation
abbrev pub is_violated_from : JobState → (rank : ℕ) → List Trace → Bool
is_violated_from job rank [] = false
is_violated_from job rank (trace ∷ traces) =
    not (violations (last_record job rank trace.entries) == 0) || is_violated_from job (rank + 1) traces

-- ---- both

-- the lines of traces that are a run
abbrev pub run_lines : JobState → List Trace → List Line
run_lines job traces = steps_from job 0 traces ++ ends_from job 0 traces

-- a node of them noted a violation
abbrev pub is_violated : JobState → List Trace → Bool
is_violated job traces = is_violated_from job 0 traces
