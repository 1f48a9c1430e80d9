-- What is told of each node at the end of a run of traces, by the node's own trace.
-- Origin: this project's profile.
use Rattle.std.specs.Prelude.{ℕ, max, List, [], ◌∷◌, ◌++◌, Option, None, Some}
use Rattle.spec_node.specs.Held.{held_buffers}
use Rattle.base_turns.specs.declared.entry.Entry.{Entry}
use Rattle.law_traces.specs.declared.script_answer.ScriptAnswer.{ScriptAnswer}
use Rattle.law_traces.specs.Scripts.{NodeJob}
use Rattle.law_traces.specs.Turn.{MachineState, try_of, turn}

-- the greatest number of message buffers that the node held after one of these entries, or before them
abbrev pub most_in : {Kept Own : Type 0}
    → NodeJob Kept Own → (me : ℕ) → MachineState Kept Own → List Entry → (most : ℕ) → ℕ
most_in job me state [] most = most
most_in job me state (entry ∷ entries) most =
    let after = (turn job me state entry.thread entry.now entry.got).after in
    most_in job me after entries (max most (held_buffers job.job.settings me after.node))

-- the answer of a script step, with its thread
pub record StepAnswer : Type 0 where
  pub thread : ℕ
  pub answer : ScriptAnswer

abbrev pub step_answer : (thread : ℕ) → Option ScriptAnswer → List StepAnswer
step_answer thread None = []
step_answer thread (Some answer) = record { thread = thread; answer = answer } ∷ []

-- of the script steps that ended, in order
abbrev pub ended_in : {Kept Own : Type 0}
    → NodeJob Kept Own → (me : ℕ) → MachineState Kept Own → List Entry → List StepAnswer
ended_in job me state [] = []
ended_in job me state (entry ∷ entries) =
    step_answer entry.thread (try_of job me state entry.thread entry.now entry.got).ended
    ++ ended_in job me (turn job me state entry.thread entry.now entry.got).after entries
