-- The machine of a node that records what is written of it, and the states for which it stands.
-- Origin: this project's profile.
use Rattle.std.specs.Prelude.{◌≡◌, ◌≤◌, ℕ, Bool, true, max, List, [], ◌++◌, Option, IfSome}
use Rattle.base_io.specs.Buffered.{Gathering}
use Rattle.base_io.specs.Memory.{SinkState}
use Rattle.text_job.specs.declared.job.Job.{Job as JobState}
use Rattle.text_steps.specs.declared.steps.ScriptStep.{ScriptStep}
use Rattle.base_turns.specs.declared.entry.Entry.{Entry}
use Rattle.base_turns.specs.Replay.{Steps}
use Rattle.proc_machine.specs.Kept.{MachineKept}
use Rattle.proc_machine.specs.NodeState.{NodeState, NodeStands, after_turn, opening_state, polls_in, sent_datagrams}
use Rattle.proc_machine.specs.NodeState.{turn_result}
use Rattle.spec_node.specs.Held.{held_buffers}
use Rattle.law_traces.specs.Actions.{OwnScripts}
use Rattle.law_traces.specs.Turn.{MachineState}
use Rattle.base_text.specs.LineTexts.{Line, spell}
use Rattle.node_rules.specs.EndpointLocal.{EndpointLocal}
use Rattle.node_rules.specs.declared.answer.Answer.{Answer}
use Rattle.node_rules.specs.declared.answer.Answer.TheVariants as answers
use Rattle.cli_check.specs.StepLines.{machine_after, answer_of_step, lines_of_answer}

-- ---- states

-- the machine of a node, as it is in a run
abbrev pub ScriptedNode : Type 0
ScriptedNode = MachineState EndpointLocal (OwnScripts ScriptStep)

-- the line of the step that ended in the entry, if one did
abbrev pub entry_lines : JobState → (rank : ℕ) → ScriptedNode → Entry → List Line
entry_lines job rank machine entry =
    lines_of_answer job (record { rank = rank; thread = entry.thread }) (machine_after job rank machine entry).node
    (answer_of_step job rank machine entry)

-- the state of a node, with the lines of the steps that ended so far, and the most message buffers that it held
pub record RecordedState : Type 0 where
  pub node : NodeState
  pub lines : List Line
  pub most : ℕ

-- how many it holds
abbrev pub held_in : NodeState → ℕ
held_in state = held_buffers state.job.settings state.ranked.me state.ranked.state.node

-- the state after the turn of a thread at a time, with a datagram that was got or none
abbrev pub record_after : RecordedState → (thread now : ℕ) → Option (List ℕ) → RecordedState
record_after state thread now got = record {
  node = after_turn state.node thread now got;
  lines = state.lines ++ entry_lines state.node.job state.node.ranked.me state.node.ranked.state
      (record { thread = thread; now = now; got = got });
  most = max state.most (held_in (after_turn state.node thread now got));
}

-- what is known of such states
abbrev pub record_steps : Steps RecordedState
record_steps = record {
  polls = λ state. polls_in state.node;
  after = record_after;
  turned = λ state. turn_result state.node;
  sent = λ state. sent_datagrams state.node;
}

-- the node of this rank before all turns
abbrev pub opening_record : JobState → (rank : ℕ) → RecordedState
opening_record job rank = record { node = opening_state job rank; lines = []; most = 0 }

-- ---- what a recorder stands for

-- what the recorder of a node keeps
pub record RecorderKept : Type 0 where
  pub node : MachineKept
  pub rank : ℕ
  pub text : List ℕ  -- of the lines of its steps
  pub whole : Bool  -- the text has all of them
  pub most : ℕ  -- message buffers that it held

-- the bytes that went into a sink before one in memory
abbrev pub text_of : Gathering SinkState → List ℕ
text_of sink = sink.inner.taken ++ sink.pending

-- the answer names nothing of its node, as that of a beginning, and that of a request
abbrev pub NamesNothing : Answer → Type 0
NamesNothing (answers.Local answer) = ⊥
NamesNothing (answers.Ticked answer) = ⊥
NamesNothing answer = Unit {0}

-- so is each answer with which an earlier try began a step of its scripts
abbrev pub BeginningsNameNothing : ScriptedNode → Type 0
BeginningsNameNothing machine = (thread : ℕ) → IfSome (machine.own.threads thread).began NamesNothing

-- what the recorder keeps is what the state gives
pub record RecorderStands (kept : RecorderKept) (state : RecordedState) : Type 0 where
  pub node : NodeStands kept.node state.node
  pub beginnings : BeginningsNameNothing state.node.ranked.state
  pub rank_is : kept.rank ≡ state.node.ranked.me
  pub text_is : kept.whole ≡ true → kept.text ≡ spell state.lines
  pub most_is : kept.most ≡ state.most
  pub holds : held_in state.node ≤ state.most

-- it stands for some state
abbrev pub HasState : RecorderKept → Type 0
HasState kept = (state : RecordedState) × RecorderStands kept state
