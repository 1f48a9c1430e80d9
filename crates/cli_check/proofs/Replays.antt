-- What a recorder stands for after the entries of a trace.
use Rattle.std.proofs.Common.{◌≡◌, ℕ, List, [], ◌∷◌, ◌++◌, max, sym, ap, ◌∙◌, append_assoc, append-nil}
use Rattle.text_job.specs.declared.job.Job.{Job as JobState}
use Rattle.base_turns.specs.declared.entry.Entry.{Entry}
use Rattle.base_turns.specs.Replay.{replay_state}
use Rattle.proc_machine.specs.NodeState.{NodeState, script_job, state_of}
use Rattle.spec_node.specs.Held.{held_buffers}
use Rattle.law_traces.specs.Most.{most_in}
use Rattle.law_traces.specs.Order.{replay}
use Rattle.base_text.specs.LineTexts.{Line}
use Rattle.cli_check.specs.Recording.{RecordedState, ScriptedNode, entry_lines, opening_record, record_steps}
use Rattle.cli_check.specs.StepLines.{machine_after, most_held, step_lines}
use Rattle.cli_check.specs.Machines.{first_machine}

-- the node of this rank of the job, where its machine is this
abbrev pub node_state : JobState → (rank : ℕ) → ScriptedNode → NodeState
node_state job rank machine = state_of job (record { me = rank; state = machine })

abbrev recorded : NodeState → List Line → ℕ → RecordedState
recorded node lines most = record { node = node; lines = lines; most = most }

replays : (job : JobState) (rank : ℕ) (machine : ScriptedNode) (lines : List Line) (most : ℕ) (entries : List Entry)
    → replay_state record_steps (recorded (node_state job rank machine) lines most) entries
    ≡ recorded (node_state job rank (replay (script_job job) rank machine entries))
    (lines ++ step_lines job rank machine entries) (most_in (script_job job) rank machine entries most)
replays job rank machine lines most [] =
    ap (λ (all : List Line). recorded (node_state job rank machine) all most) (sym (append-nil lines))
replays job rank machine lines most (entry ∷ entries) =
    let next = machine_after job rank machine entry in
    let more = max most (held_buffers job.settings rank next.node) in
    replays job rank next (lines ++ entry_lines job rank machine entry) more entries
    ∙ ap (λ (all : List Line). recorded (node_state job rank (replay (script_job job) rank next entries)) all
    (most_in (script_job job) rank next entries more))
    (append_assoc lines (entry_lines job rank machine entry) (step_lines job rank next entries))

-- after its trace
abbrev pub last_state : JobState → (rank : ℕ) → List Entry → RecordedState
last_state job rank entries =
    recorded (node_state job rank (replay (script_job job) rank (first_machine job rank) entries))
    (step_lines job rank (first_machine job rank) entries) (most_held job rank entries)

pub replays_first : (job : JobState) (rank : ℕ) (entries : List Entry)
    → replay_state record_steps (opening_record job rank) entries ≡ last_state job rank entries
replays_first job rank entries = replays job rank (first_machine job rank) [] 0 entries
