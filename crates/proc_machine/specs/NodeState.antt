-- The states for which the machine of a node stands, and what its turns do to them.
-- Origin: this project's profile.
use Rattle.std.specs.Prelude.{ℕ, ◌≡◌, ◌==◌, ◌&&◌, Bool, List, [], map, find, Option, None, Some}
use Rattle.wire_message.specs.Parameters.{Parameters}
use Rattle.base_turns.specs.Replay.{Steps}
use Rattle.base_turns.specs.declared.turns.Turned.{Turned}
use Rattle.spec_node.specs.Record.{Node}
use Rattle.spec_node.specs.SlotMessages.{message_at}
use Rattle.spec_node.specs.declared.answer.SlotRef.{SlotRef}
use Rattle.node_rules.specs.EndpointLocal.{EndpointLocal}
use Rattle.node_endpoint.specs.EndpointState.{EndpointStands}
use Rattle.text_job.specs.declared.job.Job.{Job as JobState}
use Rattle.text_job.specs.declared.job.NodeScript.{NodeScript}
use Rattle.text_steps.specs.declared.steps.ScriptStep.{ScriptStep}
use Rattle.text_script.specs.Bodies.{script_meaning}
use Rattle.text_script.specs.Registration.{handlers_of, registry_of}
use Rattle.std.specs.Option.{option_map}
use Rattle.node_collectives.specs.CollectivesState.{CollectivesState, no_nodes}
use Rattle.node_collectives.specs.Progress.{idle}
use Rattle.text_job.specs.declared.job.CollectArea.{CollectArea}
use Rattle.law_traces.specs.Actions.{OwnScripts, Progress, scripts_of}
use Rattle.law_traces.specs.Order.{RankedMachine, job_steps}
use Rattle.law_traces.specs.Scripts.{NodeJob}
use Rattle.law_traces.specs.WorldRun.{endpoint_job, opening_machines}
use Rattle.proc_steps.specs.Forms.{step_form}
use Rattle.proc_machine.specs.Kept.{MachineKept, own_scripts}

-- a job of a text, with the record of one of its nodes and what is left of that node's scripts
pub record NodeState : Type 0 where
  pub job : JobState
  pub ranked : RankedMachine EndpointLocal (OwnScripts ScriptStep)

abbrev pub state_of : JobState → RankedMachine EndpointLocal (OwnScripts ScriptStep) → NodeState
state_of job ranked = record { job = job; ranked = ranked }

-- what all nodes of the job know
abbrev pub script_job : JobState → NodeJob EndpointLocal (OwnScripts ScriptStep)
script_job job =
    endpoint_job job.settings (registry_of (handlers_of job)).table (script_meaning (handlers_of job))
    (scripts_of step_form)

-- ---- what is known of such states

-- whether a thread polls
abbrev pub polls_in : NodeState → (thread : ℕ) → Bool
polls_in state thread = (job_steps (script_job state.job)).polls state.ranked thread

-- the state after the turn of a thread at a time, with a datagram that was got or none
abbrev pub after_turn : NodeState → (thread now : ℕ) → Option (List ℕ) → NodeState
after_turn state thread now got =
    state_of state.job ((job_steps (script_job state.job)).after state.ranked thread now got)

-- what that turn tells
abbrev pub turn_result : NodeState → (thread now : ℕ) → Option (List ℕ) → Turned
turn_result state thread now got = (job_steps (script_job state.job)).turned state.ranked thread now got

-- the datagrams of the last turn that wasn't empty, each with the node that it is for
abbrev pub sent_datagrams : NodeState → List (ℕ × List ℕ)
sent_datagrams state = (job_steps (script_job state.job)).sent state.ranked

abbrev pub state_steps : Steps NodeState
state_steps = record { polls = polls_in; after = after_turn; turned = turn_result; sent = sent_datagrams }

-- ---- the opening

-- the script is that of the thread
abbrev pub is_of : (node thread : ℕ) → NodeScript → Bool
is_of node thread script = (script.node == node) && (script.thread == thread)

abbrev pub steps_or_none : Option NodeScript → List ScriptStep
steps_or_none None = []
steps_or_none (Some script) = script.steps

-- the steps of the thread's script; none where it has no script
abbrev pub steps_of_thread : List NodeScript → (node thread : ℕ) → List ScriptStep
steps_of_thread scripts node thread = steps_or_none (find (is_of node thread) scripts)

-- what is left of them before all turns
abbrev pub threads_at : JobState → (node thread : ℕ) → Progress ScriptStep
threads_at job node thread = record { left = steps_of_thread job.scripts node thread; began = None }

-- collectives of which none was started, in this area
abbrev pub fresh_collectives : Parameters → (me : ℕ) → CollectArea → CollectivesState
fresh_collectives settings me at = record {
  settings = settings;
  me = me;
  area = record { nodes = settings.nodes; base = at.base; room = at.room };
  started = 0;
  ended = 0;
  shape = idle.shape;
  sent = no_nodes;
  exhausted = no_nodes;
}

-- those of a node before all turns, where the job has an area of them
abbrev pub opening_collectives : JobState → (me : ℕ) → Option CollectivesState
opening_collectives job me = option_map (fresh_collectives job.settings me) job.collect

-- the scripts of a node before all turns
abbrev pub scripts_at : JobState → (node : ℕ) → OwnScripts ScriptStep
scripts_at job node = record { threads = threads_at job node; collectives = opening_collectives job node }

-- the node of this number before all turns
abbrev pub opening_state : JobState → (me : ℕ) → NodeState
opening_state job me =
    state_of job (record { me = me; state = opening_machines job.settings (scripts_at job) me })

-- ---- what a machine stands for

-- the datagram at a slot, with the node that it is for
abbrev pub datagram_at : Parameters → (me : ℕ) → Node EndpointLocal → SlotRef → ℕ × Option (List ℕ)
datagram_at settings me node at = (at.peer, message_at settings me node at)

-- a datagram that is there
abbrev pub as_there : ℕ × List ℕ → ℕ × Option (List ℕ)
as_there datagram = (datagram.0, Some datagram.1)

-- what the machine keeps is what the state gives
pub record NodeStands (machine : MachineKept) (state : NodeState) : Type 0 where
  pub job_is : state.job ≡ machine.job
  pub me_is : state.ranked.me ≡ machine.endpoint.core.me
  pub node : EndpointStands machine.endpoint state.ranked.state.node
  pub own_is : state.ranked.state.own ≡ own_scripts machine
  -- each datagram stands in its slot
  pub outgoing_is : map (datagram_at machine.job.settings machine.endpoint.core.me state.ranked.state.node)
      machine.outgoing
      ≡ map as_there state.ranked.state.outgoing
  pub answer_is : state.ranked.state.answer ≡ machine.answer
