-- What a turn of a thread does to the endpoint of its node, and to the thread's script.
-- Origin: this project's profile.
use Rattle.std.specs.Prelude.{ℕ, ◌≡◌, ◌||◌, Bool, List, length, map, Option, None, is_some}
use Rattle.wire_message.specs.Parameters.{Parameters}
use Rattle.part_handlers.specs.Runs.{Meaning}
use Rattle.base_lists.specs.Put.{put}
use Rattle.node_rules.specs.EndpointLocal.{EndpointLocal}
use Rattle.node_endpoint.specs.EndpointState.{EndpointState, EndpointStands}
use Rattle.text_steps.specs.declared.steps.ScriptStep.{ScriptStep}
use Rattle.law_traces.specs.Actions.{Progress, OwnScripts, scripts_of}
use Rattle.law_traces.specs.Scripts.{NodeJob}
use Rattle.law_traces.specs.Turn.{MachineState, Turn, turn, try_of, datagram, is_some_there}
use Rattle.law_traces.specs.WorldRun.{endpoint_job}
use Rattle.proc_steps.specs.Forms.{step_form}
use Rattle.proc_steps.specs.Tries.{FoundNode, IsAtSameNode}
use Rattle.proc_machine.specs.Kept.{CanBeSaid}
use Rattle.proc_machine.specs.NodeState.{datagram_at, as_there}
use Rattle.spec_node.specs.declared.answer.SlotRef.{SlotRef}
use Rattle.proc_machine.specs.declared.turn.TurnDone.{TurnDone}

-- the job of an endpoint with handlers that do this
abbrev pub job_of_endpoint : Meaning → EndpointState → NodeJob EndpointLocal (OwnScripts ScriptStep)
job_of_endpoint meaning endpoint =
    endpoint_job endpoint.core.settings endpoint.core.table meaning (scripts_of step_form)

-- a turn of a thread
pub record TurnTaken : Type 0 where
  pub thread : ℕ
  pub now : ℕ
  pub got : Option (List ℕ)

-- that turn, of a node's record and what is left of its scripts
abbrev pub turn_by : NodeJob EndpointLocal (OwnScripts ScriptStep) → (me : ℕ) → TurnTaken
    → MachineState EndpointLocal (OwnScripts ScriptStep) → Turn EndpointLocal (OwnScripts ScriptStep)
turn_by job me taken state = turn job me state taken.thread taken.now taken.got

-- something was got or sent, or the step ended or began
abbrev pub is_changed : TurnTaken → TurnDone → Bool
is_changed taken done =
    is_some taken.got || is_some_there done.outgoing || is_some done.tried.ended || is_some done.tried.began

-- of a state of the node: the turn goes to what the endpoint stands for then, and what it told is the turn's
pub record GoesAsTurn
    (job : NodeJob EndpointLocal (OwnScripts ScriptStep)) (me : ℕ) (taken : TurnTaken)
    (state : MachineState EndpointLocal (OwnScripts ScriptStep)) (done : TurnDone) : Type 0 where
  pub ended : (try_of job me state taken.thread taken.now taken.got).ended ≡ done.tried.ended
  pub changed : (turn_by job me taken state).changed ≡ is_changed taken done
  pub sends : length (turn_by job me taken state).packets ≡ length done.outgoing
  -- each datagram stands in its slot
  pub sent : map (datagram_at job.job.settings me (turn_by job me taken state).after.node) done.outgoing
      ≡ map as_there (map (datagram job.job.settings) (turn_by job me taken state).packets)
  -- it changes locks only where it ended its step
  pub locks : done.tried.ended ≡ None
      → (turn_by job me taken state).after.node.local.core.locks ≡ state.node.local.core.locks

-- a turn of a thread of which this was left of its script: it went so for every state for which the endpoint stood and
-- whose collectives are so far, and this is left now
pub record TakesTurn
    (meaning : Meaning) (old : FoundNode × Progress ScriptStep) (taken : TurnTaken) (done : TurnDone)
    (new : FoundNode × Progress ScriptStep) : Type 0 where
  pub same : IsAtSameNode old.0.endpoint.core new.0.endpoint.core
  pub said : (settings : Parameters) → CanBeSaid settings old.1 → CanBeSaid settings new.1
  pub goes : (state : MachineState EndpointLocal (OwnScripts ScriptStep))
      → EndpointStands old.0.endpoint state.node → state.own.threads taken.thread ≡ old.1
      → state.own.collectives ≡ old.0.collectives
      → GoesAsTurn (job_of_endpoint meaning old.0.endpoint) old.0.endpoint.core.me taken state done
      × EndpointStands new.0.endpoint
      (turn_by (job_of_endpoint meaning old.0.endpoint) old.0.endpoint.core.me taken state).after.node
      × ((turn_by (job_of_endpoint meaning old.0.endpoint) old.0.endpoint.core.me taken state).after.own
      ≡ record { threads = put state.own.threads taken.thread new.1; collectives = new.0.collectives })
