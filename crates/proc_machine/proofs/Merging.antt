-- The traces of the nodes of a job are a run of the world.
use Rattle.std.proofs.Common.{◌≡◌, ℕ, zero, suc, ◌+◌, List, [], ◌∷◌, map, Option, None, Some, refl, ap, ◌∙◌, arith}
use Rattle.std.proofs.Common.{slice_get}
use Rattle.std.specs.Option.{option_map}
use Rattle.node_rules.specs.EndpointLocal.{EndpointLocal}
use Rattle.text_job.specs.CollectAreas.{IsCollectOrNone}
use Rattle.text_job.specs.JobText.{IsJob}
use Rattle.text_job.specs.Scopes.{scope_of}
use Rattle.text_job.specs.declared.job.CollectArea.{CollectArea}
use Rattle.text_job.specs.declared.job.Job.{Job as JobState}
use Rattle.text_steps.specs.declared.steps.ScriptStep.{ScriptStep}
use Rattle.base_turns.specs.Replay.{after_entry, replay_state}
use Rattle.base_turns.specs.declared.entry.Entry.{Entry}
use Rattle.text_script.specs.Bodies.{script_meaning}
use Rattle.text_script.specs.Registration.{handlers_of, registry_of}
use Rattle.law_traces.specs.Actions.{IfFar, OwnScripts}
use Rattle.law_traces.specs.Fitting.{CollectivesFit}
use Rattle.law_traces.specs.Merged.{Carries, with_machine_of, nodes_from}
use Rattle.law_traces.specs.Order.{RankedMachine, job_steps}
use Rattle.law_traces.specs.WorldRun.{opening_machines}
use Rattle.law_traces.proofs.WorldRuns.{states_run}
use Rattle.proc_steps.proofs.Fits.{job_fits}
use Rattle.proc_steps.specs.Forms.{step_form}
use Rattle.proc_steps.specs.Laws.{StepsFit}
use Rattle.proc_machine.specs.Laws.{AreTracesARun, NodesOpen, StatesReplay, opening_node}
use Rattle.proc_machine.specs.NodeState.{NodeState, fresh_collectives, opening_collectives, script_job, scripts_at}
use Rattle.proc_machine.specs.NodeState.{state_of}
use Rattle.proc_machine.specs.NodeState.{state_steps}
use Rattle.proc_machine.proofs.Opening.{steps_said}

-- what is known of the states is what is known of the records with the scripts
states_carry : (job : JobState) → Carries (state_of job) (job_steps (script_job job)) state_steps
states_carry job = record {
  polls = λ state thread. refl;
  after = λ state thread now got. refl;
  turned = λ state thread now got. refl;
  sent = λ state. refl;
}

-- collectives of which none was started are as far as they may be
opening_far : (job : JobState) (node : ℕ) → IsJob job → IfFar CollectivesFit (opening_collectives job node)
opening_far job node is = by_area job.collect is.collect
  where
    by_area : (area : Option CollectArea) → IsCollectOrNone job.settings area
        → IfFar CollectivesFit (option_map (fresh_collectives job.settings node) area)
    by_area None fits = tt
    by_area (Some at) fits = record {
      count = omega arith;
      word = omega arith;
      nodes = is.settings.nodes;
      room = fits.area.small;
    }

pub traces_run : StepsFit → AreTracesARun
traces_run fit job traces ranks is few reaches =
    states_run job.settings (registry_of (handlers_of job)).table (script_meaning (handlers_of job)) step_form
    (state_of job)
    state_steps (scripts_at job) traces ranks
    (job_fits job.settings (handlers_of job) is.settings is.job_fits is.last_fits is.handlers)
    (λ node. fit job.settings (scripts_at job node)
    (λ thread. steps_said (scope_of job) job.scripts node thread is.scripts) (opening_far job node is))
    few (states_carry job) reaches

-- ---- the nodes before all turns, and the replays of their traces

node_at : (job : JobState) (first node : ℕ) (traces : List (List Entry))
    → slice_get (map (with_machine_of (state_of job))
    (nodes_from (opening_machines job.settings (scripts_at job)) first traces)) node
    ≡ option_map (opening_node job (first + node)) (slice_get traces node)
node_at job first node [] = refl
node_at job first zero (trace ∷ traces) =
    let same : first ≡ first + 0 = omega arith in
    ap (λ (me : ℕ). Some (opening_node job me trace)) same
node_at job first (suc node) (trace ∷ traces) =
    let same : (first + 1) + node ≡ first + suc node = omega arith in
    node_at job (first + 1) node traces
    ∙ ap (λ (me : ℕ). option_map (opening_node job me) (slice_get traces node)) same

pub nodes_open : NodesOpen
nodes_open job traces node =
    let same : 0 + node ≡ node = omega arith in
    node_at job 0 node traces ∙ ap (λ (me : ℕ). option_map (opening_node job me) (slice_get traces node)) same

replay_is : (job : JobState) (ranked : RankedMachine EndpointLocal (OwnScripts ScriptStep)) (entries : List Entry)
    → replay_state state_steps (state_of job ranked) entries
    ≡ state_of job (replay_state (job_steps (script_job job)) ranked entries)
replay_is job ranked [] = refl
replay_is job ranked (entry ∷ entries) =
    replay_is job (after_entry (job_steps (script_job job)) ranked entry) entries

pub states_replay : StatesReplay
states_replay job me entries =
    ap (λ (state : NodeState). state.ranked.state)
    (replay_is job (record { me = me; state = opening_machines job.settings (scripts_at job) me }) entries)
