-- What a line leaves of the records is what a run of its events leaves of them.
use Rattle.std.proofs.Common.{◌≡◌, ℕ, List, [], ◌∷◌, refl, sym, ap, ◌∙◌}
use Rattle.spec_network.specs.World.{run}
use Rattle.sim_world.specs.Settling.{WorldJob}
use Rattle.sim_world.proofs.Moving.{run_append}
use Rattle.sim_group.proofs.Calling.{runs_its_calls}
use Rattle.text_steps.specs.declared.steps.ScheduledEvent.{ScheduledEvent}
use Rattle.text_steps.specs.declared.steps.ScheduledEvent.TheVariants as scheduled
use Rattle.text_steps.specs.declared.steps.TimedEvent.{TimedEvent}
use Rattle.sim_run.specs.Schedules.{Nodes, collective_event, line_events, line_group, nodes_after, nodes_behind}
use Rattle.sim_run.specs.Schedules.{schedule_events}

pub event_runs : (job : WorldJob) (nodes : Nodes) (time : ℕ) (event : ScheduledEvent)
    → (line_group job nodes time event).records ≡ run job (line_events job nodes time event) nodes.group.records
event_runs job nodes time (scheduled.Call node thread call) = refl
event_runs job nodes time (scheduled.Vis node thread vis) = refl
event_runs job nodes time (scheduled.Collective node thread call) =
    runs_its_calls job nodes.area nodes.group (collective_event job.settings.nodes time node thread call)
event_runs job nodes time (scheduled.Request from to number) = refl
event_runs job nodes time (scheduled.Reply from to number) = refl
event_runs job nodes time (scheduled.Tick node) = refl
event_runs job nodes time (scheduled.Settle rounds) = refl

pub line_runs : (job : WorldJob) (nodes : Nodes) (line : TimedEvent)
    → (nodes_after job nodes line).group.records
    ≡ run job (line_events job nodes line.time line.event) nodes.group.records
line_runs job nodes line = event_runs job nodes line.time line.event

-- so it is of the lines of a schedule
pub schedule_runs : (job : WorldJob) (lines : List TimedEvent) (nodes : Nodes)
    → (nodes_behind job lines nodes).group.records
    ≡ run job (schedule_events job lines nodes) nodes.group.records
schedule_runs job [] nodes = refl
schedule_runs job (line ∷ lines) nodes =
    schedule_runs job lines (nodes_after job nodes line)
    ∙ (ap (run job (schedule_events job lines (nodes_after job nodes line))) (line_runs job nodes line)
    ∙ sym (run_append job (line_events job nodes line.time line.event)
    (schedule_events job lines (nodes_after job nodes line)) nodes.group.records))
