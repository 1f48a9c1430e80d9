-- What the lines of a schedule stand for.
use Rattle.std.specs.Prelude.{ℕ, List, [], ◌∷◌, ◌++◌, map, Option, Some, None, Bool, true, false}
use Rattle.spec_network.specs.World.{RequestComes, ReplyComes, Ticks, EventAt, run}
use Rattle.node_rules.specs.EndpointRules.{OtherCall, Records, RecordsEvent, timed_event, job_of}
use Rattle.part_collective_area.specs.Area.{Area}
use Rattle.law_collectives.specs.Groups.{Group, GroupEvent, Start, Step, End, does_end, does_start, does_step}
use Rattle.law_collectives.specs.Groups.{group_does}
use Rattle.law_collectives.specs.Groups.{opening_group}
use Rattle.sim_group.specs.CallsOf.{calls_of}
use Rattle.node_rules.specs.Called.{event_at}
use Rattle.sim_world.specs.Settling.{WorldJob, settle_events}
use Rattle.node_vis.specs.Beginning.{BeginCall, calls_made, vis_answer_by}
use Rattle.node_vis.specs.declared.shapes.Vis.{Vis}
use Rattle.node_endpoint.specs.Sites.{ThreadCall}
use Rattle.text_job.specs.CollectAreas.{area_of}
use Rattle.text_job.specs.declared.job.CollectArea.{CollectArea}
use Rattle.text_steps.specs.declared.steps.CollectiveText.{CollectiveText}
use Rattle.text_steps.specs.declared.steps.CollectiveText.TheVariants as text
use Rattle.text_job.specs.declared.job.Job.{Job as JobState}
use Rattle.text_script.specs.declared.collective_texts.CollectiveAnswer.{CollectiveAnswer}
use Rattle.text_script.specs.declared.collective_texts.CollectiveAnswer.TheVariants as answers
use Rattle.text_script.specs.Registration.{handlers_of, registry_of}
use Rattle.text_script.specs.Bodies.{script_meaning}
use Rattle.text_script.specs.ScheduledCalls.{meant_by}
use Rattle.text_calls.specs.declared.scheduled.ScheduledCall.{ScheduledCall}
use Rattle.text_steps.specs.declared.steps.ScheduledEvent.{ScheduledEvent}
use Rattle.text_steps.specs.declared.steps.ScheduledEvent.TheVariants as scheduled
use Rattle.text_steps.specs.declared.steps.TimedEvent.{TimedEvent}
use Rattle.text_vis.specs.declared.vis.VisText.{VisText}

-- a job's text, as a world of nodes runs it: its settings, and what its nodes do
abbrev pub world_job : JobState → WorldJob
world_job text = job_of text.settings (registry_of (handlers_of text)).table (script_meaning (handlers_of text))

-- ---- one event

-- a call of a thread of a node, where the nodes have these records
abbrev pub call_event : Records → (node thread : ℕ) → ScheduledCall → RecordsEvent
call_event world node thread call = event_at node thread (meant_by (world node).local.core.cells call)

-- ---- transfers of many pieces

-- what the line asks of its thread: to begin the pieces of the plan from this one on, in a region whose handle goes
-- into the register
abbrev pub begin_asked : (thread : ℕ) → VisText → BeginCall
begin_asked thread vis =
    record { plan = vis.plan; thread = thread; from = vis.words.from; register = vis.words.register }

-- how that is answered, where the nodes have these records
abbrev pub begin_answer : WorldJob → Records → (time node : ℕ) → BeginCall → Vis
begin_answer job world time node asked =
    vis_answer_by (record { job = job; node = node; now = time }) (world node) asked

-- calls of a node's threads at one time, as events
abbrev pub call_events : (time node : ℕ) → List ThreadCall → List (EventAt OtherCall)
call_events time node calls = map (λ (one : ThreadCall). timed_event time (event_at node one.thread one.call)) calls

-- the calls that are made of it, by that answer
abbrev pub begin_events : WorldJob → Records → (time node : ℕ) → BeginCall → List (EventAt OtherCall)
begin_events job world time node asked =
    call_events time node (calls_made asked (begin_answer job world time node asked))

-- ---- collectives

-- the nodes of a run, as a group of which each runs its collectives, and the area of these
pub record Nodes : Type 0 where
  pub area : Area
  pub group : Group

abbrev pub nodes_of : Area → Group → Nodes
nodes_of area group = record { area = area; group = group }

-- the area of a job's collectives. Without one no line calls for them, and it is any
abbrev pub area_in : (nodes : ℕ) → Option CollectArea → Area
area_in nodes (Some at) = area_of nodes at
area_in nodes None = record { nodes = nodes; base = 0; room = 0 }

-- the nodes before the first line
abbrev pub opening_nodes : JobState → Nodes
opening_nodes text = record {
  area = area_in text.settings.nodes text.collect;
  group = opening_group text.settings;
}

-- what a line asks of the collectives of its node, as an event of the group. A step tries all nodes
abbrev pub collective_event : (nodes time node thread : ℕ) → CollectiveText → GroupEvent
collective_event nodes time node thread (text.Start shape from) = Start time node thread shape from
collective_event nodes time node thread text.Step = Step time node thread nodes
collective_event nodes time node thread (text.Try dest) = End time node thread dest

-- how the group answers
abbrev pub collective_answer : WorldJob → Nodes → (time node thread : ℕ) → CollectiveText → CollectiveAnswer
collective_answer job nodes time node thread (text.Start shape from) =
    answers.Start (does_start job nodes.area nodes.group time node thread shape from).0
collective_answer job nodes time node thread text.Step =
    answers.Step (does_step job nodes.area nodes.group time node thread job.settings.nodes).0
collective_answer job nodes time node thread (text.Try dest) =
    answers.End (does_end job nodes.area nodes.group time node thread dest).0

-- ---- lines

-- the one event of a line that is one call of a thread, delivery or tick, where the nodes have these records
abbrev pub scheduled_event : Records → ScheduledEvent → Option RecordsEvent
scheduled_event world (scheduled.Call node thread call) = Some (call_event world node thread call)
scheduled_event world (scheduled.Request from to number) = Some (RequestComes from to number)
scheduled_event world (scheduled.Reply from to number) = Some (ReplyComes from to number)
scheduled_event world (scheduled.Tick node) = Some (Ticks node)
scheduled_event world (scheduled.Vis node thread vis) = None
scheduled_event world (scheduled.Collective node thread call) = None
scheduled_event world (scheduled.Settle rounds) = None

-- it is several events of the world, or none: the one event of the others is told by `scheduled_event`
abbrev pub is_several : ScheduledEvent → Bool
is_several (scheduled.Vis node thread vis) = true
is_several (scheduled.Collective node thread call) = true
is_several (scheduled.Settle rounds) = true
is_several event = false

-- the events of a line, where the nodes are so
abbrev pub line_events : WorldJob → Nodes → (time : ℕ) → ScheduledEvent → List (EventAt OtherCall)
line_events job nodes time (scheduled.Call node thread call) =
    timed_event time (call_event nodes.group.records node thread call) ∷ []
line_events job nodes time (scheduled.Request from to number) = timed_event time (RequestComes from to number) ∷ []
line_events job nodes time (scheduled.Reply from to number) = timed_event time (ReplyComes from to number) ∷ []
line_events job nodes time (scheduled.Tick node) = timed_event time (Ticks node) ∷ []
line_events job nodes time (scheduled.Vis node thread vis) =
    begin_events job nodes.group.records time node (begin_asked thread vis)
line_events job nodes time (scheduled.Collective node thread call) =
    calls_of job nodes.area nodes.group (collective_event job.settings.nodes time node thread call)
line_events job nodes time (scheduled.Settle rounds) = settle_events job time rounds nodes.group.records

-- what a line leaves of the group: one that asks for no collective leaves what its events leave of the records
abbrev pub line_group : WorldJob → Nodes → (time : ℕ) → ScheduledEvent → Group
line_group job nodes time (scheduled.Collective node thread call) =
    (group_does job nodes.area nodes.group (collective_event job.settings.nodes time node thread call)).1
line_group job nodes time event =
    record nodes.group { records = run job (line_events job nodes time event) nodes.group.records }

-- the nodes behind a line
abbrev pub nodes_after : WorldJob → Nodes → TimedEvent → Nodes
nodes_after job nodes line = record { area = nodes.area; group = line_group job nodes line.time line.event }

-- the nodes behind all lines of a schedule
abbrev pub nodes_behind : WorldJob → List TimedEvent → Nodes → Nodes
nodes_behind job [] nodes = nodes
nodes_behind job (line ∷ lines) nodes = nodes_behind job lines (nodes_after job nodes line)

-- the events of all lines of a schedule, in order
abbrev pub schedule_events : WorldJob → List TimedEvent → Nodes → List (EventAt OtherCall)
schedule_events job [] nodes = []
schedule_events job (line ∷ lines) nodes =
    line_events job nodes line.time line.event ++ schedule_events job lines (nodes_after job nodes line)
