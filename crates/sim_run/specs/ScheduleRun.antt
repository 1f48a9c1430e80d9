-- How the world runs the lines of a schedule, and what is written of it.
use Rattle.std.specs.Prelude.{◌≡◌, ℕ, Bool, true, false, List, [], ◌∷◌, Option, is_some, codes, decimal}
use Rattle.wire_message.specs.Parameters.{Parameters}
use Rattle.base_io.specs.Buffered.{Gathering, Outbox, outbox, GathersAll}
use Rattle.base_io.specs.declared.writing.Wrote.{Wrote}
use Rattle.spec_network.specs.World.{EventAt, run}
use Rattle.spec_network.specs.MostHeld.{most_after}
use Rattle.node_rules.specs.EndpointRules.{OtherCall, Records}
use Rattle.sim_world.specs.Events.{ForItsRecords, job_in}
use Rattle.sim_world.specs.Stands.{WorldStands}
use Rattle.node_endpoint.specs.EndpointState.{EndpointState, EndpointStands}
use Rattle.node_endpoint.specs.EndpointState.{IsNodeOf}
use Rattle.sim_world.specs.WorldState.{WorldState}
use Rattle.sim_world.specs.declared.event.WorldAnswer.{WorldAnswer}
use Rattle.sim_world.specs.declared.event.WorldAnswer.TheVariants as answers
use Rattle.text_script.specs.AnswerWords.{sight_of, vis_words}
use Rattle.text_script.specs.AnswersTold.{NamesWhatIs}
use Rattle.text_script.specs.Bodies.{script_meaning}
use Rattle.base_text.specs.LineTexts.{Line, line_text, spell}
use Rattle.text_job.specs.declared.job.Job.{Job as JobState}
use Rattle.text_script.specs.Registration.{handlers_of, registry_of}
use Rattle.sim_world.specs.Settling.{WorldJob, settle_events}
use Rattle.node_vis.specs.Beginning.{BeginCall}
use Rattle.sim_group.specs.GroupState.{GroupState, IsGroup, group_in}
use Rattle.sim_group.specs.Standing.{ForItsGroups, IsLeft, StandsFor}
use Rattle.text_script.specs.declared.collective_texts.CollectiveAnswer.{CollectiveAnswer}
use Rattle.text_script.specs.declared.collective_texts.CollectiveAnswer.TheVariants as collective
use Rattle.node_collectives.specs.declared.answers.StartAnswer.TheVariants as started
use Rattle.node_collectives.specs.declared.answers.StepAnswer.TheVariants as stepped
use Rattle.node_collectives.specs.declared.answers.EndAnswer.TheVariants as ended
use Rattle.text_steps.specs.declared.steps.CollectiveText.{CollectiveText}
use Rattle.sim_run.specs.Schedules.{Nodes, begin_answer, begin_events, collective_answer, collective_event}
use Rattle.sim_run.specs.Schedules.{line_events, nodes_after, nodes_of, schedule_events}
use Rattle.sim_group.specs.declared.world_nodes.WorldNodes.{WorldNodes}
use Rattle.text_steps.specs.declared.steps.TimedEvent.{TimedEvent}
use Rattle.sim_run.specs.RunText.{world_words, event_words, line_words, answer_lines, any_violation, lines_of_node}
use Rattle.sim_run.specs.RunText.{end_lines, run_records, run_most}
use Rattle.sim_run.specs.LinesWritten.{SaysLines, OnDone}
use Rattle.sim_run.specs.declared.said.Said.{Said}

-- ---- a world that stands

-- the world stands for some records
pub record WorldRecords (world : WorldState) : Type 0 where
  pub records : Records
  pub most : ℕ → ℕ
  pub stands : WorldStands world records most

-- the world stands for what these events leave of the records
abbrev pub StandsAfter : WorldJob → WorldState → List (EventAt OtherCall) → Records → (ℕ → ℕ) → Type 0
StandsAfter job world events records most =
    WorldStands world (run job events records) (most_after job events records most)

-- it is a world of the same job
pub record IsOfSameJob (old new : WorldState) : Type 0 where
  pub settings : new.settings ≡ old.settings
  pub table : new.table ≡ old.table

-- ---- lines of a schedule

-- the world of a run, and what went into its sink
pub record RunStage : Type 0 where
  pub world : WorldState
  pub out : Outbox

abbrev pub run_stage : {K : Type 0} → (taken : K → Option (List ℕ)) → (faults : K → ℕ) → WorldState → Gathering K
    → RunStage
run_stage taken faults world sink = record { world = world; out = outbox taken faults sink }

-- a line of the output: its number, and by what the nodes do and their records its words and the events before it
pub record Plan : Type 0 where
  pub number : ℕ
  pub words : WorldJob → Records → Line
  pub events : WorldJob → Records → List (EventAt OtherCall)

-- that of one event
abbrev pub event_plan : (number : ℕ) → EventAt OtherCall → Plan
event_plan number event =
    record {
      number = number;
      words = λ job records. event_words job records event;
      events = λ job records. event ∷ [];
    }

-- that of the beginning of a transfer of many pieces
abbrev pub begin_plan : (number now node : ℕ) → BeginCall → Plan
begin_plan number now node asked =
    record {
      number = number;
      words = λ job records. vis_words (begin_answer job records now node asked);
      events = λ job records. begin_events job records now node asked;
    }

-- that of rounds
abbrev pub settle_plan : (number now rounds : ℕ) → Plan
settle_plan number now rounds =
    record {
      number = number;
      words = λ job records. codes "settled" ∷ [];
      events = λ job. settle_events job now rounds;
    }

-- the line that is planned, from these records
abbrev pub planned_line : WorldJob → Plan → Records → Line
planned_line job plan records = decimal plan.number ∷ plan.words job records

-- of all records for which the world stood: the line that is planned was said, and where it was, the world stands for
-- the records after the events
abbrev pub RunsPlan : WorldJob → Plan → (old new : RunStage) → Said → Type 0
RunsPlan job plan old new said =
    ForItsRecords old.world (λ records most.
    SaysLines old.out new.out (planned_line job plan records ∷ []) said
    × OnDone said (StandsAfter job new.world (plan.events job records) records most))

-- by what the nodes of the world do with the handlers of this job
abbrev pub RunsByScript : JobState → Plan → (old new : RunStage) → Said → Type 0
RunsByScript text plan old new said = RunsPlan (job_in (script_meaning (handlers_of text)) old.world) plan old new said

-- ---- the nodes of a run

-- each node has its collectives, where the job has them
abbrev pub HaveCollectives : JobState → GroupState → Type 0
HaveCollectives text it = is_some text.collect ≡ true → IsGroup it.world it.nodes

-- they stand for some group
pub record GroupStood (it : GroupState) : Type 0 where
  pub nodes : Nodes
  pub most : ℕ → ℕ
  pub stands : StandsFor it nodes.area nodes.group most

-- they are of the same job, and as many
pub record IsOfSameNodes (text : JobState) (old new : GroupState) : Type 0 where
  pub job : IsOfSameJob old.world new.world
  pub have : HaveCollectives text old → HaveCollectives text new

-- memory ran out
abbrev pub is_lacking : CollectiveAnswer → Bool
is_lacking (collective.Start started.NoMemory) = true
is_lacking (collective.Step stepped.NoMemory) = true
is_lacking (collective.End ended.NoMemory) = true
is_lacking answer = false

-- what a line asks of the collectives of its node
pub record CollectiveAsked : Type 0 where
  pub time : ℕ
  pub node : ℕ
  pub thread : ℕ
  pub call : CollectiveText

-- of all groups for which they stood: unless memory ran out, it is answered as the group answers, and they stand for
-- what its event leaves
abbrev pub Collects : WorldJob → (old : GroupState) → CollectiveAsked → CollectiveAnswer → (new : GroupState) → Type 0
Collects job old asked answer new =
    is_lacking answer ≡ false
    → ForItsGroups old (λ area group most.
    (answer ≡ collective_answer job (nodes_of area group) asked.time asked.node asked.thread asked.call)
    × IsLeft job area group most
    (collective_event job.settings.nodes asked.time asked.node asked.thread asked.call) new)

-- the nodes of a run, and what went into its sink
pub record NodesStage : Type 0 where
  pub nodes : GroupState
  pub out : Outbox

abbrev pub nodes_stage : {K : Type 0} → (taken : K → Option (List ℕ)) → (faults : K → ℕ) → WorldNodes → Gathering K
    → NodesStage
nodes_stage taken faults nodes sink = record { nodes = group_in nodes; out = outbox taken faults sink }

-- of all groups for which the nodes stood: the line of the answer with this number was said, and where it was, they
-- stand for what the line of the schedule leaves
abbrev pub RunsLine : WorldJob → (number : ℕ) → TimedEvent → (old new : NodesStage) → Said → Type 0
RunsLine job number line old new said =
    ForItsGroups old.nodes (λ area group most.
    SaysLines old.out new.out ((decimal number ∷ line_words job (nodes_of area group) line) ∷ []) said
    × OnDone said (StandsFor new.nodes area (nodes_after job (nodes_of area group) line).group
    (most_after job (line_events job (nodes_of area group) line.time line.event) group.records most)))

-- of all groups for which the nodes stood: the answers to these lines were said, numbered from 1, and where they all
-- were, the world stands for the records after them
abbrev pub RunsLines : WorldJob → List TimedEvent → (old new : NodesStage) → Said → Type 0
RunsLines job lines old new said =
    ForItsGroups old.nodes (λ area group most.
    SaysLines old.out new.out (answer_lines job 1 lines (nodes_of area group)) said
    × OnDone said (StandsAfter job new.nodes.world
    (schedule_events job lines (nodes_of area group)) group.records most))

-- ---- what is written

-- a text, by the records of the nodes and the most that each held
abbrev pub TextOf : Type 0
TextOf = Records → (ℕ → ℕ) → List ℕ

-- of all records for which the world stands: this text went in
abbrev pub WritesText : WorldState → TextOf → (before after : Outbox) → Wrote → Type 0
WritesText world text before after wrote =
    ForItsRecords world (λ records most. GathersAll before after (text records most) wrote)

-- the line of the answer to an event on this node
abbrev pub answer_text : Parameters → (number node : ℕ) → WorldAnswer → TextOf
answer_text settings number node answer = λ records most.
    line_text (decimal number ∷ world_words (sight_of settings node (records node)) answer)

-- what an answer of this node names is there, at whatever endpoint stands for the node
abbrev pub TellsWhatIs : WorldState → (node : ℕ) → WorldAnswer → Type 0
TellsWhatIs world node (answers.Node answer) =
    (endpoint : EndpointState) → IsNodeOf world.settings world.table node endpoint
    → ForItsRecords world (λ records most. EndpointStands endpoint (records node)) → NamesWhatIs endpoint answer
TellsWhatIs world node _ = Unit {0}

-- the lines of a node of this world
abbrev pub node_text : WorldState → (node : ℕ) → TextOf
node_text world node records most = spell (lines_of_node world.settings node (most node) (records node))

-- the lines of all its nodes
abbrev pub nodes_text : WorldState → TextOf
nodes_text world records most = spell (end_lines world.settings records most)

-- of all records for which the world stands: whether a node noted a violation
abbrev pub TellsViolation : WorldState → Bool → Type 0
TellsViolation world violated =
    ForItsRecords world (λ records most. violated ≡ any_violation records 0 world.settings.nodes)

-- the world stands for the end of the job's run
pub record StandsForRun (job : JobState) (world : WorldState) : Type 0 where
  pub settings : world.settings ≡ job.settings
  pub table : world.table ≡ (registry_of (handlers_of job)).table
  pub stands : WorldStands world (run_records job) (run_most job)
