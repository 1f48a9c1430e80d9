-- The lines of the output of a run.
use Rattle.std.specs.Prelude.{ℕ, zero, suc, ◌+◌, ◌==◌, ◌||◌, Bool, false, not, List, [], ◌∷◌, ◌++◌, map}
use Rattle.std.specs.Prelude.{Option, None, Some, codes, decimal}
use Rattle.wire_message.specs.Parameters.{Parameters}
use Rattle.part_handlers.specs.LogState.{log_of}
use Rattle.part_handlers.specs.declared.rules.Context.{Context}
use Rattle.part_handlers.specs.declared.rules.Context.TheVariants as context
use Rattle.part_handlers.specs.declared.rules.Fault.{Fault}
use Rattle.part_handlers.specs.declared.rules.Fault.TheVariants as fault
use Rattle.part_handlers.specs.declared.rules.Violation.{Violation}
use Rattle.spec_node.specs.Record.{Node}
use Rattle.spec_node.specs.Held.{held_buffers}
use Rattle.node_rules.specs.EndpointLocal.{EndpointLocal}
use Rattle.spec_network.specs.World.{Asks, Does, RequestComes, ReplyComes, Ticks, EventAt, world_answer, world_after}
use Rattle.spec_network.specs.World.{run}
use Rattle.spec_network.specs.MostHeld.{most_after}
use Rattle.node_rules.specs.EndpointRules.{OtherCall, Records, RecordsEvent, at_the_opening, timed_event}
use Rattle.sim_world.specs.WorldTold.{world_told}
use Rattle.sim_world.specs.declared.event.WorldAnswer.{WorldAnswer}
use Rattle.sim_world.specs.declared.event.WorldAnswer.TheVariants as answers
use Rattle.base_text.specs.Lines.{Word}
use Rattle.base_text.specs.LineTexts.{Line}
use Rattle.text_job.specs.declared.job.Job.{Job as JobState}
use Rattle.text_script.specs.AnswerWords.{Sight, sight_of, answer_words, lock_fault_word, rule_word, vis_words}
use Rattle.sim_world.specs.Settling.{WorldJob}
use Rattle.sim_run.specs.Schedules.{world_job, scheduled_event, schedule_events}
use Rattle.sim_run.specs.Schedules.{Nodes, begin_asked, begin_answer, collective_answer, nodes_after, opening_nodes}
use Rattle.text_script.specs.CollectiveWords.{collective_words}
use Rattle.text_job.specs.JobReading.{lines_of}
use Rattle.text_steps.specs.declared.steps.ScheduledEvent.{ScheduledEvent}
use Rattle.text_steps.specs.declared.steps.ScheduledEvent.TheVariants as scheduled
use Rattle.text_steps.specs.declared.steps.TimedEvent.{TimedEvent}

-- ---- answers

-- the node on which an event falls
abbrev pub node_of_event : RecordsEvent → ℕ
node_of_event (Asks node ask) = node
node_of_event (Does node thread call) = node
node_of_event (RequestComes from to number) = to
node_of_event (ReplyComes from to number) = from
node_of_event (Ticks node) = node

-- the words of the answer of a world, by what it names of the node on which the event fell. The records never answer
-- that memory ran out
abbrev pub world_words : Sight → WorldAnswer → Line
world_words sight (answers.Node answer) = answer_words sight answer
world_words sight answers.Unsent = codes "unsent" ∷ []
world_words sight answers.NoMemory = codes "no-memory" ∷ []

-- the words of the answer to an event
abbrev pub event_words : WorldJob → Records → EventAt OtherCall → Line
event_words job records event =
    let node = node_of_event event.event in
    world_words (sight_of job.settings node (world_after job records event node))
    (world_told (world_answer job records event))

-- the words of the answer to a line of a schedule, by its one event; a line of rounds has none
abbrev pub words_by : WorldJob → Records → (now : ℕ) → Option RecordsEvent → Line
words_by job records now None = codes "settled" ∷ []
words_by job records now (Some event) = event_words job records (timed_event now event)

-- the words of the answer to what a line asks for at a time
abbrev pub words_at : WorldJob → Nodes → (now : ℕ) → ScheduledEvent → Line
words_at job nodes now (scheduled.Vis node thread vis) =
    vis_words (begin_answer job nodes.group.records now node (begin_asked thread vis))
words_at job nodes now (scheduled.Collective node thread call) =
    collective_words (collective_answer job nodes now node thread call)
words_at job nodes now event =
    words_by job nodes.group.records now (scheduled_event nodes.group.records event)

-- the words of the answer to a line of a schedule
abbrev pub line_words : WorldJob → Nodes → TimedEvent → Line
line_words job nodes entry = words_at job nodes entry.time entry.event

-- a line for each line of a schedule: its number, and the words of its answer
abbrev pub answer_lines : WorldJob → (number : ℕ) → List TimedEvent → Nodes → List Line
answer_lines job number [] nodes = []
answer_lines job number (entry ∷ entries) nodes =
    (decimal number ∷ line_words job nodes entry)
    ∷ answer_lines job (number + 1) entries (nodes_after job nodes entry)

-- ---- nodes

-- how many violations a node noted; it stands still at 2 ^ 64 - 1
abbrev pub violations : Node EndpointLocal → ℕ
violations kept = (log_of kept.local.core.violations).count

-- the last 64 violations that a node noted, the oldest first
abbrev pub last_violations : Node EndpointLocal → List Violation
last_violations kept = (log_of kept.local.core.violations).newest

-- the words of who made a call
abbrev pub context_words : Context → Line
context_words (context.Thread thread) = codes "thread" ∷ decimal thread ∷ []
context_words context.RequestHandler = codes "request" ∷ []
context_words context.ReplyHandler = codes "reply" ∷ []

-- the word of what was wrong with a call
abbrev pub fault_word : Fault → Word
fault_word (fault.Rule rule) = rule_word rule
fault_word (fault.Lock lock_fault) = lock_fault_word lock_fault

-- the line of a violation of a node
abbrev pub violation_line : (node : ℕ) → Violation → Line
violation_line node violation =
    codes "violation" ∷ decimal node ∷ (context_words violation.context ++ fault_word violation.fault ∷ [])

-- the line of a node: what it holds, the most that it held, and how many violations it noted
abbrev pub node_line : (node now most violations : ℕ) → Line
node_line node now most violations =
    codes "node" ∷ decimal node ∷ codes "held" ∷ decimal now ∷ codes "most" ∷ decimal most
    ∷ codes "violations" ∷ decimal violations ∷ []

-- the lines of a node with this record, which held at most so much: its own, and those of its last violations
abbrev pub lines_of_node : Parameters → (node most : ℕ) → Node EndpointLocal → List Line
lines_of_node settings node most kept =
    node_line node (held_buffers settings node kept) most (violations kept)
    ∷ map (violation_line node) (last_violations kept)

-- the lines of the nodes from this one on, of which there are so many
abbrev pub node_lines : Parameters → Records → (ℕ → ℕ) → ℕ → ℕ → List Line
node_lines settings records most node zero = []
node_lines settings records most node (suc count) =
    lines_of_node settings node (most node) (records node) ++ node_lines settings records most (node + 1) count

-- one of the nodes from this one on, of which there are so many, noted a violation
abbrev pub any_violation : Records → ℕ → ℕ → Bool
any_violation records node zero = false
any_violation records node (suc count) = not (violations (records node) == 0) || any_violation records (node + 1) count

-- ---- a run

-- the lines at the end of a run: those of each node
abbrev pub end_lines : Parameters → Records → (ℕ → ℕ) → List Line
end_lines settings records most = node_lines settings records most 0 settings.nodes

-- the events of a job's run
abbrev pub run_events : JobState → List (EventAt OtherCall)
run_events job = schedule_events (world_job job) (lines_of job.schedule) (opening_nodes job)

-- the records at the end of a job's run
abbrev pub run_records : JobState → Records
run_records job = run (world_job job) (run_events job) (at_the_opening job.settings)

-- the most that each node held in a job's run
abbrev pub run_most : JobState → ℕ → ℕ
run_most job = most_after (world_job job) (run_events job) (at_the_opening job.settings) (λ node. 0)

-- a node noted a violation in a job's run
abbrev pub is_violated : JobState → Bool
is_violated job = any_violation (run_records job) 0 job.settings.nodes

-- the lines of a job's run: the answers, and the lines at the end
abbrev pub run_lines : JobState → List Line
run_lines job =
    answer_lines (world_job job) 1 (lines_of job.schedule) (opening_nodes job)
    ++ end_lines job.settings (run_records job) (run_most job)
