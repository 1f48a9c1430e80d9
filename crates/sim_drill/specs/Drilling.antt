-- How the world runs the lines of the drill, and what is counted of it.
use Rattle.std.specs.Prelude.{◌≡◌, ℕ, List, ◌∷◌, []}
use Rattle.wire_message.specs.Parameters.{Parameters}
use Rattle.part_handlers.specs.Runs.{Meaning}
use Rattle.spec_network.specs.World.{EventAt}
use Rattle.node_rules.specs.EndpointRules.{OtherCall}
use Rattle.sim_world.specs.Events.{job_in}
use Rattle.sim_world.specs.Settling.{WorldJob}
use Rattle.sim_world.specs.Stands.{WorldStands}
use Rattle.sim_world.specs.WorldState.{WorldState}
use Rattle.text_job.specs.declared.job.Job.{Job as JobState}
use Rattle.text_steps.specs.declared.steps.TimedEvent.{TimedEvent}
use Rattle.text_script.specs.Bodies.{script_meaning}
use Rattle.base_text.specs.LineTexts.{Line}
use Rattle.text_script.specs.Registration.{handlers_of, registry_of}
use Rattle.sim_run.specs.Schedules.{Nodes, schedule_events}
use Rattle.sim_run.specs.RunText.{event_words}
use Rattle.sim_run.specs.ScheduleRun.{StandsAfter}
use Rattle.sim_drill.specs.Counting.{Tallies}
use Rattle.sim_drill.specs.Rounds.{drill_settings, bare_job}
use Rattle.sim_drill.specs.Summary.{answers_to}

-- the world of a drill, and its counts
pub record DrillStage : Type 0 where
  pub world : WorldState
  pub counts : List ℕ

abbrev pub drill_stage : WorldState → (counts : List ℕ) → DrillStage
drill_stage world counts = record { world = world; counts = counts }

-- of all nodes for whose records the world stood: it stands for those after these events, and their answers were
-- counted
abbrev pub Counts : WorldJob → (events : Nodes → List (EventAt OtherCall)) → (answers : Nodes → List Line)
    → (old new : DrillStage) → Type 0
Counts job events answers old new =
    (nodes : Nodes) (most : ℕ → ℕ) → WorldStands old.world nodes.group.records most
    → StandsAfter job new.world (events nodes) nodes.group.records most
    × Tallies old.counts new.counts (answers nodes)

-- so of one event
abbrev pub CountsEvent : WorldJob → EventAt OtherCall → (old new : DrillStage) → Type 0
CountsEvent job event = Counts job (λ nodes. event ∷ []) (λ nodes. event_words job nodes.group.records event ∷ [])

-- and of lines of a schedule, which the nodes decide
abbrev pub CountsLines : WorldJob → (lines : Nodes → List TimedEvent) → (old new : DrillStage) → Type 0
CountsLines job lines =
    Counts job (λ nodes. schedule_events job (lines nodes) nodes) (λ nodes. answers_to job (lines nodes) nodes)

-- by what the nodes of the world do with the handlers of this job
abbrev pub job_by : JobState → WorldState → WorldJob
job_by text world = job_in (script_meaning (handlers_of text)) world

-- the world is one of the drill
pub record IsDrilled (world : WorldState) : Type 0 where
  pub settings : world.settings ≡ drill_settings
  pub table : world.table ≡ (registry_of (handlers_of bare_job)).table
