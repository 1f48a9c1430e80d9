-- Lines of the drill, one after the other.
use Rattle.std.proofs.Common.{◌≡◌, ℕ, suc, ◌+◌, List, [], ◌∷◌, ◌++◌, Option, refl, sym, ap, subst, ◌∙◌, append_assoc}
use Rattle.std.proofs.Common.{arith}
use Rattle.wire_message.specs.Parameters.{Parameters}
use Rattle.part_handlers.specs.declared.table.Entry.{Entry}
use Rattle.part_handlers.specs.Runs.{Meaning}
use Rattle.spec_network.specs.World.{EventAt, world_after, world_answer}
use Rattle.node_rules.specs.EndpointRules.{OtherCall, Records, RecordsEvent, at_the_opening, job_of, timed_event}
use Rattle.node_rules.specs.EndpointRules.{transition}
use Rattle.sim_world.specs.Events.{ForItsRecords, StepsInWorld, job_in}
use Rattle.sim_world.specs.Settling.{WorldJob}
use Rattle.sim_world.specs.Stands.{WorldStands}
use Rattle.sim_world.specs.WorldTold.{world_told}
use Rattle.sim_world.specs.WorldState.{WorldState}
use Rattle.sim_world.specs.declared.event.WorldAnswer.{WorldAnswer}
use Rattle.sim_world.specs.declared.event.WorldAnswer.TheVariants as answers
use Rattle.sim_world.proofs.Moving.{same_job, stands_both}
use Rattle.text_job.specs.declared.job.Job.{Job as JobState}
use Rattle.text_steps.specs.declared.steps.ScheduledEvent.{ScheduledEvent}
use Rattle.text_steps.specs.declared.steps.TimedEvent.{TimedEvent}
use Rattle.text_script.specs.AnswerWords.{Sight, sight_of}
use Rattle.text_script.specs.Bodies.{script_meaning}
use Rattle.text_script.specs.Registration.{handlers_of}
use Rattle.spec_network.specs.MostHeld.{most_after}
use Rattle.sim_run.specs.Schedules.{Nodes, line_events, nodes_after, nodes_behind, opening_nodes, schedule_events}
use Rattle.sim_run.specs.Schedules.{world_job}
use Rattle.sim_run.proofs.LinesRun.{schedule_runs}
use Rattle.sim_run.specs.RunText.{line_words, node_of_event, run_most, run_records, world_words}
use Rattle.sim_run.specs.ScheduleRun.{StandsAfter}
use Rattle.sim_drill.specs.Counting.{AreAtMost, Tallies, count_in}
use Rattle.sim_drill.specs.Draws.{round_at}
use Rattle.sim_drill.specs.Drilling.{CountsEvent, CountsLines, IsDrilled, DrillStage, job_by}
use Rattle.sim_drill.specs.Rounds.{at_time, bare_job, drill_job, drill_schedule, drill_settings, round_lines}
use Rattle.sim_drill.specs.Rounds.{rounds_lines}
use Rattle.sim_drill.specs.Summary.{answers_to, count_of, drill_answers}
use Rattle.sim_drill.specs.declared.counts.Counted.{Counted}
use Rattle.sim_drill.proofs.Tallied.{tallies_both, tallies_none}

-- ---- lines

-- the events of lines, and of lines after them
pub schedule_append : (job : WorldJob) (xs ys : List TimedEvent) (nodes : Nodes)
    → schedule_events job (xs ++ ys) nodes
    ≡ schedule_events job xs nodes ++ schedule_events job ys (nodes_behind job xs nodes)
schedule_append job [] ys nodes = refl
schedule_append job (x ∷ xs) ys nodes =
    let first = line_events job nodes x.time x.event in
    let after = nodes_after job nodes x in
    ap (λ es. first ++ es) (schedule_append job xs ys after)
    ∙ sym (append_assoc first (schedule_events job xs after) (schedule_events job ys (nodes_behind job xs after)))

-- and their answers
pub answers_append : (job : WorldJob) (xs ys : List TimedEvent) (nodes : Nodes)
    → answers_to job (xs ++ ys) nodes
    ≡ answers_to job xs nodes ++ answers_to job ys (nodes_behind job xs nodes)
answers_append job [] ys nodes = refl
answers_append job (x ∷ xs) ys nodes =
    ap (λ answers. line_words job nodes x ∷ answers) (answers_append job xs ys (nodes_after job nodes x))

-- ---- stages

-- lines, and then those that the nodes behind them decide
pub lines_then : (job : WorldJob) (lines more : Nodes → List TimedEvent) (old mid new : DrillStage)
    → CountsLines job lines old mid → CountsLines job more mid new
    → CountsLines job (λ nodes. lines nodes ++ more (nodes_behind job (lines nodes) nodes)) old new
lines_then job lines more old mid new h k = λ nodes most stands.
    let records = nodes.group.records in
    let events = schedule_events job (lines nodes) nodes in
    let after = nodes_behind job (lines nodes) nodes in
    let later = schedule_events job (more after) after in
    let same = schedule_runs job (lines nodes) nodes in
    let most_now = most_after job events records most in
    let first = h nodes most stands in
    let then = k after most_now
    (subst (λ (all : Records). WorldStands mid.world all most_now) (sym same) first.0) in
    rw (schedule_append job (lines nodes) (more after) nodes, answers_append job (lines nodes) (more after) nodes) (
      stands_both job new.world events later records most
          (subst (λ (all : Records). StandsAfter job new.world later all most_now) same then.0),
      tallies_both old.counts mid.counts new.counts (answers_to job (lines nodes) nodes)
          (answers_to job (more after) after) first.1 then.1,
    )

-- ---- events

-- an event happened, and its answer was counted
counted_event : (meaning : Meaning) (old new : DrillStage) (event : EventAt OtherCall) (answer : WorldAnswer)
    → ForItsRecords old.world (λ records most.
    (answer ≡ world_told (world_answer (job_in meaning old.world) records event))
    × StandsAfter (job_in meaning old.world) new.world (event ∷ []) records most)
    → ((sight : Sight) → Tallies old.counts new.counts (world_words sight answer ∷ []))
    → CountsEvent (job_in meaning old.world) event old new
counted_event meaning old new event answer steps tallies = λ nodes most stands.
    let records = nodes.group.records in
    let stepped = steps records most stands in
    let node = node_of_event event.event in
    let sight = sight_of old.world.settings node (world_after (job_in meaning old.world) records event node) in (
      stepped.1,
      subst (λ (a : WorldAnswer). Tallies old.counts new.counts (world_words sight a ∷ [])) stepped.0 (tallies sight),
    )

pub event_counts : (meaning : Meaning) (old new : DrillStage) (now : ℕ) (event : RecordsEvent) (answer : WorldAnswer)
    → (answer ≡ answers.NoMemory → ⊥) → StepsInWorld meaning old.world (transition now event answer) new.world
    → ((sight : Sight) → Tallies old.counts new.counts (world_words sight answer ∷ []))
    → CountsEvent (job_in meaning old.world) (timed_event now event) old new
event_counts meaning old new now event (answers.Node answer) n steps tallies =
    counted_event meaning old new (timed_event now event) (answers.Node answer) steps tallies
event_counts meaning old new now event answers.Unsent n steps tallies =
    counted_event meaning old new (timed_event now event) answers.Unsent steps tallies
event_counts meaning old new now event answers.NoMemory n steps tallies = absurd (n refl)

-- a message whose number the records decide
pub delivery_counts : (job : WorldJob) (old new : DrillStage) (time number : ℕ) (by : Records → ℕ)
    (event : ℕ → ScheduledEvent)
    → ForItsRecords old.world (λ records most. number ≡ by records)
    → CountsLines job (λ nodes. at_time time (event number) ∷ []) old new
    → CountsLines job (λ nodes. at_time time (event (by nodes.group.records)) ∷ []) old new
delivery_counts job old new time number by event same h = λ nodes most stands.
    subst
    (λ n. StandsAfter job new.world (schedule_events job (at_time time (event n) ∷ []) nodes) nodes.group.records most
    × Tallies old.counts new.counts (answers_to job (at_time time (event n) ∷ []) nodes))
    (same nodes.group.records most stands) (h nodes most stands)

-- two lines, where the second one's world has the settings and the table of the first one's
pub two_lines : (text : JobState) (old mid new : DrillStage) (first second : TimedEvent)
    → mid.world.settings ≡ old.world.settings → mid.world.table ≡ old.world.table
    → CountsLines (job_by text old.world) (λ nodes. first ∷ []) old mid
    → CountsLines (job_by text mid.world) (λ nodes. second ∷ []) mid new
    → CountsLines (job_by text old.world) (λ nodes. first ∷ second ∷ []) old new
two_lines text old mid new first second settings table h k =
    lines_then (job_by text old.world) (λ nodes. first ∷ []) (λ nodes. second ∷ []) old mid new h
    (same_job (λ job. CountsLines job (λ nodes. second ∷ []) mid new) (script_meaning (handlers_of text)) old.world
    mid.world
    settings table k)

-- ---- rounds

-- the drill's world does as its job says
pub same_drill : (P : WorldJob → Type 0) (text : JobState) (world : WorldState) → text ≡ bare_job → IsDrilled world
    → P (job_by text world) → P (world_job bare_job)
same_drill P text world same drilled h =
    subst
    (λ (table : List (Option Entry)). P (job_of drill_settings table (script_meaning (handlers_of bare_job))))
    drilled.table
    (subst (λ (s : Parameters). P (job_of s world.table (script_meaning (handlers_of bare_job)))) drilled.settings
    (subst (λ (t : JobState). P (job_by t world)) same h))

pub no_rounds : (job : WorldJob) (seed : ℕ) (old : DrillStage) → CountsLines job (rounds_lines job seed 0) old old
unfolding rounds_lines
no_rounds job seed old = λ nodes most stands. (stands, tallies_none old.counts)

pub one_more_round : (job : WorldJob) (seed count : ℕ) (old mid new : DrillStage)
    → CountsLines job (rounds_lines job seed count) old mid
    → CountsLines job (round_lines count (round_at seed count)) mid new
    → CountsLines job (rounds_lines job seed (count + 1)) old new
unfolding rounds_lines
one_more_round job seed count old mid new h k =
    let next : suc count ≡ count + 1 = omega arith in
    subst (λ n. CountsLines job (rounds_lines job seed n) old new) next
    (lines_then job (rounds_lines job seed count) (round_lines count (round_at seed count)) old mid new h k)

-- what the drill came to: the world stands for the end of its run, and its answers were counted
pub record HasRun (seed : ℕ) (new : DrillStage) : Type 0 where
  pub stands : WorldStands new.world (run_records (drill_job seed)) (run_most (drill_job seed))
  pub counts : (counted : Counted) → count_in new.counts counted ≡ count_of counted (drill_answers seed)

pub all_rounds : (seed : ℕ) (old new : DrillStage) → WorldStands old.world (at_the_opening drill_settings) (λ i. 0)
    → AreAtMost 0 old.counts → CountsLines (world_job bare_job) (rounds_lines (world_job bare_job) seed 20000) old new
    → HasRun seed new
unfolding drill_schedule
all_rounds seed old new stands none h =
    let it = h (opening_nodes bare_job) (λ i. 0) stands in
    record { stands = it.0; counts = λ counted. it.1 counted ∙ omega (arith, none counted) }
