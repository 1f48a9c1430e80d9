-- Runs of a schedule, line by line.
use Rattle.std.proofs.Common.{◌≡◌, ℕ, ◌+◌, List, [], ◌∷◌, drop, Some, false, refl, sym, ap, subst, subst₂, ◌∙◌}
use Rattle.std.proofs.Common.{codes, decimal}
use Rattle.base_io.specs.Buffered.{Outbox, Gathers, GathersAll}
use Rattle.base_io.specs.declared.writing.Wrote.{Wrote}
use Rattle.part_handlers.specs.Runs.{Meaning}
use Rattle.spec_network.specs.World.{EventAt, run, world_answer, world_after}
use Rattle.spec_network.specs.MostHeld.{most_after}
use Rattle.node_rules.specs.EndpointRules.{OtherCall, RecordsEvent, timed_event, transition}
use Rattle.sim_world.specs.WorldTold.{world_told}
use Rattle.sim_world.specs.Events.{ForItsRecords, StepsInWorld, job_in}
use Rattle.sim_world.specs.WorldState.{WorldState}
use Rattle.sim_world.specs.declared.event.WorldAnswer.{WorldAnswer}
use Rattle.sim_world.specs.declared.event.WorldAnswer.TheVariants as answers
use Rattle.text_script.specs.AnswerWords.{sight_of, vis_words}
use Rattle.text_script.specs.Bodies.{script_meaning}
use Rattle.base_text.specs.LineTexts.{Line, spell, line_text}
use Rattle.text_script.specs.Registration.{JobHandlers}
use Rattle.sim_world.specs.Settling.{WorldJob, Moves, settle_events}
use Rattle.node_vis.specs.Beginning.{BeginCall}
use Rattle.node_vis.specs.declared.shapes.Vis.{Vis}
use Rattle.law_collectives.specs.Groups.{Group}
use Rattle.sim_group.specs.GroupState.{GroupState}
use Rattle.sim_group.specs.Standing.{AreAsFar, ForItsGroups, StandsFor}
use Rattle.text_script.specs.CollectiveWords.{collective_words}
use Rattle.text_script.specs.declared.collective_texts.CollectiveAnswer.{CollectiveAnswer}
use Rattle.sim_run.specs.Schedules.{Nodes, scheduled_event, line_events, line_group, schedule_events, begin_answer}
use Rattle.sim_run.specs.Schedules.{begin_asked, begin_events, collective_answer}
use Rattle.sim_run.specs.declared.schedule_line.Beginning.{Beginning}
use Rattle.text_steps.specs.declared.steps.ScheduledEvent.{ScheduledEvent}
use Rattle.text_steps.specs.declared.steps.ScheduledEvent.TheVariants as scheduled
use Rattle.text_steps.specs.declared.steps.TimedEvent.{TimedEvent}
use Rattle.sim_run.specs.RunText.{node_of_event, world_words, event_words, words_at, line_words, answer_lines}
use Rattle.sim_run.specs.ScheduleRun.{StandsAfter, RunStage, Plan, begin_plan, event_plan, settle_plan}
use Rattle.sim_run.specs.ScheduleRun.{planned_line, RunsPlan, RunsLine, NodesStage, CollectiveAsked, Collects, is_lacking}
use Rattle.sim_run.specs.ScheduleRun.{WritesText, answer_text}
use Rattle.sim_run.specs.LinesWritten.{LinesUpTo, SaysLines, said_of}
use Rattle.sim_run.specs.declared.said.Said.{Said}
use Rattle.sim_run.specs.declared.said.Said.TheVariants.{Done, NoMemory}
use Rattle.sim_run.proofs.Halfway.{Halfway, Stand, halfway_none, halfway_more, halfway_all}
use Rattle.sim_run.proofs.LinesWritten.{no_lines_yet, lines_done, lines_all, lines_said, one_line, on_done}
use Rattle.sim_run.proofs.LinesWritten.{on_done_more}
use Rattle.sim_run.proofs.ScheduleLines.{one_answer, one_event, one_left}

-- ---- what is planned

-- where the nodes are so, the plan says and does what the line does, which leaves how far they are with collectives
pub record IsLinePlan (job : WorldJob) (plan : Plan) (number : ℕ) (line : TimedEvent) (nodes : Nodes) : Type 0 where
  pub number_is : plan.number ≡ number
  pub words : plan.words job nodes.group.records ≡ line_words job nodes line
  pub events : plan.events job nodes.group.records ≡ line_events job nodes line.time line.event
  pub left : line_group job nodes line.time line.event
      ≡ record nodes.group { records = run job (line_events job nodes line.time line.event) nodes.group.records }

-- the stage of the world
abbrev pub world_stage : NodesStage → RunStage
world_stage at = record { world = at.nodes.world; out = at.out }

-- so the line is run, where the world ran the plan
pub plan_runs : (job : WorldJob) (plan : Plan) (number : ℕ) (line : TimedEvent) (old new : NodesStage) (said : Said)
    → new.nodes.nodes ≡ old.nodes.nodes
    → ForItsGroups old.nodes (λ area group most.
    IsLinePlan job plan number line (record { area = area; group = group }))
    → RunsPlan job plan (world_stage old) (world_stage new) said → RunsLine job number line old new said
plan_runs job plan number line old new said same is ran = λ area group most stands.
    let nodes : Nodes = record { area = area; group = group } in
    let it = is area group most stands in
    let said_so = ran group.records most stands.world in
    let says : planned_line job plan group.records ≡ decimal number ∷ line_words job nodes line =
    ap (λ (n : ℕ). decimal n ∷ plan.words job group.records) it.number_is
    ∙ ap (λ (words : Line). decimal number ∷ words) it.words
    in
    let events = line_events job nodes line.time line.event in (
      subst (λ (l : Line). SaysLines old.out new.out (l ∷ []) said) says said_so.0,
      on_done_more said (λ after.
          subst (λ (left : Group). StandsFor new.nodes area left (most_after job events group.records most)) (sym it.left)
          (record {
            world = subst (λ (made : List (EventAt OtherCall)). StandsAfter job new.nodes.world made group.records most)
                it.events after;
            nodes = subst (AreAsFar area group.progress) (sym same) stands.nodes;
          })) said_so.1,
    )

-- the plan of a line that has one event is that of the event
pub event_is_line : (job : WorldJob) (number now : ℕ) (event : RecordsEvent) (line : TimedEvent) (nodes : Nodes)
    → (now ≡ line.time) × (scheduled_event nodes.group.records line.event ≡ Some event)
    → IsLinePlan job (event_plan number (timed_event now event)) number line nodes
event_is_line job number now event line nodes h = record {
  number_is = refl;
  words =
      ap (λ t. event_words job nodes.group.records (timed_event t event)) h.0
      ∙ sym (one_answer job nodes line.time line.event event h.1);
  events =
      ap (λ t. timed_event t event ∷ []) h.0
      ∙ sym (one_event job nodes line.time line.event event h.1);
  left = one_left job nodes line.time line.event event h.1;
}

-- a line that says this leaves how far the nodes are with collectives
abbrev LeavesThem : WorldJob → Nodes → (time : ℕ) → ScheduledEvent → Type 0
LeavesThem job nodes time event =
    line_group job nodes time event
    ≡ record nodes.group { records = run job (line_events job nodes time event) nodes.group.records }

-- that of a line that begins a transfer of many pieces is that of the beginning
pub vis_is_line : (job : WorldJob) (number now : ℕ) (begin : Beginning) (line : TimedEvent) (nodes : Nodes)
    → (now ≡ line.time) × (line.event ≡ scheduled.Vis begin.node begin.thread begin.vis.now)
    → IsLinePlan job (begin_plan number now begin.node (begin_asked begin.thread begin.vis.now)) number line nodes
vis_is_line job number now begin line nodes h =
    let asked = begin_asked begin.thread begin.vis.now in
    record {
      number_is = refl;
      words =
          ap (λ t. vis_words (begin_answer job nodes.group.records t begin.node asked)) h.0
          ∙ sym (ap (λ (e : ScheduledEvent). words_at job nodes line.time e) h.1);
      events =
          ap (λ t. begin_events job nodes.group.records t begin.node asked) h.0
          ∙ sym (ap (λ (e : ScheduledEvent). line_events job nodes line.time e) h.1);
      left = subst (LeavesThem job nodes line.time) (sym h.1) refl;
    }

-- that of a line of rounds is that of the rounds
pub settle_is_line : (job : WorldJob) (number now rounds : ℕ) (line : TimedEvent) (nodes : Nodes)
    → (now ≡ line.time) × (line.event ≡ scheduled.Settle rounds)
    → IsLinePlan job (settle_plan number now rounds) number line nodes
settle_is_line job number now rounds line nodes h = record {
  number_is = refl;
  words = sym (ap (λ (e : ScheduledEvent). words_at job nodes line.time e) h.1);
  events =
      ap (λ t. settle_events job t rounds nodes.group.records) h.0
      ∙ sym (ap (λ (e : ScheduledEvent). line_events job nodes line.time e) h.1);
  left = subst (LeavesThem job nodes line.time) (sym h.1) refl;
}

-- ---- one line

-- an event was run and its line was written
told : (meaning : Meaning) (old new : RunStage) (number : ℕ) (event : EventAt OtherCall) (answer : WorldAnswer)
    (wrote : Wrote)
    → ForItsRecords old.world (λ records most.
    (answer ≡ world_told (world_answer (job_in meaning old.world) records event))
    × StandsAfter (job_in meaning old.world) new.world (event ∷ []) records most)
    → WritesText new.world
    (answer_text old.world.settings number (node_of_event event.event) answer) old.out new.out wrote
    → RunsPlan (job_in meaning old.world) (event_plan number event) old new (said_of wrote)
told meaning old new number event answer wrote steps writes = λ records most stands.
    let job = job_in meaning old.world in
    let after = world_after job records event in
    let stepped = steps records most stands in
    let node = node_of_event event.event in
    let sight = sight_of old.world.settings node (after node) in
    let text = λ (a : WorldAnswer). line_text (decimal number ∷ world_words sight a) in
    let line =
    subst (λ (a : WorldAnswer). GathersAll old.out new.out (text a) wrote) stepped.0 (writes _ _ stepped.1)
    in (
      one_line old.out new.out (decimal number ∷ event_words job records event) wrote line,
      on_done wrote (StandsAfter job new.world (event ∷ []) records most) stepped.1,
    )

pub event_told : (meaning : Meaning) (old new : RunStage) (number now : ℕ) (event : RecordsEvent) (answer : WorldAnswer)
    (wrote : Wrote)
    → (answer ≡ answers.NoMemory → ⊥) → StepsInWorld meaning old.world (transition now event answer) new.world
    → WritesText new.world (answer_text old.world.settings number (node_of_event event) answer) old.out new.out wrote
    → RunsPlan (job_in meaning old.world) (event_plan number (timed_event now event)) old new (said_of wrote)
event_told meaning old new number now event (answers.Node answer) wrote n steps writes =
    told meaning old new number (timed_event now event) (answers.Node answer) wrote steps writes
event_told meaning old new number now event answers.Unsent wrote n steps writes =
    told meaning old new number (timed_event now event) answers.Unsent wrote steps writes
event_told meaning old new number now event answers.NoMemory wrote n steps writes = absurd (n refl)

-- the pieces of a plan were begun, and the line of the answer was written
pub vis_told : (job : WorldJob) (old new : RunStage) (number now node : ℕ) (asked : BeginCall) (answer : Vis)
    (wrote : Wrote)
    → ForItsRecords old.world (λ records most. answer ≡ begin_answer job records now node asked)
    → Moves job (λ records. begin_events job records now node asked) old.world new.world
    → GathersAll old.out new.out (line_text (decimal number ∷ vis_words answer)) wrote
    → RunsPlan job (begin_plan number now node asked) old new (said_of wrote)
vis_told job old new number now node asked answer wrote answered moves line = λ records most stands.
    let text = λ (a : Vis). line_text (decimal number ∷ vis_words a) in
    let written =
    subst (λ (a : Vis). GathersAll old.out new.out (text a) wrote) (answered records most stands) line
    in (
      one_line old.out new.out (decimal number ∷ vis_words (begin_answer job records now node asked)) wrote written,
      on_done wrote (StandsAfter job new.world (begin_events job records now node asked) records most)
          (moves records most stands),
    )

-- so by the handlers of a job, where those that ran are its own
pub begun_told : (handlers own : JobHandlers) → own ≡ handlers → (old new : RunStage) (number now node : ℕ)
    (asked : BeginCall) (answer : Vis) (wrote : Wrote)
    → ForItsRecords old.world (λ records most.
    answer ≡ begin_answer (job_in (script_meaning own) old.world) records now node asked)
    → Moves (job_in (script_meaning own) old.world)
    (λ records. begin_events (job_in (script_meaning own) old.world) records now node asked) old.world new.world
    → GathersAll old.out new.out (line_text (decimal number ∷ vis_words answer)) wrote
    → RunsPlan (job_in (script_meaning handlers) old.world) (begin_plan number now node asked) old new (said_of wrote)
begun_told handlers own same old new number now node asked answer wrote answered moves line =
    subst (λ (mine : JobHandlers). RunsPlan (job_in (script_meaning mine) old.world) (begin_plan number now node asked)
    old new (said_of wrote)) same
    (vis_told (job_in (script_meaning own) old.world) old new number now node asked answer wrote answered moves line)

-- rounds were run, and their line was written
pub settle_told : (job : WorldJob) (old new : RunStage) (number now rounds : ℕ) (wrote : Wrote)
    → Moves job (settle_events job now rounds) old.world new.world
    → GathersAll old.out new.out (line_text (decimal number ∷ codes "settled" ∷ [])) wrote
    → RunsPlan job (settle_plan number now rounds) old new (said_of wrote)
settle_told job old new number now rounds wrote moves line = λ records most stands. (
  one_line old.out new.out (decimal number ∷ codes "settled" ∷ []) wrote line,
  on_done wrote (StandsAfter job new.world (settle_events job now rounds records) records most)
      (moves records most stands),
)

-- so by the handlers of a job, where those that ran are its own
pub settled_told : (handlers own : JobHandlers) → own ≡ handlers → (old new : RunStage) (number now rounds : ℕ)
    (wrote : Wrote) (said : Said) → said ≡ said_of wrote
    → Moves (job_in (script_meaning own) old.world) (settle_events (job_in (script_meaning own) old.world) now rounds)
    old.world new.world
    → GathersAll old.out new.out (line_text (decimal number ∷ codes "settled" ∷ [])) wrote
    → RunsPlan (job_in (script_meaning handlers) old.world) (settle_plan number now rounds) old new said
settled_told handlers own same old new number now rounds wrote said said_is moves line =
    subst₂ (λ (mine : JobHandlers) (how : Said). RunsPlan (job_in (script_meaning mine) old.world)
    (settle_plan number now rounds) old new how) same (sym said_is)
    (settle_told (job_in (script_meaning own) old.world) old new number now rounds wrote moves line)

-- memory ran out before a line was written
pub nothing_told : (job : WorldJob) (plan : Plan) (old new : WorldState) (out : Outbox)
    → RunsPlan job plan (record { world = old; out = out }) (record { world = new; out = out }) NoMemory
nothing_told job plan old new out = λ records most stands. ((_, no_lines_yet out _), tt)

-- ---- a call for collectives

-- it was made, and the line of the answer was written
collected_at : (job : WorldJob) (number : ℕ) (asked : CollectiveAsked) (answer : CollectiveAnswer)
    (old new : NodesStage) (wrote : Wrote)
    → is_lacking answer ≡ false → Collects job old.nodes asked answer new.nodes
    → GathersAll old.out new.out (line_text (decimal number ∷ collective_words answer)) wrote
    → RunsLine job number
    (record { time = asked.time; event = scheduled.Collective asked.node asked.thread asked.call }) old new
    (said_of wrote)
collected_at job number asked answer old new wrote lacks collects line = λ area group most stands.
    let nodes : Nodes = record { area = area; group = group } in
    let it = collects lacks area group most stands in
    let told = collective_answer job nodes asked.time asked.node asked.thread asked.call in
    let written =
    subst (λ (a : CollectiveAnswer). GathersAll old.out new.out (line_text (decimal number ∷ collective_words a)) wrote)
    it.0 line
    in (
      one_line old.out new.out (decimal number ∷ collective_words told) wrote written,
      on_done wrote _ it.1,
    )

pub collected : (job : WorldJob) (number : ℕ) (asked : CollectiveAsked) (answer : CollectiveAnswer)
    (old new : NodesStage) (wrote : Wrote) (line : TimedEvent) → line.time ≡ asked.time
    → line.event ≡ scheduled.Collective asked.node asked.thread asked.call
    → is_lacking answer ≡ false → Collects job old.nodes asked answer new.nodes
    → GathersAll old.out new.out (line_text (decimal number ∷ collective_words answer)) wrote
    → RunsLine job number line old new (said_of wrote)
collected job number asked answer old new wrote line time_is event_is lacks collects written =
    subst₂ (λ (t : ℕ) (e : ScheduledEvent).
    RunsLine job number (record { time = t; event = e }) old new (said_of wrote)) (sym time_is) (sym event_is)
    (collected_at job number asked answer old new wrote lacks collects written)

-- so by the handlers of a job, where those that ran are its own
pub collected_by : (handlers own : JobHandlers) → own ≡ handlers → (world : WorldState) (number : ℕ)
    (asked : CollectiveAsked) (answer : CollectiveAnswer) (old new : NodesStage) (wrote : Wrote) (said : Said)
    (line : TimedEvent) → said ≡ said_of wrote → line.time ≡ asked.time
    → line.event ≡ scheduled.Collective asked.node asked.thread asked.call
    → is_lacking answer ≡ false → Collects (job_in (script_meaning own) world) old.nodes asked answer new.nodes
    → GathersAll old.out new.out (line_text (decimal number ∷ collective_words answer)) wrote
    → RunsLine (job_in (script_meaning handlers) world) number line old new said
collected_by handlers own same world number asked answer old new wrote said line said_is time_is event_is lacks collects written =
    subst₂ (λ (mine : JobHandlers) (how : Said). RunsLine (job_in (script_meaning mine) world) number line old new how)
    same (sym said_is)
    (collected (job_in (script_meaning own) world) number asked answer old new wrote line time_is event_is lacks collects
    written)

-- memory ran out before its line was written
pub nothing_collected : (job : WorldJob) (number : ℕ) (line : TimedEvent) (old new : GroupState) (out : Outbox)
    → RunsLine job number line (record { nodes = old; out = out }) (record { nodes = new; out = out }) NoMemory
nothing_collected job number line old new out = λ area group most stands. ((_, no_lines_yet out _), tt)

-- ---- the lines of a schedule

-- the lines of a schedule, those of them that are left, and the number of the first of these
pub record Progress : Type 0 where
  pub all : List TimedEvent
  pub rest : List TimedEvent
  pub number : ℕ

-- before the line at that place
abbrev pub progress : List TimedEvent → (place : ℕ) → Progress
progress all place = record { all = all; rest = drop place all; number = place + 1 }

-- how far a schedule was run, where the nodes stood so
pub record HasRun (job : WorldJob) (lines : Progress) (old new : NodesStage) (from : Stand) : Type 0 where
  pub half : Halfway job new.nodes from lines.all lines.rest
  pub said :
      LinesUpTo old.out new.out (answer_lines job 1 lines.all from.nodes)
      (answer_lines job lines.number lines.rest half.now.nodes)

-- they stood so
abbrev pub StoodAt : NodesStage → Stand → Type 0
StoodAt old from = StandsFor old.nodes from.nodes.area from.nodes.group from.most

pub has_run_nothing : (job : WorldJob) (all : List TimedEvent) (old : NodesStage) (from : Stand) → StoodAt old from
    → HasRun job (progress all 0) old old from
has_run_nothing job all old from stands = record {
  half = halfway_none job old.nodes from all stands;
  said = no_lines_yet old.out _;
}

-- a line that is next is the first of the rest
abbrev before_line : (all more : List TimedEvent) (line : TimedEvent) (number : ℕ) → Progress
before_line all more line number = record { all = all; rest = line ∷ more; number = number }

-- one line more was run
pub more_run : (job : WorldJob) (all more : List TimedEvent) (line : TimedEvent) (number : ℕ)
    (old mid new : NodesStage) (from : Stand)
    → HasRun job (before_line all more line number) old mid from
    → RunsLine job number line mid new Done
    → HasRun job (record { all = all; rest = more; number = number + 1 }) old new from
more_run job all more line number old mid new from h ran =
    let nodes = h.half.now.nodes in
    let lines = answer_lines job 1 all from.nodes in
    let now = ran nodes.area nodes.group h.half.now.most h.half.stands in
    record {
      half = halfway_more job mid.nodes new.nodes from all more line h.half now.1;
      said =
          lines_done old.out mid.out new.out lines (answer_lines job number (line ∷ more) nodes)
          (answer_lines job number (line ∷ []) nodes) _ refl h.said now.0;
    }

-- the next line ended the run
ended_run : (job : WorldJob) (all more : List TimedEvent) (line : TimedEvent) (number : ℕ) (old mid new : NodesStage)
    (from : Stand) (said : Said)
    → (said ≡ Done → ⊥) → HasRun job (before_line all more line number) old mid from
    → RunsLine job number line mid new said
    → SaysLines old.out new.out (answer_lines job 1 all from.nodes) said
ended_run job all more line number old mid new from said n h ran =
    let nodes = h.half.now.nodes in
    let now = ran nodes.area nodes.group h.half.now.most h.half.stands in
    lines_said old.out mid.out new.out (answer_lines job 1 all from.nodes)
    (answer_lines job number (line ∷ more) nodes) (answer_lines job number (line ∷ []) nodes) _ said n refl h.said
    now.0

-- the place where the line is next
at_line : (job : WorldJob) (all : List TimedEvent) (place : ℕ) (line : TimedEvent) (old mid : NodesStage)
    (from : Stand)
    → drop place all ≡ line ∷ drop (place + 1) all → HasRun job (progress all place) old mid from
    → HasRun job (before_line all (drop (place + 1) all) line (place + 1)) old mid from
at_line job all place line old mid from is h =
    subst
    (λ (rest : List TimedEvent). HasRun job (record { all = all; rest = rest; number = place + 1 }) old mid from) is h

-- the line at a place was run
pub has_run_more : (job : WorldJob) (all : List TimedEvent) (place : ℕ) (line : TimedEvent) (old mid new : NodesStage)
    (from : Stand)
    → drop place all ≡ line ∷ drop (place + 1) all → HasRun job (progress all place) old mid from
    → RunsLine job (place + 1) line mid new Done
    → HasRun job (progress all (place + 1)) old new from
has_run_more job all place line old mid new from is h ran =
    more_run job all (drop (place + 1) all) line (place + 1) old mid new from
    (at_line job all place line old mid from is h) ran

-- it ended the run
pub has_run_up_to : (job : WorldJob) (all : List TimedEvent) (place : ℕ) (line : TimedEvent)
    (old mid new : NodesStage) (from : Stand) (said : Said)
    → (said ≡ Done → ⊥) → drop place all ≡ line ∷ drop (place + 1) all → HasRun job (progress all place) old mid from
    → RunsLine job (place + 1) line mid new said
    → SaysLines old.out new.out (answer_lines job 1 all from.nodes) said
has_run_up_to job all place line old mid new from said n is h ran =
    ended_run job all (drop (place + 1) all) line (place + 1) old mid new from said n
    (at_line job all place line old mid from is h) ran

-- all lines were run
pub has_run_all : (job : WorldJob) (all : List TimedEvent) (place : ℕ) (old new : NodesStage) (from : Stand)
    → drop place all ≡ [] → HasRun job (progress all place) old new from
    → Gathers old.out new.out (spell (answer_lines job 1 all from.nodes))
    × StandsAfter job new.nodes.world (schedule_events job all from.nodes) from.nodes.group.records from.most
has_run_all job all place old new from none h = whole _ none h
  where
    whole : (rest : List TimedEvent) → rest ≡ []
        → HasRun job (record { all = all; rest = rest; number = place + 1 }) old new from
        → Gathers old.out new.out (spell (answer_lines job 1 all from.nodes))
        × StandsAfter job new.nodes.world (schedule_events job all from.nodes) from.nodes.group.records from.most
    whole [] none k = (
      lines_all old.out new.out (answer_lines job 1 all from.nodes) [] refl k.said,
      halfway_all job new.nodes from all k.half,
    )
    whole (line ∷ rest) none k = absurd (cc)
