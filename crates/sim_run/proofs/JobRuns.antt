-- The run of a job among its nodes, which are at the opening.
use Rattle.std.proofs.Common.{◌≡◌, List, Option, refl, sym, subst, subst₂}
use Rattle.wire_message.specs.Parameters.{Parameters}
use Rattle.base_io.specs.Buffered.{GathersAll, Outbox}
use Rattle.base_io.specs.declared.writing.Wrote.{Wrote}
use Rattle.part_handlers.specs.declared.table.Entry.{Entry}
use Rattle.node_rules.specs.EndpointRules.{job_of}
use Rattle.sim_world.specs.Events.{job_in}
use Rattle.sim_world.specs.Settling.{WorldJob}
use Rattle.sim_group.specs.Standing.{StandsFor}
use Rattle.text_job.specs.JobReading.{lines_of}
use Rattle.text_job.specs.declared.job.Job.{Job as JobState}
use Rattle.text_script.specs.Bodies.{script_meaning}
use Rattle.base_text.specs.LineTexts.{spell}
use Rattle.text_script.specs.Registration.{handlers_of, registry_of}
use Rattle.sim_run.specs.LinesWritten.{OnDone, SaysLines, said_of}
use Rattle.sim_run.specs.RunText.{answer_lines, end_lines, run_lines, run_most, run_records}
use Rattle.sim_run.specs.ScheduleRun.{NodesStage, RunsLines, StandsAfter, StandsForRun, WritesText, nodes_text}
use Rattle.sim_run.specs.Schedules.{opening_nodes, schedule_events, world_job}
use Rattle.sim_run.specs.declared.said.Said.{Said}
use Rattle.sim_run.specs.declared.said.Said.TheVariants.{Done}
use Rattle.sim_run.proofs.LinesWritten.{both_said, lines_said, no_lines_yet, on_done}

-- its lines were run, by what the nodes do
abbrev pub Ran : WorldJob → JobState → (old new : NodesStage) → Said → Type 0
Ran job text old new said =
    SaysLines old.out new.out (answer_lines job 1 (lines_of text.schedule) (opening_nodes text)) said
    × OnDone said (StandsAfter job new.nodes.world (schedule_events job (lines_of text.schedule) (opening_nodes text))
    (opening_nodes text).group.records (λ i. 0))

pub job_ran : (text : JobState) (old new : NodesStage) (said : Said)
    → old.nodes.world.settings ≡ text.settings → old.nodes.world.table ≡ (registry_of (handlers_of text)).table
    → StandsFor old.nodes (opening_nodes text).area (opening_nodes text).group (λ i. 0)
    → RunsLines (job_in (script_meaning (handlers_of text)) old.nodes.world) (lines_of text.schedule) old new said
    → Ran (world_job text) text old new said
job_ran text old new said settings table stands runs =
    subst₂ (λ (s : Parameters) (t : List (Option Entry)).
    Ran (job_of s t (script_meaning (handlers_of text))) text old new said) settings table
    (runs (opening_nodes text).area (opening_nodes text).group (λ i. 0) stands)

-- they were not all said
pub job_ended : (text : JobState) (old new : NodesStage) (said : Said) → (said ≡ Done → ⊥)
    → Ran (world_job text) text old new said → SaysLines old.out new.out (run_lines text) said
job_ended text old new said n ran =
    lines_said old.out old.out new.out (run_lines text) (run_lines text)
    (answer_lines (world_job text) 1 (lines_of text.schedule) (opening_nodes text))
    (end_lines text.settings (run_records text) (run_most text)) said n refl (no_lines_yet old.out (run_lines text)) ran.0

-- they were, and then those of the nodes
pub job_said : (text : JobState) (old new : NodesStage) (last : Outbox) (said how : Said) (wrote : Wrote)
    → said ≡ Done → how ≡ said_of wrote → new.nodes.world.settings ≡ text.settings
    → Ran (world_job text) text old new said
    → WritesText new.nodes.world (nodes_text new.nodes.world) new.out last wrote
    → SaysLines old.out last (run_lines text) how
job_said text old new last said how wrote done how_is same it writes =
    let ran = subst (Ran (world_job text) text old new) done it in
    let end =
    subst (λ (settings : Parameters). GathersAll new.out last
    (spell (end_lines settings (run_records text) (run_most text))) wrote) same
    (writes (run_records text) (run_most text) ran.1) in
    subst (SaysLines old.out last (run_lines text)) (sym how_is)
    (both_said old.out new.out last
    (answer_lines (world_job text) 1 (lines_of text.schedule) (opening_nodes text))
    (end_lines text.settings (run_records text) (run_most text)) wrote ran.0 end)

pub job_stands : (text : JobState) (old new : NodesStage) (said how : Said) (wrote : Wrote)
    → said ≡ Done → how ≡ said_of wrote → new.nodes.world.settings ≡ text.settings
    → new.nodes.world.table ≡ (registry_of (handlers_of text)).table
    → Ran (world_job text) text old new said → OnDone how (StandsForRun text new.nodes.world)
job_stands text old new said how wrote done how_is settings table it =
    let ran = subst (Ran (world_job text) text old new) done it in
    subst (λ (one : Said). OnDone one (StandsForRun text new.nodes.world)) (sym how_is)
    (on_done wrote (StandsForRun text new.nodes.world)
    (record { settings = settings; table = table; stands = ran.1 }))
