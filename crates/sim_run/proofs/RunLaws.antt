-- The laws hold of the run of each job.
use Rattle.wire_message.specs.Parameters.{AreInRange}
use Rattle.node_rules.specs.EndpointLocal.{nothing_begun}
use Rattle.spec_network.specs.Headline.{Headline}
use Rattle.law_transfers.proofs.Laws.{transfers_hold}
use Rattle.law_barrier.proofs.Laws.{barrier_holds}
use Rattle.law_vis.proofs.PairsDone.{pairs_are_done}
use Rattle.law_atomics.proofs.Laws.{atomics_hold}
use Rattle.sim_world.proofs.Headline.{headline, run_greatest}
use Rattle.text_job.specs.JobReading.{lines_of}
use Rattle.text_script.proofs.Batches.{has_batches, serves_batches}
use Rattle.text_script.proofs.ScheduleNodes.{job_within}
use Rattle.text_script.specs.Bodies.{script_meaning}
use Rattle.text_job.specs.JobText.{IsJob}
use Rattle.text_job.specs.declared.job.Job.{Job as JobState}
use Rattle.text_script.specs.LawfulBodies.{lawful-script}
use Rattle.text_script.specs.ScriptInvariant.{AreWithin}
use Rattle.text_script.specs.Registration.{handlers_of, registry_of}
use Rattle.sim_run.specs.Schedules.{area_in, opening_nodes, world_job}
use Rattle.sim_run.specs.RunText.{run_events}
use Rattle.sim_run.specs.RunLaws.{RunLaws}
use Rattle.sim_run.proofs.ScheduleAmong.{lines_among}
use Rattle.std.proofs.Common.{◌≡◌, true, Option, Some, None, refl, ap}
use Rattle.std.specs.Prelude.{is_some}
use Rattle.law_collectives.specs.CollectiveLaws.{CollectivesHold}
use Rattle.law_collectives.proofs.Collecting.{collectives_hold}
use Rattle.text_job.specs.CollectAreas.{IsCollectOrNone, area_of}
use Rattle.text_job.specs.declared.job.CollectArea.{CollectArea}
use Rattle.text_script.proofs.Collectives.{has_collectives, serves_collectives}
use Rattle.sim_run.proofs.Results.{results_hold}
use Rattle.sim_run.proofs.LinesTell.{places_rise, lines_tell, ran_told_once, returned_told_once}

-- the headline holds of the run of each job whose settings are in range and whose nodes are there
run_headline : (j : JobState) → AreInRange j.settings → AreWithin j.settings (lines_of j.schedule)
    → Headline (world_job j) (λ i. nothing_begun j.settings) (run_events j)
run_headline j range within =
    headline j.settings (registry_of (handlers_of j)).table (script_meaning (handlers_of j)) (run_events j) range
    (lawful-script (handlers_of j))
    (lines_among (world_job j) (lines_of j.schedule) (opening_nodes j) within)

-- the law of results, where the job has collectives
group_holds : (j : JobState) → AreInRange j.settings → IsCollectOrNone j.settings j.collect
    → is_some j.collect ≡ true → CollectivesHold (world_job j) (opening_nodes j).area
group_holds j range collect has = by_area j.collect refl collect has
  where
    by_area : (at : Option CollectArea) → j.collect ≡ at → IsCollectOrNone j.settings at → is_some at ≡ true
        → CollectivesHold (world_job j) (area_in j.settings.nodes at)
    by_area None same good some = absurd (cc)
    by_area (Some at) same good some =
        let collects : is_some j.collect ≡ true = ap is_some same in
        collectives_hold j.settings (registry_of (handlers_of j)).table (script_meaning (handlers_of j))
        (area_of j.settings.nodes at) range (lawful-script (handlers_of j)) (has_collectives (handlers_of j) collects)
        (serves_collectives (handlers_of j) collects) good.area refl

-- and all laws do
pub laws_within : (j : JobState) → AreInRange j.settings → IsCollectOrNone j.settings j.collect
    → AreWithin j.settings (lines_of j.schedule) → RunLaws j
laws_within j range collect within = record {
  among = lines_among (world_job j) (lines_of j.schedule) (opening_nodes j) within;
  headline = run_headline j range within;
  told = lines_tell j;
  rise = places_rise j;
  ran = ran_told_once j (run_headline j range within);
  returned = returned_told_once j (run_headline j range within);
  most = run_greatest j.settings (registry_of (handlers_of j)).table (script_meaning (handlers_of j)) (run_events j);
  transfers = transfers_hold j.settings (registry_of (handlers_of j)).table (script_meaning (handlers_of j)) range
      (lawful-script (handlers_of j));
  plans = pairs_are_done j.settings (registry_of (handlers_of j)).table (script_meaning (handlers_of j)) range
      (lawful-script (handlers_of j));
  barrier = barrier_holds j.settings (registry_of (handlers_of j)).table (script_meaning (handlers_of j)) range
      (lawful-script (handlers_of j));
  atomics = λ has. atomics_hold j.settings (registry_of (handlers_of j)).table (script_meaning (handlers_of j)) range
      (lawful-script (handlers_of j)) (has_batches (handlers_of j) has) (serves_batches (handlers_of j) has);
  collectives = λ has. results_hold j (group_holds j range collect has);
}

-- of each job
pub run_laws : (j : JobState) → IsJob j → RunLaws j
run_laws j h = laws_within j h.settings h.collect (job_within j h)
