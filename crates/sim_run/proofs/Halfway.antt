-- How far events were run that the nodes of a run decide.
use Rattle.std.proofs.Common.{◌≡◌, ℕ, List, [], ◌∷◌, refl, sym, ap, subst, ◌∙◌}
use Rattle.spec_network.specs.World.{run}
use Rattle.spec_network.specs.MostHeld.{most_after}
use Rattle.node_rules.specs.EndpointRules.{Records}
use Rattle.sim_world.specs.Settling.{WorldJob}
use Rattle.sim_world.specs.Stands.{WorldStands}
use Rattle.sim_world.proofs.Moving.{run_append, most_append}
use Rattle.sim_group.specs.GroupState.{GroupState}
use Rattle.sim_group.specs.Standing.{StandsFor}
use Rattle.text_steps.specs.declared.steps.TimedEvent.{TimedEvent}
use Rattle.sim_run.specs.Schedules.{Nodes, line_events, nodes_after, schedule_events}
use Rattle.sim_run.specs.ScheduleRun.{StandsAfter}
use Rattle.sim_run.proofs.LinesRun.{line_runs}

-- the nodes of a run, and the most that each held
pub record Stand : Type 0 where
  pub nodes : Nodes
  pub most : ℕ → ℕ

-- how far a schedule was run from this stand: the nodes stand where the lines that are left lead to the same end
pub record Halfway (job : WorldJob) (it : GroupState) (from : Stand) (all rest : List TimedEvent) : Type 0 where
  pub now : Stand
  pub stands : StandsFor it now.nodes.area now.nodes.group now.most
  pub ends : run job (schedule_events job rest now.nodes) now.nodes.group.records
      ≡ run job (schedule_events job all from.nodes) from.nodes.group.records
  pub most_ends : most_after job (schedule_events job rest now.nodes) now.nodes.group.records now.most
      ≡ most_after job (schedule_events job all from.nodes) from.nodes.group.records from.most

-- nothing was run
abbrev pub halfway_none : (job : WorldJob) (it : GroupState) (from : Stand) (all : List TimedEvent)
    → StandsFor it from.nodes.area from.nodes.group from.most → Halfway job it from all all
halfway_none job it from all stands = record { now = from; stands = stands; ends = refl; most_ends = refl }

-- where a stand is after a line
abbrev pub stand_after : WorldJob → Stand → TimedEvent → Stand
stand_after job now line = record {
  nodes = nodes_after job now.nodes line;
  most = most_after job (line_events job now.nodes line.time line.event) now.nodes.group.records now.most;
}

-- one line more was run
abbrev pub halfway_more : (job : WorldJob) (old new : GroupState) (from : Stand) (all rest : List TimedEvent)
    (line : TimedEvent) (h : Halfway job old from all (line ∷ rest))
    → StandsFor new (stand_after job h.now line).nodes.area (stand_after job h.now line).nodes.group
    (stand_after job h.now line).most
    → Halfway job new from all rest
halfway_more job old new from all rest line h stands =
    let records = h.now.nodes.group.records in
    let events = line_events job h.now.nodes line.time line.event in
    let next = stand_after job h.now line in
    let later = schedule_events job rest next.nodes in
    let same = line_runs job h.now.nodes line in
    record {
      now = next;
      stands = stands;
      ends = ap (run job later) same ∙ (sym (run_append job events later records) ∙ h.ends);
      most_ends = ap (λ (all_records : Records). most_after job later all_records next.most) same
          ∙ (sym (most_append job events later records h.now.most) ∙ h.most_ends);
    }

-- all lines were run
pub halfway_all : (job : WorldJob) (it : GroupState) (from : Stand) (all : List TimedEvent)
    → Halfway job it from all []
    → StandsAfter job it.world (schedule_events job all from.nodes) from.nodes.group.records from.most
halfway_all job it from all h =
    subst (λ (most : ℕ → ℕ). WorldStands it.world
    (run job (schedule_events job all from.nodes) from.nodes.group.records)
    most) h.most_ends
    (subst (λ (records : Records). WorldStands it.world records h.now.most) h.ends h.stands.world)
