use Rattle.std.proofs.Common.{◌≡◌, ℕ, List, [], ◌∷◌, refl, ap, rules, subst, sym}
use Rattle.part_handlers.specs.Runs.{Meaning}
use Rattle.spec_network.specs.World.{run}
use Rattle.spec_network.specs.MostHeld.{most_after}
use Rattle.node_rules.specs.EndpointRules.{Records}
use Rattle.sim_world.specs.Stands.{WorldStands}
use Rattle.sim_world.specs.WorldState.{WorldState}
use Rattle.node_endpoint.specs.Making.{whole_after}
use Rattle.node_endpoint.specs.Sites.{Site, ThreadCall, job_at}
use Rattle.sim_world.specs.Wholes.{WorldWhole, whole_then}
use Rattle.sim_world.specs.contracts.at_node.AtNodeCaller.TheImpl.{ghosts}
use Rattle.node_vis.specs.Beginning.{BeginCall, calls_made}
use Rattle.node_vis.specs.declared.shapes.Vis.{Vis}
use Rattle.sim_run.specs.ScheduleRun.{IsOfSameJob}
use Rattle.sim_run.specs.Schedules.{begin_asked, call_events}
use Rattle.sim_run.proofs.run.begin_pieces.Goals as goal

-- the world that is left is the one that the caller has in the end
left_job : {left last old : WorldState} → left ≡ last → IsOfSameJob old last → IsOfSameJob old left
left_job {old} same is = subst (IsOfSameJob old) (sym same) is

left_stands : {left last : WorldState} {records : Records} {most : ℕ → ℕ} → left ≡ last → WorldStands last records most
    → WorldStands left records most
left_stands {records} {most} same stands =
    subst (λ (world : WorldState). WorldStands world records most) (sym same) stands

pub returns-clause-job : goal.returns-clause-job
returns-clause-job g c =
    left_job {last = c.begin.new.caller.world.now} (search rules) (record {
      settings = ap (λ (site : Site). site.settings) c.begin.ensures.same_site;
      table = ap (λ (site : Site). site.table) c.begin.ensures.same_site;
    })

pub returns-clause-answered : goal.returns-clause-answered
returns-clause-answered g c = λ records most stands.
    let whole : WorldWhole = record { records = records; most = most } in
    rw c.from-from.ensures at (c.begin.ensures.begins.answered whole stands)

pub returns-clause-moves : goal.returns-clause-moves
returns-clause-moves g c = λ records most stands.
    let whole : WorldWhole = record { records = records; most = most } in
    let answered = rw c.from-from.ensures at (c.begin.ensures.begins.answered whole stands) in
    let made = rw c.from-from.ensures at (c.begin.ensures.begins.made.whole whole stands) in
    let calls = calls_made asked c.begin.result in
    let moved = subst (λ (after : WorldWhole). WorldStands c.begin.new.caller.world.now after.records after.most)
    (in_a_run whole calls) made in
    left_stands {last = c.begin.new.caller.world.now} (search rules)
    (subst (λ (answer : Vis). WorldStands c.begin.new.caller.world.now
    (run (job_at site) (call_events site.now site.node (calls_made asked answer)) records)
    (most_after (job_at site) (call_events site.now site.node (calls_made asked answer)) records most)) answered moved)
  where
    meaning : Meaning
    meaning = g.H.Handlers.meaning c.args.handlers.now

    site : Site
    site = record {
      settings = c.args.world.now.settings;
      table = c.args.world.now.table;
      meaning = meaning;
      node = c.args.begin.now.node;
      now = c.args.now;
    }

    asked : BeginCall
    asked = begin_asked c.args.begin.now.thread c.args.begin.now.vis.now

    -- the whole that a run of the calls leaves
    after_run : WorldWhole → List ThreadCall → WorldWhole
    after_run whole calls = record {
      records = run (job_at site) (call_events site.now site.node calls) whole.records;
      most = most_after (job_at site) (call_events site.now site.node calls) whole.records whole.most;
    }

    in_a_run : (whole : WorldWhole) (calls : List ThreadCall)
        → whole_after (ghosts g.row.H g.H.Handlers g.H.Handlers-dict) site whole calls ≡ after_run whole calls
    in_a_run whole [] = refl
    in_a_run whole (call ∷ later) = in_a_run (whole_then site whole call) later
