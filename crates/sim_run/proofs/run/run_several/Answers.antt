use Rattle.std.proofs.Common.{refl, sym, ap, ◌∙◌, subst}
use Rattle.base_io.specs.Buffered.{outbox}
use Rattle.sim_world.specs.Events.{job_in}
use Rattle.text_script.specs.Bodies.{script_meaning}
use Rattle.text_script.specs.Registration.{handlers_of}
use Rattle.sim_run.specs.Schedules.{begin_asked}
use Rattle.sim_run.specs.declared.schedule_line.Beginning.{Beginning}
use Rattle.text_script.specs.ScriptInvariant.{MayBegin}
use Rattle.text_vis.specs.declared.vis.VisText.{VisText}
use Rattle.sim_run.specs.ScheduleRun.{begin_plan, settle_plan, nodes_stage}
use Rattle.text_steps.specs.declared.steps.ScheduledEvent.TheVariants as scheduled
use Rattle.sim_run.proofs.KeptNodes.{world_alone}
use Rattle.sim_run.proofs.ScheduleRuns.{plan_runs, settle_is_line, vis_is_line}
use Rattle.sim_run.proofs.run.run_several.Goals as goal

-- ---- a transfer of many pieces

pub run_vis-requires-clause-node : goal.run_vis-requires-clause-node
run_vis-requires-clause-node g c = (rw c.in-Vis.is at c.requires.within).0

pub run_vis-requires-clause-begins : goal.run_vis-requires-clause-begins
run_vis-requires-clause-begins g c =
    subst (λ (vis : VisText). MayBegin c.args.nodes.now.world.settings c.in-Vis.thread vis) (sym c.text.ensures)
    (rw c.in-Vis.is at c.requires.within).1

pub returns-in-Vis-clause-job : goal.returns-in-Vis-clause-job
returns-in-Vis-clause-job g c =
    world_alone c.args.script.now c.args.nodes.now.world c.run_vis.new.world c.args.nodes.now.collectives.items
    c.run_vis.ensures.settings c.run_vis.ensures.table

pub returns-in-Vis-clause-runs : goal.returns-in-Vis-clause-runs
returns-in-Vis-clause-runs g c = λ line time event.
    let job = job_in (script_meaning (handlers_of c.args.script.now)) c.args.nodes.now.world in
    let number = c.args.at.number in
    let now = c.args.at.now in
    let begin : Beginning = record { node = c.in-Vis.node; thread = c.in-Vis.thread; vis = c.text.result } in
    plan_runs job (begin_plan number now begin.node (begin_asked begin.thread begin.vis.now)) number line
    (nodes_stage g.K.Sink.taken g.K.Sink.faults c.args.nodes.now c.args.sink.now)
    (record {
      nodes = record { world = c.run_vis.new.world; nodes = c.args.nodes.now.collectives.items };
      out = outbox g.K.Sink.taken g.K.Sink.faults c.run_vis.new.sink;
    }) c.run_vis.result refl
    (λ area group most h.
    vis_is_line job number now begin line (record { area = area; group = group }) (
      sym time,
      event ∙ (c.in-Vis.is
          ∙ ap (λ (vis : VisText). scheduled.Vis c.in-Vis.node c.in-Vis.thread vis) (sym c.text.ensures)),
    ))
    c.run_vis.ensures.runs

-- ---- a call for collectives

pub run_collective-requires-clause-group : goal.run_collective-requires-clause-group
run_collective-requires-clause-group g c = c.requires.have (rw c.in-Collective.is at c.requires.collect)

pub run_collective-requires-clause-node : goal.run_collective-requires-clause-node
run_collective-requires-clause-node g c = (rw c.in-Collective.is at c.requires.within).0

pub run_collective-requires-clause-thread : goal.run_collective-requires-clause-thread
run_collective-requires-clause-thread g c = (rw c.in-Collective.is at c.requires.within).1

pub returns-in-Collective-clause-runs : goal.returns-in-Collective-clause-runs
returns-in-Collective-clause-runs g c = λ line time event.
    c.run_collective.ensures.runs line time (event ∙ c.in-Collective.is)

-- ---- rounds

pub returns-in-Settle-clause-job : goal.returns-in-Settle-clause-job
returns-in-Settle-clause-job g c =
    world_alone c.args.script.now c.args.nodes.now.world c.run_settle.new.world c.args.nodes.now.collectives.items
    c.run_settle.ensures.settings c.run_settle.ensures.table

pub returns-in-Settle-clause-runs : goal.returns-in-Settle-clause-runs
returns-in-Settle-clause-runs g c = λ line time event.
    let job = job_in (script_meaning (handlers_of c.args.script.now)) c.args.nodes.now.world in
    let number = c.args.at.number in
    let now = c.args.at.now in
    let rounds = c.in-Settle.rounds in
    plan_runs job (settle_plan number now rounds) number line
    (nodes_stage g.K.Sink.taken g.K.Sink.faults c.args.nodes.now c.args.sink.now)
    (record {
      nodes = record { world = c.run_settle.new.world; nodes = c.args.nodes.now.collectives.items };
      out = outbox g.K.Sink.taken g.K.Sink.faults c.run_settle.new.sink;
    }) c.run_settle.result refl
    (λ area group most h.
    settle_is_line job number now rounds line (record { area = area; group = group })
    (sym time, event ∙ c.in-Settle.is))
    c.run_settle.ensures.runs
