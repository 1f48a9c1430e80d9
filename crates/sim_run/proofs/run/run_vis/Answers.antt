use Rattle.std.proofs.Common.{subst, sym}
use Rattle.base_io.specs.Buffered.{outbox}
use Rattle.sim_world.specs.Events.{job_in}
use Rattle.text_script.specs.Bodies.{script_meaning}
use Rattle.text_script.specs.Registration.{handlers_of}
use Rattle.sim_run.specs.Schedules.{begin_asked}
use Rattle.sim_run.specs.ScheduleRun.{run_stage, begin_plan, RunsByScript}
use Rattle.sim_run.specs.declared.said.Said.{Said}
use Rattle.sim_run.proofs.ScheduleRuns.{begun_told, nothing_told}
use Rattle.sim_run.proofs.run.run_vis.Goals as goal

pub returns-in-NoMemory-clause-runs : goal.returns-in-NoMemory-clause-runs
returns-in-NoMemory-clause-runs g c =
    let old = c.args.world.now in
    let begin = c.args.begin.now in
    let plan = begin_plan c.args.at.number c.args.at.now begin.node (begin_asked begin.thread begin.vis.now) in
    nothing_told (job_in (script_meaning (handlers_of c.args.script.now)) old) plan old c.begin_pieces.new.world
    (outbox g.K.Sink.taken g.K.Sink.faults c.args.sink.now)

pub returns-in_default-clause-runs : goal.returns-in_default-clause-runs
returns-in_default-clause-runs g c =
    let old = run_stage g.K.Sink.taken g.K.Sink.faults c.args.world.now c.args.sink.now in
    let new = run_stage g.K.Sink.taken g.K.Sink.faults c.begin_pieces.new.world c.write_vis.new.sink in
    subst (λ (said : Said). RunsByScript c.args.script.now
    (begin_plan c.args.at.number c.args.at.now c.args.begin.now.node
    (begin_asked c.args.begin.now.thread c.args.begin.now.vis.now)) old new said) (sym c.from_wrote.ensures)
    (begun_told (handlers_of c.args.script.now) _ c.handlers.ensures old new c.args.at.number c.args.at.now
    c.args.begin.now.node (begin_asked c.args.begin.now.thread c.args.begin.now.vis.now) c.begin_pieces.result
    c.write_vis.result c.begin_pieces.ensures.answered c.begin_pieces.ensures.moves c.write_vis.ensures)
