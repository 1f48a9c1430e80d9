use Rattle.base_io.specs.Buffered.{outbox}
use Rattle.sim_world.specs.Events.{job_in}
use Rattle.text_script.specs.Bodies.{script_meaning}
use Rattle.text_script.specs.Registration.{handlers_of}
use Rattle.sim_run.specs.ScheduleRun.{run_stage, settle_plan}
use Rattle.sim_run.proofs.ScheduleRuns.{settled_told, nothing_told}
use Rattle.sim_run.proofs.run.run_settle.Goals as goal

pub returns-in-Err-clause-runs : goal.returns-in-Err-clause-runs
returns-in-Err-clause-runs g c =
    let old = c.args.world.now in
    let plan = settle_plan c.args.at.number c.args.at.now c.args.rounds in
    nothing_told (job_in (script_meaning (handlers_of c.args.script.now)) old) plan old c.settle.new.self
    (outbox g.K.Sink.taken g.K.Sink.faults c.args.sink.now)

pub returns-in-Ok-clause-runs : goal.returns-in-Ok-clause-runs
returns-in-Ok-clause-runs g c =
    let old = run_stage g.K.Sink.taken g.K.Sink.faults c.args.world.now c.args.sink.now in
    let new = run_stage g.K.Sink.taken g.K.Sink.faults c.settle.new.self c.write_numbered.new.sink in
    settled_told (handlers_of c.args.script.now) c.handlers.result.now c.handlers.ensures old new c.args.at.number
    c.args.at.now c.args.rounds c.write_numbered.result _ c.from_wrote.ensures c.in-Ok.ensures.moves
    c.write_numbered.ensures
