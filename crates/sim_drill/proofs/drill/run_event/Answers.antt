use Rattle.std.proofs.Common.{subst}
use Rattle.node_rules.specs.EndpointRules.{transition}
use Rattle.sim_world.specs.Events.{StepsInWorld, event_of}
use Rattle.text_script.specs.Bodies.{script_meaning}
use Rattle.text_script.specs.Registration.{JobHandlers, handlers_of}
use Rattle.sim_drill.specs.Drilling.{drill_stage}
use Rattle.sim_drill.proofs.Drilled.{event_counts}
use Rattle.sim_drill.proofs.drill.run_event.Goals as goal

pub returns-in_default-clause-runs : goal.returns-in_default-clause-runs
returns-in_default-clause-runs c =
    let event = event_of c.args.event.now in
    let steps =
    subst
    (λ (handlers : JobHandlers). StepsInWorld (script_meaning handlers) c.args.world.now
    (transition c.args.now event c.step.result) c.step.new.self) c.handlers.ensures c.step.ensures.steps
    in
    event_counts (script_meaning (handlers_of c.args.script.now)) (drill_stage c.args.world.now c.args.counts.now)
    (drill_stage c.step.new.self c.count.new.self) c.args.now event c.step.result c.in_default.not-NoMemory steps
    c.count.ensures.tallies
