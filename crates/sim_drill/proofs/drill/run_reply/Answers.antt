use Rattle.std.proofs.Common.{◌<◌, sym, subst}
use Rattle.wire_message.specs.Parameters.{Parameters}
use Rattle.sim_drill.specs.Drilling.{job_by, drill_stage}
use Rattle.sim_drill.specs.Rounds.{delivered_number}
use Rattle.text_steps.specs.declared.steps.ScheduledEvent.TheVariants as scheduled
use Rattle.sim_drill.proofs.Drilled.{delivery_counts}
use Rattle.sim_drill.proofs.OnOk.{on_ok}
use Rattle.sim_drill.proofs.drill.run_reply.Goals as goal

pub number_of-requires-clause-from : goal.number_of-requires-clause-from
number_of-requires-clause-from c =
    subst (λ (s : Parameters). c.args.round.from < s.nodes) (sym c.requires.drilled.settings) c.requires.from

pub number_of-requires-clause-to : goal.number_of-requires-clause-to
number_of-requires-clause-to c =
    subst (λ (s : Parameters). c.args.round.to < s.nodes) (sym c.requires.drilled.settings) c.requires.to

pub run_event-requires-clause-among : goal.run_event-requires-clause-among
run_event-requires-clause-among c =
    subst (λ (s : Parameters). (c.args.round.from < s.nodes) × (c.args.round.to < s.nodes))
    (sym c.requires.drilled.settings) (c.requires.from, c.requires.to)

pub returns-clause-runs : goal.returns-clause-runs
returns-clause-runs c =
    on_ok c.run_event.result _ _
    (delivery_counts (job_by c.args.script.now c.args.world.now) (drill_stage c.args.world.now c.args.counts.now)
    (drill_stage c.run_event.new.world c.run_event.new.counts) c.args.now c.number_of.result
    (delivered_number c.args.round)
    (λ number. scheduled.Reply c.args.round.from c.args.round.to number) c.number_of.ensures) c.run_event.ensures.runs
