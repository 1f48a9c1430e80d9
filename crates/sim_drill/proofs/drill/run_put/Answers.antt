use Rattle.std.proofs.Common.{◌+◌, ◌-◌, ◌*◌, ◌%◌, ◌^◌, ◌<◌, lit<, sym, subst, ◌∙◌, arith}
use Rattle.part_transfers.specs.declared.operation.ImplicitKinds.TheVariants as implicit
use Rattle.text_calls.specs.declared.scheduled.ScheduledCall.TheVariants as call
use Rattle.text_steps.specs.declared.steps.ScheduledEvent.TheVariants as scheduled
use Rattle.part_transfers.specs.declared.operation.Transfer.TheVariants as transfer
use Rattle.sim_drill.specs.Rounds.{at_time}
use Rattle.wire_message.specs.Parameters.{Parameters}
use Rattle.sim_drill.specs.Drilling.{drill_stage}
use Rattle.sim_drill.proofs.Drilled.{two_lines}
use Rattle.sim_drill.proofs.OnOk.{on_ok}
use Rattle.sim_drill.proofs.drill.run_put.Goals as goal

pub run_event-requires-clause-among : goal.run_event-requires-clause-among
run_event-requires-clause-among c =
    subst (λ (s : Parameters). c.args.round.from < s.nodes) (sym c.requires.drilled.settings) c.requires.from

pub run_event-requires-clause-called : goal.run_event-requires-clause-called
run_event-requires-clause-called c =
    subst (λ (s : Parameters). 0 < s.threads) (sym c.requires.drilled.settings) (lit< tt)

pub run_event-requires-2 : goal.run_event-requires-2
run_event-requires-2 c =
    let same = c.run_event.ensures.settings ∙ c.requires.drilled.settings in
    record {
      among = subst (λ (s : Parameters). c.args.round.from < s.nodes) (sym same) c.requires.from;
      called = subst (λ (s : Parameters). 0 < s.threads) (sym same) (lit< tt);
      few = λ word. c.run_event.ensures.few (2 ^ 64 - 3) c.requires.few word;
    }

pub returns-in_err-run_event-clause-few : goal.returns-in_err-run_event-clause-few
returns-in_err-run_event-clause-few c = λ most h word.
    let once = c.run_event.ensures.few most h word in omega (arith, once)

pub returns-clause-few : goal.returns-clause-few
returns-clause-few c = λ most h word.
    let twice = c.run_event-2.ensures.few (most + 1) (c.run_event.ensures.few most h) word in omega (arith, twice)

pub returns-clause-runs : goal.returns-clause-runs
returns-clause-runs c =
    let round = c.args.round in
    let first = at_time c.args.now (scheduled.Call round.from 0 (call.SyncImplicit implicit.All)) in
    let put = transfer.Put round.to (round.rest % 8 * 4096) 0 4096 in
    let second = at_time c.args.now (scheduled.Call round.from 0 (call.BeginImplicit put)) in
    on_ok c.run_event-2.result _ _
    (two_lines c.args.script.now (drill_stage c.args.world.now c.args.counts.now)
    (drill_stage c.run_event.new.world c.run_event.new.counts)
    (drill_stage c.run_event-2.new.world c.run_event-2.new.counts)
    first second c.run_event.ensures.settings c.run_event.ensures.table c.in_ok-run_event.ensures.runs)
    (rw c.from.ensures at c.run_event-2.ensures.runs)
