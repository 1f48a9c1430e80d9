use Rattle.std.proofs.Common.{map, sym, ap, ◌∙◌}
use Rattle.base_io.proofs.Outboxes.{past_done, past_fault}
use Rattle.base_text.specs.LineTexts.{spell}
use Rattle.sim_run.specs.RunText.{violation_line}
use Rattle.sim_run.proofs.Newest.{left_some}
use Rattle.sim_run.proofs.violations.write_violations.Goals as goal

pub returns-in-Fault : goal.returns-in-Fault
returns-in-Fault g c = λ few.
    let next = ap (λ vs. spell (map (violation_line c.args.node) vs))
    (left_some c.args.log.now.newest c.loop-turn.turn c.in-Some.violation few c.loop-turn-test.true
    (sym c.in-Some.is ∙ c.back.ensures)) in
    past_fault _ _ _ _ _ _ _ next (c.loop-turn.invariant.taken few) c.in-Fault.ensures

pub loop-turn-preserved : goal.loop-turn-preserved
loop-turn-preserved g c = record {
  taken = λ few.
      let next = ap (λ vs. spell (map (violation_line c.args.node) vs))
      (left_some c.args.log.now.newest c.loop-turn.turn c.in-Some.violation few c.loop-turn-test.true
      (sym c.in-Some.is ∙ c.back.ensures)) in
      past_done _ _ _ _ _ _ _ next (c.loop-turn.invariant.taken few) c.in_default-write_violation.ensures;
}
