use Rattle.std.proofs.Common.{◌≡◌, ◌*◌, ◌<◌, refl, sym, ap, subst, ◌∙◌, arith}
use Rattle.sim_world.specs.Settling.{WorldJob}
use Rattle.sim_run.specs.Schedules.{world_job}
use Rattle.sim_drill.specs.Draws.{behind_round, round_from}
use Rattle.sim_drill.specs.Drilling.{CountsLines, IsDrilled, drill_stage}
use Rattle.sim_drill.specs.Rounds.{bare_job, round_lines, rounds_lines}
use Rattle.sim_drill.specs.declared.rounds.Round.{Round}
use Rattle.sim_drill.proofs.Drawn.{before_first, before_next, from_there, to_there}
use Rattle.sim_drill.proofs.Drilled.{no_rounds, one_more_round, same_drill}
use Rattle.sim_drill.proofs.drill.run_rounds.Goals as goal

pub loop-now-init : goal.loop-now-init
loop-now-init c = record {
  settings = refl;
  table = refl;
  draws = c.new-draws.ensures ∙ sym (before_first c.args.seed);
  few = c.requires.none;
  runs = no_rounds _ c.args.seed (drill_stage c.args.world.now c.args.counts.now);
}

pub run_round-requires : goal.run_round-requires
run_round-requires c = record {
  drilled = record {
    settings = c.loop-now.invariant.settings ∙ c.requires.drilled.settings;
    table = c.loop-now.invariant.table ∙ c.requires.drilled.table;
  };
  from = subst (λ (round : Round). round.from < 4) (sym c.draw_round-round.ensures.round) (from_there c.loop-now.draws);
  to = subst (λ (round : Round). round.to < 4) (sym c.draw_round-round.ensures.round) (to_there c.loop-now.draws);
  few = λ word.
      let few = c.loop-now.invariant.few word in
      let early = c.loop-now-test.true in
      omega (arith, few, early);
}

pub loop-now-preserved : goal.loop-now-preserved
loop-now-preserved c =
    let now = c.loop-now.now in
    let start = drill_stage c.args.world.now c.args.counts.now in
    let mid = drill_stage c.loop-now.world c.loop-now.counts in
    let new = drill_stage c.run_round.new.world c.run_round.new.counts in
    let drilled : IsDrilled c.loop-now.world = record {
      settings = c.loop-now.invariant.settings ∙ c.requires.drilled.settings;
      table = c.loop-now.invariant.table ∙ c.requires.drilled.table;
    } in
    let round = c.draw_round-round.ensures.round ∙ ap round_from c.loop-now.invariant.draws in
    record {
      settings = c.run_round.ensures.settings ∙ c.loop-now.invariant.settings;
      table = c.run_round.ensures.table ∙ c.loop-now.invariant.table;
      draws =
          c.draw_round-round.ensures.draws
          ∙ (ap behind_round c.loop-now.invariant.draws ∙ before_next c.args.seed now);
      few = λ word.
          let few = c.run_round.ensures.few (2 * now) c.loop-now.invariant.few word in omega (arith, few);
      runs =
          one_more_round (world_job bare_job) c.args.seed now start mid new c.loop-now.invariant.runs
          (subst (λ (r : Round). CountsLines (world_job bare_job) (round_lines now r) mid new) round
          (same_drill (λ (job : WorldJob). CountsLines job (round_lines now c.draw_round-round.result) mid new)
          c.args.script.now c.loop-now.world c.requires.script drilled c.in_ok-run_round.ensures.runs));
    }

pub returns-clause-runs : goal.returns-clause-runs
returns-clause-runs c =
    let all : c.loop-now.now ≡ 20000 = omega (arith, c.loop-now-test.false, c.loop-now.auto.now-end) in
    subst
    (λ n. CountsLines (world_job bare_job) (rounds_lines (world_job bare_job) c.args.seed n)
    (drill_stage c.args.world.now c.args.counts.now) (drill_stage c.loop-now.world c.loop-now.counts)) all
    c.loop-now.invariant.runs
