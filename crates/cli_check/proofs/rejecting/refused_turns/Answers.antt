-- One entry more, and all of them.
use Rattle.std.proofs.Common.{refl, sym, ap, ◌∙◌, arith, take_all}
use Rattle.cli_check.specs.Rejected.{refused_turns}
use Rattle.cli_check.proofs.Rejected.{counted, uncounted}
use Rattle.cli_check.proofs.rejecting.refused_turns.Goals as goal
use Rattle.cli_check.proofs.rejecting.refused_turns.Goals.{else-refuses_got, then-refuses_got}

pub loop-entry-init : goal.loop-entry-init
loop-entry-init c = record { count = λ job rank at. refl; low = omega arith }

pub loop-entry-preserved : goal.loop-entry-preserved
loop-entry-preserved c =
    let low = c.loop-entry.invariant.low in
    record {
      count = λ job rank at.
          elim c.if-refuses_got.branch [
            | then-refuses_got w ↦ w.turns-is
                ∙ counted job rank c.args.entries.now c.loop-entry.entry-index c.entry-item.result
                c.loop-entry-test.true c.entry-item.is c.loop-entry.turns (c.loop-entry.invariant.count job rank at)
                (sym (c.refuses_got.ensures job rank at) ∙ w.if-refuses_got.true)
            | else-refuses_got w ↦ w.turns-is
                ∙ uncounted job rank c.args.entries.now c.loop-entry.entry-index c.entry-item.result
                c.loop-entry-test.true c.entry-item.is c.loop-entry.turns (c.loop-entry.invariant.count job rank at)
                (sym (c.refuses_got.ensures job rank at) ∙ w.if-refuses_got.false)
          ];
      low = elim c.if-refuses_got.branch [
        | then-refuses_got w ↦ (let is = w.turns-is in omega (arith, is, low))
        | else-refuses_got w ↦ (let is = w.turns-is in omega (arith, is, low))
      ];
    }

pub returns : goal.returns
returns c = λ job rank at.
    c.loop-entry.invariant.count job rank at
    ∙ ap (refused_turns job rank)
    (take_all c.loop-entry.entry-index c.args.entries.now (omega (arith, c.loop-entry-test.false)))
