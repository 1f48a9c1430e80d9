use Rattle.std.proofs.Common.{◌≡◌, ◌+◌, ◌-◌, ◌%◌, sym, ap, ◌∙◌, arith}
use Rattle.std.proofs.Math.Nat.{add-mod_right, mod-eq_of_lt}
use Rattle.part_barrier.proofs.rounds.before.Goals as goal

pub returns-then-back-at : goal.returns-then-back-at
returns-then-back-at c =
    let at = c.args.at in
    let low = c.if-back-at.true in
    let apart : at.me + at.nodes - c.args.back ≡ at.me - c.args.back + at.nodes = omega (arith, low) in
    sym (ap (λ far. far % at.nodes) apart
    ∙ (add-mod_right (at.me - c.args.back) at.nodes ∙ mod-eq_of_lt (omega (arith, c.requires.in_range))))

pub returns-else-back-at : goal.returns-else-back-at
returns-else-back-at c =
    let high = c.if-back-at.false in
    sym (mod-eq_of_lt (omega (arith, high, c.requires.in_range, c.requires.back)))
