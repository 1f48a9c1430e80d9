use Rattle.std.proofs.Common.{◌≡◌, ◌+◌, ◌-◌, ◌%◌, sym, ap, ◌∙◌, arith}
use Rattle.std.proofs.Math.Nat.{add-mod_right, mod-eq_of_lt}
use Rattle.part_barrier.proofs.rounds.further.Goals as goal

pub returns-then-to-at : goal.returns-then-to-at
returns-then-to-at c = sym (mod-eq_of_lt (omega (arith, c.if-to-at.true)))

pub returns-else-to-at : goal.returns-else-to-at
returns-else-to-at c =
    let at = c.args.at in
    let far = at.me + c.args.step in
    let high = c.if-to-at.false in
    let apart : far ≡ far - at.nodes + at.nodes = omega (arith, high) in
    sym (ap (λ place. place % at.nodes) apart
    ∙ (add-mod_right (far - at.nodes) at.nodes ∙ mod-eq_of_lt (omega (arith, c.requires.in_range, c.requires.step))))
