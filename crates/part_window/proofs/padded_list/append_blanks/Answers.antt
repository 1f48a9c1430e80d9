use Rattle.std.proofs.Common.{ℕ, ◌≡◌, ◌-◌, ◌++◌, length, replicate, subst, arith}
use Rattle.part_window.proofs.padded_list.append_blanks.Goals as goal

pub returns-clause-appended : goal.returns-clause-appended
returns-clause-appended g c =
    let old = c.args.items.now.items in
    let all : c.loop.counter - length old ≡ c.args.len - length old =
    omega (arith, c.loop.invariant.within, c.loop-test.false) in
    subst (λ (count : ℕ). c.loop.items.items ≡ old ++ replicate count c.args.blank) all c.loop.invariant.appended
