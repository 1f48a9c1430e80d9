use Rattle.std.proofs.Common.{◌∙◌, ap, sym, arith}
use Rattle.wire_message.specs.Notifications.{mask_number}
use Rattle.part_barrier.specs.Masks.{has}
use Rattle.part_barrier.proofs.RoundLaws.{known_to, known_all}
use Rattle.part_barrier.proofs.rounds.known_back.Goals as goal

pub returns-then-not-is_in : goal.returns-then-not-is_in
returns-then-not-is_in c = λ many low.
    let a = c.args in
    known_to a.at.nodes a.at.me (mask_number a.mask.now) c.loop-back.back many c.loop-back.invariant
    (ap (has (mask_number a.mask.now)) (sym c.before-in-loop-back.ensures) ∙ (sym c.is_in.ensures ∙ (grind (arith, c.if-not-is_in.true))))

pub returns : goal.returns
returns c = λ many low.
    let a = c.args in
    known_all a.at.nodes a.at.me (mask_number a.mask.now) many (grind (arith, c.loop-back.invariant, c.loop-back-test.false)) low
