use Rattle.std.proofs.Common.{◌≡◌, ◌-◌, false, inl, inr, arith}
use Rattle.std.specs.Prelude.{nat_le}
use Rattle.std.proofs.lemmas.Bool.Decides.{nat_tests}
use Rattle.std.proofs.lemmas.Bool.{cases_Bool, leb-true, leb-false}
use Rattle.part_window.proofs.Dues.{none-due, first-due}
use Rattle.part_window.proofs.credits.CreditSlots.is_due.Goals as goal

pub returns-in_default : goal.returns-in_default
returns-in_default c =
    let fields = c.self.inside in
    none-due fields.last fields.given.items fields.table fields.order c.args.self.now c.args.now c.args.resend
    c.self.view_is c.self.invariant (λ j due is. absurd (c.in_default.ensures.none j due is))

pub returns-then-due-now : goal.returns-then-due-now
returns-then-due-now c =
    let fields = c.self.inside in
    let due = c.in-Some.due in
    let place = c.in-Some._place in
    elim (cases_Bool (nat_le c.args.resend (c.args.now - due.time))) [
      | inl late ↦ (let long = leb-true c.args.resend (c.args.now - due.time) late in
          rw late (
            (due.node, due.slot),
            first-due fields.last fields.given.items fields.table fields.order c.args.self.now c.args.now c.args.resend
                place due c.self.view_is c.self.invariant c.in-Some.ensures.listed c.in-Some.ensures.inside
                c.in-Some.ensures.first (omega (arith, c.if-due-now.true, long)),
          ))
      | inr early ↦ (let short = leb-false c.args.resend (c.args.now - due.time) early in
          rw early (none-due fields.last fields.given.items fields.table fields.order c.args.self.now c.args.now
          c.args.resend c.self.view_is c.self.invariant
          (λ j same is. let f = c.in-Some.ensures.first j same is in
          omega (arith, f.0, c.if-due-now.true, short))))
    ]

pub returns-else-due-now : goal.returns-else-due-now
returns-else-due-now c =
    let fields = c.self.inside in
    let due = c.in-Some.due in
    let early : nat_le due.time c.args.now ≡ false = grind (arith, nat_tests, c.if-due-now.false) in
    rw early (none-due fields.last fields.given.items fields.table fields.order c.args.self.now c.args.now
    c.args.resend c.self.view_is c.self.invariant
    (λ j same is. let f = c.in-Some.ensures.first j same is in omega (arith, f.0, c.if-due-now.false)))
