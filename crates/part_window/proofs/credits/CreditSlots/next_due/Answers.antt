use Rattle.part_window.proofs.Dues.{never-due, due-by}
use Rattle.part_window.proofs.credits.CreditSlots.next_due.Goals as goal

pub returns-in_default : goal.returns-in_default
returns-in_default c =
    let fields = c.self.inside in
    never-due fields.last fields.given.items fields.table fields.order c.args.self.now c.args.resend c.self.view_is
    c.self.invariant (λ j due is. absurd (c.in_default.ensures.none j due is))

pub returns : goal.returns
returns c =
    let fields = c.self.inside in
    let first = c.in-Some.ensures in
    due-by fields.last fields.given.items fields.table fields.order c.args.self.now c.args.resend c.in-Some._place
    c.in-Some.due c.checked_add.result c.self.view_is c.self.invariant first.listed first.inside first.first
    c.checked_add.ensures
