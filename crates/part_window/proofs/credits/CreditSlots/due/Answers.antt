use Rattle.std.proofs.Common.{ℕ, ◌≡◌, ◌+◌, ◌<◌, Option, Some, None, List}
use Rattle.std.proofs.Common.{length, ap, sym, ◌∙◌, subst, refl, arith, length-set}
use Rattle.std.specs.Prelude.{slice_get, slice_set}
use Rattle.base_lists.specs.Cut.{total_of}
use Rattle.part_window.specs.TableState.{TableState, slot_in, place_of, with_change}
use Rattle.part_window.specs.SlotsState.{Committed, SlotsState}
use Rattle.part_window.specs.SlotsState.{slot_count}
use Rattle.part_window.specs.SlotsState.{with_slot_changed}
use Rattle.part_window.specs.SlotsState.{as_retransmitted}
use Rattle.part_window.specs.declared.order.Due.{Due}
use Rattle.part_window.specs.CreditViews.{credits_view, IsCredits}
use Rattle.part_window.proofs.CreditsViewed.{count-is, changed-is}
use Rattle.part_window.proofs.CreditsViewed.{credits-after}
use Rattle.std.proofs.lemmas.List.{set-set}
use Rattle.base_lists.proofs.Indexes.{get-set_same, get-set_other}
use Rattle.part_window.proofs.Dues.{listed-slot, none-due, first-due}
use Rattle.base_lists.proofs.Update.{length-update}
use Rattle.part_window.proofs.credits.CreditSlots.due.Goals as goal
use Rattle.part_window.proofs.credits.CreditSlots.due.Goals.{then-due-now-via-then-due-now}
use Rattle.part_window.proofs.credits.CreditSlots.due.Goals.{then-due-now-via-else-due-now+then-now-due}

pub returns-in_default-clause-next : goal.returns-in_default-clause-next
returns-in_default-clause-next c =
    let fields = c.self.inside in
    let given = fields.given.items in
    let table = fields.table in
    none-due fields.last given table fields.order c.args.self.now c.args.now c.args.resend c.self.view_is
    c.self.invariant (λ j due is. absurd (c.in_default.ensures.none j due is))

pub returns-then-due-now-clause-next : goal.returns-then-due-now-clause-next
returns-then-due-now-clause-next c =
    let fields = c.self.inside in
    let given = fields.given.items in
    let table = fields.table in
    let low : c.args.now < c.in-Some.due.time + c.args.resend =
    elim c.then-due-now.branch [
      | then-due-now-via-then-due-now written ↦ let x = written.if-due-now.true in omega (
        arith,
        x,
      )
      | then-due-now-via-else-due-now+then-now-due written ↦ let x = written.if-now-due.true in let y =
          written.if-due-now.false in omega (arith, x, y)
    ] in
    none-due fields.last given table fields.order c.args.self.now c.args.now c.args.resend c.self.view_is
    c.self.invariant (λ j same is. let f = c.in-Some.ensures.first j same is in omega (arith, f.0, low))

pub insert-requires-clause-unlisted : goal.insert-requires-clause-unlisted
insert-requires-clause-unlisted c =
    ap (λ (o : List (Option Due)). slice_get o c.in-Some.place) c.remove.ensures
    ∙ get-set_same c.self.inside.order c.in-Some.place None (omega (arith, c.in-Some.ensures.inside))

pub send_again-requires : goal.send_again-requires
send_again-requires c =
    let fields = c.self.inside in
    let given = fields.given.items in
    let table = fields.table in
    let first = c.in-Some.ensures in
    let written =
    listed-slot given table fields.order c.in-Some.place c.in-Some.due c.self.invariant first.listed first.inside in
    written.3

pub invariant_of-self : goal.invariant_of-self
invariant_of-self c =
    let fields = c.self.inside in
    let given = fields.given.items in
    let table = fields.table in
    let due = c.in-Some.due in
    let place = c.in-Some.place in
    let first = c.in-Some.ensures in
    let written = listed-slot given table fields.order place due c.self.invariant first.listed first.inside in
    let at : slot_in table due.node due.slot ≡ Some (Committed written.0 due.time written.1) =
    ap (slice_get table.slots) written.4 ∙ written.2 in
    let q : ℕ = place_of table due.node due.slot in
    let new : Due = record { time = c.args.now; node = due.node; slot = due.slot } in
    let order : c.insert.new.self ≡ slice_set fields.order q (Some new) =
    c.insert.ensures
    ∙ (ap (λ (o : List (Option Due)). slice_set o place (Some new)) c.remove.ensures
    ∙ (set-set fields.order place None (Some new)
    ∙ ap (λ (number : ℕ). slice_set fields.order number (Some new)) (sym written.4))) in
    let within : q < length fields.order = omega (arith, written.4, first.inside) in
    subst (λ (u : TableState). IsCredits given u c.insert.new.self) (sym c.send_again.ensures)
    (subst (λ (o : List (Option Due)). IsCredits given (with_change table due.node due.slot (as_retransmitted c.args.now)) o)
    (sym order)
    (credits-after given (slice_set fields.order q (Some new)) due.node due.slot (Committed written.0 due.time written.1)
    (as_retransmitted c.args.now) c.self.invariant refl at (length-set fields.order q (Some new))
    (λ number ne. get-set_other fields.order q (Some new) number ne)
    (new, get-set_same fields.order q (Some new) within, refl, written.3, refl)))

pub returns-clause-next : goal.returns-clause-next
returns-clause-next c =
    let fields = c.self.inside in
    let given = fields.given.items in
    let table = fields.table in
    first-due fields.last given table fields.order c.args.self.now c.args.now c.args.resend c.in-Some.place
    c.in-Some.due c.self.view_is c.self.invariant c.in-Some.ensures.listed c.in-Some.ensures.inside
    c.in-Some.ensures.first (omega (arith, c.if-due-now.false, c.if-now-due.false))

pub returns-clause-in_range : goal.returns-clause-in_range
returns-clause-in_range c =
    let fields = c.self.inside in
    let given = fields.given.items in
    let table = fields.table in
    let kept = c.self.invariant in
    let due = c.in-Some.due in
    let first = c.in-Some.ensures in
    let written = listed-slot given table fields.order c.in-Some.place due kept first.listed first.inside in
    let new : TableState = with_change table due.node due.slot (as_retransmitted c.args.now) in
    let long : total_of table.counts ≡ length new.slots =
    kept.whole ∙ sym (length-update table.slots (place_of table due.node due.slot) (as_retransmitted c.args.now)) in
    subst (λ (u : TableState). due.slot < slot_count (credits_view fields.last given u) due.node)
    (sym c.send_again.ensures) (omega (arith, written.3, count-is fields.last given new due.node kept.nodes long))

pub returns-clause-sent : goal.returns-clause-sent
returns-clause-sent c =
    let fields = c.self.inside in
    let given = fields.given.items in
    let table = fields.table in
    let due = c.in-Some.due in
    let first = c.in-Some.ensures in
    let written = listed-slot given table fields.order c.in-Some.place due c.self.invariant first.listed first.inside in
    ap (credits_view fields.last given) c.send_again.ensures
    ∙ (changed-is fields.last given table due.node due.slot (as_retransmitted c.args.now) written.3
    ∙ ap (λ (u : SlotsState). with_slot_changed u due.node due.slot (as_retransmitted c.args.now)) c.self.view_is)
