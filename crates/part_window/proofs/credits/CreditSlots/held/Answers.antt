use Rattle.std.proofs.Common.{ap, sym, ◌∙◌}
use Rattle.part_window.specs.SlotsState.{held_count}
use Rattle.part_window.proofs.CreditsViewed.{held-is}
use Rattle.part_window.proofs.credits.CreditSlots.held.Goals as goal

pub returns-clause-count : goal.returns-clause-count
returns-clause-count c =
    let fields = c.self.inside in
    let given = fields.given.items in
    let table = fields.table in
    c.held.ensures.count
    ∙ (sym (held-is fields.last given table c.self.invariant.nodes c.self.invariant.whole)
    ∙ ap held_count c.self.view_is)
