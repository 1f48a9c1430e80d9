use Rattle.std.proofs.Common.{◌<◌}
use Rattle.std.proofs.Common.{length, ap, sym, ◌∙◌}
use Rattle.part_window.specs.SlotsState.{SlotsState}
use Rattle.part_window.specs.SlotsState.{vacant_count}
use Rattle.part_window.proofs.CreditsViewed.{vacant-is, node-range}
use Rattle.part_window.proofs.credits.CreditSlots.free.Goals as goal

pub free-requires : goal.free-requires
free-requires c =
    node-range c.args.to c.self.invariant c.self.view_is c.requires

pub returns : goal.returns
returns c =
    let fields = c.self.inside in
    let given = fields.given.items in
    let table = fields.table in
    let to = c.args.to in
    let inside : to < length table.counts = node-range to c.self.invariant c.self.view_is c.requires in
    c.free.ensures
    ∙ (sym (vacant-is fields.last given table to c.self.invariant.nodes inside)
    ∙ ap (λ (u : SlotsState). vacant_count u to) c.self.view_is)
