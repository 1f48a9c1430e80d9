use Rattle.std.proofs.Common.{◌≡◌, ◌<◌, Some}
use Rattle.std.proofs.Common.{length, ap, sym, ◌∙◌, arith}
use Rattle.std.specs.Prelude.{slice_get}
use Rattle.base_lists.proofs.Indexes.{read-at}
use Rattle.part_window.specs.SlotsState.{SlotsState}
use Rattle.part_window.specs.SlotsState.{is_exhausted}
use Rattle.part_window.proofs.CreditsViewed.{exhausted-is, node-range}
use Rattle.part_window.proofs.credits.CreditSlots.exhausted.Goals as goal

pub index-requires : goal.index-requires
index-requires c =
    let fields = c.self.inside in
    let table = fields.table in
    let inside : c.args.to < length table.counts = node-range c.args.to c.self.invariant c.self.view_is c.requires in
    omega (arith, inside, c.self.invariant.nodes, fields.given.ok.0)

pub returns : goal.returns
returns c =
    let fields = c.self.inside in
    let given = fields.given.items in
    let table = fields.table in
    let kept = c.self.invariant in
    let to = c.args.to in
    let inside : to < length table.counts = node-range to kept c.self.view_is c.requires in
    let at : slice_get given to ≡ Some c.index.result.now =
    read-at given to c.index.result.now (omega (arith, inside, kept.nodes)) c.index.ensures in
    sym (exhausted-is fields.last given table to c.index.result.now kept.nodes at)
    ∙ ap (λ (u : SlotsState). is_exhausted u to) c.self.view_is
