use Rattle.std.proofs.Common.{ap, sym, ◌∙◌, subst, refl, arith, length-set}
use Rattle.std.specs.Prelude.{slice_set}
use Rattle.part_window.specs.TableState.{TableState}
use Rattle.part_window.specs.SlotsState.{Vacant, Opened, SlotsState}
use Rattle.part_window.specs.SlotsState.{with_given}
use Rattle.part_window.specs.CreditViews.{credits_view, IsCredits}
use Rattle.base_lists.proofs.Cut.{count-inside}
use Rattle.part_window.proofs.CreditsViewed.{seen-there}
use Rattle.part_window.proofs.CreditsViewed.{given-is, credits-after}
use Rattle.part_window.proofs.credits.CreditSlots.open.Goals as goal

pub index_mut-requires : goal.index_mut-requires
index_mut-requires c =
    let fields = c.self.inside in
    let table = fields.table in
    let there = seen-there c.args.to c.args.slot Vacant c.self.invariant c.self.view_is c.requires in
    omega (arith, count-inside table.counts c.args.to c.args.slot there.0, c.self.invariant.nodes, fields.given.ok.0)

pub open-requires : goal.open-requires
open-requires c =
    let there = seen-there c.args.to c.args.slot Vacant c.self.invariant c.self.view_is c.requires in
    there.0

pub invariant_of-self : goal.invariant_of-self
invariant_of-self c =
    let fields = c.self.inside in
    let given = fields.given.items in
    let kept = c.self.invariant in
    let to = c.args.to in
    let there = seen-there to c.args.slot Vacant kept c.self.view_is c.requires in
    subst (λ (u : TableState). IsCredits (slice_set given to c.args.number) u fields.order) (sym c.open.ensures.opened)
    (credits-after (slice_set given to c.args.number) fields.order to c.args.slot Vacant
    (λ _. Opened c.args.number c.args.now c.open.ensures.buffer) kept (length-set given to c.args.number) there.1 refl
    (λ _ _. refl) (kept.matched _ Vacant there.1))

pub returns : goal.returns
returns c =
    let fields = c.self.inside in
    let given = fields.given.items in
    let table = fields.table in
    let to = c.args.to in
    let slot = c.args.slot in
    let there = seen-there to slot Vacant c.self.invariant c.self.view_is c.requires in
    record {
      buffer = c.open.ensures.buffer;
      whole = c.open.ensures.whole;
      opened = ap (credits_view fields.last (slice_set given to c.args.number)) c.open.ensures.opened
          ∙ (given-is fields.last given table to slot c.args.number
          (Opened c.args.number c.args.now c.open.ensures.buffer) there.0
          ∙ ap (λ (u : SlotsState). with_given u to slot c.args.number
          (Opened c.args.number c.args.now c.open.ensures.buffer)) c.self.view_is);
    }
