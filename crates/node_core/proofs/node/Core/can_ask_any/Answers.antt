use Rattle.std.proofs.Common.{◌≡◌, false, inl, inr, refl, sym, ap, ◌∙◌, subst, arith}
use Rattle.std.proofs.lemmas.Bool.{cases_lt, cases_eq, le-ltb}
use Rattle.node_core.specs.CoreState.{CoreState}
use Rattle.node_core.specs.Known.{CanAsk}
use Rattle.node_core.proofs.node.Core.can_ask_any.Goals as goal

pub loop-to-init : goal.loop-to-init
loop-to-init c other low = absurd (omega (arith, low))

pub loop-to-preserved : goal.loop-to-preserved
loop-to-preserved c other low = elim (cases_eq other c.loop-to.to) [
  | inl same ↦ subst (λ to. CanAsk c.args.self.now to false) (sym same)
      (λ behaviour node S. sym c.if-can_ask.false ∙ c.can_ask.ensures behaviour node S)
  | inr apart ↦ c.loop-to.invariant other (omega (arith, low, apart))
]

pub returns : goal.returns
returns c is to = elim (cases_lt to c.args.self.now.settings.nodes) [
  | inl low ↦ (
      let past = c.loop-to-test.false in
      let same = ap (λ (core : CoreState). core.settings.nodes) c.self.view_is in
      c.loop-to.invariant to (omega (arith, low, past, c.nodes-to-end.ensures, same)))
  | inr high ↦ (λ behaviour node S. sym (rw (le-ltb to c.args.self.now.settings.nodes high) refl))
]
