use Rattle.std.proofs.Common.{◌∙◌, arith, inl, inr}
use Rattle.proc_runner.proofs.held.Held.turn.Goals as goal

pub invariant_of-self : goal.invariant_of-self
invariant_of-self g c = (
  elim c.turn-end.ensures.count [
    | inl same ↦ omega (
      arith,
      same,
      c.count-before.ensures,
      c.count.ensures,
      c.if-count-before.true,
      c.add.ensures.total,
      c.self.invariant.0,
    )
    | inr more ↦ omega
        (arith, more, c.add.ensures.total, c.self.invariant.0)
  ],
  c.turn-end.ensures.threads ∙ c.self.invariant.1,
  λ x e. let had = c.self.invariant.2 x e in let k = c.turn-end.ensures.facts x had.0 had.1 in (k.0, k.2),
)

pub invariant_of-self-else-count-before : goal.invariant_of-self-else-count-before
invariant_of-self-else-count-before g c = (
  elim c.turn-end.ensures.count [
    | inl same ↦ omega (arith, same, c.self.invariant.0)
    | inr more ↦ omega
        (arith, more, c.count-before.ensures, c.count.ensures, c.if-count-before.false, c.self.invariant.0)
  ],
  c.turn-end.ensures.threads ∙ c.self.invariant.1,
  λ x e. let had = c.self.invariant.2 x e in let k = c.turn-end.ensures.facts x had.0 had.1 in (k.0, k.2),
)

pub returns-then-count-before-clause-turn : goal.returns-then-count-before-clause-turn
returns-then-count-before-clause-turn g c =
    let e = c.turn-end.ensures in
    rw (← c.self.view_is) (record { again = e.again; spent = e.spent; full = e.full; goes = e.goes })

pub returns-else-count-before-clause-turn : goal.returns-else-count-before-clause-turn
returns-else-count-before-clause-turn g c =
    let e = c.turn-end.ensures in
    rw (← c.self.view_is) (record { again = e.again; spent = e.spent; full = e.full; goes = e.goes })
