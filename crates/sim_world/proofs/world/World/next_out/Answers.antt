use Rattle.std.proofs.Common.{◌≡◌, inl, inr, subst, arith}
use Rattle.std.proofs.lemmas.Bool.{cases_lt}
use Rattle.sim_world.specs.Settling.{AreBack}
use Rattle.sim_world.proofs.Turns.{are_back}
use Rattle.sim_world.proofs.world.World.next_out.Goals as goal

pub loop-other-preserved : goal.loop-other-preserved
loop-other-preserved c = record {
  first = omega (arith, c.loop-other.invariant.first);
  back = λ w most stands k low high. elim (cases_lt k c.loop-other.other) [
    | inl less ↦ c.loop-other.invariant.back w most stands k low less
    | inr past ↦ (
        let here : c.loop-other.other ≡ k = omega (arith, past, high) in
        subst (λ n. AreBack ((w c.args.from).asked n)) here
        (are_back w c.args.from c.loop-other.other c.first_out.result c.accepted.result
        (c.first_out.ensures.out w most stands) (c.accepted.ensures w most stands)
        (omega (arith, c.if-first_out-accepted.false))))
  ];
}

pub returns-clause-back : goal.returns-clause-back
returns-clause-back c = λ w most stands k low high.
    c.loop-other.invariant.back w most stands k low
    (omega (arith, high, c.loop-other-test.false, c.nodes.ensures, c.nodes-other-end.ensures, c.loop-other.auto.other-end))
