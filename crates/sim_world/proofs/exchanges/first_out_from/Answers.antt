use Rattle.std.proofs.Common.{arith}
use Rattle.sim_world.proofs.Prefixes.{prefix_within, prefix_next, prefix_ends}
use Rattle.sim_world.proofs.exchanges.first_out_from.Goals as goal

pub returns-then-not-list-place : goal.returns-then-not-list-place
returns-then-not-list-place c =
    omega (arith, prefix_ends c.args.list.now c.loop-place.place _ c.loop-place.invariant c.if-not-list-place.true)

pub loop-place-preserved : goal.loop-place-preserved
loop-place-preserved c =
    prefix_next c.args.list.now c.loop-place.place _ c.loop-place-test.true c.loop-place.invariant
    c.if-not-list-place.false

pub returns : goal.returns
returns c = omega (arith, prefix_within c.args.list.now)
