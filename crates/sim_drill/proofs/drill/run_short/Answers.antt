use Rattle.std.proofs.Common.{◌<◌, ◌%◌, ◌^◌, lit<, sym, subst, arith, w32}
use Rattle.std.proofs.Math.Nat.{mod-lt}
use Rattle.std.proofs.lemmas.Int.{to_z_pos}
use mir.Val.{hbits}
use Rattle.wire_message.specs.Parameters.{Parameters}
use Rattle.sim_drill.proofs.drill.run_short.Goals as goal

pub run_event-requires-clause-among : goal.run_event-requires-clause-among
run_event-requires-clause-among c =
    subst (λ (s : Parameters). c.args.round.from < s.nodes) (sym c.requires.drilled.settings) c.requires.from

pub run_event-requires-clause-called : goal.run_event-requires-clause-called
run_event-requires-clause-called c =
    subst (λ (s : Parameters). 0 < s.threads) (sym c.requires.drilled.settings) (lit< tt)

pub returns-clause-runs : goal.returns-clause-runs
returns-clause-runs c =
    let least : c.args.round.rest % 1000 < 1000 = mod-lt c.args.round.rest (omega arith) in
    let small : c.args.round.rest % 1000 < 2 ^ hbits w32 = omega (arith, least) in
    rw (to_z_pos w32 (c.args.round.rest % 1000) small) at c.run_event.ensures.runs
