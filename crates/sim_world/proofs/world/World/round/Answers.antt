use Rattle.std.specs.Prelude.{ℕ, Result, Ok, Err, OnOk}
use Rattle.std.specs.declared.alloc.AllocError.{AllocError}
use Rattle.sim_world.specs.Events.{job_in}
use Rattle.sim_world.specs.WorldState.{WorldState}
use Rattle.sim_world.specs.Settling.{WorldJob, Moves, tick_events, pair_events, round_events}
use Rattle.sim_world.proofs.Moving.{same_job, moves_then}
use Rattle.sim_world.proofs.world.World.round.Goals as goal

-- the ticks, and then the turns
ticks_then : (job : WorldJob) (now : ℕ) (old mid new : WorldState) (result : Result (Unit {0}) AllocError)
    → Moves job (tick_events job now) old mid → OnOk result (Moves job (pair_events job now) mid new)
    → OnOk result (Moves job (round_events job now) old new)
ticks_then job now old mid new (Ok done) ticks turns =
    moves_then job (tick_events job now) (pair_events job now) old mid new ticks turns
ticks_then job now old mid new (Err error) ticks turns = tt

pub returns-clause-moves : goal.returns-clause-moves
returns-clause-moves g c =
    let meaning = g.H.Handlers.meaning c.args.handlers.now in
    let old = c.args.self.now in
    let mid = c.ticks.new.self in
    ticks_then (job_in meaning old) c.args.now old mid c.pairs.new.self c.pairs.result c.in_ok-ticks.ensures.moves
    (same_job (λ j. OnOk c.pairs.result (Moves j (pair_events j c.args.now) mid c.pairs.new.self)) meaning old mid
    c.ticks.ensures.settings c.ticks.ensures.table c.pairs.ensures.moves)
