-- How a drill ends.
use Rattle.std.specs.Prelude.{ℕ}
use Rattle.base_io.specs.Buffered.{Outbox}
use Rattle.sim_run.specs.RunEnds.{EndsSaying}
use Rattle.sim_run.specs.declared.run.RunEnd.{RunEnd}
use Rattle.sim_drill.specs.Rounds.{drill_job}
use Rattle.sim_drill.specs.Summary.{drill_lines}

-- how far its lines went in: all, and the world stands for the end of its run; at a fault of the sink, a prefix of
-- their text; where memory ran out, some whole lines
abbrev pub DrillEnds : (seed : ℕ) → (old new : Outbox) → RunEnd → Type 0
DrillEnds seed = EndsSaying (drill_job seed) (drill_lines seed)
