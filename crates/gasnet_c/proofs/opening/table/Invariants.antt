use Rattle.gasnet_c.proofs.Registering.{ServesFirst}
use Rattle.gasnet_c.proofs.opening.table.Given as goal

abbrev pub invariant-loop-place : goal.invariant-loop-place
invariant-loop-place l = ServesFirst l.place l.table
