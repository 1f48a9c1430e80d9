-- The outputs of the nodes below this rank.
use Rattle.cli_check.proofs.Inputs.{ReadSoFar, place_of}
use Rattle.cli_check.proofs.input.outputs_from.Given as goal

abbrev pub invariant-loop-rank : goal.invariant-loop-rank
invariant-loop-rank l = record { so_far : ReadSoFar (place_of l.job l.bytes l.from) l.outputs.items l.rank l.at }
