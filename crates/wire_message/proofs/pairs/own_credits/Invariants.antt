use Rattle.std.proofs.Common.{◌≡◌, drop}
use Rattle.wire_message.specs.Parameters.{own_credits}
use Rattle.wire_message.proofs.pairs.own_credits.Given as goal

abbrev pub invariant-loop-pair : goal.invariant-loop-pair
invariant-loop-pair l = own_credits l.pairs l.from l.to ≡ own_credits (drop l.pair-index l.pairs) l.from l.to
