use Rattle.std.specs.Prelude.{◌≡◌, take}
use Rattle.proc_linux.specs.Ends.{last_end}
use Rattle.proc_linux.proofs.child_ends.last_end.Given as goal

abbrev pub invariant-loop-end : goal.invariant-loop-end
invariant-loop-end l = l.last ≡ last_end l.rank (take l.end-index l.ends)
