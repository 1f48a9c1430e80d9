use Rattle.std.proofs.Common.{◌≡◌, take, bytes_eq}
use Rattle.proc_seal.proofs.key.are_same.Given as goal

abbrev pub invariant-loop-i : goal.invariant-loop-i
invariant-loop-i l = record {
  same : l.same ≡ bytes_eq (take l.i l.one) (take l.i l.other);
}
