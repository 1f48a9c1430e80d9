use Rattle.std.proofs.Common.{◌≡◌, map, bit_xor, take, length}
use Rattle.proc_seal.proofs.hmac.turned.Given as goal

abbrev pub invariant-loop-i : goal.invariant-loop-i
invariant-loop-i l = record {
  done : take l.i l.all ≡ map (λ b. bit_xor b l.bits) (take l.i l.block);
  room : length l.all ≡ 64;
}
