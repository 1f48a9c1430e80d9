use Rattle.std.proofs.Common.{◌≡◌, ◌-◌, ◌*◌, drop, length}
use Rattle.node_atomics.specs.BatchRequests.{ops_in}
use Rattle.node_atomics.proofs.Reading.{behind}
use Rattle.node_atomics.proofs.request.ops_said.Given as goal

-- what is read in all is what was read so far, and then the rest
abbrev pub invariant-loop-k : goal.invariant-loop-k
invariant-loop-k l = record {
  read : length l.ops.items ≡ l.k;
  rest : ops_in l.count l.payload ≡ behind l.ops.items (ops_in (l.count - l.k) (drop (32 * l.k) l.payload));
}
