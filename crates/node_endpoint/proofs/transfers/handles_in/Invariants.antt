use Rattle.std.proofs.Common.{◌≡◌, length, take}
use Rattle.std.specs.Prelude.{map}
use Rattle.node_rules.specs.TransferCalls.{handle_in}
use Rattle.node_endpoint.proofs.transfers.handles_in.Given as goal

abbrev pub invariant-loop-place : goal.invariant-loop-place
invariant-loop-place l = record {
  many : length l.handles ≡ 256;
  done : take l.place l.handles ≡ map (handle_in l.registers) (take l.place l.regs);
}
