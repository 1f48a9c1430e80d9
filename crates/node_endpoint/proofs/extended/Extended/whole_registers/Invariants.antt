use Rattle.std.proofs.Common.{◌≡◌, ◌≤◌, List, length, take}
use Rattle.part_transfers.specs.Operation.{Operation}
use Rattle.part_transfers.specs.Stands.{Stands}
use Rattle.node_rules.specs.TransferCalls.{whole_registers}
use Rattle.node_endpoint.proofs.extended.Extended.whole_registers.Given as goal

abbrev pub invariant-loop-reg : goal.invariant-loop-reg
invariant-loop-reg l = record {
  few : length l.whole.items ≤ l.reg-index;
  done : (operations : List Operation) → Stands l.self.transfers operations
      → l.whole.items ≡ whole_registers operations l.self.registers (take l.reg-index l.regs);
}
