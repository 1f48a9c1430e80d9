use Rattle.std.proofs.Common.{◌≡◌, take}
use Rattle.node_rules.specs.TransferCalls.{with_invalid}
use Rattle.node_endpoint.proofs.transfers.empty.Given as goal

abbrev pub invariant-loop-reg : goal.invariant-loop-reg
invariant-loop-reg l = l.registers ≡ with_invalid (take l.reg-index l.regs) l.fn.registers
