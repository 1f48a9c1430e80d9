use Rattle.std.proofs.Common.{◌≡◌, ℕ, List, refl, sym, take, ◌++◌, ◌∷◌, [], get_or, add-one}
use Rattle.std.specs.Prelude.{slice_set}
use Rattle.std.proofs.Math.Seq.{take-suc}
use Rattle.part_transfers.specs.declared.operation.Handle.{Handle}
use Rattle.node_rules.specs.EndpointLocal.{invalid}
use Rattle.node_rules.specs.TransferCalls.{with_invalid}
use Rattle.node_endpoint.proofs.transfers.empty.Goals as goal

emptied-last : (first : List ℕ) (register : ℕ) (registers : List Handle)
    → with_invalid (first ++ register ∷ []) registers ≡ slice_set (with_invalid first registers) register invalid
emptied-last [] register registers = refl
emptied-last (one ∷ first) register registers = emptied-last first register (slice_set registers one invalid)

pub loop-reg-preserved : goal.loop-reg-preserved
loop-reg-preserved c =
    rw (add-one, take-suc c.args.regs.now c.loop-reg.reg-index 0 c.loop-reg-test.true)
    (rw c.loop-reg.invariant
    (sym (emptied-last (take c.loop-reg.reg-index c.args.regs.now)
    (get_or c.args.regs.now c.loop-reg.reg-index 0) c.args.registers.now)))
