use Rattle.std.proofs.Common.{◌≡◌, List, length, sym, subst, arith}
use Rattle.std.proofs.lemmas.List.{length-take-le}
use Rattle.spec_node.specs.declared.answer.SlotRef.{SlotRef}
use Rattle.proc_machine.proofs.outgoing.Outgoing.count.Goals as goal

pub returns-clause-count : goal.returns-clause-count
returns-clause-count c =
    let it = c.self.inside in
    subst (λ (slots : List SlotRef). it.count ≡ length slots) c.self.view_is
    (sym (length-take-le it.count it.slots (omega (arith, c.self.invariant.0, c.self.invariant.1))))
