use Rattle.std.proofs.Common.{ℕ, ◌≡◌, List, [], ◌∷◌, length, not, nat_eq, refl, ap, ◌∙◌}
use Rattle.std.proofs.Math.Dec.{eqb-suc-zero}
use Rattle.law_traces.specs.Turn.{is_some_there}
use Rattle.spec_node.specs.declared.answer.SlotRef.{SlotRef}
use Rattle.proc_machine.proofs.outgoing.Outgoing.is_any.Goals as goal

some_there : (slots : List SlotRef) → not (nat_eq (length slots) 0) ≡ is_some_there slots
some_there [] = refl
some_there (slot ∷ slots) = ap not (eqb-suc-zero (length slots))

pub returns : goal.returns
returns c =
    ap (λ (count : ℕ). not (nat_eq count 0)) c.count.ensures.count ∙ some_there c.args.self.now
