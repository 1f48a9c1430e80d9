use Rattle.std.proofs.Common.{Some, None, refl, arith}
use Rattle.part_window.proofs.Placed.{placed-none, parts-none}
use Rattle.part_window.proofs.block.Block.new.Goals as goal

pub invariant_of-result : goal.invariant_of-result
invariant_of-result c =
    rw c.new-then-parts-eq0.ensures.len (placed-none 0 _ _ c.new.ensures.items (omega arith) (omega arith))

pub invariant_of-result-2 : goal.invariant_of-result-2
invariant_of-result-2 c =
    rw c.in_ok-filled.ensures.len
    (placed-none c.args.parts _ _
    (c.in_ok-places.ensures.items_if_clones_equal (elim [ None ↦ λ _. refl | Some y ↦ λ h. absurd h ]))
    (rw c.in_ok-filled.ensures.exact (omega arith)) c.requires)

pub returns-clause-zeros : goal.returns-clause-zeros
returns-clause-zeros c =
    parts-none _ _ c.args.parts _
    (c.in_ok-places.ensures.items_if_clones_equal (elim [ None ↦ λ _. refl | Some y ↦ λ h. absurd h ]))
