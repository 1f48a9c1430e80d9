-- More pairs have no fewer pieces.
use Rattle.std.proofs.Common.{inl, inr, ℕ, ◌≤◌, List, [], ◌∷◌, ◌++◌, length, ap}
use Rattle.std.proofs.Common.{arith, append_assoc}
use Rattle.std.proofs.lemmas.Bool.{cases_Bool}
use Rattle.std.proofs.lemmas.List.{append-nil}
use Rattle.node_vis.specs.declared.shapes.Piece.{Piece}
use Rattle.node_vis.specs.declared.shapes.PlanFault.{PlanFault}
use Rattle.node_vis.specs.Pairs.{Pair}
use Rattle.node_vis.specs.Pieces.{continues, piece, pieces_of, with_filled}
use Rattle.node_vis.specs.Runs.{IsFull}
use Rattle.node_vis.proofs.Cutting.{with_run_is}

-- a run behind pieces leaves no fewer
pub filled_grows : (pieces : List Piece) (run : Piece) → length pieces ≤ length (with_filled pieces run)
filled_grows [] run = omega arith
filled_grows (last ∷ []) run = elim (cases_Bool (continues last run)) [
  | inl on ↦ rw on (omega arith)
  | inr off ↦ rw off (omega arith)
]
filled_grows (first ∷ second ∷ pieces) run =
    let later = filled_grows (second ∷ pieces) run in omega (arith, later)

pub pairs_grow : (pairs more : List Pair) → length (pieces_of pairs) ≤ length (pieces_of (pairs ++ more))
pairs_grow pairs [] =
    let same = ap (λ ps. length (pieces_of ps)) (append-nil pairs) in omega (arith, same)
pairs_grow pairs (next ∷ more) =
    let one = filled_grows (pieces_of pairs) (piece next.remote next.local 1) in
    let is = ap length (with_run_is pairs (piece next.remote next.local 1)) in
    let later = pairs_grow (pairs ++ next ∷ []) more in
    let all = ap (λ ps. length (pieces_of ps)) (append_assoc pairs (next ∷ []) more) in
    omega (arith, one, is, later, all)

-- so where there are too many there still are
pub full_still : (few many : ℕ) (why : PlanFault) → few ≤ many → IsFull few why → IsFull many why
full_still few many why less full = λ other.
    let it = full other in (it.0, omega (arith, less, it.1))

pub full_more : (pairs more : List Pair) (why : PlanFault) → IsFull (length (pieces_of pairs)) why
    → IsFull (length (pieces_of (pairs ++ more))) why
full_more pairs more why full = full_still _ _ why (pairs_grow pairs more) full
