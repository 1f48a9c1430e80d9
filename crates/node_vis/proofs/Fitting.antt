-- Pieces with which nothing is wrong fit the segments.
use Rattle.std.proofs.Common.{◌≡◌, ℕ, zero, suc, ◌<◌, ◌≤◌, Bool, true, false, List, [], ◌∷◌, length, refl, sym, subst, arith}
use Rattle.std.specs.Prelude.{nat_lt, ◌||◌, if◌then◌else◌, Option, None, Some, map, slice_index_or}
use Rattle.std.specs.List.{All, list_any}
use Rattle.std.proofs.lemmas.Bool.{ltb-false}
use Rattle.wire_message.specs.Parameters.{Parameters}
use Rattle.node_vis.specs.declared.shapes.Way.{Way}
use Rattle.node_vis.specs.declared.shapes.Piece.{Piece}
use Rattle.node_vis.specs.declared.shapes.PlanFault.{PlanFault}
use Rattle.node_vis.specs.declared.shapes.PlanFault.TheVariants as fault
use Rattle.node_vis.specs.declared.runs.Run.{Run}
use Rattle.node_vis.specs.Pieces.{IsCut, pairs_of_pieces}
use Rattle.node_vis.specs.Plans.{IsInside, IsPlan}
use Rattle.node_vis.specs.Runs.{ends_behind, piece_in, pieces_fault}

none_of : (test : Bool) (why : PlanFault) (rest : Option PlanFault) → (if test then Some why else rest) ≡ None
    → (test ≡ false) × (rest ≡ None)
none_of true why rest is = absurd (cc)
none_of false why rest is = (refl, is)

either : (a b : Bool) → (a || b) ≡ false → (a ≡ false) × (b ≡ false)
either true b is = absurd (cc)
either false b is = (refl, is)

any_none : (test : Piece → Bool) (xs : List Piece) → list_any test xs ≡ false → (k : ℕ) (d : Piece) → k < length xs
    → test (slice_index_or xs k d) ≡ false
any_none test [] none k d within = absurd (omega (arith, within))
any_none test (x ∷ xs) none zero d within = (either (test x) (list_any test xs) none).0
any_none test (x ∷ xs) none (suc k) d within =
    any_none test xs (either (test x) (list_any test xs) none).1 k d (omega (arith, within))

-- nothing is wrong: at most 1,024 pieces, each inside both segments
pub fitting : (settings : Parameters) (way : Way) (pieces : List Piece) → pieces_fault settings way pieces ≡ None
    → (length pieces ≤ 1024) × All (IsInside settings) pieces
fitting settings way pieces none =
    let far = λ (piece : Piece). ends_behind settings.segment piece.remote piece.len in
    let near = λ (piece : Piece). ends_behind settings.segment piece.local piece.len in
    let many = none_of (nat_lt 1024 (length pieces)) fault.Pieces _ none in
    let source = none_of (list_any near pieces) fault.Source _ many.1 in
    let offset = none_of (list_any far pieces) fault.Offset _ source.1 in (
      ltb-false 1024 (length pieces) many.0,
      λ k d within. (
        ltb-false settings.segment _ (any_none far pieces offset.0 k d within),
        ltb-false settings.segment _ (any_none near pieces source.0 k d within),
      ),
    )

-- what holds of pieces holds of those of the runs
pub of_runs : (P : Piece → Type 0) (runs : List Run) → All P (map piece_in runs) → All (λ run. P (piece_in run)) runs
of_runs P [] all k d within = absurd (omega (arith, within))
of_runs P (run ∷ runs) all zero d within = all 0 (piece_in run) (omega arith)
of_runs P (run ∷ runs) all (suc k) d within =
    of_runs P runs (λ i e inside. all (suc i) e (omega (arith, inside))) k d (omega (arith, within))

-- so it is where the runs are those of these pieces
pub inside_runs : (settings : Parameters) (runs : List Run) (pieces : List Piece) → map piece_in runs ≡ pieces
    → All (IsInside settings) pieces → All (λ run. IsInside settings (piece_in run)) runs
inside_runs settings runs pieces are all = of_runs (IsInside settings) runs (rw are all)

-- a cut with which nothing is wrong makes a plan
pub plan_of : (settings : Parameters) (way : Way) (to : ℕ) (pieces made : List Piece) → made ≡ pieces
    → to < settings.nodes → IsCut pieces (pairs_of_pieces pieces) → pieces_fault settings way pieces ≡ None
    → IsPlan (record { settings = settings; way = way; to = to; pieces = made })
plan_of settings way to pieces made same there cut none =
    let fits = fitting settings way pieces none in
    let P : List Piece → Type 0 = λ ps. IsPlan (record { settings = settings; way = way; to = to; pieces = ps }) in
    subst P (sym same) (record {
      there = there;
      few = fits.0;
      filled = cut.filled;
      apart = cut.apart;
      inside = fits.1;
    })
