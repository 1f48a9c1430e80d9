-- A run behind a list of runs.
use Rattle.std.proofs.Common.{◌≡◌, ℕ, zero, suc, ◌+◌, ◌-◌, ◌<◌, ◌≤◌, true, false, List, [], ◌∷◌, ◌++◌, length, get_or, set, refl}
use Rattle.std.proofs.Common.{ap, ◌∙◌, sym, ne_eqb, arith}
use Rattle.std.specs.Prelude.{◌==◌, map}
use Rattle.std.proofs.lemmas.List.{length-append, length-map, map-append}
use Rattle.node_vis.specs.declared.shapes.Piece.{Piece}
use Rattle.node_vis.specs.declared.runs.Run.{Run}
use Rattle.node_vis.specs.Pieces.{continues, with_filled, with_run}
use Rattle.node_vis.specs.Runs.{piece_in}

-- the last run with that behind it
abbrev pub joined_run : (last run : Run) → Run
joined_run last run = record { remote = last.remote; local = last.local; len = last.len + run.len }

-- a run that isn't empty
filled_is : (pieces : List Piece) (run : Piece) → (run.len ≡ 0 → ⊥) → with_run pieces run ≡ with_filled pieces run
filled_is pieces run some = let test : (run.len == 0) ≡ false = ne_eqb run.len 0 some in rw test refl

filled_joins : (runs : List Run) (last : ℕ) (none run : Run) → last + 1 ≡ length runs
    → continues (piece_in (get_or runs last none)) (piece_in run) ≡ true
    → map piece_in (set runs last (joined_run (get_or runs last none) run))
    ≡ with_filled (map piece_in runs) (piece_in run)
filled_joins [] last none run long on = absurd (omega (arith, long))
filled_joins (first ∷ []) zero none run long on = rw on refl
filled_joins (first ∷ []) (suc last) none run long on = absurd (omega (arith, long))
filled_joins (first ∷ second ∷ runs) zero none run long on = absurd (omega (arith, long))
filled_joins (first ∷ second ∷ runs) (suc last) none run long on =
    ap (λ ps. piece_in first ∷ ps) (filled_joins (second ∷ runs) last none run (omega (arith, long)) on)

-- it joins the last one
pub added_on : (runs new : List Run) (last : ℕ) (none run joined : Run) → last + 1 ≡ length runs
    → continues (piece_in (get_or runs last none)) (piece_in run) ≡ true → (run.len ≡ 0 → ⊥)
    → joined ≡ joined_run (get_or runs last none) run → new ≡ set runs last joined
    → map piece_in new ≡ with_run (map piece_in runs) (piece_in run)
added_on runs new last none run joined long on some join is =
    ap (map piece_in) is ∙ ap (λ r. map piece_in (set runs last r)) join ∙ filled_joins runs last none run long on
    ∙ sym (filled_is (map piece_in runs) (piece_in run) some)

-- the last of these runs, if there is one, isn't continued by the run
abbrev pub IsNoEnd : List Run → Run → Type 0
IsNoEnd runs run =
    (last : ℕ) → last + 1 ≡ length runs → (none : Run)
    → continues (piece_in (get_or runs last none)) (piece_in run) ≡ false

filled_behind : (runs : List Run) (run : Run) → IsNoEnd runs run
    → with_filled (map piece_in runs) (piece_in run) ≡ map piece_in runs ++ piece_in run ∷ []
filled_behind [] run off = refl
filled_behind (first ∷ []) run off = rw (off 0 (omega arith) run) refl
filled_behind (first ∷ second ∷ runs) run off =
    ap (λ ps. piece_in first ∷ ps) (filled_behind (second ∷ runs) run
    (λ last long none. off (suc last) (omega (arith, long)) none))

-- it comes behind them
pub added_behind : (runs new : List Run) (run : Run) → IsNoEnd runs run → (run.len ≡ 0 → ⊥) → new ≡ runs ++ run ∷ []
    → map piece_in new ≡ with_run (map piece_in runs) (piece_in run)
added_behind runs new run off some is =
    ap (map piece_in) is ∙ map-append piece_in runs (run ∷ []) ∙ sym (filled_behind runs run off)
    ∙ sym (filled_is (map piece_in runs) (piece_in run) some)

-- ---- by the numbers of the code

get_any : (runs : List Run) (place : ℕ) (one other : Run) → place < length runs → get_or runs place one ≡ get_or runs place other
get_any [] place one other inside = absurd (omega (arith, inside))
get_any (first ∷ runs) zero one other inside = refl
get_any (first ∷ runs) (suc place) one other inside = get_any runs place one other (omega (arith, inside))

pub no_end : (runs : List Run) (run at : Run) (len : ℕ) → len ≡ length runs → 0 < len → at ≡ get_or runs (len - 1) at
    → continues (piece_in at) (piece_in run) ≡ false → IsNoEnd runs run
no_end runs run at len is some here off = λ last long none.
    let same : last ≡ len - 1 = omega (arith, is, long) in
    let found : get_or runs last none ≡ at
    = ap (λ k. get_or runs k none) same ∙ get_any runs (len - 1) none at (omega (arith, is, some)) ∙ sym here in
    ap (λ r. continues (piece_in r) (piece_in run)) found ∙ off

pub no_end_of_none : (runs : List Run) (run : Run) (len : ℕ) → len ≡ length runs → len ≤ 0 → IsNoEnd runs run
no_end_of_none runs run len is none = λ last long other. absurd (omega (arith, is, none, long))

-- so it makes one piece more
pub one_more : (runs : List Run) (run : Run) → IsNoEnd runs run → (run.len ≡ 0 → ⊥)
    → length (with_run (map piece_in runs) (piece_in run)) ≡ length runs + 1
one_more runs run off some =
    ap length (filled_is (map piece_in runs) (piece_in run) some ∙ filled_behind runs run off)
    ∙ length-append (map piece_in runs) (piece_in run ∷ []) ∙ ap (λ n. n + 1) (length-map runs piece_in)
