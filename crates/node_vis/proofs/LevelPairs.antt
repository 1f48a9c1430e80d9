-- Pairs behind others, level by level.
use Rattle.std.proofs.Common.{◌≡◌, inl, inr, ℕ, zero, suc, ◌+◌, ◌*◌, ◌≤◌, List, [], ◌∷◌, ◌++◌, length, Ok, Err, sym, subst, ap, ap₂, ◌∙◌}
use Rattle.std.proofs.Common.{arith, add-one, append_assoc}
use Rattle.std.specs.Prelude.{◌<◌, IfOk, IfErr, Result}
use Rattle.std.proofs.lemmas.Bool.{cases_lt}
use Rattle.std.proofs.lemmas.List.{append-nil, nil_from_length}
use Rattle.node_vis.specs.declared.shapes.Level.{Level}
use Rattle.node_vis.specs.declared.shapes.Piece.{Piece}
use Rattle.node_vis.specs.declared.shapes.PlanFault.{PlanFault}
use Rattle.node_vis.specs.declared.runs.Run.{Run}
use Rattle.node_vis.specs.Pairs.{Pair, joined_lists, pairs_from, level_pairs}
use Rattle.node_vis.specs.Pieces.{pieces_of, with_run}
use Rattle.node_vis.specs.Runs.{AddsAll, Adds, IsFull, piece_in}
use Rattle.node_vis.proofs.Counting.{at_index}
use Rattle.node_vis.proofs.Cutting.{with_run_is}
use Rattle.node_vis.proofs.Growing.{full_more}

-- nothing came
pub adds_none : (pieces : List Piece) → Adds pieces [] pieces
adds_none pieces pairs is = is ∙ ap pieces_of (sym (append-nil pairs))

-- first these, and then those
pub adds_more : (old between new : List Piece) (first second : List Pair) → Adds old first between
    → Adds between second new → Adds old (first ++ second) new
adds_more old between new first second one other pairs is =
    other (pairs ++ first) (one pairs is) ∙ ap pieces_of (append_assoc pairs first second)

-- a run came
pub adds_run : (old new : List Piece) (run : Run) → new ≡ with_run old (piece_in run)
    → Adds old (pairs_from run.remote run.local run.len) new
adds_run old new run is pairs were = is ∙ ap (λ o. with_run o (piece_in run)) were ∙ with_run_is pairs (piece_in run)

-- or there was no room for it
pub full_run : (old : List Piece) (run : Run) (why : PlanFault) → IsFull (length (with_run old (piece_in run))) why
    → (pairs : List Pair) → old ≡ pieces_of pairs
    → IsFull (length (pieces_of (pairs ++ pairs_from run.remote run.local run.len))) why
full_run old run why full pairs were =
    subst (λ ps. IsFull (length ps) why) (ap (λ o. with_run o (piece_in run)) were ∙ with_run_is pairs (piece_in run)) full

-- it is all, where no level is left
pub only_run : (result : Result (Unit {0}) PlanFault) (old new : List Piece) (levels : List Level) (run : Run)
    → length levels ≡ 0 → IfOk result (λ _. new ≡ with_run old (piece_in run))
    → IfErr result (IsFull (length (with_run old (piece_in run))))
    → AddsAll old (level_pairs levels run.remote run.local run.len) result new
only_run (Ok done) old new levels run none is full =
    let P : List Level → Type 0 = λ ls. Adds old (level_pairs ls run.remote run.local run.len) new in
    subst P (sym (nil_from_length levels none)) (adds_run old new run is)
only_run (Err why) old new levels run none is full =
    let P : List Level → Type 0 = λ ls.
    (pairs : List Pair) → old ≡ pieces_of pairs
    → IsFull (length (pieces_of (pairs ++ level_pairs ls run.remote run.local run.len))) why in
    subst P (sym (nil_from_length levels none)) (full_run old run why full)

-- those of one index more
pub adds_index : (old between new : List Piece) (level : Level) (deeper : List Level) (remote local len index : ℕ)
    → Adds old (joined_lists (at_index level deeper remote local len) index) between
    → Adds between (at_index level deeper remote local len index) new
    → Adds old (joined_lists (at_index level deeper remote local len) (index + 1)) new
adds_index old between new level deeper remote local len index one other =
    rw add-one (adds_more old between new (joined_lists (at_index level deeper remote local len) index)
    (at_index level deeper remote local len index) one other)

-- those of all
pub adds_all : (old new : List Piece) (levels : List Level) (level : Level) (deeper : List Level)
    (remote local len index : ℕ) → levels ≡ level ∷ deeper → level.count ≤ index → index ≤ level.count
    → Adds old (joined_lists (at_index level deeper remote local len) index) new
    → Adds old (level_pairs levels remote local len) new
adds_all old new levels level deeper remote local len index is most least adds =
    let same : index ≡ level.count = omega (arith, most, least) in
    let P : List Level → Type 0 = λ ls. Adds old (level_pairs ls remote local len) new in
    let Q : ℕ → Type 0 = λ n. Adds old (joined_lists (at_index level deeper remote local len) n) new in
    subst P (sym is) (subst Q same adds)

-- the pairs of one index, by the numbers of the code
pub adds_at : (between new : List Piece) (level : Level) (deeper : List Level) (remote local len index : ℕ)
    (far_index far near_index near : ℕ) → far_index ≡ index → far ≡ level.remote → near_index ≡ index
    → near ≡ level.local
    → Adds between (level_pairs deeper (remote + far_index * far) (local + near_index * near) len) new
    → Adds between (at_index level deeper remote local len index) new
adds_at between new level deeper remote local len index far_index far near_index near one two three four adds =
    let P : ℕ → ℕ → Type 0 = λ r l. Adds between (level_pairs deeper (remote + r) (local + l) len) new in
    subst (λ r. P r (index * level.local)) (ap₂ (λ i s. i * s) one two)
    (subst (λ l. P (far_index * far) l) (ap₂ (λ i s. i * s) three four) adds)

-- ---- too many

-- lists up to one of them, and the others
joined_parts : (list : ℕ → List Pair) (index count : ℕ) → index < count
    → (rest : List Pair) × (joined_lists list count ≡ (joined_lists list index ++ list index) ++ rest)
joined_parts list index zero below = absurd (omega (arith, below))
joined_parts list index (suc count) below = elim (cases_lt index count) [
  | inl before ↦ (
      let parts = joined_parts list index count before in (
        parts.0 ++ list count,
        ap (λ ps. ps ++ list count) parts.1
            ∙ append_assoc (joined_lists list index ++ list index) parts.0 (list count),
      ))
  | inr after ↦ (
      let same : count ≡ index = omega (arith, below, after) in
      ([], ap (λ n. joined_lists list n ++ list n) same ∙ sym (append-nil (joined_lists list index ++ list index))))
]

-- where those of one index are too many, all are
pub full_index : (old between : List Piece) (levels : List Level) (level : Level) (deeper : List Level)
    (remote local len index : ℕ) (why : PlanFault) → levels ≡ level ∷ deeper → index < level.count
    → Adds old (joined_lists (at_index level deeper remote local len) index) between
    → ((pairs : List Pair) → between ≡ pieces_of pairs
    → IsFull (length (pieces_of (pairs ++ at_index level deeper remote local len index))) why)
    → (pairs : List Pair) → old ≡ pieces_of pairs
    → IsFull (length (pieces_of (pairs ++ level_pairs levels remote local len))) why
full_index old between levels level deeper remote local len index why is below adds full pairs were =
    let list = at_index level deeper remote local len in
    let parts = joined_parts list index level.count below in
    let here = full (pairs ++ joined_lists list index) (adds pairs were) in
    let all :
    ((pairs ++ joined_lists list index) ++ list index) ++ parts.0 ≡ pairs ++ level_pairs levels remote local len
    = ap (λ ps. ps ++ parts.0) (append_assoc pairs (joined_lists list index) (list index))
    ∙ append_assoc pairs (joined_lists list index ++ list index) parts.0 ∙ ap (λ ps. pairs ++ ps) (sym parts.1)
    ∙ ap (λ ls. pairs ++ level_pairs ls remote local len) (sym is) in
    subst (λ ps. IsFull (length (pieces_of ps)) why) all
    (full_more ((pairs ++ joined_lists list index) ++ list index) parts.0 why here)

-- by the numbers of the code
pub full_at : (between : List Piece) (level : Level) (deeper : List Level) (remote local len index : ℕ)
    (far_index far near_index near : ℕ) (why : PlanFault) → far_index ≡ index → far ≡ level.remote → near_index ≡ index
    → near ≡ level.local
    → ((pairs : List Pair) → between ≡ pieces_of pairs → IsFull (length (pieces_of (pairs
    ++ level_pairs deeper (remote + far_index * far) (local + near_index * near) len))) why)
    → (pairs : List Pair) → between ≡ pieces_of pairs
    → IsFull (length (pieces_of (pairs ++ at_index level deeper remote local len index))) why
full_at between level deeper remote local len index far_index far near_index near why one two three four full =
    let P : ℕ → ℕ → Type 0 = λ r l. (pairs : List Pair) → between ≡ pieces_of pairs
    → IsFull (length (pieces_of (pairs ++ level_pairs deeper (remote + r) (local + l) len))) why in
    subst (λ r. P r (index * level.local)) (ap₂ (λ i s. i * s) one two)
    (subst (λ l. P (far_index * far) l) (ap₂ (λ i s. i * s) three four) full)
