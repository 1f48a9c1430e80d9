-- Pairs of bytes, cut into pieces.
-- Origin: this project's profile.
use Rattle.std.specs.Prelude.{ℕ, suc, ◌≡◌, ◌+◌, ◌<◌, ◌==◌, Bool, false, ◌&&◌, if◌then◌else◌, List, [], ◌∷◌, ◌++◌}
use Rattle.node_vis.specs.declared.shapes.Piece.{Piece}
use Rattle.node_vis.specs.Pairs.{Pair, pairs_from}

abbrev pub piece : (remote local len : ℕ) → Piece
piece remote local len = record { remote = remote; local = local; len = len }

-- the pairs of a piece
abbrev pub pairs_in : Piece → List Pair
pairs_in piece = pairs_from piece.remote piece.local piece.len

-- those of pieces, in their order
abbrev pub pairs_of_pieces : List Piece → List Pair
pairs_of_pieces [] = []
pairs_of_pieces (piece ∷ pieces) = pairs_in piece ++ pairs_of_pieces pieces

-- no piece is empty
abbrev pub AreFilled : List Piece → Type 0
AreFilled [] = Unit {0}
AreFilled (piece ∷ pieces) = (0 < piece.len) × AreFilled pieces

-- the second piece begins on both sides where the first one ends
abbrev pub continues : (first second : Piece) → Bool
continues first second =
    (second.remote == first.remote + first.len) && (second.local == first.local + first.len)

-- the piece isn't continued by the first one of these
abbrev pub IsApart : Piece → List Piece → Type 0
IsApart first [] = Unit {0}
IsApart first (second ∷ pieces) = continues first second ≡ false

-- no piece is continued by the next one
abbrev pub AreUnjoined : List Piece → Type 0
AreUnjoined [] = Unit {0}
AreUnjoined (piece ∷ pieces) = IsApart piece pieces × AreUnjoined pieces

-- the pieces have these pairs, in order; none is empty, and none continues the one before it on both sides
pub record IsCut (pieces : List Piece) (pairs : List Pair) : Type 0 where
  pub spells : pairs_of_pieces pieces ≡ pairs
  pub filled : AreFilled pieces
  pub apart : AreUnjoined pieces

-- ---- the one cut of pairs

-- a pair in front of pieces: where the first of them continues it they become one, else it is a piece of its own
abbrev pub begun_by : Pair → List Piece → List Piece
begun_by pair [] = piece pair.remote pair.local 1 ∷ []
begun_by pair (first ∷ pieces) =
    if continues (piece pair.remote pair.local 1) first
    then piece pair.remote pair.local (suc first.len) ∷ pieces
    else piece pair.remote pair.local 1 ∷ first ∷ pieces

-- the pieces of pairs: no other list is a cut of them
abbrev pub pieces_of : List Pair → List Piece
pieces_of [] = []
pieces_of (pair ∷ pairs) = begun_by pair (pieces_of pairs)

-- a run that isn't empty, behind pieces: where it continues the last of them they become one
abbrev pub with_filled : List Piece → Piece → List Piece
with_filled [] run = run ∷ []
with_filled (last ∷ []) run =
    if continues last run then piece last.remote last.local (last.len + run.len) ∷ [] else last ∷ run ∷ []
with_filled (first ∷ second ∷ pieces) run = first ∷ with_filled (second ∷ pieces) run

-- any run
abbrev pub with_run : List Piece → Piece → List Piece
with_run pieces run = if run.len == 0 then pieces else with_filled pieces run
