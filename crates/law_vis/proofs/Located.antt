-- Where the pair of a number lies: in one piece, and there in one chunk.
use Rattle.std.proofs.Common.{◌≡◌, inl, inr, ℕ, zero, suc, ◌+◌, ◌-◌, ◌<◌, List, [], ◌∷◌, ◌++◌, length, Some, refl, sym}
use Rattle.std.proofs.Common.{subst, ap, ap₂, ◌∙◌, arith}
use Rattle.std.specs.List.{slice_get}
use Rattle.std.proofs.lemmas.Bool.{cases_lt}
use Rattle.std.proofs.lemmas.Option.{same_Some}
use Rattle.base_lists.proofs.Appended.{get-append_right}
use Rattle.base_lists.proofs.Indexes.{get-append_left}
use Rattle.law_transfers.specs.TransferLaws.{LiesIn, PiecesCover}
use Rattle.node_vis.specs.declared.shapes.Piece.{Piece}
use Rattle.node_vis.specs.Pairs.{Pair, pair, pairs_from}
use Rattle.node_vis.specs.Pieces.{pairs_in, pairs_of_pieces}
use Rattle.law_vis.specs.StridedLaws.{before, LiesAt}

pub length-pairs_from : (len remote local : ℕ) → length (pairs_from remote local len) ≡ len
length-pairs_from zero remote local = refl
length-pairs_from (suc len) remote local = ap suc (length-pairs_from len (suc remote) (suc local))

-- a pair of a run
pub get_pairs : (len remote local offset : ℕ) → offset < len
    → slice_get (pairs_from remote local len) offset ≡ Some (pair (remote + offset) (local + offset))
get_pairs zero remote local offset inside = absurd (omega (arith, inside))
get_pairs (suc len) remote local zero inside =
    let one : remote ≡ remote + 0 = omega arith in
    let two : local ≡ local + 0 = omega arith in
    ap₂ (λ r l. Some (pair r l)) one two
get_pairs (suc len) remote local (suc offset) inside =
    let one : suc remote + offset ≡ remote + suc offset = omega arith in
    let two : suc local + offset ≡ local + suc offset = omega arith in
    get_pairs len (suc remote) (suc local) offset (omega (arith, inside)) ∙ ap₂ (λ r l. Some (pair r l)) one two

-- the pair of this number lies in a piece
pub record InPiece (pieces : List Piece) (number : ℕ) (pair : Pair) : Type 0 where
  pub place : ℕ
  pub piece : Piece
  pub there : slice_get pieces place ≡ Some piece
  pub offset : ℕ
  pub inside : offset < piece.len
  pub number_is : number ≡ before pieces place + offset
  pub remote : pair.remote ≡ piece.remote + offset
  pub local : pair.local ≡ piece.local + offset

pub located : (pieces : List Piece) (number : ℕ) (one : Pair) → slice_get (pairs_of_pieces pieces) number ≡ Some one
    → InPiece pieces number one
located [] number one at = absurd (cc)
located (piece ∷ pieces) number one at = elim (cases_lt number piece.len) [
  | inl inside ↦ (
      let here : slice_get (pairs_in piece) number ≡ Some one
      = sym (get-append_left (pairs_in piece) (pairs_of_pieces pieces) number
      (omega (arith, inside, length-pairs_from piece.len piece.remote piece.local))) ∙ at in
      let same : pair (piece.remote + number) (piece.local + number) ≡ one
      = same_Some _ _ (sym (get_pairs piece.len piece.remote piece.local number inside) ∙ here) in
      record {
        place = 0;
        piece = piece;
        there = refl;
        offset = number;
        inside = inside;
        number_is = omega arith;
        remote = sym (ap (λ (p : Pair). p.remote) same);
        local = sym (ap (λ (p : Pair). p.local) same);
      })
  | inr past ↦ (
      let long = length-pairs_from piece.len piece.remote piece.local in
      let split : number ≡ length (pairs_in piece) + (number - piece.len) = omega (arith, past, long) in
      let rest : slice_get (pairs_of_pieces pieces) (number - piece.len) ≡ Some one
      = sym (get-append_right (pairs_in piece) (pairs_of_pieces pieces) (number - piece.len))
      ∙ ap (slice_get (pairs_in piece ++ pairs_of_pieces pieces)) (sym split) ∙ at in
      let later = located pieces (number - piece.len) one rest in
      record {
        place = suc later.place;
        piece = later.piece;
        there = later.there;
        offset = later.offset;
        inside = later.inside;
        number_is = omega (arith, later.number_is, past);
        remote = later.remote;
        local = later.local;
      })
]

-- and in no other
one_place : (pieces : List Piece) (place other : ℕ) (here there : Piece) (offset other_offset : ℕ)
    → slice_get pieces place ≡ Some here → slice_get pieces other ≡ Some there → offset < here.len
    → other_offset < there.len → before pieces place + offset ≡ before pieces other + other_offset → other ≡ place
one_place [] place other here there offset other_offset at other_at inside other_inside same = absurd (cc (at))
one_place (piece ∷ pieces) zero zero here there offset other_offset at other_at inside other_inside same = refl
one_place (piece ∷ pieces) zero (suc other) here there offset other_offset at other_at inside other_inside same =
    let is : piece.len ≡ here.len = ap (λ (p : Piece). p.len) (same_Some piece here at) in
    absurd (omega (arith, is, inside, same))
one_place (piece ∷ pieces) (suc place) zero here there offset other_offset at other_at inside other_inside same =
    let is : piece.len ≡ there.len = ap (λ (p : Piece). p.len) (same_Some piece there other_at) in
    absurd (omega (arith, is, other_inside, same))
one_place (piece ∷ pieces) (suc place) (suc other) here there offset other_offset at other_at inside other_inside same =
    ap suc (one_place pieces place other here there offset other_offset at other_at inside other_inside
    (omega (arith, same)))

-- the pair of a number lies in one chunk of one piece, and in no other
pub lies_once : PiecesCover → (pieces : List Piece) (number : ℕ) (one : Pair)
    → slice_get (pairs_of_pieces pieces) number ≡ Some one
    → (place : ℕ) × (index : ℕ) × (piece : Piece) × LiesAt pieces number one place index piece
    × ((other_place other_index : ℕ) (other : Piece) → LiesAt pieces number one other_place other_index other
    → (other_place ≡ place) × (other_index ≡ index))
lies_once cover pieces number one at =
    let in_piece = located pieces number one at in
    let chunk = cover in_piece.piece.len in_piece.offset in_piece.inside in (
      in_piece.place,
      chunk.0,
      in_piece.piece,
      record {
        there = in_piece.there;
        offset = in_piece.offset;
        inside = in_piece.inside;
        number_is = in_piece.number_is;
        remote = in_piece.remote;
        local = in_piece.local;
        chunk = chunk.1;
      },
      λ other_place other_index other lies.
          let same_place : other_place ≡ in_piece.place
          = one_place pieces in_piece.place other_place in_piece.piece other in_piece.offset lies.offset in_piece.there
          lies.there in_piece.inside lies.inside (sym in_piece.number_is ∙ lies.number_is) in
          let same_piece : other ≡ in_piece.piece
          = same_Some other in_piece.piece (sym lies.there ∙ ap (slice_get pieces) same_place ∙ in_piece.there) in
          let same_before = ap (before pieces) same_place in
          let same_offset : lies.offset ≡ in_piece.offset
          = omega (arith, same_before, lies.number_is, in_piece.number_is) in
          let P : ℕ → ℕ → Type 0 = λ all offset. LiesIn all offset other_index in (
            same_place,
            chunk.2 other_index (subst (λ all. P all in_piece.offset) (ap (λ (p : Piece). p.len) same_piece)
                (subst (P other.len) same_offset lies.chunk)),
          ),
    )
