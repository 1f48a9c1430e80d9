-- Pairs of bytes have one cut, and how it grows.
use Rattle.std.proofs.Common.{◌≡◌, inl, inr, ℕ, zero, suc, ◌+◌, ◌<◌, true, false, List, [], ◌∷◌}
use Rattle.std.proofs.Common.{◌++◌, refl, sym, ap, ap₂, ◌∙◌, arith, ne_eqb, zero-add, add-zero, append_assoc}
use Rattle.std.specs.Prelude.{◌==◌, ◌&&◌}
use Rattle.std.proofs.Math.Nat.{suc-add}
use Rattle.std.proofs.lemmas.Bool.{cases_Bool, eqb-true, eq-eqb, and_parts}
use Rattle.std.proofs.lemmas.List.{append-nil}
use Rattle.node_vis.specs.declared.shapes.Piece.{Piece}
use Rattle.node_vis.specs.Pairs.{Pair, pair, pairs_from}
use Rattle.node_vis.specs.Pieces.{piece, pairs_in, pairs_of_pieces, continues, IsApart, IsCut}
use Rattle.node_vis.specs.Pieces.{begun_by, pieces_of, with_filled, with_run}

-- ---- pairs

-- a run of pairs, in two parts
pub pairs_from-add : (first second remote local : ℕ)
    → pairs_from remote local (first + second)
    ≡ pairs_from remote local first ++ pairs_from (remote + first) (local + first) second
pairs_from-add zero second remote local =
    ap (pairs_from remote local) (zero-add second)
    ∙ sym (ap₂ (λ r l. pairs_from r l second) (add-zero remote) (add-zero local))
pairs_from-add (suc first) second remote local =
    let over : suc remote + first ≡ remote + suc first = omega arith in
    let under : suc local + first ≡ local + suc first = omega arith in
    ap (pairs_from remote local) (suc-add first second)
    ∙ ap (λ ps. pair remote local ∷ ps) (pairs_from-add first second (suc remote) (suc local))
    ∙ ap₂ (λ r l. pair remote local ∷ (pairs_from (suc remote) (suc local) first ++ pairs_from r l second)) over under

-- ---- pieces that continue each other

continues_parts : (first second : Piece) → continues first second ≡ true
    → (second.remote ≡ first.remote + first.len) × (second.local ≡ first.local + first.len)
continues_parts first second is =
    let both = and_parts (second.remote == first.remote + first.len) (second.local == first.local + first.len) is in
    (eqb-true second.remote (first.remote + first.len) both.0, eqb-true second.local (first.local + first.len) both.1)

continues_from : (first second : Piece) → second.remote ≡ first.remote + first.len
    → second.local ≡ first.local + first.len → continues first second ≡ true
continues_from first second remote local =
    ap₂ (λ a b. a && b) (eq-eqb second.remote (first.remote + first.len) remote)
    (eq-eqb second.local (first.local + first.len) local)

-- whether a piece continues another one depends on where that ends
continues_by_end : (first other second : Piece) → first.remote + first.len ≡ other.remote + other.len
    → first.local + first.len ≡ other.local + other.len → continues first second ≡ continues other second
continues_by_end first other second remote local =
    ap₂ (λ r l. (second.remote == r) && (second.local == l)) remote local

pub apart_by_end : (first other : Piece) (pieces : List Piece) → first.remote + first.len ≡ other.remote + other.len
    → first.local + first.len ≡ other.local + other.len → IsApart first pieces → IsApart other pieces
apart_by_end first other [] remote local apart = tt
apart_by_end first other (second ∷ pieces) remote local apart =
    sym (continues_by_end first other second remote local) ∙ apart

-- ---- a pair in front

begun_apart : (remote local : ℕ) (pieces : List Piece) → IsApart (piece remote local 1) pieces
    → begun_by (pair remote local) pieces ≡ piece remote local 1 ∷ pieces
begun_apart remote local [] apart = refl
begun_apart remote local (first ∷ pieces) apart = rw apart refl

begun_joined : (remote local len : ℕ) (pieces : List Piece)
    → begun_by (pair remote local) (piece (suc remote) (suc local) len ∷ pieces)
    ≡ piece remote local (suc len) ∷ pieces
begun_joined remote local len pieces =
    let on : continues (piece remote local 1) (piece (suc remote) (suc local) len) ≡ true
    = continues_from (piece remote local 1) (piece (suc remote) (suc local) len) (omega arith) (omega arith) in
    rw on refl

-- a cut of pairs gives one of those with a pair in front
begun_cut : (first : Pair) (pieces : List Piece) (pairs : List Pair) → IsCut pieces pairs
    → IsCut (begun_by first pieces) (first ∷ pairs)
begun_cut first [] pairs cut = record {
  spells = ap (λ ps. first ∷ ps) cut.spells;
  filled = (omega arith, tt);
  apart = (tt, tt);
}
begun_cut first (second ∷ pieces) pairs cut = elim (cases_Bool (continues (piece first.remote first.local 1) second)) [
  | inl on ↦ (
      let parts = continues_parts (piece first.remote first.local 1) second on in
      let remote : second.remote ≡ suc first.remote = omega (arith, parts.0) in
      let local : second.local ≡ suc first.local = omega (arith, parts.1) in
      rw on (record {
        spells = ap₂ (λ r l. first ∷ (pairs_from r l second.len ++ pairs_of_pieces pieces)) (sym remote) (sym local)
            ∙ ap (λ ps. first ∷ ps) cut.spells;
        filled = (omega arith, cut.filled.1);
        apart = (
          apart_by_end second (piece first.remote first.local (suc second.len)) pieces (omega (arith, remote))
              (omega (arith, local)) cut.apart.0,
          cut.apart.1,
        );
      }))
  | inr off ↦ rw off (record {
    spells = ap (λ ps. first ∷ ps) cut.spells;
    filled = (omega arith, cut.filled);
    apart = (off, cut.apart);
  })
]

-- the pieces of pairs are a cut of them
pub pieces_cut : (pairs : List Pair) → IsCut (pieces_of pairs) pairs
pieces_cut [] = record { spells = refl; filled = tt; apart = tt }
pieces_cut (first ∷ pairs) = begun_cut first (pieces_of pairs) pairs (pieces_cut pairs)

-- and there is no other
pub one_cut : (pairs : List Pair) (pieces : List Piece) → IsCut pieces pairs → pieces ≡ pieces_of pairs
one_cut [] [] cut = refl
one_cut [] (first ∷ pieces) cut = absurd (none first.remote first.local first.len cut.filled.0 cut.spells)
  where
    none : (remote local len : ℕ) → 0 < len → pairs_from remote local len ++ pairs_of_pieces pieces ≡ [] → ⊥
    none remote local zero some is = omega arith
    none remote local (suc len) some is = cc
one_cut (first ∷ pairs) [] cut = absurd (none cut.spells)
  where
    none : [] ≡ first ∷ pairs → ⊥
    none is = cc
one_cut (first ∷ pairs) (top ∷ pieces) cut =
    peeled top.remote top.local top.len (λ other is. one_cut pairs other is) cut
  where
    peeled : (remote local len : ℕ) → ((other : List Piece) → IsCut other pairs → other ≡ pieces_of pairs)
        → IsCut (piece remote local len ∷ pieces) (first ∷ pairs)
        → piece remote local len ∷ pieces ≡ begun_by first (pieces_of pairs)
    peeled remote local zero rest is = absurd (omega (arith, is.filled.0))
    peeled remote local (suc zero) rest is =
        let same : pair remote local ≡ first = cc (is.spells) in
        let later : pairs_of_pieces pieces ≡ pairs = cc (is.spells) in
        let known = rest pieces (record { spells = later; filled = is.filled.1; apart = is.apart.1 }) in
        sym (begun_apart remote local pieces is.apart.0) ∙ ap₂ begun_by same known
    peeled remote local (suc (suc len)) rest is =
        let same : pair remote local ≡ first = cc (is.spells) in
        let later : pairs_from (suc remote) (suc local) (suc len) ++ pairs_of_pieces pieces ≡ pairs = cc (is.spells) in
        let known = rest (piece (suc remote) (suc local) (suc len) ∷ pieces)
        (record {
          spells = later;
          filled = (omega arith, is.filled.1);
          apart = (
            apart_by_end (piece remote local (suc (suc len))) (piece (suc remote) (suc local) (suc len)) pieces
                (omega arith) (omega arith) is.apart.0,
            is.apart.1,
          );
        }) in
        sym (begun_joined remote local (suc len) pieces) ∙ ap₂ begun_by same known

-- ---- a run behind

-- its first piece begins where the first one began
filled_apart : (before : Piece) (second : Piece) (pieces : List Piece) (run : Piece)
    → continues before second ≡ false → IsApart before (with_filled (second ∷ pieces) run)
filled_apart before second [] run off = elim (cases_Bool (continues second run)) [
  | inl on ↦ rw on off
  | inr not_on ↦ rw not_on off
]
filled_apart before second (third ∷ pieces) run off = off

filled_cut : (pieces : List Piece) (pairs : List Pair) (run : Piece) → 0 < run.len → IsCut pieces pairs
    → IsCut (with_filled pieces run) (pairs ++ pairs_in run)
filled_cut [] pairs run some cut = record {
  spells = append-nil (pairs_in run) ∙ ap (λ ps. ps ++ pairs_in run) cut.spells;
  filled = (some, tt);
  apart = (tt, tt);
}
filled_cut (last ∷ []) pairs run some cut =
    let before : pairs_in last ≡ pairs = sym (append-nil (pairs_in last)) ∙ cut.spells in
    elim (cases_Bool (continues last run)) [
      | inl on ↦ (
          let parts = continues_parts last run on in
          rw on (record {
            spells = append-nil (pairs_from last.remote last.local (last.len + run.len))
                ∙ pairs_from-add last.len run.len last.remote last.local
                ∙ ap₂ (λ r l. pairs_in last ++ pairs_from r l run.len) (sym parts.0) (sym parts.1)
                ∙ ap (λ ps. ps ++ pairs_in run) before;
            filled = (omega (arith, some), tt);
            apart = (tt, tt);
          }))
      | inr off ↦ rw off (record {
        spells = ap₂ (λ a b. a ++ b) before (append-nil (pairs_in run));
        filled = (cut.filled.0, (some, tt));
        apart = (off, (tt, tt));
      })
    ]
filled_cut (first ∷ second ∷ pieces) pairs run some cut =
    let later = filled_cut (second ∷ pieces) (pairs_of_pieces (second ∷ pieces)) run some
    (record { spells = refl; filled = cut.filled.1; apart = cut.apart.1 }) in
    record {
      spells = ap (λ ps. pairs_in first ++ ps) later.spells
          ∙ sym (append_assoc (pairs_in first) (pairs_of_pieces (second ∷ pieces)) (pairs_in run))
          ∙ ap (λ ps. ps ++ pairs_in run) cut.spells;
      filled = (cut.filled.0, later.filled);
      apart = (filled_apart first second pieces run cut.apart.0, later.apart);
    }

-- a run of pairs behind others
pub with_run_is : (pairs : List Pair) (run : Piece) → with_run (pieces_of pairs) run ≡ pieces_of (pairs ++ pairs_in run)
with_run_is pairs run = by_len run.len refl
  where
    by_len : (len : ℕ) → run.len ≡ len → with_run (pieces_of pairs) run ≡ pieces_of (pairs ++ pairs_in run)
    by_len zero is = rw is (sym (ap pieces_of (append-nil pairs)))
    by_len (suc len) is =
        let some : 0 < run.len = omega (arith, is) in
        let test : (run.len == 0) ≡ false = ne_eqb run.len 0 (omega (arith, is)) in
        rw test (one_cut (pairs ++ pairs_in run) (with_filled (pieces_of pairs) run)
        (filled_cut (pieces_of pairs) pairs run some (pieces_cut pairs)))
