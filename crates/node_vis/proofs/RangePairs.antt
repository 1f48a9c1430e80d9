-- Pairs of ranges, run by run.
use Rattle.std.proofs.Common.{◌≡◌, ℕ, zero, suc, ◌+◌, ◌-◌, ◌≤◌, List, [], ◌∷◌, ◌++◌, length, refl, sym, subst}
use Rattle.std.proofs.Common.{ap, ap₂, ◌∙◌, arith, zero-add, add-zero, append_assoc}
use Rattle.std.proofs.Math.Nat.{suc-add}
use Rattle.std.proofs.lemmas.List.{append-nil, nil_from_length}
use Rattle.node_vis.specs.declared.shapes.Piece.{Piece}
use Rattle.node_vis.specs.Pairs.{Pair, pair, pairs_from, bytes_from, range_bytes, pairs_of, range_pairs}
use Rattle.node_vis.specs.Pieces.{pieces_of}
use Rattle.node_vis.specs.declared.shapes.PlanFault.{PlanFault}
use Rattle.node_vis.specs.Runs.{Adds, IsFull}
use Rattle.node_vis.proofs.Growing.{full_more}

-- bytes in two parts
pub bytes_from-add : (first second start : ℕ)
    → bytes_from start (first + second) ≡ bytes_from start first ++ bytes_from (start + first) second
bytes_from-add zero second start =
    ap (bytes_from start) (zero-add second) ∙ ap (λ s. bytes_from s second) (sym (add-zero start))
bytes_from-add (suc first) second start =
    let over : suc start + first ≡ start + suc first = omega arith in
    ap (bytes_from start) (suc-add first second)
    ∙ ap (λ bs. start ∷ bs) (bytes_from-add first second (suc start))
    ∙ ap (λ s. start ∷ (bytes_from (suc start) first ++ bytes_from s second)) over

-- bytes that begin both lists, as many on either side
pub paired-run : (len remote local : ℕ) (far near : List ℕ)
    → pairs_of (bytes_from remote len ++ far) (bytes_from local len ++ near)
    ≡ pairs_from remote local len ++ pairs_of far near
paired-run zero remote local far near = refl
paired-run (suc len) remote local far near =
    ap (λ ps. pair remote local ∷ ps) (paired-run len (suc remote) (suc local) far near)

pub paired-nil : (far : List ℕ) → pairs_of far [] ≡ []
paired-nil [] = refl
paired-nil (byte ∷ far) = refl

-- ---- the walk

-- What has come of all pairs, where this much is left of the present ranges, and these ranges behind them: pairs that
-- end, with those of what is left, as all
pub record Walks (old : List Piece) (all : List Pair) (far far_len : ℕ) (remotes : List (ℕ × ℕ)) (near near_len : ℕ)
    (locals : List (ℕ × ℕ)) (new : List Piece) : Type 0 where
  pub done : List Pair
  pub adds : Adds old done new
  pub rest : done ++ pairs_of (bytes_from far far_len ++ range_bytes remotes)
      (bytes_from near near_len ++ range_bytes locals)
      ≡ all

pub walks_first : (old : List Piece) (remotes locals : List (ℕ × ℕ))
    → Walks old (range_pairs remotes locals) 0 0 remotes 0 0 locals old
walks_first old remotes locals = record {
  done = [];
  adds = λ pairs is. is ∙ ap pieces_of (sym (append-nil pairs));
  rest = refl;
}

-- the next range on the target's side
pub walks_far : (old : List Piece) (all : List Pair) (far far_len : ℕ) (remotes : List (ℕ × ℕ)) (near near_len : ℕ)
    (locals : List (ℕ × ℕ)) (new : List Piece) (first len : ℕ) (later : List (ℕ × ℕ)) (range : ℕ × ℕ)
    → Walks old all far far_len remotes near near_len locals new → far_len ≡ 0 → remotes ≡ range ∷ later
    → first ≡ range.0 → len ≡ range.1 → Walks old all first len later near near_len locals new
walks_far old all far far_len remotes near near_len locals new first len later range walks none are one two = record {
  done = walks.done;
  adds = walks.adds;
  rest =
      let empty : bytes_from far far_len ≡ [] = ap (bytes_from far) none in
      ap₂ (λ f l. walks.done ++ pairs_of (bytes_from f l ++ range_bytes later)
      (bytes_from near near_len ++ range_bytes locals))
      one two
      ∙ ap₂ (λ bs rs. walks.done ++ pairs_of (bs ++ range_bytes rs) (bytes_from near near_len ++ range_bytes locals))
      (sym empty) (sym are)
      ∙ walks.rest;
}

-- on the local side
pub walks_near : (old : List Piece) (all : List Pair) (far far_len : ℕ) (remotes : List (ℕ × ℕ)) (near near_len : ℕ)
    (locals : List (ℕ × ℕ)) (new : List Piece) (first len : ℕ) (later : List (ℕ × ℕ)) (range : ℕ × ℕ)
    → Walks old all far far_len remotes near near_len locals new → near_len ≡ 0 → locals ≡ range ∷ later
    → first ≡ range.0 → len ≡ range.1 → Walks old all far far_len remotes first len later new
walks_near old all far far_len remotes near near_len locals new first len later range walks none are one two = record {
  done = walks.done;
  adds = walks.adds;
  rest =
      let empty : bytes_from near near_len ≡ [] = ap (bytes_from near) none in
      ap₂ (λ f l. walks.done ++ pairs_of (bytes_from far far_len ++ range_bytes remotes)
      (bytes_from f l ++ range_bytes later))
      one two
      ∙ ap₂ (λ bs rs. walks.done ++ pairs_of (bytes_from far far_len ++ range_bytes remotes) (bs ++ range_bytes rs))
      (sym empty) (sym are)
      ∙ walks.rest;
}

whole : (part all : ℕ) → part ≤ all → part + (all - part) ≡ all
whole part all within = omega (arith, within)

-- what is left of both sides begins with a run
run_first : (far far_len : ℕ) (remotes : List (ℕ × ℕ)) (near near_len : ℕ) (locals : List (ℕ × ℕ)) (len : ℕ)
    → len ≤ far_len → len ≤ near_len
    → pairs_of (bytes_from far far_len ++ range_bytes remotes) (bytes_from near near_len ++ range_bytes locals)
    ≡ pairs_from far near len ++ pairs_of (bytes_from (far + len) (far_len - len) ++ range_bytes remotes)
    (bytes_from (near + len) (near_len - len) ++ range_bytes locals)
run_first far far_len remotes near near_len locals len less few =
    let far_parts : bytes_from far far_len ≡ bytes_from far len ++ bytes_from (far + len) (far_len - len)
    = ap (bytes_from far) (sym (whole len far_len less)) ∙ bytes_from-add len (far_len - len) far in
    let near_parts : bytes_from near near_len ≡ bytes_from near len ++ bytes_from (near + len) (near_len - len)
    = ap (bytes_from near) (sym (whole len near_len few)) ∙ bytes_from-add len (near_len - len) near in
    let far_rest = bytes_from (far + len) (far_len - len) ++ range_bytes remotes in
    let near_rest = bytes_from (near + len) (near_len - len) ++ range_bytes locals in
    ap₂ pairs_of (ap (λ bs. bs ++ range_bytes remotes) far_parts
    ∙ append_assoc (bytes_from far len) (bytes_from (far + len) (far_len - len)) (range_bytes remotes))
    (ap (λ bs. bs ++ range_bytes locals) near_parts
    ∙ append_assoc (bytes_from near len) (bytes_from (near + len) (near_len - len)) (range_bytes locals))
    ∙ paired-run len far near far_rest near_rest

-- a run of both sides
pub walks_run : (old : List Piece) (all : List Pair) (far far_len : ℕ) (remotes : List (ℕ × ℕ)) (near near_len : ℕ)
    (locals : List (ℕ × ℕ)) (between new : List Piece) (len : ℕ)
    → Walks old all far far_len remotes near near_len locals between → len ≤ far_len → len ≤ near_len
    → Adds between (pairs_from far near len) new
    → Walks old all (far + len) (far_len - len) remotes (near + len) (near_len - len) locals new
walks_run old all far far_len remotes near near_len locals between new len walks less few adds = record {
  done = walks.done ++ pairs_from far near len;
  adds = λ pairs is.
      adds (pairs ++ walks.done) (walks.adds pairs is)
      ∙ ap pieces_of (append_assoc pairs walks.done (pairs_from far near len));
  rest =
      append_assoc walks.done (pairs_from far near len)
      (pairs_of (bytes_from (far + len) (far_len - len) ++ range_bytes remotes)
      (bytes_from (near + len) (near_len - len) ++ range_bytes locals))
      ∙ ap (λ ps. walks.done ++ ps) (sym (run_first far far_len remotes near near_len locals len less few))
      ∙ walks.rest;
}

-- such a run would make too many pieces
pub walks_full : (old : List Piece) (all : List Pair) (far far_len : ℕ) (remotes : List (ℕ × ℕ)) (near near_len : ℕ)
    (locals : List (ℕ × ℕ)) (between : List Piece) (len : ℕ) (why : PlanFault)
    → Walks old all far far_len remotes near near_len locals between → len ≤ far_len → len ≤ near_len
    → ((pairs : List Pair) → between ≡ pieces_of pairs
    → IsFull (length (pieces_of (pairs ++ pairs_from far near len))) why)
    → (pairs : List Pair) → old ≡ pieces_of pairs → IsFull (length (pieces_of (pairs ++ all))) why
walks_full old all far far_len remotes near near_len locals between len why walks less few full pairs were =
    let run = pairs_from far near len in
    let rest = pairs_of (bytes_from (far + len) (far_len - len) ++ range_bytes remotes)
    (bytes_from (near + len) (near_len - len) ++ range_bytes locals) in
    let all_is : ((pairs ++ walks.done) ++ run) ++ rest ≡ pairs ++ all
    = append_assoc (pairs ++ walks.done) run rest ∙ append_assoc pairs walks.done (run ++ rest)
    ∙ ap (λ ps. pairs ++ ps) (ap (λ ps. walks.done ++ ps)
    (sym (run_first far far_len remotes near near_len locals len less few)) ∙ walks.rest) in
    subst (λ ps. IsFull (length (pieces_of ps)) why) all_is
    (full_more ((pairs ++ walks.done) ++ run) rest why (full (pairs ++ walks.done) (walks.adds pairs were)))

-- nothing is left on the target's side
pub walked_far : (old : List Piece) (all : List Pair) (far far_len : ℕ) (remotes : List (ℕ × ℕ)) (near near_len : ℕ)
    (locals : List (ℕ × ℕ)) (new : List Piece) → Walks old all far far_len remotes near near_len locals new
    → far_len ≡ 0 → length remotes ≡ 0 → Adds old all new
walked_far old all far far_len remotes near near_len locals new walks none no_range pairs is =
    let empty : bytes_from far far_len ≡ [] = ap (bytes_from far) none in
    walks.adds pairs is
    ∙ ap (λ ps. pieces_of (pairs ++ ps)) (sym (append-nil walks.done)
    ∙ sym (ap₂
    (λ bs rs. walks.done ++ pairs_of (bs ++ range_bytes rs) (bytes_from near near_len ++ range_bytes locals)) empty
    (nil_from_length remotes no_range)) ∙ walks.rest)

-- nor on the local side
pub walked_near : (old : List Piece) (all : List Pair) (far far_len : ℕ) (remotes : List (ℕ × ℕ)) (near near_len : ℕ)
    (locals : List (ℕ × ℕ)) (new : List Piece) → Walks old all far far_len remotes near near_len locals new
    → near_len ≡ 0 → length locals ≡ 0 → Adds old all new
walked_near old all far far_len remotes near near_len locals new walks none no_range pairs is =
    let empty : bytes_from near near_len ≡ [] = ap (bytes_from near) none in
    let prefix = bytes_from far far_len ++ range_bytes remotes in
    walks.adds pairs is
    ∙ ap (λ ps. pieces_of (pairs ++ ps)) (sym (append-nil walks.done)
    ∙ ap (λ ps. walks.done ++ ps) (sym (paired-nil prefix))
    ∙ sym (ap₂ (λ bs rs. walks.done ++ pairs_of prefix (bs ++ range_bytes rs)) empty
    (nil_from_length locals no_range)) ∙ walks.rest)

-- 1 where something is left
abbrev pub present : ℕ → ℕ
present zero = 0
present (suc len) = 1
