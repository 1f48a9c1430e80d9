-- The bytes that pieces write: which of them lie behind the segment, and which are written twice.
use Rattle.std.proofs.Common.{◌≡◌, inl, inr, ℕ, zero, suc, ◌+◌, ◌-◌, ◌<◌, Bool, true, false, true≢false, List, []}
use Rattle.std.proofs.Common.{◌∷◌, ◌++◌, length, refl, sym, ap, ap₂, ◌∙◌, arith}
use Rattle.std.specs.Prelude.{◌==◌, nat_le, nat_lt, ◌&&◌, ◌||◌, map}
use Rattle.std.specs.List.{list_any}
use Rattle.std.proofs.Math.Bool.{or_assoc}
use Rattle.std.proofs.lemmas.Bool.{and_parts, cases_lt, eq-eqb, eqb-true, false_from_ne_true, le-leb, leb-true, lt-ltb}
use Rattle.std.proofs.lemmas.Bool.{ltb-true, or_cases, or_left, or_right}
use Rattle.std.proofs.lemmas.List.{map-append}
use Rattle.std.proofs.lemmas.List.Folds.{list_any-append}
use Rattle.wire_message.specs.Parameters.{Parameters}
use Rattle.node_vis.specs.declared.shapes.Way.{Way}
use Rattle.node_vis.specs.declared.shapes.Way.TheVariants.{Put, Get}
use Rattle.node_vis.specs.declared.shapes.Piece.{Piece}
use Rattle.node_vis.specs.Pairs.{Pair, pairs_from, bytes_from}
use Rattle.node_vis.specs.Pieces.{pairs_in, pairs_of_pieces, AreFilled, pieces_of}
use Rattle.node_vis.specs.Faults.{written_byte, has_twice, cut_fault}
use Rattle.node_vis.specs.Runs.{ends_behind, meet, pieces_fault, some_meet, written_at}
use Rattle.node_vis.proofs.Cutting.{pieces_cut}
use Rattle.node_vis.proofs.Judging.{first_of}

-- two tests that follow from each other
pub same_test : (one other : Bool) → (one ≡ true → other ≡ true) → (other ≡ true → one ≡ true) → one ≡ other
same_test true other there back = sym (there refl)
same_test false other there back = sym (false_from_ne_true other (λ is. true≢false (sym (back is))))

both : (one other : Bool) → one ≡ true → other ≡ true → (one && other) ≡ true
both one other first second = ap₂ (λ a b. a && b) first second

-- ---- bytes of a range

-- one that passes a test
byte_any : (test : ℕ → Bool) (len first k : ℕ) → k < len → test (first + k) ≡ true
    → list_any test (bytes_from first len) ≡ true
byte_any test zero first k inside is = absurd (omega (arith, inside))
byte_any test (suc len) first zero inside is =
    let same : first + 0 ≡ first = omega arith in
    or_left (test first) (list_any test (bytes_from (suc first) len)) (ap test (sym same) ∙ is)
byte_any test (suc len) first (suc k) inside is =
    let same : suc first + k ≡ first + suc k = omega arith in
    or_right (test first) (list_any test (bytes_from (suc first) len))
    (byte_any test len (suc first) k (omega (arith, inside)) (ap test same ∙ is))

any_byte : (test : ℕ → Bool) (len first : ℕ) → list_any test (bytes_from first len) ≡ true
    → (k : ℕ) × (k < len) × (test (first + k) ≡ true)
any_byte test zero first is = absurd (true≢false (sym is))
any_byte test (suc len) first is = elim (or_cases (test first) (list_any test (bytes_from (suc first) len)) is) [
  | inl here ↦ (let same : first ≡ first + 0 = omega arith in (0, omega arith, ap test (sym same) ∙ here))
  | inr there ↦ (
      let later = any_byte test len (suc first) there in
      let same : suc first + later.0 ≡ first + suc later.0 = omega arith in
      let low : suc later.0 < suc len = omega (arith, later.1) in
      (suc later.0, low, ap test (sym same) ∙ later.2))
]

-- some byte lies behind the segment exactly where the range ends behind it
any_behind : (segment first len : ℕ) → 0 < len
    → list_any (nat_le segment) (bytes_from first len) ≡ nat_lt segment (first + len)
any_behind segment first len some = same_test (list_any (nat_le segment) (bytes_from first len))
    (nat_lt segment (first + len))
    (λ any.
    let byte = any_byte (nat_le segment) len first any in
    let above = leb-true segment (first + byte.0) byte.2 in
    lt-ltb segment (first + len) (omega (arith, byte.1, above)))
    (λ behind.
    let above = ltb-true segment (first + len) behind in
    byte_any (nat_le segment) len first (len - 1) (omega (arith, some))
    (le-leb segment (first + (len - 1)) (omega (arith, some, above))))

-- ---- all bytes that pieces write

map_run : (way : Way) (len remote local : ℕ)
    → map (written_byte way) (pairs_from remote local len)
    ≡ bytes_from (written_byte way (record { remote = remote; local = local })) len
map_run Put zero remote local = refl
map_run Put (suc len) remote local = ap (λ bs. remote ∷ bs) (map_run Put len (suc remote) (suc local))
map_run Get zero remote local = refl
map_run Get (suc len) remote local = ap (λ bs. local ∷ bs) (map_run Get len (suc remote) (suc local))

map_piece : (way : Way) (piece : Piece) → map (written_byte way) (pairs_in piece) ≡ bytes_from (written_at way piece) piece.len
map_piece Put piece = map_run Put piece.len piece.remote piece.local
map_piece Get piece = map_run Get piece.len piece.remote piece.local

all_bytes : (way : Way) (piece : Piece) (pieces : List Piece)
    → map (written_byte way) (pairs_of_pieces (piece ∷ pieces))
    ≡ bytes_from (written_at way piece) piece.len ++ map (written_byte way) (pairs_of_pieces pieces)
all_bytes way piece pieces =
    map-append (written_byte way) (pairs_in piece) (pairs_of_pieces pieces)
    ∙ ap (λ bs. bs ++ map (written_byte way) (pairs_of_pieces pieces)) (map_piece way piece)

any_mapped : (way : Way) (test : ℕ → Bool) (pairs : List Pair)
    → list_any (λ (pair : Pair). test (written_byte way pair)) pairs ≡ list_any test (map (written_byte way) pairs)
any_mapped way test [] = refl
any_mapped way test (pair ∷ pairs) = ap (λ b. test (written_byte way pair) || b) (any_mapped way test pairs)

-- some byte of the pieces lies behind the segment exactly where some piece ends behind it
behind_any : (way : Way) (segment : ℕ) (pieces : List Piece) → AreFilled pieces
    → list_any (nat_le segment) (map (written_byte way) (pairs_of_pieces pieces))
    ≡ list_any (λ (piece : Piece). ends_behind segment (written_at way piece) piece.len) pieces
behind_any way segment [] filled = refl
behind_any way segment (piece ∷ pieces) filled =
    ap (list_any (nat_le segment)) (all_bytes way piece pieces)
    ∙ list_any-append (nat_le segment) (bytes_from (written_at way piece) piece.len) (map (written_byte way) (pairs_of_pieces pieces))
    ∙ ap₂ (λ a b. a || b) (any_behind segment (written_at way piece) piece.len filled.0)
    (behind_any way segment pieces filled.1)

-- ---- bytes that are written twice

-- some byte of the range is one of these
abbrev pub clash : (first len : ℕ) → List ℕ → Bool
clash first len others = list_any (λ x. list_any (λ other. other == x) others) (bytes_from first len)

-- no byte of a range stands behind itself
alone : (len first byte : ℕ) → byte < first → list_any (λ other. other == byte) (bytes_from first len) ≡ false
alone len first byte below = false_from_ne_true (list_any (λ other. other == byte) (bytes_from first len)) (λ any.
    let it = any_byte (λ other. other == byte) len first any in
    let same = eqb-true (first + it.0) byte it.2 in
    omega (arith, same, below))

twice_run : (len first : ℕ) (others : List ℕ)
    → has_twice (bytes_from first len ++ others) ≡ (clash first len others || has_twice others)
twice_run zero first others = refl
twice_run (suc len) first others =
    let here = list_any (λ other. other == first) (bytes_from (suc first) len ++ others) in
    let mine = list_any (λ other. other == first) others in
    let none : here ≡ mine
    = list_any-append (λ other. other == first) (bytes_from (suc first) len) others
    ∙ ap (λ b. b || mine) (alone len (suc first) first (omega arith)) in
    ap₂ (λ a b. a || b) none (twice_run len (suc first) others)
    ∙ sym (or_assoc mine (clash (suc first) len others) (has_twice others))

clash-append : (first len : ℕ) (one other : List ℕ)
    → clash first len (one ++ other) ≡ (clash first len one || clash first len other)
clash-append first len one other =
    let of_one : ℕ → Bool = λ x. list_any (λ o. o == x) one in
    let of_other : ℕ → Bool = λ x. list_any (λ o. o == x) other in
    same_test (clash first len (one ++ other)) (clash first len one || clash first len other)
    (λ any.
    let it = any_byte (λ x. list_any (λ o. o == x) (one ++ other)) len first any in
    elim (or_cases (of_one (first + it.0)) (of_other (first + it.0))
    (sym (list_any-append (λ o. o == first + it.0) one other) ∙ it.2)) [
      | inl left ↦ or_left (clash first len one) (clash first len other) (byte_any of_one len first it.0 it.1 left)
      | inr right ↦ or_right (clash first len one) (clash first len other)
          (byte_any of_other len first it.0 it.1 right)
    ])
    (λ any. elim (or_cases (clash first len one) (clash first len other) any) [
      | inl left ↦ (
          let it = any_byte of_one len first left in
          byte_any (λ x. list_any (λ o. o == x) (one ++ other)) len first it.0 it.1
          (list_any-append (λ o. o == first + it.0) one other
          ∙ or_left (of_one (first + it.0)) (of_other (first + it.0)) it.2))
      | inr right ↦ (
          let it = any_byte of_other len first right in
          byte_any (λ x. list_any (λ o. o == x) (one ++ other)) len first it.0 it.1
          (list_any-append (λ o. o == first + it.0) one other
          ∙ or_right (of_one (first + it.0)) (of_other (first + it.0)) it.2))
    ])

-- two ranges
clash_runs : (first len other size : ℕ) → 0 < len → 0 < size
    → clash first len (bytes_from other size) ≡ (nat_lt first (other + size) && nat_lt other (first + len))
clash_runs first len other size some more = same_test (clash first len (bytes_from other size))
    (nat_lt first (other + size) && nat_lt other (first + len))
    (λ any.
    let it = any_byte (λ x. list_any (λ o. o == x) (bytes_from other size)) len first any in
    let that = any_byte (λ o. o == first + it.0) size other it.2 in
    let same = eqb-true (other + that.0) (first + it.0) that.2 in
    both (nat_lt first (other + size)) (nat_lt other (first + len))
    (lt-ltb first (other + size) (omega (arith, same, that.1)))
    (lt-ltb other (first + len) (omega (arith, same, it.1))))
    (λ meets.
    let parts = and_parts (nat_lt first (other + size)) (nat_lt other (first + len)) meets in
    let low = ltb-true first (other + size) parts.0 in
    let high = ltb-true other (first + len) parts.1 in
    elim (cases_lt first other) [
      | inl before ↦ byte_any (λ x. list_any (λ o. o == x) (bytes_from other size)) len first (other - first)
          (omega (arith, before, high))
          (byte_any (λ o. o == first + (other - first)) size other 0 more
          (eq-eqb (other + 0) (first + (other - first)) (omega (arith, before))))
      | inr after ↦ byte_any (λ x. list_any (λ o. o == x) (bytes_from other size)) len first 0 some
          (byte_any (λ o. o == first + 0) size other (first - other) (omega (arith, after, low))
          (eq-eqb (other + (first - other)) (first + 0) (omega (arith, after))))
    ])

clash_pieces : (way : Way) (piece : Piece) (pieces : List Piece) → 0 < piece.len → AreFilled pieces
    → clash (written_at way piece) piece.len (map (written_byte way) (pairs_of_pieces pieces)) ≡ list_any (meet way piece) pieces
clash_pieces way piece [] some filled =
    false_from_ne_true (clash (written_at way piece) piece.len []) (λ any.
    true≢false (sym ((any_byte (λ x. list_any (λ o. o == x) []) piece.len (written_at way piece) any).2)))
clash_pieces way piece (other ∷ pieces) some filled =
    ap (clash (written_at way piece) piece.len) (all_bytes way other pieces)
    ∙ clash-append (written_at way piece) piece.len (bytes_from (written_at way other) other.len)
    (map (written_byte way) (pairs_of_pieces pieces))
    ∙ ap₂ (λ a b. a || b)
    (clash_runs (written_at way piece) piece.len (written_at way other) other.len some filled.0)
    (clash_pieces way piece pieces some filled.1)

-- some byte is written twice exactly where some two pieces meet
twice_meets : (way : Way) (pieces : List Piece) → AreFilled pieces
    → has_twice (map (written_byte way) (pairs_of_pieces pieces)) ≡ some_meet way pieces
twice_meets way [] filled = refl
twice_meets way (piece ∷ pieces) filled =
    ap has_twice (all_bytes way piece pieces)
    ∙ twice_run piece.len (written_at way piece) (map (written_byte way) (pairs_of_pieces pieces))
    ∙ ap₂ (λ a b. a || b) (clash_pieces way piece pieces filled.0 filled.1) (twice_meets way pieces filled.1)

-- ---- all of it

-- what is wrong with pairs is what is wrong with their pieces
pub judged : (settings : Parameters) (way : Way) (pairs : List Pair)
    → cut_fault settings way pairs ≡ pieces_fault settings way (pieces_of pairs)
judged settings way pairs =
    let cut = pieces_cut pairs in
    let many = nat_lt 1024 (length (pieces_of pairs)) in
    let source : list_any (λ (pair : Pair). nat_le settings.segment pair.local) pairs
    ≡ list_any (λ (piece : Piece). ends_behind settings.segment piece.local piece.len) (pieces_of pairs)
    = any_mapped Get (nat_le settings.segment) pairs
    ∙ ap (λ ps. list_any (nat_le settings.segment) (map (written_byte Get) ps)) (sym cut.spells)
    ∙ behind_any Get settings.segment (pieces_of pairs) cut.filled in
    let offset : list_any (λ (pair : Pair). nat_le settings.segment pair.remote) pairs
    ≡ list_any (λ (piece : Piece). ends_behind settings.segment piece.remote piece.len) (pieces_of pairs)
    = any_mapped Put (nat_le settings.segment) pairs
    ∙ ap (λ ps. list_any (nat_le settings.segment) (map (written_byte Put) ps)) (sym cut.spells)
    ∙ behind_any Put settings.segment (pieces_of pairs) cut.filled in
    let overlap : has_twice (map (written_byte way) pairs) ≡ some_meet way (pieces_of pairs)
    = ap (λ ps. has_twice (map (written_byte way) ps)) (sym cut.spells) ∙ twice_meets way (pieces_of pairs) cut.filled in
    ap (λ s. first_of many s (list_any (λ (pair : Pair). nat_le settings.segment pair.remote) pairs)
    (has_twice (map (written_byte way) pairs))) source
    ∙ ap₂ (first_of many
    (list_any (λ (piece : Piece). ends_behind settings.segment piece.local piece.len) (pieces_of pairs)))
    offset overlap
