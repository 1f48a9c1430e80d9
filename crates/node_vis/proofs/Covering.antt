-- Whether some two pieces write the same byte doesn't depend on their order.
use Rattle.std.proofs.Common.{◌≡◌, inl, inr, ℕ, zero, suc, ◌+◌, ◌<◌, ◌≤◌, Bool, true, false, true≢false, List, []}
use Rattle.std.proofs.Common.{◌∷◌, refl, sym, ap, ap₂, ◌∙◌, arith}
use Rattle.std.specs.Prelude.{nat_le, nat_lt, ◌&&◌, ◌||◌, if◌then◌else◌}
use Rattle.std.specs.List.{All, list_any, sum_by}
use Rattle.std.specs.List.Sorted.{IsPermutation}
use Rattle.std.proofs.lemmas.Bool.{and_parts, cases_Bool, cases_lt, false_from_ne_true, le-leb, leb-true, lt-ltb, ltb-true}
use Rattle.std.proofs.lemmas.Bool.{or_cases}
use Rattle.std.proofs.lemmas.List.Sorted.{All-permutation, sum_by-IsPermutation}
use Rattle.std.proofs.lemmas.List.Sums.{sum_by-cons}
use Rattle.node_vis.specs.declared.shapes.Way.{Way}
use Rattle.node_vis.specs.declared.shapes.Piece.{Piece}
use Rattle.node_vis.specs.Pieces.{AreFilled}
use Rattle.node_vis.specs.Runs.{meet, some_meet, written_at}
use Rattle.node_vis.proofs.Bytes.{same_test}

-- the piece writes this byte
abbrev pub has_byte : Way → (byte : ℕ) → Piece → Bool
has_byte way byte piece = nat_le (written_at way piece) byte && nat_lt byte (written_at way piece + piece.len)

abbrev pub one_if : Bool → ℕ
one_if test = if test then 1 else 0

-- how many of the pieces do
abbrev pub writers : Way → (byte : ℕ) → List Piece → ℕ
writers way byte [] = 0
writers way byte (piece ∷ pieces) = one_if (has_byte way byte piece) + writers way byte pieces

has_it : (way : Way) (byte : ℕ) (piece : Piece) → written_at way piece ≤ byte → byte < written_at way piece + piece.len
    → has_byte way byte piece ≡ true
has_it way byte piece low high =
    ap₂ (λ a b. a && b) (le-leb (written_at way piece) byte low)
    (lt-ltb byte (written_at way piece + piece.len) high)

meets_it : (way : Way) (first second : Piece) → written_at way first < written_at way second + second.len
    → written_at way second < written_at way first + first.len → meet way first second ≡ true
meets_it way first second low high =
    ap₂ (λ a b. a && b) (lt-ltb (written_at way first) (written_at way second + second.len) low)
    (lt-ltb (written_at way second) (written_at way first + first.len) high)

either : (a b : Bool) → (a || b) ≡ false → (a ≡ false) × (b ≡ false)
either true b is = absurd (true≢false is)
either false b is = (refl, is)

-- a byte of a piece that meets none of the others is written by none of them
no_writer : (way : Way) (byte : ℕ) (first : Piece) (pieces : List Piece) → has_byte way byte first ≡ true
    → list_any (meet way first) pieces ≡ false → writers way byte pieces ≡ 0
no_writer way byte first [] has none = refl
no_writer way byte first (piece ∷ pieces) has none =
    let parts = either (meet way first piece) (list_any (meet way first) pieces) none in
    let isnt : has_byte way byte piece ≡ false = false_from_ne_true (has_byte way byte piece) (λ also.
    let mine = and_parts (nat_le (written_at way first) byte) (nat_lt byte (written_at way first + first.len)) has in
    let its = and_parts (nat_le (written_at way piece) byte) (nat_lt byte (written_at way piece + piece.len)) also in
    let low = leb-true (written_at way first) byte mine.0 in
    let high = ltb-true byte (written_at way first + first.len) mine.1 in
    let its_low = leb-true (written_at way piece) byte its.0 in
    let its_high = ltb-true byte (written_at way piece + piece.len) its.1 in
    true≢false (sym (meets_it way first piece (omega (arith, low, its_high)) (omega (arith, its_low, high))) ∙ parts.0)) in
    ap₂ (λ test rest. one_if test + rest) isnt (no_writer way byte first pieces has parts.1)

-- where no two meet each byte has one writer at most
few_writers : (way : Way) (byte : ℕ) (pieces : List Piece) → some_meet way pieces ≡ false → writers way byte pieces ≤ 1
few_writers way byte [] none = omega arith
few_writers way byte (piece ∷ pieces) none =
    let parts = either (list_any (meet way piece) pieces) (some_meet way pieces) none in
    elim (cases_Bool (has_byte way byte piece)) [
      | inl has ↦ (
          let others = no_writer way byte piece pieces has parts.0 in
          let all = ap₂ (λ test rest. one_if test + rest) has others in omega (arith, all))
      | inr hasnt ↦ (
          let others = few_writers way byte pieces parts.1 in
          let all = ap (λ test. one_if test + writers way byte pieces) hasnt in omega (arith, all, others))
    ]

-- a piece that meets one of these shares a byte with it
shared : (way : Way) (first : Piece) (pieces : List Piece) → 0 < first.len → AreFilled pieces
    → list_any (meet way first) pieces ≡ true
    → (byte : ℕ) × (has_byte way byte first ≡ true) × (1 ≤ writers way byte pieces)
shared way first [] some filled any = absurd (true≢false (sym any))
shared way first (piece ∷ pieces) some filled any =
    elim (or_cases (meet way first piece) (list_any (meet way first) pieces) any) [
      | inl here ↦ (
          let parts = and_parts (nat_lt (written_at way first) (written_at way piece + piece.len))
          (nat_lt (written_at way piece) (written_at way first + first.len)) here in
          let low = ltb-true (written_at way first) (written_at way piece + piece.len) parts.0 in
          let high = ltb-true (written_at way piece) (written_at way first + first.len) parts.1 in
          elim (cases_lt (written_at way first) (written_at way piece)) [
            | inl before ↦ (
                let has = has_it way (written_at way piece) piece (omega arith) (omega (arith, filled.0)) in
                let all = ap (λ test. one_if test + writers way (written_at way piece) pieces) has in (
                  written_at way piece,
                  has_it way (written_at way piece) first (omega (arith, before)) high,
                  omega (arith, all),
                ))
            | inr behind ↦ (
                let has = has_it way (written_at way first) piece behind low in
                let all = ap (λ test. one_if test + writers way (written_at way first) pieces) has in (
                  written_at way first,
                  has_it way (written_at way first) first (omega arith) (omega (arith, some)),
                  omega (arith, all),
                ))
          ])
      | inr later ↦ (
          let it = shared way first pieces some filled.1 later in
          let more = it.2 in
          let all : writers way it.0 (piece ∷ pieces) ≡ one_if (has_byte way it.0 piece) + writers way it.0 pieces = refl in
          (it.0, it.1, omega (arith, more, all)))
    ]

-- where two meet a byte has two writers
two_writers : (way : Way) (pieces : List Piece) → AreFilled pieces → some_meet way pieces ≡ true
    → (byte : ℕ) × (2 ≤ writers way byte pieces)
two_writers way [] filled meets = absurd (true≢false (sym meets))
two_writers way (piece ∷ pieces) filled meets =
    elim (or_cases (list_any (meet way piece) pieces) (some_meet way pieces) meets) [
      | inl here ↦ (
          let it = shared way piece pieces filled.0 filled.1 here in
          let more = it.2 in
          let all = ap (λ test. one_if test + writers way it.0 pieces) it.1 in
          (it.0, omega (arith, more, all)))
      | inr later ↦ (
          let it = two_writers way pieces filled.1 later in
          let more = it.1 in
          let all : writers way it.0 (piece ∷ pieces) ≡ one_if (has_byte way it.0 piece) + writers way it.0 pieces = refl in
          (it.0, omega (arith, more, all)))
    ]

writers_sum : (way : Way) (byte : ℕ) (pieces : List Piece)
    → writers way byte pieces ≡ sum_by (λ (piece : Piece). one_if (has_byte way byte piece)) pieces
writers_sum way byte [] = refl
writers_sum way byte (piece ∷ pieces) =
    ap (λ rest. one_if (has_byte way byte piece) + rest) (writers_sum way byte pieces)
    ∙ sym (sum_by-cons (λ (piece : Piece). one_if (has_byte way byte piece)) piece pieces)

same_writers : (way : Way) (byte : ℕ) (one other : List Piece) → IsPermutation one other
    → writers way byte other ≡ writers way byte one
same_writers way byte one other moved =
    writers_sum way byte other
    ∙ sum_by-IsPermutation (λ (piece : Piece). one_if (has_byte way byte piece)) one other moved
    ∙ sym (writers_sum way byte one)

-- ---- pieces with bytes

pub filled_all : (pieces : List Piece) → AreFilled pieces → All (λ (piece : Piece). 0 < piece.len) pieces
filled_all [] filled k d within = absurd (omega (arith, within))
filled_all (piece ∷ pieces) filled zero d within = filled.0
filled_all (piece ∷ pieces) filled (suc k) d within = filled_all pieces filled.1 k d (omega (arith, within))

pub all_filled : (pieces : List Piece) → All (λ (piece : Piece). 0 < piece.len) pieces → AreFilled pieces
all_filled [] all = tt
all_filled (piece ∷ pieces) all = (
  all 0 piece (omega arith),
  all_filled pieces (λ k d within. all (suc k) d (omega (arith, within))),
)

pub filled_moved : (one other : List Piece) → IsPermutation one other → AreFilled one → AreFilled other
filled_moved one other moved filled =
    all_filled other (All-permutation (λ (piece : Piece). 0 < piece.len) one other moved (filled_all one filled))

-- ---- all of it

-- two writers before are two writers after
meet_then : (way : Way) (one other : List Piece) → AreFilled one
    → ((byte : ℕ) → writers way byte other ≡ writers way byte one) → some_meet way one ≡ true
    → some_meet way other ≡ true
meet_then way one other filled same meets = elim (cases_Bool (some_meet way other)) [
  | inl also ↦ also
  | inr none ↦ (
      let it = two_writers way one filled meets in
      let two = it.1 in
      let few = few_writers way it.0 other none in
      absurd (omega (arith, two, few, same it.0)))
]

pub same_meet : (way : Way) (one other : List Piece) → AreFilled one → IsPermutation one other
    → some_meet way one ≡ some_meet way other
same_meet way one other filled moved = same_test (some_meet way one) (some_meet way other)
    (meet_then way one other filled (λ byte. same_writers way byte one other moved))
    (meet_then way other one (filled_moved one other moved filled)
    (λ byte. sym (same_writers way byte one other moved)))
