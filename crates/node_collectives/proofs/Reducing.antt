-- The words of all nodes, taken together one after another.
use Rattle.std.proofs.Common.{◌≡◌, ℕ, zero, suc, ◌+◌, ◌-◌, ◌*◌, ◌%◌, ◌<◌, ◌≤◌, List, ◌++◌, length}
use Rattle.std.proofs.Common.{sym, ap, ap₂, ◌∙◌, arith, take, drop, append-nil}
use Rattle.std.specs.Prelude.{fold}
use Rattle.std.specs.Int.{w64, to_le_bytes}
use Rattle.std.proofs.lemmas.List.{append_assoc, length-drop, length-take-le}
use Rattle.std.proofs.lemmas.Slice.{take-put_mid}
use borrow.Rule.Slice.PartMut.{mid_of, put_mid, same_len_mid}
use Rattle.part_collective_area.specs.Area.{data_in}
use Rattle.part_collective_area.specs.Results.{combination, together_at, together_from, word_at_place}
use Rattle.node_collectives.specs.Progress.{data_of_all}
use Rattle.node_collectives.specs.CollectivesState.{CollectivesState, progress_of}

-- the data of this node and the next ones, and what it makes of a word so far
abbrev folded : CollectivesState → (bytes : List ℕ) → (place node many word : ℕ) → ℕ
folded it bytes place node many word =
    fold (λ so_far given. combination it.shape.kind so_far (word_at_place place given)) word
    (data_of_all it.area (progress_of it) bytes node many)

counted : (node nodes : ℕ) → node < nodes → nodes - node ≡ suc (nodes - (node + 1))
counted node nodes low = omega (arith, low)

next_is : (node : ℕ) → suc node ≡ node + 1
next_is node = omega arith

pub folded_first : (it : CollectivesState) (bytes : List ℕ) (place word : ℕ) → 0 < it.area.nodes
    → word ≡ word_at_place place (data_in bytes it.area (it.ended % 2) 0 it.shape.len)
    → together_at (combination it.shape.kind) (data_of_all it.area (progress_of it) bytes 0 it.area.nodes) place
    ≡ folded it bytes place 1 (it.area.nodes - 1) word
folded_first it bytes place word some is =
    let nodes : it.area.nodes ≡ suc (it.area.nodes - 1) = omega (arith, some) in
    ap (λ (many : ℕ). together_at (combination it.shape.kind) (data_of_all it.area (progress_of it) bytes 0 many) place)
    nodes
    ∙ ap (folded it bytes place 1 (it.area.nodes - 1)) (sym is)

pub folded_on : (it : CollectivesState) (bytes : List ℕ) (place node so_far word all : ℕ) → node < it.area.nodes
    → word ≡ word_at_place place (data_in bytes it.area (it.ended % 2) node it.shape.len)
    → all ≡ combination it.shape.kind so_far word
    → folded it bytes place node (it.area.nodes - node) so_far
    ≡ folded it bytes place (node + 1) (it.area.nodes - (node + 1)) all
folded_on it bytes place node so_far word all low is all_is =
    let rest = it.area.nodes - (node + 1) in
    let taken : combination it.shape.kind so_far (word_at_place place (data_in bytes it.area (it.ended % 2) node it.shape.len))
    ≡ all = ap (combination it.shape.kind so_far) (sym is) ∙ sym all_is in
    ap (λ (many : ℕ). folded it bytes place node many so_far) (counted node it.area.nodes low)
    ∙ (ap (folded it bytes place (suc node) rest) taken
    ∙ ap (λ (at : ℕ). folded it bytes place at rest all) (next_is node))

-- ---- the bytes of all words

-- one more word
together_more : (with : ℕ → ℕ → ℕ) (given : List (List ℕ)) (first count : ℕ)
    → together_from with given first (suc count)
    ≡ together_from with given first count ++ to_le_bytes w64 (together_at with given (first + count))
together_more with given first zero =
    let same : first ≡ first + 0 = omega arith in
    append-nil (to_le_bytes w64 (together_at with given first))
    ∙ ap (λ (place : ℕ). to_le_bytes w64 (together_at with given place)) same
together_more with given first (suc count) =
    let word = to_le_bytes w64 (together_at with given first) in
    let same : suc first + count ≡ first + suc count = omega arith in
    ap (λ (later : List ℕ). word ++ later) (together_more with given (suc first) count)
    ∙ (sym (append_assoc word (together_from with given (suc first) count) _)
    ∙ ap (λ (place : ℕ). (word ++ together_from with given (suc first) count)
    ++ to_le_bytes w64 (together_at with given place)) same)

-- the next word was written behind those before it
pub reduced_on : (with : ℕ → ℕ → ℕ) (given : List (List ℕ)) (piece word : List ℕ) (place len : ℕ)
    → length piece ≡ len → 8 * place + 8 ≤ len → word ≡ to_le_bytes w64 (together_at with given place)
    → take (8 * place) piece ≡ together_from with given 0 place
    → (length (put_mid (8 * place) (8 * place + 8 - 8 * place) piece word) ≡ len)
    × (take (8 * (place + 1)) (put_mid (8 * place) (8 * place + 8 - 8 * place) piece word)
    ≡ together_from with given 0 (place + 1))
reduced_on with given piece word place len long inside is done =
    let at = 8 * place in
    let size = 8 * place + 8 - 8 * place in
    let eight : length word ≡ 8 = ap (λ (bytes : List ℕ). length bytes) is in
    let mid : length (mid_of at size piece) ≡ size =
    length-take-le size (drop at piece) (let rest = length-drop at piece in omega (arith, rest, long, inside)) in
    let one : suc place ≡ place + 1 = omega arith in
    let here : 0 + place ≡ place = omega arith in
    let more : together_from with given 0 place ++ to_le_bytes w64 (together_at with given place)
    ≡ together_from with given 0 (suc place) =
    sym (together_more with given 0 place
    ∙ ap (λ (at_place : ℕ). together_from with given 0 place ++ to_le_bytes w64 (together_at with given at_place)) here) in (
      same_len_mid at size piece word (omega (arith, eight, mid)) ∙ long,
      take-put_mid at size piece word (8 * (place + 1)) (omega (arith, eight)) (omega (arith, long, inside))
          ∙ (ap₂ (λ (prefix behind : List ℕ). prefix ++ behind) done is
          ∙ (more ∙ ap (together_from with given 0) one)),
    )
