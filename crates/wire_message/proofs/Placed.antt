-- Writes at places, one after the other.
use Rattle.std.proofs.Common.{◌≡◌, ℕ, ◌+◌, ◌*◌, ◌<◌, ◌≤◌, List, [], ◌∷◌, ◌++◌, length, get_or, take, drop, sym, ap, ◌∙◌}
use Rattle.std.proofs.Common.{append_assoc, arith, ℤ}
use Rattle.std.specs.List.{flat_map}
use Rattle.std.proofs.lemmas.List.{length-append, length-take, drop-drop, take_at, drop_at, take_more, append-nil}
use Rattle.std.proofs.lemmas.List.Concat.{flat_map-append}
use Rattle.wire_message.specs.Content.{word}
use Rattle.wire_message.proofs.Words.{length-words}

-- what stands after n bytes were written at a place
abbrev pub placed : List ℕ → ℕ → List ℕ → ℕ → List ℕ
placed old at bytes n = take at old ++ bytes ++ drop (at + n) old

-- two writes, one behind the other, are one
pub placed_more : (old : List ℕ) (at : ℕ) (first second : List ℕ) (n more : ℕ) → length first ≡ n → at + n ≤ length old
    → placed (placed old at first n) (at + n) second more ≡ placed old at (first ++ second) (n + more)
placed_more old at first second n more e h =
    let prefix : List ℕ = take at old ++ first in
    let len : length prefix ≡ at + n = omega (arith, length-append (take at old) first, length-take at old) in
    let before : take (at + n) (placed old at first n) ≡ prefix = take_at prefix (drop (at + n) old) (at + n) len in
    let behind : drop (at + n + more) (placed old at first n) ≡ drop (at + (n + more)) old =
    sym (drop-drop more (at + n) (placed old at first n))
    ∙ ap (drop more) (drop_at prefix (drop (at + n) old) (at + n) len)
    ∙ drop-drop more (at + n) old
    ∙ ap (λ (k : ℕ). drop k old) (omega arith) in
    ap (λ (z : List ℕ). z ++ second ++ drop (at + n + more) (placed old at first n)) before
    ∙ ap (λ (z : List ℕ). prefix ++ second ++ z) behind
    ∙ ap (λ (z : List ℕ). z ++ drop (at + (n + more)) old) (append_assoc (take at old) first second)

-- one argument more
pub words_more : (old : List ℕ) (at : ℕ) (args : List ℤ) (i : ℕ) (d : ℤ) → i < length args
    → at + 4 * length args ≤ length old
    → placed (placed old at (flat_map word (take i args)) (4 * i)) (at + 4 * i) (word (get_or args i d)) 4
    ≡ placed old at (flat_map word (take (i + 1) args)) (4 * (i + 1))
words_more old at args i d lt fits =
    let so_far : List ℕ = flat_map word (take i args) in
    let next : List ℕ = word (get_or args i d) in
    let len : length so_far ≡ 4 * i = omega (arith, length-words (take i args), length-take i args) in
    let one : flat_map word (take (i + 1) args) ≡ so_far ++ next =
    ap (flat_map word) (take_more args i d lt)
    ∙ flat_map-append word (take i args) (get_or args i d ∷ [])
    ∙ ap (λ (z : List ℕ). so_far ++ z) (append-nil next) in
    let k : 4 * i + 4 ≡ 4 * (i + 1) = omega arith in
    placed_more old at so_far next (4 * i) 4 len (omega arith)
    ∙ ap (placed old at (so_far ++ next)) k
    ∙ ap (λ (z : List ℕ). placed old at z (4 * (i + 1))) (sym one)

-- a buffer, and the three writes into it; n bytes of arguments
pub record ThreeWrites (old header words payload : List ℕ) (n : ℕ) : Type 0 where
  pub first : List ℕ
  pub second : List ℕ
  pub third : List ℕ
  pub forty : length header ≡ 40
  pub many : length words ≡ n
  pub fits : 40 + n + length payload ≤ length old
  pub one : first ≡ placed old 0 header 40
  pub two : second ≡ placed first 40 words n
  pub three : third ≡ placed second (40 + n) payload (length payload)

pub all_written : (old header words payload : List ℕ) (n : ℕ) (writes : ThreeWrites old header words payload n)
    → writes.third ≡ header ++ words ++ payload ++ drop (40 + n + length payload) old
all_written old header words payload n writes =
    let p = length payload in
    let two : writes.second ≡ placed old 0 (header ++ words) (40 + n) =
    writes.two
    ∙ ap (λ (z : List ℕ). placed z 40 words n) writes.one
    ∙ placed_more old 0 header words 40 n writes.forty (omega (arith, writes.fits)) in
    let at : 40 + n ≡ 0 + (40 + n) = omega arith in
    let end : 0 + (40 + n + p) ≡ 40 + n + p = omega arith in
    let len = length-append header words in
    writes.three
    ∙ ap (λ (z : List ℕ). placed z (40 + n) payload p) two
    ∙ ap (λ (k : ℕ). placed (placed old 0 (header ++ words) (40 + n)) k payload p) at
    ∙ placed_more old 0 (header ++ words) payload (40 + n) p (omega (arith, len, writes.forty, writes.many))
    (omega (arith, writes.fits))
    ∙ ap (λ (k : ℕ). header ++ words ++ payload ++ drop k old) end
