-- Operations in order: one more at the end, and what holds of each of them.
use Rattle.std.proofs.Common.{◌≡◌, ℕ, ◌+◌, ◌<◌, ◌≤◌, Bool, true, true≢false, List, [], ◌∷◌, ◌++◌}
use Rattle.std.proofs.Common.{length, get_or, take, refl, sym, ap, ◌∙◌, append_assoc, inl, inr}
use Rattle.std.specs.Prelude.{nat_le}
use Rattle.std.specs.List.{list_all, flat_map}
use Rattle.std.specs.Int.{w64, to_le_bytes}
use Rattle.std.proofs.lemmas.Bool.{cases_Bool, leb-true}
use Rattle.std.proofs.lemmas.List.{take_more}
use Rattle.std.proofs.lemmas.List.Folds.{list_all_at}
use Rattle.std.proofs.lemmas.Grind.{flat_map-append}
use Rattle.part_segment.specs.Image.{Write, overwritten, written_by}
use Rattle.part_segment.proofs.Images.{written_by-append}
use Rattle.node_atomics.specs.declared.word.WordOp.{WordOp}
use Rattle.node_atomics.specs.BatchRequests.{are_inside}
use Rattle.node_atomics.specs.Served.{word_in, change_of, changes_of, olds_of}

-- what holds of all elements of a list holds of each
pub all_at : {X : Type 0} (test : X → Bool) (xs : List X) (i : ℕ) (other : X) → i < length xs
    → list_all test xs ≡ true → test (get_or xs i other) ≡ true
all_at test xs i other low all = elim (cases_Bool (test (get_or xs i other))) [
  | inl passes ↦ passes
  | inr fails ↦ absurd (true≢false (sym all ∙ list_all_at test xs i other low fails))
]

-- so do words that lie inside
pub inside_at : (segment : ℕ) (ops : List WordOp) (i : ℕ) (other : WordOp) → i < length ops
    → are_inside segment ops ≡ true → (get_or ops i other).offset + 8 ≤ segment
inside_at segment ops i other low all =
    leb-true _ _ (all_at (λ (word : WordOp). nat_le (word.offset + 8) segment) ops i other low all)

-- one more operation: what it writes
pub changes_push : (ops : List WordOp) (segment : List ℕ) (word : WordOp)
    → changes_of segment (ops ++ word ∷ [])
    ≡ changes_of segment ops ++ change_of (written_by segment (changes_of segment ops)) word ∷ []
changes_push [] segment word = refl
changes_push (first ∷ ops) segment word =
    ap (λ (later : List Write). change_of segment first ∷ later)
    (changes_push ops (overwritten segment (change_of segment first)) word)

-- and what it finds
pub olds_push : (ops : List WordOp) (segment : List ℕ) (word : WordOp)
    → olds_of segment (ops ++ word ∷ [])
    ≡ olds_of segment ops ++ word_in (written_by segment (changes_of segment ops)) word.offset ∷ []
olds_push [] segment word = refl
olds_push (first ∷ ops) segment word =
    ap (λ (later : List ℕ). word_in segment first.offset ∷ later)
    (olds_push ops (overwritten segment (change_of segment first)) word)

-- so it is of the operations that a loop did so far, and the next one
pub segment_more : (ops : List WordOp) (i : ℕ) (other : WordOp) (segment : List ℕ) → i < length ops
    → overwritten (written_by segment (changes_of segment (take i ops)))
    (change_of (written_by segment (changes_of segment (take i ops))) (get_or ops i other))
    ≡ written_by segment (changes_of segment (take (i + 1) ops))
segment_more ops i other segment low =
    let word = get_or ops i other in
    sym (ap (λ (done : List WordOp). written_by segment (changes_of segment done)) (take_more ops i other low)
    ∙ (ap (written_by segment) (changes_push (take i ops) segment word)
    ∙ written_by-append segment (changes_of segment (take i ops))
    (change_of (written_by segment (changes_of segment (take i ops))) word ∷ [])))

pub block_more : (ops : List WordOp) (i : ℕ) (other : WordOp) (segment : List ℕ) → i < length ops
    → flat_map (to_le_bytes w64) (olds_of segment (take i ops))
    ++ to_le_bytes w64 (word_in (written_by segment (changes_of segment (take i ops))) (get_or ops i other).offset)
    ≡ flat_map (to_le_bytes w64) (olds_of segment (take (i + 1) ops))
block_more ops i other segment low =
    let word = get_or ops i other in
    let old = word_in (written_by segment (changes_of segment (take i ops))) word.offset in
    sym (ap (λ (done : List WordOp). flat_map (to_le_bytes w64) (olds_of segment done)) (take_more ops i other low)
    ∙ (ap (flat_map (to_le_bytes w64)) (olds_push (take i ops) segment word)
    ∙ flat_map-append (to_le_bytes w64) (olds_of segment (take i ops)) (old ∷ [])))

-- the block, where one word more was pushed behind it
pub pushed_more : (ops : List WordOp) (i : ℕ) (other : WordOp) (segment now before items : List ℕ) (old : ℕ)
    → i < length ops → now ≡ written_by segment (changes_of segment (take i ops))
    → items ≡ before ++ flat_map (to_le_bytes w64) (olds_of segment (take i ops))
    → old ≡ word_in now (get_or ops i other).offset
    → items ++ to_le_bytes w64 old ≡ before ++ flat_map (to_le_bytes w64) (olds_of segment (take (i + 1) ops))
pushed_more ops i other segment now before items old low segment_is items_are is =
    let word = get_or ops i other in
    ap (λ (number : ℕ). items ++ to_le_bytes w64 number) is
    ∙ (ap (λ (bytes : List ℕ). items ++ to_le_bytes w64 (word_in bytes word.offset)) segment_is
    ∙ (ap (λ (list : List ℕ). list
    ++ to_le_bytes w64 (word_in (written_by segment (changes_of segment (take i ops))) word.offset)) items_are
    ∙ (append_assoc before (flat_map (to_le_bytes w64) (olds_of segment (take i ops))) _
    ∙ ap (λ (list : List ℕ). before ++ list) (block_more ops i other segment low))))
