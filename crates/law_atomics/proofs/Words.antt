-- What operations leave of a word, and what they find.
use Rattle.std.proofs.Common.{◌≡◌, inl, inr, ℕ, zero, suc, ◌+◌, ◌%◌, ◌≤◌, true, List, [], ◌∷◌}
use Rattle.std.proofs.Common.{length, take, Some, refl, sym, ap, ◌∙◌, subst, arith}
use Rattle.std.specs.Prelude.{◌≢◌, fold, ◌==◌, nat_le}
use Rattle.std.specs.List.{slice_get}
use Rattle.std.specs.Int.{w64, from_le_bytes}
use Rattle.std.proofs.lemmas.Bool.{cases_lt, cases_eq, and_parts, leb-true, eqb-true, eq-eqb, ne_eqb}
use Rattle.std.proofs.lemmas.Option.{same_Some}
use Rattle.part_segment.specs.Image.{overwritten, written_by}
use Rattle.part_segment.proofs.Images.{length-overwritten}
use Rattle.part_collective_area.proofs.Bytes.{part_spared}
use Rattle.law_messages.specs.Ranges.{SparesRange}
use Rattle.law_messages.proofs.Ranges.{word_written}
use Rattle.node_atomics.specs.declared.word.WordOp.{WordOp}
use Rattle.node_atomics.specs.Words.{applied_by}
use Rattle.node_atomics.specs.BatchRequests.{are_inside, are_words_aligned}
use Rattle.node_atomics.specs.Served.{word_in, change_of, changes_of, olds_of}
use Rattle.law_atomics.specs.Batches.{left_of, on_word}

-- ---- good operations

-- all words of a list lie inside, and at multiples of 8
pub record Good (len : ℕ) (ops : List WordOp) : Type 0 where
  pub inside : are_inside len ops ≡ true
  pub aligned : are_words_aligned ops ≡ true

good_parts : (len : ℕ) (word : WordOp) (ops : List WordOp) → Good len (word ∷ ops)
    → (word.offset + 8 ≤ len) × (word.offset % 8 ≡ 0) × Good len ops
good_parts len word ops good =
    let inside = and_parts (nat_le (word.offset + 8) len) (are_inside len ops) good.inside in
    let aligned = and_parts (word.offset % 8 == 0) (are_words_aligned ops) good.aligned in (
      leb-true (word.offset + 8) len inside.0,
      eqb-true (word.offset % 8) 0 aligned.0,
      record { inside = inside.1; aligned = aligned.1 },
    )

-- ---- one operation

-- the word that it leaves at its place
word_changed : (bytes : List ℕ) (word : WordOp) → word.offset + 8 ≤ length bytes
    → word_in (overwritten bytes (change_of bytes word)) word.offset ≡ left_of (word_in bytes word.offset) word
word_changed bytes word inside =
    word_written bytes word.offset (applied_by (word_in bytes word.offset) word) inside

-- it spares each other word at a multiple of 8
other_spared : (bytes : List ℕ) (word : WordOp) (offset : ℕ) → word.offset % 8 ≡ 0 → offset % 8 ≡ 0
    → word.offset ≢ offset → SparesRange (change_of bytes word) offset 8
other_spared bytes word offset here_aligned aligned other = inr (elim (cases_lt word.offset offset) [
  | inl before ↦ inl (omega (arith, here_aligned, aligned, before))
  | inr behind ↦ inr (omega (arith, here_aligned, aligned, other, behind))
])

on_word_here : (offset : ℕ) (word : WordOp) (ops : List WordOp) → word.offset ≡ offset
    → on_word offset (word ∷ ops) ≡ word ∷ on_word offset ops
on_word_here offset word ops here = rw (eq-eqb word.offset offset here) refl

on_word_other : (offset : ℕ) (word : WordOp) (ops : List WordOp) → word.offset ≢ offset
    → on_word offset (word ∷ ops) ≡ on_word offset ops
on_word_other offset word ops other = rw (ne_eqb word.offset offset other) refl

-- one operation, and then others on the word
word_step : (bytes : List ℕ) (word : WordOp) (offset : ℕ) (later : List WordOp)
    → word.offset + 8 ≤ length bytes → word.offset % 8 ≡ 0 → offset % 8 ≡ 0
    → fold left_of (word_in (overwritten bytes (change_of bytes word)) offset) (on_word offset later)
    ≡ fold left_of (word_in bytes offset) (on_word offset (word ∷ later))
word_step bytes word offset later inside here_aligned aligned =
    let change = change_of bytes word in
    elim (cases_eq word.offset offset) [
      | inl here ↦ ap (λ (old : ℕ). fold left_of old (on_word offset later))
          (subst (λ (at : ℕ). word_in (overwritten bytes change) at ≡ left_of (word_in bytes at) word) here
          (word_changed bytes word inside))
          ∙ ap (fold left_of (word_in bytes offset)) (sym (on_word_here offset word later here))
      | inr other ↦ ap (λ (part : List ℕ). fold left_of (from_le_bytes w64 part) (on_word offset later))
          (part_spared bytes change offset 8 inside (other_spared bytes word offset here_aligned aligned other))
          ∙ ap (fold left_of (word_in bytes offset)) (sym (on_word_other offset word later other))
    ]

-- ---- operations in order

-- what they leave of a word at a multiple of 8
pub word_after : (len : ℕ) (bytes : List ℕ) (ops : List WordOp) (offset : ℕ) → length bytes ≡ len
    → Good len ops → offset % 8 ≡ 0
    → word_in (written_by bytes (changes_of bytes ops)) offset
    ≡ fold left_of (word_in bytes offset) (on_word offset ops)
word_after len bytes [] offset long good aligned = refl
word_after len bytes (word ∷ ops) offset long good aligned =
    let parts = good_parts len word ops good in
    let inside : word.offset + 8 ≤ length bytes = omega (arith, parts.0, long) in
    let change = change_of bytes word in
    word_after len (overwritten bytes change) ops offset (length-overwritten bytes change inside ∙ long) parts.2
    aligned
    ∙ word_step bytes word offset ops inside parts.1 aligned

-- the length that they leave
pub length-changed : (len : ℕ) (bytes : List ℕ) (ops : List WordOp) → length bytes ≡ len → Good len ops
    → length (written_by bytes (changes_of bytes ops)) ≡ len
length-changed len bytes [] long good = long
length-changed len bytes (word ∷ ops) long good =
    let parts = good_parts len word ops good in
    let inside : word.offset + 8 ≤ length bytes = omega (arith, parts.0, long) in
    let change = change_of bytes word in
    length-changed len (overwritten bytes change) ops (length-overwritten bytes change inside ∙ long) parts.2

-- what one of them finds
pub old_at : (len : ℕ) (bytes : List ℕ) (ops : List WordOp) (place : ℕ) (word : WordOp) (offset : ℕ)
    → length bytes ≡ len → Good len ops → offset % 8 ≡ 0 → slice_get ops place ≡ Some word
    → word.offset ≡ offset
    → slice_get (olds_of bytes ops) place
    ≡ Some (fold left_of (word_in bytes offset) (on_word offset (take place ops)))
old_at len bytes [] place word offset long good aligned at here = absurd (cc)
old_at len bytes (first ∷ ops) zero word offset long good aligned at here =
    let is : first.offset ≡ offset = ap (λ (one : WordOp). one.offset) (same_Some first word at) ∙ here in
    ap (λ (place : ℕ). Some (word_in bytes place)) is
old_at len bytes (first ∷ ops) (suc place) word offset long good aligned at here =
    let parts = good_parts len first ops good in
    let inside : first.offset + 8 ≤ length bytes = omega (arith, parts.0, long) in
    let change = change_of bytes first in
    old_at len (overwritten bytes change) ops place word offset (length-overwritten bytes change inside ∙ long)
    parts.2 aligned at here
    ∙ ap Some (word_step bytes first offset (take place ops) inside parts.1 aligned)
