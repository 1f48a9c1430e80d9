-- Masks word by word, and as numbers.
use Rattle.std.proofs.Common.{◌≡◌, ℕ, zero, suc, ◌+◌, ◌-◌, ◌*◌, ◌^◌, ◌<◌, List, [], ◌∷◌, length, true, nat_eq}
use Rattle.std.proofs.Common.{sym, ap, ◌∙◌, arith, slice_index_or, min, eqb-true}
use Rattle.std.specs.Prelude.{bit_and, bit_or, slice_set}
use Rattle.std.specs.Int.{bit_at, w64}
use Rattle.std.proofs.lemmas.Nat.{or_block, pow-add}
use Rattle.std.proofs.lemmas.Nat.Bits.{bit_at_cat_low, bit_at_cat_high, bit_at_and, bit_at_not, bit_at-lt}
use Rattle.std.specs.Int.Bits.{or_zero_r}
use Rattle.std.proofs.Math.Pow.{pow-lt}
use Rattle.wire_message.specs.Notifications.{mask_number}
use Rattle.wire_message.proofs.Masks.{four}
use Rattle.part_barrier.specs.Masks.{has, mask_words, low_word, higher}

abbrev pub AreWords : List ℕ → Type 0
AreWords words = (index : ℕ) → index < length words → slice_index_or words index 0 < 2 ^ 64

-- ---- words and numbers, one for one

pub words_number : (number : ℕ) → mask_number (mask_words number) ≡ number
words_number number = omega arith

word_first : (rest word : ℕ) → word < 2 ^ 64 → low_word (rest * 2 ^ 64 + word) ≡ word
word_first rest word small = omega (arith, small)

word_rest : (rest word : ℕ) → word < 2 ^ 64 → higher (rest * 2 ^ 64 + word) ≡ rest
word_rest rest word small = omega (arith, small)

same_four : {first second third fourth one two three four : ℕ}
    → first ≡ one → second ≡ two → third ≡ three → fourth ≡ four
    → first ∷ second ∷ third ∷ fourth ∷ [] ≡ one ∷ two ∷ three ∷ four ∷ []
same_four a b c d = cc

number_words : (first second third fourth : ℕ) → first < 2 ^ 64 → second < 2 ^ 64 → third < 2 ^ 64
    → mask_words (mask_number (first ∷ second ∷ third ∷ fourth ∷ [])) ≡ first ∷ second ∷ third ∷ fourth ∷ []
number_words first second third fourth f s t =
    let top = mask_number (fourth ∷ []) in
    let upper = mask_number (third ∷ fourth ∷ []) in
    let rest = mask_number (second ∷ third ∷ fourth ∷ []) in
    let number = mask_number (first ∷ second ∷ third ∷ fourth ∷ []) in
    let once : higher number ≡ rest = word_rest rest first f in
    let twice : higher (higher number) ≡ upper = ap higher once ∙ word_rest upper second s in
    let thrice : higher (higher (higher number)) ≡ top = ap higher twice ∙ word_rest top third t in
    let last : top ≡ fourth = omega arith in
    same_four (word_first rest first f) (ap low_word once ∙ word_first upper second s)
    (ap low_word twice ∙ word_first top third t) (thrice ∙ last)

-- ---- four words

pub mask_words_is : (words : List ℕ) → length words ≡ 4 → AreWords words → mask_words (mask_number words) ≡ words
mask_words_is words count fits =
    ap (λ list. mask_words (mask_number list)) (sym (four words count))
    ∙ (number_words _ _ _ _ (fits 0 (omega (arith, count))) (fits 1 (omega (arith, count)))
    (fits 2 (omega (arith, count)))
    ∙ four words count)

-- ---- bit by bit

pub union_is : (first second third fourth one two three other : ℕ)
    → first < 2 ^ 64 → second < 2 ^ 64 → third < 2 ^ 64 → fourth < 2 ^ 64
    → one < 2 ^ 64 → two < 2 ^ 64 → three < 2 ^ 64 → other < 2 ^ 64
    → mask_number (bit_or first one ∷ bit_or second two ∷ bit_or third three ∷ bit_or fourth other ∷ [])
    ≡ bit_or (mask_number (first ∷ second ∷ third ∷ fourth ∷ [])) (mask_number (one ∷ two ∷ three ∷ other ∷ []))
union_is first second third fourth one two three other ia ib ic id ie if' ig ih =
    let l3 : mask_number (bit_or fourth other ∷ []) ≡ bit_or (mask_number (fourth ∷ [])) (mask_number (other ∷ [])) =
    sym (or_block 64 0 0 fourth other id ih) in
    let l2 = ap (λ rest. rest * 2 ^ 64 + bit_or third three) l3
    ∙ sym (or_block 64 (mask_number (fourth ∷ [])) (mask_number (other ∷ [])) third three ic ig) in
    let l1 = ap (λ rest. rest * 2 ^ 64 + bit_or second two) l2
    ∙ sym (or_block 64 (mask_number (third ∷ fourth ∷ [])) (mask_number (three ∷ other ∷ [])) second two ib if') in
    ap (λ rest. rest * 2 ^ 64 + bit_or first one) l1 ∙ sym
    (or_block 64 (mask_number (second ∷ third ∷ fourth ∷ [])) (mask_number (two ∷ three ∷ other ∷ [])) first one ia ie)

-- a bit of the number is a bit of a word
pub bit_of : (words : List ℕ) (place bit : ℕ) → bit < 64 → place < length words → AreWords words
    → bit_at (mask_number words) (place * 64 + bit) ≡ bit_at (slice_index_or words place 0) bit
bit_of [] place bit low inside fits = absurd (omega arith)
bit_of (word ∷ words) zero bit low inside fits =
    ap (bit_at (mask_number words * 2 ^ 64 + word)) (omega arith) ∙ bit_at_cat_low (mask_number words) 64 word bit low
bit_of (word ∷ words) (suc place) bit low inside fits =
    bit_at_cat_high (mask_number words) 64 word (suc place * 64 + bit) (fits 0 (omega arith)) (omega arith)
    ∙ (ap (bit_at (mask_number words)) (omega arith)
    ∙ bit_of words place bit low (omega arith) (λ index below. fits (suc index) (omega arith)))

pub set_bit : (words : List ℕ) (which bit : ℕ) → bit < 64 → which < length words → AreWords words
    → mask_number (slice_set words which (bit_or (slice_index_or words which 0) (2 ^ bit))) ≡ bit_or (mask_number words)
    (2 ^ (which * 64 + bit))
set_bit [] which bit low inside fits = absurd (omega arith)
set_bit (word ∷ words) zero bit low inside fits =
    let none : bit_or (mask_number words) 0 ≡ mask_number words = or_zero_r (mask_number words) in
    let small : 2 ^ bit < 2 ^ 64 = pow-lt low in
    let block = or_block 64 (mask_number words) 0 word (2 ^ bit) (fits 0 (omega arith)) small in
    let plain : 0 * 2 ^ 64 + 2 ^ bit ≡ 2 ^ bit = omega arith in
    let place : bit ≡ 0 * 64 + bit = omega arith in
    let zero_block : 0 * 2 ^ 64 + 2 ^ bit ≡ 2 ^ (0 * 64 + bit) = plain ∙ ap (λ power. 2 ^ power) place in
    sym (ap (bit_or (mask_number words * 2 ^ 64 + word)) (sym zero_block)
    ∙ (block ∙ ap (λ rest. rest * 2 ^ 64 + bit_or word (2 ^ bit)) none))
set_bit (word ∷ words) (suc which) bit low inside fits =
    let later = set_bit words which bit low (omega arith) (λ index below. fits (suc index) (omega arith)) in
    let none : bit_or word 0 ≡ word = or_zero_r word in
    let block = or_block 64 (mask_number words) (2 ^ (which * 64 + bit)) word 0 (fits 0 (omega arith)) (omega arith) in
    let plain : 2 ^ (which * 64 + bit) * 2 ^ 64 + 0 ≡ 2 ^ (which * 64 + bit) * 2 ^ 64 = omega arith in
    let place : which * 64 + bit + 64 ≡ suc which * 64 + bit = omega arith in
    let up : 2 ^ (which * 64 + bit) * 2 ^ 64 + 0 ≡ 2 ^ (suc which * 64 + bit) =
    plain ∙ (sym (pow-add 2 (which * 64 + bit) 64) ∙ ap (λ power. 2 ^ power) place) in
    ap (λ rest. rest * 2 ^ 64 + word) later
    ∙ sym (ap (bit_or (mask_number words * 2 ^ 64 + word)) (sym up)
    ∙ (block ∙ ap (λ number. bit_or (mask_number words) (2 ^ (which * 64 + bit)) * 2 ^ 64 + number) none))

-- ---- a bit of one mask that isn't left is in the other one

only_one : (bit other : ℕ) → min bit (1 - other) ≡ 0 → bit ≡ 1 → other < 2 → other ≡ 1
only_one bit zero none one low = absurd (let same : min bit 1 ≡ min 1 1 = ap (λ n. min n 1) one in
    let zero_one : 1 ≡ 0 = sym same ∙ none in omega (arith, zero_one))
only_one bit (suc other) none one low = omega (arith, low)

pub covered : (mask other : List ℕ) (place bit : ℕ) → bit < 64
    → place < length mask → place < length other → AreWords mask → AreWords other
    → bit_at (bit_and (slice_index_or mask place 0) (18446744073709551615 - slice_index_or other place 0)) bit ≡ 0
    → has (mask_number mask) (place * 64 + bit) ≡ true → has (mask_number other) (place * 64 + bit) ≡ true
covered mask other place bit low inside among fits fitted none there =
    let one = sym (bit_of mask place bit low inside fits) ∙ eqb-true (bit_at (mask_number mask) (place * 64 + bit)) 1 there in
    let left = sym (bit_at_and (slice_index_or mask place 0) (18446744073709551615 - slice_index_or other place 0) bit
    ∙ ap (min (bit_at (slice_index_or mask place 0) bit))
    (bit_at_not w64 (slice_index_or other place 0) bit (fitted place among) low)) ∙ none in
    ap (λ n. nat_eq n 1) (bit_of other place bit low among fitted
    ∙ only_one _ _ left one (bit_at-lt (slice_index_or other place 0) bit))
