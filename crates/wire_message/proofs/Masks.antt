-- Masks of nodes, word by word and as numbers.
use Rattle.std.proofs.Common.{◌≡◌, ℕ, zero, suc, ◌+◌, ◌-◌, ◌*◌, ◌^◌, ◌<◌, Bool, true, false, not, ltb, ◌&&◌, ◌||◌}
use Rattle.std.proofs.Common.{List, [], ◌∷◌, length, get_or, refl, sym, ap, ◌∙◌, arith, inl, inr}
use Rattle.std.proofs.lemmas.Bool.{cases_lt, lt-ltb, le-ltb}
use Rattle.std.proofs.lemmas.Nat.{pow_pos, pow-add}
use Rattle.std.proofs.Math.Pow.{pow-lt}
use Rattle.wire_message.specs.Notifications.{mask_number, word_fits, mask_fits}

-- ---- tests

same_test : (a b c d : ℕ) → (a < b → c < d) → (c < d → a < b) → ltb a b ≡ ltb c d
same_test a b c d up down =
    elim (cases_lt a b) [
      | inl low ↦ lt-ltb a b low ∙ sym (lt-ltb c d (up low))
      | inr high ↦ (
          elim (cases_lt c d) [
            | inl low ↦ absurd (omega (arith, down low))
            | inr other ↦ le-ltb a b high ∙ sym (le-ltb c d other)
          ]
          )
    ]

both_tests : (a b c d e f : ℕ) → (a < b → c < d → e < f) → (e < f → (a < b) × (c < d))
    → (ltb a b && ltb c d) ≡ ltb e f
both_tests a b c d e f up down =
    elim (cases_lt a b) [
      | inl low ↦ ap (λ test. test && ltb c d) (lt-ltb a b low) ∙ same_test c d e f (up low) (λ h. (down h).1)
      | inr high ↦ (
          elim (cases_lt e f) [
            | inl low ↦ absurd (omega (arith, (down low).0))
            | inr other ↦ ap (λ test. test && ltb c d) (le-ltb a b high) ∙ sym (le-ltb e f other)
          ]
          )
    ]

-- ---- words

abbrev pub AreWords : List ℕ → Type 0
AreWords words = (i : ℕ) → get_or words i 0 < 2 ^ 64

-- each word names none but its own nodes
words_fit : List ℕ → (nodes : ℕ) → Bool
words_fit [] nodes = true
words_fit (word ∷ words) nodes = word_fits word nodes && words_fit words (nodes - 64)

words_fit_is : (words : List ℕ) (nodes : ℕ) → AreWords words
    → words_fit words nodes ≡ ltb (mask_number words) (2 ^ nodes)
unfolding words_fit
words_fit_is [] nodes are = sym (lt-ltb 0 (2 ^ nodes) (pow_pos nodes))
words_fit_is (word ∷ words) nodes are =
    let rest = words_fit_is words (nodes - 64) (λ i. are (suc i)) in
    let number = mask_number words in
    let small : word < 2 ^ 64 = are 0 in
    elim (cases_lt nodes 64) [
      | inl few ↦ (
          let none : nodes - 64 ≡ 0 = omega (arith, few) in
          let limit : 2 ^ nodes < 2 ^ 64 = pow-lt few in
          ap (λ test. (not test || ltb word (2 ^ nodes)) && words_fit words (nodes - 64)) (lt-ltb nodes 64 few)
          ∙ (ap (λ test. ltb word (2 ^ nodes) && test) (rest ∙ ap (λ n. ltb number (2 ^ n)) none)
          ∙ both_tests word (2 ^ nodes) number 1 (number * 2 ^ 64 + word) (2 ^ nodes)
          (λ h k. omega (arith, h, k)) (λ h. (omega (arith, h, limit), omega (arith, h, limit))))
          )
      | inr many ↦ (
          let other = 2 ^ (nodes - 64) in
          let whole : 2 ^ nodes ≡ other * 2 ^ 64 = ap (λ n. 2 ^ n) (omega (arith, many)) ∙ pow-add 2 (nodes - 64) 64 in
          ap (λ test. (not test || ltb word (2 ^ nodes)) && words_fit words (nodes - 64)) (le-ltb nodes 64 many)
          ∙ (rest
          ∙ same_test number other (number * 2 ^ 64 + word) (2 ^ nodes)
          (λ h. omega (arith, h, whole, small)) (λ h. omega (arith, h, whole, small)))
          )
    ]

-- ---- four words

pub four : (mask : List ℕ) → length mask ≡ 4
    → get_or mask 0 0 ∷ get_or mask 1 0 ∷ get_or mask 2 0 ∷ get_or mask 3 0 ∷ [] ≡ mask
four [] e = absurd (omega arith)
four (a ∷ []) e = absurd (omega arith)
four (a ∷ b ∷ []) e = absurd (omega arith)
four (a ∷ b ∷ c ∷ []) e = absurd (omega arith)
four (a ∷ b ∷ c ∷ d ∷ []) e = refl
four (a ∷ b ∷ c ∷ d ∷ f ∷ words) e = absurd (omega arith)

grouped : (a b c d : Bool) → (((a && b) && c) && d) ≡ (a && (b && (c && (d && true))))
grouped false b c d = refl
grouped true false c d = refl
grouped true true false d = refl
grouped true true true false = refl
grouped true true true true = refl

pub mask_fits_is : (mask : List ℕ) (nodes : ℕ) → length mask ≡ 4 → AreWords mask
    → mask_fits mask nodes ≡ ltb (mask_number mask) (2 ^ nodes)
unfolding words_fit
mask_fits_is mask nodes e are =
    let fits = λ (i n : ℕ). word_fits (get_or mask i 0) n in
    let third : nodes - 128 ≡ nodes - 64 - 64 = omega arith in
    let fourth : nodes - 192 ≡ nodes - 64 - 64 - 64 = omega arith in
    ap (λ n. fits 0 nodes && fits 1 (nodes - 64) && fits 2 n && fits 3 (nodes - 192)) third
    ∙ (ap (λ n. fits 0 nodes && fits 1 (nodes - 64) && fits 2 (nodes - 64 - 64) && fits 3 n) fourth
    ∙ (grouped (fits 0 nodes) (fits 1 (nodes - 64)) (fits 2 (nodes - 64 - 64)) (fits 3 (nodes - 64 - 64 - 64))
    ∙ (ap (λ words. words_fit words nodes) (four mask e) ∙ words_fit_is mask nodes are)))

pub are_words : (a b c d : ℕ) → a < 2 ^ 64 → b < 2 ^ 64 → c < 2 ^ 64 → d < 2 ^ 64 → (i : ℕ)
    → get_or (a ∷ b ∷ c ∷ d ∷ []) i 0 < 2 ^ 64
are_words a b c d first second third fourth zero = first
are_words a b c d first second third fourth (suc zero) = second
are_words a b c d first second third fourth (suc (suc zero)) = third
are_words a b c d first second third fourth (suc (suc (suc zero))) = fourth
are_words a b c d first second third fourth (suc (suc (suc (suc i)))) = omega arith
