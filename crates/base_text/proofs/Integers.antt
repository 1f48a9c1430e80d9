-- The word of a number of 32 bits, and the number of a word.
use Rattle.std.proofs.Common.{◌≡◌, ℕ, zero, suc, ℤ, pos, negsuc, ◌<◌, ◌≤◌, ◌^◌, List, [], ◌∷◌, Some, None, false, eqb}
use Rattle.std.proofs.Common.{ltb, leb, ◌&&◌, get_or, drop, refl, ap, ◌∙◌, arith, decimal, FitsSigned}
use Rattle.std.specs.Int.{w32}
use Rattle.std.specs.Fmt.{signed_decimal}
use Rattle.std.specs.Str.Parse.{AllDigits}
use Rattle.std.proofs.lemmas.Str.Parse.{digit_from_value}
use Rattle.std.proofs.lemmas.Fmt.{digits_decimal}
use Rattle.std.proofs.lemmas.Bool.{and_parts, and_from, lt-ltb, ltb-true, le-leb, leb-true, ne_eqb, eqb-true}
use Rattle.base_text.specs.Words.{number_of, negative_number, plain, integer_of}
use Rattle.base_text.proofs.Takes.{Takes, takes_some, takes_none, takes_then, takes_if}
use Rattle.base_text.proofs.Decimals.{own, number_of-decimal, decimal_of_number}
use Rattle.base_text.proofs.Prefixes.{cond_yes, cond_no}

-- the word of an integer and its range
pub record IsInteger (word : List ℕ) (z : ℤ) : Type 0 where
  pub spells : word ≡ signed_decimal z
  pub fits : FitsSigned w32 z

-- a number that was read
pub number_takes : (word : List ℕ) → Takes (λ n. (word ≡ decimal n) × (n < 2 ^ 64)) (number_of word)
number_takes word = record { so = λ n e. decimal_of_number word n e }

-- a number without a sign that was read
plain_takes : (word : List ℕ) (n : ℕ) → word ≡ decimal n → Takes (IsInteger word) (plain n)
plain_takes word n e = takes_if {P = IsInteger word} {b = ltb n (2 ^ 31)} {r = Some (pos n)} {s = None}
    (λ b. takes_some {x = pos n} (record { spells = e; fits = record { sfits = ltb-true _ _ b } })) (λ b. takes_none)

-- a number with a sign that was read
negated_takes : (word : List ℕ) (n : ℕ) → word ≡ 45 ∷ decimal n → Takes (IsInteger word) (negative_number n)
negated_takes word zero e = takes_none
negated_takes word (suc n) e = takes_if {P = IsInteger word} {b = leb 1 (suc n) && leb (suc n) (2 ^ 31)} {r = Some
    (negsuc n)} {s = None} (λ b.
    let q = and_parts _ _ b in
    let le : suc n ≤ 2 ^ 31 = leb-true _ _ q.1 in
    takes_some {x = negsuc n} (record { spells = e; fits = record { sfits = omega arith } })) (λ b. takes_none)

-- a word by its first byte and the others
pub first_is : (word : List ℕ) (b : ℕ) → get_or word 0 0 ≡ suc b → word ≡ suc b ∷ drop 1 word
first_is [] b e = absurd (cc)
first_is (x ∷ xs) b e = ap (λ y. y ∷ xs) e

-- a word that was read as an integer
pub integer_takes : (word : List ℕ) → Takes (IsInteger word) (integer_of word)
unfolding integer_of
integer_takes word =
    takes_if
    (λ b. takes_then (λ n. (drop 1 word ≡ decimal n) × (n < 2 ^ 64)) (number_takes (drop 1 word))
    (λ n h. negated_takes word n (first_is word 44 (eqb-true _ _ b) ∙ ap (λ ds. 45 ∷ ds) h.0)))
    (λ b. takes_then (λ n. (word ≡ decimal n) × (n < 2 ^ 64)) (number_takes word) (λ n h. plain_takes word n h.0))

-- digits do not begin with a sign
no_sign : (ds : List ℕ) → AllDigits 10 ds → eqb (get_or ds 0 0) 45 ≡ false
no_sign [] h = refl
no_sign (d ∷ ds) h = ne_eqb d 45 (λ e. let r = digit_from_value d h.0 in omega arith)

-- an integer is read again
pub integer_again : (z : ℤ) → FitsSigned w32 z → integer_of (signed_decimal z) ≡ Some z
unfolding integer_of
integer_again (pos n) h =
    let lt : n < 2 ^ 31 = h.sfits in
    cond_no _ _ _ (no_sign (decimal n) (digits_decimal own n (omega arith))) ∙
    rw (number_of-decimal n (omega arith)) (cond_yes _ _ _ (lt-ltb n (2 ^ 31) lt))
integer_again (negsuc n) h =
    let lt : n < 2 ^ 31 = h.sfits in
    rw (number_of-decimal (suc n) (omega arith)) (cond_yes _ _ _ (and_from _ _ (le-leb 1 (suc n) (omega arith))
    (le-leb (suc n) (2 ^ 31) (omega arith))))
