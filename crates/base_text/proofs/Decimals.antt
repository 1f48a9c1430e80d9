-- The word of a number, and the number of a word.
use Rattle.std.proofs.Common.{◌≡◌, ℕ, zero, suc, ◌+◌, ◌*◌, ◌-◌, ◌<◌, ◌≤◌, ◌^◌, List, [], ◌∷◌, length, take, drop}
use Rattle.std.proofs.Common.{get_or, Some, None, Bool, true, false, cond, ltb, refl, ap, sym, subst, ◌∙◌, arith}
use Rattle.std.proofs.Common.{decimal}
use Rattle.std.specs.Int.{IsInRange}
use Rattle.std.specs.Str.Parse.{digits_value, AllDigits}
use Rattle.std.proofs.lemmas.Str.Parse.{IsNumeralModel, numerals_by_value, tells_digits, digit_at, digits_value-take-le}
use Rattle.std.proofs.lemmas.Str.Parse.{digits_value_short}
use Rattle.std.proofs.lemmas.Fmt.{digits_decimal, digits_value-decimal, decimal-digits_value, decimal_nonempty}
use Rattle.std.proofs.lemmas.Fmt.{decimal_digit, first_decimal}
use Rattle.std.proofs.lemmas.Slice.Eq.{bytes_eq-Decides}
use Rattle.std.proofs.lemmas.Option.{cond_some}
use Rattle.std.proofs.lemmas.List.{length-take-le}
use Rattle.std.proofs.lemmas.Str.{digit_value_digit}
use Rattle.std.proofs.lemmas.Int.Digits.{digits_more, digits_value_more}
use Rattle.std.proofs.lemmas.Bool.{and_parts, and_from, lt-ltb, ltb-true, ltb-false, ne_eqb}
use Rattle.base_text.specs.Lines.{is_stop, first_word}
use Rattle.base_text.specs.Words.{BeginWith, number_of, number_read, fitting}
use Rattle.base_text.proofs.Prefixes.{Runs, StopsAt, parted, prefix_takes, prefix_len, prefix_at, cond_yes}

-- decimal numerals, by their value
pub own : IsNumeralModel (AllDigits 10) (digits_value 10)
own = numerals_by_value (AllDigits 10) tells_digits

-- a test that does not pass
pub not_so : {A : Type 0} (b : Bool) (x y : A) → (b ≡ true → ⊥) → cond b x y ≡ y
not_so true x y h = absurd (h refl)
not_so false x y h = refl

-- a number is read again
pub number_of-decimal : (n : ℕ) → n < 2 ^ 64 → number_of (decimal n) ≡ Some n
unfolding number_of
number_of-decimal n h =
    rw (digits_value-decimal own n h)
    (cond_yes _ _ _ (and_from _ _ ((bytes_eq-Decides (decimal n) (decimal n)).1 refl) (lt-ltb n (2 ^ 64) h)))

-- a word that was read is the text of the number
pub decimal_of_number : (w : List ℕ) (n : ℕ) → number_of w ≡ Some n → (w ≡ decimal n) × (n < 2 ^ 64)
unfolding number_of
decimal_of_number w n h =
    let p = cond_some _ _ _ h in
    let q = and_parts _ _ p.0 in
    let e : w ≡ decimal (digits_value 10 w) = (bytes_eq-Decides w (decimal (digits_value 10 w))).0 q.0 in
    (e ∙ ap (λ k. decimal k) p.1, rw (← p.1) (ltb-true _ _ q.1))

-- a word that is the text of no number
pub no_number : (w : List ℕ) → ((n : ℕ) → n < 2 ^ 64 → w ≡ decimal n → ⊥) → number_of w ≡ None
unfolding number_of
no_number w h = not_so _ _ _ (λ b. let q = and_parts _ _ b in h (digits_value 10 w) (ltb-true _ _ q.1)
    ((bytes_eq-Decides w (decimal (digits_value 10 w))).0 q.0))

-- bytes whose first word is the text of no number
pub none_read : (bs : List ℕ) → ((n : ℕ) → n < 2 ^ 64 → first_word bs ≡ decimal n → ⊥) → number_read bs ≡ None
unfolding number_read
none_read bs h = rw (no_number (first_word bs) h) refl

-- digits end no word
pub digits_run : (bs : List ℕ) (i : ℕ) → i ≤ length bs → AllDigits 10 (take i bs) → Runs bs i
digits_run bs zero h d k lt = absurd (omega arith)
digits_run [] (suc i) h d k lt = absurd (omega arith)
digits_run (b ∷ bs) (suc i) h d zero lt =
    let r = digit_at (b ∷ take i bs) 0 d (omega arith) in
    rw (ne_eqb b 32 (λ e. omega arith), ne_eqb b 10 (λ e. omega arith)) refl
digits_run (b ∷ bs) (suc i) h d (suc k) lt = digits_run bs i (omega arith) d.1 k (omega arith)

-- digits of too great a value
pub too_great : (bs : List ℕ) (i : ℕ) → i ≤ length bs → AllDigits 10 (take i bs) → 2 ^ 64 ≤ digits_value 10
    (take i bs) → number_read bs ≡ None
too_great bs i h d big = none_read bs (λ n lt e.
    let run = digits_run bs i h d in
    let le = digits_value-take-le 10 (first_word bs) i (omega arith) in
    let le2 : digits_value 10 (take i bs) ≤ digits_value 10 (first_word bs) = subst (λ
    (w : List ℕ). digits_value 10 w ≤ digits_value 10 (first_word bs)) (prefix_takes bs i h run) le in
    let same : digits_value 10 (first_word bs) ≡ n = ap (digits_value 10) e ∙ digits_value-decimal own n lt in
    omega arith)

-- the same, by the order of the two places
upto_by : (bs : List ℕ) (i k : ℕ) (t : Bool) → ltb k i ≡ t → Runs bs i → is_stop (get_or bs i 0) ≡ false → k < suc i
    → is_stop (get_or bs k 0) ≡ false
upto_by bs i k true e r s l = r k (ltb-true k i e)
upto_by bs i k false e r s l = let ge = ltb-false k i e in let same : k ≡ i = omega arith in rw same s

-- no word ends before a place, nor there
pub upto : (bs : List ℕ) (i k : ℕ) → Runs bs i → is_stop (get_or bs i 0) ≡ false → k < suc i → is_stop (get_or bs k 0)
    ≡ false
upto bs i k r s l = upto_by bs i k (ltb k i) refl r s l

-- a byte that is no digit stands in the first word
pub no_digit : (bs : List ℕ) (i : ℕ) → i < length bs → AllDigits 10 (take i bs) → is_stop (get_or bs i 0) ≡ false →
    (IsInRange 48 57 (get_or bs i 0) → ⊥) → number_read bs ≡ None
no_digit bs i h d s odd = none_read bs (λ n lt e.
    let before = digits_run bs i (omega arith) d in
    let run : Runs bs (suc i) = λ k l. upto bs i k before s l in
    let long = prefix_len bs (suc i) (omega arith) run in
    let long2 : suc i ≤ length (decimal n) = subst (λ (w : List ℕ). suc i ≤ length w) e long in
    let at : get_or (decimal n) i 0 ≡ get_or bs i 0 = ap (λ (w : List ℕ). get_or w i 0) (sym e) ∙ prefix_at bs
    (suc i) i (omega arith) run (omega arith) in
    odd (subst (IsInRange 48 57) at (digit_at (decimal n) i (digits_decimal own n lt) (omega arith))))

-- a first byte that is no digit, whether or not a word ends there
by_stop : (b : ℕ) (bs : List ℕ) (t : Bool) → is_stop b ≡ t → (IsInRange 48 57 b → ⊥) → number_read (b ∷ bs) ≡ None
by_stop b bs true e odd = none_read (b ∷ bs) (λ n lt s.
    let p = decimal_nonempty n lt in
    let q : [] ≡ first_word (b ∷ bs) = sym (cond_yes _ _ _ e) in
    let r : 0 ≡ length (decimal n) = ap length (q ∙ s) in omega arith)
by_stop b bs false e odd = no_digit (b ∷ bs) 0 (omega arith) tt e odd

-- no word of digits
pub no_digits : (bs : List ℕ) → (0 < length bs → IsInRange 48 57 (get_or bs 0 0) → ⊥) → number_read bs ≡ None
no_digits [] odd = none_read [] (λ n lt e. let p = decimal_nonempty n lt in let q : 0 ≡ length
    (decimal n) = ap length e in omega arith)
no_digits (b ∷ bs) odd = by_stop b bs (is_stop b) refl (odd (omega arith))

-- digits that begin with a zero are one
zero_long : (n : ℕ) → n < 2 ^ 64 → get_or (decimal n) 0 0 ≡ 48 → 1 < length (decimal n) → ⊥
zero_long zero lt at long = let e : length (decimal 0) ≡ 1 = ap length (decimal_digit 0 (omega arith)) in omega arith
zero_long (suc n) lt at long = let gt = first_decimal (suc n) (omega arith) lt in omega arith

-- a zero before other digits
pub zero_first : (bs : List ℕ) (i : ℕ) → i ≤ length bs → 1 < i → AllDigits 10 (take i bs) → get_or bs 0 0 ≡ 48
    → number_read bs ≡ None
zero_first bs i h more d first = none_read bs (λ n lt e.
    let run = digits_run bs i h d in
    let long = prefix_len bs i h run in
    let long2 : i ≤ length (decimal n) = subst (λ (w : List ℕ). i ≤ length w) e long in
    let at : get_or (decimal n) 0 0 ≡ 48 = ap (λ (w : List ℕ). get_or w 0 0) (sym e) ∙
    (prefix_at bs i 0 h run (omega arith) ∙ first) in
    zero_long n lt at (omega arith))

-- the first byte of a prefix
first_taken : (bs : List ℕ) (i : ℕ) → 0 < i → get_or (take i bs) 0 0 ≡ get_or bs 0 0
first_taken bs zero h = absurd (omega arith)
first_taken [] (suc i) h = refl
first_taken (b ∷ bs) (suc i) h = refl

-- a number that was read digit by digit
pub number_is : (bs : List ℕ) (i n : ℕ) → i ≤ length bs → 0 < i → AllDigits 10 (take i bs) → n ≡ digits_value 10
    (take i bs) → n < 2 ^ 64 → (get_or bs 0 0 ≡ 48 → i ≤ 1) → StopsAt bs i → number_read bs ≡ Some (n, drop i bs)
unfolding number_read number_of
number_is bs i n h some d is lt one stops =
    let p = parted bs i h (digits_run bs i h d) stops in
    let small : digits_value 10 (take i bs) < 2 ^ 64 = subst (λ (k : ℕ). k < 2 ^ 64) is lt in
    let len : length (take i bs) ≡ i = length-take-le i bs h in
    let e = decimal-digits_value own (take i bs) d (omega arith) (λ z. let le = one
    (sym (first_taken bs i some) ∙ z) in omega arith) small in
    rw (p.0, p.1) (rw (cond_yes _ (Some (digits_value 10 (take i bs))) None (and_from _ _
    ((bytes_eq-Decides (take i bs) (decimal (digits_value 10 (take i bs)))).1 (sym e)) (lt-ltb _
    (2 ^ 64) small))) (rw (← is) refl))

-- one more digit, and the value then
pub step : (bs : List ℕ) (i n : ℕ) → i < length bs → IsInRange 48 57 (get_or bs i 0) → AllDigits 10 (take i bs) → n
    ≡ digits_value 10 (take i bs) → AllDigits 10 (take (i + 1) bs) × (digits_value 10 (take (i + 1) bs)
    ≡ n * 10 + (get_or bs i 0 - 48))
step bs i n h r d is =
    let v = digit_value_digit (get_or bs i 0) r in
    (digits_more 10 bs i h d (omega arith), (let m = digits_value_more 10 bs i h in omega arith))

-- a number of 64 bits
pub fitting_some : (m k : ℕ) → fitting m ≡ Some k → (m ≡ k) × (k < 2 ^ 64)
fitting_some m k e =
    let p = cond_some _ _ _ e in
    (p.1, subst (λ (n : ℕ). n < 2 ^ 64) p.1 (ltb-true m (2 ^ 64) p.0))

-- the same, by the test
none_by : (b : Bool) (m : ℕ) → ltb m (2 ^ 64) ≡ b → cond b (Some m) None ≡ None → 2 ^ 64 ≤ m
none_by true m t e = absurd (cc)
none_by false m t e = ltb-false m (2 ^ 64) t

-- a greater one
pub fitting_none : (m : ℕ) → fitting m ≡ None → 2 ^ 64 ≤ m
fitting_none m e = none_by (ltb m (2 ^ 64)) m refl e

-- one digit too many
pub overflows : (bs : List ℕ) (i n : ℕ) → i < length bs → IsInRange 48 57 (get_or bs i 0) → AllDigits 10 (take i bs)
    → n ≡ digits_value 10 (take i bs) → fitting (n * 10 + (get_or bs i 0 - 48)) ≡ None → number_read bs ≡ None
overflows bs i n h r d is e =
    let s = step bs i n h r d is in
    let big = fitting_none _ e in
    too_great bs (i + 1) (omega arith) s.0 (omega (arith, s.1))

-- few digits have a small number
pub few_digits : (bytes : List ℕ) (number count : ℕ) → BeginWith bytes number count → count ≤ 18 → number < 10 ^ 18
few_digits bytes number count begin few =
    let same : length (take count bytes) ≡ count = length-take-le count bytes begin.within in
    let below = digits_value_short own (take count bytes) 18 begin.digits (omega (arith, same)) in
    let is = begin.value in omega (arith, below, is)
