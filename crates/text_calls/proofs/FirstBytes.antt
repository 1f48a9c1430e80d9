-- A number of an action, by its first byte.
use Rattle.std.proofs.Common.{◌≡◌, ℕ, ℤ, List, [], ◌∷◌, get_or, drop, Option, Some, None, Bool, true, false, cond}
use Rattle.std.proofs.Common.{eqb, refl, ap, sym, subst, ◌∙◌}
use Rattle.std.proofs.lemmas.Bool.{ne_eqb, eqb-true}
use Rattle.text_calls.specs.declared.values.Operand.{Operand}
use Rattle.text_calls.specs.declared.values.Operand.TheVariants as operand
use Rattle.base_text.specs.Lines.{◌>>=◌, is_stop, first_word, behind_word}
use Rattle.base_text.specs.Words.{number_of, number_read, number_in, negative_number, plain, integer_of}
use Rattle.base_text.specs.Words.{integer_read}
use Rattle.text_calls.specs.Kinds.{schedule_operand, body_operand}
use Rattle.text_calls.specs.Forms.{Integer, Value, BodyValue, word_at, value_read, body_value_read}

-- a first byte that ends no word, by whether a word ends
first_by : (t : Bool) (b : ℕ) (bs : List ℕ) (letter : ℕ) → is_stop b ≡ t → is_stop letter ≡ false → eqb 0 letter
    ≡ false → eqb (get_or (cond t [] (b ∷ first_word bs)) 0 0) letter ≡ eqb b letter
first_by true b bs letter e s z = z ∙ sym (ne_eqb b letter (λ same. let f = subst (λ (n : ℕ). is_stop n
    ≡ true) same e in absurd (cc)))
first_by false b bs letter e s z = refl

-- the first byte of bytes and of their prefix
first_same : (bs : List ℕ) (letter : ℕ) → is_stop letter ≡ false → eqb 0 letter ≡ false → eqb
    (get_or (first_word bs) 0 0) letter ≡ eqb (get_or bs 0 0) letter
first_same [] letter s z = refl
first_same (b ∷ bs) letter s z = first_by (is_stop b) b bs letter refl s z

-- a letter, and the bytes after it
letter_is : (bs : List ℕ) (letter : ℕ) → eqb (get_or bs 0 0) letter ≡ true → eqb 0 letter ≡ false → bs
    ≡ letter ∷ drop 1 bs
letter_is [] letter e z = absurd (cc)
letter_is (b ∷ bs) letter e z = ap (λ n. n ∷ bs) (eqb-true b letter e)

then_word : {A B : Type 0} (o : Option A) (f : A → Option B) (rest : List ℕ) → ◌>>=◌ {B = B × List ℕ} (o >>= f)
    (λ z. Some (z, rest)) ≡ ◌>>=◌ {B = B × List ℕ} (◌>>=◌ {B = A × List ℕ} o (λ n. Some (n, rest)))
    (λ x. ◌>>=◌ {B = B × List ℕ} (f x.0) (λ z. Some (z, x.1)))
then_word None f rest = refl
then_word (Some n) f rest = refl

map_word : {A B : Type 0} (o : Option A) (f : A → B) (rest : List ℕ) → ◌>>=◌ {B = B × List ℕ}
    (◌>>=◌ {B = B} o (λ n. Some (f n))) (λ x. Some (x, rest)) ≡ ◌>>=◌ {B = B × List ℕ}
    (◌>>=◌ {B = A × List ℕ} o (λ n. Some (n, rest))) (λ x. Some (f x.0, x.1))
map_word None f rest = refl
map_word (Some n) f rest = refl

-- an integer behind a sign
signed_is : (bs : List ℕ) → (integer_of (first_word (45 ∷ bs)) >>= λ z. Some (z, behind_word (45 ∷ bs))) ≡ integer_read (45 ∷ bs)
unfolding integer_of integer_read number_read
signed_is bs = then_word (number_of (first_word bs)) negative_number (behind_word bs)

-- an integer without one
plain_is : (bs : List ℕ) → eqb (get_or bs 0 0) 45 ≡ false → (integer_of (first_word bs) >>= λ z. Some (z, behind_word bs))
    ≡ integer_read bs
unfolding integer_of integer_read number_read
plain_is bs e = rw (first_same bs 45 refl refl, e) (then_word (number_of (first_word bs)) plain (behind_word bs))

integer_by : (t : Bool) (bs : List ℕ) → eqb (get_or bs 0 0) 45 ≡ t →
    (integer_of (first_word bs) >>= λ z. Some (z, behind_word bs)) ≡ integer_read bs
integer_by true bs e = rw (letter_is bs 45 e refl) (signed_is (drop 1 bs))
integer_by false bs e = plain_is bs e

-- an integer, by the first byte
integer_found : (bs : List ℕ) → (integer_of (first_word bs) >>= λ z. Some (z, behind_word bs)) ≡ integer_read bs
integer_found bs = integer_by (eqb (get_or bs 0 0) 45) bs refl

-- the first word as an integer
pub integer_is : (bs : List ℕ) → word_at Integer bs ≡ integer_read bs
unfolding word_at
integer_is bs = integer_found bs

-- a cell
cell_is : (bs : List ℕ) → word_at Value (99 ∷ bs) ≡ value_read (99 ∷ bs)
unfolding word_at value_read schedule_operand
cell_is bs = map_word (number_in 0 255 (first_word bs)) operand.Cell (behind_word bs)

-- no cell
number_is : (bs : List ℕ) → eqb (get_or bs 0 0) 99 ≡ false → word_at Value bs ≡ value_read bs
unfolding word_at value_read schedule_operand
number_is bs e = rw (first_same bs 99 refl refl, e) (map_word (integer_of (first_word bs)) operand.Number (behind_word bs) ∙ ap
    (λ (o : Option (ℤ × List ℕ)). o >>= λ x. Some (operand.Number x.0, x.1)) (integer_found bs))

value_by : (t : Bool) (bs : List ℕ) → eqb (get_or bs 0 0) 99 ≡ t → word_at Value bs ≡ value_read bs
value_by true bs e = rw (letter_is bs 99 e refl) (cell_is (drop 1 bs))
value_by false bs e = number_is bs e

-- a number of a schedule, by the first byte
pub value_is : (bs : List ℕ) → word_at Value bs ≡ value_read bs
value_is bs = value_by (eqb (get_or bs 0 0) 99) bs refl

-- an argument
argument_is : (bs : List ℕ) → word_at BodyValue (97 ∷ bs) ≡ body_value_read (97 ∷ bs)
unfolding word_at body_value_read body_operand
argument_is bs = map_word (number_in 0 15 (first_word bs)) operand.Argument (behind_word bs)

-- the same in two steps
as_word : (bs : List ℕ) → word_at Value bs ≡ ◌>>=◌ {B = Operand × List ℕ} (schedule_operand (first_word bs)) (λ x. Some
    (x, behind_word bs))
unfolding word_at
as_word bs = refl

-- no argument
other_is : (bs : List ℕ) → eqb (get_or bs 0 0) 97 ≡ false → word_at BodyValue bs ≡ body_value_read bs
unfolding word_at body_value_read body_operand
other_is bs e = rw (first_same bs 97 refl refl, e) (sym (as_word bs) ∙ value_is bs)

body_value_by : (t : Bool) (bs : List ℕ) → eqb (get_or bs 0 0) 97 ≡ t → word_at BodyValue bs ≡ body_value_read bs
body_value_by true bs e = rw (letter_is bs 97 e refl) (argument_is (drop 1 bs))
body_value_by false bs e = other_is bs e

-- a number of a handler's body, by the first byte
pub body_value_is : (bs : List ℕ) → word_at BodyValue bs ≡ body_value_read bs
body_value_is bs = body_value_by (eqb (get_or bs 0 0) 97) bs refl
