-- Bytes begin as text exactly where they begin with the text of a line of words.
use Rattle.std.proofs.Common.{◌≡◌, ℕ, ◌&&◌, List, [], ◌∷◌, ◌++◌, Bool, true, false, cond, not, eqb, leb, refl}
use Rattle.std.proofs.Common.{sym, ap, ◌∙◌, append_assoc, arith}
use Rattle.std.specs.List.{AllByRecursion}
use Rattle.std.proofs.lemmas.Bool.{and_from, and_parts, eqb-true, leb-true, le-leb, ne_eqb}
use Rattle.base_text.specs.Lines.{Word}
use Rattle.base_text.specs.LineTexts.{IsLine, IsPlain, IsWord, Line, ending, line_text}
use Rattle.base_text.specs.Reasons.{goes_on_as_text, is_plain, is_text}
use Rattle.base_text.proofs.Prefixes.{cond_no}
use Rattle.base_text.proofs.LineTexts.{line_parts}

-- a plain byte, by its test
plain_takes : (byte : ℕ) → is_plain byte ≡ true → IsPlain byte
plain_takes byte test =
    let both = and_parts (leb 33 byte) (leb byte 126) test in
    let low = leb-true 33 byte both.0 in
    let high = leb-true byte 126 both.1 in
    (omega arith, omega arith)

plain_again : (byte : ℕ) → IsPlain byte → is_plain byte ≡ true
plain_again byte is =
    let low = is.0 in
    let high = is.1 in
    and_from _ _ (le-leb 33 byte (omega arith)) (le-leb byte 126 (omega arith))

-- ---- bytes that are text

-- the rest of a word, the words behind it, and what stands behind the line
record WordGoesOn (bytes : List ℕ) : Type 0 where
  tail : Word
  plain : AllByRecursion IsPlain tail
  words : Line
  are : AllByRecursion IsWord words
  rest : List ℕ
  text : bytes ≡ tail ++ (ending words ++ rest)

-- a word, the words behind it, and what stands behind the line
record WordBegins (bytes : List ℕ) : Type 0 where
  word : Word
  is : IsWord word
  words : Line
  are : AllByRecursion IsWord words
  rest : List ℕ
  text : bytes ≡ word ++ (ending words ++ rest)

abbrev HasWords : (begins : Bool) → List ℕ → Type 0
HasWords true bytes = WordBegins bytes
HasWords false bytes = WordGoesOn bytes

words_by : (begins : Bool) (b : ℕ) (bytes : List ℕ) (ten space : Bool) → eqb b 10 ≡ ten → eqb b 32 ≡ space
    → cond ten (not begins) (cond space (not begins && goes_on_as_text true bytes) (is_plain b
    && goes_on_as_text false bytes))
    ≡ true
    → ((next : Bool) → goes_on_as_text next bytes ≡ true → HasWords next bytes) → HasWords begins (b ∷ bytes)
words_by true b bytes true space e f h more = absurd (cc)
words_by true b bytes false true e f h more = absurd (cc)
words_by true b bytes false false e f h more =
    let both = and_parts (is_plain b) (goes_on_as_text false bytes) h in
    let on = more false both.1 in
    record {
      word = b ∷ on.tail;
      is = record { some = omega arith; plain = (plain_takes b both.0, on.plain) };
      words = on.words;
      are = on.are;
      rest = on.rest;
      text = ap (λ (z : List ℕ). b ∷ z) on.text;
    }
words_by false b bytes true space e f h more = record {
  tail = [];
  plain = tt;
  words = [];
  are = tt;
  rest = bytes;
  text = ap (λ (c : ℕ). c ∷ bytes) (eqb-true b 10 e);
}
words_by false b bytes false true e f h more =
    let next = more true h in
    record {
      tail = [];
      plain = tt;
      words = next.word ∷ next.words;
      are = (next.is, next.are);
      rest = next.rest;
      text = ap (λ (c : ℕ). c ∷ bytes) (eqb-true b 32 f)
          ∙ ap (λ (z : List ℕ). 32 ∷ z) (next.text ∙ sym (append_assoc next.word (ending next.words) next.rest));
    }
words_by false b bytes false false e f h more =
    let both = and_parts (is_plain b) (goes_on_as_text false bytes) h in
    let on = more false both.1 in
    record {
      tail = b ∷ on.tail;
      plain = (plain_takes b both.0, on.plain);
      words = on.words;
      are = on.are;
      rest = on.rest;
      text = ap (λ (z : List ℕ). b ∷ z) on.text;
    }

words_take : (begins : Bool) (bytes : List ℕ) → goes_on_as_text begins bytes ≡ true → HasWords begins bytes
words_take begins [] h = absurd (cc)
words_take begins (b ∷ bytes) h =
    words_by begins b bytes (eqb b 10) (eqb b 32) refl refl h (λ next k. words_take next bytes k)

-- a line of words at the beginning of bytes, and what stands behind it
pub record BeginsWithLine (bytes : List ℕ) : Type 0 where
  pub words : Line
  pub are : IsLine words
  pub rest : List ℕ
  pub text : bytes ≡ line_text words ++ rest

-- what is text begins with a line
pub text_takes : (bytes : List ℕ) → is_text bytes ≡ true → BeginsWithLine bytes
unfolding is_text
text_takes bytes h =
    let found = words_take true bytes h in
    record {
      words = found.word ∷ found.words;
      are = (found.is, found.are);
      rest = found.rest;
      text = found.text ∙ sym (append_assoc found.word (ending found.words) found.rest)
          ∙ ap (λ (z : List ℕ). z ++ found.rest) (sym (line_parts found.word found.words));
    }

-- ---- lines are text

plain_on : (begins : Bool) (b : ℕ) (bytes : List ℕ) → IsPlain b → goes_on_as_text false bytes ≡ true
    → goes_on_as_text begins (b ∷ bytes) ≡ true
plain_on begins b bytes is h =
    let low = is.0 in
    cond_no (eqb b 10) _ _ (ne_eqb b 10 (λ e. omega arith)) ∙ cond_no (eqb b 32) _ _ (ne_eqb b 32 (λ e. omega arith))
    ∙ and_from _ _ (plain_again b is) h

run_on : (run bytes : List ℕ) → AllByRecursion IsPlain run → goes_on_as_text false bytes ≡ true
    → goes_on_as_text false (run ++ bytes) ≡ true
run_on [] bytes plain h = h
run_on (b ∷ run) bytes plain h = plain_on false b (run ++ bytes) plain.0 (run_on run bytes plain.1 h)

word_on : (word : Word) (bytes : List ℕ) → IsWord word → goes_on_as_text false bytes ≡ true
    → goes_on_as_text true (word ++ bytes) ≡ true
word_on [] bytes is h = let some = is.some in absurd (omega arith)
word_on (b ∷ word) bytes is h =
    let plain = is.plain in plain_on true b (word ++ bytes) plain.0 (run_on word bytes plain.1 h)

words_on : (words : Line) (rest : List ℕ) → AllByRecursion IsWord words → goes_on_as_text false (ending words ++ rest)
    ≡ true
words_on [] rest are = refl
words_on (word ∷ words) rest are =
    ap (goes_on_as_text true) (append_assoc word (ending words) rest)
    ∙ word_on word (ending words ++ rest) are.0 (words_on words rest are.1)

-- a line of words is text
pub text_again : (words : Line) (rest : List ℕ) → IsLine words → is_text (line_text words ++ rest) ≡ true
unfolding is_text
text_again [] rest are = absurd are
text_again (word ∷ words) rest are =
    ap (goes_on_as_text true) (ap (λ (z : List ℕ). z ++ rest) (line_parts word words)
    ∙ append_assoc word (ending words) rest)
    ∙ word_on word (ending words ++ rest) are.0 (words_on words rest are.1)
