-- Bytes are cut at their first ending byte, and a line at its first space.
use Rattle.std.proofs.Common.{◌≡◌, ℕ, ◌+◌, ◌<◌, List, [], ◌∷◌, ◌++◌, length, take, drop, Option, Some, None, Bool, true}
use Rattle.std.proofs.Common.{false, cond, eqb, ltb, Err, not, is_some, refl, sym, ap, ◌∙◌, arith}
use Rattle.std.specs.List.{slice_split, onto_first, position, position_or_len}
use Rattle.std.proofs.lemmas.Option.{cond_some}
use Rattle.std.proofs.lemmas.Bool.{ltb-true, ltb-false, lt-ltb, false_from_ne_true}
use Rattle.std.proofs.lemmas.List.Sums.{fails_before_first, position_or_len_is}
use Rattle.std.proofs.lemmas.List.Splits.{slice_split_none, slice_split_first}
use Rattle.memchr.specs.Find.{IsFirstByte, is_byte}
use Rattle.base_text.specs.declared.why.LineWhy.TheVariants.{Form, Text}
use Rattle.base_text.specs.Lines.{Word}
use Rattle.base_text.specs.LineTexts.{Line}
use Rattle.base_text.specs.Reasons.{is_text}
use Rattle.text_trace.specs.TraceReading.{line_at, words_of, is_one, second_of, turn_of}
use Rattle.text_trace.proofs.LineLaws.{cond_not, cut_whole, text_ends}
use Rattle.base_text.proofs.Decimals.{not_so}
use Rattle.base_text.proofs.Prefixes.{cond_yes}

-- the first place of a byte
pub place_is : (byte : ℕ) (bytes : List ℕ) (r : Option ℕ) → IsFirstByte (is_byte byte) bytes r → r
    ≡ position (λ b. eqb b byte) bytes
place_is byte bytes None h =
    let at = position_or_len (λ b. eqb b byte) bytes in
    let none : at ≡ length bytes = position_or_len_is (λ b. eqb b byte) bytes (length bytes) 0 (omega arith)
    (λ k d. false_from_ne_true _ (h k (omega arith) d)) (λ d. absurd (omega arith)) in
    sym (not_so (ltb at (length bytes)) (Some at) None (λ t.
    let d : at < length bytes = ltb-true at (length bytes) t in
    omega arith))
place_is byte bytes (Some k) h =
    let at = position_or_len (λ b. eqb b byte) bytes in
    let high : k < length bytes = h.0.high in
    let here : at ≡ k = position_or_len_is (λ b. eqb b byte) bytes k 0 (omega arith)
    (λ j d. false_from_ne_true _ (h.0.before j (omega arith) d)) (λ d. h.1) in
    sym (cond_yes (ltb at (length bytes)) (Some at) None (lt-ltb at (length bytes) (omega arith)) ∙ ap Some here)

none_is : (b : Bool) (x : ℕ) → cond b (Some x) None ≡ None → b ≡ false
none_is true x h = absurd (cc)
none_is false x h = refl

pub cut_some : (line : List ℕ) (n : ℕ) → position (λ b. eqb b 32) line ≡ Some n → words_of line ≡ take n line
    ∷ words_of (drop (n + 1) line)
cut_some line n e =
    let p = cond_some _ _ _ e in
    slice_split_first (λ b. eqb b 32) line 0 (ltb-true _ _ p.0)
    ∙ ap (λ k. take k line ∷ slice_split (λ b. eqb b 32) (drop (k + 1) line)) p.1

pub cut_none : (line : List ℕ) → position (λ b. eqb b 32) line ≡ None → words_of line ≡ line ∷ []
cut_none line e =
    let past = ltb-false _ _ (none_is _ _ e) in
    slice_split_none (λ b. eqb b 32) line (λ k d l. fails_before_first (λ b. eqb b 32) line k d (omega arith))

-- bytes without an ending byte have no line
pub no_line : (bytes : List ℕ) → eqb (length bytes) 0 ≡ false → position (λ b. eqb b 10) bytes ≡ None
    → line_at bytes ≡ Err Text
unfolding line_at
no_line bytes some none =
    let past = ltb-false _ _ (none_is _ _ none) in
    cond_not (eqb (length bytes) 0) _ _ some
    ∙ not_so (is_text bytes) _ _ (λ test. let within = text_ends bytes test in omega (arith, past, within))

-- the bytes before and behind the first ending byte
pub cut_at : (bytes : List ℕ) (n : ℕ) → position (λ b. eqb b 10) bytes ≡ Some n
    → bytes ≡ take n bytes ++ 10 ∷ drop (n + 1) bytes
cut_at bytes n found =
    let p = cond_some _ _ _ found in
    cut_whole bytes (ltb-true _ _ p.0) ∙ ap (λ (k : ℕ). take k bytes ++ 10 ∷ drop (k + 1) bytes) p.1

many_by : (t : Bool) (b : ℕ) (w : Word) (ws : Line) → is_one (w ∷ cond t ([] ∷ ws) (onto_first b ws)) ≡ false
many_by true b w ws = refl
many_by false b w [] = refl
many_by false b w (v ∷ ws) = refl

-- a word before others isn't the only one
pub not_one : (w : Word) (line : List ℕ) → is_one (w ∷ words_of line) ≡ false
not_one w [] = refl
not_one w (b ∷ line) = many_by (eqb b 32) b w (words_of line)

-- a line without a space is one word
pub one_by : (line : List ℕ) (at : Option ℕ) (b : Bool) → is_some at ≡ not b
    → at ≡ position (λ c. eqb c 32) line
    → (b ≡ is_one (words_of line)) × (b ≡ true → words_of line ≡ line ∷ [])
one_by line None true e is = let none = cut_none line (sym is) in (sym (ap is_one none), λ _. none)
one_by line None false e is = absurd (cc)
one_by line (Some n) true e is = absurd (cc)
one_by line (Some n) false e is = (
  sym (ap is_one (cut_some line n (sym is)) ∙ not_one (take n line) (drop (n + 1) line)),
  λ t. absurd (let f : false
      ≡ true = t in cc),
)

-- lines of more words than their form has
pub second_many : (name w : Word) (ws : Line) → is_one ws ≡ false → second_of name (w ∷ ws) ≡ Err Form
unfolding second_of
second_many name w [] h = refl
second_many name w (v ∷ []) h = absurd (cc)
second_many name w (v ∷ u ∷ ws) h = refl

pub turn_many : (a b c : Word) (ws : Line) → is_one ws ≡ false → turn_of (a ∷ b ∷ c ∷ ws) ≡ Err Form
unfolding turn_of
turn_many a b c [] h = refl
turn_many a b c (v ∷ []) h = absurd (cc)
turn_many a b c (v ∷ u ∷ ws) h = refl
