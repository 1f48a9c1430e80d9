-- Reading a line is the inverse of its text.
use Rattle.std.proofs.Common.{◌≡◌, ◌≢◌, ℕ, suc, ◌+◌, ◌<◌, List, [], ◌∷◌, ◌++◌, length, drop, get_or, Bool, true, false}
use Rattle.std.proofs.Common.{not, cond, eqb, All, Result, Ok, Err, refl, sym, ap, subst, ◌∙◌, append_assoc, append-nil}
use Rattle.std.proofs.Common.{arith, length-append, add-one}
use Rattle.std.specs.List.{flat_map, AllByRecursion, slice_split, join_with_byte, position_or_len, before_first}
use Rattle.std.specs.List.{after_first}
use Rattle.std.proofs.Math.Seq.{take-append_seam}
use Rattle.std.proofs.lemmas.List.Elements.{All-from_recursion}
use Rattle.std.proofs.lemmas.List.Splits.{slice_split_none, slice_split_at, join_with_byte-slice_split}
use Rattle.std.proofs.lemmas.List.Sums.{split_at_first}
use Rattle.std.proofs.lemmas.Bool.{ne_eqb, eqb-true}
use Rattle.base_text.specs.declared.why.LineWhy.{LineWhy}
use Rattle.base_text.specs.Lines.{Word}
use Rattle.base_text.specs.LineTexts.{Line, IsPlain, IsWord, IsLine, spaced_word, text_of_words, line_text}
use Rattle.base_text.specs.Chains.{◌>>=◌}
use Rattle.base_text.specs.Reasons.{is_text}
use Rattle.base_text.proofs.TextLaws.{text_again, text_takes}
use Rattle.text_trace.specs.TraceReading.{at_line, words_of, line_at, read_line}
use Rattle.base_text.proofs.Prefixes.{cond_yes}

-- ---- results

pub ok_is : {A E : Type 0} (x y : A) → ◌≡◌ {A = Result A E} (Ok x) (Ok y) → x ≡ y
ok_is x y e = cc

pub bind_ok : {A B E : Type 0} (r : Result A E) (f : A → Result B E) (y : B) → (r >>= f) ≡ Ok y → (x : A) × (r ≡ Ok x)
    × (f x ≡ Ok y)
bind_ok (Ok x) f y e = (x, refl, e)
bind_ok (Err w) f y e = absurd (cc)

pub guard_err : {A E : Type 0} (b : Bool) (w : E) (r : Result A E) (y : A) → cond b (Err w) r ≡ Ok y → (b ≡ false)
    × (r ≡ Ok y)
guard_err true w r y e = absurd (cc)
guard_err false w r y e = (refl, e)

pub guard_ok : {A E : Type 0} (b : Bool) (w : E) (r : Result A E) (y : A) → cond b r (Err w) ≡ Ok y → (b ≡ true)
    × (r ≡ Ok y)
guard_ok true w r y e = (refl, e)
guard_ok false w r y e = absurd (cc)

pub cond_not : {A : Type 0} (b : Bool) (x y : A) → b ≡ false → cond b x y ≡ y
cond_not true x y h = absurd (cc)
cond_not false x y h = refl

-- ---- lines

pub joined-join : (words : Line) → text_of_words words ≡ join_with_byte 32 words
joined-join [] = refl
joined-join (word ∷ []) = append-nil word
joined-join (word ∷ next ∷ words) = ap (λ z. word ++ (32 ∷ z)) (joined-join (next ∷ words))

abbrev break_at : List ℕ → ℕ
break_at xs = position_or_len (λ b. eqb b 10) xs

at_cons : (t : Bool) (b : ℕ) (xs : List ℕ) → eqb b 10 ≡ t → (break_at xs < length xs → get_or xs (break_at xs) 0 ≡ 10)
    → cond (not t) (1 + break_at xs) 0 < suc (length xs) → get_or (b ∷ xs) (cond (not t) (1 + break_at xs) 0) 0 ≡ 10
at_cons true b xs e more h = eqb-true b 10 e
at_cons false b xs e more h =
    let k : 1 + break_at xs ≡ suc (break_at xs) = omega arith in
    rw k (more (omega arith))

at_first : (xs : List ℕ) → break_at xs < length xs → get_or xs (break_at xs) 0 ≡ 10
at_first [] h = absurd (omega arith)
at_first (b ∷ xs) h = at_cons (eqb b 10) b xs refl (at_first xs) h

-- a line that was cut at its ending byte, and the bytes after it, are the bytes
pub cut_whole : (bytes : List ℕ) → break_at bytes < length bytes
    → bytes ≡ before_first (λ b. eqb b 10) bytes ++ 10 ∷ after_first (λ b. eqb b 10) bytes
cut_whole bytes within =
    split_at_first (λ b. eqb b 10) bytes 0 within
    ∙ ap (λ (n : ℕ). before_first (λ b. eqb b 10) bytes ++ n ∷ after_first (λ b. eqb b 10) bytes) (at_first bytes within)

-- a line's words, joined, are the line
pub words_joined : (line : List ℕ) → text_of_words (words_of line) ≡ line
words_joined line = joined-join (words_of line) ∙ join_with_byte-slice_split 32 line

pos_prefix : (l r : List ℕ) → AllByRecursion (λ b. b ≢ 10) l → break_at (l ++ 10 ∷ r) ≡ length l
pos_prefix [] r h = refl
pos_prefix (b ∷ l) r h = rw (ne_eqb b 10 h.0) (omega (arith, pos_prefix l r h.1))

both : (P : ℕ → Type 0) (xs ys : List ℕ) → AllByRecursion P xs → AllByRecursion P ys → AllByRecursion P (xs ++ ys)
both P [] ys h k = k
both P (x ∷ xs) ys h k = (h.0, both P xs ys h.1 k)

weaker : (P Q : ℕ → Type 0) → ((x : ℕ) → P x → Q x) → (xs : List ℕ) → AllByRecursion P xs → AllByRecursion Q xs
weaker P Q f [] h = tt
weaker P Q f (x ∷ xs) h = (f x h.0, weaker P Q f xs h.1)

word_breaks : (word : Word) → IsWord word → AllByRecursion (λ b. b ≢ 10) word
word_breaks word h = weaker IsPlain (λ b. b ≢ 10) (λ b p e. let l = p.0 in omega arith) word h.plain

spaced_breaks : (words : Line) → AllByRecursion IsWord words → AllByRecursion (λ b. b ≢ 10) (flat_map spaced_word words)
spaced_breaks [] h = tt
spaced_breaks (word ∷ words) h = (
  λ e. omega arith,
  both (λ b. b ≢ 10) word (flat_map spaced_word words)
      (word_breaks word h.0) (spaced_breaks words h.1),
)

no_break : (words : Line) → IsLine words → AllByRecursion (λ b. b ≢ 10) (text_of_words words)
no_break [] h = tt
no_break (word ∷ words) h = both (λ b. b ≢ 10) word (flat_map spaced_word words) (word_breaks word h.0)
    (spaced_breaks words h.1)

word_spaces : (word : Word) → IsWord word → All (λ b. eqb b 32 ≡ false) word
word_spaces word h = All-from_recursion (λ b. eqb b 32 ≡ false) word (weaker IsPlain (λ b. eqb b 32 ≡ false)
    (λ b p. let l = p.0 in ne_eqb b 32 (λ e. omega arith)) word h.plain)

pub split_joined : (words : Line) → IsLine words → slice_split (λ b. eqb b 32) (text_of_words words) ≡ words
split_joined [] h = absurd h
split_joined (word ∷ []) h = ap (slice_split (λ b. eqb b 32)) (append-nil word) ∙ slice_split_none (λ b. eqb b 32) word
    (word_spaces word h.0)
split_joined (word ∷ next ∷ words) h =
    slice_split_at (λ b. eqb b 32) word 32 (text_of_words (next ∷ words)) (word_spaces word h.0) refl
    ∙ ap (λ (ws : Line). word ∷ ws) (split_joined (next ∷ words) h.1)

drop_seam : (l r : List ℕ) (b : ℕ) → drop (suc (length l)) (l ++ b ∷ r) ≡ r
drop_seam [] r b = refl
drop_seam (x ∷ l) r b = drop_seam l r b

-- bytes that are text have an ending byte
pub text_ends : (bytes : List ℕ) → is_text bytes ≡ true → break_at bytes < length bytes
text_ends bytes test =
    let found = text_takes bytes test in
    let whole : bytes ≡ text_of_words found.words ++ 10 ∷ found.rest =
    found.text ∙ append_assoc (text_of_words found.words) (10 ∷ []) found.rest in
    let at = ap break_at whole ∙ pos_prefix (text_of_words found.words) found.rest (no_break found.words found.are) in
    let size = ap length whole ∙ length-append (text_of_words found.words) (10 ∷ found.rest) in
    omega (arith, at, size)

pub cut_again : (l rest : List ℕ) → AllByRecursion (λ b. b ≢ 10) l → is_text (l ++ 10 ∷ rest) ≡ true
    → line_at (l ++ 10 ∷ rest) ≡ Ok (l, rest)
unfolding line_at
cut_again l rest h test =
    let at = pos_prefix l rest h in
    let len : length (l ++ 10 ∷ rest) ≡ length l + suc (length rest) = length-append l (10 ∷ rest) in
    let prefix : before_first (λ b. eqb b 10) (l ++ 10 ∷ rest) ≡ l = rw (at, take-append_seam l (10 ∷ rest)) refl in
    let back : after_first (λ b. eqb b 10) (l ++ 10 ∷ rest) ≡ rest = rw (at, add-one (length l), drop_seam l rest 10)
    refl in
    cond_not _ _ _ (ne_eqb (length (l ++ 10 ∷ rest)) 0 (λ z. omega arith)) ∙ cond_yes _ _ _ test ∙
    ap (λ z. Ok (z, after_first (λ b. eqb b 10) (l ++ 10 ∷ rest))) prefix ∙ ap (λ z. Ok (l, z)) back

pub line_again : (words : Line) (rest : List ℕ) → IsLine words → line_at (line_text words ++ rest)
    ≡ Ok (text_of_words words, rest)
line_again words rest h =
    let cut = append_assoc (text_of_words words) (10 ∷ []) rest in
    ap line_at cut
    ∙ cut_again (text_of_words words) rest (no_break words h) (ap is_text (sym cut) ∙ text_again words rest h)

-- the words of a line that was read: they are a line, and the bytes begin with its text
pub record LineIs (bytes : List ℕ) (x : List ℕ × List ℕ) : Type 0 where
  pub are : IsLine (words_of x.0)
  pub text : bytes ≡ line_text (words_of x.0) ++ x.1

pub line_takes : (bytes : List ℕ) (x : List ℕ × List ℕ) → line_at bytes ≡ Ok x → LineIs bytes x
unfolding line_at
line_takes bytes x e =
    let some = guard_err _ _ _ x e in
    let test = guard_ok _ _ _ x some.1 in
    let found = text_takes bytes test.0 in
    let again : line_at bytes ≡ Ok (text_of_words found.words, found.rest) =
    ap line_at found.text ∙ line_again found.words found.rest found.are in
    let words : words_of (text_of_words found.words) ≡ found.words = split_joined found.words found.are in
    subst (LineIs bytes) (ok_is (text_of_words found.words, found.rest) x (sym again ∙ e)) (record {
      are = subst IsLine (sym words) found.are;
      text = found.text ∙ ap (λ (line : Line). line_text line ++ found.rest) (sym words);
    })

-- ---- lines, read

pub at_ok : {A : Type 0} (line : ℕ) (r : Result A LineWhy) (x : A) → at_line line r ≡ Ok x → r ≡ Ok x
at_ok line (Ok y) x e = ap Ok (ok_is y x e)
at_ok line (Err w) x e = absurd (cc)

-- what was read is a line's, and its words say it
pub record LineRead {A : Type 0} (f : Line → Result A LineWhy) (bytes : List ℕ) (x : A × List ℕ) : Type 0 where
  pub words : Line
  pub text : bytes ≡ line_text words ++ x.1
  pub says : f words ≡ Ok x.0

pub read_takes : {A : Type 0} (line : ℕ) (f : Line → Result A LineWhy) (bytes : List ℕ) (x : A × List ℕ)
    → read_line line f bytes ≡ Ok x → LineRead f bytes x
read_takes {A} line f bytes x e =
    let r = at_ok line (line_at bytes >>= λ y. f (words_of y.0) >>= λ a. Ok (a, y.1)) x e in
    let y = bind_ok (line_at bytes) (λ y. f (words_of y.0) >>= λ a. Ok (a, y.1)) x r in
    let a = bind_ok (f (words_of y.0.0)) (λ a. Ok (a, y.0.1)) x y.2 in
    let made : A × List ℕ = (a.0, y.0.1) in
    subst (LineRead f bytes) (ok_is made x a.2) (record {
      words = words_of y.0.0;
      text = (line_takes bytes y.0 y.1).text;
      says = a.1;
    })

pub read_again : {A : Type 0} (line : ℕ) (f : Line → Result A LineWhy) (words : Line) (rest : List ℕ) (a : A)
    → IsLine words → f words ≡ Ok a → read_line line f (line_text words ++ rest) ≡ Ok (a, rest)
read_again line f words rest a h says =
    ap (λ r. at_line line (r >>= λ y. f (words_of y.0) >>= λ b. Ok (b, y.1))) (line_again words rest h)
    ∙ ap (λ z. at_line line (f z >>= λ b. Ok (b, rest))) (split_joined words h)
    ∙ ap (λ r. at_line line (r >>= λ b. Ok (b, rest))) says
