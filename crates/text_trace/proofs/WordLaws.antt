-- Reading the words of a line is the inverse of writing them.
use Rattle.std.proofs.Common.{◌≡◌, ℕ, ◌-◌, ◌^◌, ◌<◌, ◌≤◌, List, [], ◌∷◌, length, drop, slice_index}
use Rattle.std.proofs.Common.{Option, Some, None, Bool, true, false, ◌&&◌, cond, eqb, ltb, leb, Ok, Err, refl}
use Rattle.std.proofs.Common.{sym, ap, subst, ◌∙◌, arith, decimal, codes}
use Rattle.std.specs.List.{AllByRecursion, flat_map}
use Rattle.std.specs.Option.{ForSome}
use Rattle.std.specs.Str.{bytes_eq}
use Rattle.std.specs.Str.Parse.{AllDigits}
use Rattle.std.proofs.lemmas.Str.Parse.{numerals_by_value, tells_digits, digit_from_value}
use Rattle.std.proofs.lemmas.Fmt.{digits_decimal, decimal_nonempty}
use Rattle.std.proofs.lemmas.Slice.Eq.{bytes_eq-Decides}
use Rattle.std.proofs.lemmas.Bool.{and_parts, and_from, leb-true, le-leb, ltb-true, lt-ltb, eqb-true}
use Rattle.std.proofs.lemmas.Bool.Decides.{same_from_decides}
use Rattle.base_turns.specs.declared.entry.Entry.{Entry}
use Rattle.base_text.specs.declared.why.LineWhy.TheVariants.{Form, Value}
use Rattle.base_text.specs.Lines.{Word}
use Rattle.base_text.specs.LineTexts.{Line, IsPlain, IsWord, IsLine, text_of_words}
use Rattle.text_trace.specs.TraceText.{got_word, entry_line, end_line, line_of_number, IsEntry}
use Rattle.base_text.specs.Chains.{◌>>=◌}
use Rattle.text_trace.specs.TraceReading.{within, number_between, thread_of, few_got, decoded_bytes}
use Rattle.base_text.specs.HexBytes.{hex_byte, pairs_of}
use Rattle.base_text.specs.Words.{number_of}
use Rattle.base_text.proofs.ByteLaws.{pairs_again, pairs_take}
use Rattle.text_trace.proofs.GotLaws.{digits_plain}
use Rattle.text_trace.specs.TraceReading.{got_of, second_of, setting_of, is_end, TurnWords, turn_of, entry_of}
use Rattle.text_trace.specs.TraceReading.{entry_or_end, words_of}
use Rattle.base_text.proofs.Decimals.{number_of-decimal, decimal_of_number}
use Rattle.base_text.proofs.Prefixes.{cond_yes}
use Rattle.text_trace.proofs.LineLaws.{ok_is, bind_ok, guard_ok, cond_not, words_joined}
use Rattle.text_trace.specs.declared.words.TheConstants.{MAX_GOT}

-- ---- words that are written

number_plain : (ds : List ℕ) → AllDigits 10 ds → AllByRecursion IsPlain ds
number_plain [] h = tt
number_plain (d ∷ ds) h = (let r = digit_from_value d h.0 in (omega arith, omega arith), number_plain ds h.1)

pub decimal_word : (n : ℕ) → n < 2 ^ 64 → IsWord (decimal n)
decimal_word n h = record {
  some = decimal_nonempty n h;
  plain = number_plain (decimal n)
      (digits_decimal (numerals_by_value (AllDigits 10) tells_digits) n h);
}

-- what a turn got can be told
abbrev pub IsGot : Option (List ℕ) → Type 0
IsGot got = ForSome got (λ bytes. (length bytes ≤ MAX_GOT) × AllByRecursion (λ byte. byte < 256) bytes)

pub got_is_word : (got : Option (List ℕ)) → IsGot got → IsWord (got_word got)
got_is_word None h = record { some = omega arith; plain = ((omega arith, omega arith), tt) }
got_is_word (Some bytes) h = record {
  some = omega arith;
  plain =
      ((omega arith, omega arith), digits_plain bytes (h bytes refl).1);
}

-- ---- words that are read

pub same_word : (a b : Word) → bytes_eq a b ≡ true → a ≡ b
same_word a b h = (bytes_eq-Decides a b).0 h

pub equal_word : (a : Word) → bytes_eq a a ≡ true
equal_word a = (bytes_eq-Decides a a).1 refl

-- a number of a range
pub record IsIn (low high n : ℕ) : Type 0 where
  pub least : low ≤ n
  pub most : n ≤ high
  pub fits : n < 2 ^ 64

within_ok : (low high n : ℕ) (o : Option ℕ) → within low high o ≡ Ok n → (o ≡ Some n) × (low ≤ n) × (n ≤ high)
within_ok low high n None e = absurd (cc)
within_ok low high n (Some m) e =
    let g = guard_ok (leb low m && leb m high) Value (Ok m) n e in
    let both = and_parts _ _ g.0 in
    let same : m ≡ n = ok_is m n g.1 in
    (ap (λ (k : ℕ). Some k) same, rw (← same) (leb-true low m both.0), rw (← same) (leb-true m high both.1))

pub number_takes : (low high n : ℕ) (word : Word) → number_between low high word ≡ Ok n → (word ≡ decimal n)
    × IsIn low high n
unfolding number_between
number_takes low high n word e =
    let w = within_ok low high n (number_of word) e in
    let d = decimal_of_number word n w.0 in
    (d.0, record { least = w.1; most = w.2; fits = d.1 })

pub number_again : (low high n : ℕ) → IsIn low high n → number_between low high (decimal n) ≡ Ok n
unfolding number_between
number_again low high n h =
    ap (within low high) (number_of-decimal n h.fits)
    ∙ cond_yes _ _ _ (and_from _ _ (le-leb low n h.least) (le-leb n high h.most))

pub wide : (n : ℕ) → n < 2 ^ 64 → IsIn 0 (2 ^ 64 - 1) n
wide n h = record { least = omega arith; most = omega arith; fits = h }

pub narrow : (n : ℕ) → n < 2 ^ 16 → IsIn 0 65535 n
narrow n h = record { least = omega arith; most = omega arith; fits = omega arith }

thread_takes : (threads n : ℕ) (word : Word) → thread_of threads word ≡ Ok n → (word ≡ decimal n) × (n < threads)
    × (n < 2 ^ 16)
unfolding thread_of
thread_takes threads n word e =
    let a = bind_ok (number_between 0 65535 word) (λ m. cond (ltb m threads) (Ok m) (Err Value)) n e in
    let g = guard_ok (ltb a.0 threads) Value (Ok a.0) n a.2 in
    let d = number_takes 0 65535 a.0 word a.1 in
    let same : a.0 ≡ n = ok_is a.0 n g.1 in
    let few = ltb-true a.0 threads g.0 in
    let m = d.1.most in
    (d.0 ∙ ap (λ k. decimal k) same, omega arith, omega arith)

thread_again : (threads n : ℕ) → n < threads → n < 2 ^ 16 → thread_of threads (decimal n) ≡ Ok n
unfolding thread_of
thread_again threads n few h = rw (number_again 0 65535 n (narrow n h)) (cond_yes _ _ _ (lt-ltb n threads few))

few_takes : (read : Option (List ℕ)) (bytes : List ℕ) → few_got read ≡ Ok bytes → (read ≡ Some bytes)
    × (length bytes ≤ MAX_GOT)
few_takes None bytes h = absurd (cc)
few_takes (Some read) bytes h =
    let g = guard_ok (leb (length read) MAX_GOT) Value (Ok read) bytes h in
    let same : read ≡ bytes = ok_is read bytes g.1 in
    (ap (λ (z : List ℕ). Some z) same, rw (← same) (leb-true (length read) MAX_GOT g.0))

bytes_takes : (word : Word) (bytes : List ℕ) → decoded_bytes word ≡ Ok bytes → (word ≡ flat_map hex_byte bytes)
    × (length bytes ≤ MAX_GOT) × AllByRecursion (λ byte. byte < 256) bytes
unfolding decoded_bytes
bytes_takes word bytes e =
    let few = few_takes (pairs_of word) bytes e in
    let read = (pairs_take word).so bytes few.0 in
    (read.0, few.1, read.1)

bytes_again : (bytes : List ℕ) → length bytes ≤ MAX_GOT → AllByRecursion (λ byte. byte < 256) bytes
    → decoded_bytes (flat_map hex_byte bytes) ≡ Ok bytes
unfolding decoded_bytes
bytes_again bytes few h = rw (pairs_again bytes h) (cond_yes _ _ _ (le-leb (length bytes) MAX_GOT few))

first_is : (word : Word) → eqb (slice_index word 0) 120 ≡ true → word ≡ 120 ∷ drop 1 word
first_is [] h = absurd (cc)
first_is (b ∷ word) h = ap (λ c. c ∷ word) (eqb-true b 120 h)

got_by : (dash : Bool) (word : Word) (got : Option (List ℕ)) → (dash ≡ true → word ≡ codes "-")
    → cond dash (Ok None) (cond (eqb (slice_index word 0) 120) (decoded_bytes (drop 1 word) >>= λ bytes. Ok (Some bytes))
    (Err Value)) ≡ Ok got → (word ≡ got_word got) × IsGot got
got_by true word got is e =
    let same : None ≡ got = ok_is None got e in
    subst (λ (g : Option (List ℕ)). (word ≡ got_word g) × IsGot g) same (is refl, λ bytes h. absurd (cc))
got_by false word got is e =
    let g = guard_ok (eqb (slice_index word 0) 120) Value (decoded_bytes (drop 1 word) >>= λ bytes. Ok (Some bytes)) got e in
    let b = bind_ok (decoded_bytes (drop 1 word)) (λ bytes. Ok (Some bytes)) got g.1 in
    let t = bytes_takes (drop 1 word) b.0 b.1 in
    let same : Some b.0 ≡ got = ok_is (Some b.0) got b.2 in
    subst (λ (o : Option (List ℕ)). (word ≡ got_word o) × IsGot o) same (
      first_is word g.0 ∙ ap (λ w. 120 ∷ w) t.0,
      λ bytes h. let s : b.0 ≡ bytes = cc in
          subst (λ (z : List ℕ). (length z ≤ MAX_GOT) × AllByRecursion (λ byte. byte < 256) z) s (t.1, t.2),
    )

got_takes : (word : Word) (got : Option (List ℕ)) → got_of word ≡ Ok got → (word ≡ got_word got) × IsGot got
unfolding got_of
got_takes word got e = got_by (bytes_eq word (codes "-")) word got (λ h. same_word word (codes "-") h) e

got_again : (got : Option (List ℕ)) → IsGot got → got_of (got_word got) ≡ Ok got
unfolding got_of
got_again None h = refl
got_again (Some bytes) h = let k = h bytes refl in rw (bytes_again bytes k.0 k.1) refl

-- ---- lines

pub second_takes : (name : Word) (words : Line) (value : Word) → second_of name words ≡ Ok value → words ≡ name ∷ value
    ∷ []
unfolding second_of
second_takes name [] value e = absurd (cc)
second_takes name (w ∷ []) value e = absurd (cc)
second_takes name (w ∷ v ∷ []) value e =
    let g = guard_ok (bytes_eq w name) Form (Ok v) value e in
    ap (λ (x : Word). x ∷ v ∷ []) (same_word w name g.0) ∙ ap (λ (x : Word). name ∷ x ∷ []) (ok_is v value g.1)
second_takes name (w ∷ v ∷ u ∷ ws) value e = absurd (cc)

pub second_again : (name value : Word) → second_of name (name ∷ value ∷ []) ≡ Ok value
unfolding second_of
second_again name value = cond_yes _ _ _ (equal_word name)

pub setting_takes : (name : Word) (low high n : ℕ) (words : Line) → setting_of name low high words ≡ Ok n
    → (words ≡ line_of_number name n) × IsIn low high n
unfolding setting_of
setting_takes name low high n words e =
    let a = bind_ok (second_of name words) (number_between low high) n e in
    let d = number_takes low high n a.0 a.2 in
    (second_takes name words a.0 a.1 ∙ ap (λ (w : Word). name ∷ w ∷ []) d.0, d.1)

pub setting_again : (name : Word) (low high n : ℕ) → IsIn low high n → setting_of name low high (line_of_number name n)
    ≡ Ok n
unfolding setting_of
setting_again name low high n h = rw (second_again name (decimal n)) (number_again low high n h)

pub end_takes : (words : Line) → is_end words ≡ true → words ≡ end_line
unfolding is_end
end_takes [] e = absurd (cc)
end_takes (w ∷ []) e = ap (λ (x : Word). x ∷ []) (same_word w (codes "end") e)
end_takes (w ∷ v ∷ ws) e = absurd (cc)

-- the line `end` is that text
pub end_text : (line : List ℕ) → bytes_eq line (codes "end") ≡ is_end (words_of line)
unfolding is_end
end_text line = same_from_decides (bytes_eq line (codes "end")) (is_end (words_of line))
    (bytes_eq-Decides line (codes "end")) (
      λ h. sym (words_joined line) ∙ ap text_of_words (end_takes (words_of line)
          h),
      λ same. ap (λ z. is_end (words_of z)) same,
    )

pub turn_takes : (words : Line) (t : TurnWords) → turn_of words ≡ Ok t → words ≡ codes "turn" ∷ t.thread ∷ t.time
    ∷ t.got ∷ []
unfolding turn_of
turn_takes [] t e = absurd (cc)
turn_takes (a ∷ []) t e = absurd (cc)
turn_takes (a ∷ b ∷ []) t e = absurd (cc)
turn_takes (a ∷ b ∷ c ∷ []) t e = absurd (cc)
turn_takes (a ∷ b ∷ c ∷ d ∷ []) t e =
    let made : TurnWords = record { thread = b; time = c; got = d } in
    let g = guard_ok (bytes_eq a (codes "turn")) Form (Ok made) t e in
    subst (λ (u : TurnWords). a ∷ b ∷ c ∷ d ∷ [] ≡ codes "turn" ∷ u.thread ∷ u.time ∷ u.got ∷ []) (ok_is made t g.1)
    (ap (λ (x : Word). x ∷ b ∷ c ∷ d ∷ []) (same_word a (codes "turn") g.0))
turn_takes (a ∷ b ∷ c ∷ d ∷ f ∷ ws) t e = absurd (cc)

three : (a b c a' b' c' : Word) → a ≡ a' → b ≡ b' → c ≡ c' → ◌≡◌ {A = Line} (codes "turn" ∷ a ∷ b ∷ c ∷ [])
    (codes "turn" ∷ a' ∷ b' ∷ c' ∷ [])
three a b c a' b' c' p q r = ap (λ (x : Word). codes "turn" ∷ x ∷ b ∷ c ∷ []) p ∙ ap (λ (x : Word). codes "turn" ∷ a'
    ∷ x ∷ c ∷ []) q ∙ ap (λ (x : Word). codes "turn" ∷ a' ∷ b' ∷ x ∷ []) r

entry_takes : (threads : ℕ) (t : TurnWords) (e : Entry) → entry_of threads t ≡ Ok e → (codes "turn" ∷ t.thread ∷ t.time
    ∷ t.got ∷ [] ≡ entry_line e) × IsEntry threads e
unfolding entry_of
entry_takes threads t e h =
    let a = bind_ok (thread_of threads t.thread) (λ n. number_between 0 (2 ^ 64 - 1) t.time >>= λ m. got_of t.got
    >>= λ g. Ok (record { thread = n; now = m; got = g })) e h in
    let b = bind_ok (number_between 0 (2 ^ 64 - 1) t.time) (λ m. got_of t.got
    >>= λ g. Ok (record { thread = a.0; now = m; got = g })) e a.2 in
    let c = bind_ok (got_of t.got) (λ g. Ok (record { thread = a.0; now = b.0; got = g })) e b.2 in
    let made : Entry = record { thread = a.0; now = b.0; got = c.0 } in
    let p = thread_takes threads a.0 t.thread a.1 in
    let q = number_takes 0 (2 ^ 64 - 1) b.0 t.time b.1 in
    let r = got_takes t.got c.0 c.1 in
    subst (λ (x : Entry). (codes "turn" ∷ t.thread ∷ t.time ∷ t.got ∷ [] ≡ entry_line x) × IsEntry threads x)
    (ok_is made e c.2)
    (three _ _ _ _ _ _ p.0 q.0 r.0, record { thread = p.1; narrow = p.2; now = q.1.fits; got = r.1 })

entry_again : (threads : ℕ) (e : Entry) → IsEntry threads e
    → entry_of threads (record { thread = decimal e.thread; time = decimal e.now; got = got_word e.got }) ≡ Ok e
unfolding entry_of
entry_again threads e h = rw (
  thread_again threads e.thread h.thread h.narrow,
  number_again 0 (2 ^ 64 - 1) e.now
      (wide e.now h.now),
  got_again e.got h.got,
) refl

pub turn_again : (a b c : Word) → turn_of (codes "turn" ∷ a ∷ b ∷ c ∷ [])
    ≡ Ok (record { thread = a; time = b; got = c })
unfolding turn_of
turn_again a b c = let made : TurnWords = record { thread = a; time = b; got = c } in
    cond_yes (bytes_eq (codes "turn") (codes "turn")) (Ok made) (Err Form) (equal_word (codes "turn"))

turn_no_end : (a b c d : Word) → is_end (a ∷ b ∷ c ∷ d ∷ []) ≡ false
unfolding is_end
turn_no_end a b c d = refl

-- the line is the entry's, or the line `end`
abbrev pub IsNext : ℕ → Line → Option Entry → Type 0
IsNext threads words None = words ≡ end_line
IsNext threads words (Some e) = (words ≡ entry_line e) × IsEntry threads e

next_by : (b : Bool) (threads : ℕ) (words : Line) (o : Option Entry) → is_end words ≡ b
    → cond b (Ok None) (turn_of words >>= λ t. entry_of threads t >>= λ e. Ok (Some e)) ≡ Ok o → IsNext threads words o
next_by true threads words o is e = subst (IsNext threads words) (ok_is None o e) (end_takes words is)
next_by false threads words o is e =
    let a = bind_ok (turn_of words) (λ t. entry_of threads t >>= λ v. Ok (Some v)) o e in
    let b = bind_ok (entry_of threads a.0) (λ v. Ok (Some v)) o a.2 in
    let t = turn_takes words a.0 a.1 in
    let k = entry_takes threads a.0 b.0 b.1 in
    subst (IsNext threads words) (ok_is (Some b.0) o b.2) (t ∙ k.0, k.1)

pub next_takes : (threads : ℕ) (words : Line) (o : Option Entry) → entry_or_end threads words ≡ Ok o → IsNext threads words o
unfolding entry_or_end
next_takes threads words o e = next_by (is_end words) threads words o refl e

pub next_end : (threads : ℕ) → entry_or_end threads end_line ≡ Ok None
unfolding entry_or_end is_end
next_end threads = refl

pub next_again : (threads : ℕ) (e : Entry) → IsEntry threads e → entry_or_end threads (entry_line e) ≡ Ok (Some e)
unfolding entry_or_end
next_again threads e h =
    cond_not _ _ _ (turn_no_end (codes "turn") (decimal e.thread) (decimal e.now) (got_word e.got))
    ∙ rw (turn_again (decimal e.thread) (decimal e.now) (got_word e.got), entry_again threads e h) refl

-- ---- lines that are written

pub turn_word : IsWord (codes "turn")
turn_word = record {
  some = omega arith;
  plain = (
    (omega arith, omega arith),
    ((omega arith, omega arith), ((omega arith, omega arith), ((omega arith, omega arith), tt))),
  );
}

pub end_is_line : IsLine end_line
end_is_line = (
  record {
    some = omega arith;
    plain =
        ((omega arith, omega arith), ((omega arith, omega arith), ((omega arith, omega arith), tt)));
  },
  tt,
)

pub entry_is_line : (threads : ℕ) (e : Entry) → IsEntry threads e → IsLine (entry_line e)
entry_is_line threads e h =
    let n = h.narrow in
    (turn_word, (decimal_word e.thread (omega arith), (decimal_word e.now h.now, (got_is_word e.got h.got, tt))))

pub number_is_line : (name : Word) (n : ℕ) → IsWord name → n < 2 ^ 64 → IsLine (line_of_number name n)
number_is_line name n word h = (word, (decimal_word n h, tt))
