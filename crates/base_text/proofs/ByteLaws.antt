-- Reading bytes is the inverse of writing them.
use Rattle.std.proofs.Common.{◌≡◌, ℕ, ◌-◌, ◌+◌, ◌*◌, ◌/◌, ◌%◌, ◌<◌, ◌&&◌, ltb, leb, eqb, Bool, true, false, cond}
use Rattle.std.proofs.Common.{List, [], ◌∷◌, ◌++◌, length, Some, None, refl, ap, sym, ◌∙◌, arith}
use Rattle.std.specs.List.{AllByRecursion, flat_map}
use Rattle.std.proofs.lemmas.Bool.{and_parts, and_from, leb-true, le-leb, lt-leb, lt-ltb, le-ltb, ltb-true, ltb-false}
use Rattle.std.proofs.lemmas.Bool.{eqb-true}
use Rattle.base_text.specs.Lines.{Word, is_stop}
use Rattle.base_text.specs.HexBytes.{digit_value, hex_digit, hex_byte, byte_of, pairs_of, bytes_word}
use Rattle.base_text.specs.HexBytes.{bytes_of, AreBytes}
use Rattle.base_text.proofs.Prefixes.{cond_yes, cond_no}
use Rattle.base_text.proofs.Takes.{Takes, takes_some, takes_none, takes_then, takes_if}
use Rattle.base_text.proofs.WordRuns.{IsRun, high_run}
use Rattle.base_text.specs.declared.byte_words.TheConstants.{MAX_WORD_BYTES}

-- ---- digits

-- a digit that was read
digit_takes : (character : ℕ) → Takes (λ value. (character ≡ hex_digit value) × (value < 16)) (digit_value character)
digit_takes character =
    takes_if {b = leb 48 character && leb character 57} {r = Some (character - 48)}
    (λ test. let both = and_parts (leb 48 character) (leb character 57) test in
    let low = leb-true 48 character both.0 in let high = leb-true character 57 both.1 in
    takes_some (sym (cond_yes _ _ _ (lt-ltb (character - 48) 10 (omega arith)) ∙ omega arith), omega arith))
    (λ test. takes_if {b = leb 97 character && leb character 102} {r = Some (character - 87)} {s = None}
    (λ letter. let both = and_parts (leb 97 character) (leb character 102) letter in
    let low = leb-true 97 character both.0 in let high = leb-true character 102 both.1 in
    takes_some (sym (cond_no _ _ _ (le-ltb (character - 87) 10 (omega arith)) ∙ omega arith), omega arith))
    (λ letter. takes_none))

-- the same, by the test
digit_by : (small : Bool) (value : ℕ) → ltb value 10 ≡ small → value < 16
    → digit_value (cond small (48 + value) (87 + value)) ≡ Some value
digit_by true value test fits =
    let below = ltb-true value 10 test in
    cond_yes _ _ _ (and_from _ _ (le-leb 48 (48 + value) (omega arith)) (le-leb (48 + value) 57 (omega arith)))
    ∙ ap (λ (n : ℕ). Some n) (omega arith)
digit_by false value test fits =
    let above = ltb-false value 10 test in
    let other : (leb 48 (87 + value) && leb (87 + value) 57) ≡ false =
    rw (le-leb 48 (87 + value) (omega arith), lt-leb (87 + value) 57 (omega arith)) refl in
    cond_no _ _ _ other
    ∙ cond_yes _ _ _ (and_from _ _ (le-leb 97 (87 + value) (omega arith)) (le-leb (87 + value) 102 (omega arith)))
    ∙ ap (λ (n : ℕ). Some n) (omega arith)

-- a digit is read again
digit_again : (value : ℕ) → value < 16 → digit_value (hex_digit value) ≡ Some value
digit_again value fits = digit_by (ltb value 10) value refl fits

-- ---- pairs of digits

-- two digits, and the byte of them
pair_is : (high low tens ones : ℕ) → high ≡ hex_digit tens → low ≡ hex_digit ones → tens < 16 → ones < 16
    → ◌≡◌ {A = Word} (high ∷ low ∷ []) (hex_byte (16 * tens + ones))
pair_is high low tens ones first second tens_fit ones_fit =
    let quotient : (16 * tens + ones) / 16 ≡ tens = omega arith in
    let remainder : (16 * tens + ones) % 16 ≡ ones = omega arith in
    rw (first, second, quotient, remainder) refl

-- two digits that were read
byte_takes : (high low : ℕ) → Takes (λ byte. (◌≡◌ {A = Word} (high ∷ low ∷ []) (hex_byte byte)) × (byte < 256))
    (byte_of high low)
unfolding byte_of
byte_takes high low =
    takes_then (λ value. (high ≡ hex_digit value) × (value < 16)) (digit_takes high) (λ tens first.
    takes_then (λ value. (low ≡ hex_digit value) × (value < 16)) (digit_takes low) (λ ones second.
    takes_some (
      pair_is high low tens ones first.0 second.0 first.1 second.1,
      let tens_fit = first.1 in let ones_fit = second.1 in omega arith,
    )))

-- two digits are read again
byte_again : (byte : ℕ) → byte < 256 → byte_of (hex_digit (byte / 16)) (hex_digit (byte % 16)) ≡ Some byte
unfolding byte_of
byte_again byte fits =
    rw (digit_again (byte / 16) (omega arith), digit_again (byte % 16) (omega arith))
    (ap (λ (n : ℕ). Some n) (omega arith))

-- digits are those of bytes
abbrev pub ArePairsOf : (digits bytes : List ℕ) → Type 0
ArePairsOf digits bytes = (digits ≡ flat_map hex_byte bytes) × AllByRecursion (λ byte. byte < 256) bytes

-- pairs of digits that were read
pub pairs_take : (digits : List ℕ) → Takes (ArePairsOf digits) (pairs_of digits)
unfolding pairs_of
pairs_take [] = takes_some (refl, tt)
pairs_take (high ∷ []) = takes_none
pairs_take (high ∷ low ∷ digits) =
    takes_then (λ byte. (◌≡◌ {A = Word} (high ∷ low ∷ []) (hex_byte byte)) × (byte < 256)) (byte_takes high low)
    (λ byte pair. takes_then (ArePairsOf digits) (pairs_take digits) (λ bytes pairs.
    takes_some (
      ap (λ (word : Word). word ++ digits) pair.0 ∙ ap (λ (word : Word). hex_byte byte ++ word) pairs.0,
      (pair.1, pairs.1),
    )))

-- pairs of digits are read again
pub pairs_again : (bytes : List ℕ) → AllByRecursion (λ byte. byte < 256) bytes → pairs_of (flat_map hex_byte bytes)
    ≡ Some bytes
unfolding pairs_of
pairs_again [] all = refl
pairs_again (byte ∷ bytes) all = rw (byte_again byte all.0, pairs_again bytes all.1) refl

-- ---- bytes

-- bytes that were read
pub bytes_take : (word : Word) → Takes (λ bytes. (word ≡ bytes_word bytes) × AreBytes bytes) (bytes_of word)
unfolding bytes_of
bytes_take [] = takes_none
bytes_take (character ∷ digits) =
    takes_if {b = eqb character 120}
    (λ begins. takes_then (ArePairsOf digits) (pairs_take digits) (λ bytes pairs.
    takes_if {b = leb (length bytes) MAX_WORD_BYTES} {r = Some bytes} {s = None}
    (λ few. takes_some (
      ap (λ (first : ℕ). first ∷ digits) (eqb-true character 120 begins) ∙ ap (λ (word : Word). 120 ∷ word) pairs.0,
      (leb-true (length bytes) MAX_WORD_BYTES few, pairs.1),
    ))
    (λ few. takes_none)))
    (λ begins. takes_none)

-- bytes are read again
pub bytes_again : (bytes : List ℕ) → AreBytes bytes → bytes_of (bytes_word bytes) ≡ Some bytes
unfolding bytes_of
bytes_again bytes are = rw (pairs_again bytes are.1) (cond_yes _ _ _ (le-leb (length bytes) MAX_WORD_BYTES are.0))

-- a digit ends no word
digit_run : (small : Bool) (value : ℕ) → is_stop (cond small (48 + value) (87 + value)) ≡ false
digit_run true value = high_run (48 + value) (omega arith)
digit_run false value = high_run (87 + value) (omega arith)

-- nor do the digits of bytes
pairs_run : (bytes : List ℕ) → IsRun (flat_map hex_byte bytes)
pairs_run [] = tt
pairs_run (byte ∷ bytes) = (
  digit_run (ltb (byte / 16) 10) (byte / 16),
  (digit_run (ltb (byte % 16) 10) (byte % 16), pairs_run bytes),
)

-- nor do bytes
pub bytes_run : (bytes : List ℕ) → IsRun (bytes_word bytes)
bytes_run bytes = (refl, pairs_run bytes)
