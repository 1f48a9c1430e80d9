-- The digits of bytes: they are plain, and twice as many.
use Rattle.std.proofs.Common.{◌≡◌, ℕ, ◌+◌, ◌*◌, ◌/◌, ◌%◌, ◌<◌, ◌≤◌, List, [], ◌∷◌, length, Option, Some, None, Bool, true}
use Rattle.std.proofs.Common.{false, cond, ltb, leb, Ok, Err, refl, ap, ◌∙◌, arith}
use Rattle.std.specs.List.{AllByRecursion, flat_map}
use Rattle.std.proofs.lemmas.Bool.{le-leb, leb-true}
use Rattle.base_text.specs.declared.why.LineWhy.TheVariants.{Value}
use Rattle.base_text.specs.HexBytes.{hex_byte, pairs_of}
use Rattle.base_text.specs.Lines.{Word}
use Rattle.base_text.specs.LineTexts.{IsPlain}
use Rattle.base_text.proofs.ByteLaws.{pairs_take}
use Rattle.base_text.proofs.Decimals.{not_so}
use Rattle.base_text.proofs.Prefixes.{cond_yes}
use Rattle.text_trace.specs.TraceReading.{decoded_bytes, few_got}
use Rattle.text_trace.specs.declared.words.TheConstants.{MAX_GOT}

digit_plain : (small : Bool) (value : ℕ) → value < 16 → IsPlain (cond small (48 + value) (87 + value))
digit_plain true value few = (omega arith, omega arith)
digit_plain false value few = (omega arith, omega arith)

pub digits_plain : (bytes : List ℕ) → AllByRecursion (λ byte. byte < 256) bytes
    → AllByRecursion IsPlain (flat_map hex_byte bytes)
digits_plain [] all = tt
digits_plain (byte ∷ bytes) all =
    let fits = all.0 in
    let high : byte / 16 < 16 = omega arith in
    let low : byte % 16 < 16 = omega arith in (
      digit_plain (ltb (byte / 16) 10) (byte / 16) high,
      (digit_plain (ltb (byte % 16) 10) (byte % 16) low, digits_plain bytes all.1),
    )

twice : (bytes : List ℕ) → length (flat_map hex_byte bytes) ≡ 2 * length bytes
twice [] = refl
twice (byte ∷ bytes) = let more = twice bytes in omega (arith, more)

-- as many digits as were read
digits_count : (word : Word) (bytes : List ℕ) → pairs_of word ≡ Some bytes → length word ≡ 2 * length bytes
digits_count word bytes read = ap length ((pairs_take word).so bytes read).0 ∙ twice bytes

few_by : (word : Word) (read : Option (List ℕ)) → pairs_of word ≡ read → MAX_GOT < length word / 2
    → few_got read ≡ Err Value
few_by word None is many = refl
few_by word (Some bytes) is many =
    not_so (leb (length bytes) MAX_GOT) (Ok bytes) (Err Value) (λ test.
    let few = leb-true (length bytes) MAX_GOT test in
    let size = digits_count word bytes is in
    omega (arith, few, size))

-- too many digits
pub many_digits : (word : Word) → MAX_GOT < length word / 2 → decoded_bytes word ≡ Err Value
unfolding decoded_bytes
many_digits word many = few_by word (pairs_of word) refl many

-- not too many
pub few_digits : (word : Word) (bytes : List ℕ) → pairs_of word ≡ Some bytes → length word / 2 ≤ MAX_GOT
    → decoded_bytes word ≡ Ok bytes
unfolding decoded_bytes
few_digits word bytes read few =
    let size = digits_count word bytes read in
    let short : length bytes ≤ MAX_GOT = omega (arith, size, few) in
    ap few_got read ∙ cond_yes (leb (length bytes) MAX_GOT) _ _ (le-leb (length bytes) MAX_GOT short)
