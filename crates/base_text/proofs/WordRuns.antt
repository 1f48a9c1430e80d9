-- Bytes at which no word ends.
use Rattle.std.proofs.Common.{FitsSigned, ℤ, pos, negsuc, ◌≡◌, ℕ, suc, ◌^◌, ◌<◌, ◌≤◌, List, [], ◌∷◌, ◌++◌, false}
use Rattle.std.proofs.Common.{refl, arith, decimal}
use Rattle.std.specs.List.{AllByRecursion}
use Rattle.std.specs.Str.Parse.{AllDigits}
use Rattle.std.specs.Int.{w32}
use Rattle.std.specs.Fmt.{signed_decimal}
use Rattle.std.proofs.lemmas.Str.Parse.{digit_from_value}
use Rattle.std.proofs.lemmas.Fmt.{digits_decimal}
use Rattle.std.proofs.lemmas.Bool.{ne_eqb}
use Rattle.base_text.specs.Lines.{Word, is_stop}
use Rattle.base_text.proofs.Decimals.{own}

-- bytes at which no word ends
abbrev pub IsRun : Word → Type 0
IsRun word = AllByRecursion (λ byte. is_stop byte ≡ false) word

-- a byte above a space ends no word
pub high_run : (byte : ℕ) → 33 ≤ byte → is_stop byte ≡ false
high_run byte high = rw (ne_eqb byte 32 (λ same. omega arith), ne_eqb byte 10 (λ same. omega arith)) refl

-- digits end no word
digits_run : (digits : List ℕ) → AllDigits 10 digits → IsRun digits
digits_run [] all = tt
digits_run (digit ∷ digits) all = (
  let range = digit_from_value digit all.0 in high_run digit (omega arith),
  digits_run digits all.1,
)

-- a number ends no word
pub decimal_run : (number : ℕ) → number < 2 ^ 64 → IsRun (decimal number)
decimal_run number fits = digits_run (decimal number) (digits_decimal own number fits)

-- nor does an integer
pub integer_run : (number : ℤ) → FitsSigned w32 number → IsRun (signed_decimal number)
integer_run (pos magnitude) fits =
    let below : magnitude < 2 ^ 31 = fits.sfits in decimal_run magnitude (omega arith)
integer_run (negsuc magnitude) fits =
    let below : magnitude < 2 ^ 31 = fits.sfits in (refl, decimal_run (suc magnitude) (omega arith))

-- what ends no word, joined
pub both_run : (first second : Word) → IsRun first → IsRun second → IsRun (first ++ second)
both_run [] second runs also = also
both_run (byte ∷ first) second runs also = (runs.0, both_run first second runs.1 also)
