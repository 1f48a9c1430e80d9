-- Arguments as bytes, and back.
use Rattle.std.proofs.Common.{◌≡◌, ℕ, zero, suc, ◌+◌, ◌*◌, ◌^◌, ◌<◌, ◌≤◌, List, [], ◌∷◌, ◌++◌, length, get_or, take}
use Rattle.std.proofs.Common.{drop, slice_get, Some, None, refl, sym, ap, subst, ◌∙◌, arith, rules, ℤ}
use Rattle.std.specs.List.{flat_map, AllByRecursion}
use Rattle.std.specs.Int.{w32, to_be_bytes, from_be_bytes, cast_signed, cast_unsigned}
use Rattle.std.specs.Int.RustNames.{FitsSigned}
use Rattle.std.proofs.lemmas.List.{take_more}
use Rattle.std.proofs.lemmas.Int.{to_z-of_z, of_z-to_z}
use Rattle.std.proofs.lemmas.Nat.{be_bytes_4, from_be_bytes-to_be_bytes_4}
use Rattle.wire_message.specs.Content.{word}
use Rattle.wire_message.specs.Reading.{integers_of}

abbrev pub IsBytes : List ℕ → Type 0
IsBytes bytes = (i : ℕ) → get_or bytes i 0 < 256

abbrev pub four : ℕ → ℕ → ℕ → ℕ → ℕ
four a b c d = from_be_bytes w32 (a ∷ b ∷ c ∷ d ∷ [])

pub signed_fits : (n : ℕ) → n < 2 ^ 32 → FitsSigned w32 (cast_signed w32 n)
signed_fits n h = search rules

pub unsigned_fits : (z : ℤ) → FitsSigned w32 z → cast_unsigned w32 z < 2 ^ 32
unsigned_fits z h = search rules

four_fits : (a b c d : ℕ) (rest : List ℕ) → IsBytes (a ∷ b ∷ c ∷ d ∷ rest) → four a b c d < 2 ^ 32
four_fits a b c d rest h = omega (arith, h 0, h 1, h 2, h 3)

four_bytes : (a b c d : ℕ) (rest : List ℕ) → IsBytes (a ∷ b ∷ c ∷ d ∷ rest) → IsBytes (a ∷ b ∷ c ∷ d ∷ [])
four_bytes a b c d rest h zero = h 0
four_bytes a b c d rest h (suc zero) = h 1
four_bytes a b c d rest h (suc (suc zero)) = h 2
four_bytes a b c d rest h (suc (suc (suc zero))) = h 3
four_bytes a b c d rest h (suc (suc (suc (suc i)))) = omega arith

-- four bytes are the word of the number that they spell
word-four : (a b c d : ℕ) (rest : List ℕ) → IsBytes (a ∷ b ∷ c ∷ d ∷ rest)
    → word (cast_signed w32 (four a b c d)) ≡ a ∷ b ∷ c ∷ d ∷ []
word-four a b c d rest h =
    ap (to_be_bytes w32) (of_z-to_z w32 (four a b c d) (four_fits a b c d rest h))
    ∙ be_bytes_4 (a ∷ b ∷ c ∷ d ∷ []) (four a b c d) refl (four_bytes a b c d rest h) refl

pub record AreWords (c : ℕ) (ws : List ℕ) : Type 0 where
  pub count : length (integers_of ws) ≡ c
  pub fit : AllByRecursion (FitsSigned w32) (integers_of ws)
  pub is : flat_map word (integers_of ws) ≡ ws

pub words_are : (c : ℕ) (ws : List ℕ) → length ws ≡ 4 * c → IsBytes ws → AreWords c ws
words_are zero [] e h = record { count = refl; fit = tt; is = refl }
words_are zero (a ∷ ws) e h = absurd (omega arith)
words_are (suc n) [] e h = absurd (omega arith)
words_are (suc n) (a ∷ []) e h = absurd (omega arith)
words_are (suc n) (a ∷ b ∷ []) e h = absurd (omega arith)
words_are (suc n) (a ∷ b ∷ c ∷ []) e h = absurd (omega arith)
words_are (suc n) (a ∷ b ∷ c ∷ d ∷ rest) e h =
    let r = words_are n rest (omega arith) (λ i. h (suc (suc (suc (suc i))))) in
    record {
      count = ap suc r.count;
      fit = (signed_fits (four a b c d) (four_fits a b c d rest h), r.fit);
      is =
          ap (λ (x : List ℕ). x ++ flat_map word (integers_of rest)) (word-four a b c d rest h)
          ∙ ap (λ (x : List ℕ). a ∷ b ∷ c ∷ d ∷ x) r.is;
    }

pub length-words : (zs : List ℤ) → length (flat_map word zs) ≡ 4 * length zs
length-words [] = refl
length-words (z ∷ zs) = omega (arith, length-words zs)

pub words_again : (zs : List ℤ) → AllByRecursion (FitsSigned w32) zs → integers_of (flat_map word zs) ≡ zs
words_again [] h = refl
words_again (z ∷ zs) h =
    let back : cast_signed w32 (from_be_bytes w32 (word z)) ≡ z =
    ap (cast_signed w32) (from_be_bytes-to_be_bytes_4 (cast_unsigned w32 z) (unsigned_fits z h.0))
    ∙ to_z-of_z w32 z h.0 in
    ap (λ (x : ℤ). x ∷ integers_of (flat_map word zs)) back ∙ ap (λ (xs : List ℤ). z ∷ xs) (words_again zs h.1)

-- ---- one argument

pub integer_none : (i : ℕ) (ws : List ℕ) → length ws < 4 * i + 4 → slice_get (integers_of ws) i ≡ None
integer_none i [] h = refl
integer_none i (a ∷ []) h = refl
integer_none i (a ∷ b ∷ []) h = refl
integer_none i (a ∷ b ∷ c ∷ []) h = refl
integer_none zero (a ∷ b ∷ c ∷ d ∷ rest) h = absurd (omega arith)
integer_none (suc i) (a ∷ b ∷ c ∷ d ∷ rest) h = integer_none i rest (omega arith)

-- the number in the first four bytes
abbrev pub four_of : List ℕ → ℕ
four_of bytes = four (get_or bytes 0 0) (get_or bytes 1 0) (get_or bytes 2 0) (get_or bytes 3 0)

pub integer_some : (i : ℕ) (ws : List ℕ) → 4 * i + 4 ≤ length ws
    → slice_get (integers_of ws) i ≡ Some (cast_signed w32 (four_of (drop (4 * i) ws)))
integer_some i [] h = absurd (omega arith)
integer_some i (a ∷ []) h = absurd (omega arith)
integer_some i (a ∷ b ∷ []) h = absurd (omega arith)
integer_some i (a ∷ b ∷ c ∷ []) h = absurd (omega arith)
integer_some zero (a ∷ b ∷ c ∷ d ∷ rest) h = refl
integer_some (suc i) (a ∷ b ∷ c ∷ d ∷ rest) h =
    let e : 4 * suc i ≡ suc (suc (suc (suc (4 * i)))) = omega arith in
    rw e (integer_some i rest (omega arith))

-- ---- the ranges of the arguments

fits_added : (args : List ℤ) (arg : ℤ) → AllByRecursion (FitsSigned w32) args → FitsSigned w32 arg
    → AllByRecursion (FitsSigned w32) (args ++ arg ∷ [])
fits_added [] arg all fit = (fit, tt)
fits_added (first ∷ args) arg all fit = (all.0, fits_added args arg all.1 fit)

-- one argument more is in its range
pub fits_more : (args : List ℤ) (i : ℕ) (d : ℤ) → i < length args → AllByRecursion (FitsSigned w32) (take i args)
    → FitsSigned w32 (get_or args i d) → AllByRecursion (FitsSigned w32) (take (i + 1) args)
fits_more args i d low all fit =
    subst (λ (xs : List ℤ). AllByRecursion (FitsSigned w32) xs) (sym (take_more args i d low))
    (fits_added (take i args) (get_or args i d) all fit)
