-- Numbers as words, and where a word goes on.
use Rattle.std.specs.Prelude.{◌≡◌, ℕ, ℤ, pos, neg_ℤ, ◌<◌, ◌≤◌, ◌^◌, List, length, Option, Some, None, false}
use Rattle.std.specs.Prelude.{◌&&◌}
use Rattle.std.specs.Prelude.{nat_lt, nat_le, ◌==◌, if◌then◌else◌, decimal, slice_index, drop, take}
use Rattle.std.specs.Str.{bytes_eq}
use Rattle.std.specs.Str.Parse.{digits_value, AllDigits}
use Rattle.std.specs.Int.{IsInRange}
use Rattle.base_text.specs.Lines.{Word, ◌>>=◌, is_stop, first_word, behind_word}

-- the number below 2 ^ 64 whose decimal text, without leading zero, the word is
unfoldable pub number_of : Word → Option ℕ
number_of word = if bytes_eq word (decimal (digits_value 10 word)) && nat_lt (digits_value 10 word)
    (2 ^ 64) then Some (digits_value 10 word) else None

-- the number that the first word is, and the bytes after it
unfoldable pub number_read : List ℕ → Option (ℕ × List ℕ)
number_read bytes = number_of (first_word bytes) >>= λ n. Some (n, behind_word bytes)

-- a digit stands at a place
abbrev pub HasDigit : List ℕ → ℕ → Type 0
HasDigit bytes i = (i < length bytes) × IsInRange 48 57 (slice_index bytes i)

-- a digit is at the beginning, and none behind it
abbrev pub HasOneDigit : List ℕ → Type 0
HasOneDigit bytes = HasDigit bytes 0 × (HasDigit bytes 1 → ⊥)

-- so many digits are at the beginning, and this is their number
pub record BeginWith (bytes : List ℕ) (number count : ℕ) : Type 0 where
  pub within : count ≤ length bytes
  pub digits : AllDigits 10 (take count bytes)
  pub value : number ≡ digits_value 10 (take count bytes)
  pub fits : number < 2 ^ 64

-- no digit is behind them
pub record AreDigits (bytes : List ℕ) (number count : ℕ) : Type 0 where
  pub begin : BeginWith bytes number count
  pub last : HasDigit bytes count → ⊥

-- a number of 64 bits
abbrev pub fitting : ℕ → Option ℕ
fitting n = if nat_lt n (2 ^ 64) then Some n else None

-- a digit follows a zero at the beginning
abbrev pub IsPadded : List ℕ → ℕ → Type 0
IsPadded bytes end = (slice_index bytes 0 ≡ 48) × (1 < end)

-- the word goes on at a place
abbrev pub GoesOn : List ℕ → ℕ → Type 0
GoesOn bytes i = (i < length bytes) × (is_stop (slice_index bytes i) ≡ false)

-- two words have the same byte at a place
pub record IsSame (word name : List ℕ) (place : ℕ) : Type 0 where
  pub within : place < length word
  pub more : place < length name
  pub same : slice_index word place ≡ slice_index name place

-- the word goes on at a place with the byte that a name has there
pub record GoesWith (bytes name : List ℕ) (place : ℕ) : Type 0 where
  pub within : place < length bytes
  pub more : place < length name
  pub same : slice_index bytes place ≡ slice_index name place
  pub runs : is_stop (slice_index bytes place) ≡ false

-- a number of a range
abbrev pub within : (low high : ℕ) → ℕ → Option ℕ
within low high n = if nat_le low n && nat_le n high then Some n else None

-- a word that is a number of the range
unfoldable pub number_in : (low high : ℕ) → Word → Option ℕ
number_in low high word = number_of word >>= within low high

-- a number below 2 ^ 31
abbrev pub plain : ℕ → Option ℤ
plain n = if nat_lt n (2 ^ 31) then Some (pos n) else None

-- a number from 1 to 2 ^ 31, negated
abbrev pub negative_number : ℕ → Option ℤ
negative_number n = if nat_le 1 n && nat_le n (2 ^ 31) then Some (neg_ℤ (pos n)) else None

-- the number of 32 bits whose decimal text the word is
unfoldable pub integer_of : Word → Option ℤ
integer_of word =
    if slice_index word 0 == 45 then (number_of (drop 1 word) >>= negative_number) else (number_of word >>= plain)

-- the same of the first word, and the bytes after it
unfoldable pub integer_read : List ℕ → Option (ℤ × List ℕ)
integer_read bytes =
    if slice_index bytes 0 == 45 then (number_read (drop 1 bytes) >>= λ x. negative_number x.0 >>= λ z. Some
    (z, x.1)) else (number_read bytes >>= λ x. plain x.0 >>= λ z. Some (z, x.1))
