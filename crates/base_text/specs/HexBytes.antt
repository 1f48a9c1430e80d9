-- Bytes as a word of a line.
use Rattle.std.specs.Prelude.{◌<◌, ◌≤◌, ◌+◌, ◌*◌, ◌-◌, ◌/◌, ◌%◌, ℕ, List, [], ◌∷◌, length, Option, Some, None}
use Rattle.std.specs.Prelude.{Bool, is_some, ◌&&◌, nat_lt, nat_le, ◌==◌, if◌then◌else◌}
use Rattle.std.specs.List.{AllByRecursion, flat_map}
use Rattle.base_text.specs.Lines.{Word, ◌>>=◌}
use Rattle.base_text.specs.declared.byte_words.TheConstants.{MAX_WORD_BYTES}

-- the value of a hexadecimal digit, `0` to `9` and `a` to `f`
abbrev pub digit_value : (character : ℕ) → Option ℕ
digit_value character =
    if nat_le 48 character && nat_le character 57 then Some (character - 48) else (
    if nat_le 97 character && nat_le character 102 then Some (character - 87) else None)

-- whether a byte is such a digit
abbrev pub is_digit : (character : ℕ) → Bool
is_digit character = is_some (digit_value character)

-- the digit of a value below 16
abbrev pub hex_digit : (value : ℕ) → ℕ
hex_digit value = if nat_lt value 10 then 48 + value else 87 + value

-- the two digits of a byte
abbrev pub hex_byte : (byte : ℕ) → List ℕ
hex_byte byte = hex_digit (byte / 16) ∷ hex_digit (byte % 16) ∷ []

-- the byte of two digits
unfoldable pub byte_of : (high low : ℕ) → Option ℕ
byte_of high low = digit_value high >>= λ tens. digit_value low >>= λ ones. Some (16 * tens + ones)

-- the bytes of pairs of digits
unfoldable pub pairs_of : (digits : List ℕ) → Option (List ℕ)
pairs_of [] = Some []
pairs_of (high ∷ []) = None
pairs_of (high ∷ low ∷ digits) =
    byte_of high low >>= λ byte. pairs_of digits >>= λ bytes. Some (byte ∷ bytes)

-- the word of bytes: `x`, and two digits for each
abbrev pub bytes_word : (bytes : List ℕ) → Word
bytes_word bytes = 120 ∷ flat_map hex_byte bytes

-- the bytes, where they aren't too many
abbrev pub few_bytes : (bytes : List ℕ) → Option (List ℕ)
few_bytes bytes = if nat_le (length bytes) MAX_WORD_BYTES then Some bytes else None

-- the bytes that a word is
unfoldable pub bytes_of : Word → Option (List ℕ)
bytes_of [] = None
bytes_of (character ∷ digits) = if character == 120 then (pairs_of digits >>= few_bytes) else None

-- bytes that a word can be
abbrev pub AreBytes : (bytes : List ℕ) → Type 0
AreBytes bytes = (length bytes ≤ MAX_WORD_BYTES) × AllByRecursion (λ byte. byte < 256) bytes
