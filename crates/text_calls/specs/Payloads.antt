-- Payloads as words of a line.
use Rattle.std.specs.Prelude.{◌<◌, ◌^◌, ℕ, List, [], ◌∷◌, ◌++◌, Option, Some, None}
use Rattle.std.specs.Prelude.{◌==◌, if◌then◌else◌, codes, decimal, slice_index}
use Rattle.std.specs.Str.{bytes_eq}
use Rattle.base_text.specs.Lines.{Word, ◌>>=◌}
use Rattle.base_text.specs.HexBytes.{bytes_of, bytes_word, AreBytes}
use Rattle.base_text.specs.Words.{number_of}
use Rattle.text_calls.specs.declared.values.Payload.{Payload as PayloadValue}
use Rattle.text_calls.specs.declared.values.Payload.TheVariants as payload

-- the bytes before the first `+`
abbrev pub before_plus : (bytes : List ℕ) → List ℕ
before_plus [] = []
before_plus (byte ∷ bytes) = if byte == 43 then [] else byte ∷ before_plus bytes

-- the bytes after it, where there is one
abbrev pub behind_plus : (bytes : List ℕ) → Option (List ℕ)
behind_plus [] = None
behind_plus (byte ∷ bytes) = if byte == 43 then Some bytes else behind_plus bytes

-- a range by its word, `OFF+LEN`
unfoldable pub range_of : Word → Option PayloadValue
range_of word =
    behind_plus word >>= λ behind. number_of (before_plus word) >>= λ offset. number_of behind >>= λ len.
    Some (payload.Range offset len)

-- a payload of a schedule by its word: bytes, or a range
unfoldable pub payload_of : Word → Option PayloadValue
payload_of word =
    if slice_index word 0 == 120 then (bytes_of word >>= λ bytes. Some (payload.Bytes bytes)) else range_of word

-- a payload of a handler's body: also `p`
unfoldable pub body_payload_of : Word → Option PayloadValue
body_payload_of word = if bytes_eq word (codes "p") then Some payload.Message else payload_of word

-- the word of a payload
abbrev pub payload_word : PayloadValue → Word
payload_word (payload.Bytes bytes) = bytes_word bytes
payload_word (payload.Range offset len) = decimal offset ++ 43 ∷ decimal len
payload_word payload.Message = codes "p"

-- a payload of a handler's body
abbrev pub IsBodyPayload : PayloadValue → Type 0
IsBodyPayload (payload.Bytes bytes) = AreBytes bytes
IsBodyPayload (payload.Range offset len) = (offset < 2 ^ 64) × (len < 2 ^ 64)
IsBodyPayload payload.Message = Unit {0}

-- a payload of a schedule
abbrev pub IsPayload : PayloadValue → Type 0
IsPayload payload.Message = ⊥
IsPayload said = IsBodyPayload said
