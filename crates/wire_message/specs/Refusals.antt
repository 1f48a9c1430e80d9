-- The table of refusals: why bytes are no message, in the order in which it is told.
use Rattle.std.specs.Prelude.{ℕ, zero, suc, ◌+◌, ◌*◌, ◌==◌, ◌||◌, ◌&&◌, Bool, not, nat_lt, List, [], ◌∷◌, length}
use Rattle.std.specs.Prelude.{slice_index, Option, Some, None, if◌then◌else◌}
use Rattle.std.specs.Int.{Width, w16, w64, byte_len, from_be_bytes}
use Rattle.wire_message.specs.declared.refused.Refused.{Refused}
use Rattle.wire_message.specs.declared.refused.Refused.TheVariants as refused
use Rattle.wire_message.specs.Content.{Message, code, is_kind, is_ack, is_long, is_bare}
use Rattle.wire_message.specs.declared.limits.TheConstants.{MAX_PAYLOAD}

-- n bytes from a place on
abbrev pub cells : List ℕ → ℕ → ℕ → List ℕ
cells bytes at zero = []
cells bytes at (suc n) = slice_index bytes at ∷ cells bytes (at + 1) n

-- the number at a place
abbrev pub number_at : Width → List ℕ → ℕ → ℕ
number_at width bytes at = from_be_bytes width (cells bytes at (byte_len width))

-- the whole length that the argument count and the payload length tell
abbrev pub told_length : List ℕ → ℕ
told_length bytes = 40 + 4 * slice_index bytes 6 + number_at w16 bytes 22

-- the first four bytes are the magic of the version
abbrev pub has_magic : (version : ℕ) → List ℕ → Bool
has_magic version bytes =
    (slice_index bytes 0 == 71)
    && (slice_index bytes 1 == 65)
    && (slice_index bytes 2 == 77)
    && (slice_index bytes 3 == 48 + version)

-- more than 16 arguments, or an Ack with one
abbrev pub is_wrong_count : (kind count : ℕ) → Bool
is_wrong_count kind count = nat_lt 16 count || (is_ack kind && not (count == 0))

-- byte 7 isn't 0, or an Ack has a handler, or another kind has none, or a kind other than Long has an offset
abbrev pub is_wrong_reserved : (kind reserved handler offset : ℕ) → Bool
is_wrong_reserved kind reserved handler offset =
    not (reserved == 0)
    || (is_ack kind && not (handler == 0))
    || (not (is_ack kind) && (handler == 0))
    || (not (is_long kind) && not (offset == 0))

-- a payload of more than 8,192 bytes, or one of a kind that has none
abbrev pub is_wrong_length : (kind payload : ℕ) → Bool
is_wrong_length kind payload = nat_lt MAX_PAYLOAD payload || (is_bare kind && not (payload == 0))

-- the fields of a header that the table tests: byte 4, byte 6, byte 7 and byte 5, and the numbers behind them
pub record HeaderFields : Type 0 where
  pub kind : ℕ
  pub count : ℕ
  pub reserved : ℕ
  pub handler : ℕ
  pub offset : ℕ
  pub number : ℕ
  pub from : ℕ
  pub to : ℕ
  pub payload : ℕ

-- as they stand in these bytes
abbrev pub fields_at : List ℕ → HeaderFields
fields_at bytes = record {
  kind = slice_index bytes 4;
  count = slice_index bytes 6;
  reserved = slice_index bytes 7;
  handler = slice_index bytes 5;
  offset = number_at w64 bytes 32;
  number = number_at w64 bytes 24;
  from = number_at w16 bytes 16;
  to = number_at w16 bytes 18;
  payload = number_at w16 bytes 22;
}

-- as they are in the header of this message
abbrev pub fields_of : Message → HeaderFields
fields_of message = record {
  kind = code message.kind;
  count = length message.args;
  reserved = 0;
  handler = message.handler;
  offset = message.offset;
  number = message.number;
  from = message.from;
  to = message.to;
  payload = length message.payload;
}

-- nothing is wrong with them
abbrev pub is_clean : HeaderFields → Bool
is_clean fields =
    is_kind fields.kind
    && not (is_wrong_count fields.kind fields.count)
    && not (is_wrong_reserved fields.kind fields.reserved fields.handler fields.offset)
    && not (fields.number == 0)
    && not (fields.from == fields.to)
    && not (is_wrong_length fields.kind fields.payload)

-- the refusal of the first test that holds
abbrev pub first_that_holds : List (Bool × Refused) → Option Refused
first_that_holds [] = None
first_that_holds (row ∷ rest) = if row.0 then Some row.1 else first_that_holds rest

-- the table: tests with their refusals
abbrev pub rows : (version : ℕ) → List ℕ → List (Bool × Refused)
rows version bytes =
    (nat_lt (length bytes) 40, refused.Short (length bytes))
    ∷ (not (has_magic version bytes), refused.Magic)
    ∷ (not (is_kind (slice_index bytes 4)), refused.Kind)
    ∷ (is_wrong_count (slice_index bytes 4) (slice_index bytes 6), refused.ArgCount)
    ∷ (
      is_wrong_reserved (slice_index bytes 4) (slice_index bytes 7) (slice_index bytes 5) (number_at w64 bytes 32),
      refused.Reserved,
    )
    ∷ (number_at w64 bytes 24 == 0, refused.Number)
    ∷ (number_at w16 bytes 16 == number_at w16 bytes 18, refused.SelfAddressed)
    ∷ (is_wrong_length (slice_index bytes 4) (number_at w16 bytes 22), refused.Length)
    ∷ (nat_lt (length bytes) (told_length bytes), refused.Cut (length bytes))
    ∷ (nat_lt (told_length bytes) (length bytes), refused.Trailing (told_length bytes))
    ∷ []

-- the first refusal that applies to these bytes, as a message of this version
unfoldable pub first_refusal : (version : ℕ) → List ℕ → Option Refused
first_refusal version bytes = first_that_holds (rows version bytes)
