-- Messages as the code holds them, and the message that stands in bytes, place by place.
use Rattle.std.specs.Prelude.{◌≡◌, ◌==◌, if◌then◌else◌, ℕ, ◌*◌, List, [], ◌∷◌, take, drop, slice_index, Option, Some}
use Rattle.std.specs.Prelude.{None, Result, Ok, Err, ℤ}
use Rattle.std.specs.Int.{w16, w32, w64, from_be_bytes, cast_signed}
use Rattle.wire_message.specs.declared.kind.Kind.{Kind}
use Rattle.wire_message.specs.declared.kind.Kind.TheVariants.{ShortRequest, MediumRequest, LongRequest, ShortReply}
use Rattle.wire_message.specs.declared.kind.Kind.TheVariants.{MediumReply, LongReply, Ack}
use Rattle.wire_message.specs.declared.refused.Refused.{Refused}
use Rattle.wire_message.specs.declared.outgoing.Outgoing.{Outgoing}
use Rattle.wire_message.specs.declared.viewed.View.{View}
use Rattle.wire_message.specs.Content.{Message}
use Rattle.wire_message.specs.Refusals.{number_at}

-- the kind that a byte stands for
abbrev pub kind_of : ℕ → Kind
kind_of kind =
    if kind == 0 then ShortRequest else (if kind == 1 then MediumRequest else (if kind == 2 then LongRequest else (
    if kind == 3 then ShortReply else (if kind == 4 then MediumReply else (if kind == 5 then LongReply else Ack)))))

-- the arguments that bytes spell, four bytes each
abbrev pub integers_of : List ℕ → List ℤ
integers_of (a ∷ b ∷ c ∷ d ∷ rest) = cast_signed w32 (from_be_bytes w32 (a ∷ b ∷ c ∷ d ∷ [])) ∷ integers_of rest
integers_of _ = []

-- the message that is to be sent
abbrev pub outgoing_message : Outgoing → Message
outgoing_message parts = record {
  version = parts.version;
  kind = parts.kind;
  job = parts.job;
  from = parts.from;
  to = parts.to;
  slot = parts.slot;
  number = parts.number;
  handler = parts.handler;
  args = parts.args.now;
  offset = parts.offset;
  payload = parts.payload.now;
}

-- the message that was read
abbrev pub viewed_message : View → Message
viewed_message view = record {
  version = view.version;
  kind = view.kind;
  job = view.job;
  from = view.from;
  to = view.to;
  slot = view.slot;
  number = view.number;
  handler = view.handler;
  args = integers_of view.words.now;
  offset = view.offset;
  payload = view.payload.now;
}

-- the message of a version whose fields stand at the places of the layout
unfoldable pub message_at : (version : ℕ) → List ℕ → Message
message_at version bytes = record {
  version = version;
  kind = kind_of (slice_index bytes 4);
  job = number_at w64 bytes 8;
  from = number_at w16 bytes 16;
  to = number_at w16 bytes 18;
  slot = number_at w16 bytes 20;
  number = number_at w64 bytes 24;
  handler = slice_index bytes 5;
  args = integers_of (take (4 * slice_index bytes 6) (drop 40 bytes));
  offset = number_at w64 bytes 32;
  payload = drop (4 * slice_index bytes 6) (drop 40 bytes);
}

-- the refusal of an Err, and None for Ok
abbrev pub refusal_of : Result View Refused → Option Refused
refusal_of (Ok view) = None
refusal_of (Err refusal) = Some refusal

-- Ok with this message
abbrev pub Shows : Message → Result View Refused → Type 0
Shows message (Ok view) = viewed_message view ≡ message
Shows message (Err refusal) = ⊥
