-- What messages say, where they go, and the one spelling of each.
-- Origin: GASNet 1.8.1, core API, active messages: Short, Medium and Long requests and replies. The Ack, which answers
-- a
-- request whose handler sent no reply, the layout and the limits are this project's profile.
use Rattle.std.specs.Prelude.{◌≡◌, ◌≢◌, ℕ, ◌+◌, ◌<◌, ◌≤◌, ◌^◌, ◌==◌, ◌||◌, Bool, true, false, nat_lt, List, [], ◌∷◌}
use Rattle.std.specs.Prelude.{◌++◌, length, slice_index, ℤ}
use Rattle.std.specs.List.{flat_map, AllByRecursion}
use Rattle.std.specs.Int.{w16, w32, w64, to_be_bytes, cast_unsigned}
use Rattle.std.specs.Int.RustNames.{FitsSigned}
use Rattle.wire_message.specs.declared.kind.Kind.{Kind}
use Rattle.wire_message.specs.declared.kind.Kind.TheVariants.{ShortRequest, MediumRequest, LongRequest, ShortReply}
use Rattle.wire_message.specs.declared.kind.Kind.TheVariants.{MediumReply, LongReply, Ack}
use Rattle.wire_message.specs.declared.content.Address.{Address}
use Rattle.wire_message.specs.declared.limits.TheConstants.{MAX_PAYLOAD}

-- ---- kinds

-- the byte that stands for a kind
abbrev pub code : Kind → ℕ
code ShortRequest = 0
code MediumRequest = 1
code LongRequest = 2
code ShortReply = 3
code MediumReply = 4
code LongReply = 5
code Ack = 6

-- the byte stands for a kind
abbrev pub is_kind : ℕ → Bool
is_kind kind = nat_lt kind 7

-- the byte stands for an Ack
abbrev pub is_ack : ℕ → Bool
is_ack kind = kind == 6

-- the byte stands for a Long request or reply
abbrev pub is_long : ℕ → Bool
is_long kind = (kind == 2) || (kind == 5)

-- the byte stands for a kind without a payload: a Short request or reply, or an Ack
abbrev pub is_bare : ℕ → Bool
is_bare kind = (kind == 0) || (kind == 3) || (kind == 6)

-- the kind is that of a request
abbrev pub is_request : Kind → Bool
is_request ShortRequest = true
is_request MediumRequest = true
is_request LongRequest = true
is_request ShortReply = false
is_request MediumReply = false
is_request LongReply = false
is_request Ack = false

-- ---- contents

-- what a message says, wherever it goes
pub record Content : Type 0 where
  pub kind : Kind
  pub handler : ℕ
  pub args : List ℤ
  pub offset : ℕ
  pub payload : List ℕ

-- arguments alone
abbrev pub short_request : (handler : ℕ) → List ℤ → Content
short_request handler args = record { kind = ShortRequest; handler = handler; args = args; offset = 0; payload = [] }

-- a payload that the handler sees in a buffer
abbrev pub medium_request : (handler : ℕ) → List ℤ → (payload : List ℕ) → Content
medium_request handler args payload =
    record { kind = MediumRequest; handler = handler; args = args; offset = 0; payload = payload }

-- a payload that goes to a place of the receiver's segment
abbrev pub long_request : (handler : ℕ) → List ℤ → (offset : ℕ) → (payload : List ℕ) → Content
long_request handler args offset payload =
    record { kind = LongRequest; handler = handler; args = args; offset = offset; payload = payload }

-- arguments alone
abbrev pub short_reply : (handler : ℕ) → List ℤ → Content
short_reply handler args = record { kind = ShortReply; handler = handler; args = args; offset = 0; payload = [] }

-- a payload that the handler sees in a buffer
abbrev pub medium_reply : (handler : ℕ) → List ℤ → (payload : List ℕ) → Content
medium_reply handler args payload =
    record { kind = MediumReply; handler = handler; args = args; offset = 0; payload = payload }

-- a payload that goes to a place of the receiver's segment
abbrev pub long_reply : (handler : ℕ) → List ℤ → (offset : ℕ) → (payload : List ℕ) → Content
long_reply handler args offset payload =
    record { kind = LongReply; handler = handler; args = args; offset = offset; payload = payload }

-- the empty reply
abbrev pub ack : Content
ack = record { kind = Ack; handler = 0; args = []; offset = 0; payload = [] }

-- ---- messages

-- the versions of the layout
abbrev pub is_version : ℕ → Bool
is_version version = (version == 1) || (version == 2)

-- a message: the version of its layout, its kind, its job, sender and receiver, the slot and the number of its request,
-- its handler, the arguments, the segment offset of a Long kind, and the payload
pub record Message : Type 0 where
  pub version : ℕ
  pub kind : Kind
  pub job : ℕ
  pub from : ℕ
  pub to : ℕ
  pub slot : ℕ
  pub number : ℕ
  pub handler : ℕ
  pub args : List ℤ
  pub offset : ℕ
  pub payload : List ℕ

-- what an address is, beside the ranges that its fields' types have
pub record IsWellAddressed (address : Address) : Type 0 where
  pub version : is_version address.version ≡ true
  pub apart : address.from ≢ address.to
  pub numbered : 1 ≤ address.number

-- the message that says this, at this address
abbrev pub message_at_address : Address → Content → Message
message_at_address address content = record {
  version = address.version;
  kind = content.kind;
  job = address.job;
  from = address.from;
  to = address.to;
  slot = address.slot;
  number = address.number;
  handler = content.handler;
  args = content.args;
  offset = content.offset;
  payload = content.payload;
}

-- what a message says
abbrev pub content_of : Message → Content
content_of message = record {
  kind = message.kind;
  handler = message.handler;
  args = message.args;
  offset = message.offset;
  payload = message.payload;
}

-- the fields agree with one another: what each kind has and has not, beside the ranges that the fields' types have
pub record IsWellFormed (message : Message) : Type 0 where
  pub version : is_version message.version ≡ true
  pub kind : is_kind (code message.kind) ≡ true
  pub apart : message.from ≢ message.to
  pub numbered : 1 ≤ message.number
  pub ack_handler : is_ack (code message.kind) ≡ (message.handler == 0)
  pub count : length message.args ≤ 16
  pub ack_args : is_ack (code message.kind) ≡ true → length message.args ≡ 0
  pub long_offset : is_long (code message.kind) ≡ false → message.offset ≡ 0
  pub payload_length : length message.payload ≤ MAX_PAYLOAD
  pub bare_payload : is_bare (code message.kind) ≡ true → length message.payload ≡ 0

-- the ranges that the fields' types have, but for the arguments
pub record HasRanges (message : Message) : Type 0 where
  pub job : message.job < 2 ^ 64
  pub from : message.from < 2 ^ 16
  pub to : message.to < 2 ^ 16
  pub slot : message.slot < 2 ^ 16
  pub number : message.number < 2 ^ 64
  pub handler : message.handler < 2 ^ 8
  pub offset : message.offset < 2 ^ 64
  pub payload : (i : ℕ) → slice_index message.payload i < 2 ^ 8

-- the messages that have a spelling: ranges of the fields, and what each kind has and has not
pub record IsMessage (message : Message) : Type 0 where
  pub version : is_version message.version ≡ true
  pub kind : is_kind (code message.kind) ≡ true
  pub job : message.job < 2 ^ 64
  pub from : message.from < 2 ^ 16
  pub to : message.to < 2 ^ 16
  pub apart : message.from ≢ message.to
  pub slot : message.slot < 2 ^ 16
  pub number : message.number < 2 ^ 64
  pub numbered : 1 ≤ message.number
  pub handler : message.handler < 2 ^ 8
  pub ack_handler : is_ack (code message.kind) ≡ (message.handler == 0)
  pub args : AllByRecursion (FitsSigned w32) message.args
  pub count : length message.args ≤ 16
  pub ack_args : is_ack (code message.kind) ≡ true → length message.args ≡ 0
  pub offset : message.offset < 2 ^ 64
  pub long_offset : is_long (code message.kind) ≡ false → message.offset ≡ 0
  pub payload : (i : ℕ) → slice_index message.payload i < 2 ^ 8
  pub payload_length : length message.payload ≤ MAX_PAYLOAD
  pub bare_payload : is_bare (code message.kind) ≡ true → length message.payload ≡ 0

-- ---- the spelling

-- the first four bytes of every message of a version: GAM1 or GAM2
abbrev pub magic : (version : ℕ) → List ℕ
magic version = 71 ∷ 65 ∷ 77 ∷ (48 + version) ∷ []

-- an argument's four bytes, in two's complement
abbrev pub word : ℤ → List ℕ
word argument = to_be_bytes w32 (cast_unsigned w32 argument)

-- the 40 bytes before the arguments: magic; kind, handler, argument count, 0; job; sender; receiver; slot; payload
-- length; number; offset
unfoldable pub header : Message → List ℕ
header message =
    magic message.version
    ++ (code message.kind ∷ message.handler ∷ length message.args ∷ 0 ∷ [])
    ++ to_be_bytes w64 message.job
    ++ to_be_bytes w16 message.from
    ++ to_be_bytes w16 message.to
    ++ to_be_bytes w16 message.slot
    ++ to_be_bytes w16 (length message.payload)
    ++ to_be_bytes w64 message.number
    ++ to_be_bytes w64 message.offset

-- the bytes of a message: header, arguments, payload
unfoldable pub spelling : Message → List ℕ
spelling message = header message ++ flat_map word message.args ++ message.payload

-- these bytes are the message's spelling
pub record Spells (message : Message) (bytes : List ℕ) : Type 0 where
  pub fits : IsMessage message
  pub is : bytes ≡ spelling message
