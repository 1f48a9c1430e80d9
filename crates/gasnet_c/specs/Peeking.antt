-- What C is told of a delivery before it comes.
use Rattle.std.specs.Prelude.{ℕ, ◌≡◌, ◌+◌, ◌-◌, ◌/◌, min, nat_lt, if◌then◌else◌, List, take, drop, length, Option, Some}
use Rattle.std.specs.Prelude.{None}
use Rattle.wire_message.specs.Message.{Message, Spells}
use Rattle.wire_message.specs.Reading.{integers_of}
use Rattle.wire_message.specs.Refusals.{first_refusal}
use Rattle.wire_message.specs.declared.kind.Kind.{Kind}
use Rattle.wire_message.specs.declared.kind.Kind.TheVariants as kind
use Rattle.wire_message.specs.declared.refused.Refused.{Refused}
use Rattle.wire_message.specs.declared.viewed.View.{View}
use Rattle.spec_node.specs.declared.answer.Delivered.{Delivered}
use Rattle.spec_node.specs.declared.answer.Delivered.TheVariants as delivered
use Rattle.node_endpoint.specs.EndpointState.{EndpointState, IsAnsweredAlways, WouldDeliver}
use Rattle.gasnet_c.specs.declared.coming.Coming.{Coming}

-- how the client's handler runs where the delivery of a message for this handler is answered so: not, for a request, or
-- for a reply
abbrev pub runs_by : Delivered → (handler : ℕ) → ℕ
runs_by (delivered.Ran at) handler = if nat_lt handler 128 then 0 else 1
runs_by (delivered.Returned to slot number) handler = if nat_lt handler 128 then 0 else 2
runs_by _ handler = 0

-- the number of a category
abbrev pub category_of : Kind → ℕ
category_of kind.ShortRequest = 0
category_of kind.MediumRequest = 1
category_of kind.LongRequest = 2
category_of kind.ShortReply = 0
category_of kind.MediumReply = 1
category_of kind.LongReply = 2
category_of kind.Ack = 0

-- what C is told of a message that was read
pub record TellsView (view : View) (coming : Coming) : Type 0 where
  pub from : coming.from ≡ view.from
  pub handler : coming.handler ≡ view.handler
  pub category : coming.category ≡ category_of view.kind
  pub count : coming.count ≡ min (length view.words.now / 4) 16
  pub args_at : coming.args_at ≡ 40
  pub payload_at : coming.payload_at ≡ length view.words.now + 40
  pub payload_len : coming.payload_len ≡ length view.payload.now
  pub place : coming.place ≡ view.offset

-- C is told of the message that the bytes spell: of its parts, and where in the bytes the arguments and the payload are
pub record ShowsOf (message : Message) (bytes : List ℕ) (coming : Coming) : Type 0 where
  pub from : coming.from ≡ message.from
  pub handler : coming.handler ≡ message.handler
  pub category : coming.category ≡ category_of message.kind
  pub count : coming.count ≡ length message.args
  pub args : integers_of (take (coming.payload_at - coming.args_at) (drop coming.args_at bytes)) ≡ message.args
  pub payload : drop coming.payload_at bytes ≡ message.payload
  pub payload_len : coming.payload_len ≡ length message.payload
  pub place : coming.place ≡ message.offset

-- `answer` is what a delivery of these bytes would be answered, and is answered always. C is told what that runs, of
-- the message that they spell
pub record Peeks (endpoint : EndpointState) (bytes : List ℕ) (coming : Coming) : Type 0 where
  pub answer : Delivered
  pub would : WouldDeliver endpoint bytes answer
  pub agrees : IsAnsweredAlways endpoint bytes answer
  pub runs : (message : Message) → message.version ≡ endpoint.core.settings.version → Spells message bytes
      → coming.runs ≡ runs_by answer message.handler
  pub shows : (message : Message) → message.version ≡ endpoint.core.settings.version → Spells message bytes
      → ShowsOf message bytes coming
  pub unread : (reason : Refused) → first_refusal endpoint.core.settings.version bytes ≡ Some reason → coming.runs ≡ 0

-- so it is of a node that is held; nothing runs where none is
abbrev pub PeeksIn : Option EndpointState → List ℕ → Coming → Type 0
PeeksIn None bytes coming = coming.runs ≡ 0
PeeksIn (Some endpoint) bytes coming = Peeks endpoint bytes coming
