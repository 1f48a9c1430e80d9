-- What a node does beside its slots and numbers, as functions of what it keeps.
use Rattle.std.specs.Prelude.{ℕ, ℤ, ◌≡◌, Bool, true, false, ◌&&◌, if◌then◌else◌, List, Option, None, Some, Result}
use Rattle.std.specs.Prelude.{is_none}
pub use Rattle.wire_message.specs.Content.{is_request}
use Rattle.wire_message.specs.Content.{Content}
use Rattle.part_handlers.specs.declared.rules.CallKind.{CallKind}
use Rattle.part_handlers.specs.declared.rules.Forbidden.{Forbidden}
use Rattle.part_handlers.specs.declared.message.Which.{Which}
use Rattle.spec_node.specs.declared.answer.SlotRef.{SlotRef}
use Rattle.spec_node.specs.declared.answer.Why.{Why}
use Rattle.spec_node.specs.declared.answer.Delivered.{Delivered}
use Rattle.spec_node.specs.declared.answer.Delivered.TheVariants as delivered
use Rattle.spec_node.specs.declared.answer.Ticked.{Ticked}
use Rattle.spec_node.specs.declared.answer.Ticked.TheVariants as ticked

-- ---- what a client asks for

pub data Category : Type 0 where
  Short : Category
  Medium : Category
  Long : Category

-- the payload is given, or it is a range of the local segment
pub data PayloadFrom : Type 0 where
  Lent : (bytes : List ℕ) → PayloadFrom
  Own : (offset len : ℕ) → PayloadFrom

-- a request, as a client asks for it
pub record Asking : Type 0 where
  pub category : Category
  pub handler : ℕ
  pub args : List ℤ
  pub payload : PayloadFrom
  pub offset : ℕ  -- where a Long payload goes in the target's segment

-- a thread asks this of a node
pub record Ask : Type 0 where
  pub thread : ℕ
  pub to : ℕ
  pub what : Asking

-- ---- behaviour

-- a message that goes between the node `me` and a peer: the slot and the number of its request
pub record Contact : Type 0 where
  pub me : ℕ
  pub peer : ℕ
  pub slot : ℕ
  pub number : ℕ

-- a request of the node's own accord
pub record Sending : Type 0 where
  pub to : ℕ
  pub content : Content

pub record Behaviour (Local : Type 0) : Type 0 where
  -- how the rule table judges the thread's call
  pub judges : (thread : ℕ) → CallKind → Local → Result (Unit {0}) Forbidden
  -- what is left where that was noted as a violation
  pub notes : (thread : ℕ) → Forbidden → Local → Local
  -- what is wrong with a client's request, beside its target: the first of its arguments that is bad
  pub faults : Asking → Option Which
  -- what the request says, where the node keeps this
  pub says : Asking → Local → Content
  -- why a message with this content is refused by the node that it is for
  pub refuses : Content → Option Why
  -- the lock for which a request to the local node waits, if any
  pub busy : Content → Local → Option ℕ
  -- the lock for which a message that is delivered waits, if any
  pub waits : Content → Local → Option ℕ
  -- a run of a request of the peer leaves this, and has this reply
  pub run : Contact → Content → Local → Local × Content
  -- a run of the peer's reply to the node's request leaves this
  pub take : Contact → Content → Local → Local
  -- how the run of a request is answered
  pub runs_as : Content → SlotRef → Delivered
  -- the node's own next request, where these nodes can be asked
  pub next : (me : ℕ) → (can : ℕ → Bool) → Local → Option Sending
  -- what is left where that request to the peer was accepted
  pub issued : Contact → Content → Local → Local
  -- how the tick is answered that sends it
  pub sends_as : Content → SlotRef → Ticked

-- ---- answers that are runs, and those that are requests

-- the answer says that a request was run, and that its reply is kept there
abbrev pub RanRequest : Delivered → SlotRef → Type 0
RanRequest (delivered.Ran at) place = at ≡ place
RanRequest (delivered.Notified at notification) place = at ≡ place
RanRequest _ place = ⊥

-- the answer says that a request was sent for the first time, and that it is kept there
abbrev pub IsFirstSent : Ticked → SlotRef → Type 0
IsFirstSent (ticked.Notification at) place = at ≡ place
IsFirstSent (ticked.Chunk at) place = at ≡ place
IsFirstSent _ place = ⊥

-- ---- soundness

-- this is the content of a request that may be delivered
abbrev pub asks_well : (Content → Option Why) → Content → Bool
asks_well refuses content = is_request content.kind && is_none (refuses content)

-- this is the content of a reply that may be delivered
abbrev pub replies_well : (Content → Option Why) → Content → Bool
replies_well refuses content = (if is_request content.kind then false else true) && is_none (refuses content)

-- where each node keeps what is good, by its number: what the behaviour sends may be delivered, what it leaves is
-- good, and its answers say what they must
pub record IsSound {Local : Type 0} (behaviour : Behaviour Local) (IsKept : (me : ℕ) → Local → Type 0) : Type 0 where
  -- a client's request without a fault may be delivered
  pub says : (me : ℕ) (asking : Asking) (local : Local)
      → IsKept me local → behaviour.faults asking ≡ None
      → asks_well behaviour.refuses (behaviour.says asking local) ≡ true
  -- the node's own request may be delivered, and goes to who can be asked
  pub asks : (me : ℕ) (can : ℕ → Bool) (local : Local) (sending : Sending)
      → IsKept me local → behaviour.next me can local ≡ Some sending
      → (can sending.to ≡ true) × (asks_well behaviour.refuses sending.content ≡ true)
  -- a reply may be delivered
  pub replies : (contact : Contact) (content : Content) (local : Local)
      → IsKept contact.me local → asks_well behaviour.refuses content ≡ true
      → replies_well behaviour.refuses (behaviour.run contact content local).1 ≡ true
  pub notes : (me thread : ℕ) (forbidden : Forbidden) (local : Local)
      → IsKept me local → IsKept me (behaviour.notes thread forbidden local)
  pub run : (contact : Contact) (content : Content) (local : Local)
      → IsKept contact.me local → asks_well behaviour.refuses content ≡ true
      → IsKept contact.me (behaviour.run contact content local).0
  pub take : (contact : Contact) (content : Content) (local : Local)
      → IsKept contact.me local → replies_well behaviour.refuses content ≡ true
      → IsKept contact.me (behaviour.take contact content local)
  pub issued : (contact : Contact) (can : ℕ → Bool) (content : Content) (local : Local)
      → IsKept contact.me local
      → behaviour.next contact.me can local ≡ Some (record { to = contact.peer; content = content })
      → IsKept contact.me (behaviour.issued contact content local)
  pub runs_as : (content : Content) (place : SlotRef) → RanRequest (behaviour.runs_as content place) place
  pub sends_as : (content : Content) (place : SlotRef) → IsFirstSent (behaviour.sends_as content place) place
