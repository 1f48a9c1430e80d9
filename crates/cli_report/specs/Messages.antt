-- Which message a datagram is, as far as it is told.
use Rattle.std.specs.Prelude.{◌≡◌, ◌⊎◌, ℕ, List}
use Rattle.wire_message.specs.Content.{Message as Spelled, Spells, is_request}
use Rattle.wire_message.specs.declared.viewed.View.{View}
use Rattle.cli_report.specs.declared.unsent.Message.{Message}

-- what is told of a message
abbrev pub told_of : Spelled → Message
told_of message = record {
  is_request = is_request message.kind;
  from = message.from;
  slot = message.slot;
  number = message.number;
}

abbrev pub message_of_view : View → Message
message_of_view view = record {
  is_request = is_request view.kind;
  from = view.from;
  slot = view.slot;
  number = view.number;
}

-- the bytes are the spelling of such a message
pub record IsMessageOf (bytes : List ℕ) (told : Message) : Type 0 where
  pub message : Spelled
  pub spells : Spells message bytes
  pub is : told ≡ told_of message

-- the bytes are the spelling of no message of version 1 or 2
abbrev pub AreNoMessage : List ℕ → Type 0
AreNoMessage bytes = (message : Spelled) → (message.version ≡ 1) ⊎ (message.version ≡ 2) → Spells message bytes → ⊥
