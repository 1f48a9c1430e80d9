-- What a message is, and its one spelling: the definitions of `Content` by another name.
pub use Rattle.wire_message.specs.Content.{Message, IsMessage, IsWellFormed, HasRanges, Spells, is_version, code}
pub use Rattle.wire_message.specs.Content.{is_kind, is_ack, is_long, is_bare, magic, word, header, spelling}
