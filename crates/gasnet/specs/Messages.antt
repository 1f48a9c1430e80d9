-- What a message says: the contents of the replies that handlers give.
pub use Rattle.wire_message.specs.Content.{short_reply, medium_reply, long_reply}
