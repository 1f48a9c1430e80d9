-- What the payload of an own request or of its reply becomes. A Long's stands in the segment, a Medium's at the beginning
-- of a buffer.
use Rattle.std.specs.Prelude.{ℕ, ◌≡◌, ◌≤◌, take, List, length, Option, Some, None, if◌then◌else◌}
use Rattle.wire_message.specs.Content.{Content, code, is_long}
use Rattle.part_segment.specs.Image.{written_by}
use Rattle.part_handlers.specs.declared.message.Reply.{Reply}
use Rattle.spec_node.specs.Behaviour.{Asking}
use Rattle.node_core.specs.HandlerRuns.{landing, shown_payload}
use Rattle.node_core.specs.ClientRules.{has_place, payload_len}

-- the payload of this content landed in a segment, or stands at the beginning of a buffer, with so many bytes
pub record IsLanded (content : Content) (segment new_segment buffer : List ℕ) (shown : ℕ) : Type 0 where
  pub landed : new_segment ≡ written_by segment (landing content)
  pub same_length : length new_segment ≡ length segment
  pub shown_is : take shown buffer ≡ shown_payload content
  pub within : shown ≤ length buffer

-- the place of the payload of an own request: its first byte and its length; none but for a Long one
abbrev pub asked_place : Asking → Option (ℕ × ℕ)
asked_place asking = if has_place asking.category then Some (asking.offset, payload_len asking.payload) else None

-- the same of a reply
abbrev pub replied_place : Reply → Option (ℕ × ℕ)
replied_place reply = if is_long (code reply.kind) then Some (reply.offset, reply.len) else None

-- the content of a reply of the local node, whose payload stands at the beginning of a buffer
abbrev pub content_at : (buffer : List ℕ) → Reply → Content
content_at buffer reply = record {
  kind = reply.kind;
  handler = reply.handler;
  args = take reply.count reply.args;
  offset = reply.offset;
  payload = take reply.len buffer;
}
