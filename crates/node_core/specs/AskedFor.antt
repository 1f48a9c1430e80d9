-- What a thread or the library asks, with references followed.
use Rattle.std.specs.Prelude.{ℕ, List}
use Rattle.wire_message.specs.Content.{Content}
use Rattle.spec_node.specs.Behaviour.{Asking as AskedOf, Ask, Category, Short, Medium, Long, PayloadFrom, Lent, Own}
use Rattle.node_core.specs.declared.asking.Asking.{Asking}
use Rattle.node_core.specs.declared.asking.Payload.{Payload}
use Rattle.node_core.specs.declared.asking.Payload.TheVariants as payloads
use Rattle.node_core.specs.declared.asking.Category.{Category as CodeCategory}
use Rattle.node_core.specs.declared.asking.Category.TheVariants as categories
use Rattle.node_core.specs.declared.library.LibraryRequest.{LibraryRequest}
use Rattle.node_core.specs.declared.library.LibraryRequest.TheVariants as library
use Rattle.node_core.specs.Library.{Work, Put, Get, Memset, Notification}
use Rattle.node_core.specs.ClientRules.{asks_of, content_by, said_in}

-- the category
abbrev pub category_of : CodeCategory → Category
category_of categories.Short = Short
category_of categories.Medium = Medium
category_of categories.Long = Long

-- where the payload is
abbrev pub payload_from : Payload → PayloadFrom
payload_from (payloads.Lent bytes) = Lent bytes.now
payload_from (payloads.Own offset len) = Own offset len

-- what is asked
abbrev pub asking_of : Asking → AskedOf
asking_of asking = record {
  category = category_of asking.category;
  handler = asking.handler;
  args = asking.args.now;
  payload = payload_from asking.payload;
  offset = asking.offset;
}

-- what is asked, and of whom
abbrev pub ask_of : Asking → Ask
ask_of asking = asks_of asking.thread asking.to (asking_of asking)

-- what the request says with this payload
abbrev pub content_with : Asking → (payload : List ℕ) → Content
content_with asking payload = content_by (category_of asking.category) (asking_of asking) payload

-- what the request says, where the local segment has these bytes
abbrev pub content_asked : (segment : List ℕ) → Asking → Content
content_asked segment asking = said_in segment (asking_of asking)

-- what the library asks
abbrev pub work_of : LibraryRequest → Work
work_of (library.Put local remote len) = Put local remote len
work_of (library.Get local remote len) = Get local remote len
work_of (library.Memset remote len byte) = Memset remote len byte
work_of (library.Notification notification) = Notification notification
