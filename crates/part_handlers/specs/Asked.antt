-- A reply as a handler asks for it.
use Rattle.std.specs.Prelude.{ℕ, ℤ, ◌≤◌, List, Option, Some, None, length}
use Rattle.wire_message.specs.Content.{Content, short_reply, medium_reply, long_reply}
use Rattle.part_handlers.specs.declared.message.Replied.{Replied}
use Rattle.part_handlers.specs.declared.message.Replied.TheVariants as replied
use Rattle.part_handlers.specs.declared.message.Which.{Which}
use Rattle.part_handlers.specs.declared.reply.AskedReply.{AskedReply}
use Rattle.part_handlers.specs.declared.reply.Load.{Load}
use Rattle.part_handlers.specs.declared.reply.Load.TheVariants as load
use Rattle.wire_message.specs.declared.limits.TheConstants.{MAX_PAYLOAD}

-- what a reply with this load says
abbrev pub loaded_content : Load → (handler : ℕ) → List ℤ → Content
loaded_content load.Nothing handler args = short_reply handler args
loaded_content (load.Medium payload) handler args = medium_reply handler args payload.now
loaded_content (load.Long payload offset) handler args = long_reply handler args offset payload.now

-- what the reply says
abbrev pub asked_content : AskedReply → Content
asked_content asked = loaded_content asked.load asked.handler asked.args.now

-- it names a handler of a client, and its arguments and its payload are within their limits
pub record IsSmall (content : Content) : Type 0 where
  pub some_handler : 1 ≤ content.handler
  pub few : length content.args ≤ 16
  pub small : length content.payload ≤ MAX_PAYLOAD

-- the answer where this part is wrong, if one is
abbrev pub answer_of : Option Which → Replied
answer_of None = replied.Sent
answer_of (Some part) = replied.BadArg part
