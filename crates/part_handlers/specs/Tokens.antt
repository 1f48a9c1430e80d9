-- A token, and what its calls and a whole run leave of it.
use Rattle.std.specs.Prelude.{ℕ, ℤ, pos, ◌≡◌, ◌-◌, List, [], ◌∷◌, ◌++◌, Option, Some, None, Result, drop, replicate}
use Rattle.std.specs.Prelude.{length, is_some, map}
use Rattle.part_segment.specs.Image.{written_by}
use Rattle.part_handlers.specs.Locks.{lock_answer, after_lock, unlock_answer, after_unlock, blocking_lock, holds}
use Rattle.part_handlers.specs.declared.lock_answer.Held.{Held}
use Rattle.part_handlers.specs.declared.lock_answer.Owner.TheVariants as owner
use Rattle.part_handlers.specs.declared.lock_answer.LockAnswer.{LockAnswer}
use Rattle.part_handlers.specs.declared.lock_answer.UnlockAnswer.{UnlockAnswer}
use Rattle.wire_message.specs.Content.{Content}
use Rattle.wire_message.specs.Parameters.{Parameters}
use Rattle.part_handlers.specs.declared.rules.CallKind.{CallKind}
use Rattle.part_handlers.specs.declared.rules.CallKind.TheVariants as call
use Rattle.part_handlers.specs.declared.rules.Forbidden.{Forbidden}
use Rattle.part_handlers.specs.declared.rules.Fault.{Fault}
use Rattle.part_handlers.specs.declared.rules.Fault.TheVariants as fault
use Rattle.part_handlers.specs.declared.message.Incoming.{Incoming}
use Rattle.part_handlers.specs.declared.message.Reply.{Reply}
use Rattle.part_handlers.specs.declared.message.Replied.{Replied}
use Rattle.part_handlers.specs.declared.message.Replied.TheVariants as replied
use Rattle.part_handlers.specs.declared.token.Token.{Token}
use Rattle.part_handlers.specs.Rules.{rule, context_of}
use Rattle.part_handlers.specs.LogState.{notes}
use Rattle.part_handlers.specs.Runs.{Arrival, Frame, Start, Outcome, violation, answer_by, reply_bytes, reply_faults}
use Rattle.part_handlers.specs.Runs.{IsReady, AreFree, IsPlaced, IsSpelled, lock_refusal, unlock_refusal}

-- the message, with its references followed
abbrev pub arrival_of : Incoming → Arrival
arrival_of message = record {
  role = message.role;
  me = message.me;
  source = message.source;
  slot = message.slot;
  number = message.number;
  args = message.args.now;
  payload = message.payload.now;
  place = message.place;
}

-- the reply that was sent: its arguments with zeros behind them, up to 16, and the length of its bytes
abbrev pub reply_from : Parameters → Arrival → Content → Reply
reply_from settings arrival content = record {
  kind = content.kind;
  handler = content.handler;
  count = length content.args;
  args = content.args ++ replicate (16 - length content.args) (pos 0);
  offset = content.offset;
  len = length (reply_bytes settings arrival content);
}

-- the buffer with these bytes at its beginning
abbrev pub with_payload : List ℕ → List ℕ → List ℕ
with_payload bytes buffer = bytes ++ drop (length bytes) buffer

-- the message that the token is for
abbrev pub token_arrival : Token → Arrival
token_arrival token = arrival_of token.message

-- what stays the same while a handler runs with the token
abbrev pub frame_of : Token → Frame
frame_of token = record {
  settings = token.settings.now;
  table = token.table.now;
  listed = token.listed;
  arrival = token_arrival token;
}

-- ---- what calls are answered

-- how the rule table judges a call by the token
abbrev pub token_rule : Token → CallKind → Result (Unit {0}) Forbidden
token_rule token kind =
    rule (context_of token.message.role) (holds owner.Handler token.locks.now) (is_some token.reply) kind

-- the answer to a reply that is asked for by the token
abbrev pub answer_with_token : Token → Content → Replied
answer_with_token token content =
    answer_by (token_rule token call.Reply) (reply_faults token.settings.now token.table.now content)

-- the answer to a lock that is asked for by the token
abbrev pub token_lock_answer : Token → (lock : ℕ) → LockAnswer
token_lock_answer token lock = lock_answer token.locks.now owner.Handler lock token.listed

-- the answer to a lock that is given back by the token
abbrev pub token_unlock_answer : Token → (lock : ℕ) → UnlockAnswer
token_unlock_answer token lock = unlock_answer token.locks.now owner.Handler lock

-- ---- what calls leave

-- the token after these faults were noted
abbrev pub noting : Token → List Fault → Token
noting token faults = record token {
  log = record token.log { now = notes token.log.now (map (violation token.message.role) faults) };
}

-- the token with these locks held
abbrev pub with_locks : Token → List Held → Token
with_locks token held = record token { locks = record token.locks { now = held } }

-- the token after a lock was asked for
abbrev pub locking : Token → (lock : ℕ) → Token
locking token lock =
    with_locks (noting token (lock_refusal (token_lock_answer token lock)))
    (after_lock token.locks.now owner.Handler lock token.listed)

-- the token after a lock was given back
abbrev pub unlocking : Token → (lock : ℕ) → Token
unlocking token lock =
    with_locks (noting token (unlock_refusal (token_unlock_answer token lock)))
    (after_unlock token.locks.now owner.Handler lock)

-- the token after these bytes were written into its buffer
abbrev pub writing : Token → List ℕ → Token
writing token bytes = record token { buffer = record token.buffer { now = with_payload bytes token.buffer.now } }

-- the token after this reply was sent
abbrev pub sending : Token → Content → Token
sending token content =
    record (writing token (reply_bytes token.settings.now (token_arrival token) content)) {
      reply = Some (reply_from token.settings.now (token_arrival token) content);
    }

-- the token after a reply was asked for, by its answer
abbrev pub token_after_reply : Token → Content → Replied → Token
token_after_reply token content replied.Sent = sending token content
token_after_reply token content (replied.Forbidden forbidden) = noting token (fault.Rule forbidden ∷ [])
token_after_reply token content (replied.BadArg part) = token

-- ---- runs

-- what is asked of a token while a handler works at it: of its message and its buffer; and no thread holds a lock that
-- the handler may take
pub record IsReadyToken (token : Token) : Type 0 where
  pub ready : IsReady (token_arrival token) token.buffer.now
  pub unblocked : blocking_lock token.locks.now token.listed ≡ None

-- what a handler works on: the node's segment and cells, and the token
pub record Stage : Type 0 where
  pub segment : List ℕ
  pub cells : List ℤ
  pub token : Token

-- those together
abbrev pub stage : (segment : List ℕ) → (cells : List ℤ) → Token → Stage
stage segment cells token = record { segment = segment; cells = cells; token = token }

-- what a handler finds there
abbrev pub start_of : Stage → Start
start_of opening = record {
  cells = opening.cells;
  segment = opening.segment;
  locks = opening.token.locks.now;
}

-- a token that was just made
pub record IsFresh (token : Token) : Type 0 where
  pub unreplied : token.reply ≡ None
  pub ready : IsReady (token_arrival token) token.buffer.now
  pub free : AreFree token.listed token.locks.now

-- the segment is that of the token's job, and the place of a Long's payload lies inside it
pub record IsSegment (token : Token) (segment : List ℕ) : Type 0 where
  pub sized : length segment ≡ token.settings.now.segment
  pub placed : IsPlaced (length segment) (token_arrival token).place

-- the buffer after a reply, if there is one
abbrev pub buffer_after : Parameters → Arrival → Option Content → List ℕ → List ℕ
buffer_after settings arrival None buffer = buffer
buffer_after settings arrival (Some content) buffer = with_payload (reply_bytes settings arrival content) buffer

-- the reply that was sent, if there is one
abbrev pub reply_after : Parameters → Arrival → Option Content → Option Reply
reply_after settings arrival None = None
reply_after settings arrival (Some content) = Some (reply_from settings arrival content)

-- the token that a run with this outcome leaves of a token
abbrev pub leaving : Outcome → Token → Token
leaving outcome token = record token {
  log = record token.log { now = notes token.log.now (map (violation token.message.role) outcome.refused) };
  locks = record token.locks { now = outcome.locks };
  buffer = record token.buffer
      { now = buffer_after token.settings.now (token_arrival token) outcome.reply token.buffer.now };
  reply = reply_after token.settings.now (token_arrival token) outcome.reply;
}

-- segment, cells and token are what this outcome leaves of those at the opening
pub record At (opening : Stage) (outcome : Outcome) (now : Stage) : Type 0 where
  pub segment_is : now.segment ≡ written_by opening.segment outcome.writes
  pub same_length : length now.segment ≡ length opening.segment
  pub cells_are : now.cells ≡ outcome.cells
  pub token_is : now.token ≡ leaving outcome opening.token
  pub spelled : IsSpelled (frame_of opening.token) outcome.reply
