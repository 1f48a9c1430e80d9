-- The rule table: which call is forbidden where. Origin: GASNet 1.8.1, core API, active messages, what a handler may
-- do.
use Rattle.std.specs.Prelude.{Bool, true, false, ◌&&◌, List, [], ◌∷◌, Result, Ok, Err, if◌then◌else◌}
use Rattle.part_handlers.specs.declared.lock_answer.Owner.{Owner}
use Rattle.part_handlers.specs.declared.lock_answer.Owner.TheVariants as owner
use Rattle.part_handlers.specs.declared.rules.Role.{Role}
use Rattle.part_handlers.specs.declared.rules.Role.TheVariants as role
use Rattle.part_handlers.specs.declared.rules.Context.{Context}
use Rattle.part_handlers.specs.declared.rules.Context.TheVariants.{Thread, RequestHandler, ReplyHandler}
use Rattle.part_handlers.specs.declared.rules.CallKind.{CallKind}
use Rattle.part_handlers.specs.declared.rules.CallKind.TheVariants as call
use Rattle.part_handlers.specs.declared.rules.Forbidden.{Forbidden}
use Rattle.part_handlers.specs.declared.rules.Forbidden.TheVariants.{InHandler, NoToken, SecondReply, ReplyInReply}
use Rattle.part_handlers.specs.declared.rules.Forbidden.TheVariants.{ReplyUnderLock, UnderLock, LockHeldAtReturn}

-- the context of a handler for messages of this role
abbrev pub context_of : Role → Context
context_of role.Request = RequestHandler
context_of role.Reply = ReplyHandler

-- who holds the locks of this context
abbrev pub owner_of : Context → Owner
owner_of (Thread thread) = owner.Thread thread
owner_of RequestHandler = owner.Handler
owner_of ReplyHandler = owner.Handler

-- a client thread makes the call
abbrev pub is_thread : Context → Bool
is_thread (Thread thread) = true
is_thread RequestHandler = false
is_thread ReplyHandler = false

-- a handler makes the call, whichever its role
abbrev pub is_handler : Context → Bool
is_handler (Thread thread) = false
is_handler RequestHandler = true
is_handler ReplyHandler = true

-- a handler of requests makes the call
abbrev pub is_request_handler : Context → Bool
is_request_handler (Thread thread) = false
is_request_handler RequestHandler = true
is_request_handler ReplyHandler = false

-- a handler of replies makes the call
abbrev pub is_reply_handler : Context → Bool
is_reply_handler (Thread thread) = false
is_reply_handler RequestHandler = false
is_reply_handler ReplyHandler = true

-- the calls that communicate, beside a reply: a request, a poll, a transfer, a sync, a call on a region or a barrier
abbrev pub communicates : CallKind → Bool
communicates call.Request = true
communicates call.Reply = false
communicates call.Poll = true
communicates call.Transfer = true
communicates call.Sync = true
communicates call.Region = true
communicates call.Barrier = true
communicates call.Source = false
communicates call.Lock = false
communicates call.Unlock = false
communicates call.Return = false

-- the call is a reply
abbrev pub is_reply : CallKind → Bool
is_reply call.Request = false
is_reply call.Reply = true
is_reply call.Poll = false
is_reply call.Transfer = false
is_reply call.Sync = false
is_reply call.Region = false
is_reply call.Barrier = false
is_reply call.Source = false
is_reply call.Lock = false
is_reply call.Unlock = false
is_reply call.Return = false

-- the calls for which a message is needed: a reply to it, and asking for its source
abbrev pub needs_message : CallKind → Bool
needs_message call.Request = false
needs_message call.Reply = true
needs_message call.Poll = false
needs_message call.Transfer = false
needs_message call.Sync = false
needs_message call.Region = false
needs_message call.Barrier = false
needs_message call.Source = true
needs_message call.Lock = false
needs_message call.Unlock = false
needs_message call.Return = false

-- a handler returns
abbrev pub is_return : CallKind → Bool
is_return call.Request = false
is_return call.Reply = false
is_return call.Poll = false
is_return call.Transfer = false
is_return call.Sync = false
is_return call.Region = false
is_return call.Barrier = false
is_return call.Source = false
is_return call.Lock = false
is_return call.Unlock = false
is_return call.Return = true

-- the refusal of the first line that applies, else Ok
abbrev pub first_that_applies : List (Bool × Forbidden) → Result (Unit {0}) Forbidden
first_that_applies [] = Ok tt
first_that_applies (line ∷ rest) = if line.0 then Err line.1 else first_that_applies rest

-- the lines of the table: where each applies, and its refusal. `holds` says that the context's owner holds a lock,
-- `replied` that the handler has sent its reply
abbrev pub lines : (context : Context) (holds replied : Bool) (kind : CallKind) → List (Bool × Forbidden)
lines context holds replied kind =
    (is_handler context && communicates kind, InHandler)
    ∷ (is_thread context && needs_message kind, NoToken)
    ∷ (is_reply_handler context && is_reply kind, ReplyInReply)
    ∷ (is_request_handler context && is_reply kind && replied, SecondReply)
    ∷ (is_request_handler context && is_reply kind && holds, ReplyUnderLock)
    ∷ (is_handler context && is_return kind && holds, LockHeldAtReturn)
    ∷ (is_thread context && communicates kind && holds, UnderLock)
    ∷ []

-- how the table judges a call
abbrev pub rule : (context : Context) (holds replied : Bool) (kind : CallKind) → Result (Unit {0}) Forbidden
rule context holds replied kind = first_that_applies (lines context holds replied kind)
