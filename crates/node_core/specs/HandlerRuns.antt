-- What the runs of handlers do to what a node keeps.
-- Origin: GASNet 1.8.1, core API, active messages: handlers and their replies. The payload of a Long message stands at
-- its place of the segment before its handler runs.
use Rattle.std.specs.Prelude.{ℕ, ◌++◌, ◌∷◌, [], if◌then◌else◌, List, length, map, Option, None, Some}
use Rattle.wire_message.specs.Parameters.{Parameters}
use Rattle.wire_message.specs.Content.{Content, ack, code, is_ack, is_long}
use Rattle.part_segment.specs.Image.{Write}
use Rattle.part_handlers.specs.declared.table.Entry.{Entry}
use Rattle.part_handlers.specs.declared.rules.Role.{Role}
use Rattle.part_handlers.specs.declared.rules.Role.TheVariants as role
use Rattle.part_handlers.specs.Registered.{entry_at}
use Rattle.part_handlers.specs.Runs.{Arrival, Frame, Start, Outcome, Meaning, violation, after_return}
use Rattle.spec_node.specs.Behaviour.{Contact}
use Rattle.node_core.specs.Library.{is_library, library_outcome}
use Rattle.node_core.specs.Kept.{Local, start_from, with_writes}

-- the handlers of a node: the settings, what is registered, and what the handlers do
pub record NodeHandlers : Type 0 where
  pub settings : Parameters
  pub table : List (Option Entry)
  pub meaning : Meaning

-- handlers that do this, registered in this table
abbrev pub handlers_of : Parameters → List (Option Entry) → Meaning → NodeHandlers
handlers_of settings table meaning = record { settings = settings; table = table; meaning = meaning }

-- ---- payloads

-- what the message writes before its handler runs: a Long's payload, at its place
abbrev pub landing : Content → List Write
landing content =
    if is_long (code content.kind) then record { offset = content.offset; bytes = content.payload } ∷ [] else []

-- the place of a Long's payload: its first byte and its length
abbrev pub place_of : Content → Option (ℕ × ℕ)
place_of content =
    if is_long (code content.kind) then Some (content.offset, length content.payload) else None

-- the payload that the handler sees in a buffer: all but a Long's
abbrev pub shown_payload : Content → List ℕ
shown_payload content = if is_long (code content.kind) then [] else content.payload

-- ---- runs

-- the locks that an entry lists, bit k for lock k; none where there is no entry
abbrev pub entry_locks : Option Entry → ℕ
entry_locks None = 0
entry_locks (Some entry) = entry.locks

-- the locks that the handler of this index may take
abbrev pub listed_for : List (Option Entry) → (handler : ℕ) → ℕ
listed_for table handler = entry_locks (entry_at table handler)

-- the message, as its handler finds it
abbrev pub arrival_in : Role → Contact → Content → Arrival
arrival_in which contact content = record {
  role = which;
  me = contact.me;
  source = contact.peer;
  slot = contact.slot;
  number = contact.number;
  args = content.args;
  payload = shown_payload content;
  place = place_of content;
}

-- what stays the same while a handler of this role runs for a message
abbrev pub frame_of_run : NodeHandlers → Role → Contact → Content → Frame
frame_of_run handlers which contact content = record {
  settings = handlers.settings;
  table = handlers.table;
  listed = listed_for handlers.table content.handler;
  arrival = arrival_in which contact content;
}

-- what the run of a client's handler of this role for a message gives, from what it finds: its return is judged too
abbrev pub client_outcome : NodeHandlers → Role → Contact → Content → Start → Outcome
client_outcome handlers which contact content start =
    let frame = frame_of_run handlers which contact content in
    after_return frame (handlers.meaning content.handler frame start)

-- what the run of a handler gives: the library's own, or a client's
abbrev pub outcome : NodeHandlers → Role → Contact → Content → Start → Outcome
outcome handlers which contact content start =
    if is_library content.handler then library_outcome content start
    else client_outcome handlers which contact content start

-- what a run leaves; the locks of threads stay theirs
abbrev pub left_by_run : Role → Outcome → Local → Local
left_by_run which run local = record {
  writes = local.writes ++ run.writes;
  cells = run.cells;
  locks = local.locks;
  violations = local.violations ++ map (violation which) run.refused;
}

-- the reply of a run: an Ack where the handler sent none
abbrev pub reply_or_ack : Option Content → Content
reply_or_ack None = ack
reply_or_ack (Some content) = content

-- a run of a request of the peer: its payload lands, and its handler runs
abbrev pub run_request : NodeHandlers → Contact → Content → Local → Local × Content
run_request handlers contact content local =
    let landed = with_writes local (landing content) in
    let run = outcome handlers role.Request contact content (start_from handlers.settings landed) in
    (left_by_run role.Request run landed, reply_or_ack run.reply)

-- a run of a reply of the peer, as a request's; an Ack runs no handler
abbrev pub run_reply : NodeHandlers → Contact → Content → Local → Local
run_reply handlers contact content local =
    if is_ack (code content.kind) then local
    else (let landed = with_writes local (landing content) in
    left_by_run role.Reply (outcome handlers role.Reply contact content (start_from handlers.settings landed)) landed)
