-- What the run of a handler leaves of what it touches.
use Rattle.std.specs.Prelude.{ℕ, ℤ, ◌≡◌, ◌≢◌, ◌≤◌, ◌++◌, List, map, drop, length, Option, Some, None}
use Rattle.wire_message.specs.Message.{Message, IsMessage, spelling}
use Rattle.part_window.specs.RepliesState.{RepliesState, with_reply}
use Rattle.part_segment.specs.Image.{written_by}
use Rattle.part_handlers.specs.declared.lock_answer.Held.{Held}
use Rattle.part_handlers.specs.declared.message.Reply.{Reply}
use Rattle.part_handlers.specs.LogState.{LogRecord, notes}
use Rattle.part_handlers.specs.declared.rules.Role.TheVariants as role
use Rattle.part_handlers.specs.Runs.{Arrival, Frame, Start, Outcome, Meaning, IsLawful, after_return, violation}
use Rattle.part_handlers.specs.Runs.{outgoing_reply, IsReady, IsPlaced, AreFree, IsSpelled}
use Rattle.part_handlers.specs.Tokens.{arrival_of, buffer_after, reply_after}
use Rattle.node_core.specs.declared.context.Work.{Work}
use Rattle.node_core.specs.declared.context.HandlerContext.{HandlerContext}
use Rattle.node_core.specs.declared.context.OwnReply.{OwnReply}
use Rattle.node_core.specs.Landed.{content_at}
use Rattle.node_core.specs.HandlerRuns.{frame_of_run, handlers_of, landing, listed_for, place_of, reply_or_ack}
use Rattle.spec_node.specs.Step.{with_itself}
use Rattle.wire_message.specs.Parameters.{Parameters}
use Rattle.wire_message.specs.Content.{Content}
use Rattle.part_handlers.specs.declared.table.Entry.{Entry}

-- what stays the same while the messages of the local node run
pub record OwnFrame : Type 0 where
  pub settings : Parameters
  pub table : List (Option Entry)
  pub me : ℕ

-- what the runs of handlers write
pub record HandlerState : Type 0 where
  pub cells : List ℤ
  pub segment : List ℕ
  pub locks : List Held
  pub log : LogRecord

-- the run of a handler: what stays the same meanwhile, what it gives, and what it found
pub record HandlerContextRun : Type 0 where
  pub frame : Frame
  pub outcome : Outcome
  pub before : HandlerState

-- what a context has of it
abbrev pub handler_state : HandlerContext → HandlerState
handler_state context = record {
  cells = context.cells.now;
  segment = context.segment.now;
  locks = context.locks.now;
  log = context.log.now;
}

-- the same references, whatever was written behind them
pub record IsSameHandlerContext (old new : HandlerContext) : Type 0 where
  pub cells_name : new.cells.ghost_name ≡ old.cells.ghost_name
  pub segment_name : new.segment.ghost_name ≡ old.segment.ghost_name
  pub locks_name : new.locks.ghost_name ≡ old.locks.ghost_name
  pub log_name : new.log.ghost_name ≡ old.log.ghost_name
  pub settings_same : new.settings ≡ old.settings
  pub table_same : new.table ≡ old.table
  pub listed_same : new.listed ≡ old.listed

-- what a handler finds
abbrev pub start_on : HandlerState → Start
start_on found = record { cells = found.cells; segment = found.segment; locks = found.locks }

-- what stays the same on a context while a handler runs for a message
abbrev pub frame_on : HandlerContext → Arrival → Frame
frame_on context arrival = record {
  settings = context.settings.now;
  table = context.table.now;
  listed = context.listed;
  arrival = arrival;
}

-- what is asked of a context on which a handler runs for a message, with this buffer for its reply
pub record CanRun (context : HandlerContext) (arrival : Arrival) (buffer : List ℕ) : Type 0 where
  pub ready : IsReady arrival buffer
  pub free : AreFree context.listed context.locks.now
  pub sized : length context.segment.now ≡ context.settings.now.segment
  pub placed : IsPlaced (length context.segment.now) arrival.place

-- what is asked of a context on which the handler of a request of another node runs
pub record CanAnswer (context : HandlerContext) (arrival : Arrival) : Type 0 where
  pub few : length arrival.args ≤ 16
  pub request : arrival.role ≡ role.Request
  pub other : arrival.me ≢ arrival.source
  pub numbered : 1 ≤ arrival.number
  pub free : AreFree context.listed context.locks.now
  pub sized : length context.segment.now ≡ context.settings.now.segment
  pub placed : IsPlaced (length context.segment.now) arrival.place

-- the run of this handler on the context, for a message: its return is judged too
abbrev pub context_run : Meaning → (handler : ℕ) → HandlerContext → Arrival → HandlerContextRun
context_run meaning handler context arrival =
    let frame = frame_on context arrival in
    record {
      frame = frame;
      outcome = after_return frame (meaning handler frame (start_on (handler_state context)));
      before = handler_state context;
    }

-- the run of the handler that is worked on, where it finds this
abbrev pub run_of : Meaning → Work → HandlerState → HandlerContextRun
run_of meaning work before =
    let frame : Frame = record {
      settings = work.settings.now;
      table = work.table.now;
      listed = work.listed;
      arrival = arrival_of work.message;
    } in
    record {
      frame = frame;
      outcome = after_return frame (meaning work.handler frame (start_on before));
      before =
          before;
    }

-- what the run of a handler left of that: what it wrote, the locks that were held, and the violations that were noted
pub record LeavesTouched (run : HandlerContextRun) (after : HandlerState) : Type 0 where
  pub cells_are : after.cells ≡ run.outcome.cells
  pub segment_is : after.segment ≡ written_by run.before.segment run.outcome.writes
  pub same_length : length after.segment ≡ length run.before.segment
  pub locks_are : after.locks ≡ run.before.locks
  pub log_is : after.log ≡ notes run.before.log (map (violation run.frame.arrival.role) run.outcome.refused)

-- what stays the same while the reply of an own request runs
abbrev pub own_frame : OwnReply → OwnFrame
own_frame own = record { settings = own.settings.now; table = own.table.now; me = own.me }

-- the run of a reply of the local node, after its payload landed
abbrev pub own_reply_run : Meaning → OwnFrame → Content → HandlerState → HandlerContextRun
own_reply_run meaning own content before =
    let frame = frame_of_run (handlers_of own.settings own.table meaning) role.Reply (with_itself own.me) content in
    record {
      frame = frame;
      outcome = after_return frame (meaning content.handler frame (start_on before));
      before = before;
    }

-- what is asked of the reply of an own request, whose payload stands at the beginning of a buffer
pub record CanRunOwnReply (own : OwnReply) (segment : List ℕ) (locks : List Held) (buffer : List ℕ) : Type 0 where
  pub few : own.reply.count ≤ 16
  pub args : length own.reply.args ≡ 16
  pub len : own.reply.len ≤ length buffer
  pub placed : IsPlaced (length segment) (place_of (content_at buffer own.reply))
  pub sized : length segment ≡ own.settings.now.segment
  pub free : AreFree (listed_for own.table.now own.reply.handler) locks

-- the segment after a payload landed
abbrev pub landed_on : HandlerState → Content → HandlerState
landed_on found content = record found { segment = written_by found.segment (landing content) }

-- the reply of an own request, if there is one, landed and ran
abbrev pub RunsReply : Meaning → HandlerContextRun → Option Content → (middle after : HandlerState) → Type 0
RunsReply meaning run None middle after = after ≡ middle
RunsReply meaning run (Some content) middle after =
    let own : OwnFrame = record {
      settings = run.frame.settings;
      table = run.frame.table;
      me = run.frame.arrival.me;
    } in
    LeavesTouched (own_reply_run meaning own content (landed_on middle content)) after

-- the run of an own request left this, and then that of its reply
pub record RunsOwn (meaning : Meaning) (run : HandlerContextRun) (after : HandlerState) : Type 0 where
  pub middle : HandlerState
  pub left : LeavesTouched run middle
  pub replied : RunsReply meaning run run.outcome.reply middle after

-- the run left this, and the reply that it sent, with its bytes in the buffer
pub record Ran (run : HandlerContextRun) (after : HandlerState) (buffer new_buffer : List ℕ) (reply : Option Reply)
    : Type 0 where
  pub left : LeavesTouched run after
  pub buffer_is : new_buffer ≡ buffer_after run.frame.settings run.frame.arrival run.outcome.reply buffer
  pub reply_is : reply ≡ reply_after run.frame.settings run.frame.arrival run.outcome.reply
  pub lawful : IsLawful run.frame run.outcome.reply
  pub spelled : IsSpelled run.frame run.outcome.reply

-- the reply of a run, an Ack for none, on its way
abbrev pub reply_of_run : HandlerContextRun → Message
reply_of_run run = outgoing_reply run.frame.settings run.frame.arrival (reply_or_ack run.outcome.reply)

-- the run of another node's request left this, and the datagram of its reply, or of an Ack, at the beginning of the
-- buffer
pub record LeavesReply (run : HandlerContextRun) (after : HandlerState) (buffer new_buffer : List ℕ) (len : ℕ)
    : Type 0 where
  pub left : LeavesTouched run after
  pub message : IsMessage (reply_of_run run)
  pub len_is : len ≡ length (spelling (reply_of_run run))
  pub buffer_is : new_buffer ≡ spelling (reply_of_run run) ++ drop (length (spelling (reply_of_run run))) buffer

-- the run of another node's request left this, and its reply, or an Ack, in its slot
pub record KeepsReply (run : HandlerContextRun) (after : HandlerState) (replies new_replies : RepliesState)
    : Type 0 where
  pub left : LeavesTouched run after
  pub message : IsMessage (reply_of_run run)
  pub replies_are : new_replies ≡ with_reply replies run.frame.arrival.source run.frame.arrival.slot
      run.frame.arrival.number (spelling (reply_of_run run))
