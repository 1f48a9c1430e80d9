-- Deliveries whose handlers ran before, at the segment as they left it: what stands at a Long's place stays there.
use Rattle.std.specs.Prelude.{ℕ, ◌≡◌, ◌+◌, ◌++◌, ◌∷◌, [], nat_lt, if◌then◌else◌, List, length, Option, Some, None}
use Rattle.part_segment.specs.Bytes.{part}
use Rattle.part_segment.specs.Image.{Write, written_by}
use Rattle.part_handlers.specs.Runs.{Frame, Start, Outcome, Meaning}
use Rattle.part_handlers.specs.declared.rules.Role.TheVariants as role
use Rattle.wire_message.specs.Message.{Message, IsMessage, spelling}
use Rattle.wire_message.specs.Content.{Content, content_of}
use Rattle.part_window.specs.RepliesState.{with_reply}
use Rattle.spec_node.specs.Behaviour.{Contact}
use Rattle.spec_node.specs.Step.{with_sender}
use Rattle.node_core.specs.HandlerRuns.{client_outcome, landing}
use Rattle.node_core.specs.CoreStep.{answer_message, handlers_at, start_at, with_outcome}
use Rattle.node_core.specs.CoreState.{CoreState}
use Rattle.node_core.specs.declared.landing.Landing.{Landing}
use Rattle.node_core.specs.declared.landing.Landing.TheVariants as landings

-- ---- what such handlers mean

-- the bytes of a segment at a Long's place, written to a segment of this length, where they fit
abbrev pub kept_writes : (len : ℕ) → List ℕ → Option (ℕ × ℕ) → List Write
kept_writes len segment None = []
kept_writes len segment (Some place) =
    let bytes = part segment place.0 place.1 in
    if nat_lt len (place.0 + length bytes) then [] else record { offset = place.0; bytes = bytes } ∷ []

-- after it left at a Long's place what stood there in this segment
abbrev pub keeping : List ℕ → Frame → Start → Outcome → Outcome
keeping segment frame start outcome = record outcome {
  writes = outcome.writes ++ kept_writes (length start.segment) segment frame.arrival.place;
}

-- the handlers mean this, and leave at a Long's place what stood there in this segment
abbrev pub keeping_in : List ℕ → Meaning → Meaning
keeping_in segment meaning = λ handler frame start. keeping segment frame start (meaning handler frame start)

-- the runs of the handlers write nothing, and don't depend on the segment's bytes
pub record IsQuiet (meaning : Meaning) : Type 0 where
  pub writes : (handler : ℕ) (frame : Frame) (start : Start) → (meaning handler frame start).writes ≡ []
  pub blind : (handler : ℕ) (frame : Frame) (start : Start) (segment : List ℕ)
      → meaning handler frame (record start { segment = segment }) ≡ meaning handler frame start

-- what the handlers of a delivery mean, by whether a Long's payload is written to its place
abbrev pub meant_in : Landing → List ℕ → Meaning → Meaning
meant_in landings.Written segment meaning = meaning
meant_in landings.Kept segment meaning = keeping_in segment meaning

-- ---- what a delivery does

-- what is written before the handler runs
abbrev pub laid_writes : Landing → Content → List Write
laid_writes landings.Written content = landing content
laid_writes landings.Kept content = []

-- the core after that
abbrev pub laid : Landing → CoreState → Content → CoreState
laid how core content = record core { segment = written_by core.segment (laid_writes how content) }

-- what the run of a client's handler of a request gives at the core as it is
abbrev pub client_on : Meaning → CoreState → Message → Outcome
client_on meaning core message =
    client_outcome (handlers_at meaning core) role.Request (with_sender core.me message) (content_of message)
    (start_at core)

-- a request that is new in its slot ran at the core as it is with this outcome, and its reply, or an Ack, is kept
pub record RunsOn (run : Outcome) (core : CoreState) (message : Message) (new : CoreState) : Type 0 where
  pub spelled : IsMessage (answer_message core (with_sender core.me message) run)
  pub kept : new ≡ record (with_outcome core role.Request run) {
    replies = with_reply core.replies message.from message.slot message.number
        (spelling (answer_message core (with_sender core.me message) run));
  }

-- the core after a client's handler of a reply ran at the core as it is
abbrev pub with_client_reply_on : Meaning → CoreState → Contact → Content → CoreState
with_client_reply_on meaning core contact content =
    with_outcome core role.Reply
    (client_outcome (handlers_at meaning core) role.Reply contact content (start_at core))
