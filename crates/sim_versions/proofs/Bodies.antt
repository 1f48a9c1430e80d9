-- What the bodies of handlers do doesn't depend on the version.
use Rattle.std.proofs.Common.{◌≡◌, ℕ, Bool, true, false, List, [], ◌∷◌, map, length, Option, None, Some, refl, ap, ◌∙◌}
use Rattle.std.specs.Prelude.{◌==◌, if◌then◌else◌}
use Rattle.wire_message.specs.Content.{Content}
use Rattle.part_segment.specs.Image.{written_by}
use Rattle.part_handlers.specs.Runs.{Frame, Start, Outcome, nothing_done}
use Rattle.node_atomics.specs.BatchRequests.{BatchRequest, batch_handler}
use Rattle.node_atomics.specs.Served.{after_batch, after_request, request_for, outcome_of_batch}
use Rattle.text_steps.specs.declared.steps.Action.{Action}
use Rattle.text_steps.specs.declared.steps.Action.TheVariants as action
use Rattle.text_script.specs.Bodies.{act, acts, is_for_batches, operand_at, reply_content, replying_if, script_meaning}
use Rattle.text_script.specs.Bodies.{is_for_collectives, other_meaning, segment_at}
use Rattle.part_collective_area.specs.Served.{outcome_of_piece}
use Rattle.text_script.specs.Registration.{JobHandlers, body_for}
use Rattle.sim_versions.specs.Respelled.{IgnoresVersion}

-- the frame of another version
abbrev framed : (version : ℕ) → Frame → Frame
framed version frame = record frame { settings = record frame.settings { version = version } }

reply_alike : (version : ℕ) (frame : Frame) (content : Option Content) (outcome : Outcome)
    → replying_if (framed version frame) content outcome ≡ replying_if frame content outcome
reply_alike version frame None outcome = refl
reply_alike version frame (Some content) outcome = refl

act_alike : (version : ℕ) (frame : Frame) (start : Start) (outcome : Outcome) (a : Action)
    → act (framed version frame) start outcome a ≡ act frame start outcome a
act_alike version frame start outcome (action.Add cell operand) = refl
act_alike version frame start outcome (action.SetCell cell operand) = refl
act_alike version frame start outcome (action.Source cell) = refl
act_alike version frame start outcome (action.Sum cell) = refl
act_alike version frame start outcome (action.Keep offset) = refl
act_alike version frame start outcome (action.Lock lock) = refl
act_alike version frame start outcome (action.Unlock lock) = refl
act_alike version frame start outcome (action.Attempt kind) = refl
act_alike version frame start outcome (action.Reply asked) =
    reply_alike version frame
    (reply_content frame.arrival (segment_at start outcome) (map (operand_at frame outcome)) asked) outcome

acts_alike : (version : ℕ) (frame : Frame) (start : Start) (actions : List Action) (outcome : Outcome)
    → acts (framed version frame) start outcome actions ≡ acts frame start outcome actions
acts_alike version frame start [] outcome = refl
acts_alike version frame start (a ∷ actions) outcome =
    ap (λ (o : Outcome). acts (framed version frame) start o actions) (act_alike version frame start outcome a)
    ∙ acts_alike version frame start actions (act frame start outcome a)

-- serving batches
batch_alike : (version : ℕ) (frame : Frame) (segment : List ℕ) (said : Option BatchRequest) (outcome : Outcome)
    → after_batch (framed version frame) segment said outcome ≡ after_batch frame segment said outcome
batch_alike version frame segment None outcome = refl
batch_alike version frame segment (Some request) outcome = refl

served_alike : (version : ℕ) (handler : ℕ) (frame : Frame) (start : Start) (outcome : Outcome)
    → outcome_of_batch handler (framed version frame) start outcome ≡ outcome_of_batch handler frame start outcome
served_alike version handler frame start outcome = by_handler (handler == batch_handler)
  where
    by_handler : (requests : Bool)
        → (if requests then after_request (framed version frame) start outcome else outcome)
        ≡ (if requests then after_request frame start outcome else outcome)
    by_handler true =
        batch_alike version frame (written_by start.segment outcome.writes)
        (request_for (length start.segment) frame.arrival) outcome
    by_handler false = refl

other_ignores : (version : ℕ) (handlers : JobHandlers) (index : ℕ) (frame : Frame) (start : Start)
    → other_meaning handlers index (framed version frame) start ≡ other_meaning handlers index frame start
other_ignores version handlers index frame start = by_handler (is_for_collectives handlers index)
  where
    by_handler : (collective : Bool)
        → (if collective then outcome_of_piece (framed version frame) start (nothing_done start)
        else acts (framed version frame) start (nothing_done start) (body_for handlers index))
        ≡ (if collective then outcome_of_piece frame start (nothing_done start)
        else acts frame start (nothing_done start) (body_for handlers index))
    by_handler true = refl
    by_handler false = acts_alike version frame start (body_for handlers index) (nothing_done start)

pub script_ignores : (version : ℕ) (handlers : JobHandlers) → IgnoresVersion version (script_meaning handlers)
script_ignores version handlers index frame start = by_handler (is_for_batches handlers index)
  where
    by_handler : (batches : Bool)
        → (if batches then outcome_of_batch index (framed version frame) start (nothing_done start)
        else other_meaning handlers index (framed version frame) start)
        ≡ (if batches then outcome_of_batch index frame start (nothing_done start) else other_meaning handlers index frame start)
    by_handler true = served_alike version index frame start (nothing_done start)
    by_handler false = other_ignores version handlers index frame start
