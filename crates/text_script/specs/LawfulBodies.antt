-- Whatever a body says, its run is lawful.
use Rattle.std.specs.Prelude.{ℕ, ◌≡◌, ◌+◌, ◌==◌, ◌||◌, nat_lt, List, [], ◌∷◌, length, map, Option, Some, None}
use Rattle.std.specs.Option.{option_map}
use Rattle.std.proofs.Common.{Bool, true, false, refl, if◌then◌else◌}
use Rattle.std.proofs.lemmas.Bool.{ltb-false}
use Rattle.wire_message.specs.Content.{Content, long_reply, medium_reply}
use Rattle.part_handlers.specs.Runs.{Frame, Start, Outcome, IsLawfulRun, IsReplyContent, nothing_done}
use Rattle.part_handlers.proofs.Lawful.{lawful-attempted, lawful-cells, lawful-gave_lock, lawful-replying}
use Rattle.part_handlers.proofs.Lawful.{lawful-took_lock, lawful-untouched, lawful-writing, long_reply-content}
use Rattle.part_handlers.proofs.Lawful.{medium_reply-content, short_reply-content}
use Rattle.part_segment.specs.Image.{Write}
use Rattle.part_collective_area.specs.Served.{outcome_of_piece}
use Rattle.part_collective_area.proofs.Stamping.{lawful-stamped}
use Rattle.node_atomics.specs.Served.{outcome_of_batch}
use Rattle.node_atomics.proofs.Lawful.{lawful-served}
use Rattle.text_steps.specs.declared.steps.Action.{Action}
use Rattle.text_steps.specs.declared.steps.Action.TheVariants as action
use Rattle.text_steps.specs.declared.steps.ReplyAction.{ReplyAction}
use Rattle.text_steps.specs.declared.steps.ReplyAction.TheVariants as reply
use Rattle.text_script.specs.Bodies.{act, acts, operand_at, payload_bytes, after_reply, replying_if, segment_at}
use Rattle.text_script.specs.Bodies.{script_meaning, other_meaning, is_for_batches, is_for_collectives, writing_if}
use Rattle.text_script.specs.Registration.{JobHandlers, body_for}

-- a payload that is kept fits
lawful-keep_by : {frame : Frame} {start : Start} {outcome : Outcome} (write : Write) (none far : Bool)
    → nat_lt (length start.segment) (write.offset + length write.bytes) ≡ far → IsLawfulRun frame start outcome
    → IsLawfulRun frame start (writing_if (if none || far then None else Some write) outcome)
lawful-keep_by write true far test lawful = lawful
lawful-keep_by write false true test lawful = lawful
lawful-keep_by write false false test lawful = lawful-writing _ _ _ write (ltb-false _ _ test) lawful

-- a reply with a payload that is asked for, where the payload's range is inside the segment
lawful-loaded : {frame : Frame} {start : Start} {outcome : Outcome} (make : List ℕ → Content)
    (load : Option (List ℕ)) → ((bytes : List ℕ) → IsReplyContent (make bytes)) → IsLawfulRun frame start outcome
    → IsLawfulRun frame start (replying_if frame (option_map make load) outcome)
lawful-loaded make None is_reply lawful = lawful
lawful-loaded make (Some bytes) is_reply lawful = lawful-replying _ _ (make bytes) _ (is_reply bytes) lawful

-- a reply keeps a run lawful
lawful-replied : (frame : Frame) (start : Start) (outcome : Outcome) (asked : ReplyAction)
    → IsLawfulRun frame start outcome → IsLawfulRun frame start (after_reply frame start outcome asked)
lawful-replied frame start outcome (reply.Short handler operands) lawful =
    lawful-replying frame start _ outcome
    (short_reply-content handler (map (operand_at frame outcome) operands)) lawful
lawful-replied frame start outcome (reply.Medium handler load operands) lawful =
    lawful-loaded
    (λ bytes. medium_reply handler (map (operand_at frame outcome) operands) bytes)
    (payload_bytes frame.arrival (segment_at start outcome) load)
    (λ bytes. medium_reply-content handler (map (operand_at frame outcome) operands) bytes) lawful
lawful-replied frame start outcome (reply.Long handler load offset operands) lawful =
    lawful-loaded
    (λ bytes. long_reply handler (map (operand_at frame outcome) operands) offset bytes)
    (payload_bytes frame.arrival (segment_at start outcome) load)
    (λ bytes. long_reply-content handler (map (operand_at frame outcome) operands) offset bytes) lawful

-- an action keeps a run lawful
lawful-act : (frame : Frame) (start : Start) (outcome : Outcome) (done : Action)
    → IsLawfulRun frame start outcome → IsLawfulRun frame start (act frame start outcome done)
lawful-act frame start outcome (action.Add cell operand) lawful = lawful-cells frame start outcome _ lawful
lawful-act frame start outcome (action.SetCell cell operand) lawful = lawful-cells frame start outcome _ lawful
lawful-act frame start outcome (action.Source cell) lawful = lawful-cells frame start outcome _ lawful
lawful-act frame start outcome (action.Sum cell) lawful = lawful-cells frame start outcome _ lawful
lawful-act frame start outcome (action.Keep offset) lawful =
    lawful-keep_by (record { offset = offset; bytes = frame.arrival.payload }) (length frame.arrival.payload == 0)
    (nat_lt (length start.segment) (offset + length frame.arrival.payload)) refl lawful
lawful-act frame start outcome (action.Lock lock) lawful = lawful-took_lock frame start outcome lock lawful
lawful-act frame start outcome (action.Unlock lock) lawful = lawful-gave_lock frame start outcome lock lawful
lawful-act frame start outcome (action.Attempt kind) lawful = lawful-attempted frame start outcome kind lawful
lawful-act frame start outcome (action.Reply asked) lawful = lawful-replied frame start outcome asked lawful

-- so do actions in order
lawful-acts : (frame : Frame) (start : Start) (outcome : Outcome) (actions : List Action)
    → IsLawfulRun frame start outcome → IsLawfulRun frame start (acts frame start outcome actions)
lawful-acts frame start outcome [] lawful = lawful
lawful-acts frame start outcome (first ∷ rest) lawful =
    lawful-acts frame start (act frame start outcome first) rest (lawful-act frame start outcome first lawful)

-- each run of a handler that isn't one of batches is lawful
lawful-other : (handlers : JobHandlers) (handler : ℕ) (frame : Frame) (start : Start)
    → IsLawfulRun frame start (other_meaning handlers handler frame start)
lawful-other handlers handler frame start = by_handler (is_for_collectives handlers handler)
  where
    by_handler : (collective : Bool)
        → IsLawfulRun frame start
        (if collective then outcome_of_piece frame start (nothing_done start)
        else acts frame start (nothing_done start) (body_for handlers handler))
    by_handler true = lawful-stamped frame start (nothing_done start) (lawful-untouched frame start)
    by_handler false =
        lawful-acts frame start (nothing_done start) (body_for handlers handler) (lawful-untouched frame start)

-- each run of a handler of a job is lawful
pub lawful-script : (handlers : JobHandlers) (handler : ℕ) (frame : Frame) (start : Start)
    → IsLawfulRun frame start (script_meaning handlers handler frame start)
lawful-script handlers handler frame start = by_handler (is_for_batches handlers handler)
  where
    by_handler : (batches : Bool)
        → IsLawfulRun frame start
        (if batches then outcome_of_batch handler frame start (nothing_done start)
        else other_meaning handlers handler frame start)
    by_handler true = lawful-served handler frame start (nothing_done start) (lawful-untouched frame start)
    by_handler false = lawful-other handlers handler frame start
