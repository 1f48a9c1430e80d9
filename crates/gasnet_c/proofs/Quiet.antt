-- The handlers of deliveries that are replayed write nothing, and don't depend on the segment.
use Rattle.std.proofs.Common.{◌≡◌, List, [], Bool, true, false, if◌then◌else◌, refl}
use Rattle.std.specs.Prelude.{◌==◌}
use Rattle.wire_message.specs.Content.{long_reply, medium_reply, short_reply}
use Rattle.part_handlers.specs.Runs.{Frame, Outcome, Start, nothing_done}
use Rattle.part_handlers.proofs.Laws.{writes-replying}
use Rattle.node_core.specs.InPlace.{IsQuiet}
use Rattle.gasnet_c.specs.Replayed.{asking}
use Rattle.gasnet_c.specs.declared.replay.Reply.{Reply}

quiet-either : (one other : Outcome) (test : Bool) → one.writes ≡ [] → other.writes ≡ []
    → (if test then one else other).writes ≡ []
quiet-either one other true first second = first
quiet-either one other false first second = second

asking_writes : (reply : Reply) (frame : Frame) (start : Start) → (asking reply frame start).writes ≡ []
asking_writes reply frame start =
    let args = reply.args.now in
    let payload = reply.payload.now in
    quiet-either _ _ (reply.category == 0) (writes-replying frame (short_reply reply.handler args) (nothing_done start))
    (quiet-either _ _ (reply.category == 1)
    (writes-replying frame (medium_reply reply.handler args payload) (nothing_done start))
    (quiet-either _ _ (reply.category == 2)
    (writes-replying frame (long_reply reply.handler args reply.offset payload) (nothing_done start)) refl))

pub asking_quiet : (reply : Reply) → IsQuiet (λ handler frame start. asking reply frame start)
asking_quiet reply = record {
  writes = λ handler frame start. asking_writes reply frame start;
  blind = λ handler frame start segment. refl;
}
