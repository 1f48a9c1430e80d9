-- The handlers of the ring are lawful.
use Rattle.std.proofs.Common.{ℕ, ◌==◌, Bool, true, false, if◌then◌else◌, [], ◌∷◌}
use Rattle.gasnet.specs.Messages.{short_reply}
use Rattle.gasnet.specs.Handlers.{Frame, Start, IsLawfulRun, nothing_done}
use Rattle.gasnet.proofs.Lawful.{lawful-untouched, lawful-cells, lawful-replying, short_reply-content}
use Rattle.example_ring.specs.Ring.{ring_meaning, message_comes, message_came, hops_in}

chosen : (message : Bool) (frame : Frame) (start : Start)
    → IsLawfulRun frame start (if message then message_comes frame start else message_came start)
chosen true frame start =
    lawful-replying frame start (short_reply 129 (hops_in frame ∷ [])) _
    (short_reply-content 129 (hops_in frame ∷ []))
    (lawful-cells frame start (nothing_done start) _ (lawful-untouched frame start))
chosen false frame start = lawful-cells frame start (nothing_done start) _ (lawful-untouched frame start)

pub ring_lawful : (handler : ℕ) (frame : Frame) (start : Start) → IsLawfulRun frame start
    (ring_meaning handler frame start)
ring_lawful handler frame start = chosen (handler == 128) frame start
