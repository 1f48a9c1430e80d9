-- Handlers that are replayed are lawful.
use Rattle.std.specs.Prelude.{ℕ, ◌≡◌, ◌+◌, ◌==◌, ◌||◌, nat_lt, List, length, Option, Some, None}
use Rattle.std.proofs.Common.{Bool, true, false, refl, if◌then◌else◌}
use Rattle.std.proofs.lemmas.Bool.{ltb-false}
use Rattle.part_segment.specs.Image.{Write}
use Rattle.part_handlers.specs.declared.rules.Role.{Role}
use Rattle.part_handlers.specs.declared.rules.Role.TheVariants as roles
use Rattle.part_handlers.specs.Runs.{Frame, Start, Outcome, IsLawfulRun, nothing_done}
use Rattle.part_handlers.proofs.Lawful.{lawful-replying, lawful-untouched, lawful-writing, long_reply-content}
use Rattle.part_handlers.proofs.Lawful.{medium_reply-content, short_reply-content}
use Rattle.gasnet_c.specs.declared.replay.Reply.{Reply}
use Rattle.gasnet_c.specs.declared.replay.Run.{Run}
use Rattle.gasnet_c.specs.declared.replay.OwnRuns.{OwnRuns}
use Rattle.gasnet_c.specs.Replayed.{answering, asking, both_replayed, left_write, leaving, replayed_as, with_own_run}
use Rattle.gasnet_c.specs.Replayed.{outcome_of_run}
use Rattle.gasnet_c.specs.Replayed.{writing_if}

lawful-kept : {frame : Frame} {start : Start} {outcome : Outcome} (write : Write) (none far : Bool)
    → nat_lt (length start.segment) (write.offset + length write.bytes) ≡ far → IsLawfulRun frame start outcome
    → IsLawfulRun frame start (writing_if (if none || far then None else Some write) outcome)
lawful-kept write true far test lawful = lawful
lawful-kept write false true test lawful = lawful
lawful-kept write false false test lawful = lawful-writing _ _ _ write (ltb-false _ _ test) lawful

lawful-left : (frame : Frame) (start : Start) (place : Option (ℕ × ℕ)) (bytes : List ℕ)
    → IsLawfulRun frame start (writing_if (left_write (length start.segment) place bytes) (nothing_done start))
lawful-left frame start None bytes = lawful-untouched frame start
lawful-left frame start (Some place) bytes =
    lawful-kept (record { offset = place.0; bytes = bytes }) _ _ refl (lawful-untouched frame start)

pub leaving_lawful : (left : List ℕ) (frame : Frame) (start : Start)
    → IsLawfulRun frame start (leaving left frame start)
leaving_lawful left frame start = lawful-left frame start frame.arrival.place left

lawful-either : {frame : Frame} {start : Start} {one other : Outcome} (test : Bool) → IsLawfulRun frame start one
    → IsLawfulRun frame start other → IsLawfulRun frame start (if test then one else other)
lawful-either true one other = one
lawful-either false one other = other

lawful-answering : (reply : Reply) (frame : Frame) (start : Start) (outcome : Outcome)
    → IsLawfulRun frame start outcome → IsLawfulRun frame start (answering reply frame outcome)
lawful-answering reply frame start outcome lawful =
    let args = reply.args.now in
    let payload = reply.payload.now in
    lawful-either (reply.category == 0)
    (lawful-replying frame start _ outcome (short_reply-content reply.handler args) lawful)
    (lawful-either (reply.category == 1)
    (lawful-replying frame start _ outcome (medium_reply-content reply.handler args payload) lawful)
    (lawful-either (reply.category == 2)
    (lawful-replying frame start _ outcome (long_reply-content reply.handler args reply.offset payload) lawful) lawful))

pub asking_lawful : (reply : Reply) (frame : Frame) (start : Start) → IsLawfulRun frame start (asking reply frame start)
asking_lawful reply frame start = lawful-answering reply frame start _ (lawful-untouched frame start)

pub replayed_lawful : (run : Run) (frame : Frame) (start : Start)
    → IsLawfulRun frame start (outcome_of_run run frame start)
replayed_lawful run frame start =
    lawful-answering run.reply frame start _ (leaving_lawful run.left.now frame start)

-- what is lawful from other cells is lawful
other-cells : {frame : Frame} {start other : Start} {outcome : Outcome} → other.segment ≡ start.segment
    → other.locks ≡ start.locks → IsLawfulRun frame other outcome → IsLawfulRun frame start outcome
other-cells segment locks lawful = record {
  reply = lawful.reply;
  writes = rw segment at lawful.writes;
  locks = rw locks at lawful.locks;
}

replayed_as_lawful : (role : Role) (it : OwnRuns) (frame : Frame) (start : Start)
    → IsLawfulRun frame start (replayed_as role it frame start)
replayed_as_lawful roles.Request it frame start =
    other-cells refl refl (replayed_lawful it.request frame (with_own_run start))
replayed_as_lawful roles.Reply it frame start = leaving_lawful it.reply.bytes.now frame start

pub both_lawful : (it : OwnRuns) (frame : Frame) (start : Start)
    → IsLawfulRun frame start (both_replayed it frame start)
both_lawful it frame start = replayed_as_lawful frame.arrival.role it frame start
