-- Each step of a run keeps it lawful: for whoever proves the law of the trait of handlers.
use Rattle.std.proofs.Common.{◌≡◌, ℕ, ℤ, List, refl, ap, ◌∙◌, length}
use Rattle.std.proofs.lemmas.List.Elements.{All-nil, All-push}
use Rattle.part_segment.specs.Image.{Write, FitsIn}
use Rattle.part_handlers.specs.declared.lock_answer.Owner.TheVariants as owner
use Rattle.part_handlers.specs.Locks.{without}
use Rattle.part_handlers.proofs.LockLaws.{without_after_lock, without_after_unlock}
use Rattle.wire_message.specs.Content.{Content, short_reply, medium_reply, long_reply}
use Rattle.part_handlers.specs.declared.rules.CallKind.{CallKind}
use Rattle.part_handlers.specs.declared.message.Replied.{Replied}
use Rattle.part_handlers.specs.declared.message.Replied.TheVariants as replied
use Rattle.part_handlers.specs.Runs.{Frame, Start, Outcome, IsGood, IsLawful, IsLawfulRun, IsReplyContent, after_answer}
use Rattle.part_handlers.specs.Runs.{answer, after_attempt, gave_lock, replying, took_lock, nothing_done, writing}
use Rattle.part_handlers.proofs.Laws.{locks-replying, writes-replying}
use Rattle.part_handlers.proofs.Sent.{was_sent}

-- a run that did nothing so far
pub lawful-untouched : (frame : Frame) (start : Start) → IsLawfulRun frame start (nothing_done start)
lawful-untouched frame start = record { reply = tt; writes = All-nil (FitsIn (length start.segment)); locks = refl }

-- other cells
pub lawful-cells : (frame : Frame) (start : Start) (outcome : Outcome) (cells : List ℤ)
    → IsLawfulRun frame start outcome → IsLawfulRun frame start (record outcome { cells = cells })
lawful-cells frame start outcome cells lawful = record {
  reply = lawful.reply;
  writes = lawful.writes;
  locks = lawful.locks;
}

-- a call that is judged alone
pub lawful-attempted : (frame : Frame) (start : Start) (outcome : Outcome) (kind : CallKind)
    → IsLawfulRun frame start outcome → IsLawfulRun frame start (after_attempt frame kind outcome)
lawful-attempted frame start outcome kind lawful = record {
  reply = lawful.reply;
  writes = lawful.writes;
  locks = lawful.locks;
}

-- a lock that is asked for
pub lawful-took_lock : (frame : Frame) (start : Start) (outcome : Outcome) (lock : ℕ)
    → IsLawfulRun frame start outcome → IsLawfulRun frame start (took_lock frame lock outcome)
lawful-took_lock frame start outcome lock lawful = record {
  reply = lawful.reply;
  writes = lawful.writes;
  locks = without_after_lock outcome.locks owner.Handler lock frame.listed ∙ lawful.locks;
}

-- a lock that is given back
pub lawful-gave_lock : (frame : Frame) (start : Start) (outcome : Outcome) (lock : ℕ)
    → IsLawfulRun frame start outcome → IsLawfulRun frame start (gave_lock lock outcome)
lawful-gave_lock frame start outcome lock lawful = record {
  reply = lawful.reply;
  writes = lawful.writes;
  locks = without_after_unlock outcome.locks owner.Handler lock ∙ lawful.locks;
}

-- a write inside the segment
pub lawful-writing : (frame : Frame) (start : Start) (outcome : Outcome) (write : Write)
    → FitsIn (length start.segment) write → IsLawfulRun frame start outcome
    → IsLawfulRun frame start (writing write outcome)
lawful-writing frame start outcome write fits lawful = record {
  reply = lawful.reply;
  writes = All-push (FitsIn (length start.segment)) outcome.writes write lawful.writes fits;
  locks = lawful.locks;
}

IsLawful-after_answer : (given : Replied) (frame : Frame) (content : Content) (outcome : Outcome) →
    (given ≡ replied.Sent → IsGood frame content) → IsLawful frame outcome.reply
    → IsLawful frame (after_answer given content outcome).reply
IsLawful-after_answer replied.Sent frame content outcome good before = good refl
IsLawful-after_answer (replied.Forbidden forbidden) frame content outcome good before = before
IsLawful-after_answer (replied.BadArg part) frame content outcome good before = before

-- a reply that is asked for
pub lawful-replying : (frame : Frame) (start : Start) (content : Content) (outcome : Outcome)
    → IsReplyContent content → IsLawfulRun frame start outcome
    → IsLawfulRun frame start (replying frame content outcome)
lawful-replying frame start content outcome is_reply lawful = record {
  reply = IsLawful-after_answer (answer frame content outcome) frame content outcome
      (λ sent. (was_sent frame content outcome sent).good is_reply) lawful.reply;
  writes = rw (writes-replying frame content outcome) lawful.writes;
  locks = ap (without owner.Handler) (locks-replying frame content outcome) ∙ lawful.locks;
}

-- ---- what the three reply calls ask for

-- a Short reply
pub short_reply-content : (handler : ℕ) (args : List ℤ) → IsReplyContent (short_reply handler args)
short_reply-content handler args = record { kind = refl; bare = λ is_bare. refl; unplaced = λ is_unplaced. refl }

-- a Medium reply
pub medium_reply-content : (handler : ℕ) (args : List ℤ) (payload : List ℕ)
    → IsReplyContent (medium_reply handler args payload)
medium_reply-content handler args payload = record {
  kind = refl;
  bare = λ is_bare. cc;
  unplaced = λ is_unplaced. refl;
}

-- a Long reply
pub long_reply-content : (handler : ℕ) (args : List ℤ) (offset : ℕ) (payload : List ℕ)
    → IsReplyContent (long_reply handler args offset payload)
long_reply-content handler args offset payload = record {
  kind = refl;
  bare = λ is_bare. cc;
  unplaced = λ is_unplaced. cc;
}
