-- What a node keeps beside its requests and runs.
-- Origin: GASNet 1.8.1, core API: the segment, and handler-safe locks. Cells and the log of violations are this
-- project's profile.
use Rattle.std.specs.Prelude.{ℕ, ℤ, ◌≡◌, pos, false, List, [], ◌++◌, replicate}
use Rattle.wire_message.specs.Parameters.{Parameters}
use Rattle.part_segment.specs.Image.{Write, AllFit, image}
use Rattle.part_handlers.specs.declared.lock_answer.Held.{Held}
use Rattle.part_handlers.specs.declared.lock_answer.Owner.TheVariants as owner
use Rattle.part_handlers.specs.Locks.{holds}
use Rattle.part_handlers.specs.declared.rules.Violation.{Violation}
use Rattle.part_handlers.specs.Runs.{Start}

-- all that was written into the segment, the earliest first; the 256 cells; the handler-safe locks that threads hold,
-- in the order of locking; and every violation that was noted, the oldest first
pub record Local : Type 0 where
  pub writes : List Write
  pub cells : List ℤ
  pub locks : List Held
  pub violations : List Violation

-- what holds of what the node `me` keeps: the writes stay within the segment, and no handler holds a lock between runs
pub record IsKept (settings : Parameters) (me : ℕ) (local : Local) : Type 0 where
  pub writes : AllFit settings.segment local.writes
  pub locks : holds owner.Handler local.locks ≡ false

-- the bytes of the segment
abbrev pub segment_of : Parameters → Local → List ℕ
segment_of settings local = image settings.segment local.writes

-- what a handler finds
abbrev pub start_from : Parameters → Local → Start
start_from settings local =
    record { cells = local.cells; segment = segment_of settings local; locks = local.locks }

-- this was written into the segment
abbrev pub with_writes : Local → List Write → Local
with_writes local writes = record local { writes = local.writes ++ writes }

-- these locks are held
abbrev pub with_locks : List Held → Local → Local
with_locks held local = record local { locks = held }

-- before all events: nothing was written, 256 zeros, all locks are free, and no violation
abbrev pub nothing_done : Local
nothing_done = record { writes = []; cells = replicate 256 (pos 0); locks = []; violations = [] }
