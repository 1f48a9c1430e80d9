-- The calls of threads on what a core keeps, but for requests: their answers, and what they leave.
-- Origin: GASNet 1.8.1, core API. Cells, attempts and the calls on the local segment are this project's profile.
use Rattle.std.specs.Prelude.{ℕ, ℤ, pos, Result, Ok, Err, slice_index_or, slice_set}
use Rattle.wire_message.specs.Parameters.{Parameters}
use Rattle.part_handlers.specs.declared.rules.Forbidden.{Forbidden}
use Rattle.part_handlers.specs.declared.rules.CallKind.{CallKind}
use Rattle.part_handlers.specs.declared.rules.CallKind.TheVariants as call
use Rattle.part_handlers.specs.declared.lock_answer.Owner.TheVariants as owner
use Rattle.part_handlers.specs.Locks.{lock_answer, unlock_answer}
use Rattle.spec_node.specs.Behaviour.{Behaviour}
use Rattle.node_core.specs.Kept.{Local, segment_of, with_writes}
use Rattle.node_core.specs.CoreContracts.{core_does, Lock as CoreLock, Unlock as CoreUnlock}
use Rattle.node_rules.specs.Memory.{SegmentCall, segment_does}
use Rattle.node_rules.specs.declared.answer.Answer.{Answer}
use Rattle.node_rules.specs.declared.answer.Answer.TheVariants as answers
use Rattle.node_rules.specs.declared.answer.Local.TheVariants as local

pub data LocalCall : Type 0 where
  Poll : LocalCall
  Attempt : CallKind → LocalCall
  Lock : (lock : ℕ) → LocalCall
  Unlock : (lock : ℕ) → LocalCall
  Cell : (cell : ℕ) → LocalCall
  SetCell : (cell : ℕ) → (value : ℤ) → LocalCall
  OnSegment : SegmentCall → LocalCall

-- a call by how the rule table judges it: this answer where it is allowed; else a violation is noted
abbrev pub if_allowed :
    Behaviour Local → (thread : ℕ) → Result (Unit {0}) Forbidden → Answer → Local → Answer × Local
if_allowed behaviour thread (Ok allowed) answer kept = (answer, kept)
if_allowed behaviour thread (Err forbidden) answer kept =
    (answers.Forbidden forbidden, behaviour.notes thread forbidden kept)

-- the calls that make no request: their answers, and what they leave
abbrev pub local_does :
    Parameters → Behaviour Local → (thread : ℕ) → LocalCall → Local → Answer × Local
local_does settings behaviour thread Poll kept =
    if_allowed behaviour thread (behaviour.judges thread call.Poll kept) answers.Polled kept
local_does settings behaviour thread (Attempt kind) kept =
    if_allowed behaviour thread (behaviour.judges thread kind kept) answers.Allowed kept
local_does settings behaviour thread (Lock lock) kept = (
  answers.Lock (lock_answer kept.locks (owner.Thread thread) lock 0),
  (core_does behaviour thread (CoreLock lock) kept).1,
)
local_does settings behaviour thread (Unlock lock) kept = (
  answers.Unlock (unlock_answer kept.locks (owner.Thread thread) lock),
  (core_does behaviour thread (CoreUnlock lock) kept).1,
)
local_does settings behaviour thread (Cell cell) kept =
    (answers.Local (local.Cell (slice_index_or kept.cells cell (pos 0))), kept)
local_does settings behaviour thread (SetCell cell value) kept =
    (answers.Local local.Done, record kept { cells = slice_set kept.cells cell value })
local_does settings behaviour thread (OnSegment call) kept =
    let outcome = segment_does (segment_of settings kept) call in
    (answers.Local outcome.0, with_writes kept outcome.1)
