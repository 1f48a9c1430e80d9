-- What the calls of threads leave is good: what is written lies inside the segment, and no handler holds a lock.
use Rattle.std.proofs.Common.{◌≡◌, inl, inr, ℕ, ◌+◌, ◌≤◌, List, length, Option}
use Rattle.std.proofs.Common.{None, Some, refl, sym, subst}
use Rattle.std.specs.Prelude.{nat_lt, replicate, Result, Ok, Err}
use Rattle.std.specs.Int.{w64, to_le_bytes}
use Rattle.std.proofs.lemmas.Bool.{cases_Bool, ltb-false}
use Rattle.std.proofs.lemmas.List.{length-replicate}
use Rattle.wire_message.specs.Parameters.{Parameters}
use Rattle.part_segment.specs.Image.{Write, AllFit}
use Rattle.part_segment.proofs.Images.{all_fit_none, all_fit_one, all_fit-append, length-image}
use Rattle.part_handlers.specs.declared.rules.Forbidden.{Forbidden}
use Rattle.spec_node.specs.Behaviour.{Behaviour}
use Rattle.node_core.specs.Kept.{Local, IsKept, segment_of}
use Rattle.node_core.proofs.ThreadLocks.{lock_unheld, unlock_unheld}
use Rattle.node_rules.specs.declared.answer.Local.{Local as LocalAnswer}
use Rattle.node_rules.specs.declared.answer.Answer.{Answer}
use Rattle.node_rules.specs.Memory.{SegmentCall, Show, Set, Fill, LoadWord, SetWord, segment_does, unless_fault}
use Rattle.node_rules.specs.Memory.{range_fault}
use Rattle.node_rules.specs.Memory.{word_fault}
use Rattle.node_rules.specs.CoreCalls.{LocalCall, Poll, Attempt, Lock, Unlock, OnSegment}
use Rattle.node_rules.specs.CoreCalls.{local_does, if_allowed}

-- the segment has the length of the settings
pub segment_long : (s : Parameters) (me : ℕ) (kept : Local) → IsKept s me kept
    → length (segment_of s kept) ≡ s.segment
segment_long s me kept good = length-image s.segment kept.writes good.writes

-- ---- the segment

-- what is written after a fault, or after none
fits_unless : (len : ℕ) (fault : Option LocalAnswer) (outcome : LocalAnswer × List Write)
    → (fault ≡ None → AllFit len outcome.1) → AllFit len (unless_fault fault outcome).1
fits_unless len None outcome fits = fits refl
fits_unless len (Some fault) outcome fits = all_fit_none len

-- a range without a fault lies inside
range_inside : (bytes : List ℕ) (offset len : ℕ) → range_fault bytes offset len ≡ None → offset + len ≤ length bytes
range_inside bytes offset len e = elim (cases_Bool (nat_lt (length bytes) (offset + len))) [
  | inl past ↦ absurd (some_none (rw past at e))
  | inr inside ↦ ltb-false (length bytes) (offset + len) inside
]
  where
    some_none : {X : Type 0} {x : X} → Some x ≡ None → ⊥
    some_none h = cc

-- so does the place of a word
word_inside : (bytes : List ℕ) (offset : ℕ) → word_fault bytes offset ≡ None → offset + 8 ≤ length bytes
word_inside bytes offset e = elim (cases_Bool (nat_lt (length bytes) (offset + 8))) [
  | inl past ↦ absurd (some_none (rw past at e))
  | inr inside ↦ ltb-false (length bytes) (offset + 8) inside
]
  where
    some_none : {X : Type 0} {x : X} → Some x ≡ None → ⊥
    some_none h = cc

-- what a call writes lies inside
pub segment_fits : (bytes : List ℕ) (call : SegmentCall) → AllFit (length bytes) (segment_does bytes call).1
segment_fits bytes (Show offset len) =
    fits_unless (length bytes) (range_fault bytes offset len) _ (λ e. all_fit_none (length bytes))
segment_fits bytes (Set write) =
    fits_unless (length bytes) (range_fault bytes write.offset (length write.bytes)) _
    (λ e. all_fit_one (length bytes) write (range_inside bytes write.offset (length write.bytes) e))
segment_fits bytes (Fill offset len byte) =
    fits_unless (length bytes) (range_fault bytes offset len) _
    (λ e. all_fit_one (length bytes) (record { offset = offset; bytes = replicate len byte })
    (subst (λ n. offset + n ≤ length bytes) (sym (length-replicate len byte)) (range_inside bytes offset len e)))
segment_fits bytes (LoadWord offset) =
    fits_unless (length bytes) (word_fault bytes offset) _ (λ e. all_fit_none (length bytes))
segment_fits bytes (SetWord offset value) =
    fits_unless (length bytes) (word_fault bytes offset) _
    (λ e. all_fit_one (length bytes) (record { offset = offset; bytes = to_le_bytes w64 value })
    (word_inside bytes offset e))

-- where the segment has the length of the settings
pub written_fits : (s : Parameters) (me : ℕ) (kept : Local) (call : SegmentCall) → IsKept s me kept
    → AllFit s.segment (segment_does (segment_of s kept) call).1
written_fits s me kept call good =
    subst (λ len. AllFit len (segment_does (segment_of s kept) call).1) (segment_long s me kept good)
    (segment_fits (segment_of s kept) call)

-- ---- any call

-- one that is judged
judged_kept : (s : Parameters) (behaviour : Behaviour Local) (me thread : ℕ) (judged : Result (Unit {0}) Forbidden)
    (allowed_answer : Answer) (kept : Local)
    → ((forbidden : Forbidden) → IsKept s me (behaviour.notes thread forbidden kept)) → IsKept s me kept
    → IsKept s me (if_allowed behaviour thread judged allowed_answer kept).1
judged_kept s behaviour me thread (Ok _) allowed_answer kept notes good = good
judged_kept s behaviour me thread (Err forbidden) allowed_answer kept notes good = notes forbidden

-- what a call leaves, where what is noted leaves what is good
pub call_kept : (s : Parameters) (behaviour : Behaviour Local) (me thread : ℕ) (call : LocalCall) (kept : Local)
    → ((forbidden : Forbidden) → IsKept s me (behaviour.notes thread forbidden kept)) → IsKept s me kept
    → IsKept s me (local_does s behaviour thread call kept).1
call_kept s behaviour me thread Poll kept notes good = judged_kept s behaviour me thread _ _ kept notes good
call_kept s behaviour me thread (Attempt kind) kept notes good = judged_kept s behaviour me thread _ _ kept notes good
call_kept s behaviour me thread (Lock lock) kept notes good =
    record { writes = good.writes; locks = lock_unheld kept.locks thread lock good.locks }
call_kept s behaviour me thread (Unlock lock) kept notes good =
    record { writes = good.writes; locks = unlock_unheld kept.locks thread lock good.locks }
call_kept s behaviour me thread (OnSegment call) kept notes good = record {
  writes = all_fit-append s.segment kept.writes _ good.writes (written_fits s me kept call good);
  locks = good.locks;
}
call_kept s behaviour me thread _ kept notes good = record { writes = good.writes; locks = good.locks }
