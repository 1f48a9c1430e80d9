-- What a thread's calls on locks leave: no handler holds a lock.
use Rattle.std.proofs.Common.{◌≡◌, ℕ, List, [], ◌∷◌, ◌++◌, Option, Some, None, Bool, false, not, ◌&&◌}
use Rattle.std.proofs.Common.{inl, inr, refl, sym, subst}
use Rattle.std.specs.Prelude.{◌==◌, filter}
use Rattle.std.proofs.lemmas.Bool.{cases_Bool}
use Rattle.part_handlers.specs.declared.lock_answer.Owner.TheVariants.{Thread, Handler}
use Rattle.part_handlers.specs.declared.lock_answer.Held.{Held}
use Rattle.part_handlers.specs.declared.lock_answer.LockAnswer.{LockAnswer}
use Rattle.part_handlers.specs.declared.lock_answer.LockAnswer.TheVariants as lock_answers
use Rattle.part_handlers.specs.declared.lock_answer.LockFault.{LockFault}
use Rattle.part_handlers.specs.Locks.{is_of, holds, lock_answer, after_lock, unlock_fault, unlock_answer, after_unlock}
use Rattle.part_handlers.proofs.LockLaws.{after_freed}
use Rattle.std.proofs.lemmas.Bool.{or_parts}

-- of what is left, a handler holds none either
none_left : (keep : Held → Bool) (held : List Held) → holds Handler held ≡ false
    → holds Handler (filter keep held) ≡ false
none_left keep [] none = refl
none_left keep (one ∷ held) none =
    let parts = or_parts (is_of Handler one) (holds Handler held) none in
    elim (cases_Bool (keep one)) [
      | inl stays ↦ rw (stays, parts.0) (none_left keep held parts.1)
      | inr goes ↦ rw goes (none_left keep held parts.1)
    ]

-- a thread holds one more
one_more : (held : List Held) (thread lock : ℕ) → holds Handler held ≡ false
    → holds Handler (held ++ record { lock = lock; owner = Thread thread } ∷ []) ≡ false
one_more [] thread lock none = refl
one_more (one ∷ held) thread lock none =
    let parts = or_parts (is_of Handler one) (holds Handler held) none in
    rw parts.0 (one_more held thread lock parts.1)

-- a thread asked for a lock
pub lock_unheld : (held : List Held) (thread lock : ℕ) → holds Handler held ≡ false
    → holds Handler (after_lock held (Thread thread) lock 0) ≡ false
lock_unheld held thread lock none = by_answer (lock_answer held (Thread thread) lock 0) where
  next : Held
  next = record { lock = lock; owner = Thread thread }

  by_answer : (answer : LockAnswer)
      → holds Handler (elim answer as (λ _. List Held) [
        | lock_answers.Taken ↦ held ++ next ∷ []
        | lock_answers.Held ↦ held
        | lock_answers.Refused why ↦ held
      ]) ≡ false
  by_answer lock_answers.Taken = one_more held thread lock none
  by_answer lock_answers.Held = none
  by_answer (lock_answers.Refused why) = none

-- a thread gave a lock back
pub unlock_unheld : (held : List Held) (thread lock : ℕ) → holds Handler held ≡ false
    → holds Handler (after_unlock held (Thread thread) lock) ≡ false
unlock_unheld held thread lock none = by_fault (unlock_fault held (Thread thread) lock) refl where
  by_fault : (fault : Option LockFault) → unlock_fault held (Thread thread) lock ≡ fault
      → holds Handler (after_unlock held (Thread thread) lock) ≡ false
  by_fault None is =
      subst (λ (rest : List Held). holds Handler rest ≡ false) (sym (after_freed held (Thread thread) lock is))
      (none_left (λ one. not (one.lock == lock && is_of (Thread thread) one)) held none)
  by_fault (Some why) is = rw (after_unlock, unlock_answer, is) none
