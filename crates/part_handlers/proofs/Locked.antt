-- While a handler runs, no thread comes to hold a lock that the handler may take.
use Rattle.std.proofs.Common.{◌≡◌, ℕ, List, None, ap, sym, ◌∙◌}
use Rattle.part_handlers.specs.declared.lock_answer.Held.{Held}
use Rattle.part_handlers.specs.declared.lock_answer.Owner.TheVariants as owner
use Rattle.part_handlers.specs.declared.lock_answer.LockAnswer.{LockAnswer}
use Rattle.part_handlers.specs.declared.lock_answer.LockAnswer.TheVariants as locking_answers
use Rattle.part_handlers.specs.Locks.{after_lock, after_unlock, blocking_lock, without}
use Rattle.part_handlers.proofs.LockLaws.{blocked_without, without_after_lock, without_after_unlock}
use Rattle.part_handlers.specs.declared.token.Token.{Token}
use Rattle.part_handlers.specs.Runs.{lock_refusal}
use Rattle.part_handlers.specs.Tokens.{token_lock_answer, locking, noting, with_locks}

-- the same locks of threads block a handler
pub blocked-threads : (locks before : List Held) (listed : ℕ)
    → without owner.Handler locks ≡ without owner.Handler before → blocking_lock locks listed ≡ blocking_lock before listed
blocked-threads locks before listed same =
    sym (blocked_without locks listed) ∙ ap (λ (held : List Held). blocking_lock held listed) same
    ∙ blocked_without before listed

-- after the handler asked for a lock
pub unblocked-after_lock : (held locks : List Held) (lock listed : ℕ) → blocking_lock held listed ≡ None
    → locks ≡ after_lock held owner.Handler lock listed → blocking_lock locks listed ≡ None
unblocked-after_lock held locks lock listed free after =
    blocked-threads locks held listed
    (ap (without owner.Handler) after ∙ without_after_lock held owner.Handler lock listed) ∙ free

-- after the handler gave a lock back
pub unblocked-after_unlock : (held locks : List Held) (lock listed : ℕ) → blocking_lock held listed ≡ None
    → locks ≡ after_unlock held owner.Handler lock → blocking_lock locks listed ≡ None
unblocked-after_unlock held locks lock listed free after =
    blocked-threads locks held listed
    (ap (without owner.Handler) after ∙ without_after_unlock held owner.Handler lock) ∙ free

-- a lock that is taken is no fault
pub taking : (token : Token) (lock : ℕ) (locks : List Held) → token_lock_answer token lock ≡ locking_answers.Taken
    → locks ≡ after_lock token.locks.now owner.Handler lock token.listed → with_locks token locks ≡ locking token lock
taking token lock locks taken after =
    ap (with_locks token) after
    ∙ ap (λ (answer : LockAnswer).
    with_locks (noting token (lock_refusal answer)) (after_lock token.locks.now owner.Handler lock token.listed))
    (sym taken)
