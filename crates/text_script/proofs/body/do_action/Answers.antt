-- An action that calls the token adds to the outcome what the token's call does.
use Rattle.std.proofs.Common.{refl}
use Rattle.part_handlers.specs.Tokens.{frame_of}
use Rattle.part_handlers.specs.Runs.{after_attempt, gave_lock, took_lock}
use Rattle.part_handlers.proofs.Laws.{attempted-leaving, gave_lock-leaving, took_lock-leaving}
use Rattle.text_script.proofs.RepliesAsked.{token_at}
use Rattle.text_script.proofs.body.do_action.Goals as goal

pub returns-in-Lock-clause-at : goal.returns-in-Lock-clause-at
returns-in-Lock-clause-at c opening outcome at =
    rw c.in-Lock.is
    (token_at opening outcome (took_lock (frame_of opening.token) c.in-Lock.lock outcome) _ _ c.args.token.now
    c.lock.new.self at refl refl refl
    (took_lock-leaving opening.token c.args.token.now c.lock.new.self outcome c.in-Lock.lock at.token_is
    c.lock.ensures.locked))

pub returns-in-Unlock-clause-at : goal.returns-in-Unlock-clause-at
returns-in-Unlock-clause-at c opening outcome at =
    rw c.in-Unlock.is
    (token_at opening outcome (gave_lock c.in-Unlock.lock outcome) _ _ c.args.token.now c.unlock.new.self at refl refl
    refl
    (gave_lock-leaving opening.token c.args.token.now c.unlock.new.self outcome c.in-Unlock.lock at.token_is
    c.unlock.ensures.unlocked))

pub returns-in-Attempt-clause-at : goal.returns-in-Attempt-clause-at
returns-in-Attempt-clause-at c opening outcome at =
    rw c.in-Attempt.is
    (token_at opening outcome (after_attempt (frame_of opening.token) c.in-Attempt.call outcome) _ _ c.args.token.now
    c.attempt.new.self at refl refl refl
    (attempted-leaving opening.token c.args.token.now c.attempt.new.self outcome c.in-Attempt.call c.attempt.result
    at.token_is c.attempt.ensures.judged c.attempt.ensures.noted))
