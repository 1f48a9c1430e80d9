-- How the calls of a token add to the outcome of a run: for whoever proves that handlers have a meaning.
use Rattle.std.proofs.Common.{◌≡◌, ℕ, List, [], ◌∷◌, ◌++◌, Option, Some, None, Bool}
use Rattle.std.proofs.Common.{Result, refl, ap, sym, ◌∙◌, map, is_some}
use Rattle.std.proofs.lemmas.List.{map-append}
use Rattle.part_handlers.specs.declared.lock_answer.Held.{Held}
use Rattle.part_handlers.specs.declared.lock_answer.Owner.TheVariants as owner
use Rattle.part_handlers.specs.Locks.{after_lock, after_unlock, holds, lock_answer, unlock_answer, without}
use Rattle.wire_message.specs.Content.{Content}
use Rattle.wire_message.specs.Parameters.{Parameters}
use Rattle.part_handlers.specs.declared.rules.Role.{Role}
use Rattle.part_handlers.specs.declared.rules.CallKind.{CallKind}
use Rattle.part_handlers.specs.declared.rules.CallKind.TheVariants as call
use Rattle.part_handlers.specs.declared.rules.Forbidden.{Forbidden}
use Rattle.part_handlers.specs.declared.rules.Fault.{Fault}
use Rattle.part_handlers.specs.declared.rules.Fault.TheVariants as fault
use Rattle.part_handlers.specs.declared.message.Replied.{Replied}
use Rattle.part_handlers.specs.declared.message.Replied.TheVariants as replied
use Rattle.part_handlers.specs.declared.token.Token.{Token}
use Rattle.part_handlers.specs.Rules.{rule, context_of}
use Rattle.part_handlers.specs.LogState.{LogRecord, notes}
use Rattle.part_handlers.specs.Runs.{Arrival, Frame, Outcome, after_answer, answer, answer_by, after_attempt, after_return}
use Rattle.part_handlers.specs.Runs.{gave_lock, judgement, lock_refusal, refusal, replying, reply_faults, took_lock}
use Rattle.part_handlers.specs.Runs.{unlock_refusal, nothing_done, violation, IsSpelled}
use Rattle.part_handlers.specs.Tokens.{Stage, answer_with_token, token_after_reply, token_rule, leaving, locking, noting}
use Rattle.part_handlers.specs.Tokens.{reply_after, frame_of, start_of, unlocking, with_locks}
use Rattle.part_handlers.proofs.Logs.{notes-append}
use Rattle.part_handlers.proofs.Sent.{was_sent}

-- faults noted one list after another
pub notes-faults : (r : Role) (log : LogRecord) (first second : List Fault) →
    notes (notes log (map (violation r) first)) (map (violation r) second) ≡ notes log
    (map (violation r) (first ++ second))
notes-faults r log first second =
    sym (ap (notes log) (map-append (violation r) first second)
    ∙ notes-append log (map (violation r) first) (map (violation r) second))

-- a reply was sent exactly where the outcome has one
pub is_some-reply_after : (settings : Parameters) (arrival : Arrival) (reply : Option Content)
    → is_some (reply_after settings arrival reply) ≡ is_some reply
is_some-reply_after settings arrival None = refl
is_some-reply_after settings arrival (Some content) = refl

-- a token judges as its outcome so far does
pub token_rule-leaving : (token : Token) (outcome : Outcome) (kind : CallKind)
    → token_rule (leaving outcome token) kind ≡ judgement (frame_of token) kind outcome
token_rule-leaving token outcome kind =
    ap (λ (is_replied : Bool). rule (context_of token.message.role) (holds owner.Handler outcome.locks) is_replied kind)
    (is_some-reply_after token.settings.now (frame_of token).arrival outcome.reply)

-- further faults
pub noting-leaving : (outcome : Outcome) (token : Token) (faults : List Fault)
    → noting (leaving outcome token) faults ≡ leaving (record outcome { refused = outcome.refused ++ faults }) token
noting-leaving outcome token faults =
    ap (λ (log : LogRecord). record (leaving outcome token) { log = record token.log { now = log } })
    (notes-faults token.message.role token.log.now outcome.refused faults)

-- a token with no reply is one that an untouched start leaves
pub leaving-untouched : (opening : Stage) → opening.token.reply ≡ None
    → opening.token ≡ leaving (nothing_done (start_of opening)) opening.token
leaving-untouched opening unreplied =
    ap (λ (reply : Option _). record opening.token { reply = reply }) unreplied

-- ---- judging

-- what `attempt` ensures, told of outcomes
pub attempted-leaving : (token old new : Token) (outcome : Outcome) (kind : CallKind)
    (result : Result (Unit {0}) Forbidden) → old ≡ leaving outcome token → result ≡ token_rule old kind
    → new ≡ noting old (refusal result) → new ≡ leaving (after_attempt (frame_of token) kind outcome) token
attempted-leaving token old new outcome kind result is judge note =
    let same : result ≡ judgement (frame_of token) kind outcome = judge ∙ ap (λ (at : Token). token_rule at kind) is
    ∙ token_rule-leaving token outcome kind in
    note ∙ ap (λ (at : Token). noting at (refusal result)) is
    ∙ ap (λ (judgement : Result (Unit {0}) Forbidden). noting (leaving outcome token) (refusal judgement)) same
    ∙ noting-leaving outcome token (refusal (judgement (frame_of token) kind outcome))

-- ---- locks

-- other locks, after the same faults
with_locks-leaving : (outcome : Outcome) (token : Token) (faults : List Fault) (held : List Held)
    → with_locks (noting (leaving outcome token) faults) held
    ≡ leaving (record outcome { locks = held; refused = outcome.refused ++ faults }) token
with_locks-leaving outcome token faults held =
    ap (λ (at : Token). with_locks at held) (noting-leaving outcome token faults)

-- what `lock` ensures, told of outcomes
pub took_lock-leaving : (token old new : Token) (outcome : Outcome) (lock : ℕ) → old ≡ leaving outcome token
    → new ≡ locking old lock → new ≡ leaving (took_lock (frame_of token) lock outcome) token
took_lock-leaving token old new outcome lock is after =
    after ∙ ap (λ (at : Token). locking at lock) is
    ∙ with_locks-leaving outcome token (lock_refusal (lock_answer outcome.locks owner.Handler lock token.listed))
    (after_lock outcome.locks owner.Handler lock token.listed)

-- what `unlock` ensures, told of outcomes
pub gave_lock-leaving : (token old new : Token) (outcome : Outcome) (lock : ℕ) → old ≡ leaving outcome token
    → new ≡ unlocking old lock → new ≡ leaving (gave_lock lock outcome) token
gave_lock-leaving token old new outcome lock is after =
    after ∙ ap (λ (at : Token). unlocking at lock) is
    ∙ with_locks-leaving outcome token (unlock_refusal (unlock_answer outcome.locks owner.Handler lock))
    (after_unlock outcome.locks owner.Handler lock)

-- ---- replies

answered-leaving : (given : Replied) (token : Token) (outcome : Outcome) (content : Content)
    → (given ≡ replied.Sent → outcome.reply ≡ None)
    → token_after_reply (leaving outcome token) content given ≡ leaving (after_answer given content outcome) token
answered-leaving replied.Sent token outcome content first =
    ap (λ (reply : Option Content).
    token_after_reply (leaving (record outcome { reply = reply }) token) content replied.Sent) (first refl)
answered-leaving (replied.Forbidden forbidden) token outcome content first =
    noting-leaving outcome token (fault.Rule forbidden ∷ [])
answered-leaving (replied.BadArg part) token outcome content first = refl

-- a token answers a reply as its outcome so far does
pub judged_answer : (token old : Token) (outcome : Outcome) (content : Content) (result : Replied)
    → old ≡ leaving outcome token → result ≡ answer_with_token old content → result ≡ answer (frame_of token) content outcome
judged_answer token old outcome content result is judge =
    judge ∙ ap (λ (at : Token). answer_with_token at content) is
    ∙ ap (λ (judgement : Result (Unit {0}) Forbidden).
    answer_by judgement (reply_faults token.settings.now token.table.now content))
    (token_rule-leaving token outcome call.Reply)

-- what a reply call ensures, told of outcomes
pub replying-leaving : (token old new : Token) (outcome : Outcome) (content : Content) (result : Replied)
    → old ≡ leaving outcome token → result ≡ answer_with_token old content → new ≡ token_after_reply old content result
    → new ≡ leaving (replying (frame_of token) content outcome) token
replying-leaving token old new outcome content result is judge after =
    let same : result ≡ answer (frame_of token) content outcome =
    judged_answer token old outcome content result is judge in
    after ∙ ap (λ (at : Token). token_after_reply at content result) is
    ∙ ap (λ (given : Replied). token_after_reply (leaving outcome token) content given) same
    ∙ answered-leaving (answer (frame_of token) content outcome) token outcome content
    (λ sent. (was_sent (frame_of token) content outcome sent).first)

IsSpelled-after_answer : (given : Replied) (frame : Frame) (content : Content) (outcome : Outcome)
    → (given ≡ replied.Sent → IsSpelled frame (Some content)) → IsSpelled frame outcome.reply
    → IsSpelled frame (after_answer given content outcome).reply
IsSpelled-after_answer replied.Sent frame content outcome spelled before = spelled refl
IsSpelled-after_answer (replied.Forbidden forbidden) frame content outcome spelled before = before
IsSpelled-after_answer (replied.BadArg part) frame content outcome spelled before = before

-- a reply that is sent by a call of the token has a spelling
pub IsSpelled-replying : (token old : Token) (content : Content) (outcome : Outcome) (result : Replied)
    → old ≡ leaving outcome token → result ≡ answer_with_token old content
    → (result ≡ replied.Sent → IsSpelled (frame_of token) (Some content)) → IsSpelled (frame_of token) outcome.reply
    → IsSpelled (frame_of token) (replying (frame_of token) content outcome).reply
IsSpelled-replying token old content outcome result is judge spelled before =
    let same : result ≡ answer (frame_of token) content outcome =
    judged_answer token old outcome content result is judge in
    IsSpelled-after_answer (answer (frame_of token) content outcome) (frame_of token) content outcome
    (λ sent. spelled (same ∙ sent)) before

-- a reply leaves the cells, the writes and the locks of a run
record KeepsRest (before after : Outcome) : Type 0 where
  cells : after.cells ≡ before.cells
  writes : after.writes ≡ before.writes
  locks : after.locks ≡ before.locks

keeps-after_answer : (given : Replied) (content : Content) (outcome : Outcome)
    → KeepsRest outcome (after_answer given content outcome)
keeps-after_answer replied.Sent content outcome = record { cells = refl; writes = refl; locks = refl }
keeps-after_answer (replied.Forbidden forbidden) content outcome = record { cells = refl; writes = refl; locks = refl }
keeps-after_answer (replied.BadArg part) content outcome = record { cells = refl; writes = refl; locks = refl }

-- a reply leaves the cells
pub cells-replying : (frame : Frame) (content : Content) (outcome : Outcome)
    → (replying frame content outcome).cells ≡ outcome.cells
cells-replying frame content outcome = (keeps-after_answer (answer frame content outcome) content outcome).cells

-- it writes nothing into the segment
pub writes-replying : (frame : Frame) (content : Content) (outcome : Outcome)
    → (replying frame content outcome).writes ≡ outcome.writes
writes-replying frame content outcome = (keeps-after_answer (answer frame content outcome) content outcome).writes

-- it leaves the locks
pub locks-replying : (frame : Frame) (content : Content) (outcome : Outcome)
    → (replying frame content outcome).locks ≡ outcome.locks
locks-replying frame content outcome = (keeps-after_answer (answer frame content outcome) content outcome).locks

-- ---- the end of a run

-- the log that `close` leaves, told of outcomes
pub closed-leaving : (token old : Token) (outcome : Outcome) → old ≡ leaving outcome token →
    (noting old (refusal (token_rule old call.Return))).log.now ≡ notes token.log.now
    (map (violation token.message.role) (after_return (frame_of token) outcome).refused)
closed-leaving token old outcome is =
    ap (λ (at : Token). (noting at (refusal (token_rule at call.Return))).log.now) is
    ∙ ap (λ (judgement : Result (Unit {0}) Forbidden). (noting (leaving outcome token) (refusal judgement)).log.now)
    (token_rule-leaving token outcome call.Return)
    ∙ notes-faults token.message.role token.log.now outcome.refused
    (refusal (judgement (frame_of token) call.Return outcome))

-- the locks that `close` leaves, told of outcomes
pub closed_locks-leaving : (token old : Token) (outcome : Outcome) → old ≡ leaving outcome token →
    without owner.Handler old.locks.now ≡ (after_return (frame_of token) outcome).locks
closed_locks-leaving token old outcome is = ap (λ (at : Token). without owner.Handler at.locks.now) is

-- ---- writes
