-- What runs on a context finds, and what its reply is as a message.
use Rattle.std.proofs.Common.{ℕ, ◌≡◌, ◌<◌, ◌+◌, ◌++◌, List, [], ◌∷◌, Option, Some, length}
use Rattle.std.proofs.Common.{take, slice_get, slice_set, get_or, ap, sym, ◌∙◌, subst, subst₂, map, false}
use Rattle.std.proofs.lemmas.List.{take_more, take_more_set}
use Rattle.std.proofs.lemmas.Option.{slice_get_within, slice_get-get_or}
use Rattle.part_handlers.specs.declared.message.Reply.{Reply}
use Rattle.part_handlers.specs.declared.token.Token.{Token}
use Rattle.part_handlers.specs.declared.rules.CallKind.TheVariants as call
use Rattle.part_handlers.specs.LogState.{LogRecord, notes}
use Rattle.part_handlers.specs.Runs.{Frame, Meaning, IsLawfulMeaning, IsSpelled, violation, after_return, refusal}
use Rattle.part_handlers.specs.Tokens.{At, stage, start_of, noting, token_rule, frame_of, reply_after, buffer_after}
use Rattle.part_handlers.specs.declared.lock_answer.Held.{Held}
use Rattle.part_handlers.specs.declared.lock_answer.Owner.TheVariants as owner
use Rattle.part_handlers.specs.Locks.{holds, without}
use Rattle.part_handlers.proofs.LockLaws.{without_nothing}
use Rattle.part_handlers.proofs.Laws.{closed-leaving}
use Rattle.node_core.specs.declared.context.Work.{Work}
use Rattle.node_core.specs.HandlerContextRuns.{HandlerState, Ran, run_of, start_on}

-- a place with that element, read with any other in its stead
read_at : {A : Type 0} (xs : List A) (k : ℕ) (x : A) → slice_get xs k ≡ Some x → get_or xs k x ≡ x
read_at xs k x e = let h = slice_get-get_or xs k x (slice_get_within xs k x e) in cc

-- a prefix that was copied, and one element more
pub copied_more : {A : Type 0} (xs ys : List A) (k : ℕ) (x : A) → take k xs ≡ take k ys → k < length xs
    → slice_get ys k ≡ Some x
    → take (k + 1) (slice_set xs k x) ≡ take (k + 1) ys
copied_more {A} xs ys k x e room some =
    take_more_set xs k x room ∙ ap (λ (zs : List A). zs ++ x ∷ []) e
    ∙ sym (take_more ys k x (slice_get_within ys k x some) ∙ ap (λ (y : A). take k ys ++ y ∷ []) (read_at ys k x some))

-- a run with a token that was closed: what it left, and its reply
pub ran_is : (meaning : Meaning) (work : Work) (before after : HandlerState) (token old : Token) (buffer new_buffer : List ℕ)
    (reply : Option Reply) → IsLawfulMeaning meaning → holds owner.Handler before.locks ≡ false
    → At (stage before.segment before.cells token)
    (meaning work.handler (frame_of token) (start_of (stage before.segment before.cells token)))
    (stage after.segment after.cells old)
    → frame_of token ≡ (run_of meaning work before).frame → token.locks.now ≡ before.locks
    → token.log.now ≡ before.log → token.buffer.now ≡ buffer
    → after.locks ≡ without owner.Handler old.locks.now
    → after.log ≡ (noting old (refusal (token_rule old call.Return))).log.now
    → new_buffer ≡ old.buffer.now → reply ≡ old.reply
    → Ran (run_of meaning work before) after buffer new_buffer reply
ran_is meaning work before after token old buffer new_buffer reply lawful unheld at frame_is locks_is log_is buffer_is
    left_locks left_log left_buffer left_reply =
    let frame = (run_of meaning work before).frame in
    let o = meaning work.handler frame (start_on before) in
    let law = lawful work.handler frame (start_on before) in
    let now = stage after.segment after.cells old in
    let ran = subst₂ (λ (one : Frame) (held : List Held). At (stage before.segment before.cells token)
    (meaning work.handler one (record { cells = before.cells; segment = before.segment; locks = held })) now)
    frame_is locks_is at in
    record {
      left = record {
        cells_are = ran.cells_are;
        segment_is = ran.segment_is;
        same_length = ran.same_length;
        locks_are =
            left_locks ∙ (ap (λ (one : Token). without owner.Handler one.locks.now) ran.token_is
            ∙ (law.locks ∙ without_nothing owner.Handler before.locks unheld));
        log_is =
            left_log ∙ (closed-leaving token old o ran.token_is
            ∙ (ap (λ (one : Frame). notes token.log.now (map (violation one.arrival.role) (after_return one o).refused))
            frame_is
            ∙ ap (λ (log : LogRecord). notes log (map (violation frame.arrival.role) (after_return frame o).refused)) log_is));
      };
      buffer_is =
          left_buffer ∙ (ap (λ (one : Token). one.buffer.now) ran.token_is
          ∙ (ap (λ (one : Frame). buffer_after one.settings one.arrival o.reply token.buffer.now) frame_is
          ∙ ap (buffer_after frame.settings frame.arrival o.reply) buffer_is));
      reply_is =
          left_reply ∙ (ap (λ (one : Token). one.reply) ran.token_is
          ∙ ap (λ (one : Frame). reply_after one.settings one.arrival o.reply) frame_is);
      lawful = law.reply;
      spelled = subst (λ (one : Frame). IsSpelled one o.reply) frame_is ran.spelled;
    }
