-- One node more, and all of them.
use Rattle.std.proofs.Common.{List, length, refl, subst, arith}
use Rattle.std.proofs.lemmas.Option.{slice_get_read}
use Rattle.text_trace.proofs.Searching.{absent, holds_of, none_at_all, none_more, untrue}
use Rattle.text_trace.specs.Sending.{IsSentAmong}
use Rattle.text_trace.specs.declared.replaying.Replayed.{Replayed}
use Rattle.text_trace.specs.declared.sent.Sent.{Sent}
use Rattle.text_trace.proofs.sent.is_sent.Goals as goal

pub loop-replay-init : goal.loop-replay-init
loop-replay-init c = λ other low. absurd (omega (arith, low))

pub loop-replay-preserved : goal.loop-replay-preserved
loop-replay-preserved c =
    none_more (λ (replay : Replayed). IsSentAmong replay.sent.items c.args.to c.args.bytes.now) c.args.replays.now
    c.loop-replay.replay-index c.replay-item.result
    (slice_get_read c.args.replays.now (length c.args.replays.now) c.loop-replay.replay-index c.replay-item.result refl
    c.loop-replay-test.true c.replay-item.is)
    (subst (λ (sent : List Sent). IsSentAmong sent c.args.to c.args.bytes.now → ⊥) c.deref.ensures.value
    (λ is. untrue (c.if-is_among.ensures.1 is)))
    c.loop-replay.invariant

pub returns-then-is_among : goal.returns-then-is_among
returns-then-is_among c = (
  λ _. (
    c.loop-replay.replay-index,
    holds_of (λ (replay : Replayed). IsSentAmong replay.sent.items c.args.to c.args.bytes.now) _ c.replay-item.result
        (slice_get_read c.args.replays.now (length c.args.replays.now) c.loop-replay.replay-index c.replay-item.result refl
        c.loop-replay-test.true c.replay-item.is)
        (subst (λ (sent : List Sent). IsSentAmong sent c.args.to c.args.bytes.now) c.deref.ensures.value
        (c.if-is_among.ensures.0 refl)),
  ),
  λ _. refl,
)

pub returns : goal.returns
returns c = (
  λ none. absurd (untrue none),
  λ found. absurd (absent (λ (replay : Replayed). IsSentAmong replay.sent.items c.args.to c.args.bytes.now)
      c.args.replays.now
      (none_at_all (λ (replay : Replayed). IsSentAmong replay.sent.items c.args.to c.args.bytes.now) c.args.replays.now
      c.loop-replay.replay-index c.loop-replay-test.false c.loop-replay.invariant) found),
)
