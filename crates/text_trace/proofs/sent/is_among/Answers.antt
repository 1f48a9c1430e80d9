-- One item more, and all of them.
use Rattle.std.proofs.Common.{◌≡◌, length, refl, arith}
use Rattle.std.proofs.lemmas.Option.{slice_get_read}
use Rattle.text_trace.proofs.Searching.{absent, holds_of, none_at_all, none_more, untrue}
use Rattle.text_trace.specs.declared.sent.Sent.{Sent}
use Rattle.text_trace.proofs.sent.is_among.Goals as goal

pub loop-one-init : goal.loop-one-init
loop-one-init c = λ other low. absurd (omega (arith, low))

pub loop-one-preserved : goal.loop-one-preserved
loop-one-preserved c =
    none_more (λ (one : Sent). (one.to ≡ c.args.to) × (one.bytes ≡ c.args.bytes.now)) c.args.sent.now
    c.loop-one.one-index c.one-item.result
    (slice_get_read c.args.sent.now (length c.args.sent.now) c.loop-one.one-index c.one-item.result refl
    c.loop-one-test.true c.one-item.is)
    (λ is. untrue (c.if-is_datagram.ensures.1 is)) c.loop-one.invariant

pub returns-then-is_datagram : goal.returns-then-is_datagram
returns-then-is_datagram c = (
  λ _. (
    c.loop-one.one-index,
    holds_of (λ (one : Sent). (one.to ≡ c.args.to) × (one.bytes ≡ c.args.bytes.now)) _ c.one-item.result
        (slice_get_read c.args.sent.now (length c.args.sent.now) c.loop-one.one-index c.one-item.result refl
        c.loop-one-test.true c.one-item.is)
        (c.if-is_datagram.ensures.0 refl),
  ),
  λ _. refl,
)

pub returns : goal.returns
returns c = (
  λ none. absurd (untrue none),
  λ found. absurd (absent (λ (one : Sent). (one.to ≡ c.args.to) × (one.bytes ≡ c.args.bytes.now)) c.args.sent.now
      (none_at_all (λ (one : Sent). (one.to ≡ c.args.to) × (one.bytes ≡ c.args.bytes.now)) c.args.sent.now
      c.loop-one.one-index c.loop-one-test.false c.loop-one.invariant) found),
)
