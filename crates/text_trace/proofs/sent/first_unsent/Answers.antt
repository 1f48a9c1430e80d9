-- One entry more, and all of them.
use Rattle.std.proofs.Common.{length, refl, arith}
use Rattle.std.proofs.lemmas.Option.{slice_get_read}
use Rattle.text_trace.proofs.Searching.{holds_of, none_at_all, none_more, untrue}
use Rattle.text_trace.specs.Sending.{IsUnsent}
use Rattle.text_trace.proofs.sent.first_unsent.Goals as goal

pub loop-place-init : goal.loop-place-init
loop-place-init c = λ other low. absurd (omega (arith, low))

pub loop-place-preserved : goal.loop-place-preserved
loop-place-preserved c =
    none_more (IsUnsent c.args.replays.now c.args.to) c.args.entries.now c.loop-place.place c.index-entries-place.result
    (slice_get_read c.args.entries.now (length c.args.entries.now) c.loop-place.place c.index-entries-place.result refl
    c.loop-place-test.true c.index-entries-place.is)
    (λ is. untrue (c.if-is_unsent.ensures.1 is)) c.loop-place.invariant

pub returns-then-is_unsent : goal.returns-then-is_unsent
returns-then-is_unsent c = record {
  unsent =
      holds_of (IsUnsent c.args.replays.now c.args.to) _ c.index-entries-place.result
      (slice_get_read c.args.entries.now (length c.args.entries.now) c.loop-place.place c.index-entries-place.result refl
      c.loop-place-test.true c.index-entries-place.is)
      (c.if-is_unsent.ensures.0 refl);
  first = c.loop-place.invariant;
}

pub returns : goal.returns
returns c =
    none_at_all (IsUnsent c.args.replays.now c.args.to) c.args.entries.now c.loop-place.place c.loop-place-test.false
    c.loop-place.invariant
