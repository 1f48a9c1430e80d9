use Rattle.std.proofs.Common.{sym, subst, ap, length, arith}
use Rattle.std.proofs.lemmas.List.{length_push}
use Rattle.text_trace.specs.Noted.{HavePlaces}
use Rattle.text_trace.proofs.StartLemmas.{places_push}
use Rattle.text_trace.proofs.wanted.all_places.Goals as goal

pub loop-trace-preserved : goal.loop-trace-preserved
loop-trace-preserved c = record {
  size = let n = ap length c.in_ok-push.ensures.items in let l = length_push c.loop-trace.places.items
      c.in_ok-places_of.field-0 in omega arith;
  each = subst (λ ps. HavePlaces ps c.args.traces.now) (sym c.in_ok-push.ensures.items)
      (places_push c.loop-trace.places.items c.in_ok-places_of.field-0 c.args.traces.now c.loop-trace.trace-index
      c.trace-item.result c.as_slice.result.now
      c.loop-trace.invariant.size c.loop-trace-test.true c.trace-item.is c.as_slice.ensures
      c.in_ok-places_of.ensures.found c.in_ok-places_of.ensures.places c.loop-trace.invariant.each);
}
