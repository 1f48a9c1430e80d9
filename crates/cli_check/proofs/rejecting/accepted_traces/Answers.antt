-- One trace more, and all of them.
use Rattle.std.proofs.Common.{◌≡◌, [], ◌∷◌, ◌++◌, ◌+◌, ℕ, List, length, length-append, refl, sym, ap, ap₂, ◌∙◌, arith}
use Rattle.std.proofs.lemmas.Iterator.Adapters.{YieldsList-from_vec}
use Rattle.std.proofs.lemmas.Iterator.Consumers.{YieldsList-end, YieldsList-turn}
use Rattle.std.proofs.lemmas.List.{map-id}
use Rattle.std.proofs.lemmas.Option.{slice_get_read}
use Rattle.text_trace.specs.declared.trace.Trace.{Trace}
use Rattle.cli_check.specs.Rejected.{accepted_trace, accepted_traces}
use Rattle.cli_check.proofs.Rejected.{accepted_last}
use Rattle.cli_check.proofs.rejecting.accepted_traces.Goals as goal

pub loop-trace-init : goal.loop-trace-init
loop-trace-init g c = record {
  made = λ job are. c.in_ok-accepted.ensures.items;
  count = ap length c.in_ok-accepted.ensures.items;
}

pub bounds-recorders-len : goal.bounds-recorders-len
bounds-recorders-len g c =
    let gives = c.into_iter-trace-iterator.ensures.into_iter_gives in
    let low = (YieldsList-turn (YieldsList-from_vec {s = c.into_iter-trace-iterator.result} c.args.traces.items gives.0
    (gives.1 ∙ c.args.traces.ok.0)) c.loop-trace.yielded c.loop-trace.trace-iterator c.loop-trace.yielded_by
    c.next.result c.next.new.self c.in-Some.trace c.in-Some.is c.next.ensures.steps).0 in
    omega (
      arith,
      low,
      c.len-in-loop-trace.ensures,
      c.loop-trace.accepted.ok.0,
      c.loop-trace.invariant.count,
      c.requires.count,
    )

pub offset_bounds-recorders-len : goal.offset_bounds-recorders-len
offset_bounds-recorders-len g c =
    let gives = c.into_iter-trace-iterator.ensures.into_iter_gives in
    let low = (YieldsList-turn (YieldsList-from_vec {s = c.into_iter-trace-iterator.result} c.args.traces.items gives.0
    (gives.1 ∙ c.args.traces.ok.0)) c.loop-trace.yielded c.loop-trace.trace-iterator c.loop-trace.yielded_by
    c.next.result c.next.new.self c.in-Some.trace c.in-Some.is c.next.ensures.steps).0 in
    omega (
      arith,
      low,
      c.len-in-loop-trace.ensures,
      c.loop-trace.accepted.ok.0,
      c.loop-trace.invariant.count,
      c.requires.count,
      c.requires.few,
    )

pub loop-trace-preserved : goal.loop-trace-preserved
loop-trace-preserved g c =
    let yielded = c.loop-trace.yielded in
    let before = c.loop-trace.accepted in
    let rank = c.len-in-loop-trace.result in
    let gives = c.into_iter-trace-iterator.ensures.into_iter_gives in
    let low = (YieldsList-turn (YieldsList-from_vec {s = c.into_iter-trace-iterator.result} c.args.traces.items gives.0
    (gives.1 ∙ c.args.traces.ok.0)) yielded c.loop-trace.trace-iterator c.loop-trace.yielded_by
    c.next.result c.next.new.self c.in-Some.trace c.in-Some.is c.next.ensures.steps).0 in
    let here : rank ≡ length yielded =
    omega (arith, c.len-in-loop-trace.ensures, before.ok.0, c.loop-trace.invariant.count) in
    let one = c.index-recorders-len.result in
    let there = slice_get_read c.args.recorders.now (length c.args.recorders.now) rank one refl
    (omega (arith, here, low, c.requires.count)) c.index-recorders-len.is in
    record {
      made = λ job are.
          c.in_ok-push.ensures.items
          ∙ ap₂ (λ (prefix : List Trace) (last : Trace). prefix ++ last ∷ []) (c.loop-trace.invariant.made job are)
          (c.in_ok-accepted_trace.ensures job rank (c.endpoint-endpoint.ensures job rank (are.each rank one there))
          ∙ ap (λ (at : ℕ). accepted_trace job at c.in-Some.trace) here)
          ∙ sym (accepted_last job yielded c.in-Some.trace);
      count = ap length c.in_ok-push.ensures.items ∙ length-append before.items (c.in_ok-accepted_trace.field-0 ∷ [])
          ∙ ap (λ (n : ℕ). n + 1) c.loop-trace.invariant.count
          ∙ sym (length-append yielded (c.in-Some.trace ∷ []));
    }

pub returns : goal.returns
returns g c = λ job are.
    let gives = c.into_iter-trace-iterator.ensures.into_iter_gives in
    let all = YieldsList-end (YieldsList-from_vec {s = c.into_iter-trace-iterator.result} c.args.traces.items gives.0
    (gives.1 ∙ c.args.traces.ok.0)) c.loop-trace.yielded c.loop-trace.trace-iterator c.loop-trace.yielded_by
    c.next.result c.next.new.self c.in-None.is c.next.ensures.steps in
    c.loop-trace.invariant.made job are ∙ ap (accepted_traces job) (sym (map-id c.loop-trace.yielded) ∙ all.0)
