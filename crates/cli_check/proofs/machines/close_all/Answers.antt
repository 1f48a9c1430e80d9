-- What was taken of one recorder more, and of all.
use Rattle.std.proofs.Common.{List, sym, subst, ◌∙◌}
use Rattle.std.proofs.lemmas.Iterator.Adapters.{YieldsList-from_vec}
use Rattle.std.proofs.lemmas.Iterator.Consumers.{YieldsList-end}
use Rattle.std.proofs.lemmas.List.{map-id}
use Rattle.cli_check.specs.Merging.{ClosesAll, IsWholeRecorder}
use Rattle.cli_check.specs.Recording.{RecorderKept}
use Rattle.cli_check.specs.declared.recorder.NodeReport.{NodeReport}
use Rattle.cli_check.proofs.Pushed.{made_more, mapped_more, pushed_at}
use Rattle.cli_check.proofs.machines.close_all.Goals as goal

pub loop-recorder-preserved : goal.loop-recorder-preserved
loop-recorder-preserved c =
    let kept = c.in-Some.recorder in
    let closed = c.in_ok-endpoint.ensures in
    let yielded = c.loop-recorder.yielded in
    let so_far = c.loop-recorder.invariant in
    record {
      nodes = made_more (λ (one : RecorderKept). one.node.endpoint) c.loop-recorder.nodes.items _ _ yielded kept
          c.in_ok-push.ensures.items closed.endpoint_is so_far.nodes;
      texts = mapped_more (λ (report : NodeReport). report.text.taken) (λ (one : RecorderKept). one.text)
          c.loop-recorder.reports.items _ _ yielded kept c.in_ok-push-2.ensures.items closed.text_is so_far.texts;
      most = mapped_more (λ (report : NodeReport). report.most) (λ (one : RecorderKept). one.most)
          c.loop-recorder.reports.items _ _ yielded kept c.in_ok-push-2.ensures.items closed.most_is so_far.most;
      each = pushed_at (λ _ one. IsWholeRecorder one) yielded kept so_far.each
          (record { whole = closed.whole; own = closed.own });
    }

pub returns : goal.returns
returns c =
    let gives = c.into_iter-recorder-iterator.ensures.into_iter_gives in
    let all = YieldsList-end (YieldsList-from_vec {s = c.into_iter-recorder-iterator.result} c.args.recorders.items
    gives.0 (gives.1 ∙ c.args.recorders.ok.0)) c.loop-recorder.yielded
    c.loop-recorder.recorder-iterator c.loop-recorder.yielded_by c.next.result c.next.new.self c.in-None.is
    c.next.ensures.steps in
    subst (λ (recorders : List RecorderKept). ClosesAll recorders
    (record { nodes = c.loop-recorder.nodes; reports = c.loop-recorder.reports })) (sym (map-id c.loop-recorder.yielded) ∙ all.0)
    (record {
      nodes = c.loop-recorder.invariant.nodes;
      texts = c.loop-recorder.invariant.texts;
      most = c.loop-recorder.invariant.most;
      each = c.loop-recorder.invariant.each;
    })
