-- One recorder more, and all of them.
use Rattle.std.proofs.Common.{◌+◌, List, [], ◌∷◌, length, length-append, slice_get, sym, ap, subst, ◌∙◌, arith}
use Rattle.wire_message.specs.Parameters.{Parameters}
use Rattle.cli_check.specs.Recording.{RecorderKept, RecorderStands, opening_record}
use Rattle.cli_check.proofs.Pushed.{pushed_at}
use Rattle.cli_check.proofs.machines.new_recorders.Goals as goal

pub new-requires : goal.new-requires
new-requires c =
    let nodes = c.nodes-nodes.ensures.nodes ∙ ap (λ (s : Parameters). s.nodes) c.settings.ensures in
    record { job = c.requires; rank = omega (arith, c.loop-rank-test.true, nodes) }

pub loop-rank-preserved : goal.loop-rank-preserved
loop-rank-preserved c =
    let job = c.args.job.now in
    let kept = c.in_ok-new.field-0 in
    let items = c.in_ok-push.ensures.items in
    let stands = subst (λ n. RecorderStands kept (opening_record job n)) (sym c.loop-rank.invariant.count)
    c.in_ok-new.ensures in
    record {
      count = ap length items ∙ length-append c.loop-rank.recorders.items (kept ∷ [])
          ∙ ap (λ n. n + 1) c.loop-rank.invariant.count;
      each = λ place one at.
          pushed_at (λ n (it : RecorderKept). RecorderStands it (opening_record job n)) c.loop-rank.recorders.items kept
          c.loop-rank.invariant.each stands place one
          (ap (λ (all : List RecorderKept). slice_get all place) (sym items) ∙ at);
    }

pub returns : goal.returns
returns c =
    let nodes = c.nodes-nodes.ensures.nodes ∙ ap (λ (s : Parameters). s.nodes) c.settings.ensures in
    record {
      count = omega (arith, c.loop-rank.invariant.count, c.loop-rank-test.false, c.loop-rank.auto.rank-end, nodes);
      each = c.loop-rank.invariant.each;
    }
