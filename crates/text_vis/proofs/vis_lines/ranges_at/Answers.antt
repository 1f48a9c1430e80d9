use Rattle.std.proofs.Common.{◌∙◌, ◌-◌, sym, arith, length, length-append}
use Rattle.std.proofs.lemmas.Result.{err_from_is_err_and}
use Rattle.text_calls.specs.Forms.{Spans, bundle_at}
use Rattle.text_calls.proofs.Runs.{each_more, each_fail, each_done, more_is, bundles_some, bundles_few}
use Rattle.text_calls.proofs.Runs.{bundles_none}
use Rattle.text_vis.proofs.vis_lines.ranges_at.Goals as goal

pub returns-in_err-range : goal.returns-in_err-range
returns-in_err-range c =
    let most = c.args.most in
    let failed = err_from_is_err_and c.from_residual.result c.from_residual.ensures.1 in
    let more = more_is c.len.result most c.loop-rest.rest.now (sym c.has_more.ensures ∙ c.loop-rest-test.true) in
    rw (failed.1, failed.2) (bundles_none Spans c.args.least most c.args.bytes.now (sym c.loop-rest.invariant.so_far
    ∙ each_fail (bundle_at Spans) (most - length c.loop-rest.items.items) c.loop-rest.items.items c.loop-rest.rest.now
    (omega (arith, c.len.ensures, more.0)) more.1 c.in_err-range.ensures))

pub loop-rest-preserved : goal.loop-rest-preserved
loop-rest-preserved c =
    let most = c.args.most in
    let more = more_is c.len.result most c.loop-rest.rest.now (sym c.has_more.ensures ∙ c.loop-rest-test.true) in
    record {
      so_far = rw c.in_ok-push.ensures.items (sym (each_more (bundle_at Spans)
          (most - length c.loop-rest.items.items) _ c.loop-rest.items.items c.in_ok-range.range c.loop-rest.rest.now
          c.in_ok-range.after.now (simp length-append (omega (arith, c.len.ensures, more.0))) more.1
          c.in_ok-range.ensures) ∙ c.loop-rest.invariant.so_far);
      within = rw c.in_ok-push.ensures.items (simp length-append (omega (arith, c.len.ensures, more.0)));
    }

pub returns-then-len-least : goal.returns-then-len-least
returns-then-len-least c =
    let most = c.args.most in
    bundles_few Spans c.args.least most c.args.bytes.now c.loop-rest.rest.now c.loop-rest.items.items
    (omega (arith, c.len-2.ensures, c.if-len-least.true))
    (sym c.loop-rest.invariant.so_far ∙ each_done (bundle_at Spans) most c.len.result
    (most - length c.loop-rest.items.items) c.loop-rest.items.items c.loop-rest.rest.now (omega (arith, c.len.ensures))
    (sym c.has_more.ensures ∙ c.loop-rest-test.false))

pub returns : goal.returns
returns c =
    let most = c.args.most in
    bundles_some Spans c.args.least most c.args.bytes.now c.loop-rest.rest.now c.loop-rest.items.items
    (omega (arith, c.len-2.ensures, c.if-len-least.false))
    (sym c.loop-rest.invariant.so_far ∙ each_done (bundle_at Spans) most c.len.result
    (most - length c.loop-rest.items.items) c.loop-rest.items.items c.loop-rest.rest.now (omega (arith, c.len.ensures))
    (sym c.has_more.ensures ∙ c.loop-rest-test.false))
