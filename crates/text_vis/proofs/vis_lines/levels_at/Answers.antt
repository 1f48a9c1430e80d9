use Rattle.std.proofs.Common.{◌∙◌, ◌-◌, sym, arith, length, length-append}
use Rattle.std.proofs.lemmas.Result.{err_from_is_err_and}
use Rattle.text_calls.specs.Forms.{Strides, bundle_at}
use Rattle.text_calls.proofs.Runs.{each_more, each_fail, each_done, more_is, bundles_some, bundles_none}
use Rattle.text_vis.proofs.vis_lines.levels_at.Goals as goal

pub returns-in_err-level : goal.returns-in_err-level
returns-in_err-level c =
    let failed = err_from_is_err_and c.from_residual.result c.from_residual.ensures.1 in
    let more = more_is c.len.result 4 c.loop-rest.rest.now (sym c.has_more.ensures ∙ c.loop-rest-test.true) in
    rw (failed.1, failed.2) (bundles_none Strides 0 4 c.args.bytes.now (sym c.loop-rest.invariant.so_far
    ∙ each_fail (bundle_at Strides) (4 - length c.loop-rest.items.items) c.loop-rest.items.items c.loop-rest.rest.now
    (omega (arith, c.len.ensures, more.0)) more.1 c.in_err-level.ensures))

pub loop-rest-preserved : goal.loop-rest-preserved
loop-rest-preserved c =
    let more = more_is c.len.result 4 c.loop-rest.rest.now (sym c.has_more.ensures ∙ c.loop-rest-test.true) in
    record {
      so_far = rw c.in_ok-push.ensures.items (sym (each_more (bundle_at Strides)
          (4 - length c.loop-rest.items.items) _ c.loop-rest.items.items c.in_ok-level.level c.loop-rest.rest.now
          c.in_ok-level.after.now (simp length-append (omega (arith, c.len.ensures, more.0))) more.1
          c.in_ok-level.ensures) ∙ c.loop-rest.invariant.so_far);
      within = rw c.in_ok-push.ensures.items (simp length-append (omega (arith, c.len.ensures, more.0)));
    }

pub returns : goal.returns
returns c =
    bundles_some Strides 0 4 c.args.bytes.now c.loop-rest.rest.now c.loop-rest.items.items (omega arith)
    (sym c.loop-rest.invariant.so_far ∙ each_done (bundle_at Strides) 4 c.len.result
    (4 - length c.loop-rest.items.items) c.loop-rest.items.items c.loop-rest.rest.now (omega (arith, c.len.ensures))
    (sym c.has_more.ensures ∙ c.loop-rest-test.false))
