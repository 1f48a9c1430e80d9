use Rattle.std.proofs.Common.{◌≡◌, ◌∙◌, ◌-◌, ◌≤◌, ℕ, zero, suc, eqb, eqb-true, false, sym, arith, length, length-append}
use Rattle.std.proofs.lemmas.Result.{err_from_is_err_and}
use Rattle.text_calls.specs.Forms.{Operations, bundle_at}
use Rattle.text_calls.proofs.Runs.{each_more, each_fail, each_done, more_is, bundles_some, bundles_few}
use Rattle.text_calls.proofs.Runs.{bundles_none}
use Rattle.text_calls.proofs.batches.ops_at.Goals as goal

pub returns-in_err-op : goal.returns-in_err-op
returns-in_err-op c =
    let failed = err_from_is_err_and c.from_residual.result c.from_residual.ensures.1 in
    let more = more_is c.len.result 16 c.loop-rest.rest.now (sym c.has_more.ensures ∙ c.loop-rest-test.true) in
    rw (failed.1, failed.2) (bundles_none Operations 1 16 c.args.bytes.now (sym c.loop-rest.invariant.so_far
    ∙ each_fail (bundle_at Operations) (16 - length c.loop-rest.ops.items) c.loop-rest.ops.items c.loop-rest.rest.now
    (omega (arith, c.len.ensures, more.0)) more.1 c.in_err-op.ensures))

pub loop-rest-preserved : goal.loop-rest-preserved
loop-rest-preserved c =
    let more = more_is c.len.result 16 c.loop-rest.rest.now (sym c.has_more.ensures ∙ c.loop-rest-test.true) in
    record {
      so_far = rw c.in_ok-push.ensures.items (sym (each_more (bundle_at Operations)
          (16 - length c.loop-rest.ops.items) _ c.loop-rest.ops.items c.in_ok-op.op c.loop-rest.rest.now
          c.in_ok-op.after.now (simp length-append (omega (arith, c.len.ensures, more.0))) more.1
          c.in_ok-op.ensures) ∙ c.loop-rest.invariant.so_far);
      within = rw c.in_ok-push.ensures.items (simp length-append (omega (arith, c.len.ensures, more.0)));
    }

pub returns-then-is_empty : goal.returns-then-is_empty
returns-then-is_empty c =
    let none : c.loop-rest.ops.len ≡ 0 =
    eqb-true c.loop-rest.ops.len 0 (sym c.is_empty.ensures ∙ c.if-is_empty.true) in
    let long = c.loop-rest.ops.ok.0 in
    bundles_few Operations 1 16 c.args.bytes.now c.loop-rest.rest.now c.loop-rest.ops.items
    (omega (arith, none, long)) (sym c.loop-rest.invariant.so_far ∙ each_done (bundle_at Operations) 16 c.len.result
    (16 - length c.loop-rest.ops.items) c.loop-rest.ops.items c.loop-rest.rest.now (omega (arith, c.len.ensures))
    (sym c.has_more.ensures ∙ c.loop-rest-test.false))

-- what isn't nothing is something
some : (long len : ℕ) → len ≡ long → eqb len 0 ≡ false → 1 ≤ long
some zero len same is = absurd (cc)
some (suc long) len same is = omega arith

pub returns : goal.returns
returns c =
    bundles_some Operations 1 16 c.args.bytes.now c.loop-rest.rest.now c.loop-rest.ops.items
    (some (length c.loop-rest.ops.items) c.loop-rest.ops.len c.loop-rest.ops.ok.0
    (sym c.is_empty.ensures ∙ c.if-is_empty.false))
    (sym c.loop-rest.invariant.so_far ∙ each_done (bundle_at Operations) 16 c.len.result
    (16 - length c.loop-rest.ops.items) c.loop-rest.ops.items c.loop-rest.rest.now (omega (arith, c.len.ensures))
    (sym c.has_more.ensures ∙ c.loop-rest-test.false))
