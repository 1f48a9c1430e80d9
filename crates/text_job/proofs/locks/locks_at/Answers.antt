use Rattle.std.proofs.Common.{◌∙◌, ◌-◌, sym, arith, length, length-append}
use Rattle.std.proofs.lemmas.Result.{err_from_is_err_and}
use Rattle.text_calls.specs.Forms.{U8}
use Rattle.text_calls.proofs.Runs.{parts_more, parts_fail, parts_done, more_is}
use Rattle.text_job.proofs.locks.locks_at.Goals as goal

pub returns-in_err-lock : goal.returns-in_err-lock
returns-in_err-lock c =
    let failed = err_from_is_err_and c.from_residual.result c.from_residual.ensures.1 in
    let most = length c.args.bytes.now in
    let more = more_is c.len.result most c.loop-rest.rest.now (sym c.has_more.ensures ∙ c.loop-rest-test.true) in
    rw (failed.1, failed.2) (sym c.loop-rest.invariant.so_far ∙ parts_fail U8 (most - length c.loop-rest.items.items)
    c.loop-rest.items.items c.loop-rest.rest.now (omega (arith, c.len.ensures, more.0)) more.1 c.in_err-lock.ensures)

pub loop-rest-preserved : goal.loop-rest-preserved
loop-rest-preserved c =
    let most = length c.args.bytes.now in
    let more = more_is c.len.result most c.loop-rest.rest.now (sym c.has_more.ensures ∙ c.loop-rest-test.true) in
    record {
      so_far = rw c.in_ok-push.ensures.items (sym (parts_more U8
          (most - length c.loop-rest.items.items) _ c.loop-rest.items.items c.in_ok-lock.lock c.loop-rest.rest.now
          c.in_ok-lock.after.now (simp length-append (omega (arith, c.len.ensures, more.0))) more.1
          c.in_ok-lock.ensures) ∙ c.loop-rest.invariant.so_far);
      within = rw c.in_ok-push.ensures.items (simp length-append (omega (arith, c.len.ensures, more.0)));
    }

pub returns : goal.returns
returns c =
    let most = length c.args.bytes.now in
    sym c.loop-rest.invariant.so_far ∙ parts_done U8 most c.len.result (most - length c.loop-rest.items.items)
    c.loop-rest.items.items c.loop-rest.rest.now (omega (arith, c.len.ensures))
    (sym c.has_more.ensures ∙ c.loop-rest-test.false)
