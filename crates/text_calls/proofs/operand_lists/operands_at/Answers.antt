use Rattle.std.proofs.Common.{◌∙◌, ◌-◌, sym, arith, length, length-append}
use Rattle.std.proofs.lemmas.Result.{err_from_is_err_and}
use Rattle.text_calls.specs.Forms.{NumberOf}
use Rattle.text_calls.proofs.Runs.{parts_more, parts_fail, parts_done, more_is, many_some, many_none}
use Rattle.text_calls.proofs.operand_lists.operands_at.Goals as goal

pub returns-in_err-item : goal.returns-in_err-item
returns-in_err-item c =
    let p = err_from_is_err_and c.from_residual.result c.from_residual.ensures.1 in
    let m = more_is c.len.result 17 c.loop-place.rest.now (sym c.has_more.ensures ∙ c.loop-place-test.true) in
    rw (p.1, p.2) (many_none (NumberOf c.args.place) 0 17 c.args.bytes.now (sym c.loop-place.invariant.so_far
    ∙ parts_fail (NumberOf c.args.place)
    (17 - length c.loop-place.items.items) c.loop-place.items.items c.loop-place.rest.now (omega
    (arith, c.len.ensures, m.0)) m.1 c.in_err-item.ensures))

pub loop-place-preserved : goal.loop-place-preserved
loop-place-preserved c =
    let m = more_is c.len.result 17 c.loop-place.rest.now (sym c.has_more.ensures ∙ c.loop-place-test.true) in
    record {
      so_far = rw c.in_ok-push.ensures.items (sym (parts_more (NumberOf c.args.place)
          (17 - length c.loop-place.items.items) _ c.loop-place.items.items c.in_ok-item.item c.loop-place.rest.now
          c.in_ok-item.after.now (simp length-append (omega (arith, c.len.ensures, m.0))) m.1 c.in_ok-item.ensures)
          ∙ c.loop-place.invariant.so_far);
      within = rw c.in_ok-push.ensures.items (simp length-append (omega (arith, c.len.ensures, m.0)));
    }

pub returns : goal.returns
returns c =
    many_some (NumberOf c.args.place) 0 17 c.args.bytes.now c.loop-place.rest.now c.loop-place.items.items (omega arith)
    (sym c.loop-place.invariant.so_far ∙ parts_done (NumberOf c.args.place) 17 c.len.result
    (17 - length c.loop-place.items.items) c.loop-place.items.items c.loop-place.rest.now (omega
    (arith, c.len.ensures)) (sym c.has_more.ensures ∙ c.loop-place-test.false))
