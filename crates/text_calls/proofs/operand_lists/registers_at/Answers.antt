use Rattle.std.proofs.Common.{◌≡◌, ◌∙◌, ◌-◌, ◌≤◌, ℕ, zero, suc, eqb, eqb-true, false, sym, arith, length, length-append}
use Rattle.std.proofs.lemmas.Result.{err_from_is_err_and}
use Rattle.text_calls.specs.Forms.{U8}
use Rattle.text_calls.proofs.Runs.{parts_more, parts_fail, parts_done, more_is, many_some, many_few}
use Rattle.text_calls.proofs.Runs.{many_none}
use Rattle.text_calls.proofs.operand_lists.registers_at.Goals as goal

pub returns-in_err-item : goal.returns-in_err-item
returns-in_err-item c =
    let failed = err_from_is_err_and c.from_residual.result c.from_residual.ensures.1 in
    let more = more_is c.len.result 16 c.loop-rest.rest.now (sym c.has_more.ensures ∙ c.loop-rest-test.true) in
    rw (failed.1, failed.2) (many_none U8 1 16 c.args.bytes.now (sym c.loop-rest.invariant.so_far ∙ parts_fail U8
    (16 - length c.loop-rest.items.items) c.loop-rest.items.items c.loop-rest.rest.now (omega
    (arith, c.len.ensures, more.0)) more.1 c.in_err-item.ensures))

pub loop-rest-preserved : goal.loop-rest-preserved
loop-rest-preserved c =
    let more = more_is c.len.result 16 c.loop-rest.rest.now (sym c.has_more.ensures ∙ c.loop-rest-test.true) in
    record {
      so_far = rw c.in_ok-push.ensures.items (sym (parts_more U8
          (16 - length c.loop-rest.items.items) _ c.loop-rest.items.items c.in_ok-item.item c.loop-rest.rest.now
          c.in_ok-item.after.now (simp length-append (omega (arith, c.len.ensures, more.0))) more.1
          c.in_ok-item.ensures) ∙ c.loop-rest.invariant.so_far);
      within = rw c.in_ok-push.ensures.items (simp length-append (omega (arith, c.len.ensures, more.0)));
    }

pub returns-then-is_empty : goal.returns-then-is_empty
returns-then-is_empty c =
    let none : c.loop-rest.items.len ≡ 0 =
    eqb-true c.loop-rest.items.len 0 (sym c.is_empty.ensures ∙ c.if-is_empty.true) in
    let long = c.loop-rest.items.ok.0 in
    many_few U8 1 16 c.args.bytes.now c.loop-rest.rest.now c.loop-rest.items.items (omega (arith, none, long))
    (sym c.loop-rest.invariant.so_far ∙ parts_done U8 16 c.len.result
    (16 - length c.loop-rest.items.items) c.loop-rest.items.items c.loop-rest.rest.now (omega
    (arith, c.len.ensures)) (sym c.has_more.ensures ∙ c.loop-rest-test.false))

-- what isn't nothing is something
some : (long len : ℕ) → len ≡ long → eqb len 0 ≡ false → 1 ≤ long
some zero len same is = absurd (cc)
some (suc long) len same is = omega arith

pub returns : goal.returns
returns c =
    many_some U8 1 16 c.args.bytes.now c.loop-rest.rest.now c.loop-rest.items.items
    (some (length c.loop-rest.items.items) c.loop-rest.items.len c.loop-rest.items.ok.0
    (sym c.is_empty.ensures ∙ c.if-is_empty.false))
    (sym c.loop-rest.invariant.so_far ∙ parts_done U8 16 c.len.result
    (16 - length c.loop-rest.items.items) c.loop-rest.items.items c.loop-rest.rest.now (omega
    (arith, c.len.ensures)) (sym c.has_more.ensures ∙ c.loop-rest-test.false))
