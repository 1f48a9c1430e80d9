-- The first node that failed, or none.
use Rattle.std.proofs.Common.{refl, sym, ◌∙◌, length}
use Rattle.std.proofs.lemmas.Option.{slice_get_read}
use Rattle.cli_check.proofs.Ends.{over_all, over_more}
use Rattle.cli_check.proofs.checks.first_failed.Goals as goal

pub returns-then-not-is_over : goal.returns-then-not-is_over
returns-then-not-is_over c = record {
  output = c.index-outputs-rank.result;
  at = slice_get_read c.args.outputs.now (length c.args.outputs.now) c.loop-rank.rank c.index-outputs-rank.result refl
      c.loop-rank-test.true c.index-outputs-rank.is;
  failed = sym c.is_over.ensures ∙ c.if-not-is_over.true;
  code_is = c.code.ensures;
  first = λ other low one at. c.loop-rank.invariant.over other low one at;
}

pub loop-rank-preserved : goal.loop-rank-preserved
loop-rank-preserved c = record {
  over =
      over_more c.args.outputs.now c.loop-rank.rank c.index-outputs-rank.result
      (slice_get_read c.args.outputs.now (length c.args.outputs.now) c.loop-rank.rank c.index-outputs-rank.result refl
      c.loop-rank-test.true c.index-outputs-rank.is)
      (sym c.is_over.ensures ∙ c.if-not-is_over.false) c.loop-rank.invariant.over;
}

pub returns : goal.returns
returns c = over_all c.args.outputs.now c.loop-rank.rank c.loop-rank-test.false c.loop-rank.invariant.over
