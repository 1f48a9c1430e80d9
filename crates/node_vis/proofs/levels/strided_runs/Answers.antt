use Rattle.std.proofs.Common.{◌∙◌, arith}
use Rattle.std.proofs.lemmas.Result.{err_from_is_err_and}
use Rattle.node_vis.specs.Pairs.{level_pairs}
use Rattle.node_vis.proofs.Planning.{few_values, from_none, full_from_none, no_pieces}
use Rattle.node_vis.proofs.levels.strided_runs.Goals as goal
use Rattle.node_vis.proofs.levels.strided_runs.Goals.{then-vectors-gt0+in_ok-add_levels, else-vectors-gt0}

pub add_levels-requires-clause-few : goal.add_levels-requires-clause-few
add_levels-requires-clause-few c =
    few_values c.args.levels.now c.args.vectors c.requires.vectors c.requires.few c.if-vectors-gt0.true

pub returns-in_err-add_levels : goal.returns-in_err-add_levels
returns-in_err-add_levels c =
    let failed = err_from_is_err_and c.from_residual.result c.from_residual.ensures.1 in
    rw (failed.1, failed.2) (full_from_none c.new-runs.result
    (level_pairs c.args.levels.now c.args.first.remote c.args.first.local c.args.first.len)
    c.in_err-add_levels.field-0.0 c.new-runs.ensures c.in_err-add_levels.ensures)

pub returns : goal.returns
returns c = elim c.if-vectors-gt0.branch [
  | then-vectors-gt0+in_ok-add_levels w ↦ (w.runs-is
      ∙ from_none c.new-runs.result w.add_levels.new.runs
      (level_pairs c.args.levels.now c.args.first.remote c.args.first.local c.args.first.len) c.new-runs.ensures
      w.in_ok-add_levels.ensures)
  | else-vectors-gt0 w ↦
      no_pieces c.args.levels.now c.args.first.remote c.args.first.local c.args.first.len c.if-vectors-gt0.runs
      (w.runs-is ∙ c.new-runs.ensures) (omega arith)
]
