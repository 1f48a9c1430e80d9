use Rattle.std.proofs.lemmas.Result.{err_from_is_err_and}
use Rattle.node_vis.specs.Pairs.{range_pairs}
use Rattle.node_vis.proofs.Planning.{from_none, full_from_none}
use Rattle.node_vis.proofs.ranges.indexed_runs.Goals as goal

pub returns-in_err-add_ranges : goal.returns-in_err-add_ranges
returns-in_err-add_ranges c =
    let failed = err_from_is_err_and c.from_residual.result c.from_residual.ensures.1 in
    rw (failed.1, failed.2) (full_from_none c.new-runs.result (range_pairs c.args.remote.now c.args.local.now)
    c.in_err-add_ranges.field-0.0 c.new-runs.ensures c.in_err-add_ranges.ensures)

pub returns : goal.returns
returns c =
    from_none c.new-runs.result c.add_ranges.new.runs (range_pairs c.args.remote.now c.args.local.now)
    c.new-runs.ensures c.in_ok-add_ranges.ensures
