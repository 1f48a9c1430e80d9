use Rattle.std.proofs.Common.{◌<◌}
use Rattle.std.proofs.lemmas.Result.{err_from_is_err_and}
use Rattle.node_vis.proofs.LevelPairs.{adds_all, adds_at, adds_index, adds_none, full_at, full_index, only_run}
use Rattle.node_vis.proofs.levels.+add_levels.Goals as goal

pub returns-in_default : goal.returns-in_default
returns-in_default t c =
    only_run c.add.result c.args.runs.now c.add.new.self c.args.levels.now c.args.first c.in_default.ensures.cases
    c.add.ensures.added c.add.ensures.full

pub loop-index-init : goal.loop-index-init
loop-index-init t c = adds_none c.args.runs.now

pub returns-in_err-add_levels : goal.returns-in_err-add_levels
returns-in_err-add_levels t c =
    let failed = err_from_is_err_and c.from_residual.result c.from_residual.ensures.1 in
    let here : c.loop-index.index < c.in-Some.level.now.count = c.loop-index-test.true in
    rw (failed.1, failed.2) (full_index c.args.runs.now c.loop-index.runs c.args.levels.now c.in-Some.level.now
    c.in-Some.deeper.now c.args.first.remote c.args.first.local c.args.first.len c.loop-index.index
    c.in_err-add_levels.field-0.0 c.in-Some.ensures.cases.0 here c.loop-index.invariant
    (full_at c.loop-index.runs c.in-Some.level.now c.in-Some.deeper.now
    c.args.first.remote c.args.first.local c.args.first.len c.loop-index.index c.from.result
    c.from-in-loop-index.result c.from-in-loop-index-2.result c.from-in-loop-index-3.result
    c.in_err-add_levels.field-0.0 c.from.ensures c.from-in-loop-index.ensures c.from-in-loop-index-2.ensures
    c.from-in-loop-index-3.ensures c.in_err-add_levels.ensures))

pub loop-index-preserved : goal.loop-index-preserved
loop-index-preserved t c =
    adds_index c.args.runs.now c.loop-index.runs c.add_levels.new.runs c.in-Some.level.now c.in-Some.deeper.now
    c.args.first.remote c.args.first.local c.args.first.len c.loop-index.index c.loop-index.invariant
    (adds_at c.loop-index.runs c.add_levels.new.runs c.in-Some.level.now c.in-Some.deeper.now
    c.args.first.remote c.args.first.local c.args.first.len c.loop-index.index c.from.result
    c.from-in-loop-index.result c.from-in-loop-index-2.result c.from-in-loop-index-3.result c.from.ensures
    c.from-in-loop-index.ensures c.from-in-loop-index-2.ensures c.from-in-loop-index-3.ensures
    c.in_ok-add_levels.ensures)

pub returns : goal.returns
returns t c =
    adds_all c.args.runs.now c.loop-index.runs c.args.levels.now c.in-Some.level.now c.in-Some.deeper.now
    c.args.first.remote c.args.first.local c.args.first.len c.loop-index.index c.in-Some.ensures.cases.0 c.loop-index-test.false
    c.loop-index.auto.index-end c.loop-index.invariant
