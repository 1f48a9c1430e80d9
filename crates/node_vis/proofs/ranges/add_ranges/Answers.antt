use Rattle.std.proofs.Common.{arith}
use Rattle.std.proofs.lemmas.Result.{err_from_is_err_and}
use Rattle.node_vis.specs.Pairs.{range_pairs}
use Rattle.node_vis.proofs.LevelPairs.{adds_run, full_run}
use Rattle.node_vis.proofs.RangePairs.{walked_near, walks_full, walks_run}
use Rattle.node_vis.proofs.ranges.add_ranges.Goals as goal

pub returns-in_default-split_first : goal.returns-in_default-split_first
returns-in_default-split_first c =
    walked_near c.args.runs.now (range_pairs c.args.remote.now c.args.local.now) c.loop-far.far.first c.loop-far.far.len
    c.loop-far.remotes.now c.loop-far.near.first c.loop-far.near.len c.loop-far.locals.now c.loop-far.runs
    c.loop-far.invariant.1 c.if-near-eq0.true c.in_default-split_first.ensures.cases

pub returns-in_err-add : goal.returns-in_err-add
returns-in_err-add c =
    let failed = err_from_is_err_and c.from_residual.result c.from_residual.ensures.1 in
    rw (failed.1, failed.2) (walks_full c.args.runs.now (range_pairs c.args.remote.now c.args.local.now)
    c.loop-far.far.first c.loop-far.far.len c.loop-far.remotes.now c.loop-far.near.first c.loop-far.near.len
    c.loop-far.locals.now c.loop-far.runs c.min-len.result c.in_err-add.field-0.0 c.loop-far.invariant.1
    (omega arith) (omega arith)
    (full_run c.loop-far.runs
    (record { remote = c.loop-far.far.first; local = c.loop-far.near.first; len = c.min-len.result })
    c.in_err-add.field-0.0 c.in_err-add.ensures.full))

pub loop-far-preserved : goal.loop-far-preserved
loop-far-preserved c = (
  record { far_end = omega arith; near_end = omega arith },
  walks_run c.args.runs.now (range_pairs c.args.remote.now c.args.local.now) c.loop-far.far.first
      c.loop-far.far.len c.loop-far.remotes.now c.loop-far.near.first c.loop-far.near.len c.loop-far.locals.now
      c.loop-far.runs c.add.new.self c.min-len.result c.loop-far.invariant.1 (omega arith) (omega arith)
      (adds_run c.loop-far.runs c.add.new.self
      (record { remote = c.loop-far.far.first; local = c.loop-far.near.first; len = c.min-len.result })
      c.in_ok-add.ensures.added),
)
