use Rattle.std.proofs.Common.{sym, ◌∙◌}
use Rattle.node_vis.proofs.Counting.{many_here, many_then}
use Rattle.node_vis.proofs.levels.few_vectors.Goals as goal

pub returns-then-level-gt-MOST_VECTORS-clause-vectors : goal.returns-then-level-gt-MOST_VECTORS-clause-vectors
returns-then-level-gt-MOST_VECTORS-clause-vectors c =
    many_here c.args.levels.now c.loop-level.level-index c.loop-level.vectors _ c.loop-level-test.true
    c.loop-level.invariant.0 (sym c.has_none.ensures ∙ c.if-has_none.false) c.if-level-gt-MOST_VECTORS.true

pub returns-then-vectors-gt-MOST_VECTORS-clause-vectors : goal.returns-then-vectors-gt-MOST_VECTORS-clause-vectors
returns-then-vectors-gt-MOST_VECTORS-clause-vectors c =
    many_then c.args.levels.now c.loop-level.level-index c.loop-level.vectors _ c.loop-level-test.true
    c.loop-level.invariant.0 (sym c.has_none.ensures ∙ c.if-has_none.false) c.if-vectors-gt-MOST_VECTORS.true
