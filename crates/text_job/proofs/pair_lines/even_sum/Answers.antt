use Rattle.std.proofs.Common.{◌∙◌, sym, arith}
use Rattle.text_job.proofs.PairSums.{even_pair, lone_sum}
use Rattle.text_job.proofs.pair_lines.even_sum.Goals as goal

pub returns-then-nodes-gt1-clause-value : goal.returns-then-nodes-gt1-clause-value
returns-then-nodes-gt1-clause-value c =
    let n = c.from-nodes.ensures ∙ c.nodes.ensures.nodes in
    let k = c.from.ensures ∙ c.credits.ensures in
    rw (n, k) (sym (even_pair c.args.settings.now c.requires))

pub returns-else-nodes-gt1-clause-value : goal.returns-else-nodes-gt1-clause-value
returns-else-nodes-gt1-clause-value c =
    let n = c.from-nodes.ensures ∙ c.nodes.ensures.nodes in
    sym (lone_sum c.args.settings.now c.requires c.nodes.ensures.range.some_node (omega
    (arith, c.if-nodes-gt1.false, n)))
