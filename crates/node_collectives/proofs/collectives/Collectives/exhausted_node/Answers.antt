use Rattle.std.proofs.Common.{◌≡◌, ◌-◌, ◌<◌, ap, sym, ◌∙◌, arith}
use Rattle.node_collectives.specs.CollectivesState.{progress_of}
use Rattle.node_collectives.specs.Progress.{first_node, has_exhausted}
use Rattle.node_collectives.proofs.Searching.{first_here, first_none, first_on, from_first}
use Rattle.node_collectives.proofs.collectives.Collectives.exhausted_node.Goals as goal

pub loop-node-init : goal.loop-node-init
loop-node-init c =
    let it = c.args.self.now in
    ap (first_node (has_exhausted it.me (progress_of it)) 0) (from_first it.area.nodes)

pub returns-then-has_exhausted : goal.returns-then-has_exhausted
returns-then-has_exhausted c =
    let it = c.args.self.now in
    let low : c.loop-node.node < it.area.nodes = omega (arith, c.nodes-node-end.ensures.nodes) in
    sym (c.loop-node.invariant
    ∙ first_here (has_exhausted it.me (progress_of it)) c.loop-node.node it.area.nodes low
    (sym c.has_exhausted.ensures ∙ c.if-has_exhausted.true))

pub loop-node-preserved : goal.loop-node-preserved
loop-node-preserved c =
    let it = c.args.self.now in
    let low : c.loop-node.node < it.area.nodes = omega (arith, c.nodes-node-end.ensures.nodes) in
    c.loop-node.invariant
    ∙ first_on (has_exhausted it.me (progress_of it)) c.loop-node.node it.area.nodes low
    (sym c.has_exhausted.ensures ∙ c.if-has_exhausted.false)

pub returns : goal.returns
returns c =
    let it = c.args.self.now in
    let none : it.area.nodes - c.loop-node.node ≡ 0 = omega (arith, c.nodes-node-end.ensures.nodes) in
    sym (c.loop-node.invariant
    ∙ first_none (has_exhausted it.me (progress_of it)) c.loop-node.node it.area.nodes none)
