use Rattle.std.proofs.Common.{◌≡◌, ◌-◌, ◌<◌, ap, sym, ◌∙◌, arith}
use Rattle.node_collectives.specs.CollectivesState.{progress_of}
use Rattle.node_collectives.specs.Progress.{first_node, is_other}
use Rattle.node_collectives.proofs.Searching.{first_here, first_none, first_on, from_first}
use Rattle.node_collectives.proofs.collectives.Collectives.other_shape.Goals as goal

pub loop-node-init : goal.loop-node-init
loop-node-init c =
    let it = c.args.self.now in
    ap (first_node (is_other it.area (progress_of it) c.args.bytes.now) 0) (from_first it.area.nodes)

pub returns-then-is_other : goal.returns-then-is_other
returns-then-is_other c =
    let it = c.args.self.now in
    let low : c.loop-node.node < it.area.nodes = omega (arith, c.nodes-node-end.ensures.nodes) in
    sym (c.loop-node.invariant
    ∙ first_here (is_other it.area (progress_of it) c.args.bytes.now) c.loop-node.node it.area.nodes low
    (sym c.is_other.ensures ∙ c.if-is_other.true))

pub loop-node-preserved : goal.loop-node-preserved
loop-node-preserved c =
    let it = c.args.self.now in
    let low : c.loop-node.node < it.area.nodes = omega (arith, c.nodes-node-end.ensures.nodes) in
    c.loop-node.invariant
    ∙ first_on (is_other it.area (progress_of it) c.args.bytes.now) c.loop-node.node it.area.nodes low
    (sym c.is_other.ensures ∙ c.if-is_other.false)

pub returns : goal.returns
returns c =
    let it = c.args.self.now in
    let none : it.area.nodes - c.loop-node.node ≡ 0 = omega (arith, c.nodes-node-end.ensures.nodes) in
    sym (c.loop-node.invariant
    ∙ first_none (is_other it.area (progress_of it) c.args.bytes.now) c.loop-node.node it.area.nodes none)
