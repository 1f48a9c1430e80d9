use Rattle.std.proofs.Common.{◌≡◌, ◌-◌, ◌<◌, ap, sym, ◌∙◌, arith}
use Rattle.node_collectives.specs.CollectivesState.{progress_of}
use Rattle.node_collectives.specs.Progress.{is_exchanged, is_ready_from}
use Rattle.node_collectives.proofs.Searching.{from_first, ready_all, ready_not, ready_on}
use Rattle.node_collectives.proofs.collectives.Collectives.is_ready.Goals as goal

pub loop-node-init : goal.loop-node-init
loop-node-init c =
    let it = c.args.self.now in
    ap (is_ready_from (is_exchanged it.area it.me (progress_of it) c.args.bytes.now) 0) (from_first it.area.nodes)

pub returns-then-not-is_exchanged : goal.returns-then-not-is_exchanged
returns-then-not-is_exchanged c =
    let it = c.args.self.now in
    let low : c.loop-node.node < it.area.nodes = omega (arith, c.nodes-node-end.ensures.nodes) in
    sym (c.loop-node.invariant
    ∙ ready_not (is_exchanged it.area it.me (progress_of it) c.args.bytes.now) c.loop-node.node it.area.nodes low
    (sym c.is_exchanged.ensures ∙ c.if-not-is_exchanged.true))

pub loop-node-preserved : goal.loop-node-preserved
loop-node-preserved c =
    let it = c.args.self.now in
    let low : c.loop-node.node < it.area.nodes = omega (arith, c.nodes-node-end.ensures.nodes) in
    c.loop-node.invariant
    ∙ ready_on (is_exchanged it.area it.me (progress_of it) c.args.bytes.now) c.loop-node.node it.area.nodes low
    (sym c.is_exchanged.ensures ∙ c.if-not-is_exchanged.false)

pub returns : goal.returns
returns c =
    let it = c.args.self.now in
    let none : it.area.nodes - c.loop-node.node ≡ 0 = omega (arith, c.nodes-node-end.ensures.nodes) in
    sym (c.loop-node.invariant
    ∙ ready_all (is_exchanged it.area it.me (progress_of it) c.args.bytes.now) c.loop-node.node it.area.nodes none)
