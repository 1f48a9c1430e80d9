use Rattle.std.proofs.Common.{◌<◌, ◌∙◌, arith}
use Rattle.node_collectives.proofs.Reducing.{folded_first, folded_on}
use Rattle.node_collectives.proofs.collectives.Collectives.word_of_all.Goals as goal

pub loop-node-init : goal.loop-node-init
loop-node-init c =
    let it = c.args.self.now in
    let low : 0 < it.area.nodes = omega (arith, c.nodes-nodes.ensures.nodes, c.nodes-nodes.ensures.some) in
    folded_first it c.args.bytes.now c.args.place c.data_word-all.result low c.data_word-all.ensures

pub loop-node-preserved : goal.loop-node-preserved
loop-node-preserved c =
    let it = c.args.self.now in
    let low : c.loop-node.node < it.area.nodes = omega (arith, c.nodes-nodes.ensures.nodes) in
    c.loop-node.invariant
    ∙ folded_on it c.args.bytes.now c.args.place c.loop-node.node c.loop-node.all c.data_word.result
    c.combine-all.result low c.data_word.ensures c.combine-all.ensures
