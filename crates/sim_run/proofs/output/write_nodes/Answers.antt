use Rattle.std.proofs.Common.{◌≡◌, ℕ, suc, ◌+◌, ◌-◌, ◌<◌, ◌++◌, ap, arith}
use Rattle.wire_message.specs.Parameters.{Parameters}
use Rattle.std.proofs.lemmas.List.Concat.{flat_map-append}
use Rattle.node_rules.specs.EndpointRules.{Records}
use Rattle.base_text.specs.LineTexts.{spell, line_text}
use Rattle.sim_run.specs.RunText.{lines_of_node, node_lines}
use Rattle.base_io.proofs.Outboxes.{nothing_yet, past_done, past_fault, all_gathered}
use Rattle.sim_run.proofs.output.write_nodes.Goals as goal

-- the next node's lines, and the others
next_node : (s : Parameters) (w : Records) (most : ℕ → ℕ) (node n : ℕ) → node < n
    → spell (node_lines s w most node (n - node))
    ≡ spell (lines_of_node s node (most node) (w node)) ++ spell (node_lines s w most (node + 1) (n - (node + 1)))
next_node s w most node n h =
    let left : n - node ≡ suc (n - (node + 1)) = omega arith in
    rw left (flat_map-append line_text (lines_of_node s node (most node) (w node))
    (node_lines s w most (node + 1) (n - (node + 1))))

pub loop-node-init : goal.loop-node-init
loop-node-init g c =
    let start : c.args.world.now.settings.nodes - 0 ≡ c.args.world.now.settings.nodes = omega arith in
    record { said = λ w most h. rw start (nothing_yet _ _) }

pub returns-in-Fault : goal.returns-in-Fault
returns-in-Fault g c = λ w most h.
    past_fault _ _ _ _ _ _ _
    (next_node c.args.world.now.settings w most c.loop-node.node c.args.world.now.settings.nodes (omega arith))
    (c.loop-node.invariant.said w most h) (c.in-Fault.ensures w most h)

pub loop-node-preserved : goal.loop-node-preserved
loop-node-preserved g c = record {
  said = λ w most h.
      past_done _ _ _ _ _ _ _
      (next_node c.args.world.now.settings w most c.loop-node.node c.args.world.now.settings.nodes (omega arith))
      (c.loop-node.invariant.said w most h) (c.in_default.ensures w most h);
}

pub returns : goal.returns
returns g c = λ w most h.
    let none : c.args.world.now.settings.nodes - c.loop-node.node ≡ 0 = omega arith in
    all_gathered _ _ _ _ (ap (λ k. spell (node_lines c.args.world.now.settings w most c.loop-node.node k)) none)
    (c.loop-node.invariant.said w most h)
