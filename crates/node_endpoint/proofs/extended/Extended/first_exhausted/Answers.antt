use Rattle.std.proofs.Common.{◌-◌, suc, sym, ◌∙◌, arith}
use Rattle.std.specs.Prelude.{◌&&◌}
use Rattle.std.proofs.lemmas.Bool.{and_from, and_left, and_right}
use Rattle.spec_node.specs.Step.{is_exhausted}
use Rattle.part_barrier.specs.Record.{owes}
use Rattle.node_endpoint.proofs.Barriers.{first_here, first_none}
use Rattle.node_endpoint.proofs.extended.Extended.first_exhausted.Goals as goal
use Rattle.node_endpoint.proofs.extended.Extended.first_exhausted.Goals.{else-has_exhausted-via-then-has_exhausted+else-owes}
use Rattle.node_endpoint.proofs.extended.Extended.first_exhausted.Goals.{else-has_exhausted-via-else-has_exhausted}

pub returns-then-owes : goal.returns-then-owes
returns-then-owes c thread node S =
    let core = c.args.core.now in
    let at = c.loop-node.node in
    let rest = core.settings.nodes - at - 1 in
    sym (c.loop-node.invariant node S (suc rest) (omega (arith, c.loop-node-test.true, c.requires.nodes))
    ∙ first_here (λ to. is_exhausted core.settings node to && owes core.settings.nodes core.me node.local.barrier to)
    at rest
    (and_from _ _ (sym (c.has_exhausted.ensures node S) ∙ c.if-has_exhausted.true)
    (sym (c.owes.ensures core.settings.nodes core.me node.local.barrier S.barrier) ∙ c.if-owes.true)))

pub returns : goal.returns
returns c thread node S =
    sym (c.loop-node.invariant node S 0
    (omega (arith, c.loop-node-test.false, c.loop-node.auto.node-end, c.requires.nodes)))

pub loop-node-preserved : goal.loop-node-preserved
loop-node-preserved c node S rest e =
    let core = c.args.core.now in
    let at = c.loop-node.node in
    c.loop-node.invariant node S (suc rest) (omega (arith, e))
    ∙ first_none (λ to. is_exhausted core.settings node to && owes core.settings.nodes core.me node.local.barrier to)
    at rest (elim c.else-has_exhausted.branch [
      | else-has_exhausted-via-then-has_exhausted+else-owes w ↦
          and_right _ _ (sym (w.owes.ensures core.settings.nodes core.me node.local.barrier S.barrier)
          ∙ w.if-owes.false)
      | else-has_exhausted-via-else-has_exhausted w ↦
          and_left _ _ (sym (c.has_exhausted.ensures node S) ∙ w.if-has_exhausted.false)
    ])
