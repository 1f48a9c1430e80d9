use Rattle.base_io.proofs.Outboxes.{past_done, past_fault}
use Rattle.text_calls.specs.Forms.{Operations, bundle_text}
use Rattle.text_print.proofs.Pieces.{next_text}
use Rattle.text_print.proofs.forms.write_ops.Goals as goal

pub returns-in-Fault : goal.returns-in-Fault
returns-in-Fault g c =
    past_fault _ _ _ _ _ _ _
    (next_text (bundle_text Operations) c.args.ops.now c.loop-op.op-index _ c.loop-op-test.true)
    c.loop-op.invariant c.in-Fault.ensures

pub loop-op-preserved : goal.loop-op-preserved
loop-op-preserved g c =
    past_done _ _ _ _ _ _ _
    (next_text (bundle_text Operations) c.args.ops.now c.loop-op.op-index _ c.loop-op-test.true)
    c.loop-op.invariant c.in_default.ensures
