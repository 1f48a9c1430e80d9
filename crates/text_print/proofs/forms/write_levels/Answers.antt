use Rattle.base_io.proofs.Outboxes.{past_done, past_fault}
use Rattle.text_calls.specs.Forms.{Strides, bundle_text}
use Rattle.text_print.proofs.Pieces.{next_text}
use Rattle.text_print.proofs.forms.write_levels.Goals as goal

pub returns-in-Fault : goal.returns-in-Fault
returns-in-Fault g c =
    past_fault _ _ _ _ _ _ _
    (next_text (bundle_text Strides) c.args.levels.now c.loop-level.level-index _ c.loop-level-test.true)
    c.loop-level.invariant c.in-Fault.ensures

pub loop-level-preserved : goal.loop-level-preserved
loop-level-preserved g c =
    past_done _ _ _ _ _ _ _
    (next_text (bundle_text Strides) c.args.levels.now c.loop-level.level-index _ c.loop-level-test.true)
    c.loop-level.invariant c.in_default.ensures
