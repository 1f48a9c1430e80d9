use Rattle.base_io.proofs.Outboxes.{past_done, past_fault}
use Rattle.text_calls.specs.Forms.{Spans, bundle_text}
use Rattle.text_print.proofs.Pieces.{next_text}
use Rattle.text_print.proofs.forms.write_ranges.Goals as goal

pub returns-in-Fault : goal.returns-in-Fault
returns-in-Fault g c =
    past_fault _ _ _ _ _ _ _
    (next_text (bundle_text Spans) c.args.ranges.now c.loop-range.range-index _ c.loop-range-test.true)
    c.loop-range.invariant c.in-Fault.ensures

pub loop-range-preserved : goal.loop-range-preserved
loop-range-preserved g c =
    past_done _ _ _ _ _ _ _
    (next_text (bundle_text Spans) c.args.ranges.now c.loop-range.range-index _ c.loop-range-test.true)
    c.loop-range.invariant c.in_default.ensures
