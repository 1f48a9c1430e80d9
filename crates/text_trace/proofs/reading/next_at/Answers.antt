use Rattle.text_trace.proofs.LineTests.{next_read}
use Rattle.text_trace.proofs.reading.next_at.Goals as goal

pub returns-in-Ok-entry_or_end-clause-value : goal.returns-in-Ok-entry_or_end-clause-value
returns-in-Ok-entry_or_end-clause-value c =
    next_read c.args.line c.args.threads c.args.bytes.now c.in-Ok.read.0.now c.in-Ok.read.1.now c.in-Ok-entry_or_end.next
    c.in-Ok.ensures.whole c.in-Ok.ensures.cut c.in-Ok-entry_or_end.ensures
