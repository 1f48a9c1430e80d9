use Rattle.std.proofs.Common.{◌∙◌, sym, ap, List}
use Rattle.text_job.specs.JobReading.{handler_why}
use Rattle.text_job.specs.declared.job.HandlerText.{HandlerText}
use Rattle.text_calls.specs.declared.scope.Scope.{Scope}
use Rattle.text_job.proofs.HandlerRuns.{told_by, room_for}
use Rattle.text_job.proofs.PairLines.{handler_read, handler_full, handler_bad}
use Rattle.text_job.proofs.handler_lines.next_header.Goals as goal

pub returns-in-Err-Unlike-clause-value : goal.returns-in-Err-Unlike-clause-value
returns-in-Err-Unlike-clause-value c = λ job flag same.
    told_by _ c.args.line _ c.header_why-why.result
    (handler_bad job c.args.line c.args.bytes.now c.requires
    (rw c.in-Err-Unlike.field-0-is at c.in-Err-Unlike.ensures)) c.header_why-why.ensures

pub returns-in-Some-clause-value : goal.returns-in-Some-clause-value
returns-in-Some-clause-value c = λ job flag same.
    handler_full job c.args.line c.args.bytes.now c.in-Ok.read.1.now c.in-Ok.read.0 c.in-Some.why c.requires
    c.in-Ok.ensures (ap (λ (scope : Scope). handler_why scope job.handlers c.in-Ok.read.0.index) flag
    ∙ ap (λ (texts : List HandlerText). handler_why c.args.scope.now texts c.in-Ok.read.0.index) same
    ∙ sym c.why_not.ensures ∙ c.in-Some.is)

pub returns-in-None-clause-value : goal.returns-in-None-clause-value
returns-in-None-clause-value c = λ job flag same.
    handler_read job c.args.line c.args.bytes.now c.in-Ok.read.1.now c.in-Ok.read.0 c.requires c.in-Ok.ensures
    (ap (λ (scope : Scope). handler_why scope job.handlers c.in-Ok.read.0.index) flag
    ∙ ap (λ (texts : List HandlerText). handler_why c.args.scope.now texts c.in-Ok.read.0.index) same ∙ sym c.why_not.ensures
    ∙ c.in-None.is)

pub returns-in-None-clause-room : goal.returns-in-None-clause-room
returns-in-None-clause-room c =
    room_for c.args.scope.now c.args.before.now c.in-Ok.read.0.index (sym c.why_not.ensures ∙ c.in-None.is)
