use Rattle.std.proofs.Common.{◌∙◌, refl, sym, ap, List, false}
use Rattle.text_job.specs.Places.{AtScripts, section_form}
use Rattle.text_job.specs.JobReading.{behind_section, section_why}
use Rattle.text_job.specs.declared.job.NodeScript.{NodeScript}
use Rattle.text_job.proofs.HandlerRuns.{told_by, reason_by, there_among}
use Rattle.text_job.proofs.LineRuns.{read_on, read_full, line_bad, line_takes}
use Rattle.text_job.proofs.script_lines.next_section.Goals as goal

pub returns-in-Err-clause-value : goal.returns-in-Err-clause-value
returns-in-Err-clause-value c = λ job same before.
    let none = rw (c.nodes.ensures.nodes, c.threads.ensures) at c.in-Err.ensures in
    told_by _ c.args.line _ c.reason_of-why.result (line_bad AtScripts tt job c.args.line c.args.bytes.now
    (rw same none))
    (reason_by section_form c.args.bytes.now c.section_form.result c.reason_of-why.result c.section_form.ensures
    c.reason_of-why.ensures)

pub returns-in-Some-clause-value : goal.returns-in-Some-clause-value
returns-in-Some-clause-value c = λ job same before.
    let found = rw (c.nodes.ensures.nodes, c.threads.ensures) at c.in-Ok.ensures in
    let why = ap (λ (scripts : List NodeScript). section_why scripts c.in-Ok.read.0) before ∙ sym c.why_not.ensures
    ∙ c.in-Some.is in
    read_full AtScripts job c.args.line c.args.bytes.now c.in-Ok.read.1.now c.in-Ok.read.0 c.in-Some.why (rw same found)
    (rw why refl)

pub returns-in-None-clause-value : goal.returns-in-None-clause-value
returns-in-None-clause-value c = λ job same before.
    let found = rw (c.nodes.ensures.nodes, c.threads.ensures) at c.in-Ok.ensures in
    let why = ap (λ (scripts : List NodeScript). section_why scripts c.in-Ok.read.0) before ∙ sym c.why_not.ensures
    ∙ c.in-None.is in
    read_on AtScripts job c.args.line c.args.bytes.now c.in-Ok.read.1.now c.in-Ok.read.0
    (behind_section job c.in-Ok.read.0) (rw same found) (rw why refl)

pub returns-in-None-clause-there : goal.returns-in-None-clause-there
returns-in-None-clause-there c =
    let found = rw (c.nodes.ensures.nodes, c.threads.ensures) at c.in-Ok.ensures in
    let settings = c.args.settings.now in
    let said = (line_takes AtScripts (record { settings = settings; atomics = false; collect = false }) c.args.bytes.now).so (c.in-Ok.read.0, c.in-Ok.read.1.now) found in
    there_among settings.nodes settings.threads c.in-Ok.read.0 said.1.1 c.nodes.ensures.range.nodes
    c.nodes.ensures.range.threads

pub returns-in-None-clause-new : goal.returns-in-None-clause-new
returns-in-None-clause-new c = sym c.why_not.ensures ∙ c.in-None.is
