-- A trace in which nothing is refused, and another one.
use Rattle.std.proofs.Common.{List, sym, ap, ◌∙◌}
use Rattle.base_turns.specs.declared.entry.Entry.{Entry}
use Rattle.cli_check.specs.Rejected.{accepted_entries}
use Rattle.cli_check.proofs.Rejected.{untouched}
use Rattle.cli_check.proofs.rejecting.accepted_trace.Goals as goal

pub returns-then-turns-eq0 : goal.returns-then-turns-eq0
returns-then-turns-eq0 g c = λ job rank at.
    ap (λ (entries : List Entry). record c.args.trace { entries = entries })
    (untouched job rank c.args.trace.entries c.as_slice.result.now c.as_slice.ensures
    (sym (c.refused_turns-turns.ensures job rank at) ∙ c.if-turns-eq0.true))

pub returns : goal.returns
returns g c = λ job rank at.
    ap (λ (entries : List Entry). record c.args.trace { entries = entries })
    (c.in_ok-entries.ensures job rank at ∙ ap (accepted_entries job rank) c.as_slice-2.ensures)
