-- One entry more, and all of them.
use Rattle.std.proofs.Common.{ap, ◌∙◌, arith, take_all}
use Rattle.cli_check.specs.Rejected.{accepted_entries}
use Rattle.cli_check.proofs.Rejected.{entries_more}
use Rattle.cli_check.proofs.rejecting.accepted_entries.Goals as goal

pub loop-entry-init : goal.loop-entry-init
loop-entry-init c = record { made = λ job rank at. c.in_ok-accepted.ensures.items }

pub loop-entry-preserved : goal.loop-entry-preserved
loop-entry-preserved c = record {
  made = λ job rank at.
      c.in_ok-push.ensures.items
      ∙ entries_more job rank c.args.entries.now c.loop-entry.entry-index c.entry-item.result c.loop-entry-test.true
      c.entry-item.is c.loop-entry.accepted.items c.in_ok-accepted_entry.field-0
      (c.loop-entry.invariant.made job rank at) (c.in_ok-accepted_entry.ensures job rank at);
}

pub returns : goal.returns
returns c = λ job rank at.
    c.of.ensures ∙ c.loop-entry.invariant.made job rank at
    ∙ ap (accepted_entries job rank)
    (take_all c.loop-entry.entry-index c.args.entries.now (omega (arith, c.loop-entry-test.false)))
