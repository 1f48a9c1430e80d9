-- An entry whose bytes are refused, or a copy of another one.
use Rattle.std.proofs.Common.{sym, ◌∙◌}
use Rattle.cli_check.proofs.Rejected.{entry_kept, entry_refused, ok_same}
use Rattle.cli_check.proofs.rejecting.accepted_entry.Goals as goal

pub returns-then-refuses_got : goal.returns-then-refuses_got
returns-then-refuses_got c = λ job rank at.
    entry_refused job rank c.args.item.now (sym (c.refuses_got.ensures job rank at) ∙ c.if-refuses_got.true)

pub returns : goal.returns
returns c = λ job rank at.
    ok_same c.copy_of.result c.copy_of.ensures
    (entry_kept job rank c.args.item.now (sym (c.refuses_got.ensures job rank at) ∙ c.if-refuses_got.false))
