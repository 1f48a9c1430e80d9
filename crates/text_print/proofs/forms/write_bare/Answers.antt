use Rattle.std.proofs.Common.{◌∷◌, []}
use Rattle.base_io.proofs.Outboxes.{gathers_first, gathers_then}
use Rattle.text_print.proofs.forms.write_bare.Goals as goal

pub returns-in-Fault : goal.returns-in-Fault
returns-in-Fault g c =
    gathers_first _ _ (g.F.HasName.name_of c.args.form) (10 ∷ []) (rw c.name.ensures at c.in-Fault.ensures)

pub returns : goal.returns
returns g c =
    gathers_then _ _ _ (g.F.HasName.name_of c.args.form) (10 ∷ []) _ (rw c.name.ensures at c.in_default.ensures)
    c.write_all-2.ensures
