use Rattle.text_print.proofs.forms.write_op.Goals as goal

pub returns : goal.returns
returns g c = c.write_spaced.ensures
