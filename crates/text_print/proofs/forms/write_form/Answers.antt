use Rattle.text_print.proofs.forms.write_form.Goals as goal

pub returns : goal.returns
returns g c = rw c.name.ensures at c.write_named_form.ensures
