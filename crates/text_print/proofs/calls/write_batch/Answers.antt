use Rattle.text_print.proofs.calls.write_batch.Goals as goal

pub returns : goal.returns
returns g c =
    rw (c.to.ensures, c.local.ensures, c.tag.ensures, c.ops.ensures) at c.write_form.ensures
