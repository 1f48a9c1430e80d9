use Rattle.text_print.proofs.head.write_atomics.Goals as goal

pub returns : goal.returns
returns g c = rw c.if-not-atomics.false c.write_bare.ensures
