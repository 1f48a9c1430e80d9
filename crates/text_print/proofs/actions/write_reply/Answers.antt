use Rattle.text_print.proofs.actions.write_reply.Goals as goal

pub returns-in-Short : goal.returns-in-Short
returns-in-Short g c = rw c.in-Short.is c.write_form.ensures

pub returns-in-Medium : goal.returns-in-Medium
returns-in-Medium g c = rw c.in-Medium.is c.write_form-in-Medium.ensures

pub returns-in-Long : goal.returns-in-Long
returns-in-Long g c = rw c.in-Long.is c.write_form-in-Long.ensures
