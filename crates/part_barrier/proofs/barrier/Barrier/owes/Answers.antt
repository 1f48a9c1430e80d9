use Rattle.std.proofs.Common.{ap, ◌∙◌}
use Rattle.std.specs.Prelude.{is_some}
use Rattle.part_barrier.proofs.Stepping.{now_due_is}
use Rattle.part_barrier.proofs.barrier.Barrier.owes.Goals as goal

pub returns : goal.returns
returns c = λ nodes me kept stood.
    let due = c.now_due.ensures ∙ now_due_is nodes me c.args.self.now kept c.args.to stood in
    c.is_some.ensures ∙ ap is_some due
