use Rattle.std.proofs.Common.{arith, refl, sym, ◌∙◌}
use Rattle.cli_launch.specs.Children.{end_of_child}
use Rattle.cli_launch.proofs.Gave.{ended_apart, ended_high, gave_more, gave_none, gave_output, same_wanted}
use Rattle.cli_launch.proofs.outputs.read_child.Goals as goal
use Rattle.cli_launch.proofs.outputs.read_child.Goals.{then-len-via-then-len, then-len-via-else-len+then-code-gt1}
use Rattle.cli_launch.proofs.outputs.read_child.Goals.{then-len-via-else-len+else-code-gt1+then-code}

pub returns-then-len-clause-given : goal.returns-then-len-clause-given
returns-then-len-clause-given c =
    let job = c.args.job.now in
    let end = end_of_child c.args.child.now in
    let is = same_wanted job end.rank _ _ _ c.version.ensures.version c.threads.ensures c.job.ensures in
    let only = rw c.deref.ensures.value at c.in-Ok.ensures.only in
    elim c.then-len.branch [
      | then-len-via-then-len w ↦ (
        refl,
        gave_more job end _ c.args.code c.in-Ok.output c.in-Ok.len is c.requires.ended only
            (omega (arith, w.if-len.true, c.len.ensures, c.args.child.now.output.ok.0)),
      )
      | then-len-via-else-len+then-code-gt1 w ↦ (
        refl,
        ended_high job end _ c.args.code c.in-Ok.output c.in-Ok.len is c.requires.ended only w.if-code-gt1.true,
      )
      | then-len-via-else-len+else-code-gt1+then-code w ↦ (
        refl,
        ended_apart job end _ c.args.code c.in-Ok.output c.in-Ok.len is c.requires.ended only
            (λ same. w.if-code.true (w.code.ensures ∙ same)),
      )
    ]

pub returns-in-Err-Bad-clause-given : goal.returns-in-Err-Bad-clause-given
returns-in-Err-Bad-clause-given c =
    let job = c.args.job.now in
    let end = end_of_child c.args.child.now in
    let is = same_wanted job end.rank _ _ _ c.version.ensures.version c.threads.ensures c.job.ensures in
    let only = rw (c.deref.ensures.value, c.in-Err-Bad.field-0-is) at c.in-Err-Bad.ensures.only in
    (refl, gave_none job end _ c.args.code c.in-Err-Bad.field-0-0 c.in-Err-Bad.field-0-1 is c.requires.ended only)

pub returns-else-code-clause-given : goal.returns-else-code-clause-given
returns-else-code-clause-given c =
    let job = c.args.job.now in
    let end = end_of_child c.args.child.now in
    let is = same_wanted job end.rank _ _ _ c.version.ensures.version c.threads.ensures c.job.ensures in
    let begins = rw c.deref.ensures.value at c.in-Ok.ensures.found in
    gave_output job end _ c.args.code c.in-Ok.output c.in-Ok.len is c.requires.ended begins
    (omega (arith, c.if-len.false, c.len.ensures, c.args.child.now.output.ok.0)) c.if-code-gt1.false
    (sym c.code.ensures ∙ c.if-code.false)
