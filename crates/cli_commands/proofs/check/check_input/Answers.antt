use Rattle.std.proofs.Common.{length, arith, ap, ◌∙◌}
use Rattle.cli_commands.proofs.CheckCommand.{check_told, child_told}
use Rattle.cli_commands.proofs.check.check_input.Goals as goal

-- there are at most 256 nodes
pub first_failed-requires : goal.first_failed-requires
first_failed-requires g c =
    let count = ap length c.deref.ensures.value ∙ c.requires.count in
    let few = c.requires.job.settings.nodes in
    omega arith

pub check_outputs-requires : goal.check_outputs-requires
check_outputs-requires g c =
    record { job = c.requires.job; count = c.requires.count; traces = c.requires.traces }

pub returns-in-Some : goal.returns-in-Some
returns-in-Some g c = λ reading read.
    let says = rw c.nothing.ensures at c.say.ensures in
    let failed = rw c.deref.ensures.value at c.in-Some.ensures in
    child_told reading c.args.input.job c.args.input.outputs.items c.in-Some.failed.rank c.in-Some.failed.code _ _
    c.say.result read failed says

pub returns-in-None : goal.returns-in-None
returns-in-None g c = λ reading read.
    let over = rw c.deref.ensures.value at c.in-None.ensures in
    check_told reading c.args.input.job c.args.input.outputs.items _ _ c.check_outputs.result read over
    c.check_outputs.ensures
