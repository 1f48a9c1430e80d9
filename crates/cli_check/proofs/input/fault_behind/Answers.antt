-- The lines before the output, and the bad line in it.
use Rattle.std.proofs.Common.{arith}
use Rattle.cli_check.proofs.input.fault_behind.Goals as goal

pub overflow_cast-result : goal.overflow_cast-result
overflow_cast-result c = omega (arith, c.lines_in.ensures.few, c.requires.few)

pub overflow_add-result : goal.overflow_add-result
overflow_add-result c =
    let near = rw c.in-Bad.is at c.requires.near in
    omega (arith, near, c.lines_in.ensures.few, c.requires.few)

pub returns-in-Bad : goal.returns-in-Bad
returns-in-Bad c = rw (c.in-Bad.is, c.lines_in.ensures.is)

pub returns-in-NoMemory : goal.returns-in-NoMemory
returns-in-NoMemory c = rw c.in-NoMemory.is
