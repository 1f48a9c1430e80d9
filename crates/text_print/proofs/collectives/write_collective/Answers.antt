use Rattle.text_print.proofs.collectives.write_collective.Goals as goal

pub returns-in-Start : goal.returns-in-Start
returns-in-Start g c = rw c.in-Start.is c.write.ensures

pub returns-in-Step : goal.returns-in-Step
returns-in-Step g c = rw c.in-Step.is c.write-in-Step.ensures

pub returns-in-Try : goal.returns-in-Try
returns-in-Try g c = rw c.in-Try.is c.write-in-Try.ensures
