use Rattle.part_handlers.proofs.locks.Locks.new.Goals as goal

pub invariant_of-result : goal.invariant_of-result
invariant_of-result c = rw c.new.ensures tt
