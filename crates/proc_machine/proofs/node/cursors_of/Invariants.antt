-- The threads so far are at the first steps of their scripts.
use Rattle.proc_machine.specs.Cursors.{progress_of_all}
use Rattle.proc_machine.specs.Openings.{AreFirst}
use Rattle.proc_machine.proofs.node.cursors_of.Given as goal

abbrev pub invariant-loop-thread : goal.invariant-loop-thread
invariant-loop-thread l = AreFirst l.job l.me l.thread (progress_of_all l.cursors.items)
