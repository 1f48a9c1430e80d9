use Rattle.sim_run.proofs.violations.write_violation.Goals as goal

pub returns-in-Thread : goal.returns-in-Thread
returns-in-Thread g c = rw c.in-Thread.is (rw c.fault_word-what.ensures at c.write_thread.ensures)

pub returns-in-RequestHandler : goal.returns-in-RequestHandler
returns-in-RequestHandler g c =
    rw c.in-RequestHandler.is (rw c.fault_word-what.ensures at c.write_handler.ensures)

pub returns-in-ReplyHandler : goal.returns-in-ReplyHandler
returns-in-ReplyHandler g c =
    rw c.in-ReplyHandler.is (rw c.fault_word-what.ensures at c.write_handler-in-ReplyHandler.ensures)
