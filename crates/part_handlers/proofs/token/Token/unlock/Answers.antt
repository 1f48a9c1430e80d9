-- No thread comes to hold a lock that the handler may take.
use Rattle.part_handlers.proofs.Locked.{unblocked-after_unlock}
use Rattle.part_handlers.proofs.token.Token.unlock.Goals as goal

pub returns-in-Freed-clause-ready : goal.returns-in-Freed-clause-ready
returns-in-Freed-clause-ready c =
    record {
      ready = c.requires.ready;
      unblocked = unblocked-after_unlock c.args.self.now.locks.now c.unlock-answer.new.self c.args.lock
          c.args.self.now.listed c.requires.unblocked c.unlock-answer.ensures.locks;
    }
