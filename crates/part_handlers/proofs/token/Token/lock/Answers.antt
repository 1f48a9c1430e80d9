-- No thread comes to hold a lock that the handler may take.
use Rattle.std.proofs.Common.{sym, ◌∙◌}
use Rattle.part_handlers.proofs.LockLaws.{never_held}
use Rattle.part_handlers.proofs.Locked.{taking, unblocked-after_lock}
use Rattle.part_handlers.proofs.token.Token.lock.Goals as goal

-- src/token.rt:177:5
pub returns-in-Taken : goal.returns-in-Taken
returns-in-Taken c =
    record {
      answer = c.lock-answer.ensures.answer;
      locked = taking c.args.self.now c.args.lock c.lock-answer.new.self
          (sym c.lock-answer.ensures.answer ∙ c.in-Taken.is) c.lock-answer.ensures.locks;
      never_held = λ held. never_held c.args.self.now.locks.now c.args.lock c.args.self.now.listed
          c.requires.unblocked (sym c.lock-answer.ensures.answer ∙ held);
      ready = record {
        ready = c.requires.ready;
        unblocked = unblocked-after_lock c.args.self.now.locks.now c.lock-answer.new.self c.args.lock
            c.args.self.now.listed c.requires.unblocked c.lock-answer.ensures.locks;
      };
    }

pub returns-in-Held-clause-never_held : goal.returns-in-Held-clause-never_held
returns-in-Held-clause-never_held c =
    λ held. never_held c.args.self.now.locks.now c.args.lock c.args.self.now.listed c.requires.unblocked
    (sym c.lock-answer.ensures.answer ∙ held)
