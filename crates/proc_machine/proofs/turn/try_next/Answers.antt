-- The try of the next step.
use Rattle.proc_machine.proofs.Scripting.{next_from, none_from}
use Rattle.proc_machine.proofs.turn.try_next.Goals as goal

pub returns-in-Some : goal.returns-in-Some
returns-in-Some g c = record {
  tries = next_from (g.H.Handlers.meaning c.args.handlers.now)
      (record { endpoint = c.args.endpoint.now; collectives = c.args.collectives.now })
      (record { endpoint = c.attempt.new.endpoint; collectives = c.attempt.new.collectives }) _ c.attempt.result
      c.args.cursor.now.left.now c.in-Some.ensures.value c.attempt.ensures.tries;
  there = c.attempt.ensures.there;
}

pub returns-in-None : goal.returns-in-None
returns-in-None g c = record {
  tries = none_from (g.H.Handlers.meaning c.args.handlers.now)
      (record { endpoint = c.args.endpoint.now; collectives = c.args.collectives.now }) c.args.turn.now
      c.args.turn.thread c.args.cursor.now.left.now c.args.cursor.now.began c.in-None.ensures.value;
  there = c.requires.there;
}
