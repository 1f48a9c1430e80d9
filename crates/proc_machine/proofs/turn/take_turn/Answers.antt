-- A turn of a thread.
use Rattle.std.proofs.Common.{◌<◌, subst, sym, option_copied}
use Rattle.wire_message.specs.Parameters.{Parameters}
use Rattle.text_steps.specs.declared.steps.ScriptStep.{ScriptStep}
use Rattle.law_traces.specs.Actions.{Progress}
use Rattle.proc_machine.specs.Cursors.{progress_of}
use Rattle.proc_machine.specs.Kept.{CanBeSaid}
use Rattle.proc_machine.specs.Turns.{TakesTurn, TurnTaken}
use Rattle.proc_machine.specs.declared.turn.TurnDone.{TurnDone}
use Rattle.proc_steps.specs.Tries.{FoundNode}
use Rattle.proc_machine.proofs.Turning.{still_there, turn_goes}
use Rattle.proc_machine.proofs.turn.take_turn.Goals as goal

pub try_next-tried-requires-clause-thread : goal.try_next-tried-requires-clause-thread
try_next-tried-requires-clause-thread g c =
    subst (λ (settings : Parameters). c.args.turn.thread < settings.threads)
    (sym c.before_try-outgoing.ensures.happen.same.settings) c.requires.thread

pub try_next-tried-requires-clause-said : goal.try_next-tried-requires-clause-said
try_next-tried-requires-clause-said g c =
    subst (λ (settings : Parameters). CanBeSaid settings (progress_of c.args.cursor.now))
    (sym c.before_try-outgoing.ensures.happen.same.settings) c.requires.said

pub try_next-tried-requires-clause-there : goal.try_next-tried-requires-clause-there
try_next-tried-requires-clause-there g c =
    still_there c.args.endpoint.now c.before_try-outgoing.new.endpoint c.args.collectives.now
    c.before_try-outgoing.ensures.happen.same c.requires.there

pub returns : goal.returns
returns g c =
    let meaning = g.H.Handlers.meaning c.args.handlers.now in
    let old : FoundNode = record { endpoint = c.args.endpoint.now; collectives = c.args.collectives.now } in
    let new : FoundNode = record {
      endpoint = c.try_next-tried.new.endpoint;
      collectives = c.try_next-tried.new.collectives;
    } in
    let taken : TurnTaken = record {
      thread = c.args.turn.thread;
      now = c.args.turn.now;
      got = option_copied c.args.turn.got;
    } in
    let done : TurnDone = record { outgoing = c.add.new.self; tried = c.try_next-tried.result } in
    record {
      takes = subst (λ (p : Progress ScriptStep).
          TakesTurn meaning (old, progress_of c.args.cursor.now) taken done (new, p)) (sym c.go_on.ensures)
          (turn_goes meaning old c.before_try-outgoing.new.endpoint new taken (progress_of c.args.cursor.now)
          c.args.turn.polls
          c.before_try-outgoing.result c.add.new.self c.try_next-tried.result (g.met.H.Handlers.is_lawful c.args.handlers.now)
          c.before_try-outgoing.ensures.bytes c.requires.polls c.before_try-outgoing.ensures.happen
          c.try_next-tried.ensures.tries c.add.ensures.slots);
      there = c.try_next-tried.ensures.there;
    }
