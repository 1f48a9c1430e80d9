-- The try of a step that begins the pieces of a plan.
use Rattle.std.proofs.Common.{rules}
use Rattle.proc_steps.proofs.BegunPieces.{pieces_tried}
use Rattle.proc_steps.proofs.many.try_pieces.Goals as goal

pub returns : goal.returns
returns g c =
    pieces_tried (g.H.Handlers.meaning c.args.handlers.now) c.args.endpoint.now
    c.begin_pieces-answer.new.caller.endpoint.now _ c.args.trial.now c.args.pieces.now.plan.now
    c.args.pieces.now.from c.args.pieces.now.reg c.begin_pieces-answer.result
    (g.met.H.Handlers.is_lawful c.args.handlers.now) c.begin_pieces-answer.ensures.begun (search rules)
