use Rattle.std.proofs.Common.{refl}
use Rattle.part_handlers.specs.Tokens.{stage, start_of}
use Rattle.part_handlers.specs.Runs.{nothing_done}
use Rattle.part_handlers.proofs.Laws.{leaving-untouched}
use Rattle.gasnet_c.proofs.OwnRuns.{runs_batch, runs_collective}
use Rattle.gasnet_c.proofs.serving.OwnHandlersHandlers.run.Goals as goal

pub returns-then-handler-eq-COLLECTIVE_HANDLER : goal.returns-then-handler-eq-COLLECTIVE_HANDLER
returns-then-handler-eq-COLLECTIVE_HANDLER c =
    let opening = stage c.args.segment.now c.args._cells.now c.args.token.now in
    runs_collective c.args.handler opening _ c.if-handler-eq-COLLECTIVE_HANDLER.true
    (c.serve.ensures.served c.args._cells.now opening (nothing_done (start_of opening)) (record {
      segment_is = refl;
      same_length = refl;
      cells_are = refl;
      token_is = leaving-untouched opening c.requires.fresh.unreplied;
      spelled = tt;
    }))

pub returns-else-handler-eq-COLLECTIVE_HANDLER : goal.returns-else-handler-eq-COLLECTIVE_HANDLER
returns-else-handler-eq-COLLECTIVE_HANDLER c =
    let opening = stage c.args.segment.now c.args._cells.now c.args.token.now in
    runs_batch c.args.handler opening _ c.if-handler-eq-COLLECTIVE_HANDLER.false
    (c.serve-else-handler-eq-COLLECTIVE_HANDLER.ensures.served c.args._cells.now opening (nothing_done (start_of opening)) (record {
      segment_is = refl;
      same_length = refl;
      cells_are = refl;
      token_is = leaving-untouched opening c.requires.fresh.unreplied;
      spelled = tt;
    }))
