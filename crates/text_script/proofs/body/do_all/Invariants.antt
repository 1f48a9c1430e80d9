use Rattle.std.proofs.Common.{length, take}
use Rattle.part_handlers.specs.Tokens.{At, IsReadyToken, token_arrival, frame_of, stage, start_of}
use Rattle.part_handlers.specs.Runs.{IsPlaced, nothing_done}
use Rattle.text_script.specs.Bodies.{acts}
use Rattle.text_script.proofs.body.do_all.Given as goal

-- segment, cells and token are what the actions so far leave
abbrev pub invariant-loop-action : goal.invariant-loop-action
invariant-loop-action l = record {
  at : (let opening = stage l.initial.segment l.initial.cells l.initial.token in
      At opening
      (acts (frame_of l.initial.token) (start_of opening) (nothing_done (start_of opening))
      (take l.action-index l.actions))
      (stage l.segment l.cells l.token));
  placed : IsPlaced (length l.segment) (token_arrival l.token).place;
  ready : IsReadyToken l.token;
}
