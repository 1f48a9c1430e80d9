use Rattle.std.proofs.Common.{Bool, refl, sym, subst, ◌∙◌}
use Rattle.std.specs.Prelude.{if◌then◌else◌}
use Rattle.part_handlers.specs.Tokens.{At, frame_of, stage, start_of}
use Rattle.part_handlers.specs.Runs.{nothing_done}
use Rattle.part_handlers.proofs.Laws.{leaving-untouched}
use Rattle.node_atomics.specs.Served.{outcome_of_batch}
use Rattle.part_collective_area.specs.Served.{outcome_of_piece}
use Rattle.text_script.specs.Bodies.{acts, other_meaning}
use Rattle.text_script.specs.Registration.{body_for}
use Rattle.text_script.proofs.handlers.ScriptHandlersHandlers.run.Goals as goal

pub returns-then-is_for_batches : goal.returns-then-is_for_batches
returns-then-is_for_batches c =
    let opening = stage c.args.segment.now c.args.cells.now c.args.token.now in
    let frame = frame_of c.args.token.now in
    let nothing = nothing_done (start_of opening) in
    subst (λ (batches : Bool). At opening
    (if batches then outcome_of_batch c.args.handler frame (start_of opening) nothing
    else other_meaning c.args.self.now c.args.handler frame (start_of opening))
    (stage c.serve.new.segment c.args.cells.now c.serve.new.token))
    (sym (sym c.is_for_batches.ensures ∙ c.if-is_for_batches.true))
    (c.serve.ensures.served c.args.cells.now opening nothing (record {
      segment_is = refl;
      same_length = refl;
      cells_are = refl;
      token_is = leaving-untouched opening c.requires.fresh.unreplied;
      spelled = tt;
    }))

pub returns-then-is_for_collectives : goal.returns-then-is_for_collectives
returns-then-is_for_collectives c =
    let opening = stage c.args.segment.now c.args.cells.now c.args.token.now in
    let frame = frame_of c.args.token.now in
    let start = start_of opening in
    let handlers = c.args.self.now in
    let after = stage c.serve-then-is_for_collectives.new.segment c.args.cells.now c.serve-then-is_for_collectives.new.token in
    let ran : At opening (outcome_of_piece frame start (nothing_done start)) after =
    c.serve-then-is_for_collectives.ensures.served c.args.cells.now opening (nothing_done start) (record {
      segment_is = refl;
      same_length = refl;
      cells_are = refl;
      token_is = leaving-untouched opening c.requires.fresh.unreplied;
      spelled = tt;
    }) in
    let collective : At opening (other_meaning handlers c.args.handler frame start) after =
    subst (λ (test : Bool). At opening
    (if test then outcome_of_piece frame start (nothing_done start)
    else acts frame start (nothing_done start) (body_for handlers c.args.handler)) after)
    (sym (sym c.is_for_collectives.ensures ∙ c.if-is_for_collectives.true)) ran in
    subst (λ (test : Bool). At opening
    (if test then outcome_of_batch c.args.handler frame start (nothing_done start)
    else other_meaning handlers c.args.handler frame start) after)
    (sym (sym c.is_for_batches.ensures ∙ c.if-is_for_batches.false)) collective
