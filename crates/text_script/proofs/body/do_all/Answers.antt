-- One more action.
use Rattle.std.proofs.Common.{◌≡◌, ◌∙◌, ap, refl, sym, subst, length, take, ◌+◌, ◌<◌, ℕ, List, get_or}
use Rattle.std.proofs.lemmas.List.Sums.{fold_more}
use Rattle.part_handlers.specs.declared.token.Token.{Token}
use Rattle.part_handlers.specs.Tokens.{At, Stage, token_arrival, frame_of, stage, start_of}
use Rattle.part_handlers.specs.Runs.{Frame, IsPlaced, Outcome, Start, nothing_done}
use Rattle.part_handlers.proofs.Laws.{leaving-untouched}
use Rattle.text_steps.specs.declared.steps.Action.{Action}
use Rattle.text_script.specs.Bodies.{act, acts}
use Rattle.text_script.proofs.body.do_all.Goals as goal

-- after the actions so far and one more
acts_more : (opening now : Stage) (frame : Frame) (start : Start) (i : ℕ) (actions : List Action) (action : Action)
    (outcome : Outcome) → i < length actions → action ≡ get_or actions i action
    → At opening (act frame start (acts frame start outcome (take i actions)) action) now
    → At opening (acts frame start outcome (take (i + 1) actions)) now
acts_more opening now frame start i actions action outcome low is at =
    subst (λ (done : Outcome). At opening done now)
    (ap (act frame start (acts frame start outcome (take i actions))) is
    ∙ sym (fold_more (act frame start) outcome actions i action low)) at

-- the place of a Long's payload stays inside the segment
placed_at : (opening now : Stage) (outcome : Outcome) → At opening outcome now
    → IsPlaced (length opening.segment) (token_arrival opening.token).place
    → IsPlaced (length now.segment) (token_arrival now.token).place
placed_at opening now outcome at placed =
    subst (λ (token : Token). IsPlaced (length now.segment) (token_arrival token).place) (sym at.token_is)
    (subst (λ (len : ℕ). IsPlaced len (token_arrival opening.token).place) (sym at.same_length) placed)

pub loop-action-init : goal.loop-action-init
loop-action-init c =
    let opening = stage c.args.segment.now c.args.cells.now c.args.token.now in
    record {
      at = record {
        segment_is = refl;
        same_length = refl;
        cells_are = refl;
        token_is = leaving-untouched opening c.requires.fresh.unreplied;
        spelled = tt;
      };
      placed = c.requires.segment.placed;
      ready = record { ready = c.requires.fresh.ready; unblocked = c.requires.fresh.free.unblocked };
    }

pub loop-action-preserved : goal.loop-action-preserved
loop-action-preserved c =
    let opening = stage c.args.segment.now c.args.cells.now c.args.token.now in
    let now = stage c.do_action.new.segment c.do_action.new.cells c.do_action.new.token in
    let done = c.do_action.ensures.at opening _ c.loop-action.invariant.at in
    record {
      at = acts_more opening now (frame_of c.args.token.now) (start_of opening) c.loop-action.action-index
          c.args.actions.now c.action-item.result (nothing_done (start_of opening)) c.loop-action-test.true
          c.action-item.is done;
      placed = placed_at opening now _ done c.requires.segment.placed;
      ready = c.do_action.ensures.ready;
    }
