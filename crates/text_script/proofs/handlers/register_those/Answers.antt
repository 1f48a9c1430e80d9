use Rattle.std.proofs.Common.{◌∙◌, sym}
use Rattle.text_script.specs.Places.{placing}
use Rattle.text_script.proofs.Placing.{goes_with, goes_without, turn_test}
use Rattle.text_script.proofs.handlers.register_those.Goals.{then-text-any, else-text-any}
use Rattle.text_script.proofs.handlers.register_those.Goals as goal

pub loop-place-preserved : goal.loop-place-preserved
loop-place-preserved c = elim c.if-text-any.branch [
  | then-text-any w ↦
      rw (w.table-is, w.places-is)
      (record {
        at = goes_with c.args.any c.args.texts.now c.loop-place.place c.index-texts-place.result
            (placing c.args.table.now c.args.places.now) (placing c.loop-place.table c.loop-place.places)
            (placing w.register_one.new.table w.register_one.new.places)
            c.loop-place-test.true c.index-texts-place.is
            (sym (turn_test c.args.any c.index-texts-place.result) ∙ w.if-text-any.true) c.loop-place.invariant.at
            w.register_one.ensures.at;
        long = w.register_one.ensures.long;
      })
  | else-text-any w ↦
      rw (w.table-is, w.places-is)
      (record {
        at = goes_without c.args.any c.args.texts.now c.loop-place.place c.index-texts-place.result
            (placing c.args.table.now c.args.places.now) (placing c.loop-place.table c.loop-place.places)
            c.loop-place-test.true c.index-texts-place.is
            (sym (turn_test c.args.any c.index-texts-place.result) ∙ w.if-text-any.false) c.loop-place.invariant.at;
        long = c.loop-place.invariant.long;
      })
]
