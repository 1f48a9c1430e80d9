use Rattle.std.proofs.Common.{◌++◌, ◌∷◌, [], ◌∙◌, ℕ, List, get_or, take, ap, sym, arith, append-nil}
use Rattle.std.proofs.lemmas.List.{take_more}
use Rattle.std.proofs.lemmas.Grind.{flat_map-append}
use Rattle.node_atomics.specs.declared.word.WordOp.{WordOp}
use Rattle.node_atomics.specs.declared.word.Op.TheVariants as op
use Rattle.node_atomics.specs.BatchRequests.{spelled_op, spelled_ops}
use Rattle.node_atomics.proofs.batch.spelled.Goals as goal

abbrev none : WordOp
none = record { op = op.Get; offset = 0; a = 0; b = 0 }

pub loop-word-preserved : goal.loop-word-preserved
loop-word-preserved c =
    let before = c.loop-word.invariant in
    let word = get_or c.args.ops.now c.loop-word.word-index none in
    record {
      spelled_so = c.spell.ensures.spelled
          ∙ (ap (λ (bytes : List ℕ). bytes ++ spelled_op word) before.spelled_so
          ∙ (ap (λ (bytes : List ℕ). spelled_ops (take c.loop-word.word-index c.args.ops.now) ++ bytes)
          (sym (append-nil (spelled_op word)))
          ∙ (sym (flat_map-append spelled_op (take c.loop-word.word-index c.args.ops.now) (word ∷ []))
          ∙ ap spelled_ops (sym (take_more c.args.ops.now c.loop-word.word-index none c.loop-word-test.true)))));
      long = omega (arith, c.spell.ensures.len, before.long);
    }
