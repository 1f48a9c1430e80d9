use Rattle.std.proofs.Common.{◌++◌, ◌∷◌, [], ◌∙◌, List, get_or, take, ap, sym, subst, arith}
use Rattle.std.proofs.lemmas.List.{take_more}
use Rattle.node_atomics.specs.declared.word.WordOp.{WordOp}
use Rattle.node_atomics.specs.declared.word.Op.TheVariants as op
use Rattle.node_atomics.specs.Words.{AllHave64Bits, Has64Bits}
use Rattle.node_atomics.proofs.Spelling.{all_push}
use Rattle.node_atomics.proofs.batch.copy_of.Goals as goal

abbrev none : WordOp
none = record { op = op.Get; offset = 0; a = 0; b = 0 }

pub loop-word-preserved : goal.loop-word-preserved
loop-word-preserved c =
    let before = c.loop-word.invariant in
    let ops = c.args.ops.now in
    let word = get_or ops c.loop-word.word-index none in
    let more = take_more ops c.loop-word.word-index none c.loop-word-test.true in
    let wide : Has64Bits word = subst Has64Bits c.with_numbers.ensures.value c.with_numbers.ensures.wide in
    record {
      same_so = c.push.ensures.items
          ∙ (ap (λ (last : WordOp). c.loop-word.copy.items ++ last ∷ []) c.with_numbers.ensures.value
          ∙ (ap (λ (list : List WordOp). list ++ word ∷ []) before.same_so ∙ sym more));
      long = omega (arith, c.push.ensures.len, before.long);
      wide_so = subst AllHave64Bits (sym more) (all_push (take c.loop-word.word-index ops) word before.wide_so wide);
    }
