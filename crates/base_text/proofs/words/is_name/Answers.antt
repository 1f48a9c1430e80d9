use Rattle.std.proofs.Common.{arith}
use Rattle.base_text.proofs.Names.{is_same_name}
use Rattle.base_text.proofs.words.is_name.Goals as goal

pub returns : goal.returns
returns c = is_same_name c.args.word.now c.args.name.now c.loop-end.end c.loop-end.invariant
    (omega (arith, c.if-word-name.false))
    (λ same. let fails = c.loop-end-test.false in let passes = c.is_same.ensures.1 same in absurd (cc))
