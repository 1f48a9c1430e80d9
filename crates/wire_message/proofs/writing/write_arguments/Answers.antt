use Rattle.std.proofs.Common.{rules, ◌∙◌, ap, ◌*◌, ◌+◌, pos, List, ℕ, ℤ, get_or, w32, FitsSigned}
use Rattle.std.proofs.lemmas.Int.{to_z-of_z}
use Rattle.wire_message.specs.Content.{word}
use Rattle.wire_message.proofs.Words.{fits_more}
use Rattle.wire_message.proofs.Placed.{placed, words_more}
use Rattle.wire_message.proofs.writing.write_arguments.Goals as goal

pub loop-i-preserved : goal.loop-i-preserved
loop-i-preserved c =
    let i = c.loop-i.i in
    let arg = get_or c.args.args.now i (pos 0) in
    let f : FitsSigned w32 arg = search rules in (
      c.write_argument.ensures
          ∙ ap (λ (z : ℤ). placed c.loop-i.buf (c.args.at + 4 * i) (word z) 4) (to_z-of_z w32 arg f)
          ∙ ap (λ (z : List ℕ). placed z (c.args.at + 4 * i) (word arg) 4) c.loop-i.invariant.0
          ∙ words_more c.args.buf.now c.args.at c.args.args.now i (pos 0) c.loop-i-test.true c.requires,
      fits_more c.args.args.now i (pos 0) c.loop-i-test.true c.loop-i.invariant.1 f,
    )
