use Rattle.std.proofs.Common.{◌+◌, ◌≤◌, ◌∙◌, List, ℕ, length, get_or, sym, ap, arith}
use Rattle.std.proofs.Common.{subst}
use Rattle.std.proofs.lemmas.Bool.{eqb-true}
use Rattle.part_segment.specs.Image.{overwritten}
use Rattle.part_segment.proofs.Images.{length-overwritten}
use Rattle.node_atomics.specs.declared.word.WordOp.{WordOp}
use Rattle.node_atomics.specs.declared.word.Op.TheVariants as op
use Rattle.node_atomics.specs.Served.{change_of}
use Rattle.node_atomics.proofs.Acting.{all_at, inside_at, segment_more, pushed_more}
use Rattle.node_atomics.proofs.serving.act_all.Goals as goal

abbrev none : WordOp
none = record { op = op.Get; offset = 0; a = 0; b = 0 }

pub act-old-requires-clause-inside : goal.act-old-requires-clause-inside
act-old-requires-clause-inside c =
    subst (λ (len : ℕ). (get_or c.args.ops.now c.loop-word.word-index none).offset + 8 ≤ len)
    (sym c.loop-word.invariant.same_length)
    (inside_at (length c.args.segment.now) c.args.ops.now c.loop-word.word-index none c.loop-word-test.true
    c.requires.inside)

pub act-old-requires-clause-aligned : goal.act-old-requires-clause-aligned
act-old-requires-clause-aligned c =
    eqb-true _ _ (all_at (λ (word : WordOp). _) c.args.ops.now c.loop-word.word-index none c.loop-word-test.true
    c.requires.aligned)

pub loop-word-preserved : goal.loop-word-preserved
loop-word-preserved c =
    let before = c.loop-word.invariant in
    let word = get_or c.args.ops.now c.loop-word.word-index none in
    let inside : word.offset + 8 ≤ length c.loop-word.segment =
    subst (λ (len : ℕ). word.offset + 8 ≤ len) (sym before.same_length)
    (inside_at (length c.args.segment.now) c.args.ops.now c.loop-word.word-index none c.loop-word-test.true
    c.requires.inside) in
    record {
      segment_is = c.act-old.ensures.written
          ∙ (ap (λ (bytes : List ℕ). overwritten bytes (change_of bytes word)) before.segment_is
          ∙ segment_more c.args.ops.now c.loop-word.word-index none c.args.segment.now c.loop-word-test.true);
      same_length = ap length c.act-old.ensures.written
          ∙ (length-overwritten c.loop-word.segment (change_of c.loop-word.segment word) inside
          ∙ before.same_length);
      block_is = c.push_word.ensures.pushed
          ∙ pushed_more c.args.ops.now c.loop-word.word-index none c.args.segment.now c.loop-word.segment
          c.args.block.now.items c.loop-word.block.items c.act-old.result c.loop-word-test.true before.segment_is
          before.block_is c.act-old.ensures.old;
      block_length = omega (arith, c.push_word.ensures.len, before.block_length);
    }
