-- What is sent is marked, one datagram after another.
use Rattle.text_trace.proofs.MarkLemmas.{marks_more}
use Rattle.text_trace.proofs.merging.let_go.Goals as goal

pub loop-i-preserved : goal.loop-i-preserved
loop-i-preserved g c = record {
  fit = c.keep.ensures.fit;
  marks = λ r stands. marks_more c.args.places.now c.args.marks.now c.loop-i.marks c.keep.new.marks (g.M.Machine.sent r)
      c.loop-i.i (c.loop-i.invariant.marks r stands) (c.keep.ensures.marks r stands);
}
