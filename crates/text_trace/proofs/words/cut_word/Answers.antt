use Rattle.std.proofs.Common.{sym, ◌∙◌}
use Rattle.text_trace.proofs.Cutting.{cut_some, cut_none}
use Rattle.text_trace.proofs.words.cut_word.Goals as goal

pub returns-in_err-end-clause-none : goal.returns-in_err-end-clause-none
returns-in_err-end-clause-none c = rw c.from_residual.ensures (cut_none c.args.line.now (sym c.place_of.ensures.value
    ∙ c.in_err-end.was))

pub returns-clause-some : goal.returns-clause-some
returns-clause-some c = rw (c.split_at.ensures.front, c.split_at-2.ensures.back)
    (cut_some c.args.line.now c.in_ok-end.end (sym c.place_of.ensures.value ∙ c.in_ok-end.was))
