use Rattle.std.proofs.Common.{sym, ◌∙◌}
use Rattle.text_trace.proofs.Cutting.{cut_at, no_line}
use Rattle.text_trace.proofs.words.cut_line.Goals as goal

pub returns-in_default-clause-none : goal.returns-in_default-clause-none
returns-in_default-clause-none c =
    no_line c.args.bytes.now (sym c.is_empty.ensures ∙ c.if-is_empty.false)
    (sym c.far_place_of.ensures.value ∙ c.in_default.is)

pub returns-clause-whole : goal.returns-clause-whole
returns-clause-whole c = rw (c.split_at.ensures.front, c.split_at-2.ensures.back)
    (cut_at c.args.bytes.now c.in-Some.end (sym c.far_place_of.ensures.value ∙ c.in-Some.is))
