use Rattle.std.proofs.Common.{sym, ◌∙◌}
use Rattle.text_trace.proofs.Cutting.{turn_many}
use Rattle.text_trace.proofs.reading.turn_of.Goals as goal

pub returns-then-not-is_one : goal.returns-then-not-is_one
returns-then-not-is_one c = rw (
  c.in-Some.ensures.some,
  c.in-Some-cut_word.ensures.some,
  c.in-Some-cut_word-2.ensures.some,
) (turn_many _ _ _ _ (sym c.is_one.ensures.value ∙ c.if-not-is_one.true))
