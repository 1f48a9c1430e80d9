use Rattle.std.proofs.Common.{sym, ◌∙◌}
use Rattle.text_trace.proofs.Cutting.{second_many}
use Rattle.text_trace.proofs.reading.second_of.Goals as goal

pub returns-then-not-is_one : goal.returns-then-not-is_one
returns-then-not-is_one c = rw c.in-Some.ensures.some (second_many _ _ _ (sym c.is_one.ensures.value
    ∙ c.if-not-is_one.true))
