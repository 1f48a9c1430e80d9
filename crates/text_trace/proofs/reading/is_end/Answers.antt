use Rattle.std.proofs.Common.{◌∙◌}
use Rattle.text_trace.proofs.WordLaws.{end_text}
use Rattle.text_trace.proofs.reading.is_end.Goals as goal

pub returns : goal.returns
returns c = c.matches.ensures ∙ end_text c.args.line.now
