-- The names of a trace's lines.
use Rattle.std.specs.Prelude.{codes}
use Rattle.base_text.specs.Lines.{Word}
use Rattle.text_trace.specs.declared.line_name.LineName.{LineName}
use Rattle.text_trace.specs.declared.line_name.LineName.TheVariants.{Trace, Job, Rank, Turn, End}

-- the word with which a line begins
abbrev pub line_name : LineName → Word
line_name Trace = codes "trace"
line_name Job = codes "job"
line_name Rank = codes "rank"
line_name Turn = codes "turn"
line_name End = codes "end"
