-- What is shown of what a command is at.
use Rattle.std.specs.Prelude.{ℕ, ◌%◌, ◌==◌, ◌&&◌, nat_le, List, [], ◌∷◌, ◌++◌, Bool, if◌then◌else◌, codes, decimal}
use Rattle.cli_report.specs.declared.progress.Counted.{Counted}
use Rattle.cli_report.specs.declared.progress.Counter.{Counter}
use Rattle.cli_report.specs.declared.progress.Counter.TheVariants as counters

-- the place of what is counted, from 0 on
abbrev pub counter_place : Counter → ℕ
counter_place counters.Read = 0
counter_place counters.Lines = 1
counter_place counters.Started = 2
counter_place counters.Ended = 3

-- by what counters were found to have
pub record AreCounted (counted : Counter → ℕ → Type 0) (all : Counted) : Type 0 where
  pub read : counted counters.Read all.read
  pub lines : counted counters.Lines all.lines
  pub started : counted counters.Started all.started
  pub ended : counted counters.Ended all.ended

-- a line is shown at a look, of which there are 10 a second: each second, from the second one on
abbrev pub is_shown_at : ℕ → Bool
is_shown_at look = nat_le 20 look && (look % 10 == 0)

-- what is read and written after so many seconds
unfoldable pub streams_told : (seconds read lines : ℕ) → List ℕ
streams_told seconds read lines = codes "gasnet_cli: " ++ (decimal seconds ++ (codes " s, read " ++ (decimal read
    ++ (codes " bytes, wrote " ++ (decimal lines ++ codes " lines")))))

-- the nodes, where any was started
unfoldable pub nodes_told : (started ended : ℕ) → List ℕ
nodes_told started ended = if started == 0 then []
    else codes ", " ++ (decimal started ++ (codes " nodes started, " ++ (decimal ended ++ codes " finished")))

-- the line after so many seconds, over the one before it, of which the rest is cleared: a return before it, and a
-- control sequence behind it
abbrev pub progress_line : (seconds : ℕ) → Counted → List ℕ
progress_line seconds counted = 13 ∷ (streams_told seconds counted.read counted.lines
    ++ (nodes_told counted.started counted.ended ++ (27 ∷ codes "[K")))
