-- The lines of the drill's output.
use Rattle.std.specs.Prelude.{ℕ, Bool, false, List, [], ◌∷◌, ◌++◌, map, codes, decimal, count_by}
use Rattle.std.specs.Str.{bytes_eq}
use Rattle.sim_world.specs.Settling.{WorldJob}
use Rattle.text_steps.specs.declared.steps.TimedEvent.{TimedEvent}
use Rattle.base_text.specs.Lines.{Word}
use Rattle.base_text.specs.LineTexts.{Line}
use Rattle.sim_run.specs.Schedules.{Nodes, nodes_after, opening_nodes, world_job}
use Rattle.sim_run.specs.RunText.{line_words, end_lines, run_records, run_most}
use Rattle.sim_drill.specs.Rounds.{drill_job, drill_schedule, drill_settings}
use Rattle.sim_drill.specs.declared.counts.Counted.{Counted}
use Rattle.sim_drill.specs.declared.counts.Counted.TheVariants as counted

-- ---- answers

-- the words of the answer to each line of a schedule
abbrev pub answers_to : WorldJob → List TimedEvent → Nodes → List Line
answers_to job [] nodes = []
answers_to job (entry ∷ entries) nodes =
    line_words job nodes entry ∷ answers_to job entries (nodes_after job nodes entry)

-- those of the drill
abbrev pub drill_answers : (seed : ℕ) → List Line
drill_answers seed = answers_to (world_job (drill_job seed)) (drill_schedule seed) (opening_nodes (drill_job seed))

-- ---- counts

-- the words by which answers are counted
abbrev pub counted_word : Counted → Word
counted_word counted.Accepted = codes "accepted"
counted_word counted.Chunk = codes "chunk"
counted_word counted.Retransmission = codes "resend"
counted_word counted.Ran = codes "ran"
counted_word counted.Duplicate = codes "again"
counted_word counted.Stale = codes "stale"
counted_word counted.Returned = codes "returned"
counted_word counted.Late = codes "late"
counted_word counted.NotYet = codes "not-yet"
counted_word counted.Unsent = codes "unsent"

-- in the order in which they are told
unfoldable pub all_counted : List Counted
all_counted =
    counted.Accepted ∷ counted.Chunk ∷ counted.Retransmission ∷ counted.Ran ∷ counted.Duplicate ∷ counted.Stale ∷
    counted.Returned
    ∷ counted.Late ∷ counted.NotYet ∷ counted.Unsent ∷ []

-- the words begin with this one
abbrev pub begins_with : Word → Line → Bool
begins_with word [] = false
begins_with word (first ∷ others) = bytes_eq first word

-- how many of the answers begin with the word
abbrev pub count_of : Counted → List Line → ℕ
count_of counted answers = count_by (begins_with (counted_word counted)) answers

-- ---- the output

-- a line for each word, with its count
abbrev pub count_lines : (Counted → ℕ) → List Line
count_lines count = map (λ counted. counted_word counted ∷ decimal (count counted) ∷ []) all_counted

abbrev pub first_line : (seed : ℕ) → Line
first_line seed = codes "drill" ∷ decimal seed ∷ []

-- the lines of the drill: its seed, the counts of its answers' first words, and the lines of each node at its end
abbrev pub drill_lines : (seed : ℕ) → List Line
drill_lines seed =
    first_line seed ∷ (count_lines (λ counted. count_of counted (drill_answers seed))
    ++ end_lines drill_settings (run_records (drill_job seed)) (run_most (drill_job seed)))
