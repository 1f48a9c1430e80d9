-- Counting the first words of answers.
use Rattle.std.specs.Prelude.{◌≡◌, ℕ, ◌+◌, ◌≤◌, ◌==◌, Bool, false, List, Option, Some, None, slice_index}
use Rattle.spec_node.specs.declared.answer.Asked.{Asked}
use Rattle.spec_node.specs.declared.answer.Asked.TheVariants as asked
use Rattle.spec_node.specs.declared.answer.Delivered.{Delivered}
use Rattle.spec_node.specs.declared.answer.Delivered.TheVariants as delivered
use Rattle.spec_node.specs.declared.answer.Ticked.{Ticked}
use Rattle.spec_node.specs.declared.answer.Ticked.TheVariants as ticked
use Rattle.node_rules.specs.declared.answer.Answer.{Answer}
use Rattle.node_rules.specs.declared.answer.Answer.TheVariants as answers
use Rattle.sim_world.specs.declared.event.WorldAnswer.{WorldAnswer}
use Rattle.sim_world.specs.declared.event.WorldAnswer.TheVariants as world_answers
use Rattle.base_text.specs.LineTexts.{Line}
use Rattle.sim_drill.specs.Summary.{count_of}
use Rattle.sim_drill.specs.declared.counts.Counted.{Counted}
use Rattle.sim_drill.specs.declared.counts.Counted.TheVariants as counted

-- ---- counts

-- where a word's count stands among the counts
abbrev pub count_place : Counted → ℕ
count_place counted.Accepted = 0
count_place counted.Chunk = 1
count_place counted.Retransmission = 2
count_place counted.Ran = 3
count_place counted.Duplicate = 4
count_place counted.Stale = 5
count_place counted.Returned = 6
count_place counted.Late = 7
count_place counted.NotYet = 8
count_place counted.Unsent = 9

abbrev pub count_in : List ℕ → Counted → ℕ
count_in counts counted = slice_index counts (count_place counted)

-- no count is more than this
abbrev pub AreAtMost : ℕ → List ℕ → Type 0
AreAtMost most counts = (counted : Counted) → count_in counts counted ≤ most

-- each count rose by the number of these answers that begin with its word
abbrev pub Tallies : (old new : List ℕ) → List Line → Type 0
Tallies old new answers = (counted : Counted) → count_in new counted ≡ count_in old counted + count_of counted answers

-- ---- the word of an answer

-- the word with which the answer to a request begins, if it is counted
abbrev pub asked_as : Asked → Option Counted
asked_as (asked.Accepted to slot number) = Some counted.Accepted
asked_as asked.Ran = Some counted.Ran
asked_as asked.NotYet = Some counted.NotYet
asked_as _ = None

-- that to a delivery
abbrev pub delivered_as : Delivered → Option Counted
delivered_as (delivered.Ran at) = Some counted.Ran
delivered_as (delivered.Notified at notification) = Some counted.Ran
delivered_as (delivered.Duplicate at) = Some counted.Duplicate
delivered_as delivered.Stale = Some counted.Stale
delivered_as (delivered.Returned to slot number) = Some counted.Returned
delivered_as delivered.Late = Some counted.Late
delivered_as _ = None

-- that to a tick
abbrev pub ticked_as : Ticked → Option Counted
ticked_as (ticked.Retransmission at) = Some counted.Retransmission
ticked_as (ticked.Chunk at) = Some counted.Chunk
ticked_as _ = None

-- that to any event
abbrev pub counted_by : WorldAnswer → Option Counted
counted_by (world_answers.Node (answers.Asked answer)) = asked_as answer
counted_by (world_answers.Node (answers.Delivered answer)) = delivered_as answer
counted_by (world_answers.Node (answers.Ticked answer)) = ticked_as answer
counted_by (world_answers.Node answer) = None
counted_by world_answers.Unsent = Some counted.Unsent
counted_by world_answers.NoMemory = None

-- it is this one
abbrev pub is_counted : Counted → Option Counted → Bool
is_counted counted None = false
is_counted counted (Some other) = count_place counted == count_place other
