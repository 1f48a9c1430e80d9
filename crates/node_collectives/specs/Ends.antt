-- What a try to end does: the calls that it makes, how it is answered, and how far the node is then.
use Rattle.std.specs.Prelude.{ℕ, ◌≡◌, ◌+◌, ◌<◌, Bool, true, false, List, [], ◌∷◌, length, map, None, Some}
use Rattle.std.specs.Prelude.{slice_get}
use Rattle.part_segment.specs.Image.{Write}
use Rattle.spec_node.specs.Record.{Node}
use Rattle.node_core.specs.Kept.{segment_of}
use Rattle.node_rules.specs.CoreCalls.{Poll, OnSegment}
use Rattle.node_rules.specs.Memory.{Set}
use Rattle.node_rules.specs.EndpointLocal.{EndpointLocal}
use Rattle.node_rules.specs.EndpointRules.{OnCore}
use Rattle.node_rules.specs.Called.{Performs}
use Rattle.node_rules.specs.declared.answer.Answer.{Answer}
use Rattle.node_rules.specs.declared.answer.Answer.TheVariants as answers
use Rattle.node_endpoint.specs.declared.caller.Caller.{Ghosts}
use Rattle.node_endpoint.specs.Sites.{Site, ThreadCall, answer_at}
use Rattle.node_endpoint.specs.Making.{ForItsNode, whole_after}
use Rattle.part_collective_area.specs.declared.shape.CollectiveKind.{CollectiveKind}
use Rattle.part_collective_area.specs.declared.shape.CollectiveKind.TheVariants as kind
use Rattle.part_collective_area.specs.Results.{pieces_of}
use Rattle.node_collectives.specs.declared.answers.EndAnswer.{EndAnswer}
use Rattle.node_collectives.specs.declared.answers.EndAnswer.TheVariants as end_answers
use Rattle.node_collectives.specs.Progress.{data_of_all, end_answer, end_refusal, is_bad_dest, writes_from}
use Rattle.node_collectives.specs.CollectivesState.{CollectivesState, progress_of}
use Rattle.node_collectives.specs.Starts.{Refuses}

-- a try of this thread, whose result goes to `dest`
pub record EndAsked : Type 0 where
  pub thread : ℕ
  pub dest : ℕ

-- ---- the node's segment

abbrev pub segment_in : Site → Node EndpointLocal → List ℕ
segment_in site node = segment_of site.settings node.local.core

-- it is as long as the settings say. So it is of every node of a run
abbrev pub IsLong : Site → Node EndpointLocal → Type 0
IsLong site node = length (segment_in site node) ≡ site.settings.segment

-- ---- its answer

-- by that of its poll, where the segment has these bytes
abbrev pub end_told : CollectivesState → (segment : List ℕ) → Answer → EndAnswer
end_told it segment (answers.Forbidden forbidden) = end_answers.Forbidden forbidden
end_told it segment other = end_answer it.area it.me (progress_of it) segment

abbrev pub poll_call : (thread : ℕ) → ThreadCall
poll_call thread = record { thread = thread; call = Performs (OnCore Poll) }

-- where the node has this record
abbrev pub tried_answer : Site → Node EndpointLocal → CollectivesState → (thread : ℕ) → EndAnswer
tried_answer site node it thread = end_told it (segment_in site node) (answer_at site node (poll_call thread))

-- how far the node is then
abbrev pub ended_then : EndAnswer → CollectivesState → CollectivesState
ended_then end_answers.Ended it = record it { ended = it.ended + 1 }
ended_then (end_answers.Mismatch other) it = record it { ended = it.ended + 1 }
ended_then answer it = it

-- ---- its calls

-- the call that writes this
abbrev pub set_call : (thread : ℕ) → Write → ThreadCall
set_call thread write = record { thread = thread; call = Performs (OnCore (OnSegment (Set write))) }

-- the pieces in which the result is written, where the segment has these bytes
abbrev pub result_in : CollectivesState → (segment : List ℕ) → List (List ℕ)
result_in it segment = pieces_of it.shape (data_of_all it.area (progress_of it) segment 0 it.area.nodes) it.me

-- the node whose data is a piece of a result that takes no words together
abbrev pub giver_by : CollectiveKind → (root index : ℕ) → ℕ
giver_by kind.Broadcast root index = root
giver_by other root index = index

-- the calls that write it
abbrev pub result_calls : CollectivesState → (segment : List ℕ) → EndAsked → List ThreadCall
result_calls it segment asked = map (set_call asked.thread) (writes_from asked.dest (result_in it segment))

-- the calls of a try that was answered so: a poll, and behind it those that write the result
abbrev pub calls_behind : CollectivesState → (segment : List ℕ) → EndAsked → EndAnswer → List ThreadCall
calls_behind it segment asked end_answers.Ended = result_calls it segment asked
calls_behind it segment asked answer = []

abbrev pub end_calls : CollectivesState → (segment : List ℕ) → EndAsked → EndAnswer → List ThreadCall
end_calls it segment asked answer = poll_call asked.thread ∷ calls_behind it segment asked answer

-- of whatever whole the caller stood for, the answer is by its node's record, and it stands for what the calls make of
-- that whole
pub record Tries {K : Type 0} (caller : Ghosts K) (it : CollectivesState) (old : K) (asked : EndAsked)
    (answer : EndAnswer) (next : CollectivesState) (new : K) : Type 0 where
  pub site : caller.site new ≡ caller.site old
  pub reference : caller.lent new ≡ caller.lent old
  pub answered : ForItsNode caller old (λ node.
      IsLong (caller.site old) node → answer ≡ tried_answer (caller.site old) node it asked.thread)
  pub made : (whole : caller.Whole) → caller.stands old whole
      → let node = caller.record_in (caller.site old) whole in
      IsLong (caller.site old) node
      → caller.stands new (whole_after caller (caller.site old) whole
      (end_calls it (segment_in (caller.site old) node) asked answer))
  pub next_is : next ≡ ended_then answer it

-- ---- its parts

-- it was not refused: a phase is open, and the place of the result isn't bad
pub record MayEnd (it : CollectivesState) (dest : ℕ) : Type 0 where
  pub opened : it.ended < it.started
  pub good : is_bad_dest it.area it.settings.segment it.me it.shape dest ≡ false

-- the poll was made, and the answer is by it
pub record Polls {K : Type 0} (caller : Ghosts K) (it : CollectivesState) (old : K) (thread : ℕ) (answer : EndAnswer)
    (new : K) : Type 0 where
  pub site : caller.site new ≡ caller.site old
  pub reference : caller.lent new ≡ caller.lent old
  pub answered : ForItsNode caller old (λ node.
      IsLong (caller.site old) node → answer ≡ tried_answer (caller.site old) node it thread)
  pub made : (whole : caller.Whole) → caller.stands old whole
      → IsLong (caller.site old) (caller.record_in (caller.site old) whole)
      → caller.stands new (caller.after (caller.site old) whole (poll_call thread))

-- the result has a piece with this number, whatever stands in the segment
abbrev pub HasPiece : CollectivesState → (index : ℕ) → Type 0
HasPiece it index = (segment : List ℕ) → index < length (result_in it segment)

-- the piece was written at the offset, if memory didn't run out
pub record WritesPiece {K : Type 0} (caller : Ghosts K) (it : CollectivesState) (old : K) (thread index offset : ℕ)
    (done : Bool) (new : K) : Type 0 where
  pub site : caller.site new ≡ caller.site old
  pub reference : caller.lent new ≡ caller.lent old
  pub wrote : (whole : caller.Whole) → caller.stands old whole
      → let node = caller.record_in (caller.site old) whole in
      IsLong (caller.site old) node
      → (piece : List ℕ) → slice_get (result_in it (segment_in (caller.site old) node)) index ≡ Some piece
      → (done ≡ true)
      × caller.stands new (caller.after (caller.site old) whole
      (set_call thread (record { offset = offset; bytes = piece })))

-- all pieces were written, if memory didn't run out
pub record WritesResult {K : Type 0} (caller : Ghosts K) (it : CollectivesState) (old : K) (asked : EndAsked)
    (done : Bool) (new : K) : Type 0 where
  pub site : caller.site new ≡ caller.site old
  pub reference : caller.lent new ≡ caller.lent old
  pub wrote : (whole : caller.Whole) → caller.stands old whole
      → let node = caller.record_in (caller.site old) whole in
      IsLong (caller.site old) node
      → (done ≡ true)
      × caller.stands new (whole_after caller (caller.site old) whole
      (result_calls it (segment_in (caller.site old) node) asked))

-- ---- a try

-- the first refusal that applies, else a try
abbrev pub Ends : {K : Type 0} → (caller : Ghosts K) → CollectivesState → K → EndAsked → EndAnswer
    → CollectivesState → K → Type 0
Ends caller it old asked answer next new =
    elim (end_refusal it.area it.settings.segment it.me (progress_of it) asked.dest) [
      | Some refusal ↦ Refuses it old refusal answer next new
      | None ↦ Tries caller it old asked answer next new
    ]
