-- What a start does: the call that it makes, how it is answered, and how far the node is then.
use Rattle.std.specs.Prelude.{ℕ, ◌≡◌, ◌+◌, ◌-◌, ◌<◌, ◌≤◌, ◌^◌, Option, None, Some}
use Rattle.spec_node.specs.declared.answer.Asked.TheVariants as asked
use Rattle.spec_node.specs.Behaviour.{Ask}
use Rattle.node_rules.specs.Called.{Requests}
use Rattle.node_rules.specs.declared.answer.Answer.{Answer}
use Rattle.node_rules.specs.declared.answer.Answer.TheVariants as answers
use Rattle.node_endpoint.specs.declared.caller.Caller.{Ghosts}
use Rattle.node_endpoint.specs.Sites.{ThreadCall}
use Rattle.node_endpoint.specs.Making.{MakesOne}
use Rattle.part_collective_area.specs.declared.shape.Shape.{Shape}
use Rattle.node_collectives.specs.declared.answers.StartAnswer.{StartAnswer}
use Rattle.node_collectives.specs.declared.answers.StartAnswer.TheVariants as start_answers
use Rattle.node_collectives.specs.Progress.{start_refusal, start_ask}
use Rattle.node_collectives.specs.CollectivesState.{CollectivesState, IsWithin, no_nodes, progress_of}

-- a start of this thread, with the bytes at `from`
pub record StartAsked : Type 0 where
  pub thread : ℕ
  pub shape : Shape
  pub from : ℕ

-- a request, as a call of its thread
abbrev pub call_of : Ask → ThreadCall
call_of ask = record { thread = ask.thread; call = Requests ask.to ask.what }

-- the call that a start makes
abbrev pub start_call : CollectivesState → StartAsked → ThreadCall
start_call it asked = call_of (start_ask it.area it.me asked.thread (progress_of it) asked.shape asked.from)

-- by the answer of its call, if memory didn't run out: the call is forbidden or waits for a lock, else the phase is
-- started
abbrev pub start_told : Option Answer → StartAnswer
start_told None = start_answers.NoMemory
start_told (Some (answers.Forbidden forbidden)) = start_answers.Forbidden forbidden
start_told (Some (answers.Asked (asked.LockBusy lock))) = start_answers.LockBusy lock
start_told (Some other) = start_answers.Started

-- how far the node is, where the start was answered so
abbrev pub started_then : StartAnswer → CollectivesState → Shape → CollectivesState
started_then start_answers.Started it shape = record it {
  started = it.started + 1;
  shape = shape;
  sent = no_nodes;
  exhausted = no_nodes;
}
started_then other it shape = it

-- what a start that isn't refused has
pub record Passes (it : CollectivesState) (shape : Shape) (from : ℕ) : Type 0 where
  pub shut : it.started ≡ it.ended
  pub shape_good : IsWithin it.area shape
  pub inside : from + shape.len ≤ it.settings.segment
  pub left : it.started < 2 ^ 64 - 1

-- the call was made, or memory ran out; the caller is at the same site, and has its node by the same reference
pub record CallsOne {K : Type 0} (caller : Ghosts K) (old : K) (call : ThreadCall) (told : Option Answer) (new : K)
    : Type 0 where
  pub made : MakesOne caller old call told new
  pub site : caller.site new ≡ caller.site old
  pub reference : caller.lent new ≡ caller.lent old

-- it made its call, or memory ran out
pub record Calls {K : Type 0} (caller : Ghosts K) (it : CollectivesState) (old : K) (asked : StartAsked)
    (answer : StartAnswer) (next : CollectivesState) (new : K) : Type 0 where
  pub told : Option Answer
  pub called : CallsOne caller old (start_call it asked) told new
  pub answer_is : answer ≡ start_told told
  pub next_is : next ≡ started_then answer it asked.shape

-- it was refused, and nothing changed
pub record Refuses {K : Type 0} {Answer : Type 0} (it : CollectivesState) (old : K) (refusal answer : Answer)
    (next : CollectivesState) (new : K) : Type 0 where
  pub answer_is : answer ≡ refusal
  pub next_is : next ≡ it
  pub same : new ≡ old

-- the first refusal that applies, else the call
abbrev pub Starts : {K : Type 0} → (caller : Ghosts K) → CollectivesState → K → StartAsked → StartAnswer
    → CollectivesState → K → Type 0
Starts caller it old asked answer next new =
    elim (start_refusal it.area it.settings.segment (progress_of it) asked.shape asked.from) [
      | Some refusal ↦ Refuses it old refusal answer next new
      | None ↦ Calls caller it old asked answer next new
    ]
