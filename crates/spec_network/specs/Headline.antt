-- The headline: what holds of every run of a world from its opening, whose events are among its nodes.
-- Origin: GASNet 1.8.1, core API, active messages: a request is run once, and its reply comes back to who asked.
-- Credits and slots are this project's profile.
use Rattle.std.specs.Prelude.{ℕ, suc, ◌≡◌, ◌<◌, ◌≤◌, true, List, [], ◌∷◌, take, Some, slice_get}
use Rattle.wire_message.specs.Content.{Content}
use Rattle.spec_node.specs.declared.answer.SlotRef.{SlotRef}
use Rattle.spec_node.specs.declared.answer.Delivered.{Delivered}
use Rattle.spec_node.specs.declared.answer.Delivered.TheVariants as delivered
use Rattle.spec_node.specs.Held.{held_buffers}
use Rattle.spec_node.specs.Behaviour.{RanRequest}
use Rattle.spec_node.specs.NodeStep.{Job, OfDelivery}
use Rattle.spec_network.specs.World.{World, opening, Event, RequestComes, ReplyComes, EventAt, WorldAnswer, OfNode}
use Rattle.spec_network.specs.World.{world_answer, run, answers_of}
use Rattle.spec_network.specs.Plain.{Plain, IsRequest, InRuns, reply_of, PlainRequest, plain_opening, plain_of}
use Rattle.spec_network.specs.PlainStep.{RequestName, PlainStep, PlainRun}
use Rattle.spec_network.specs.Sent.{SentAreRecorded}
use Rattle.spec_network.specs.Laws.{IsLawful}

-- ---- states

-- the world after the first events of a run
abbrev pub after_first : {Local Call Told : Type 0}
    → Job Local Call Told → List (EventAt Call) → World Local → (count : ℕ) → World Local
after_first job events world count = run job (take count events) world

-- what was asked, what was run with its reply, and what is back stays so
pub record Grows {Local : Type 0} (before after : Plain Local) : Type 0 where
  pub requests : (from to number : ℕ) (request : PlainRequest)
      → IsRequest before from to number request → IsRequest after from to number request
  pub runs : (from to number : ℕ) (reply : Content)
      → reply_of number (before.runs from to) ≡ Some reply → reply_of number (after.runs from to) ≡ Some reply
  pub back : (from to number : ℕ) → before.back from to number ≡ true → after.back from to number ≡ true

-- ---- events

-- it isn't a delivery that is answered Refused
abbrev pub IsUnrefused : {Call Told : Type 0} → Event Call → WorldAnswer Told → Type 0
IsUnrefused (RequestComes from to number) (OfNode (OfDelivery (delivered.Refused reason))) = ⊥
IsUnrefused (ReplyComes from to number) (OfNode (OfDelivery (delivered.Refused reason))) = ⊥
IsUnrefused _ _ = Unit {0}

-- each event has an answer, and no delivery is answered Refused
abbrev pub NoneRefused : {Call Told : Type 0} → List (EventAt Call) → List (WorldAnswer Told) → Type 0
NoneRefused [] [] = Unit {0}
NoneRefused (timed ∷ events) (answer ∷ answers) =
    IsUnrefused timed.event answer × NoneRefused events answers
NoneRefused _ _ = ⊥

-- at that place of a run with these answers is this event, and it is a delivery that was answered so
pub record Delivers
    {Call Told : Type 0} (events : List (EventAt Call)) (given : List (WorldAnswer Told)) (place : ℕ)
    (event : Event Call)
    (answer : Delivered) : Type 0 where
  pub now : ℕ
  pub event_is : slice_get events place ≡ Some (record { now = now; event = event })
  pub answer_is : slice_get given place ≡ Some (OfNode (OfDelivery answer))

-- the answer says that a request was run
abbrev pub IsRanAnswer : Delivered → Type 0
IsRanAnswer answer = (at : SlotRef) × RanRequest answer at

-- the answer says that a reply was taken
abbrev pub IsReturned : Delivered → Type 0
IsReturned (delivered.Returned to slot number) = Unit {0}
IsReturned _ = ⊥

abbrev pub request_comes : {Call : Type 0} → RequestName → Event Call
request_comes name = RequestComes name.from name.to name.number

abbrev pub reply_comes : {Call : Type 0} → RequestName → Event Call
reply_comes name = ReplyComes name.from name.to name.number

-- at that place of the run is this event, and it is a delivery whose answer says this
pub record Happens
    {Call Told : Type 0} (events : List (EventAt Call)) (given : List (WorldAnswer Told)) (event : Event Call)
    (Says : Delivered → Type 0) (place : ℕ) : Type 0 where
  pub answer : Delivered
  pub says : Says answer
  pub delivers : Delivers events given place event answer

-- at no two places
abbrev pub AtMostOnce : {Call Told : Type 0}
    → List (EventAt Call) → List (WorldAnswer Told) → Event Call → (Delivered → Type 0) → Type 0
AtMostOnce events given event Says =
    (place other : ℕ) → Happens events given event Says place → Happens events given event Says other → place ≡ other

-- each request is run at most once
abbrev pub RunsAtMostOnce : {Call Told : Type 0} → List (EventAt Call) → List (WorldAnswer Told) → Type 0
RunsAtMostOnce events given = (name : RequestName) → AtMostOnce events given (request_comes name) IsRanAnswer

-- its reply is taken at most once, and after the request was run
pub record TakenOnceRun
    {Call Told : Type 0} (events : List (EventAt Call)) (given : List (WorldAnswer Told)) : Type 0 where
  pub once : (name : RequestName) → AtMostOnce events given (reply_comes name) IsReturned
  pub ran : (name : RequestName) (place : ℕ) → Happens events given (reply_comes name) IsReturned place
      → (earlier : ℕ) × (earlier < place) × Happens events given (request_comes name) IsRanAnswer earlier

-- what is among the runs was run by a delivery, and what is back was brought back by one
pub record AreDelivered
    {Local Call Told : Type 0} (events : List (EventAt Call)) (given : List (WorldAnswer Told)) (end : Plain Local)
    : Type 0 where
  pub ran : (name : RequestName) → InRuns end name.from name.to name.number
      → (place : ℕ) × Happens events given (request_comes name) IsRanAnswer place
  pub returned : (name : RequestName) → end.back name.from name.to name.number ≡ true
      → (place : ℕ) × Happens events given (reply_comes name) IsReturned place

-- the event at that place of the run is answered by the state before it, and is a step of the plain world from there
-- to the state after it
pub record StepsAt
    {Local Call Told : Type 0} (job : Job Local Call Told) (start : ℕ → Local) (events : List (EventAt Call))
    (place : ℕ)
    (timed : EventAt Call) : Type 0 where
  pub answer : slice_get (answers_of job events (opening start)) place
      ≡ Some (world_answer job (after_first job events (opening start) place) timed)
  pub step : PlainStep job (plain_of (after_first job events (opening start) place)) timed.event
      (world_answer job (after_first job events (opening start) place) timed)
      (plain_of (after_first job events (opening start) (suc place)))

-- ---- the headline

-- of the run of the world by these events from the opening, where the nodes begin so
pub record Headline
    {Local Call Told : Type 0} (job : Job Local Call Told) (start : ℕ → Local) (events : List (EventAt Call))
    : Type 0 where
  -- it is a run of the plain world with the same answers, and no delivery is refused
  pub plain : PlainRun job (plain_opening start) events (answers_of job events (opening start))
      (plain_of (run job events (opening start)))
  pub unrefused : NoneRefused events (answers_of job events (opening start))
  pub steps : (place : ℕ) (timed : EventAt Call)
      → slice_get events place ≡ Some timed → StepsAt job start events place timed
  -- after any number of its events the laws of a state hold
  pub states : (count : ℕ) → IsLawful job (after_first job events (opening start) count)
  -- requests, runs and what is back only become more
  pub grows : (count : ℕ) → Grows (plain_of (after_first job events (opening start) count))
      (plain_of (after_first job events (opening start) (suc count)))
  -- a request is run at most once; its reply is taken at most once, and where it was, the request was run before;
  -- what ran and what is back at the end was run and taken so
  pub once : RunsAtMostOnce events (answers_of job events (opening start))
  pub taken : TakenOnceRun events (answers_of job events (opening start))
  pub delivered : AreDelivered events (answers_of job events (opening start))
      (plain_of (run job events (opening start)))
  -- after any number of its events the messages that may be delivered are those that were sent
  pub sent : (count : ℕ) → SentAreRecorded job start (take count events)

-- the greatest number of message buffers that the node held in a state of a run
pub record IsGreatest
    {Local Call Told : Type 0} (job : Job Local Call Told) (events : List (EventAt Call)) (world : World Local)
    (node most : ℕ) : Type 0 where
  pub reached : (count : ℕ) × (held_buffers job.settings node (after_first job events world count node) ≡ most)
  pub never_more : (count : ℕ) → held_buffers job.settings node (after_first job events world count node) ≤ most
