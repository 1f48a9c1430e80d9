-- What happens at the events of a run.
use Rattle.std.specs.Prelude.{◌≡◌, ◌⊎◌, List, [], ◌∷◌}
use Rattle.spec_node.specs.declared.answer.Delivered.{Delivered}
use Rattle.spec_node.specs.NodeStep.{Job, OfDelivery}
use Rattle.spec_network.specs.World.{World, EventAt, WorldAnswer, OfNode, world_answer, world_after, run}
use Rattle.spec_network.specs.PlainStep.{RequestName}
use Rattle.spec_network.specs.Headline.{request_comes, reply_comes, IsRanAnswer, IsReturned}

-- an event of a run: the state in which it comes, the event with its time, and the events after it
pub record Moment (Local Call : Type 0) : Type 0 where
  pub before : World Local
  pub timed : EventAt Call
  pub later : List (EventAt Call)

-- how it is answered
abbrev pub answer_in : {Local Call Told : Type 0} → Job Local Call Told → Moment Local Call → WorldAnswer Told
answer_in job moment = world_answer job moment.before moment.timed

-- the state after it
abbrev pub after_in : {Local Call Told : Type 0} → Job Local Call Told → Moment Local Call → World Local
after_in job moment = world_after job moment.before moment.timed

-- the state after all events
abbrev pub end_of : {Local Call Told : Type 0} → Job Local Call Told → Moment Local Call → World Local
end_of job moment = run job moment.later (after_in job moment)

-- ---- when

-- at one of these events, from this state on
abbrev pub Sometime : {Local Call Told : Type 0}
    → Job Local Call Told → (Moment Local Call → Type 0) → List (EventAt Call) → World Local → Type 0
Sometime job fact [] world = ⊥
Sometime job fact (timed ∷ later) world =
    fact (record { before = world; timed = timed; later = later })
    ⊎ Sometime job fact later (world_after job world timed)

-- at one of them, and at no other
abbrev pub ExactlyOnce : {Local Call Told : Type 0}
    → Job Local Call Told → (Moment Local Call → Type 0) → List (EventAt Call) → World Local → Type 0
ExactlyOnce job fact [] world = ⊥
ExactlyOnce {Local} {Call} job fact (timed ∷ later) world =
    let moment : Moment Local Call = record { before = world; timed = timed; later = later } in
    let after = world_after job world timed in
    (fact moment × (Sometime job fact later after → ⊥)) ⊎ ((fact moment → ⊥) × ExactlyOnce job fact later after)

-- ---- what

-- the request is delivered, and runs
pub record Runs {Local Call Told : Type 0} (job : Job Local Call Told) (name : RequestName) (moment : Moment Local Call)
    : Type 0 where
  pub event : moment.timed.event ≡ request_comes name
  pub answer : Delivered
  pub answered : answer_in job moment ≡ OfNode (OfDelivery answer)
  pub ran : IsRanAnswer answer

-- its reply is delivered, and is taken
pub record ComesBack {Local Call Told : Type 0} (job : Job Local Call Told) (name : RequestName)
    (moment : Moment Local Call)
    : Type 0 where
  pub event : moment.timed.event ≡ reply_comes name
  pub answer : Delivered
  pub answered : answer_in job moment ≡ OfNode (OfDelivery answer)
  pub returned : IsReturned answer
