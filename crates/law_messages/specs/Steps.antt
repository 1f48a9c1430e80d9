-- What an event of a run leaves of the requests and of the runs of all pairs.
use Rattle.std.specs.Prelude.{◌≡◌, ℕ, [], ◌∷◌, ◌++◌, Some}
use Rattle.spec_node.specs.declared.answer.Delivered.{Delivered}
use Rattle.spec_node.specs.declared.answer.Delivered.TheVariants as delivered
use Rattle.spec_node.specs.Behaviour.{Ask}
use Rattle.spec_node.specs.NodeStep.{Job, site_of, OfDelivery}
use Rattle.spec_network.specs.World.{Event, Asks, RequestComes, Ticks, WorldAnswer, OfNode}
use Rattle.spec_network.specs.Plain.{PlainRequest, Plain, put_pair}
use Rattle.spec_network.specs.PlainStep.{request_name, RunsFirst, next_of, plain_said}

-- the event is no delivery of a request of a client's that ran
abbrev pub IsNoRun : {Call Told : Type 0} → Event Call → WorldAnswer Told → Type 0
IsNoRun (RequestComes from to number) (OfNode (OfDelivery (delivered.Ran at))) = ⊥
IsNoRun event answer = Unit {0}

-- requests and runs are as they were; or a request of a thread was accepted, or one of a node's own; or a request ran,
-- and its run is the last of its pair
pub data RequestStep {Local Call Told : Type 0} (job : Job Local Call Told) (before after : Plain Local)
    (event : Event Call) (answer : WorldAnswer Told) : Type 0 where
  Same : IsNoRun event answer → after.requests ≡ before.requests → after.runs ≡ before.runs
      → RequestStep job before after event answer
  ThreadAsks : (from : ℕ) (ask : Ask) (slot : ℕ) → event ≡ Asks from ask
      → after.requests ≡ put_pair before.requests from ask.to
      (before.requests from ask.to
      ++ record { content = plain_said (site_of job from) before ask; slot = slot } ∷ [])
      → after.runs ≡ before.runs → RequestStep job before after event answer
  NodeAsks : (from to : ℕ) (request : PlainRequest) → event ≡ Ticks from
      → next_of (site_of job from) before ≡ Some (record { to = to; content = request.content })
      → after.requests ≡ put_pair before.requests from to (before.requests from to ++ request ∷ [])
      → after.runs ≡ before.runs → RequestStep job before after event answer
  Runs : (from to number : ℕ) (said : Delivered) → event ≡ RequestComes from to number
      → answer ≡ OfNode (OfDelivery said)
      → RunsFirst job.behaviour.messages before (request_name from to number) said after
      → RequestStep job before after event answer
