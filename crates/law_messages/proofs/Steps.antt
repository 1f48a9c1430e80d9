-- What an event of a run leaves of requests and runs.
use Rattle.std.proofs.Common.{◌≡◌, ℕ, refl, ap}
use Rattle.spec_node.specs.declared.answer.Asked.{Asked}
use Rattle.spec_node.specs.declared.answer.Asked.TheVariants as asked
use Rattle.spec_node.specs.declared.answer.Delivered.{Delivered}
use Rattle.spec_node.specs.declared.answer.Delivered.TheVariants as delivered
use Rattle.spec_node.specs.declared.answer.Ticked.{Ticked}
use Rattle.spec_node.specs.declared.answer.Ticked.TheVariants as ticked
use Rattle.spec_node.specs.Behaviour.{Ask}
use Rattle.spec_node.specs.NodeStep.{Job, site_of, NodeAnswer, OfRequest, OfCall, OfDelivery, OfTick}
use Rattle.spec_network.specs.World.{Event, Asks, Does, RequestComes, ReplyComes, Ticks, WorldAnswer, OfNode, Unsent}
use Rattle.spec_network.specs.Plain.{Plain}
use Rattle.spec_network.specs.PlainStep.{request_name, AskStep, CallStep, NodeStep, PlainStep, RunStep, TakeStep, TickStep}
use Rattle.spec_network.specs.PlainStep.{UnsentStep}
use Rattle.law_messages.specs.Steps.{IsNoRun, RequestStep, Same, ThreadAsks, NodeAsks, Runs}

-- nothing changed
same : {Local Call Told : Type 0} (job : Job Local Call Told) (p q : Plain Local) (e : Event Call)
    (a : WorldAnswer Told) → IsNoRun e a → q ≡ p → RequestStep job p q e a
same job p q e a none is = Same none (ap (λ (r : Plain _). r.requests) is) (ap (λ (r : Plain _). r.runs) is)

-- a request of a thread
ask_step : {Local Call Told : Type 0} (job : Job Local Call Told) (p q : Plain Local) (i : ℕ) (ask : Ask)
    (b : WorldAnswer Told) (a : Asked) → AskStep (site_of job i) p ask a q
    → RequestStep {Call = Call} job p q (Asks i ask) b
ask_step job p q i ask b (asked.Accepted to slot k) h =
    ThreadAsks i ask slot refl (ap (λ (r : Plain _). r.requests) h.3) (ap (λ (r : Plain _). r.runs) h.3)
ask_step job p q i ask b asked.NotYet h = same job p q _ b tt h.3
ask_step job p q i ask b asked.Exhausted h = same job p q _ b tt h.2
ask_step job p q i ask b (asked.BadArg part) h = same job p q _ b tt h.2
ask_step job p q i ask b (asked.LockBusy lock) h = same job p q _ b tt h.3
ask_step job p q i ask b asked.Ran h =
    Same tt (ap (λ (r : Plain _). r.requests) h.3) (ap (λ (r : Plain _). r.runs) h.3)
ask_step job p q i ask b (asked.Forbidden forbidden) h =
    Same tt (ap (λ (r : Plain _). r.requests) h.1) (ap (λ (r : Plain _). r.runs) h.1)

-- a request that comes
run_step : {Local Call Told : Type 0} (job : Job Local Call Told) (p q : Plain Local) (i j k : ℕ) (a : Delivered)
    → RunStep job.behaviour.messages p (request_name i j k) a q
    → RequestStep {Call = Call} {Told = Told} job p q (RequestComes i j k) (OfNode (OfDelivery a))
run_step job p q i j k (delivered.Duplicate at) h = same job p q _ _ tt h.4
run_step job p q i j k delivered.Stale h = same job p q _ _ tt h.3
run_step job p q i j k (delivered.Deferred lock) h = same job p q _ _ tt h.3
run_step job p q i j k a h = Runs i j k a refl refl h

-- a reply that comes
take_step : {Local Call Told : Type 0} (job : Job Local Call Told) (p q : Plain Local) (i j k : ℕ)
    (b : WorldAnswer Told) (a : Delivered) → TakeStep job.behaviour.messages p (request_name i j k) a q
    → RequestStep {Call = Call} job p q (ReplyComes i j k) b
take_step job p q i j k b (delivered.Returned peer slot n) h =
    Same tt (ap (λ (r : Plain _). r.requests) h.leaves) (ap (λ (r : Plain _). r.runs) h.leaves)
take_step job p q i j k b delivered.Late h = same job p q _ b tt h.1
take_step job p q i j k b (delivered.Deferred lock) h = same job p q _ b tt h.4
take_step job p q i j k b a h = absurd h

-- a tick
tick_step : {Local Call Told : Type 0} (job : Job Local Call Told) (p q : Plain Local) (i : ℕ)
    (b : WorldAnswer Told) (a : Ticked) → TickStep (site_of job i) p a q
    → RequestStep {Call = Call} job p q (Ticks i) b
tick_step job p q i b (ticked.Retransmission at) h = same job p q _ b tt h.6
tick_step job p q i b ticked.Nothing h = same job p q _ b tt h.1
tick_step job p q i b a h =
    NodeAsks i h.to h.request refl h.given (ap (λ (r : Plain _). r.requests) h.leaves)
    (ap (λ (r : Plain _). r.runs) h.leaves)

-- another call
call_step : {Local Call Told : Type 0} (job : Job Local Call Told) (p q : Plain Local) (e : Event Call)
    (b : WorldAnswer Told) (a : Told) → CallStep job p e a q → RequestStep job p q e b
call_step job p q (Does i thread call) b a h =
    Same tt (ap (λ (r : Plain _). r.requests) h.1) (ap (λ (r : Plain _). r.runs) h.1)
call_step job p q e b a h = absurd h

-- an event that falls on a node
node_step : {Local Call Told : Type 0} (job : Job Local Call Told) (p q : Plain Local) (e : Event Call)
    (a : NodeAnswer Told) → NodeStep job p e a q → RequestStep job p q e (OfNode a)
node_step job p q (Asks i ask) (OfRequest a) h = ask_step job p q i ask _ a h
node_step job p q (RequestComes i j k) (OfDelivery a) h = run_step job p q i j k a h
node_step job p q (ReplyComes i j k) (OfDelivery a) h = take_step job p q i j k _ a h
node_step job p q (Ticks i) (OfTick a) h = tick_step job p q i _ a h
node_step job p q e (OfCall a) h = call_step job p q e _ a h
node_step job p q e a h = absurd h

-- a message that was never sent
unsent_step : {Local Call Told : Type 0} (job : Job Local Call Told) (p q : Plain Local) (e : Event Call)
    → UnsentStep p e q → RequestStep job p q e Unsent
unsent_step job p q (RequestComes i j k) h = same job p q _ Unsent tt h.1
unsent_step job p q (ReplyComes i j k) h = same job p q _ Unsent tt h.1
unsent_step job p q e h = absurd h

-- each step
pub request_step : {Local Call Told : Type 0} (job : Job Local Call Told) (p q : Plain Local) (e : Event Call)
    (a : WorldAnswer Told) → PlainStep job p e a q → RequestStep job p q e a
request_step job p q e (OfNode a) h = node_step job p q e a h
request_step job p q e Unsent h = unsent_step job p q e h
