-- What one event leaves of what a node keeps beside its requests and runs.
use Rattle.std.proofs.Common.{◌≡◌, ◌⊎◌, inl, inr, ℕ, refl, sym, ap, ◌∙◌, subst}
use Rattle.std.proofs.lemmas.Bool.{cases_eq}
use Rattle.wire_message.specs.Content.{Content}
use Rattle.part_handlers.specs.declared.rules.Forbidden.{Forbidden}
use Rattle.base_lists.specs.Put.{put}
use Rattle.base_lists.proofs.Put.{put_same, put_other}
use Rattle.spec_node.specs.declared.answer.Asked.{Asked}
use Rattle.spec_node.specs.declared.answer.Asked.TheVariants as asked
use Rattle.spec_node.specs.declared.answer.Delivered.{Delivered}
use Rattle.spec_node.specs.declared.answer.Delivered.TheVariants as delivered
use Rattle.spec_node.specs.declared.answer.Ticked.{Ticked}
use Rattle.spec_node.specs.declared.answer.Ticked.TheVariants as ticked
use Rattle.spec_node.specs.Behaviour.{Ask, Contact}
use Rattle.spec_node.specs.Step.{ran_here}
use Rattle.spec_node.specs.NodeStep.{Job, site_of, NodeAnswer, OfRequest, OfCall, OfDelivery, OfTick}
use Rattle.spec_network.specs.World.{Event, Asks, Does, RequestComes, ReplyComes, Ticks, WorldAnswer, OfNode, Unsent}
use Rattle.spec_network.specs.Plain.{Plain}
use Rattle.spec_network.specs.PlainStep.{request_name, AskStep, RunStep, RunsFirst, TakeStep, TickStep, SendsFirst, CallStep}
use Rattle.spec_network.specs.PlainStep.{NodeStep, UnsentStep, PlainStep, plain_exhausted}

-- what the node keeps is as it was; or the event fell there, and left this of it
pub data LocalStep {Local Call Told : Type 0} (job : Job Local Call Told) (p q : Plain Local) (e : Event Call)
    (a : WorldAnswer Told) (node : ℕ) : Type 0 where
  Same : q.local node ≡ p.local node → LocalStep job p q e a node
  Notifications : (thread : ℕ) (forbidden : Forbidden)
      → q.local node ≡ job.behaviour.messages.notes thread forbidden (p.local node) → LocalStep job p q e a node
  RunsHere : (content : Content) → q.local node ≡ ran_here job.behaviour.messages node content (p.local node)
      → LocalStep job p q e a node
  Runs : (contact : Contact) (content : Content)
      → q.local node ≡ (job.behaviour.messages.run contact content (p.local node)).0 → LocalStep job p q e a node
  Takes : (contact : Contact) (content : Content)
      → q.local node ≡ job.behaviour.messages.take contact content (p.local node) → LocalStep job p q e a node
  Sends : (answer : Ticked) → e ≡ Ticks node → a ≡ OfNode (OfTick answer) → SendsFirst (site_of job node) p answer q
      → LocalStep job p q e a node
  Calls : (thread : ℕ) (call : Call) → e ≡ Does node thread call
      → q.local node
      ≡ (job.behaviour.does node (plain_exhausted job.settings p node) thread call (p.local node)).1
      → LocalStep job p q e a node

-- what one node gets
put_local : {Local : Type 0} (p q : Plain Local) (i : ℕ) (l : Local) (node : ℕ) → q.local ≡ put p.local i l
    → (q.local node ≡ p.local node) ⊎ ((node ≡ i) × (q.local node ≡ l))
put_local p q i l node e = elim (cases_eq node i) [
  | inl is ↦ inr (is, ap (λ f. f node) e ∙ (ap (put p.local i l) is ∙ put_same p.local i l))
  | inr other ↦ inl (ap (λ f. f node) e ∙ put_other p.local i l node other)
]

-- nothing changed
unchanged : {Local Call Told : Type 0} (job : Job Local Call Told) (p q : Plain Local) (e : Event Call)
    (a : WorldAnswer Told) (node : ℕ) → q ≡ p → LocalStep job p q e a node
unchanged job p q e a node is = Same (ap (λ (r : Plain _). r.local node) is)

-- a request of a thread
ask_step : {Local Call Told : Type 0} (job : Job Local Call Told) (p q : Plain Local) (i : ℕ) (ask : Ask)
    (e : Event Call) (b : WorldAnswer Told) (node : ℕ) (a : Asked) → AskStep (site_of job i) p ask a q
    → LocalStep job p q e b node
ask_step job p q i ask e b node (asked.Accepted to slot k) h = Same (ap (λ (r : Plain _). r.local node) h.3)
ask_step job p q i ask e b node asked.NotYet h = unchanged job p q e b node h.3
ask_step job p q i ask e b node asked.Exhausted h = unchanged job p q e b node h.2
ask_step job p q i ask e b node (asked.BadArg part) h = unchanged job p q e b node h.2
ask_step job p q i ask e b node (asked.LockBusy lock) h = unchanged job p q e b node h.3
ask_step job p q i ask e b node asked.Ran h =
    let content = job.behaviour.messages.says ask.what (p.local i) in
    elim (put_local p q i (ran_here job.behaviour.messages i content (p.local i)) node
    (ap (λ (r : Plain _). r.local) h.3)) [
      | inl same ↦ Same same
      | inr it ↦ RunsHere content
          (it.1 ∙ ap (λ j. ran_here job.behaviour.messages j content (p.local j)) (sym it.0))
    ]
ask_step job p q i ask e b node (asked.Forbidden forbidden) h =
    elim (put_local p q i (job.behaviour.messages.notes ask.thread forbidden (p.local i)) node
    (ap (λ (r : Plain _). r.local) h.1)) [
      | inl same ↦ Same same
      | inr it ↦ Notifications ask.thread forbidden
          (it.1 ∙ ap (λ j. job.behaviour.messages.notes ask.thread forbidden (p.local j)) (sym it.0))
    ]

-- a request runs
first_step : {Local Call Told : Type 0} (job : Job Local Call Told) (p q : Plain Local) (from to number : ℕ)
    (e : Event Call) (b : WorldAnswer Told) (node : ℕ) (a : Delivered)
    → RunsFirst job.behaviour.messages p (request_name from to number) a q → LocalStep job p q e b node
first_step job p q from to number e b node a h =
    let contact : Contact = record { me = to; peer = from; slot = h.request.slot; number = number } in
    let content = h.request.content in
    elim (put_local p q to (job.behaviour.messages.run contact content (p.local to)).0 node
    (ap (λ (r : Plain _). r.local) h.leaves)) [
      | inl same ↦ Same same
      | inr it ↦ Runs contact content
          (it.1 ∙ ap (λ j. (job.behaviour.messages.run contact content (p.local j)).0) (sym it.0))
    ]

run_step : {Local Call Told : Type 0} (job : Job Local Call Told) (p q : Plain Local) (from to number : ℕ)
    (e : Event Call) (b : WorldAnswer Told) (node : ℕ) (a : Delivered)
    → RunStep job.behaviour.messages p (request_name from to number) a q → LocalStep job p q e b node
run_step job p q from to number e b node (delivered.Duplicate at) h = unchanged job p q e b node h.4
run_step job p q from to number e b node delivered.Stale h = unchanged job p q e b node h.3
run_step job p q from to number e b node (delivered.Deferred lock) h = unchanged job p q e b node h.3
run_step job p q from to number e b node a h = first_step job p q from to number e b node a h

-- a reply comes
take_step : {Local Call Told : Type 0} (job : Job Local Call Told) (p q : Plain Local) (from to number : ℕ)
    (e : Event Call) (b : WorldAnswer Told) (node : ℕ) (a : Delivered)
    → TakeStep job.behaviour.messages p (request_name from to number) a q → LocalStep job p q e b node
take_step job p q from to number e b node (delivered.Returned peer slot n) h =
    let contact : Contact = record { me = from; peer = to; slot = h.request.slot; number = number } in
    elim (put_local p q from (job.behaviour.messages.take contact h.reply (p.local from)) node
    (ap (λ (r : Plain _). r.local) h.leaves)) [
      | inl same ↦ Same same
      | inr it ↦ Takes contact h.reply
          (it.1 ∙ ap (λ j. job.behaviour.messages.take contact h.reply (p.local j)) (sym it.0))
    ]
take_step job p q from to number e b node delivered.Late h = unchanged job p q e b node h.1
take_step job p q from to number e b node (delivered.Deferred lock) h = unchanged job p q e b node h.4
take_step job p q from to number e b node a h = absurd h

-- a tick sends a request of the node's own accord
send_step : {Local Call Told : Type 0} (job : Job Local Call Told) (p q : Plain Local) (i node : ℕ) (a : Ticked)
    → SendsFirst (site_of job i) p a q → LocalStep {Call = Call} {Told = Told} job p q (Ticks i) (OfNode (OfTick a))
    node
send_step {Call = Call} {Told = Told} job p q i node a h =
    let contact : Contact = record { me = i; peer = h.to; slot = h.request.slot; number = h.claim.number } in
    elim (put_local p q i (job.behaviour.messages.issued contact h.request.content (p.local i)) node
    (ap (λ (r : Plain _). r.local) h.leaves)) [
      | inl same ↦ Same same
      | inr it ↦ subst (λ j. LocalStep {Call = Call} {Told = Told} job p q (Ticks i) (OfNode (OfTick a)) j) (sym it.0)
          (Sends a refl refl h)
    ]

tick_step : {Local Call Told : Type 0} (job : Job Local Call Told) (p q : Plain Local) (i node : ℕ) (a : Ticked)
    → TickStep (site_of job i) p a q → LocalStep {Call = Call} {Told = Told} job p q (Ticks i) (OfNode (OfTick a)) node
tick_step job p q i node (ticked.Retransmission at) h = unchanged job p q _ _ node h.6
tick_step job p q i node ticked.Nothing h = unchanged job p q _ _ node h.1
tick_step job p q i node a h = send_step job p q i node a h

-- another call
call_step : {Local Call Told : Type 0} (job : Job Local Call Told) (p q : Plain Local) (e : Event Call)
    (b : WorldAnswer Told) (node : ℕ) (a : Told) → CallStep job p e a q → LocalStep job p q e b node
call_step job p q (Does i thread call) b node a h =
    elim (put_local p q i (job.behaviour.does i (plain_exhausted job.settings p i) thread call (p.local i)).1 node
    (ap (λ (r : Plain _). r.local) h.1)) [
      | inl same ↦ Same same
      | inr it ↦ Calls thread call (ap (λ j. Does j thread call) (sym it.0))
          (it.1 ∙ ap (λ j. (job.behaviour.does j (plain_exhausted job.settings p j) thread call (p.local j)).1)
          (sym it.0))
    ]
call_step job p q e b node a h = absurd h

-- an event that falls on a node
node_step : {Local Call Told : Type 0} (job : Job Local Call Told) (p q : Plain Local) (e : Event Call)
    (a : NodeAnswer Told) (node : ℕ) → NodeStep job p e a q → LocalStep job p q e (OfNode a) node
node_step job p q (Asks i ask) (OfRequest a) node h = ask_step job p q i ask _ _ node a h
node_step job p q (RequestComes i j k) (OfDelivery a) node h = run_step job p q i j k _ _ node a h
node_step job p q (ReplyComes i j k) (OfDelivery a) node h = take_step job p q i j k _ _ node a h
node_step job p q (Ticks i) (OfTick a) node h = tick_step job p q i node a h
node_step job p q e (OfCall a) node h = call_step job p q e _ node a h
node_step job p q e a node h = absurd h

-- a message that wasn't sent
unsent_step : {Local Call Told : Type 0} (job : Job Local Call Told) (p q : Plain Local) (e : Event Call)
    (a : WorldAnswer Told) (node : ℕ) → UnsentStep p e q → LocalStep job p q e a node
unsent_step job p q (RequestComes i j k) a node h = unchanged job p q _ a node h.1
unsent_step job p q (ReplyComes i j k) a node h = unchanged job p q _ a node h.1
unsent_step job p q e a node h = absurd h

-- each step
pub local_step : {Local Call Told : Type 0} (job : Job Local Call Told) (p q : Plain Local) (e : Event Call)
    (a : WorldAnswer Told) (node : ℕ) → PlainStep job p e a q → LocalStep job p q e a node
local_step job p q e (OfNode a) node h = node_step job p q e a node h
local_step job p q e Unsent node h = unsent_step job p q e _ node h
