-- What a step of the plain world changes.
use Rattle.std.proofs.Common.{◌≡◌, ℕ, refl}
use Rattle.spec_node.specs.declared.answer.Asked.{Asked}
use Rattle.spec_node.specs.declared.answer.Asked.TheVariants as asked
use Rattle.spec_node.specs.declared.answer.Delivered.{Delivered}
use Rattle.spec_node.specs.declared.answer.Delivered.TheVariants as delivered
use Rattle.spec_node.specs.declared.answer.Ticked.{Ticked}
use Rattle.spec_node.specs.declared.answer.Ticked.TheVariants as ticked
use Rattle.spec_node.specs.Behaviour.{Behaviour, Ask}
use Rattle.spec_node.specs.Step.{reply_slot}
use Rattle.spec_node.specs.NodeStep.{Job, site_of, NodeAnswer, OfRequest, OfCall, OfDelivery, OfTick}
use Rattle.spec_network.specs.World.{Event, Asks, Does, RequestComes, ReplyComes, Ticks, WorldAnswer, OfNode, Unsent}
use Rattle.spec_network.specs.Plain.{Plain, PlainRequest, RunReply, with_plain}
use Rattle.spec_network.specs.Plain.{with_plain_request, with_replied, with_credit}
use Rattle.spec_network.specs.PlainStep.{RequestName, request_name, AskStep, RunStep, TakeStep, TickStep, CallStep, NodeStep}
use Rattle.spec_network.specs.PlainStep.{UnsentStep, PlainStep}
use Rattle.spec_network.specs.Headline.{IsRanAnswer, IsReturned}

-- the plain world with one request of a pair more, whatever its nodes keep
abbrev pub with_asked : {Local : Type 0} → Plain Local → (from to : ℕ) → PlainRequest → (ℕ → Local) → Plain Local
with_asked p from to x local = record (with_plain_request p from to x) { local = local }

-- nothing, or what a node keeps; or one request is accepted, is run where it comes, or comes back
pub data Changes {Local Call Told : Type 0} (p q : Plain Local) (e : Event Call) (a : WorldAnswer Told) : Type 0 where
  Nothing : q ≡ p → Changes p q e a
  Keeps : (node : ℕ) (l : Local) → q ≡ with_plain p node l → Changes p q e a
  Accepts : (from to : ℕ) (request : PlainRequest) (local : ℕ → Local) → q ≡ with_asked p from to request local
      → Changes p q e a
  Runs : (from to : ℕ) (ran : RunReply) (l : Local) (b : Delivered) → IsRanAnswer b
      → e ≡ RequestComes from to ran.number → a ≡ OfNode (OfDelivery b) → q ≡ with_replied p from to ran l
      → Changes p q e a
  Returns : (from to number : ℕ) (l : Local) (b : Delivered) → IsReturned b → e ≡ ReplyComes from to number
      → a ≡ OfNode (OfDelivery b) → q ≡ with_credit p from to number l → Changes p q e a

-- a request of a thread
ask_changes : {Local Call Told : Type 0} (job : Job Local Call Told) (p q : Plain Local) (i : ℕ) (ask : Ask)
    (e : Event Call) (b : WorldAnswer Told) (a : Asked) → AskStep (site_of job i) p ask a q → Changes p q e b
ask_changes job p q i ask e b (asked.Accepted to slot k) h = Accepts i ask.to _ p.local h.3
ask_changes job p q i ask e b asked.NotYet h = Nothing h.3
ask_changes job p q i ask e b asked.Exhausted h = Nothing h.2
ask_changes job p q i ask e b (asked.BadArg part) h = Nothing h.2
ask_changes job p q i ask e b (asked.LockBusy lock) h = Nothing h.3
ask_changes job p q i ask e b asked.Ran h = Keeps i _ h.3
ask_changes job p q i ask e b (asked.Forbidden forbidden) h = Keeps i _ h.1

-- a request comes
run_changes : {Local Call Told : Type 0} (behaviour : Behaviour Local) (p q : Plain Local) (name : RequestName)
    (a : Delivered)
    → RunStep behaviour p name a q
    → Changes {Call = Call} {Told = Told} p q (RequestComes name.from name.to name.number) (OfNode (OfDelivery a))
run_changes behaviour p q name (delivered.Duplicate at) h = Nothing h.4
run_changes behaviour p q name delivered.Stale h = Nothing h.3
run_changes behaviour p q name (delivered.Deferred lock) h = Nothing h.3
run_changes behaviour p q name a h =
    Runs name.from name.to _ _ a (reply_slot name.from h.request.slot, h.is_run) refl refl h.leaves

-- a reply comes
take_changes : {Local Call Told : Type 0} (behaviour : Behaviour Local) (p q : Plain Local) (name : RequestName)
    (a : Delivered)
    → TakeStep behaviour p name a q
    → Changes {Call = Call} {Told = Told} p q (ReplyComes name.from name.to name.number) (OfNode (OfDelivery a))
take_changes behaviour p q name (delivered.Returned to slot number) h =
    Returns name.from name.to name.number _ (delivered.Returned to slot number) tt refl refl h.leaves
take_changes behaviour p q name delivered.Late h = Nothing h.1
take_changes behaviour p q name (delivered.Deferred lock) h = Nothing h.4
take_changes behaviour p q name a h = absurd h

-- a tick
tick_changes : {Local Call Told : Type 0} (job : Job Local Call Told) (p q : Plain Local) (i : ℕ) (e : Event Call)
    (b : WorldAnswer Told) (a : Ticked) → TickStep (site_of job i) p a q → Changes p q e b
tick_changes job p q i e b (ticked.Retransmission at) h = Nothing h.6
tick_changes job p q i e b ticked.Nothing h = Nothing h.1
tick_changes job p q i e b a h = Accepts i h.to h.request _ h.leaves

-- another call
call_changes : {Local Call Told : Type 0} (job : Job Local Call Told) (p q : Plain Local) (e : Event Call)
    (b : WorldAnswer Told) (a : Told) → CallStep job p e a q → Changes p q e b
call_changes job p q (Does i thread call) b a h = Keeps i _ h.1
call_changes job p q e b a h = absurd h

-- an event that falls on a node
node_changes : {Local Call Told : Type 0} (job : Job Local Call Told) (p q : Plain Local) (e : Event Call)
    (a : NodeAnswer Told) → NodeStep job p e a q → Changes p q e (OfNode a)
node_changes job p q (Asks i ask) (OfRequest a) h = ask_changes job p q i ask _ _ a h
node_changes job p q (RequestComes i j k) (OfDelivery a) h = run_changes job.behaviour.messages p q (request_name i j k) a h
node_changes job p q (ReplyComes i j k) (OfDelivery a) h = take_changes job.behaviour.messages p q (request_name i j k) a h
node_changes job p q (Ticks i) (OfTick a) h = tick_changes job p q i _ _ a h
node_changes job p q e (OfCall a) h = call_changes job p q e _ a h
node_changes job p q e a h = absurd h

-- a message that wasn't sent
unsent_changes : {Local Call Told : Type 0} (p q : Plain Local) (e : Event Call) (a : WorldAnswer Told)
    → UnsentStep p e q → Changes p q e a
unsent_changes p q (RequestComes i j k) a h = Nothing h.1
unsent_changes p q (ReplyComes i j k) a h = Nothing h.1
unsent_changes p q e a h = absurd h

-- each step
pub step_changes : {Local Call Told : Type 0} (job : Job Local Call Told) (p q : Plain Local) (e : Event Call)
    (a : WorldAnswer Told) → PlainStep job p e a q → Changes p q e a
step_changes job p q e (OfNode a) h = node_changes job p q e a h
step_changes job p q e Unsent h = unsent_changes p q e _ h
