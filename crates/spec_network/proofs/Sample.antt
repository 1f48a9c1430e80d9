-- One run, computed: credits of a pair, a lock, a tick that sends, and calls on the local node.
use Rattle.std.proofs.Common.{◌≡◌, ℕ, ◌+◌, Bool, true, false, ◌&&◌, if◌then◌else◌, eqb, ltb, List, [], ◌∷◌, refl, sym}
use Rattle.std.proofs.Common.{ltb-true, subst}
use Rattle.std.proofs.lemmas.Bool.{and_parts}
use Rattle.std.specs.Prelude.{Option, None, Some, Ok, Err}
use Rattle.wire_message.specs.Parameters.{Parameters, credits_of}
use Rattle.wire_message.specs.Content.{Content}
use Rattle.wire_message.specs.declared.kind.Kind.TheVariants.{ShortRequest, Ack}
use Rattle.part_handlers.specs.declared.rules.Forbidden.TheVariants.{UnderLock}
use Rattle.part_handlers.specs.declared.message.Which.TheVariants as which
use Rattle.spec_node.specs.declared.answer.Asked.TheVariants as asked
use Rattle.spec_node.specs.declared.answer.Delivered.TheVariants as delivered
use Rattle.spec_node.specs.declared.answer.Ticked.TheVariants as ticked
use Rattle.spec_node.specs.Credits.{greatest_holding}
use Rattle.spec_node.specs.Behaviour.{Behaviour, Sending, Short, Lent, asks_well}
use Rattle.spec_node.specs.Step.{reply_slot, request_slot}
use Rattle.spec_node.specs.NodeStep.{Job, IsAllSound, OfRequest, OfCall, OfDelivery, OfTick}
use Rattle.spec_network.specs.World.{Event, Asks, Does, RequestComes, ReplyComes, Ticks, EventAt, OfNode, Unsent, IsAmong}
use Rattle.spec_network.specs.World.{opening, answers_of}
use Rattle.spec_network.specs.Headline.{Headline}
use Rattle.spec_node.specs.EveryEvent.{Good}
use Rattle.spec_network.proofs.Headline.{AreAmong, headline}

-- a node keeps a list of numbers. The first one is 7 while a lock is held, and 5 where the node has a request to send
abbrev first_is : ℕ → List ℕ → Bool
first_is n [] = false
first_is n (x ∷ xs) = eqb x n

abbrev lock_of : List ℕ → Option ℕ
lock_of local = if first_is 7 local then Some 3 else None

abbrev request_of : List ℕ → Content
request_of payload = record { kind = ShortRequest; handler = 128; args = []; offset = 0; payload = payload }

abbrev ack : Content
ack = record { kind = Ack; handler = 0; args = []; offset = 0; payload = [] }

abbrev sample : Behaviour (List ℕ)
sample = record {
  judges = λ thread kind local. if eqb thread 9 then Err UnderLock else Ok tt;
  notes = λ thread forbidden local. 99 ∷ local;
  faults = λ asking. if eqb asking.handler 128 then None else Some which.Handler;
  says = λ asking local. request_of local;
  refuses = λ content. None;
  busy = λ content local. lock_of local;
  waits = λ content local. lock_of local;
  run = λ contact content local. (contact.number ∷ local, ack);
  take = λ contact content local. (100 + contact.number) ∷ local;
  runs_as = λ content place. delivered.Ran place;
  next = λ me can local.
      if first_is 5 local && can 1 then Some (record { to = 1; content = request_of [] }) else None;
  issued = λ contact content local. (200 + contact.number) ∷ local;
  sends_as = λ content place. ticked.Chunk place;
}

-- three nodes, with 2 credits for each pair but 1 for (0, 1)
abbrev settings : Parameters
settings = record {
  version = 1;
  job = 4;
  nodes = 3;
  credits = 2;
  pairs = record { from = 0; to = 1; credits = 1 } ∷ [];
  threads = 1;
  segment = 4096;
  last = 3;
  resend = 10;
}

-- a call puts its number in front, and is told how many nodes' numbers are exhausted of 0 to 2
abbrev job : Job (List ℕ) ℕ ℕ
job = record {
  settings = settings;
  behaviour = record {
    messages = sample;
    does = λ me exhausted thread call local.
        ((if exhausted 0 then 1 else 0) + ((if exhausted 1 then 1 else 0) + (if exhausted 2 then 1 else 0)), call ∷ local);
  };
}

abbrev asks : (node thread to : ℕ) → Event ℕ
asks node thread to = Asks node (record {
  thread = thread;
  to = to;
  what = record { category = Short; handler = 128; args = []; payload = Lent []; offset = 0 };
})

abbrev at : ℕ → Event ℕ → EventAt ℕ
at now event = record { now = now; event = event }

abbrev events : List (EventAt ℕ)
events =
    at 0 (asks 0 0 1) ∷ at 0 (asks 0 0 1) ∷ at 0 (asks 0 9 1) ∷ at 0 (asks 0 0 3) ∷ at 0 (asks 0 0 0)
    ∷ at 0 (Does 1 0 7) ∷ at 0 (RequestComes 0 1 1) ∷ at 0 (asks 1 0 1) ∷ at 0 (Does 1 0 8) ∷ at 0 (RequestComes 0 1 1)
    ∷ at 0 (RequestComes 0 1 1) ∷ at 0 (Does 0 0 7) ∷ at 0 (ReplyComes 0 1 1) ∷ at 0 (Does 0 0 5)
    ∷ at 0 (ReplyComes 0 1 1) ∷ at 0 (ReplyComes 0 1 1) ∷ at 0 (Does 0 0 5) ∷ at 0 (Ticks 0) ∷ at 9 (Ticks 0)
    ∷ at 10 (Ticks 0) ∷ at 10 (RequestComes 0 1 2) ∷ at 10 (RequestComes 0 1 1) ∷ at 10 (RequestComes 0 1 3)
    ∷ at 10 (asks 0 0 2) ∷ at 10 (asks 0 0 2) ∷ at 10 (asks 0 0 2) ∷ []

-- what a node keeps is never empty
abbrev is_kept : ℕ → List ℕ → Bool
is_kept me [] = false
is_kept me (x ∷ xs) = true

abbrev start : ℕ → List ℕ
start i = 0 ∷ []

answered : answers_of job events (opening start)
    ≡ OfNode (OfRequest (asked.Accepted 1 0 1)) ∷ OfNode (OfRequest asked.NotYet)
    ∷ OfNode (OfRequest (asked.Forbidden UnderLock)) ∷ OfNode (OfRequest (asked.BadArg which.Node))
    ∷ OfNode (OfRequest asked.Ran)
    ∷ OfNode (OfCall 0) ∷ OfNode (OfDelivery (delivered.Deferred 3)) ∷ OfNode (OfRequest (asked.LockBusy 3))
    ∷ OfNode (OfCall 0) ∷ OfNode (OfDelivery (delivered.Ran (reply_slot 0 0)))
    ∷ OfNode (OfDelivery (delivered.Duplicate (reply_slot 0 0))) ∷ OfNode (OfCall 0)
    ∷ OfNode (OfDelivery (delivered.Deferred 3)) ∷ OfNode (OfCall 0)
    ∷ OfNode (OfDelivery (delivered.Returned 1 0 1)) ∷ OfNode (OfDelivery delivered.Late) ∷ OfNode (OfCall 0)
    ∷ OfNode (OfTick (ticked.Chunk (request_slot 1 0))) ∷ OfNode (OfTick ticked.Nothing)
    ∷ OfNode (OfTick (ticked.Retransmission (request_slot 1 0)))
    ∷ OfNode (OfDelivery (delivered.Ran (reply_slot 0 0))) ∷ OfNode (OfDelivery delivered.Stale) ∷ Unsent
    ∷ OfNode (OfRequest (asked.Accepted 2 0 1)) ∷ OfNode (OfRequest (asked.Accepted 2 1 2))
    ∷ OfNode (OfRequest asked.NotYet) ∷ []
unfolding credits_of
answered = refl

-- the bounds are 7, 7 and 8
bounds : (greatest_holding settings 0 ≡ 7) × ((greatest_holding settings 1 ≡ 7) × (greatest_holding settings 2 ≡ 8))
unfolding credits_of
bounds = (refl, (refl, refl))

-- ---- the premises hold of it, and so does the headline

-- what the sample asks, where it asks
sends_one : (few can : Bool) (first sending : Sending)
    → (if few && can then Some first else None) ≡ Some sending → (can ≡ true) × (sending ≡ first)
sends_one true true first sending e = (refl, sym (cc))
sends_one true false first sending e = absurd (cc)
sends_one false can first sending e = absurd (cc)

asks_one : (me : ℕ) (can : ℕ → Bool) (local : List ℕ) (sending : Sending)
    → Good is_kept me local → sample.next me can local ≡ Some sending
    → (can sending.to ≡ true) × (asks_well sample.refuses sending.content ≡ true)
asks_one me can local sending good e =
    let it = sends_one (first_is 5 local) (can 1) (record { to = 1; content = request_of [] }) sending e in
    subst (λ (s : Sending). (can s.to ≡ true) × (asks_well sample.refuses s.content ≡ true)) (sym it.1) (it.0, refl)

sound : IsAllSound job.behaviour (Good is_kept)
sound = record {
  messages = record {
    says = λ me asking local good fine. refl;
    asks = asks_one;
    replies = λ contact content local good asked. refl;
    notes = λ me thread forbidden local good. refl;
    run = λ contact content local good asked. refl;
    take = λ contact content local good asked. refl;
    issued = λ contact can content local good e. refl;
    runs_as = λ content place. refl;
    sends_as = λ content place. refl;
  };
  does = λ me exhausted thread call local good. refl;
}

-- the event is one of nodes that are there
abbrev is_among : Event ℕ → Bool
is_among (Asks node ask) = ltb node 3
is_among (Does node thread call) = ltb node 3
is_among (RequestComes from to number) = ltb from 3 && ltb to 3
is_among (ReplyComes from to number) = ltb from 3 && ltb to 3
is_among (Ticks node) = ltb node 3

among_one : (event : Event ℕ) → is_among event ≡ true → IsAmong settings event
among_one (Asks node ask) e = ltb-true _ _ e
among_one (Does node thread call) e = ltb-true _ _ e
among_one (RequestComes from to number) e =
    let parts = and_parts (ltb from 3) (ltb to 3) e in (ltb-true _ _ parts.0, ltb-true _ _ parts.1)
among_one (ReplyComes from to number) e =
    let parts = and_parts (ltb from 3) (ltb to 3) e in (ltb-true _ _ parts.0, ltb-true _ _ parts.1)
among_one (Ticks node) e = ltb-true _ _ e

abbrev are_among : List (EventAt ℕ) → Bool
are_among [] = true
are_among (timed ∷ more) = is_among timed.event && are_among more

among_all : (timed : List (EventAt ℕ)) → are_among timed ≡ true → AreAmong job timed
among_all [] e = tt
among_all (timed ∷ more) e =
    let parts = and_parts (is_among timed.event) (are_among more) e in
    (among_one timed.event parts.0, among_all more parts.1)

all_laws : Headline job start events
all_laws = headline job (Good is_kept) start events sound (λ i. refl) (among_all events refl)
