-- The steps of the plain world. There are no others.
-- Origin: GASNet 1.8.1, core API, active messages. Slots and repeats are this project's profile.
use Rattle.std.specs.Prelude.{ℕ, suc, ◌≡◌, ◌≢◌, ◌<◌, ◌==◌, ◌&&◌, not, Bool, nat_le, nat_lt, true, false, List, [], ◌∷◌}
use Rattle.std.specs.Prelude.{Option, None, Some, Ok, Err, length}
use Rattle.wire_message.specs.Parameters.{Parameters, credits_of}
use Rattle.wire_message.specs.Content.{Content}
use Rattle.part_handlers.specs.declared.rules.CallKind.TheVariants as call
use Rattle.spec_node.specs.declared.answer.Asked.{Asked}
use Rattle.spec_node.specs.declared.answer.Asked.TheVariants as asked
use Rattle.spec_node.specs.declared.answer.Delivered.{Delivered}
use Rattle.spec_node.specs.declared.answer.Delivered.TheVariants as delivered
use Rattle.spec_node.specs.declared.answer.Ticked.{Ticked}
use Rattle.spec_node.specs.declared.answer.Ticked.TheVariants as ticked
use Rattle.spec_node.specs.Requests.{Claim}
use Rattle.spec_node.specs.Behaviour.{Behaviour, Ask, Contact, Sending, RanRequest, IsFirstSent}
use Rattle.spec_node.specs.Step.{Site, request_fault, ran_here, reply_slot, request_slot}
use Rattle.spec_node.specs.NodeStep.{Job, site_of, NodeAnswer, OfRequest, OfCall, OfDelivery, OfTick}
use Rattle.spec_network.specs.World.{Event, Asks, Does, RequestComes, ReplyComes, Ticks, EventAt, WorldAnswer, OfNode}
use Rattle.spec_network.specs.World.{Unsent}
use Rattle.spec_network.specs.Plain.{PlainRequest, Plain, IsRequest, InRuns, IsPassed, IsLeastFree, reply_of}
use Rattle.spec_network.specs.Plain.{outstanding_in}
use Rattle.spec_network.specs.Plain.{with_plain, with_plain_request, with_replied, with_credit}

-- ---- a request of a thread

-- the rule table allows it, and nothing is wrong with it
pub record IsFaultless {Local : Type 0} (site : Site Local) (plain : Plain Local) (ask : Ask) : Type 0 where
  pub allowed : site.behaviour.judges ask.thread call.Request (plain.local site.me) ≡ Ok tt
  pub faultless : request_fault site.settings site.behaviour ask ≡ None

-- it passes every refusal that comes before credits are asked
pub record Passes {Local : Type 0} (site : Site Local) (plain : Plain Local) (ask : Ask) : Type 0 where
  pub good : IsFaultless site plain ask
  pub other : ask.to ≢ site.me

-- a number and a credit are left on the pair, and these are the smallest free slot and the next number
pub record IsNext
    {Local : Type 0} (settings : Parameters) (plain : Plain Local) (from to : ℕ) (claim : Claim) : Type 0 where
  pub left : length (plain.requests from to) < settings.last
  pub credit : outstanding_in plain from to < credits_of settings from to
  pub least : IsLeastFree plain from to claim.slot
  pub number : claim.number ≡ suc (length (plain.requests from to))

-- what the request says
abbrev pub plain_said : {Local : Type 0} → Site Local → Plain Local → Ask → Content
plain_said site plain ask = site.behaviour.says ask.what (plain.local site.me)

-- what the run of a request to the local node, and of its reply, leaves
abbrev pub ran_at : {Local : Type 0} → Site Local → Plain Local → Ask → Local
ran_at site plain ask = ran_here site.behaviour site.me (plain_said site plain ask) (plain.local site.me)

-- accept, not yet and exhausted out; and what is local: a violation, a bad argument, and a request to the local node
abbrev pub AskStep : {Local : Type 0} → Site Local → Plain Local → Ask → Asked → Plain Local → Type 0
AskStep site before ask (asked.Accepted to slot number) after =
    Passes site before ask × (to ≡ ask.to)
    × IsNext site.settings before site.me ask.to (record { slot = slot; number = number })
    × (after ≡ with_plain_request before site.me ask.to (record { content = plain_said site before ask; slot = slot }))
AskStep site before ask asked.NotYet after =
    Passes site before ask × (length (before.requests site.me ask.to) < site.settings.last)
    × (outstanding_in before site.me ask.to ≡ credits_of site.settings site.me ask.to) × (after ≡ before)
AskStep site before ask asked.Exhausted after =
    Passes site before ask × (length (before.requests site.me ask.to) ≡ site.settings.last) × (after ≡ before)
AskStep site before ask asked.Ran after =
    IsFaultless site before ask × (ask.to ≡ site.me)
    × (site.behaviour.busy (plain_said site before ask) (before.local site.me) ≡ None)
    × (after ≡ with_plain before site.me (ran_at site before ask))
AskStep site before ask (asked.LockBusy lock) after =
    IsFaultless site before ask × (ask.to ≡ site.me)
    × (site.behaviour.busy (plain_said site before ask) (before.local site.me) ≡ Some lock) × (after ≡ before)
AskStep site before ask (asked.BadArg part) after =
    (site.behaviour.judges ask.thread call.Request (before.local site.me) ≡ Ok tt)
    × (request_fault site.settings site.behaviour ask ≡ Some part) × (after ≡ before)
AskStep site before ask (asked.Forbidden forbidden) after =
    (site.behaviour.judges ask.thread call.Request (before.local site.me) ≡ Err forbidden)
    × (after ≡ with_plain before site.me (site.behaviour.notes ask.thread forbidden (before.local site.me)))

-- ---- deliveries

-- request `number` of the pair (from, to)
pub record RequestName : Type 0 where
  pub from : ℕ
  pub to : ℕ
  pub number : ℕ

abbrev pub request_name : (from to number : ℕ) → RequestName
request_name from to number = record { from = from; to = to; number = number }

-- the request was accepted, and hasn't run
pub record IsUnrun {Local : Type 0} (plain : Plain Local) (name : RequestName) (request : PlainRequest) : Type 0 where
  pub is : IsRequest plain name.from name.to name.number request
  pub new : InRuns plain name.from name.to name.number → ⊥

-- it ran
pub record IsRepeat {Local : Type 0} (plain : Plain Local) (name : RequestName) (request : PlainRequest) : Type 0 where
  pub is : IsRequest plain name.from name.to name.number request
  pub ran : InRuns plain name.from name.to name.number

-- it ran, isn't back, and has this reply
pub record IsToTake
    {Local : Type 0} (plain : Plain Local) (name : RequestName) (request : PlainRequest) (reply : Content)
    : Type 0 where
  pub is : IsRequest plain name.from name.to name.number request
  pub reply_is : reply_of name.number (plain.runs name.from name.to) ≡ Some reply
  pub out : plain.back name.from name.to name.number ≡ false

-- the request where it runs
abbrev pub at_target : RequestName → PlainRequest → Contact
at_target name request = record { me = name.to; peer = name.from; slot = request.slot; number = name.number }

-- its reply where it is taken
abbrev pub at_origin : RequestName → PlainRequest → Contact
at_origin name request = record { me = name.from; peer = name.to; slot = request.slot; number = name.number }

-- a request runs, and is answered so
pub record RunsFirst
    {Local : Type 0} (behaviour : Behaviour Local) (before : Plain Local) (name : RequestName) (answer : Delivered)
    (after : Plain Local) : Type 0 where
  pub request : PlainRequest
  pub fresh : IsUnrun before name request
  pub free : behaviour.waits request.content (before.local name.to) ≡ None
  pub runs_as : answer ≡ behaviour.runs_as request.content (reply_slot name.from request.slot)
  pub is_run : RanRequest answer (reply_slot name.from request.slot)
  pub leaves :
      let out = behaviour.run (at_target name request) request.content (before.local name.to) in
      after ≡ with_replied before name.from name.to (record { number = name.number; reply = out.1 }) out.0

-- run; repeat: Duplicate where no greater number of the same slot was run, else Stale; deferred
abbrev pub RunStep : {Local : Type 0}
    → Behaviour Local → Plain Local → RequestName → Delivered → Plain Local → Type 0
RunStep behaviour before name (delivered.Duplicate at) after =
    (request : PlainRequest) × IsRepeat before name request
    × (IsPassed before name.from name.to name.number request → ⊥)
    × (at ≡ reply_slot name.from request.slot) × (after ≡ before)
RunStep behaviour before name delivered.Stale after =
    (request : PlainRequest) × IsRepeat before name request
    × IsPassed before name.from name.to name.number request × (after ≡ before)
RunStep behaviour before name (delivered.Deferred lock) after =
    (request : PlainRequest) × IsUnrun before name request
    × (behaviour.waits request.content (before.local name.to) ≡ Some lock)
    × (after ≡ before)
RunStep behaviour before name answer after = RunsFirst behaviour before name answer after

-- a reply is taken, and is answered so
pub record Takes
    {Local : Type 0} (behaviour : Behaviour Local) (before : Plain Local) (name : RequestName) (answer : Delivered)
    (after : Plain Local) : Type 0 where
  pub request : PlainRequest
  pub reply : Content
  pub to_take : IsToTake before name request reply
  pub free : behaviour.waits reply (before.local name.from) ≡ None
  pub returned : answer ≡ delivered.Returned name.to request.slot name.number
  pub leaves :
      let local = behaviour.take (at_origin name request) reply (before.local name.from) in
      after ≡ with_credit before name.from name.to name.number local

-- take, late and deferred
abbrev pub TakeStep : {Local : Type 0}
    → Behaviour Local → Plain Local → RequestName → Delivered → Plain Local → Type 0
TakeStep behaviour before name (delivered.Returned to slot number) after =
    Takes behaviour before name (delivered.Returned to slot number) after
TakeStep behaviour before name delivered.Late after =
    (before.back name.from name.to name.number ≡ true) × (after ≡ before)
TakeStep behaviour before name (delivered.Deferred lock) after =
    (request : PlainRequest) × (reply : Content) × IsToTake before name request reply
    × (behaviour.waits reply (before.local name.from) ≡ Some lock) × (after ≡ before)
TakeStep behaviour before name _ after = ⊥

-- ---- ticks

-- another node is there, with a number and a credit left
abbrev pub plain_can_ask : {Local : Type 0} → Site Local → Plain Local → (to : ℕ) → Bool
plain_can_ask site plain to =
    (nat_lt to site.settings.nodes && not (to == site.me))
    && (nat_lt (length (plain.requests site.me to)) site.settings.last
    && nat_lt (outstanding_in plain site.me to) (credits_of site.settings site.me to))

-- the node's own next request, asked of those
abbrev pub next_of : {Local : Type 0} → Site Local → Plain Local → Option Sending
next_of site plain = site.behaviour.next site.me (plain_can_ask site plain) (plain.local site.me)

-- it is accepted, and is answered so
pub record SendsFirst
    {Local : Type 0} (site : Site Local) (before : Plain Local) (answer : Ticked) (after : Plain Local) : Type 0 where
  pub to : ℕ
  pub request : PlainRequest
  pub claim : Claim
  pub given : next_of site before ≡ Some (record { to = to; content = request.content })
  pub other : to ≢ site.me
  pub next : IsNext site.settings before site.me to claim
  pub slot : request.slot ≡ claim.slot
  pub sends_as : answer ≡ site.behaviour.sends_as request.content (request_slot to request.slot)
  pub is_first : IsFirstSent answer (request_slot to request.slot)
  pub leaves :
      let contact : Contact = record { me = site.me; peer = to; slot = request.slot; number = claim.number } in
      after ≡ with_plain (with_plain_request before site.me to request) site.me
      (site.behaviour.issued contact request.content (before.local site.me))

-- resend of some request that isn't back: which one is due it doesn't know; nothing, where the node has no next
-- request; and accept by a tick
abbrev pub TickStep : {Local : Type 0} → Site Local → Plain Local → Ticked → Plain Local → Type 0
TickStep site before (ticked.Retransmission at) after =
    (to number : ℕ) × (request : PlainRequest) × IsRequest before site.me to number request
    × (before.back site.me to number ≡ false) × (at ≡ request_slot to request.slot) × (after ≡ before)
TickStep site before ticked.Nothing after = (next_of site before ≡ None) × (after ≡ before)
TickStep site before answer after = SendsFirst site before answer after

-- ---- all steps

-- no number is left for that node
abbrev pub plain_exhausted : {Local : Type 0} → Parameters → Plain Local → (node to : ℕ) → Bool
plain_exhausted settings plain node to = nat_le settings.last (length (plain.requests node to))

-- any other call
abbrev pub CallStep : {Local Call Told : Type 0}
    → Job Local Call Told → Plain Local → Event Call → Told → Plain Local → Type 0
CallStep job before (Does node thread call) answer after =
    let out = job.behaviour.does node (plain_exhausted job.settings before node) thread call (before.local node) in
    (answer ≡ out.0) × (after ≡ with_plain before node out.1)
CallStep job before _ answer after = ⊥

-- an event that falls on a node, by the node's answer
abbrev pub NodeStep : {Local Call Told : Type 0}
    → Job Local Call Told → Plain Local → Event Call → NodeAnswer Told → Plain Local → Type 0
NodeStep job before (Asks node ask) (OfRequest answer) after = AskStep (site_of job node) before ask answer after
NodeStep job before (RequestComes from to number) (OfDelivery answer) after =
    RunStep job.behaviour.messages before (request_name from to number) answer after
NodeStep job before (ReplyComes from to number) (OfDelivery answer) after =
    TakeStep job.behaviour.messages before (request_name from to number) answer after
NodeStep job before (Ticks node) (OfTick answer) after = TickStep (site_of job node) before answer after
NodeStep job before event (OfCall answer) after = CallStep job before event answer after
NodeStep job before _ _ after = ⊥

-- unsent
abbrev pub UnsentStep : {Local Call : Type 0} → Plain Local → Event Call → Plain Local → Type 0
UnsentStep before (RequestComes from to number) after =
    ((request : PlainRequest) → IsRequest before from to number request → ⊥) × (after ≡ before)
UnsentStep before (ReplyComes from to number) after = (InRuns before from to number → ⊥) × (after ≡ before)
UnsentStep before _ after = ⊥

-- the plain world steps by this event with this answer. No step reads the time
abbrev pub PlainStep : {Local Call Told : Type 0}
    → Job Local Call Told → Plain Local → Event Call → WorldAnswer Told → Plain Local → Type 0
PlainStep job before event (OfNode answer) after = NodeStep job before event answer after
PlainStep job before event Unsent after = UnsentStep before event after

-- the plain world goes from the one to the other by these events with these answers
abbrev pub PlainRun : {Local Call Told : Type 0}
    → Job Local Call Told → Plain Local → List (EventAt Call) → List (WorldAnswer Told) → Plain Local → Type 0
PlainRun job before [] [] after = after ≡ before
PlainRun {Local} job before (timed ∷ events) (answer ∷ answers) after =
    (between : Plain Local) × PlainStep job before timed.event answer between
    × PlainRun job between events answers after
PlainRun job before _ _ after = ⊥
