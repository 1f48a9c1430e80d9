-- What a request, a delivery and a tick do to the record of a node: their answers, and what these leave.
-- Origin: GASNet 1.8.1, core API, active messages. Credits, slots, numbers, repeats and resending are this project's
-- profile.
use Rattle.std.specs.Prelude.{ℕ, ◌==◌, nat_le, nat_lt, Bool, false, not, ◌&&◌, if◌then◌else◌, List, [], ◌∷◌, ◌++◌}
use Rattle.std.specs.Prelude.{Option, None, Some, Result, Ok, Err, length}
use Rattle.wire_message.specs.Parameters.{Parameters, credits_of}
use Rattle.wire_message.specs.Content.{Content, content_of}
use Rattle.wire_message.specs.Message.{Message}
pub use Rattle.base_lists.specs.Put.{put}
use Rattle.base_lists.specs.Numbered.{element_at, change}
use Rattle.part_handlers.specs.declared.rules.CallKind.{CallKind}
use Rattle.part_handlers.specs.declared.rules.CallKind.TheVariants as call
use Rattle.part_handlers.specs.declared.rules.Forbidden.{Forbidden}
use Rattle.part_handlers.specs.declared.message.Which.{Which}
use Rattle.part_handlers.specs.declared.message.Which.TheVariants as which
use Rattle.spec_node.specs.declared.answer.Side.TheVariants as side
use Rattle.spec_node.specs.declared.answer.SlotRef.{SlotRef}
use Rattle.spec_node.specs.declared.answer.Asked.{Asked}
use Rattle.spec_node.specs.declared.answer.Asked.TheVariants as asked
use Rattle.spec_node.specs.declared.answer.Why.{Why}
use Rattle.spec_node.specs.declared.answer.Why.TheVariants as why
use Rattle.spec_node.specs.declared.answer.Delivered.{Delivered}
use Rattle.spec_node.specs.declared.answer.Delivered.TheVariants as delivered
use Rattle.spec_node.specs.declared.answer.Ticked.{Ticked}
use Rattle.spec_node.specs.declared.answer.Ticked.TheVariants as ticked
use Rattle.spec_node.specs.Record.{Request, Node}
use Rattle.spec_node.specs.Requests.{outstanding, next_claim, is_open, as_back, sent_at, Due, all_dues, earliest}
use Rattle.spec_node.specs.Executed.{greatest}
use Rattle.spec_node.specs.Credits.{Limits, limits_of}
use Rattle.spec_node.specs.Behaviour.{Behaviour, Contact, Sending, Ask, is_request}

-- a node of a job: the settings, what it does beside its slots and numbers, and its number
pub record Site (Local : Type 0) : Type 0 where
  pub settings : Parameters
  pub behaviour : Behaviour Local
  pub me : ℕ

-- the node that keeps this
abbrev pub with_local : {Local : Type 0} → Node Local → Local → Node Local
with_local node local = record node { local = local }

-- the slot of a peer where the reply to its request is kept
abbrev pub reply_slot : (peer slot : ℕ) → SlotRef
reply_slot peer slot = record { side = side.Reply; peer = peer; slot = slot }

-- the slot of a peer where a request to it is kept
abbrev pub request_slot : (peer slot : ℕ) → SlotRef
request_slot peer slot = record { side = side.Request; peer = peer; slot = slot }

-- ---- the rule table

-- what a thread's call leaves by how the table judges it: a refusal is noted
abbrev pub judged_local :
    {Local : Type 0} → Behaviour Local → (thread : ℕ) → Result (Unit {0}) Forbidden → Local → Local
judged_local behaviour thread (Ok allowed) local = local
judged_local behaviour thread (Err forbidden) local = behaviour.notes thread forbidden local

-- the node after the rule table judged a thread's call
abbrev pub after_check : {Local : Type 0} → Behaviour Local → Node Local → (thread : ℕ) → CallKind → Node Local
after_check behaviour node thread kind =
    with_local node (judged_local behaviour thread (behaviour.judges thread kind node.local) node.local)

-- ---- a request of a thread

-- a request to another node, by those asked of it before
abbrev pub claim_answer : Limits → (to : ℕ) → List Request → Asked
claim_answer limits to requests =
    if nat_le limits.last (length requests) then asked.Exhausted
    else (if nat_le limits.credits (outstanding requests) then asked.NotYet
    else asked.Accepted to (next_claim requests).slot (next_claim requests).number)

-- the first thing that is wrong with a request
abbrev pub request_fault : {Local : Type 0} → Parameters → Behaviour Local → Ask → Option Which
request_fault settings behaviour ask =
    if nat_le settings.nodes ask.to then Some which.Node else behaviour.faults ask.what

abbrev pub unless_forbidden : Result (Unit {0}) Forbidden → Asked → Asked
unless_forbidden (Ok allowed) answer = answer
unless_forbidden (Err forbidden) answer = asked.Forbidden forbidden

abbrev pub unless_bad : Option Which → Asked → Asked
unless_bad None answer = answer
unless_bad (Some part) answer = asked.BadArg part

-- a request of the node to itself, by the lock for which it waits
abbrev pub own_answer : Option ℕ → Asked
own_answer None = asked.Ran
own_answer (Some lock) = asked.LockBusy lock

-- what the request says
abbrev pub request_content : {Local : Type 0} → Site Local → Node Local → Ask → Content
request_content site node ask = site.behaviour.says ask.what node.local

-- what a node answers to a request that one of its threads makes
abbrev pub request_answer : {Local : Type 0} → Site Local → Node Local → Ask → Asked
request_answer site node ask =
    unless_forbidden (site.behaviour.judges ask.thread call.Request node.local)
    (unless_bad (request_fault site.settings site.behaviour ask)
    (if ask.to == site.me then own_answer (site.behaviour.busy (request_content site node ask) node.local)
    else claim_answer (limits_of site.settings site.me ask.to) ask.to (node.asked ask.to)))

-- between the node and itself: there is no slot and no number
abbrev pub with_itself : (me : ℕ) → Contact
with_itself me = record { me = me; peer = me; slot = 0; number = 0 }

-- a request of the node to itself runs at once, and then its reply
abbrev pub ran_here : {Local : Type 0} → Behaviour Local → (me : ℕ) → Content → Local → Local
ran_here behaviour me content local =
    let out = behaviour.run (with_itself me) content local in
    behaviour.take (with_itself me) out.1 out.0

-- the request that is kept as it was accepted at this time
abbrev pub new_request : (now slot : ℕ) → Content → Request
new_request now slot content = record { slot = slot; content = content; time = now; back = false }

-- a request was accepted, in this slot, at this time
abbrev pub with_request : {Local : Type 0} → Node Local → (now to slot : ℕ) → Content → Node Local
with_request node now to slot content =
    record node { asked = put node.asked to (node.asked to ++ new_request now slot content ∷ []) }

-- the node after one of its threads made a request, by its answer
abbrev pub after_request : {Local : Type 0} → Site Local → Node Local → (now : ℕ) → Ask → Asked → Node Local
after_request site node now ask (asked.Accepted to slot number) =
    with_request node now ask.to slot (request_content site node ask)
after_request site node now ask asked.Ran =
    with_local node (ran_here site.behaviour site.me (request_content site node ask) node.local)
after_request site node now ask (asked.Forbidden forbidden) =
    with_local node (site.behaviour.notes ask.thread forbidden node.local)
after_request site node now ask _ = node

-- ---- a message that is delivered

-- the pair on which a message goes has so many slots: requests go to the node `me`, and replies to its own requests
abbrev pub slots_for : Parameters → (me : ℕ) → Message → ℕ
slots_for settings me message =
    if is_request message.kind then credits_of settings message.from me else credits_of settings me message.from

-- the first thing that is wrong with where a message goes and comes from
abbrev pub address_fault : Parameters → (me : ℕ) → Message → Option Why
address_fault settings me message =
    if not (message.job == settings.job) then Some why.Job
    else (if not (message.to == me) then Some why.Receiver
    else (if not (nat_lt message.from settings.nodes) then Some why.Sender
    else (if not (nat_lt message.slot (slots_for settings me message)) then Some why.Slot
    else None)))

-- the first, or else the second
abbrev pub first_why : Option Why → Option Why → Option Why
first_why None second = second
first_why (Some reason) second = Some reason

-- why a node refuses a message, if it does
abbrev pub refusal : {Local : Type 0} → Site Local → Message → Option Why
refusal site message =
    first_why (address_fault site.settings site.me message) (site.behaviour.refuses (content_of message))

-- what becomes of a message that is delivered
pub data Verdict : Type 0 where
  Refused : Why → Verdict  -- it is refused
  Duplicated : Verdict  -- the last request run in its slot came again
  Passed : Verdict  -- an earlier request of its slot came again
  Runs : Verdict  -- a request runs
  Missed : Verdict  -- a reply to no request that isn't back
  Returns : Verdict  -- a reply runs, and its request is back
  Waits : (lock : ℕ) → Verdict  -- it would run, but waits for a lock

abbrev pub unless_refused : Option Why → Verdict → Verdict
unless_refused None verdict = verdict
unless_refused (Some reason) verdict = Refused reason

abbrev pub unless_waiting : Option ℕ → Verdict → Verdict
unless_waiting None verdict = verdict
unless_waiting (Some lock) verdict = Waits lock

-- a request that passes the checks, by the greatest number run in its slot and the lock for which it waits: this is
-- duplicate suppression, by which a request runs at most once
abbrev pub verdict_of_number : (number greatest : ℕ) → Option ℕ → Verdict
verdict_of_number number greatest lock =
    if number == greatest then Duplicated
    else (if nat_lt number greatest then Passed
    else unless_waiting lock Runs)

-- a reply that passes the checks, by the request with its number and the lock for which it waits
abbrev pub taken_back : (slot : ℕ) → Option Request → Option ℕ → Verdict
taken_back slot request lock = if is_open slot request then unless_waiting lock Returns else Missed

-- what becomes of a message that is delivered to a node
abbrev pub verdict : {Local : Type 0} → Site Local → Node Local → Message → Verdict
verdict site node message =
    unless_refused (refusal site message)
    (if is_request message.kind
    then verdict_of_number message.number (greatest message.slot (node.ran message.from))
    (site.behaviour.waits (content_of message) node.local)
    else taken_back message.slot (element_at (node.asked message.from) message.number)
    (site.behaviour.waits (content_of message) node.local))

-- how a delivery is answered
abbrev pub answer_by : {Local : Type 0} → Behaviour Local → Message → Verdict → Delivered
answer_by behaviour message (Refused reason) = delivered.Refused reason
answer_by behaviour message Duplicated = delivered.Duplicate (reply_slot message.from message.slot)
answer_by behaviour message Passed = delivered.Stale
answer_by behaviour message Runs = behaviour.runs_as (content_of message) (reply_slot message.from message.slot)
answer_by behaviour message Missed = delivered.Late
answer_by behaviour message Returns = delivered.Returned message.from message.slot message.number
answer_by behaviour message (Waits lock) = delivered.Deferred lock

-- what a node answers to a message that is delivered to it
abbrev pub deliver_answer : {Local : Type 0} → Site Local → Node Local → Message → Delivered
deliver_answer site node message = answer_by site.behaviour message (verdict site node message)

-- between the node and the sender of a message
abbrev pub with_sender : (me : ℕ) → Message → Contact
with_sender me message =
    record { me = me; peer = message.from; slot = message.slot; number = message.number }

-- a request of the peer was run, with this outcome
abbrev pub with_run : {Local : Type 0} → Node Local → Contact → Content → Local × Content → Node Local
with_run node contact content out =
    record node {
      ran = put node.ran contact.peer (node.ran contact.peer
          ++ record { number = contact.number; slot = contact.slot; content = content; reply = out.1 } ∷ []);
      local = out.0;
    }

-- the request of this number to that peer is back, and this is kept
abbrev pub with_back : {Local : Type 0} → Node Local → (peer number : ℕ) → Local → Node Local
with_back node peer number local =
    record node { asked = put node.asked peer (change as_back (node.asked peer) number); local = local }

-- the node after a message was delivered, by what became of it
abbrev pub after_delivery : {Local : Type 0} → Site Local → Node Local → Message → Verdict → Node Local
after_delivery site node message Runs =
    let contact = with_sender site.me message in
    with_run node contact (content_of message) (site.behaviour.run contact (content_of message) node.local)
after_delivery site node message Returns =
    with_back node message.from message.number
    (site.behaviour.take (with_sender site.me message) (content_of message) node.local)
after_delivery site node message _ = node

-- ---- a tick

-- the request that is due first, if any
abbrev pub next_due : {Local : Type 0} → Parameters → Node Local → (now : ℕ) → Option Due
next_due settings node now = earliest (all_dues now settings.resend node.asked settings.nodes)

-- its slot
abbrev pub due_slot : Option Due → Option SlotRef
due_slot None = None
due_slot (Some due) = Some (request_slot due.peer due.slot)

-- the node after it was sent again
abbrev pub after_resend : {Local : Type 0} → Node Local → (now : ℕ) → Option Due → Node Local
after_resend node now None = node
after_resend node now (Some due) =
    record node { asked = put node.asked due.peer (change (sent_at now) (node.asked due.peer) due.number) }

-- another node is there, with a number and a credit left
abbrev pub can_ask : {Local : Type 0} → Site Local → Node Local → (to : ℕ) → Bool
can_ask site node to =
    let limits = limits_of site.settings site.me to in
    (nat_lt to site.settings.nodes && not (to == site.me))
    && (nat_lt (length (node.asked to)) limits.last && nat_lt (outstanding (node.asked to)) limits.credits)

-- no number is left for that node
abbrev pub is_exhausted : {Local : Type 0} → Parameters → Node Local → (to : ℕ) → Bool
is_exhausted settings node to = nat_le settings.last (length (node.asked to))

-- what a tick does: the first of these that is possible
pub data TickChoice : Type 0 where
  Retransmits : Due → TickChoice  -- a request that is due is sent again
  Sends : Sending → TickChoice  -- a request of the node's own accord is accepted and sent
  Rests : TickChoice

abbrev pub choice_of : Option Due → Option Sending → TickChoice
choice_of (Some due) sending = Retransmits due
choice_of None (Some sending) = Sends sending
choice_of None None = Rests

-- what a tick at this time does
abbrev pub tick_choice : {Local : Type 0} → Site Local → Node Local → (now : ℕ) → TickChoice
tick_choice site node now =
    choice_of (next_due site.settings node now) (site.behaviour.next site.me (can_ask site node) node.local)

-- between the node and the peer of its next request to it
abbrev pub with_asked : {Local : Type 0} → (me : ℕ) → Node Local → (to : ℕ) → Contact
with_asked me node to =
    let claim = next_claim (node.asked to) in
    record { me = me; peer = to; slot = claim.slot; number = claim.number }

-- how a tick is answered
abbrev pub tick_answer : {Local : Type 0} → Behaviour Local → Node Local → TickChoice → Ticked
tick_answer behaviour node (Retransmits due) = ticked.Retransmission (request_slot due.peer due.slot)
tick_answer behaviour node (Sends sending) =
    behaviour.sends_as sending.content (request_slot sending.to (next_claim (node.asked sending.to)).slot)
tick_answer behaviour node Rests = ticked.Nothing

-- the node after a request of its own accord was accepted at this time
abbrev pub after_sending : {Local : Type 0} → Site Local → Node Local → (now : ℕ) → Sending → Node Local
after_sending site node now sending =
    let contact = with_asked site.me node sending.to in
    with_local (with_request node now sending.to contact.slot sending.content)
    (site.behaviour.issued contact sending.content node.local)

-- the node after a tick at this time, by what it does
abbrev pub after_tick : {Local : Type 0} → Site Local → Node Local → (now : ℕ) → TickChoice → Node Local
after_tick site node now (Retransmits due) = after_resend node now (Some due)
after_tick site node now (Sends sending) = after_sending site node now sending
after_tick site node now Rests = node
