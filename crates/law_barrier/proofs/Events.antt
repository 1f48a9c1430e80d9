-- What each event does to the barrier of the node on which it falls.
use Rattle.std.proofs.Common.{◌≡◌, ◌≢◌, ◌⊎◌, inl, inr, ℕ, zero, suc, ◌<◌, List, [], length, Option, Some, None}
use Rattle.std.proofs.Common.{Bool, true, Result, Ok, Err, refl, sym, ap, ◌∙◌, subst, arith, true≢false, eq-eqb}
use Rattle.std.proofs.Common.{ne_eqb, eqb, ltb, ◌&&◌, cond, ℤ}
use Rattle.std.specs.Prelude.{slice_get, not}
use Rattle.std.proofs.lemmas.Bool.{cases_Bool, cases_eq, and_from}
use Rattle.std.proofs.lemmas.Option.{same_Some}
use Rattle.base_lists.specs.Numbered.{element_at}
use Rattle.base_lists.proofs.Cases.{cases_option, none_some}
use Rattle.base_lists.proofs.Places.{slice_get_last}
use Rattle.wire_message.specs.Parameters.{Parameters, AreInRange}
use Rattle.wire_message.specs.Content.{Content, content_of}
use Rattle.wire_message.specs.Message.{Message}
use Rattle.wire_message.specs.declared.notification.BarrierNotification.{BarrierNotification}
use Rattle.part_transfers.specs.declared.operation.Next.{Next}
use Rattle.part_transfers.specs.declared.operation.Transfer.{Transfer}
use Rattle.part_transfers.specs.declared.operation.Transfer.TheVariants as transfers
use Rattle.part_transfers.specs.Operation.{next_chunk}
use Rattle.part_handlers.specs.declared.table.Entry.{Entry}
use Rattle.part_handlers.specs.declared.rules.Forbidden.{Forbidden}
use Rattle.part_handlers.specs.Registered.{entry_at, is_for_requests}
use Rattle.part_handlers.specs.Runs.{Meaning, IsLawfulMeaning}
use Rattle.spec_node.specs.declared.answer.Asked.{Asked}
use Rattle.spec_node.specs.declared.answer.Asked.TheVariants as asked
use Rattle.spec_node.specs.Record.{Request, Run}
use Rattle.spec_node.specs.Requests.{as_back, sent_at}
use Rattle.spec_node.specs.Executed.{run_of}
use Rattle.spec_node.specs.Behaviour.{Asking, Ask, Contact, Sending}
use Rattle.spec_node.specs.Step.{request_answer, after_request, Verdict, Runs, Returns, verdict, after_delivery}
use Rattle.spec_node.specs.Step.{with_sender, with_local, next_due, can_ask, TickChoice, Retransmits, Sends, Rests}
use Rattle.spec_node.specs.Step.{tick_choice, after_tick, with_asked, is_exhausted}
use Rattle.spec_node.specs.NodeStep.{site_of, call_outcome, OfCall}
use Rattle.spec_node.specs.Invariant.{request_message, reply_message}
use Rattle.spec_node.proofs.Runs.{run_of_there}
use Rattle.spec_node.proofs.Answers.{accepted_says, here_says, runs_says, sends_choice}
use Rattle.spec_network.specs.World.{OfNode}
use Rattle.part_barrier.specs.declared.answer.Notified.{Notified}
use Rattle.part_barrier.specs.declared.answer.Notified.TheVariants as told
use Rattle.part_barrier.specs.declared.answer.BarrierAnswer.{BarrierAnswer}
use Rattle.part_barrier.specs.declared.answer.BarrierAnswer.TheVariants as tried
use Rattle.part_barrier.specs.Record.{Try, notify_answer, notify_after, try_answer, try_after, BarrierRecord, SentNotification}
use Rattle.part_barrier.specs.Record.{hear, notification_to, send}
use Rattle.part_barrier.proofs.Within.{notifications_fit}
use Rattle.node_core.specs.Kept.{segment_of}
use Rattle.node_core.specs.ClientRules.{asking_fault, payload_in, said_in}
use Rattle.node_core.specs.Library.{Notification, work_content, notification_said, notification_handler}
use Rattle.node_rules.specs.EndpointLocal.{EndpointLocal}
use Rattle.node_rules.specs.TransferCalls.{Caller}
use Rattle.node_rules.specs.BarrierCalls.{Notify, TryBarrier, identifier, has_ranges, exhausted_for}
use Rattle.node_rules.specs.EndpointRules.{OtherCall, OnBarrier, Records, notification_among}
use Rattle.node_rules.specs.EndpointRules.{next_notification, chunk_work, notification_first, next_sending, after_sent}
use Rattle.node_rules.specs.EndpointRules.{after_notification, endpoint_rules, unless_forbidden, job_of}
use Rattle.node_rules.specs.declared.answer.Answer.{Answer}
use Rattle.node_rules.specs.declared.answer.Answer.TheVariants as answers
use Rattle.node_rules.proofs.Noting.{notification_ranges}
use Rattle.node_rules.proofs.Frames.{call_framed}
use Rattle.law_barrier.specs.BarrierLaws.{barriers_of, notify_told, ends_told}
use Rattle.law_barrier.proofs.Said.{IsSaid, AllSaid, said_grows, said_put, said_push, said_change}
use Rattle.law_barrier.proofs.Steps.{Added, nothing_added, Steps, notify_adds, try_adds, step_same, step_notify}
use Rattle.law_barrier.proofs.Steps.{step_try, step_hear, step_send}
use Rattle.law_barrier.proofs.Nodes.{NodeHolds, NodeSteps, stepping, replied_push, run_replies}
use Rattle.node_core.proofs.LibraryLaws.{nodes_few}
use Rattle.node_core.proofs.CoreSteps.{said_handler}
use Rattle.node_core.proofs.LibraryLaws.{notification_again}
use Rattle.base_lists.proofs.Tests.{some_none}

-- a request that is no notification changes nothing
after_other : (settings : Parameters) (content : Content) (barrier : BarrierRecord) → content.handler ≢ notification_handler
    → after_notification settings content barrier ≡ barrier
after_other settings content barrier apart = rw (ne_eqb content.handler notification_handler apart) refl

-- ---- requests of clients

-- a request without a fault is for a handler of a client
not_asked : (settings : Parameters) (table : List (Option Entry)) (asking : Asking)
    → asking_fault settings table asking ≡ None → asking.handler ≢ notification_handler
not_asked settings table asking faultless is =
    let none : not (is_for_requests (entry_at table asking.handler)) ≡ true =
    ap (λ (handler : ℕ). not (is_for_requests (entry_at table handler))) is in
    some_none (rw none at faultless)

not_said : (settings : Parameters) (table : List (Option Entry)) (asking : Asking) (segment : List ℕ)
    → asking_fault settings table asking ≡ None → (said_in segment asking).handler ≢ notification_handler
not_said settings table asking segment faultless is =
    not_asked settings table asking faultless
    (sym (said_handler asking.category asking (payload_in segment asking.payload)) ∙ is)

-- a thread makes a request
pub asks_step : (settings : Parameters) (table : List (Option Entry)) (meaning : Meaning) (records : Records)
    (now node : ℕ) (ask : Ask) (answer : Asked) → NodeHolds settings (records node)
    → request_answer (site_of (job_of settings table meaning) node) (records node) ask ≡ answer
    → NodeSteps settings records node nothing_added
    (after_request (site_of (job_of settings table meaning) node) (records node) now ask answer)
asks_step settings table meaning records now node ask (asked.Accepted to slot number) holds e =
    let says = accepted_says (site_of (job_of settings table meaning) node) (records node) ask to slot number e in
    let sent = (barriers_of records node).sent in
    stepping settings records node nothing_added _
    (step_same settings.nodes (barriers_of records) node _ holds.within refl)
    (said_put settings sent (records node).asked ask.to _ holds.said
    (said_push settings sent ((records node).asked ask.to) _ (holds.said ask.to)
    (λ is. absurd (not_said settings table ask.what _ says.faultless is))))
    holds.replied
asks_step settings table meaning records now node ask asked.Ran holds e =
    let faultless = here_says (site_of (job_of settings table meaning) node) (records node) ask e in
    let segment = segment_of settings (records node).local.core in
    stepping settings records node nothing_added _
    (step_same settings.nodes (barriers_of records) node _ holds.within
    (after_other settings (said_in segment ask.what) (barriers_of records node)
    (not_said settings table ask.what segment faultless)))
    holds.said holds.replied
asks_step settings table meaning records now node ask (asked.Forbidden forbidden) holds e =
    stepping settings records node nothing_added _
    (step_same settings.nodes (barriers_of records) node _ holds.within refl) holds.said holds.replied
asks_step settings table meaning records now node ask _ holds e =
    stepping settings records node nothing_added _
    (step_same settings.nodes (barriers_of records) node _ holds.within refl) holds.said holds.replied

-- ---- other calls

-- a call that the rule table judges
by_judgement : (Holds : Answer → BarrierRecord → Type 0) (settings : Parameters) (table : List (Option Entry))
    (meaning : Meaning) (thread : ℕ) (judged : Result (Unit {0}) Forbidden) (local : EndpointLocal)
    (outcome : Answer × EndpointLocal)
    → ((forbidden : Forbidden) → Holds (answers.Forbidden forbidden) local.barrier)
    → Holds outcome.0 outcome.1.barrier
    → Holds (unless_forbidden (endpoint_rules settings table meaning) thread judged local outcome).0
    (unless_forbidden (endpoint_rules settings table meaning) thread judged local outcome).1.barrier
by_judgement Holds settings table meaning thread (Ok allowed) local outcome same new = new
by_judgement Holds settings table meaning thread (Err forbidden) local outcome same new = same forbidden

-- a thread of the node
abbrev pub caller_at : Parameters → Records → (node thread : ℕ) → Caller
caller_at settings records node thread =
    record { settings = settings; me = node; thread = thread; exhausted = is_exhausted settings (records node) }

-- what a call adds to the barrier of its node, by its answer
abbrev pub call_adds : OtherCall → Answer → Added
call_adds call answer = record {
  notifies = notify_told call (OfNode (OfCall answer));
  ended = ends_told call (OfNode (OfCall answer));
}

notify_is_told : (id : ℤ) (flags : ℕ) (answer : Notified)
    → notify_adds (identifier id) flags answer ≡ call_adds (OnBarrier (Notify id flags)) (answers.Notified answer)
notify_is_told id flags told.Ok = refl
notify_is_told id flags told.BadFlags = refl
notify_is_told id flags told.Twice = refl
notify_is_told id flags told.Exhausted = refl

try_is_told : (id : ℤ) (flags : ℕ) (answer : BarrierAnswer)
    → try_adds answer ≡ call_adds (OnBarrier (TryBarrier id flags)) (answers.Barrier answer)
try_is_told id flags tried.Ok = refl
try_is_told id flags tried.Mismatch = refl
try_is_told id flags tried.NotReady = refl
try_is_told id flags tried.NoNotify = refl
try_is_told id flags tried.BadFlags = refl
try_is_told id flags (tried.Exhausted node) = refl

-- a thread makes another call
does_steps : (settings : Parameters) (table : List (Option Entry)) (meaning : Meaning) (records : Records)
    (node thread : ℕ) (call : OtherCall) → node < settings.nodes → NodeHolds settings (records node)
    → let outcome = call_outcome (job_of settings table meaning) node (records node) thread call in
    Steps settings.nodes (barriers_of records) node (call_adds call outcome.0) outcome.1.barrier
does_steps settings table meaning records node thread (OnBarrier (Notify id flags)) there holds =
    let barrier = barriers_of records node in
    by_judgement
    (λ answer. Steps settings.nodes (barriers_of records) node (call_adds (OnBarrier (Notify id flags)) answer))
    settings table meaning thread _ (records node).local _
    (λ forbidden. step_same settings.nodes (barriers_of records) node _ holds.within refl)
    (subst (λ added. Steps settings.nodes (barriers_of records) node added
    (notify_after barrier (identifier id) flags (notify_answer barrier (identifier id) flags)))
    (notify_is_told id flags (notify_answer barrier (identifier id) flags))
    (step_notify settings.nodes (barriers_of records) node id flags there holds.within))
does_steps settings table meaning records node thread (OnBarrier (TryBarrier id flags)) there holds =
    let barrier = barriers_of records node in
    let exhausted = exhausted_for (caller_at settings records node thread) barrier in
    let try : Try = record { id = identifier id; flags = flags; exhausted = exhausted } in
    let says = try_answer settings.nodes node barrier try in
    by_judgement
    (λ answer. Steps settings.nodes (barriers_of records) node (call_adds (OnBarrier (TryBarrier id flags)) answer))
    settings table meaning thread _ (records node).local _
    (λ forbidden. step_same settings.nodes (barriers_of records) node _ holds.within refl)
    (subst (λ added. Steps settings.nodes (barriers_of records) node added (try_after barrier says))
    (try_is_told id flags says)
    (step_try settings.nodes (barriers_of records) node try there holds.within))
does_steps settings table meaning records node thread call there holds =
    step_same settings.nodes (barriers_of records) node _ holds.within
    ((call_framed settings table meaning (caller_at settings records node thread) call (records node).local).barrier
    refl)

pub does_step : (settings : Parameters) (table : List (Option Entry)) (meaning : Meaning) (records : Records)
    (node thread : ℕ) (call : OtherCall) → node < settings.nodes → NodeHolds settings (records node)
    → let outcome = call_outcome (job_of settings table meaning) node (records node) thread call in
    NodeSteps settings records node (call_adds call outcome.0) (with_local (records node) outcome.1)
does_step settings table meaning records node thread call there holds =
    stepping settings records node _ _ (does_steps settings table meaning records node thread call there holds)
    holds.said holds.replied

-- ---- messages

-- a message is delivered; where it runs, its barrier becomes that
delivery_step : (settings : Parameters) (table : List (Option Entry)) (meaning : Meaning) (records : Records)
    (node : ℕ) (message : Message) (verdict : Verdict) → IsLawfulMeaning meaning → NodeHolds settings (records node)
    → (verdict ≡ Runs → Steps settings.nodes (barriers_of records) node nothing_added
    (after_notification settings (content_of message) (barriers_of records node)))
    → NodeSteps settings records node nothing_added
    (after_delivery (site_of (job_of settings table meaning) node) (records node) message verdict)
delivery_step settings table meaning records node message Runs lawful holds runs =
    stepping settings records node nothing_added _ (runs refl) holds.said
    (replied_push (records node).ran message.from _ holds.replied
    (run_replies settings table meaning (with_sender node message) (content_of message) (records node).local.core
    lawful))
delivery_step settings table meaning records node message Returns lawful holds runs =
    stepping settings records node nothing_added _
    (step_same settings.nodes (barriers_of records) node _ holds.within refl)
    (said_put settings (barriers_of records node).sent (records node).asked message.from _ holds.said
    (said_change settings (barriers_of records node).sent ((records node).asked message.from) as_back message.number
    (λ request. refl) (holds.said message.from)))
    holds.replied
delivery_step settings table meaning records node message _ lawful holds runs =
    stepping settings records node nothing_added _
    (step_same settings.nodes (barriers_of records) node _ holds.within refl) holds.said holds.replied

-- a notification runs that was sent
notification_comes : (settings : Parameters) (content : Content) (barrier : BarrierRecord) (sent : List SentNotification)
    → AreInRange settings → content.handler ≡ notification_handler → (said : IsSaid settings sent content)
    → after_notification settings content barrier ≡ hear barrier said.one.notification
notification_comes settings content barrier sent range is said =
    ap (λ hears. cond hears (hear barrier (notification_said settings.version content.args)) barrier) heard
    ∙ ap (hear barrier) again
  where
    again : notification_said settings.version content.args ≡ said.one.notification
    again = ap (notification_said settings.version) said.args
        ∙ notification_again settings.version settings.nodes said.one.notification range.version (nodes_few settings range) said.notification

    heard : eqb content.handler notification_handler && has_ranges (notification_said settings.version content.args) ≡ true
    heard = and_from _ _ (eq-eqb content.handler notification_handler is)
        (subst (λ (notification : BarrierNotification). has_ranges notification ≡ true) (sym again)
        (notification_ranges settings.nodes said.one.notification said.notification))

-- a request that was accepted comes
pub request_step : (settings : Parameters) (table : List (Option Entry)) (meaning : Meaning) (records : Records)
    (from node number : ℕ) (request : Request) → AreInRange settings → IsLawfulMeaning meaning → node < settings.nodes
    → NodeHolds settings (records from) → NodeHolds settings (records node)
    → element_at ((records from).asked node) number ≡ Some request
    → NodeSteps settings records node nothing_added
    (after_delivery (site_of (job_of settings table meaning) node) (records node)
    (request_message settings from node number request)
    (verdict (site_of (job_of settings table meaning) node) (records node)
    (request_message settings from node number request)))
request_step settings table meaning records from node number request range lawful there sender holds found =
    delivery_step settings table meaning records node (request_message settings from node number request) _ lawful holds
    (λ runs. elim (cases_eq request.content.handler notification_handler) [
      | inl is ↦ (let said = sender.said node number request found is in
          subst (Steps settings.nodes (barriers_of records) node nothing_added)
          (sym (notification_comes settings request.content (barriers_of records node) (barriers_of records from).sent range is
          said))
          (step_hear settings.nodes (barriers_of records) node from said.place said.one there holds.within said.notification
          said.there))
      | inr apart ↦ step_same settings.nodes (barriers_of records) node _ holds.within
          (after_other settings request.content (barriers_of records node) apart)
    ])

-- the reply of a run comes
pub reply_step : (settings : Parameters) (table : List (Option Entry)) (meaning : Meaning) (records : Records)
    (node to number : ℕ) (run : Run) → IsLawfulMeaning meaning
    → NodeHolds settings (records to) → NodeHolds settings (records node)
    → run_of number ((records to).ran node) ≡ Some run
    → NodeSteps settings records node nothing_added
    (after_delivery (site_of (job_of settings table meaning) node) (records node)
    (reply_message settings node to run)
    (verdict (site_of (job_of settings table meaning) node) (records node) (reply_message settings node to run)))
reply_step settings table meaning records node to number run lawful sender holds found =
    delivery_step settings table meaning records node (reply_message settings node to run) _ lawful holds
    (λ runs.
    let says = runs_says (site_of (job_of settings table meaning) node) (records node)
    (reply_message settings node to run) runs in
    let at = run_of_there number ((records to).ran node) run found in
    absurd (true≢false (sym says.request ∙ sender.replied node at.1.0 run at.1.1)))

-- ---- ticks

-- the notification that goes next is the one that is due to its node
notification_among_due : (due : ℕ → Option BarrierNotification) (can : ℕ → Bool) (node many : ℕ) (sent : SentNotification)
    → notification_among due can node many ≡ Some sent → due sent.to ≡ Some sent.notification
notification_among_due due can node zero sent e = absurd (none_some e)
notification_among_due due can node (suc many) sent e = elim (cases_Bool (can node)) [
  | inl can_be ↦ elim (cases_option (due node)) [
    | inl none ↦ notification_among_due due can (suc node) many sent (rw (can_be, none) at e)
    | inr notification ↦ (let is : record { to = node; notification = notification.0 } ≡ sent = same_Some _ _ (rw (can_be, notification.1) at e) in
        subst (λ (one : SentNotification). due one.to ≡ Some one.notification) is notification.1)
  ]
  | inr shut ↦ notification_among_due due can (suc node) many sent (rw shut at e)
]

next_notification_due : (settings : Parameters) (me : ℕ) (can : ℕ → Bool) (barrier : BarrierRecord) (sent : SentNotification)
    → next_notification settings me can barrier ≡ Some sent → notification_to settings.nodes me barrier sent.to ≡ Some sent.notification
next_notification_due settings me can barrier sent e = elim (cases_Bool (ltb me settings.nodes)) [
  | inl there ↦ notification_among_due (notification_to settings.nodes me barrier) can 0 settings.nodes sent (rw there at e)
  | inr none ↦ absurd (none_some (rw none at e))
]

-- a chunk is no notification
chunk_handler : (version : ℕ) (segment : List ℕ) (next : Next)
    → (work_content version segment (chunk_work next)).handler ≢ notification_handler
chunk_handler version segment next = of next.number next.transfer next.start next.len
  where
    of : (number : ℕ) (transfer : Transfer) (start len : ℕ)
        → (work_content version segment
        (chunk_work (record { number = number; transfer = transfer; start = start; len = len }))).handler
        ≢ notification_handler
    of number (transfers.Put to remote local size) start len is = omega (arith, is)
    of number (transfers.Get to remote local size) start len is = omega (arith, is)
    of number (transfers.Memset to remote size byte) start len is = omega (arith, is)

-- what is sent is the notification that is due to the node to which it goes
abbrev SendsNotification : Parameters → (me : ℕ) → BarrierRecord → Sending → Type 0
SendsNotification settings me barrier sending =
    (notification : BarrierNotification) × (notification_to settings.nodes me barrier sending.to ≡ Some notification)
    × (sending.content ≡ work_content settings.version [] (Notification notification))

-- a tick sends that, or what is no notification
sends_says : (settings : Parameters) (me : ℕ) (can : ℕ → Bool) (local : EndpointLocal) (sending : Sending)
    → next_sending settings me can local ≡ Some sending
    → SendsNotification settings me local.barrier sending ⊎ (sending.content.handler ≢ notification_handler)
sends_says settings me can local sending e =
    by_notification (next_notification settings me can local.barrier) refl (next_chunk can 1 local.operations) e
  where
    by_chunk : (next : Option Next)
        → notification_first settings (segment_of settings local.core) None next ≡ Some sending
        → sending.content.handler ≢ notification_handler
    by_chunk None same = absurd (none_some same)
    by_chunk (Some next) same =
        subst (λ (any : Sending). any.content.handler ≢ notification_handler) (same_Some _ _ same)
        (chunk_handler settings.version (segment_of settings local.core) next)

    by_notification : (notification : Option SentNotification) → next_notification settings me can local.barrier ≡ notification → (next : Option Next)
        → notification_first settings (segment_of settings local.core) notification next ≡ Some sending
        → SendsNotification settings me local.barrier sending ⊎ (sending.content.handler ≢ notification_handler)
    by_notification None is next same = inr (by_chunk next same)
    by_notification (Some sent) is next same = inl (subst (SendsNotification settings me local.barrier) (same_Some _ _ same) (
      sent.notification,
      next_notification_due settings me can local.barrier sent is,
      refl,
    ))

-- a notification is accepted
notification_sent : (settings : Parameters) (contact : Contact) (content : Content) (local : EndpointLocal)
    → content.handler ≡ notification_handler
    → (after_sent settings contact content local).barrier
    ≡ send local.barrier contact.peer (notification_to settings.nodes contact.me local.barrier contact.peer)
notification_sent settings contact content local is = rw (eq-eqb content.handler notification_handler is) refl

other_sent : (settings : Parameters) (contact : Contact) (content : Content) (local : EndpointLocal)
    → content.handler ≢ notification_handler → (after_sent settings contact content local).barrier ≡ local.barrier
other_sent settings contact content local apart = rw (ne_eqb content.handler notification_handler apart) refl

-- the request that a tick sends, with what it leaves
sending_step : (settings : Parameters) (table : List (Option Entry)) (meaning : Meaning) (records : Records)
    (now node : ℕ) (sending : Sending) → AreInRange settings → node < settings.nodes
    → NodeHolds settings (records node)
    → SendsNotification settings node (barriers_of records node) sending ⊎ (sending.content.handler ≢ notification_handler)
    → NodeSteps settings records node nothing_added
    (after_tick (site_of (job_of settings table meaning) node) (records node) now (Sends sending))
sending_step settings table meaning records now node sending range there holds (inl notification) =
    record {
      holds = record {
        within = step.within;
        said = said_put settings newer.sent (records node).asked sending.to _ all_said
            (said_push settings newer.sent ((records node).asked sending.to) _ (all_said sending.to) (λ is. said));
        replied = holds.replied;
      };
      step = step;
    }
  where
    kept : BarrierRecord
    kept = barriers_of records node

    one : SentNotification
    one = record { to = sending.to; notification = notification.0 }

    newer : BarrierRecord
    newer = (after_sent settings (with_asked node (records node) sending.to) sending.content
        (records node).local).barrier

    is_sent : newer ≡ send kept sending.to (notification_to settings.nodes node kept sending.to)
    is_sent = notification_sent settings (with_asked node (records node) sending.to) sending.content (records node).local
        (ap (λ (content : Content). content.handler) notification.2)

    step : Steps settings.nodes (barriers_of records) node nothing_added newer
    step = subst (Steps settings.nodes (barriers_of records) node nothing_added) (sym is_sent)
        (step_send settings.nodes (barriers_of records) node sending.to there holds.within)

    all_said : AllSaid settings newer.sent (records node).asked
    all_said = said_grows settings kept.sent newer.sent (records node).asked step.grows holds.said

    left : newer ≡ send kept sending.to (Some notification.0)
    left = is_sent ∙ ap (send kept sending.to) notification.1

    said : IsSaid settings newer.sent sending.content
    said = record {
      place = length kept.sent;
      one = one;
      there = subst (λ (any : BarrierRecord). slice_get any.sent (length kept.sent) ≡ Some one) (sym left)
          (slice_get_last kept.sent one);
      notification = notifications_fit settings.nodes node kept sending.to notification.0 range.nodes there holds.within notification.1;
      args = ap (λ (content : Content). content.args) notification.2;
    }
sending_step settings table meaning records now node sending range there holds (inr apart) =
    stepping settings records node nothing_added _
    (step_same settings.nodes (barriers_of records) node _ holds.within
    (other_sent settings (with_asked node (records node) sending.to) sending.content (records node).local apart))
    (said_put settings (barriers_of records node).sent (records node).asked sending.to _ holds.said
    (said_push settings (barriers_of records node).sent ((records node).asked sending.to) _ (holds.said sending.to)
    (λ is. absurd (apart is))))
    holds.replied

pub tick_step : (settings : Parameters) (table : List (Option Entry)) (meaning : Meaning) (records : Records)
    (now node : ℕ) (choice : TickChoice) → AreInRange settings → node < settings.nodes
    → NodeHolds settings (records node)
    → tick_choice (site_of (job_of settings table meaning) node) (records node) now ≡ choice
    → NodeSteps settings records node nothing_added
    (after_tick (site_of (job_of settings table meaning) node) (records node) now choice)
tick_step settings table meaning records now node (Retransmits due) range there holds e =
    stepping settings records node nothing_added _
    (step_same settings.nodes (barriers_of records) node _ holds.within refl)
    (said_put settings (barriers_of records node).sent (records node).asked due.peer _ holds.said
    (said_change settings (barriers_of records node).sent ((records node).asked due.peer) (sent_at now) due.number
    (λ request. refl) (holds.said due.peer)))
    holds.replied
tick_step settings table meaning records now node (Sends sending) range there holds e =
    let can = can_ask (site_of (job_of settings table meaning) node) (records node) in
    sending_step settings table meaning records now node sending range there holds
    (sends_says settings node can (records node).local sending
    (sends_choice (next_due settings (records node) now) (next_sending settings node can (records node).local) sending
    e))
tick_step settings table meaning records now node Rests range there holds e =
    stepping settings records node nothing_added _
    (step_same settings.nodes (barriers_of records) node _ holds.within refl) holds.said holds.replied
