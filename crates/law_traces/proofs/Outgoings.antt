-- What a turn sends stands in its slot until the turn's end.
use Rattle.std.proofs.Common.{◌≡◌, ◌≢◌, inl, inr, ℕ, zero, suc, ◌<◌, Bool, true, false, not, ◌&&◌, eqb, ltb, List, []}
use Rattle.std.proofs.Common.{◌∷◌, ◌++◌, Option, None, Some, refl, sym, ap, ap₂, ◌∙◌, subst, arith, ne_eqb}
use Rattle.std.proofs.Common.{eq-eqb, lt-ltb}
use Rattle.std.specs.Prelude.{if◌then◌else◌, nat_lt, ◌+◌, nat_le}
use Rattle.std.specs.List.{AllByRecursion, Contains}
use Rattle.std.specs.Option.{option_map}
use Rattle.std.proofs.lemmas.Bool.{cases_Bool, eqb-true, ltb-true}
use Rattle.std.proofs.lemmas.List.Elements.{Contains-append_cases}
use Rattle.std.proofs.lemmas.Option.{same_Some}
use Rattle.base_lists.specs.Put.{put}
use Rattle.base_lists.specs.Numbered.{element_at}
use Rattle.base_lists.proofs.Cases.{none_some}
use Rattle.base_lists.proofs.Members.{all_append, contains_none, contains_one}
use Rattle.base_lists.proofs.Numbered.{numbered_nil, numbered-change_here}
use Rattle.base_lists.proofs.Places.{slice_get_last}
use Rattle.base_lists.proofs.Put.{put_same}
use Rattle.wire_message.specs.Parameters.{Parameters, credits_of}
use Rattle.wire_message.specs.declared.refused.Refused.{Refused as Refusal}
use Rattle.wire_message.specs.Refusals.{first_refusal}
use Rattle.wire_message.specs.Content.{Content, content_of, spelling, is_version}
use Rattle.wire_message.specs.Message.{Message, IsMessage}
use Rattle.wire_message.proofs.Laws.{takes}
use Rattle.spec_node.specs.declared.answer.Asked.{Asked}
use Rattle.spec_node.specs.declared.answer.Asked.TheVariants as asked
use Rattle.spec_node.specs.declared.answer.Why.{Why}
use Rattle.spec_node.specs.declared.answer.Why.TheVariants as why
use Rattle.spec_node.specs.Record.{Request, Run, Node}
use Rattle.spec_node.specs.Requests.{Due, next_claim, dues, all_dues, open_in, sent_at, is_open}
use Rattle.spec_node.specs.Executed.{greatest, run_at, last_run}
use Rattle.spec_node.specs.Behaviour.{Ask, is_request}
use Rattle.spec_node.specs.Step.{Site, new_request, request_content, request_answer, after_request, address_fault}
use Rattle.spec_node.specs.Step.{first_why, refusal, slots_for, Verdict, Refused, Duplicated, Passed, Runs, Missed}
use Rattle.spec_node.specs.Step.{Returns}
use Rattle.spec_node.specs.Step.{Waits, unless_refused, unless_waiting, verdict}
use Rattle.spec_node.specs.Step.{after_delivery, TickChoice, Retransmits, Sends, Rests, tick_choice, next_due, can_ask}
use Rattle.spec_node.specs.Step.{after_tick}
use Rattle.spec_node.specs.Invariant.{NodeInvariant, request_message, reply_message}
use Rattle.spec_node.specs.SlotMessages.{message_at}
use Rattle.spec_node.specs.Spelled.{run_made}
use Rattle.spec_node.specs.NodeStep.{Job, site_of, IsAllSound, NodeEvent, Asks, Does, Comes, Ticks, node_after}
use Rattle.spec_node.proofs.Answers.{accepted_says, runs_says, sends_choice, retransmits_choice, can_says}
use Rattle.spec_node.proofs.Keeping.{open_says}
use Rattle.spec_node.proofs.Runs.{run_at_says, last_new}
use Rattle.spec_network.specs.Sent.{Place, Packet, Asking, Replying, asking, replying, asked_sends, delivered_sends}
use Rattle.spec_network.specs.Sent.{ticked_sends, sends}
use Rattle.spec_network.proofs.PlainTicks.{IsOpenAt, all_dues_open, earliest_has}
use Rattle.node_rules.specs.Called.{Requests, Performs}
use Rattle.node_rules.specs.EndpointLocal.{EndpointLocal}
use Rattle.node_rules.specs.EndpointRules.{RecordEvent}
use Rattle.node_rules.proofs.Asked.{Stay, stay_push, stay_sent}
use Rattle.law_traces.specs.Scripts.{NodeJob, ThreadCall}
use Rattle.law_traces.specs.Laws.{GotBytes}
use Rattle.law_traces.specs.Turn.{packet_message, node_run, node_sends, MachineState, coming, comes, turn_events}
use Rattle.law_traces.specs.Turn.{as_tried, context, events_of}
use Rattle.law_traces.specs.Outgoing.{slot_of_packet, StaysWell, AreOwn, DeliversOnlyMessages, ComesFirst, SentStands}
use Rattle.law_traces.proofs.Mosts.{IsOwn}
use Rattle.base_lists.proofs.Tests.{gate}

-- ---- what stands in a slot

-- the request of the packet is the one that isn't back in its slot
record IsAskedIn {Local : Type 0} (settings : Parameters) (me : ℕ) (at : Place) (content : Content) (node : Node Local)
    : Type 0 where
  sender_is : at.from ≡ me
  there : at.to < settings.nodes
  other : at.to ≢ me
  request : Request
  found : element_at (node.asked at.to) at.number ≡ Some request
  slot_is : request.slot ≡ at.slot
  says : request.content ≡ content
  out : request.back ≡ false

-- the run of the packet is the last one of its slot
record IsRepliedIn {Local : Type 0} (settings : Parameters) (me : ℕ) (at : Place) (content : Content)
    (node : Node Local)
    : Type 0 where
  sender_is : at.to ≡ me
  there : at.from < settings.nodes
  other : at.from ≢ me
  below : at.slot < credits_of settings at.from me
  run : Run
  last : last_run at.slot (node.ran at.from) ≡ Some run
  number_is : run.number ≡ at.number
  slot_is : run.slot ≡ at.slot
  says : run.reply ≡ content

abbrev IsInSlot : {Local : Type 0} → Parameters → (me : ℕ) → Packet → Node Local → Type 0
IsInSlot settings me (Asking at content) node = IsAskedIn settings me at content node
IsInSlot settings me (Replying at content) node = IsRepliedIn settings me at content node

-- then its message is the one of that slot
in_slot_message : {Local : Type 0} (settings : Parameters) (IsKept : (me : ℕ) → Local → Type 0) (me : ℕ)
    (packet : Packet) (node : Node Local) → NodeInvariant settings IsKept me node → IsInSlot settings me packet node
    → message_at settings me node (slot_of_packet packet) ≡ Some (spelling (packet_message settings packet))
in_slot_message settings IsKept me (Asking at content) node I S =
    let requests = node.asked at.to in
    let orderly = I.orderly at.to in
    let low : at.slot < credits_of settings me at.to =
    subst (λ k. k < credits_of settings me at.to) S.slot_is (orderly.low at.number S.request S.found) in
    let there = open_says requests at.slot at.number orderly.apart
    (ap (is_open at.slot) S.found ∙ rw S.out (eq-eqb S.request.slot at.slot S.slot_is)) in
    let same : there.0 ≡ S.request = same_Some _ _ (sym there.1 ∙ S.found) in
    let open_ : open_in at.slot requests ≡ Some (at.number, S.request) =
    there.4 ∙ ap (λ (y : Request). Some (at.number, y)) same in
    gate (nat_lt at.to settings.nodes) (eqb at.to me) (nat_lt at.slot (credits_of settings me at.to)) _
    (lt-ltb at.to settings.nodes S.there) (ne_eqb at.to me S.other)
    (lt-ltb at.slot (credits_of settings me at.to) low)
    ∙ (ap (option_map (λ (o : ℕ × Request). spelling (request_message settings me at.to o.0 o.1))) open_
    ∙ (ap₂ (λ (slot : ℕ) (says : Content). Some (spelling (packet_message settings
    (Asking (record at { from = me; slot = slot }) says)))) S.slot_is S.says
    ∙ ap (λ (from : ℕ). Some (spelling (packet_message settings (Asking (record at { from = from }) content))))
    (sym S.sender_is)))
in_slot_message settings IsKept me (Replying at content) node I S =
    gate (nat_lt at.from settings.nodes) (eqb at.from me) (nat_lt at.slot (credits_of settings at.from me)) _
    (lt-ltb at.from settings.nodes S.there) (ne_eqb at.from me S.other)
    (lt-ltb at.slot (credits_of settings at.from me) S.below)
    ∙ (ap (option_map (λ (k : Run). spelling (reply_message settings at.from me k))) S.last
    ∙ (ap₂ (λ (slot : ℕ) (says : Content). Some (spelling (packet_message settings
    (Replying (record at { to = me; slot = slot; number = S.run.number }) says)))) S.slot_is S.says
    ∙ (ap (λ (number : ℕ). Some (spelling (packet_message settings
    (Replying (record at { to = me; number = number }) content)))) S.number_is
    ∙ ap (λ (to : ℕ). Some (spelling (packet_message settings (Replying (record at { to = to }) content))))
    (sym S.sender_is))))

-- ---- what stood in a slot stays there, through all but a delivery

stays_by : {Local : Type 0} (settings : Parameters) (me : ℕ) (packet : Packet) (node after : Node Local)
    → Stay node.asked after.asked → after.ran ≡ node.ran → IsInSlot settings me packet node
    → IsInSlot settings me packet after
stays_by settings me (Asking at content) node after stay same S =
    let it = stay at.to at.number S.request S.found in
    record {
      sender_is = S.sender_is;
      there = S.there;
      other = S.other;
      request = it.0;
      found = it.1;
      slot_is = it.2.slot ∙ S.slot_is;
      says = it.2.content ∙ S.says;
      out = it.2.back_is ∙ S.out;
    }
stays_by settings me (Replying at content) node after stay same S = record {
  sender_is = S.sender_is;
  there = S.there;
  other = S.other;
  below = S.below;
  run = S.run;
  last = ap (λ (ran : ℕ → List Run). last_run at.slot (ran at.from)) same ∙ S.last;
  number_is = S.number_is;
  slot_is = S.slot_is;
  says = S.says;
}

stay_same : (asked : ℕ → List Request) → Stay asked asked
stay_same asked peer number request at = (request, at, record { slot = refl; content = refl; back_is = refl })

request_stays : {Local : Type 0} (site : Site Local) (now : ℕ) (node : Node Local) (ask : Ask) (answer : Asked)
    (packet : Packet) → IsInSlot site.settings site.me packet node
    → IsInSlot site.settings site.me packet (after_request site node now ask answer)
request_stays site now node ask (asked.Accepted to slot number) packet S =
    stays_by site.settings site.me packet node (after_request site node now ask (asked.Accepted to slot number))
    (stay_push node.asked ask.to (new_request now slot (request_content site node ask))) refl S
request_stays site now node ask asked.Ran packet S =
    stays_by site.settings site.me packet node (after_request site node now ask asked.Ran) (stay_same node.asked) refl S
request_stays site now node ask (asked.Forbidden forbidden) packet S =
    stays_by site.settings site.me packet node (after_request site node now ask (asked.Forbidden forbidden))
    (stay_same node.asked) refl S
request_stays site now node ask (asked.BadArg part) packet S = S
request_stays site now node ask (asked.LockBusy lock) packet S = S
request_stays site now node ask asked.Exhausted packet S = S
request_stays site now node ask asked.NotYet packet S = S

tick_stays : {Local : Type 0} (site : Site Local) (now : ℕ) (node : Node Local) (choice : TickChoice)
    (packet : Packet) → IsInSlot site.settings site.me packet node
    → IsInSlot site.settings site.me packet (after_tick site node now choice)
tick_stays site now node (Retransmits due) packet S =
    stays_by site.settings site.me packet node (after_tick site node now (Retransmits due))
    (stay_sent node.asked now due.peer due.number) refl S
tick_stays site now node (Sends sending) packet S =
    stays_by site.settings site.me packet node (after_tick site node now (Sends sending))
    (stay_push node.asked sending.to (new_request now (next_claim (node.asked sending.to)).slot sending.content)) refl S
tick_stays site now node Rests packet S = S

own_stays : {Local Call Told : Type 0} (job : Job Local Call Told) (me now : ℕ) (node : Node Local)
    (event : NodeEvent Call) (packet : Packet) → IsOwn event → IsInSlot job.settings me packet node
    → IsInSlot job.settings me packet (node_after job me node now event)
own_stays job me now node (Asks ask) packet own S =
    request_stays (site_of job me) now node ask (request_answer (site_of job me) node ask) packet S
own_stays job me now node (Does thread call) packet own S =
    stays_by job.settings me packet node (node_after job me node now (Does thread call)) (stay_same node.asked) refl S
own_stays job me now node (Comes message) packet own S = absurd own
own_stays {Call = Call} job me now node Ticks packet own S =
    tick_stays (site_of job me) now node (tick_choice (site_of job me) node now) packet S

-- ---- what an event sends stands in its slot

-- the one of a list of one
one_stands : {Local : Type 0} (settings : Parameters) (me : ℕ) (node : Node Local) (packet one : Packet)
    → Contains (one ∷ []) packet → IsInSlot settings me one node → IsInSlot settings me packet node
one_stands {Local} settings me node packet one h S =
    subst (λ (p : Packet). IsInSlot settings me p node) (sym (contains_one packet one h)) S

-- a request that was accepted with the next claim
accepted_in : {Local : Type 0} (settings : Parameters) (me now to slot number : ℕ) (content : Content)
    (node after : Node Local) → to < settings.nodes → to ≢ me
    → number ≡ (next_claim (node.asked to)).number
    → after.asked ≡ put node.asked to (node.asked to ++ new_request now slot content ∷ [])
    → IsAskedIn settings me (record { from = me; to = to; number = number; slot = slot }) content after
accepted_in settings me now to slot number content node after there other number_is asked_is = record {
  sender_is = refl;
  there = there;
  other = other;
  request = new_request now slot content;
  found = ap₂ (λ (requests : List Request) (k : ℕ). element_at requests k)
      (ap (λ (f : ℕ → List Request). f to) asked_is ∙ put_same node.asked to _) number_is
      ∙ slice_get_last (node.asked to) (new_request now slot content);
  slot_is = refl;
  says = refl;
  out = refl;
}

asked_in : {Local : Type 0} (site : Site Local) (now : ℕ) (node : Node Local) (ask : Ask) (answer : Asked)
    → request_answer site node ask ≡ answer → (packet : Packet) → Contains (asked_sends site node ask answer) packet
    → IsInSlot site.settings site.me packet (after_request site node now ask answer)
asked_in site now node ask (asked.Accepted to slot number) e packet h =
    let says = accepted_says site node ask to slot number e in
    let content = request_content site node ask in
    let after = after_request site node now ask (asked.Accepted to slot number) in
    let at : Place = record { from = site.me; to = ask.to; number = number; slot = slot } in
    one_stands site.settings site.me after packet (Asking at content) h
    (accepted_in site.settings site.me now ask.to slot number content node after says.to_in says.other says.number_is
    refl)
asked_in site now node ask asked.Ran e packet h = absurd (contains_none packet h)
asked_in site now node ask (asked.Forbidden forbidden) e packet h = absurd (contains_none packet h)
asked_in site now node ask (asked.BadArg part) e packet h = absurd (contains_none packet h)
asked_in site now node ask (asked.LockBusy lock) e packet h = absurd (contains_none packet h)
asked_in site now node ask asked.Exhausted e packet h = absurd (contains_none packet h)
asked_in site now node ask asked.NotYet e packet h = absurd (contains_none packet h)

-- ---- a message that comes

-- a message that isn't refused is for this node, from one that is there, and its slot is one of their pair
record IsOurs (settings : Parameters) (me : ℕ) (message : Message) : Type 0 where
  to_me : message.to ≡ me
  there : message.from < settings.nodes
  below : message.slot < slots_for settings me message

ours : (settings : Parameters) (me : ℕ) (message : Message) (other : Option Why)
    → first_why (address_fault settings me message) other ≡ None → IsOurs settings me message
ours settings me message other e =
    by_tests (eqb message.job settings.job) (eqb message.to me) (ltb message.from settings.nodes)
    (ltb message.slot (slots_for settings me message)) refl refl refl
    (first_none (address_fault settings me message) other e)
  where
    first_none : (one second : Option Why) → first_why one second ≡ None → one ≡ None
    first_none None second h = refl
    first_none (Some reason) second h = absurd (none_some (sym h))

    by_tests : (a b c d : Bool) → eqb message.to me ≡ b → ltb message.from settings.nodes ≡ c
        → ltb message.slot (slots_for settings me message) ≡ d
        → (if not a then Some why.Job else (if not b then Some why.Receiver else (if not c then Some why.Sender
        else (if not d then Some why.Slot else None)))) ≡ None
        → IsOurs settings me message
    by_tests true true true true f g k h = record {
      to_me = eqb-true message.to me f;
      there = ltb-true message.from settings.nodes g;
      below = ltb-true message.slot (slots_for settings me message) k;
    }
    by_tests false b c d f g k h = absurd (none_some (sym h))
    by_tests true false c d f g k h = absurd (none_some (sym h))
    by_tests true true false d f g k h = absurd (none_some (sym h))
    by_tests true true true false f g k h = absurd (none_some (sym h))

-- a request that came again isn't refused, is a request, and has the greatest number of its slot
record IsAgain {Local : Type 0} (site : Site Local) (node : Node Local) (message : Message) : Type 0 where
  unrefused : refusal site message ≡ None
  request : is_request message.kind ≡ true
  top : message.number ≡ greatest message.slot (node.ran message.from)

again_says : {Local : Type 0} (site : Site Local) (node : Node Local) (message : Message)
    → verdict site node message ≡ Duplicated → IsAgain site node message
again_says site node message e =
    by_parts (refusal site message) (is_request message.kind)
    (eqb message.number (greatest message.slot (node.ran message.from)))
    (ltb message.number (greatest message.slot (node.ran message.from)))
    (is_open message.slot (element_at (node.asked message.from) message.number))
    (site.behaviour.waits (content_of message) node.local) refl refl refl e
  where
    by_parts : (o : Option Why) (asks same less opens : Bool) (lock : Option ℕ) → refusal site message ≡ o
        → is_request message.kind ≡ asks → eqb message.number (greatest message.slot (node.ran message.from)) ≡ same
        → unless_refused o (if asks then (if same then Duplicated else (if less then Passed
        else unless_waiting lock Runs)) else (if opens then unless_waiting lock Returns else Missed)) ≡ Duplicated
        → IsAgain site node message
    by_parts None true true less opens lock f g k h =
        record { unrefused = f; request = g; top = eqb-true message.number _ k }
    by_parts (Some reason) asks same less opens lock f g k h = absurd (cc)
    by_parts None true false true opens lock f g k h = absurd (cc)
    by_parts None true false false opens None f g k h = absurd (cc)
    by_parts None true false false opens (Some l) f g k h = absurd (cc)
    by_parts None false same less true None f g k h = absurd (cc)
    by_parts None false same less true (Some l) f g k h = absurd (cc)
    by_parts None false same less false lock f g k h = absurd (cc)

-- the slots for requests of the sender
request_below : (settings : Parameters) (me : ℕ) (message : Message) → is_request message.kind ≡ true
    → message.slot < slots_for settings me message → message.slot < credits_of settings message.from me
request_below settings me message is below =
    subst (λ (b : Bool). message.slot
    < (if b then credits_of settings message.from me else credits_of settings me message.from)) is below

delivered_in : {Local : Type 0} (site : Site Local) (node : Node Local) (message : Message) (v : Verdict)
    → IsMessage message → verdict site node message ≡ v → (packet : Packet)
    → Contains (delivered_sends site node message v) packet
    → IsInSlot site.settings site.me packet (after_delivery site node message v)
delivered_in {Local} site node message Runs is e packet h =
    let says = runs_says site node message e in
    let O = ours site.settings site.me message _ says.unrefused in
    let run = run_made site node message in
    let after = after_delivery site node message Runs in
    let at : Place =
    record { from = message.from; to = site.me; number = message.number; slot = message.slot } in
    one_stands site.settings site.me after packet (Replying at run.reply) h (record {
      sender_is = refl;
      there = O.there;
      other = λ same. is.apart (same ∙ sym O.to_me);
      below = request_below site.settings site.me message says.request O.below;
      run = run;
      last = ap (last_run message.slot) (put_same node.ran message.from (node.ran message.from ++ run ∷ []))
          ∙ last_new (node.ran message.from) run says.above;
      number_is = refl;
      slot_is = refl;
      says = refl;
    })
delivered_in {Local} site node message Duplicated is e packet h =
    by_run (run_at message.slot message.number (node.ran message.from)) refl h
  where
    says : IsAgain site node message
    says = again_says site node message e

    O : IsOurs site.settings site.me message
    O = ours site.settings site.me message _ says.unrefused

    by_run : (o : Option Run) → run_at message.slot message.number (node.ran message.from) ≡ o
        → Contains (replying message.from site.me message.number o) packet
        → IsInSlot site.settings site.me packet node
    by_run None f g = absurd (contains_none packet g)
    by_run (Some run) f g =
        let it = run_at_says message.slot message.number (node.ran message.from) run f in
        let at : Place =
        record { from = message.from; to = site.me; number = message.number; slot = run.slot } in
        one_stands site.settings site.me node packet (Replying at run.reply) g (record {
          sender_is = refl;
          there = O.there;
          other = λ same. is.apart (same ∙ sym O.to_me);
          below = subst (λ (slot : ℕ). slot < credits_of site.settings message.from site.me) (sym it.1)
              (request_below site.settings site.me message says.request O.below);
          run = run;
          last = ap₂ (λ (slot : ℕ) (number : ℕ). run_at slot number (node.ran message.from)) it.1
              (ap (λ (slot : ℕ). greatest slot (node.ran message.from)) it.1 ∙ sym says.top) ∙ f;
          number_is = it.0;
          slot_is = refl;
          says = refl;
        })
delivered_in site node message (Refused reason) is e packet h = absurd (contains_none packet h)
delivered_in site node message Passed is e packet h = absurd (contains_none packet h)
delivered_in site node message Missed is e packet h = absurd (contains_none packet h)
delivered_in site node message Returns is e packet h = absurd (contains_none packet h)
delivered_in site node message (Waits lock) is e packet h = absurd (contains_none packet h)

-- ---- a tick

-- what is due is due to a node that is there
dues_peer : (now resend peer number : ℕ) (requests : List Request)
    → AllByRecursion (λ (due : Due). due.peer ≡ peer) (dues now resend peer number requests)
dues_peer now resend peer number [] = tt
dues_peer now resend peer number (request ∷ requests) =
    let ih = dues_peer now resend peer (suc number) requests in
    elim (cases_Bool (not request.back && nat_le (request.time + resend) now))
    [ inl is ↦ rw is (refl, ih) | inr isnt ↦ rw isnt ih ]

all_from : {X : Type 0} (P Q : X → Type 0) (xs : List X) → ((x : X) → P x → Q x) → AllByRecursion P xs
    → AllByRecursion Q xs
all_from P Q [] go all = tt
all_from P Q (x ∷ xs) go all = (go x all.0, all_from P Q xs go all.1)

all_dues_there : (now resend : ℕ) (requests : ℕ → List Request) (nodes : ℕ)
    → AllByRecursion (λ (due : Due). due.peer < nodes) (all_dues now resend requests nodes)
all_dues_there now resend requests zero = tt
all_dues_there now resend requests (suc peer) =
    all_append (λ (due : Due). due.peer < suc peer) (all_dues now resend requests peer)
    (dues now resend peer 1 (requests peer))
    (all_from _ (λ (due : Due). due.peer < suc peer) (all_dues now resend requests peer)
    (λ due low. omega (arith, low)) (all_dues_there now resend requests peer))
    (all_from _ (λ (due : Due). due.peer < suc peer) (dues now resend peer 1 (requests peer))
    (λ due same. omega (arith, same)) (dues_peer now resend peer 1 (requests peer)))

ticked_in : {Local Call Told : Type 0} (job : Job Local Call Told) (IsKept : (me : ℕ) → Local → Type 0) (me now : ℕ)
    (node : Node Local) (choice : TickChoice) → IsAllSound job.behaviour IsKept
    → NodeInvariant job.settings IsKept me node → tick_choice (site_of job me) node now ≡ choice → (packet : Packet)
    → Contains (ticked_sends me node choice) packet
    → IsInSlot job.settings me packet (after_tick (site_of job me) node now choice)
ticked_in {Local} job IsKept me now node (Retransmits due) sound I e packet h =
    one_stands job.settings me after packet (Asking at open_at.0.content)
    (subst (λ (o : Option Request). Contains (asking me due.peer due.number o) packet) open_at.1 h)
    (record {
      sender_is = refl;
      there = there;
      other = λ same. numbered_nil due.number open_at.0
          (sym (ap (λ list. element_at list due.number) (ap node.asked same ∙ I.own)) ∙ open_at.1);
      request = sent_at now open_at.0;
      found = ap (λ (list : List Request). element_at list due.number) (put_same node.asked due.peer _)
          ∙ numbered-change_here (sent_at now) (node.asked due.peer) due.number open_at.0 open_at.1;
      slot_is = refl;
      says = refl;
      out = open_at.2;
    })
  where
    after : Node Local
    after = after_tick (site_of job me) node now (Retransmits due)

    first : next_due job.settings node now ≡ Some due
    first = retransmits_choice (next_due job.settings node now) _ due e

    open_at : IsOpenAt node.asked due
    open_at = earliest_has (IsOpenAt node.asked) _ due
        (all_dues_open now job.settings.resend node.asked job.settings.nodes) first

    there : due.peer < job.settings.nodes
    there = earliest_has (λ (d : Due). d.peer < job.settings.nodes) _ due
        (all_dues_there now job.settings.resend node.asked job.settings.nodes) first

    at : Place
    at = record { from = me; to = due.peer; number = due.number; slot = open_at.0.slot }
ticked_in {Local} job IsKept me now node (Sends sending) sound I e packet h =
    let site = site_of job me in
    let next = job.behaviour.messages.next me (can_ask site node) node.local in
    let is = sends_choice (next_due job.settings node now) next sending e in
    let can = can_says site node sending.to
    (sound.messages.asks me (can_ask site node) node.local sending I.kept is).0 in
    let claim = next_claim (node.asked sending.to) in
    let after = after_tick site node now (Sends sending) in
    let at : Place = record { from = me; to = sending.to; number = claim.number; slot = claim.slot } in
    one_stands job.settings me after packet (Asking at sending.content) h
    (accepted_in job.settings me now sending.to claim.slot claim.number sending.content node after can.to_in can.other
    refl refl)
ticked_in job IsKept me now node Rests sound I e packet h = absurd (contains_none packet h)

-- ---- any event

event_in : {Local Call Told : Type 0} (job : Job Local Call Told) (IsKept : (me : ℕ) → Local → Type 0) (me now : ℕ)
    (node : Node Local) (event : NodeEvent Call) → IsAllSound job.behaviour IsKept → DeliversOnlyMessages event
    → NodeInvariant job.settings IsKept me node → (packet : Packet) → Contains (sends job me node now event) packet
    → IsInSlot job.settings me packet (node_after job me node now event)
event_in job IsKept me now node (Asks ask) sound first I packet h =
    asked_in (site_of job me) now node ask _ refl packet h
event_in job IsKept me now node (Does thread call) sound first I packet h = absurd (contains_none packet h)
event_in job IsKept me now node (Comes message) sound first I packet h =
    delivered_in (site_of job me) node message _ first refl packet h
event_in job IsKept me now node Ticks sound first I packet h =
    ticked_in job IsKept me now node _ sound I refl packet h

-- ---- the events of a turn

own_first : {Call : Type 0} (event : NodeEvent Call) → IsOwn event → DeliversOnlyMessages event
own_first (Asks ask) own = tt
own_first (Does thread call) own = tt
own_first (Comes message) own = absurd own
own_first Ticks own = tt

own_parts : {Call : Type 0} (event : NodeEvent Call) (events : List (NodeEvent Call)) → AreOwn (event ∷ events)
    → IsOwn event × AreOwn events
own_parts (Asks ask) events own = (tt, own)
own_parts (Does thread call) events own = (tt, own)
own_parts (Comes message) events own = absurd own
own_parts Ticks events own = (tt, own)

-- through all of them
all_stay : {Local Call Told : Type 0} (job : Job Local Call Told) (me now : ℕ) (node : Node Local)
    (events : List (NodeEvent Call)) (packet : Packet) → AreOwn events → IsInSlot job.settings me packet node
    → IsInSlot job.settings me packet (node_run job me now events node)
all_stay job me now node [] packet own S = S
all_stay job me now node (event ∷ events) packet own S =
    let parts = own_parts event events own in
    all_stay job me now (node_after job me node now event) events packet parts.1
    (own_stays job me now node event packet parts.0 S)

own_in : {Local Call Told : Type 0} (job : Job Local Call Told) (IsKept : (me : ℕ) → Local → Type 0) (me now : ℕ)
    (node : Node Local) (events : List (NodeEvent Call)) → IsAllSound job.behaviour IsKept → AreOwn events
    → StaysWell job IsKept me now events node → (packet : Packet)
    → Contains (node_sends job me now events node) packet
    → IsInSlot job.settings me packet (node_run job me now events node)
own_in job IsKept me now node [] sound own well packet h = absurd (contains_none packet h)
own_in job IsKept me now node (event ∷ events) sound own well packet h =
    let parts = own_parts event events own in
    let after = node_after job me node now event in
    elim (Contains-append_cases (sends job me node now event) (node_sends job me now events after) packet h) [
      | inl first ↦ all_stay job me now after events packet parts.1
          (event_in job IsKept me now node event sound (own_first event parts.0) well.0 packet first)
      | inr later ↦ own_in job IsKept me now after events sound parts.1 well.1 packet later
    ]

-- the invariant holds at the end
well_end : {Local Call Told : Type 0} (job : Job Local Call Told) (IsKept : (me : ℕ) → Local → Type 0) (me now : ℕ)
    (node : Node Local) (events : List (NodeEvent Call)) → StaysWell job IsKept me now events node
    → NodeInvariant job.settings IsKept me (node_run job me now events node)
well_end job IsKept me now node [] well = well
well_end job IsKept me now node (event ∷ events) well =
    well_end job IsKept me now (node_after job me node now event) events well.1

pub sent_stand : {Local Call Told : Type 0} (job : Job Local Call Told) (IsKept : (me : ℕ) → Local → Type 0)
    (me now : ℕ) (events : List (NodeEvent Call)) (node : Node Local) → IsAllSound job.behaviour IsKept
    → ComesFirst events → StaysWell job IsKept me now events node → SentStands job me now events node
sent_stand job IsKept me now [] node sound first well packet h = absurd (contains_none packet h)
sent_stand job IsKept me now (event ∷ events) node sound first well packet h =
    let after = node_after job me node now event in
    in_slot_message job.settings IsKept me packet (node_run job me now events after)
    (well_end job IsKept me now after events well.1)
    (elim (Contains-append_cases (sends job me node now event) (node_sends job me now events after) packet h) [
      | inl now_sent ↦ all_stay job me now after events packet first.1
          (event_in job IsKept me now node event sound first.0 well.0 packet now_sent)
      | inr later ↦ own_in job IsKept me now after events sound first.1 well.1 packet later
    ])

-- ---- a turn

calls_own : (thread : ℕ) (calls : List ThreadCall) → AreOwn (events_of thread calls)
calls_own thread [] = tt
calls_own thread (Requests to asking ∷ calls) = calls_own thread calls
calls_own thread (Performs call ∷ calls) = calls_own thread calls

own_then : (events : List RecordEvent) → AreOwn events → ComesFirst events
own_then [] own = tt
own_then (event ∷ events) own = let parts = own_parts event events own in (own_first event parts.0, parts.1)

-- at most the first event of a turn is a delivery, and then that of a message
turn_first : (version : ℕ) (polls : Bool) (got : Option (List ℕ)) (more : List RecordEvent)
    → is_version version ≡ true → GotBytes got → AreOwn more
    → ComesFirst ((if polls then comes version got ++ Ticks ∷ [] else []) ++ more)
turn_first version false got more known bytes own = own_then more own
turn_first version true None more known bytes own = (tt, own)
turn_first version true (Some these) more known bytes own = by_refusal (first_refusal version these) refl
  where
    by_refusal : (o : Option Refusal) → first_refusal version these ≡ o
        → ComesFirst ((coming version o these ++ Ticks ∷ []) ++ more)
    by_refusal None e = ((takes version these known bytes e).fits, own)
    by_refusal (Some refused) e = (tt, own)

pub turns_come_first : {Own : Type 0} (job : NodeJob EndpointLocal Own) (me thread now : ℕ)
    (state : MachineState EndpointLocal Own) (got : Option (List ℕ))
    → is_version job.job.settings.version ≡ true → GotBytes got
    → ComesFirst (turn_events job me state thread now got)
turns_come_first job me thread now state got known bytes =
    turn_first job.job.settings.version (job.polls thread state.node.local) got _ known bytes
    (calls_own thread (job.scripts.calls (context job me thread now) state.own (as_tried job me state thread now got)))
