-- An event of the world, by two versions.
use Rattle.std.proofs.Common.{◌≡◌, ℕ, true, List, [], ◌∷◌, ◌++◌}
use Rattle.std.proofs.Common.{Option, None, Some, refl, sym, ap, ◌∙◌, subst, inl, inr, eqb}
use Rattle.std.specs.Prelude.{option_map}
use Rattle.std.specs.List.{AllByRecursion}
use Rattle.std.proofs.Math.Path.{fun_ext}
use Rattle.std.proofs.lemmas.Bool.{cases_Bool}
use Rattle.wire_message.specs.Content.{Content}
use Rattle.base_lists.specs.Numbered.{element_at}
use Rattle.base_lists.specs.Put.{put}
use Rattle.spec_node.specs.Record.{Request, Run, Node}
use Rattle.spec_node.specs.Executed.{run_of}
use Rattle.spec_node.specs.Behaviour.{Ask, asks_well, replies_well}
use Rattle.spec_node.specs.NodeStep.{NodeEvent, node_after, OfRequest, OfCall, OfDelivery, OfTick}
use Rattle.spec_node.specs.NodeStep.{Asks as NodeAsks, Does as NodeDoes, Comes, Ticks as NodeTicks, IsAllSound}
use Rattle.spec_node.proofs.Runs.{run_of_there}
use Rattle.spec_network.specs.World.{World, Event, Asks, Does, RequestComes, ReplyComes, Ticks, EventAt, OfNode}
use Rattle.spec_network.specs.World.{Fall, falls, request_event, reply_event, answer_at, after_at, world_answer}
use Rattle.spec_network.specs.World.{world_after, run, IsAmong}
use Rattle.spec_network.specs.Invariant.{Holds}
use Rattle.spec_network.proofs.Worlds.{step_keeps}
use Rattle.wire_message.specs.Parameters.{Parameters}
use Rattle.wire_message.specs.Message.{Message}
use Rattle.base_lists.specs.Numbered.{change}
use Rattle.base_lists.proofs.Numbered.{numbered_push, numbered-change}
use Rattle.spec_node.specs.Requests.{as_back, sent_at}
use Rattle.spec_node.specs.Step.{Verdict, Refused, Duplicated, Passed, Runs, Missed, Returns, Waits, after_delivery}
use Rattle.spec_node.specs.Step.{TickChoice, Retransmits, Sends, Rests, tick_choice, after_tick, next_due, can_ask}
use Rattle.spec_node.specs.Step.{with_asked}
use Rattle.spec_node.specs.Step.{request_answer, after_request, with_request, new_request}
use Rattle.spec_node.specs.NodeStep.{site_of}
use Rattle.spec_node.specs.declared.answer.Asked.{Asked}
use Rattle.spec_node.specs.declared.answer.Asked.TheVariants as asked
use Rattle.spec_node.proofs.Answers.{accepted_says, sends_choice}
use Rattle.node_rules.specs.EndpointLocal.{EndpointLocal, IsEndpointKept}
use Rattle.node_rules.specs.EndpointRules.{OtherCall}
use Rattle.node_rules.specs.declared.answer.Answer.{Answer}
use Rattle.sim_versions.specs.Respelled.{IsNotificationIfAny, HasNotifications, HaveNotifications}
use Rattle.sim_versions.specs.Respelled.{Versions, one_job, other_job, respell_node, respell_world, respell_request}
use Rattle.sim_versions.specs.Respelled.{respell_run}
use Rattle.sim_versions.proofs.Lists.{numbered-respelled, run_of-respelled}
use Rattle.sim_versions.proofs.Asking.{asked_alike, after_alike}
use Rattle.sim_versions.proofs.Coming.{request_comes, reply_comes}
use Rattle.sim_versions.proofs.Ticking.{tick_answers, tick_leaves, done_alike}

-- what an event does, in both worlds
pub record IsAlike (v : Versions) (world : World EndpointLocal) (timed : EventAt OtherCall) : Type 0 where
  pub answer : world_answer (other_job v) (respell_world v.spell world) timed ≡ world_answer (one_job v) world timed
  pub after : world_after (other_job v) (respell_world v.spell world) timed
      ≡ respell_world v.spell (world_after (one_job v) world timed)

-- a node that changed
put-respelled : (spell : Content → Content) (world : World EndpointLocal) (place : ℕ) (node : Node EndpointLocal)
    → put (respell_world spell world) place (respell_node spell node) ≡ respell_world spell (put world place node)
put-respelled spell world place node = fun_ext (λ i. elim (cases_Bool (eqb i place)) [
  | inl here ↦ rw here refl
  | inr other ↦ rw other refl
])

at_node : (v : Versions) (world : World EndpointLocal) (place : ℕ) (other one : Node EndpointLocal)
    → other ≡ respell_node v.spell one
    → put (respell_world v.spell world) place other ≡ respell_world v.spell (put world place one)
at_node v world place other one same =
    ap (put (respell_world v.spell world) place) same ∙ put-respelled v.spell world place one

-- ---- deliveries

request_falls : (v : Versions) (world : World EndpointLocal) (now from to number : ℕ) (o : Option Request)
    → ((r : Request) → o ≡ Some r → IsNotificationIfAny v.settings r.content
    × (asks_well v.one.messages.refuses r.content ≡ true))
    → (answer_at (other_job v) (respell_world v.spell world) now
    (request_event (other_job v).settings from to number (option_map (respell_request v.spell) o))
    ≡ answer_at (one_job v) world now (request_event v.settings from to number o))
    × (after_at (other_job v) (respell_world v.spell world) now
    (request_event (other_job v).settings from to number (option_map (respell_request v.spell) o))
    ≡ respell_world v.spell (after_at (one_job v) world now (request_event v.settings from to number o)))
request_falls v world now from to number None well = (refl, refl)
request_falls v world now from to number (Some r) well =
    let alike = request_comes v to (world to) from number r (well r refl).0 (well r refl).1 in
    (ap (λ d. OfNode (OfDelivery d)) alike.0, at_node v world to _ _ alike.1)

reply_falls : (v : Versions) (world : World EndpointLocal) (now from to : ℕ) (o : Option Run)
    → ((r : Run) → o ≡ Some r → replies_well v.one.messages.refuses r.reply ≡ true)
    → (answer_at (other_job v) (respell_world v.spell world) now
    (reply_event (other_job v).settings from to (option_map (respell_run v.spell) o))
    ≡ answer_at (one_job v) world now (reply_event v.settings from to o))
    × (after_at (other_job v) (respell_world v.spell world) now
    (reply_event (other_job v).settings from to (option_map (respell_run v.spell) o))
    ≡ respell_world v.spell (after_at (one_job v) world now (reply_event v.settings from to o)))
reply_falls v world now from to None well = (refl, refl)
reply_falls v world now from to (Some r) well =
    let alike = reply_comes v from (world from) to r (well r refl) in
    (ap (λ d. OfNode (OfDelivery d)) alike.0, at_node v world from _ _ alike.1)

-- ---- every event

pub event_alike : (v : Versions) (world : World EndpointLocal) (now : ℕ) (event : Event OtherCall)
    → Holds (one_job v) (IsEndpointKept v.settings) world → HaveNotifications v.settings world
    → IsAlike v world (record { now = now; event = event })
event_alike v world now (Asks node ask) holds notes = record {
  answer = ap (λ a. OfNode (OfRequest a)) (asked_alike v node (world node) ask);
  after = at_node v world node _ _ (after_alike v node (world node) now ask);
}
event_alike v world now (Does node thread call) holds notes = record {
  answer = ap (λ (d : Answer × EndpointLocal). OfNode (OfCall d.0)) (done_alike v node (world node) thread call);
  after = at_node v world node _ _
      (ap (λ (d : Answer × EndpointLocal). record (respell_node v.spell (world node)) { local = d.1 })
      (done_alike v node (world node) thread call));
}
event_alike v world now (RequestComes from to number) holds notes =
    let found = numbered-respelled v.spell ((world from).asked to) number in
    let alike = request_falls v world now from to number (element_at ((world from).asked to) number)
    (λ r is. (notes from to number r is, (holds.pair from to).well number r is))
    in
    record {
      answer = ap (λ o. answer_at (other_job v) (respell_world v.spell world) now
          (request_event (other_job v).settings from to number o)) found ∙ alike.0;
      after = ap (λ o. after_at (other_job v) (respell_world v.spell world) now
          (request_event (other_job v).settings from to number o)) found ∙ alike.1;
    }
event_alike v world now (ReplyComes from to number) holds notes =
    let found = run_of-respelled v.spell number ((world to).ran from) in
    let alike = reply_falls v world now from to (run_of number ((world to).ran from))
    (λ r is. let there = run_of_there number ((world to).ran from) r is in
    (holds.pair from to).replies there.1.0 r there.1.1)
    in
    record {
      answer = ap (λ o. answer_at (other_job v) (respell_world v.spell world) now
          (reply_event (other_job v).settings from to o)) found ∙ alike.0;
      after = ap (λ o. after_at (other_job v) (respell_world v.spell world) now
          (reply_event (other_job v).settings from to o)) found ∙ alike.1;
    }
event_alike v world now (Ticks node) holds notes = record {
  answer = ap (λ a. OfNode (OfTick a)) (tick_answers v node (world node) now (holds.kept node));
  after = at_node v world node _ _ (tick_leaves v node (world node) now (holds.kept node));
}

-- ---- what the requests say

-- a node whose requests are those of before
same_notifications : (settings : Parameters) (one other : Node EndpointLocal) → other.asked ≡ one.asked → HasNotifications settings one
    → HasNotifications settings other
same_notifications settings one other same notes =
    subst (λ (asked : ℕ → List Request). (to number : ℕ) (r : Request) → element_at (asked to) number ≡ Some r
    → IsNotificationIfAny settings r.content) (sym same) notes

-- a list of requests changed
put_notifications : (settings : Parameters) (node : Node EndpointLocal) (peer : ℕ) (requests : List Request)
    → HasNotifications settings node
    → ((number : ℕ) (r : Request) → element_at requests number ≡ Some r → IsNotificationIfAny settings r.content)
    → (to number : ℕ) (r : Request) → element_at (put node.asked peer requests to) number ≡ Some r
    → IsNotificationIfAny settings r.content
put_notifications settings node peer requests notes new to number r is = elim (cases_Bool (eqb to peer)) [
  | inl here ↦ new number r (rw here at is)
  | inr other ↦ notes to number r (rw other at is)
]

-- one request more
more_notifications : (settings : Parameters) (node : Node EndpointLocal) (now to slot : ℕ) (content : Content)
    → HasNotifications settings node → IsNotificationIfAny settings content
    → HasNotifications settings (with_request node now to slot content)
more_notifications settings node now to slot content notes good =
    put_notifications settings node to (node.asked to ++ new_request now slot content ∷ []) notes (λ number r is.
    elim (numbered_push (node.asked to) (new_request now slot content) number r is) [
      | inl was ↦ notes to number r was
      | inr new ↦ subst (λ (x : Request). IsNotificationIfAny settings x.content) new.1 good
    ])

-- a request changed, and not in what it says
changed_notifications : (settings : Parameters) (node : Node EndpointLocal) (peer number : ℕ) (change_one : Request → Request)
    → ((r : Request) → (change_one r).content ≡ r.content) → HasNotifications settings node
    → (to at : ℕ) (r : Request) → element_at (put node.asked peer (change change_one (node.asked peer) number) to)
    at ≡ Some r
    → IsNotificationIfAny settings r.content
changed_notifications settings node peer number change_one keeps notes =
    put_notifications settings node peer (change change_one (node.asked peer) number) notes (λ at r is.
    let was = numbered-change change_one (node.asked peer) number at r is in
    let good = notes peer at was.0 was.1 in
    elim was.2 [
      | inl same ↦ subst (λ (x : Request). IsNotificationIfAny settings x.content) (sym same.1) good
      | inr new ↦ subst (IsNotificationIfAny settings) (sym (ap (λ (x : Request). x.content) new.1 ∙ keeps was.0)) good
    ])

asked_notifications : (v : Versions) (me : ℕ) (node : Node EndpointLocal) (now : ℕ) (ask : Ask) (answer : Asked)
    → request_answer (site_of (one_job v) me) node ask ≡ answer → HasNotifications v.settings node
    → HasNotifications v.settings (after_request (site_of (one_job v) me) node now ask answer)
asked_notifications v me node now ask (asked.Accepted to slot number) e notes =
    let fine = (accepted_says (site_of (one_job v) me) node ask to slot number e).faultless in
    more_notifications v.settings node now ask.to slot (v.one.messages.says ask.what node.local) notes
    (v.agree.notifications_said ask.what node.local fine)
asked_notifications v me node now ask asked.Ran e notes = notes
asked_notifications v me node now ask (asked.Forbidden forbidden) e notes = notes
asked_notifications v me node now ask (asked.BadArg part) e notes = notes
asked_notifications v me node now ask (asked.LockBusy lock) e notes = notes
asked_notifications v me node now ask asked.Exhausted e notes = notes
asked_notifications v me node now ask asked.NotYet e notes = notes

delivered_notifications : (v : Versions) (me : ℕ) (node : Node EndpointLocal) (message : Message) (verdict : Verdict)
    → HasNotifications v.settings node → HasNotifications v.settings (after_delivery (site_of (one_job v) me) node message verdict)
delivered_notifications v me node message Runs notes = notes
delivered_notifications v me node message Returns notes =
    changed_notifications v.settings node message.from message.number as_back (λ r. refl) notes
delivered_notifications v me node message (Refused reason) notes = notes
delivered_notifications v me node message Duplicated notes = notes
delivered_notifications v me node message Passed notes = notes
delivered_notifications v me node message Missed notes = notes
delivered_notifications v me node message (Waits lock) notes = notes

ticked_notifications : (v : Versions) (me : ℕ) (node : Node EndpointLocal) (now : ℕ) (choice : TickChoice)
    → IsEndpointKept v.settings me node.local
    → tick_choice (site_of (one_job v) me) node now ≡ choice → HasNotifications v.settings node
    → HasNotifications v.settings (after_tick (site_of (one_job v) me) node now choice)
ticked_notifications v me node now (Retransmits due) kept e notes =
    changed_notifications v.settings node due.peer due.number (sent_at now) (λ r. refl) notes
ticked_notifications v me node now Rests kept e notes = notes
ticked_notifications v me node now (Sends sending) kept e notes =
    more_notifications v.settings node now sending.to (with_asked me node sending.to).slot sending.content notes
    (v.agree.notifications_next me (can_ask (site_of (one_job v) me) node) node.local sending kept
    (sends_choice (next_due v.settings node now) _ sending e))

node_notifications : (v : Versions) (me : ℕ) (node : Node EndpointLocal) (now : ℕ) (event : NodeEvent OtherCall)
    → IsEndpointKept v.settings me node.local → HasNotifications v.settings node
    → HasNotifications v.settings (node_after (one_job v) me node now event)
node_notifications v me node now (NodeAsks ask) kept notes = asked_notifications v me node now ask _ refl notes
node_notifications v me node now (NodeDoes thread call) kept notes = notes
node_notifications v me node now (Comes message) kept notes = delivered_notifications v me node message _ notes
node_notifications v me node now NodeTicks kept notes = ticked_notifications v me node now _ kept refl notes

fall_notifications : (v : Versions) (world : World EndpointLocal) (now : ℕ) (fall : Option (Fall OtherCall))
    → ((node : ℕ) → IsEndpointKept v.settings node (world node).local) → HaveNotifications v.settings world
    → HaveNotifications v.settings (after_at (one_job v) world now fall)
fall_notifications v world now None kept notes node = notes node
fall_notifications v world now (Some fall) kept notes node = elim (cases_Bool (eqb node fall.node)) [
  | inl here ↦ rw here (node_notifications v fall.node (world fall.node) now fall.event (kept fall.node) (notes fall.node))
  | inr other ↦ rw other (notes node)
]

-- ---- runs

-- what a run of events leaves
pub record RunsAlike (v : Versions) (events : List (EventAt OtherCall)) (world : World EndpointLocal) : Type 0 where
  pub after : run (other_job v) events (respell_world v.spell world)
      ≡ respell_world v.spell (run (one_job v) events world)
  pub holds : Holds (one_job v) (IsEndpointKept v.settings) (run (one_job v) events world)
  pub notes : HaveNotifications v.settings (run (one_job v) events world)

pub run_alike : (v : Versions) (events : List (EventAt OtherCall)) (world : World EndpointLocal)
    → IsAllSound v.one (IsEndpointKept v.settings) → Holds (one_job v) (IsEndpointKept v.settings) world
    → HaveNotifications v.settings world
    → AllByRecursion (λ (timed : EventAt OtherCall). IsAmong v.settings timed.event) events
    → RunsAlike v events world
run_alike v [] world sound holds notes among = record { after = refl; holds = holds; notes = notes }
run_alike v (timed ∷ events) world sound holds notes among =
    let alike = event_alike v world timed.now timed.event holds notes in
    let next = step_keeps (one_job v) (IsEndpointKept v.settings) world timed sound holds among.0 in
    let noted = fall_notifications v world timed.now (falls v.settings world timed.event) holds.kept notes in
    let rest = run_alike v events (world_after (one_job v) world timed) sound next noted among.1 in
    record { after = ap (run (other_job v) events) alike.after ∙ rest.after; holds = rest.holds; notes = rest.notes }
