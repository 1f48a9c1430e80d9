-- Events of one node, one after another, as events of the world.
use Rattle.std.proofs.Common.{◌≡◌, ◌≢◌, ℕ, ◌<◌, List, [], ◌∷◌, ◌++◌, map, Option, Some, refl, sym, ap, ap₂, ◌∙◌}
use Rattle.std.proofs.Common.{subst}
use Rattle.std.specs.List.{AllByRecursion}
use Rattle.wire_message.specs.Parameters.{Parameters}
use Rattle.wire_message.specs.Content.{Content}
use Rattle.base_lists.proofs.Put.{put_same, put_other}
use Rattle.spec_node.specs.NodeStep.{Job, IsAllSound, NodeEvent, Comes, node_after}
use Rattle.spec_node.proofs.Runs.{run_of_there}
use Rattle.spec_network.specs.World.{World, Event, Asks, Does, RequestComes, ReplyComes, EventAt, Fall, WorldAnswer}
use Rattle.spec_network.specs.World.{OfNode}
use Rattle.spec_network.specs.World.{falls, request_event, reply_event, answer_at, after_at, world_after, run}
use Rattle.spec_network.specs.World.{answers_of}
use Rattle.spec_network.specs.World.{IsAmong}
use Rattle.spec_network.specs.Sent.{Packet, Asking, Replying, sender, IsRecorded, sends_at, datagrams_sent}
use Rattle.node_rules.specs.Called.{Requests, Performs, node_event}
use Rattle.node_rules.specs.EndpointRules.{OtherCall}
use Rattle.node_rules.specs.declared.answer.Answer.{Answer}
use Rattle.law_traces.specs.Scripts.{ThreadCall}
use Rattle.law_traces.specs.Turn.{node_run, node_answers, node_sends, receiver, packet_message, events_of}
use Rattle.law_traces.specs.WorldRun.{AreEvents}
use Rattle.law_traces.proofs.Lasting.{AreSpoken, Lasts, lasts_on}

-- these events of the world are those of the node at that time
pub record Stage
    {Local Call Told : Type 0} (job : Job Local Call Told) (IsKept : (me : ℕ) → Local → Type 0) (Fits : Local → Type 0)
    (world : World Local) (node now : ℕ) (events : List (NodeEvent Call)) (happened : List (EventAt Call)) : Type 0 where
  pub among : AllByRecursion (λ (timed : EventAt Call). IsAmong job.settings timed.event) happened
  pub events_are : AreEvents job world node now events happened
  pub answers : answers_of job happened world ≡ map OfNode (node_answers job node now events (world node))
  pub sent_is : datagrams_sent job happened world ≡ node_sends job node now events (world node)
  pub lasts : Lasts job IsKept Fits (run job happened world)
  pub here : run job happened world node ≡ node_run job node now events (world node)
  pub others : (other : ℕ) → other ≢ node → run job happened world other ≡ world other

pub stage_none : {Local Call Told : Type 0} (job : Job Local Call Told) (IsKept : (me : ℕ) → Local → Type 0)
    (Fits : Local → Type 0) (world : World Local) (node now : ℕ) → Lasts job IsKept Fits world
    → Stage job IsKept Fits world node now [] []
stage_none job IsKept Fits world node now L = record {
  among = tt;
  events_are = tt;
  answers = refl;
  sent_is = refl;
  lasts = L;
  here = refl;
  others = λ other apart. refl;
}

-- the node after what falls on it
pub fallen_here : {Local Call Told : Type 0} (job : Job Local Call Told) (world : World Local) (node : ℕ)
    (event : NodeEvent Call) (timed : EventAt Call)
    → falls job.settings world timed.event ≡ Some (record { node = node; event = event })
    → world_after job world timed node ≡ node_after job node (world node) timed.now event
fallen_here {Call = Call} job world node event timed is =
    subst (λ (o : Option (Fall Call)). after_at job world timed.now o node
    ≡ node_after job node (world node) timed.now event) (sym is)
    (put_same world node (node_after job node (world node) timed.now event))

-- each other node
pub fallen_other : {Local Call Told : Type 0} (job : Job Local Call Told) (world : World Local) (node : ℕ)
    (event : NodeEvent Call) (timed : EventAt Call)
    → falls job.settings world timed.event ≡ Some (record { node = node; event = event })
    → (other : ℕ) → other ≢ node → world_after job world timed other ≡ world other
fallen_other {Call = Call} job world node event timed is other apart =
    subst (λ (o : Option (Fall Call)). after_at job world timed.now o other ≡ world other) (sym is)
    (put_other world node (node_after job node (world node) timed.now event) other apart)

-- one event more, at the prefix
pub stage_more : {Local Call Told : Type 0} (job : Job Local Call Told) (IsKept : (me : ℕ) → Local → Type 0)
    (Fits : Local → Type 0) (world : World Local) (node now : ℕ) (event : NodeEvent Call) (first : Event Call)
    (events : List (NodeEvent Call)) (happened : List (EventAt Call)) → IsAmong job.settings first
    → falls job.settings world first ≡ Some (record { node = node; event = event })
    → Stage job IsKept Fits (world_after job world (record { now = now; event = first })) node now events happened
    → Stage job IsKept Fits world node now (event ∷ events) (record { now = now; event = first } ∷ happened)
stage_more {Call = Call} {Told = Told} job IsKept Fits world node now event first events happened among is S =
    let timed : EventAt Call = record { now = now; event = first } in
    let after = world_after job world timed in
    let here : after node ≡ node_after job node (world node) now event = fallen_here job world node event timed is in
    record {
      among = (among, S.among);
      events_are = (refl, is, S.events_are);
      answers = ap₂ (λ (a : WorldAnswer Told) (more : List (WorldAnswer Told)). a ∷ more)
          (ap (answer_at job world now) is)
          (S.answers ∙ ap (λ x. map OfNode (node_answers job node now events x)) here);
      sent_is = ap₂ (λ (a b : List Packet). a ++ b) (ap (sends_at job world now) is)
          (S.sent_is ∙ ap (node_sends job node now events) here);
      lasts = S.lasts;
      here = S.here ∙ ap (node_run job node now events) here;
      others = λ other apart. S.others other apart ∙ fallen_other job world node event timed is other apart;
    }

-- ---- the calls of a try, one after another

pub try_stage : {Local : Type 0} (job : Job Local OtherCall Answer) (IsKept : (me : ℕ) → Local → Type 0)
    (Fits : Local → Type 0) (May : NodeEvent OtherCall → Type 0) (world : World Local) (node now thread : ℕ)
    (calls : List ThreadCall) → IsAllSound job.behaviour IsKept → AreSpoken job IsKept Fits May
    → node < job.settings.nodes → Lasts job IsKept Fits world
    → AllByRecursion (λ (made : ThreadCall). May (node_event thread made)) calls
    → (happened : List (EventAt OtherCall)) × Stage job IsKept Fits world node now (events_of thread calls) happened
try_stage job IsKept Fits May world node now thread [] sound spoken here L may =
    ([], stage_none job IsKept Fits world node now L)
try_stage job IsKept Fits May world node now thread (Requests to asking ∷ calls) sound spoken here L may =
    let call = Requests to asking in
    let first : Event OtherCall = Asks node (record { thread = thread; to = to; what = asking }) in
    let timed : EventAt OtherCall = record { now = now; event = first } in
    let later = try_stage job IsKept Fits May (world_after job world timed) node now thread calls sound spoken here
    (lasts_on job IsKept Fits May world node (node_event thread call) timed sound spoken L here refl may.0) may.1 in (
      timed ∷ later.0,
      stage_more job IsKept Fits world node now (node_event thread call) first (events_of thread calls) later.0 here
          refl later.1,
    )
try_stage job IsKept Fits May world node now thread (Performs done ∷ calls) sound spoken here L may =
    let call = Performs done in
    let first : Event OtherCall = Does node thread done in
    let timed : EventAt OtherCall = record { now = now; event = first } in
    let later = try_stage job IsKept Fits May (world_after job world timed) node now thread calls sound spoken here
    (lasts_on job IsKept Fits May world node (node_event thread call) timed sound spoken L here refl may.0) may.1 in (
      timed ∷ later.0,
      stage_more job IsKept Fits world node now (node_event thread call) first (events_of thread calls) later.0 here
          refl later.1,
    )

-- ---- the delivery of what was sent

-- the event of the world that delivers it
abbrev pub delivery : {Call : Type 0} → Packet → Event Call
delivery (Asking at content) = RequestComes at.from at.to at.number
delivery (Replying at content) = ReplyComes at.from at.to at.number

-- what is recorded falls on the node that it is for, as its message
pub recorded_falls : {Local Call : Type 0} (settings : Parameters) (world : World Local) (packet : Packet)
    → IsRecorded world packet
    → falls {Call = Call} settings world (delivery packet)
    ≡ Some (record { node = receiver packet; event = Comes (packet_message settings packet) })
recorded_falls {Call = Call} settings world (Asking at content) h =
    ap (request_event settings at.from at.to at.number) h.1
    ∙ ap₂ (λ (slot : ℕ) (says : Content). Some (record {
      node = at.to;
      event = Comes (packet_message settings (Asking (record at { slot = slot }) says));
    })) h.2 h.3
recorded_falls {Call = Call} settings world (Replying at content) h =
    let same : h.0.number ≡ at.number = (run_of_there at.number ((world at.to).ran at.from) h.0 h.1).0 in
    ap (reply_event settings at.from at.to) h.1
    ∙ (ap (λ (number : ℕ). Some (record {
      node = at.from;
      event = Comes (packet_message settings (Replying (record at { slot = h.0.slot; number = number }) h.0.reply));
    })) same
    ∙ ap₂ (λ (slot : ℕ) (says : Content). Some (record {
      node = at.from;
      event = Comes (packet_message settings (Replying (record at { slot = slot }) says));
    })) h.2 h.3)

-- and is among the nodes
pub delivery_among : (Call : Type 0) (settings : Parameters) (packet : Packet)
    → (sender packet < settings.nodes) × (receiver packet < settings.nodes)
    → IsAmong {Call = Call} settings (delivery packet)
delivery_among Call settings (Asking at content) h = h
delivery_among Call settings (Replying at content) h = (h.1, h.0)
