-- A turn of a node is events of the world.
use Rattle.std.proofs.Common.{◌≡◌, inl, inr, ℕ, ◌<◌, Bool, true, false, cond, List, [], ◌∷◌, ◌++◌, Option, None, Some}
use Rattle.std.proofs.Common.{refl, sym, ap, ◌∙◌, subst}
use Rattle.std.specs.List.{AllByRecursion, Contains}
use Rattle.std.proofs.lemmas.Bool.{cases_Bool}
use Rattle.wire_message.specs.Parameters.{Parameters}
use Rattle.wire_message.specs.Content.{spelling}
use Rattle.wire_message.specs.Message.{Message, IsMessage}
use Rattle.wire_message.specs.Refusals.{first_refusal}
use Rattle.wire_message.proofs.Laws.{again}
use Rattle.spec_node.specs.Record.{Node}
use Rattle.spec_node.specs.NodeStep.{IsAllSound, NodeEvent, Comes, Ticks as NodeTicks, node_after}
use Rattle.spec_network.specs.World.{World, Event, Ticks, EventAt, falls, world_after}
use Rattle.spec_network.specs.Sent.{Packet, Asking, Replying, IsRecorded, sender}
use Rattle.node_rules.specs.Called.{node_event}
use Rattle.node_rules.specs.EndpointRules.{OtherCall}
use Rattle.node_rules.specs.declared.answer.Answer.{Answer}
use Rattle.law_traces.specs.Scripts.{NodeJob, ThreadCall, TryContext}
use Rattle.law_traces.specs.Turn.{MachineState, node_run, receiver, packet_message, datagram, coming, comes, turn_events}
use Rattle.law_traces.specs.Turn.{context, try_events}
use Rattle.law_traces.specs.Order.{MayGet}
use Rattle.law_traces.specs.WorldRun.{Brings}
use Rattle.law_traces.proofs.Lasting.{AreSpoken, Lasts, lasts_on, recorded_among, recorded_message}
use Rattle.law_traces.proofs.Stages.{Stage, stage_more, try_stage, fallen_here, delivery, recorded_falls, delivery_among}

-- the scripts make such calls alone, where what is left of them is so
pub record AreWritten
    {Kept Own : Type 0} (job : NodeJob Kept Own) (Fits : Kept → Type 0) (May : NodeEvent OtherCall → Type 0)
    (Written : Own → Type 0) : Type 0 where
  pub calls : (at : TryContext) (own : Own) (node : Node Kept) → Written own → Fits node.local
      → AllByRecursion (λ (call : ThreadCall). May (node_event at.thread call)) (job.scripts.calls at own node)
  pub left : (at : TryContext) (own : Own) (before after : Node Kept) (answer : Option Answer)
      → Written own → Written (job.scripts.tried at own before after answer).left

-- all that is asked of a job
pub record IsSoundJob
    {Kept Own : Type 0} (job : NodeJob Kept Own) (IsKept : (me : ℕ) → Kept → Type 0) (Fits : Kept → Type 0)
    (May : NodeEvent OtherCall → Type 0) (Written : Own → Type 0) : Type 0 where
  pub sound : IsAllSound job.job.behaviour IsKept
  pub spoken : AreSpoken job.job IsKept Fits May
  pub written : AreWritten job Fits May Written

-- a turn of a thread at a time, with what is left of its node's scripts
pub record Taken (Own : Type 0) : Type 0 where
  pub thread : ℕ
  pub now : ℕ
  pub own : Own

-- the events of a turn by what comes in it
abbrev pub events_by : {Kept Own : Type 0} → NodeJob Kept Own → (me : ℕ) → Taken Own → (polls : Bool)
    → (prefix : List (NodeEvent OtherCall)) → Node Kept → List (NodeEvent OtherCall)
events_by job me taken polls prefix node =
    let first : List (NodeEvent OtherCall) = cond polls (prefix ++ NodeTicks ∷ []) [] in
    first ++ try_events job me taken.thread taken.now taken.own (node_run job.job me taken.now first node)

-- the bytes of a message: it comes
comes_is : (Call : Type 0) (version : ℕ) (bytes : List ℕ) (message : Message) → IsMessage message
    → message.version ≡ version → spelling message ≡ bytes
    → comes {Call = Call} version (Some bytes) ≡ Comes message ∷ []
comes_is Call version bytes message is same spelled =
    let A = again message is in
    subst (λ (v : ℕ). comes {Call = Call} v (Some bytes) ≡ Comes message ∷ []) same
    (subst (λ (b : List ℕ). coming {Call = Call} message.version (first_refusal message.version b) b
    ≡ Comes message ∷ []) spelled
    (ap (λ o. coming {Call = Call} message.version o (spelling message)) A.unrefused
    ∙ ap one A.same))
  where
    one : Message → List (NodeEvent Call)
    one k = Comes k ∷ []

-- the try alone
try_on : {Kept Own : Type 0} (job : NodeJob Kept Own) (IsKept : (me : ℕ) → Kept → Type 0) (Fits : Kept → Type 0)
    (May : NodeEvent OtherCall → Type 0) (Written : Own → Type 0) (world : World Kept) (node : ℕ) (taken : Taken Own)
    (prefix : List (NodeEvent OtherCall)) → IsSoundJob job IsKept Fits May Written → node < job.job.settings.nodes
    → Lasts job.job IsKept Fits world → Written taken.own
    → (happened : List (EventAt OtherCall))
    × Stage job.job IsKept Fits world node taken.now (events_by job node taken false prefix (world node)) happened
try_on job IsKept Fits May Written world node taken prefix J here L W =
    let at = context job node taken.thread taken.now in
    try_stage job.job IsKept Fits May world node taken.now taken.thread (job.scripts.calls at taken.own (world node))
    J.sound J.spoken here L (J.written.calls at taken.own (world node) W (L.fits node))

-- a tick, and the try
tick_on : {Kept Own : Type 0} (job : NodeJob Kept Own) (IsKept : (me : ℕ) → Kept → Type 0) (Fits : Kept → Type 0)
    (May : NodeEvent OtherCall → Type 0) (Written : Own → Type 0) (world : World Kept) (node : ℕ) (taken : Taken Own)
    → IsSoundJob job IsKept Fits May Written → node < job.job.settings.nodes
    → Lasts job.job IsKept Fits world → Written taken.own
    → (happened : List (EventAt OtherCall))
    × Stage job.job IsKept Fits world node taken.now (events_by job node taken true [] (world node)) happened
tick_on {Kept} job IsKept Fits May Written world node taken J here L W =
    let first : Event OtherCall = Ticks node in
    let timed : EventAt OtherCall = record { now = taken.now; event = first } in
    let after = world_after job.job world timed in
    let same : after node ≡ node_after job.job node (world node) taken.now NodeTicks =
    fallen_here job.job world node NodeTicks timed refl in
    let more = try_on job IsKept Fits May Written after node taken [] J here
    (lasts_on job.job IsKept Fits May world node NodeTicks timed J.sound J.spoken L here refl tt) W in
    let rest = subst (λ (x : Node Kept). Stage job.job IsKept Fits after node taken.now
    (events_by job node taken false [] x) more.0) same more.1 in (
      timed ∷ more.0,
      stage_more job.job IsKept Fits world node taken.now NodeTicks first _ more.0 here refl rest,
    )

-- a delivery of what was sent, a tick, and the try
come_on : {Kept Own : Type 0} (job : NodeJob Kept Own) (IsKept : (me : ℕ) → Kept → Type 0) (Fits : Kept → Type 0)
    (May : NodeEvent OtherCall → Type 0) (Written : Own → Type 0) (world : World Kept) (node : ℕ) (taken : Taken Own)
    (packet : Packet) → IsSoundJob job IsKept Fits May Written → node < job.job.settings.nodes
    → Lasts job.job IsKept Fits world → Written taken.own → IsRecorded world packet
    → IsMessage (packet_message job.job.settings packet)
    → falls {Call = OtherCall} job.job.settings world (delivery packet)
    ≡ Some (record { node = node; event = Comes (packet_message job.job.settings packet) })
    → (happened : List (EventAt OtherCall))
    × Stage job.job IsKept Fits world node taken.now
    (events_by job node taken true (Comes (packet_message job.job.settings packet) ∷ []) (world node))
    (record { now = taken.now; event = delivery packet } ∷ happened)
come_on {Kept} job IsKept Fits May Written world node taken packet J here L W recorded is falls_so =
    let first : Event OtherCall = delivery packet in
    let timed : EventAt OtherCall = record { now = taken.now; event = first } in
    let event : NodeEvent OtherCall = Comes (packet_message job.job.settings packet) in
    let after = world_after job.job world timed in
    let there = recorded_among job.job IsKept world packet L.holds recorded in
    let among = delivery_among OtherCall job.job.settings packet there in
    let same : after node ≡ node_after job.job node (world node) taken.now event =
    fallen_here job.job world node event timed falls_so in
    let more = tick_on job IsKept Fits May Written after node taken J here
    (lasts_on job.job IsKept Fits May world node event timed J.sound J.spoken L among falls_so
    (is, from_is packet there.0)) W in
    let rest = subst (λ (x : Node Kept). Stage job.job IsKept Fits after node taken.now
    (events_by job node taken true [] x) more.0) same more.1 in
    (more.0, stage_more job.job IsKept Fits world node taken.now event first _ more.0 among falls_so rest)
  where
    from_is : (packet : Packet) → sender packet < job.job.settings.nodes
        → (packet_message job.job.settings packet).from < job.job.settings.nodes
    from_is (Asking at content) low = low
    from_is (Replying at content) low = low

version_is : (settings : Parameters) (packet : Packet) → (packet_message settings packet).version ≡ settings.version
version_is settings (Asking at content) = refl
version_is settings (Replying at content) = refl

-- the turn, of a record that is the world's
turn_from : {Kept Own : Type 0} (job : NodeJob Kept Own) (IsKept : (me : ℕ) → Kept → Type 0) (Fits : Kept → Type 0)
    (May : NodeEvent OtherCall → Type 0) (Written : Own → Type 0) (world : World Kept) (node : ℕ) (taken : Taken Own)
    (given : List (ℕ × List ℕ)) (got : Option (List ℕ))
    → IsSoundJob job IsKept Fits May Written → node < job.job.settings.nodes
    → Lasts job.job IsKept Fits world → Written taken.own
    → ((to : ℕ) (bytes : List ℕ) → Contains given (to, bytes)
    → (packet : Packet) × IsRecorded world packet × (datagram job.job.settings packet ≡ (to, bytes)))
    → MayGet job node (record { node = world node; own = taken.own; outgoing = []; answer = None }) given taken.thread
    got
    → (happened : List (EventAt OtherCall))
    × Stage job.job IsKept Fits world node taken.now
    (events_by job node taken (job.polls taken.thread (world node).local) (comes job.job.settings.version got)
    (world node)) happened
    × Brings job.job.settings world node got happened
turn_from job IsKept Fits May Written world node taken given None J here L W recorded may =
    elim (cases_Bool (job.polls taken.thread (world node).local)) [
      | inl polls ↦ (let it = tick_on job IsKept Fits May Written world node taken J here L W in (
        it.0,
        subst (λ (b : Bool). Stage job.job IsKept Fits world node taken.now
            (events_by job node taken b [] (world node)) it.0) (sym polls) it.1,
        tt,
      ))
      | inr not ↦ (let it = try_on job IsKept Fits May Written world node taken [] J here L W in (
        it.0,
        subst (λ (b : Bool). Stage job.job IsKept Fits world node taken.now
            (events_by job node taken b [] (world node)) it.0) (sym not) it.1,
        tt,
      ))
    ]
turn_from job IsKept Fits May Written world node taken given (Some bytes) J here L W recorded may =
    let settings = job.job.settings in
    let had = recorded node bytes may.1 in
    let packet = had.0 in
    let message = packet_message settings packet in
    let is = recorded_message job.job IsKept Fits world packet L had.1 in
    let to : receiver packet ≡ node = ap (λ (d : ℕ × List ℕ). d.0) had.2 in
    let spelled : spelling message ≡ bytes = ap (λ (d : ℕ × List ℕ). d.1) had.2 in
    let falls_so : falls {Call = OtherCall} settings world (delivery packet)
    ≡ Some (record { node = node; event = Comes message }) =
    recorded_falls settings world packet had.1
    ∙ ap (λ (n : ℕ). Some (record { node = n; event = Comes message })) to in
    let it = come_on job IsKept Fits May Written world node taken packet J here L W had.1 is falls_so in
    let happened : List (EventAt OtherCall) = record { now = taken.now; event = delivery packet } ∷ it.0 in
    let polled = subst (λ (b : Bool). Stage job.job IsKept Fits world node taken.now
    (events_by job node taken b (Comes message ∷ []) (world node)) happened) (sym may.0) it.1 in
    let whole = subst (λ (prefix : List (NodeEvent OtherCall)). Stage job.job IsKept Fits world node taken.now
    (events_by job node taken (job.polls taken.thread (world node).local) prefix (world node)) happened)
    (sym (comes_is OtherCall settings.version bytes message is (version_is settings packet) spelled)) polled in
    (happened, whole, (message, record { fits = is; is = sym spelled }, falls_so))

-- the turn of a machine whose record is the world's
pub turn_on : {Kept Own : Type 0} (job : NodeJob Kept Own) (IsKept : (me : ℕ) → Kept → Type 0) (Fits : Kept → Type 0)
    (May : NodeEvent OtherCall → Type 0) (Written : Own → Type 0) (world : World Kept) (node thread now : ℕ)
    (state : MachineState Kept Own) (given : List (ℕ × List ℕ)) (got : Option (List ℕ))
    → IsSoundJob job IsKept Fits May Written → node < job.job.settings.nodes
    → Lasts job.job IsKept Fits world → world node ≡ state.node → Written state.own
    → ((to : ℕ) (bytes : List ℕ) → Contains given (to, bytes)
    → (packet : Packet) × IsRecorded world packet × (datagram job.job.settings packet ≡ (to, bytes)))
    → MayGet job node state given thread got
    → (happened : List (EventAt OtherCall))
    × Stage job.job IsKept Fits world node now (turn_events job node state thread now got) happened
    × Brings job.job.settings world node got happened
turn_on {Kept} {Own} job IsKept Fits May Written world node thread now state given got J here L same W recorded may =
    let taken : Taken Own = record { thread = thread; now = now; own = state.own } in
    let it = turn_from job IsKept Fits May Written world node taken given got J here L W recorded (may_get got may) in (
      it.0,
      subst (λ (x : Node Kept). Stage job.job IsKept Fits world node now
          (events_by job node taken (job.polls thread x.local) (comes job.job.settings.version got) x) it.0) same it.1,
      it.2,
    )
  where
    may_get : (got : Option (List ℕ)) → MayGet job node state given thread got
        → MayGet job node (record { node = world node; own = state.own; outgoing = []; answer = None }) given thread got
    may_get None h = tt
    may_get (Some bytes) h = (ap (λ (x : Node Kept). job.polls thread x.local) same ∙ h.0, h.1)
