-- What holds of each pair, and of what each node keeps, holds after each event.
use Rattle.std.proofs.Common.{◌≡◌, ◌⊎◌, inl, inr, ℕ, ◌<◌, true, true≢false}
use Rattle.std.proofs.Common.{[], ◌∷◌, ◌++◌, Option, None, Some, refl, sym, ap, ◌∙◌, subst}
use Rattle.std.specs.Prelude.{is_none}
use Rattle.std.proofs.lemmas.Bool.{and_parts}
use Rattle.wire_message.specs.Parameters.{Parameters}
use Rattle.wire_message.specs.Content.{Content}
use Rattle.wire_message.specs.Message.{Message}
use Rattle.base_lists.specs.Numbered.{element_at, change}
use Rattle.base_lists.specs.Put.{put}
use Rattle.base_lists.proofs.Numbered.{change_none, numbered-change, numbered_nil}
use Rattle.spec_node.specs.declared.answer.Asked.{Asked}
use Rattle.spec_node.specs.declared.answer.Asked.TheVariants as asked
use Rattle.spec_node.specs.declared.answer.Why.{Why}
use Rattle.spec_node.specs.Record.{Request, Run, Node}
use Rattle.spec_node.specs.Requests.{free_slot, as_back, sent_at}
use Rattle.spec_node.specs.Executed.{run_of}
use Rattle.spec_node.specs.Credits.{limits_of}
use Rattle.spec_node.specs.Behaviour.{Ask, is_request, asks_well, replies_well}
use Rattle.spec_node.specs.Step.{new_request, with_request, request_answer, after_request, Verdict, Runs}
use Rattle.spec_node.specs.Step.{Returns, verdict, with_sender, after_delivery, TickChoice, Retransmits, Sends, Rests}
use Rattle.spec_node.specs.Step.{next_due, can_ask, tick_choice, after_tick}
use Rattle.spec_node.specs.NodeStep.{Job, site_of, IsAllSound, NodeEvent, Asks as NodeAsks, Does as NodeDoes, Comes}
use Rattle.spec_node.specs.NodeStep.{Ticks as NodeTicks, node_after}
use Rattle.spec_node.specs.Invariant.{request_message, reply_message}
use Rattle.spec_node.proofs.Runs.{run_of_there}
use Rattle.spec_node.proofs.Answers.{accepted_says, runs_says, returns_says, CanAsk, can_says, sends_choice}
use Rattle.spec_node.proofs.Answers.{no_request}
use Rattle.spec_node.proofs.LocalKept.{event_kept}
use Rattle.spec_network.specs.World.{World, opening, Event, Asks, Does, RequestComes, ReplyComes, Ticks, EventAt, Fall}
use Rattle.spec_network.specs.World.{request_event, reply_event, falls, after_at, world_after, IsAmong}
use Rattle.spec_network.specs.Invariant.{PairInvariant, WorldInvariant, Holds}
use Rattle.spec_network.proofs.Pairs.{pair_none, pair_accepts, pair_runs, pair_back, pair_sent}
use Rattle.spec_network.proofs.NodeChanges.{asked_step, ran_step, same_step}

-- ---- every event of a node

-- a call or a tick is that of a node that is there; a message that comes was sent: it is a request that was accepted,
-- or the reply of a run
abbrev pub Came : {Local Call : Type 0} → Parameters → World Local → (i : ℕ) → NodeEvent Call → Type 0
Came settings world i (Comes m) =
    ((from k : ℕ) × (request : Request) × (element_at ((world from).asked i) k ≡ Some request) ×
    (m ≡ request_message settings from i k request))
    ⊎ ((to k : ℕ) × (run : Run) × (run_of k ((world to).ran i) ≡ Some run) × (m ≡ reply_message settings i to run))
Came settings world i _ = i < settings.nodes

-- a request is accepted
accepts : {Local Call Told : Type 0} (job : Job Local Call Told) (IsKept : (me : ℕ) → Local → Type 0)
    (world : World Local)
    (now i to slot : ℕ) (c : Content) (x : Node Local) → Holds job IsKept world → IsKept i x.local
    → i < job.settings.nodes
    → CanAsk (site_of job i) (world i) to → asks_well job.behaviour.messages.refuses c ≡ true
    → slot ≡ free_slot ((world i).asked to) → x.asked ≡ (with_request (world i) now to slot c).asked
    → x.ran ≡ (world i).ran
    → Holds job IsKept (put world i x)
accepts job IsKept world now i to slot c x holds good here can well is e kept =
    let refuses = job.behaviour.messages.refuses in
    asked_step job.settings refuses IsKept world i to x _ holds good e kept
    (λ v. absurd (can.other v)) (λ k y f. (here, can.to_in))
    (subst (λ q. PairInvariant (limits_of job.settings i to) refuses ((world i).asked to ++ new_request now q c ∷ [])
    ((world to).ran i))
    (sym is)
    (pair_accepts (limits_of job.settings i to) refuses ((world i).asked to) ((world to).ran i) c now (holds.pair i to)
    well
    can.free can.left))

-- a thread makes a request
asks_keep : {Local Call Told : Type 0} (job : Job Local Call Told) (IsKept : (me : ℕ) → Local → Type 0)
    (world : World Local)
    (now i : ℕ) (ask : Ask) (a : Asked) → IsAllSound job.behaviour IsKept → Holds job IsKept world
    → i < job.settings.nodes
    → IsKept i (after_request (site_of job i) (world i) now ask a).local
    → request_answer (site_of job i) (world i) ask ≡ a
    → Holds job IsKept (put world i (after_request (site_of job i) (world i) now ask a))
asks_keep job IsKept world now i ask (asked.Accepted peer slot k) sound holds here good e =
    let says = accepted_says (site_of job i) (world i) ask peer slot k e in
    accepts job IsKept world now i ask.to slot _ _ holds good here
    (record { to_in = says.to_in; other = says.other; left = says.left; free = says.free })
    (sound.messages.says i ask.what (world i).local (holds.kept i) says.faultless) says.slot_is refl refl
asks_keep job IsKept world now i ask _ sound holds here good e =
    same_step job.settings job.behaviour.messages.refuses IsKept world i _ holds good refl refl

-- a request that was accepted comes
request_keeps : {Local Call Told : Type 0} (job : Job Local Call Told) (IsKept : (me : ℕ) → Local → Type 0)
    (world : World Local)
    (from i k : ℕ) (request : Request) (v : Verdict) → IsAllSound job.behaviour IsKept → Holds job IsKept world
    → element_at ((world from).asked i) k ≡ Some request
    → IsKept i (after_delivery (site_of job i) (world i) (request_message job.settings from i k request) v).local
    → verdict (site_of job i) (world i) (request_message job.settings from i k request) ≡ v
    → Holds job IsKept (put world i
    (after_delivery (site_of job i) (world i) (request_message job.settings from i k request) v))
request_keeps job IsKept world from i k request Runs sound holds f good e =
    let refuses = job.behaviour.messages.refuses in
    let m = request_message job.settings from i k request in
    let says = runs_says (site_of job i) (world i) m e in
    ran_step job.settings refuses IsKept world i from _ _ holds good refl refl
    (pair_runs (limits_of job.settings from i) refuses ((world from).asked i) ((world i).ran from) k request
    (job.behaviour.messages.run (with_sender i m) request.content (world i).local).1 (holds.pair from i) f says.above
    (sound.messages.replies (with_sender i m) request.content (world i).local (holds.kept i)
    ((holds.pair from i).well k request f)))
request_keeps job IsKept world from i k request Returns sound holds f good e =
    let refuses = job.behaviour.messages.refuses in
    let says = returns_says (site_of job i) (world i) (request_message job.settings from i k request) e in
    absurd (true≢false (sym
    (and_parts (is_request request.content.kind) (is_none (refuses request.content))
    ((holds.pair from i).well k request f)).0
    ∙ says.reply))
request_keeps job IsKept world from i k request _ sound holds f good e =
    same_step job.settings job.behaviour.messages.refuses IsKept world i _ holds good refl refl

-- the content of the reply of a run may be delivered
run_well : {Local Call Told : Type 0} (job : Job Local Call Told) (IsKept : (me : ℕ) → Local → Type 0)
    (world : World Local)
    (i to k : ℕ) (run : Run) → Holds job IsKept world → run_of k ((world to).ran i) ≡ Some run
    → replies_well job.behaviour.messages.refuses run.reply ≡ true
run_well job IsKept world i to k run holds f =
    let at = run_of_there k ((world to).ran i) run f in (holds.pair i to).replies at.1.0 run at.1.1

-- what node i asked is changed in its time, or is back
changed : {Local Call Told : Type 0} (job : Job Local Call Told) (IsKept : (me : ℕ) → Local → Type 0)
    (world : World Local)
    (from to number : ℕ) (f : Request → Request) (x : Node Local) → Holds job IsKept world → IsKept from x.local
    → x.asked ≡ put (world from).asked to (change f ((world from).asked to) number) → x.ran ≡ (world from).ran
    → PairInvariant (limits_of job.settings from to) job.behaviour.messages.refuses
    (change f ((world from).asked to) number)
    ((world to).ran from)
    → Holds job IsKept (put world from x)
changed job IsKept world from to number f x holds good e kept P =
    asked_step job.settings job.behaviour.messages.refuses IsKept world from to x _ holds good e kept
    (λ v. change_none f number _ (ap (world from).asked v ∙ holds.own from))
    (λ l y g. let it = numbered-change f ((world from).asked to) number l y g in holds.nodes from to l it.0 it.1) P

-- the reply of a run comes
reply_keeps : {Local Call Told : Type 0} (job : Job Local Call Told) (IsKept : (me : ℕ) → Local → Type 0)
    (world : World Local)
    (i to k : ℕ) (run : Run) (v : Verdict) → Holds job IsKept world → run_of k ((world to).ran i) ≡ Some run
    → IsKept i (after_delivery (site_of job i) (world i) (reply_message job.settings i to run) v).local
    → verdict (site_of job i) (world i) (reply_message job.settings i to run) ≡ v
    → Holds job IsKept (put world i (after_delivery (site_of job i) (world i) (reply_message job.settings i to run) v))
reply_keeps job IsKept world i to k run Returns holds f good e =
    let at = run_of_there k ((world to).ran i) run f in
    changed job IsKept world i to run.number as_back _ holds good refl refl
    (pair_back (limits_of job.settings i to) job.behaviour.messages.refuses ((world i).asked to) ((world to).ran i)
    run.number run
    (holds.pair i to)
    (subst (λ q. run_of q ((world to).ran i) ≡ Some run) (sym at.0) f))
reply_keeps job IsKept world i to k run Runs holds f good e =
    let says = runs_says (site_of job i) (world i) (reply_message job.settings i to run) e in
    absurd (true≢false (sym says.request
    ∙ no_request job.behaviour.messages.refuses run.reply (run_well job IsKept world i to k run holds f)))
reply_keeps job IsKept world i to k run _ holds f good e =
    same_step job.settings job.behaviour.messages.refuses IsKept world i _ holds good refl refl

-- a tick
ticks_keep : {Local Call Told : Type 0} (job : Job Local Call Told) (IsKept : (me : ℕ) → Local → Type 0)
    (world : World Local)
    (now i : ℕ) (choice : TickChoice) → IsAllSound job.behaviour IsKept → Holds job IsKept world
    → i < job.settings.nodes
    → IsKept i (after_tick (site_of job i) (world i) now choice).local
    → tick_choice (site_of job i) (world i) now ≡ choice
    → Holds job IsKept (put world i (after_tick (site_of job i) (world i) now choice))
ticks_keep job IsKept world now i (Retransmits d) sound holds here good e =
    changed job IsKept world i d.peer d.number (sent_at now) _ holds good refl refl
    (pair_sent (limits_of job.settings i d.peer) job.behaviour.messages.refuses now ((world i).asked d.peer)
    ((world d.peer).ran i) d.number
    (holds.pair i d.peer))
ticks_keep job IsKept world now i (Sends sending) sound holds here good e =
    let can = can_ask (site_of job i) (world i) in
    let next = sends_choice (next_due job.settings (world i) now) (job.behaviour.messages.next i can (world i).local)
    sending e
    in
    let asks = sound.messages.asks i can (world i).local sending (holds.kept i) next in
    accepts job IsKept world now i sending.to _ sending.content _ holds good here
    (can_says (site_of job i) (world i) sending.to asks.0)
    asks.1 refl refl refl
ticks_keep job IsKept world now i Rests sound holds here good e =
    same_step job.settings job.behaviour.messages.refuses IsKept world i _ holds good refl refl

-- an event of a node
pub event_keeps : {Local Call Told : Type 0} (job : Job Local Call Told) (IsKept : (me : ℕ) → Local → Type 0)
    (world : World Local)
    (now i : ℕ) (event : NodeEvent Call) → IsAllSound job.behaviour IsKept → Holds job IsKept world
    → Came job.settings world i event
    → Holds job IsKept (put world i (node_after job i (world i) now event))
event_keeps job IsKept world now i (NodeAsks ask) sound holds came =
    asks_keep job IsKept world now i ask _ sound holds came
    (event_kept job IsKept i (world i) now (NodeAsks ask) sound (holds.kept i)) refl
event_keeps job IsKept world now i (NodeDoes thread call) sound holds came =
    same_step job.settings job.behaviour.messages.refuses IsKept world i _ holds
    (event_kept job IsKept i (world i) now (NodeDoes thread call) sound (holds.kept i)) refl refl
event_keeps {Call = Call} job IsKept world now i (Comes m) sound holds (inl sent) =
    subst (λ (n : Message). Holds job IsKept (put world i (node_after {Call = Call} job i (world i) now (Comes n))))
    (sym sent.4)
    (request_keeps job IsKept world sent.0 i sent.1 sent.2 _ sound holds sent.3
    (event_kept {Call = Call} job IsKept i (world i) now (Comes (request_message job.settings sent.0 i sent.1 sent.2))
    sound
    (holds.kept i)) refl)
event_keeps {Call = Call} job IsKept world now i (Comes m) sound holds (inr sent) =
    subst (λ (n : Message). Holds job IsKept (put world i (node_after {Call = Call} job i (world i) now (Comes n))))
    (sym sent.4)
    (reply_keeps job IsKept world i sent.0 sent.1 sent.2 _ holds sent.3
    (event_kept {Call = Call} job IsKept i (world i) now (Comes (reply_message job.settings i sent.0 sent.2)) sound
    (holds.kept i))
    refl)
event_keeps {Call = Call} job IsKept world now i NodeTicks sound holds came =
    ticks_keep job IsKept world now i _ sound holds came
    (event_kept {Call = Call} job IsKept i (world i) now NodeTicks sound (holds.kept i))
    refl

-- ---- every event of the world

-- what falls on a node came
abbrev pub CameAt : {Local Call : Type 0} → Parameters → World Local → Option (Fall Call) → Type 0
CameAt settings world None = Unit {0}
CameAt settings world (Some fall) = Came settings world fall.node fall.event

-- a request that was accepted
request_came : {Local : Type 0} (Call : Type 0) (settings : Parameters) (world : World Local) (from to k : ℕ)
    (o : Option Request)
    → element_at ((world from).asked to) k ≡ o → CameAt {Call = Call} settings world (request_event settings from to k o)
request_came Call settings world from to k None e = tt
request_came Call settings world from to k (Some x) e = inl (from, k, x, e, refl)

-- the reply of a run
reply_came : {Local : Type 0} (Call : Type 0) (settings : Parameters) (world : World Local) (from to k : ℕ)
    (o : Option Run)
    → run_of k ((world to).ran from) ≡ o → CameAt {Call = Call} settings world (reply_event settings from to o)
reply_came Call settings world from to k None e = tt
reply_came Call settings world from to k (Some r) e = inr (to, k, r, e, refl)

-- any event
pub falls_came : {Local Call : Type 0} (settings : Parameters) (world : World Local) (e : Event Call)
    → IsAmong settings e → CameAt settings world (falls settings world e)
falls_came settings world (RequestComes i j k) a =
    request_came _ settings world i j k (element_at ((world i).asked j) k) refl
falls_came settings world (ReplyComes i j k) a = reply_came _ settings world i j k (run_of k ((world j).ran i)) refl
falls_came settings world (Asks i ask) a = a
falls_came settings world (Does i thread call) a = a
falls_came settings world (Ticks i) a = a

-- what falls on a node keeps what holds of each pair
after_keeps : {Local Call Told : Type 0} (job : Job Local Call Told) (IsKept : (me : ℕ) → Local → Type 0)
    (world : World Local)
    (now : ℕ) (o : Option (Fall Call)) → IsAllSound job.behaviour IsKept → Holds job IsKept world
    → CameAt job.settings world o
    → Holds job IsKept (after_at job world now o)
after_keeps job IsKept world now None sound holds came = holds
after_keeps job IsKept world now (Some fall) sound holds came =
    event_keeps job IsKept world now fall.node fall.event sound holds came

-- what holds of each pair, and of what each node keeps, holds after an event
pub step_keeps : {Local Call Told : Type 0} (job : Job Local Call Told) (IsKept : (me : ℕ) → Local → Type 0)
    (world : World Local)
    (timed : EventAt Call) → IsAllSound job.behaviour IsKept → Holds job IsKept world → IsAmong job.settings timed.event
    → Holds job IsKept (world_after job world timed)
step_keeps job IsKept world timed sound holds a =
    after_keeps job IsKept world timed.now (falls job.settings world timed.event) sound holds
    (falls_came job.settings world timed.event a)

-- before all events
pub opening_keeps : {Local : Type 0} (settings : Parameters) (refuses : Content → Option Why)
    (IsKept : (me : ℕ) → Local → Type 0) (start : ℕ → Local) → ((i : ℕ) → IsKept i (start i))
    → WorldInvariant settings refuses IsKept (opening start)
opening_keeps settings refuses IsKept start good = record {
  pair = λ i j. pair_none (limits_of settings i j) refuses;
  own = λ i. refl;
  nodes = λ i j k x e. absurd (numbered_nil k x e);
  kept = good;
}

-- the same, of a job
pub opening_holds : {Local Call Told : Type 0} (job : Job Local Call Told) (IsKept : (me : ℕ) → Local → Type 0)
    (start : ℕ → Local) → ((i : ℕ) → IsKept i (start i)) → Holds job IsKept (opening start)
opening_holds job IsKept start good =
    opening_keeps job.settings job.behaviour.messages.refuses IsKept start good
