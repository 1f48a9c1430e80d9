-- What stays so in every run of the world by scripts: each message that is recorded has a spelling.
use Rattle.std.proofs.Common.{◌≡◌, inl, inr, ℕ, ◌<◌, [], Option, Some, refl, sym, ap, ◌∙◌, subst, subst₂}
use Rattle.std.proofs.Common.{arith, slice_get}
use Rattle.std.proofs.lemmas.Bool.{cases_eq}
use Rattle.wire_message.specs.Parameters.{Parameters}
use Rattle.wire_message.specs.Content.{Content}
use Rattle.wire_message.specs.Message.{IsMessage}
use Rattle.base_lists.specs.Put.{put}
use Rattle.base_lists.proofs.Numbered.{numbered_nil}
use Rattle.base_lists.proofs.Put.{put_same, put_other}
use Rattle.spec_node.specs.Record.{Request, Run, Node, opening_node}
use Rattle.spec_node.specs.Credits.{Limits, limits_of}
use Rattle.spec_node.specs.Invariant.{IsOrderly, NodeInvariant, request_message, reply_message}
use Rattle.spec_node.specs.NodeStep.{Job, IsAllSound, NodeEvent, Asks, Does, Comes, Ticks, node_after}
use Rattle.spec_node.specs.Spelled.{IsSpelled}
use Rattle.spec_node.proofs.NodeEvents.{event_keeps}
use Rattle.spec_node.proofs.Runs.{run_of_there}
use Rattle.spec_network.specs.World.{World, opening, EventAt, Fall, falls, after_at, world_after, IsAmong}
use Rattle.spec_network.specs.Invariant.{Holds}
use Rattle.spec_network.specs.Sent.{Packet, Asking, Replying, sender, IsRecorded}
use Rattle.spec_network.proofs.Worlds.{Came, CameAt, falls_came, step_keeps, opening_holds}
use Rattle.law_traces.specs.Turn.{receiver, packet_message}
use Rattle.spec_node.proofs.NodeKeeps.{opening_keeps}

-- what is asked of an event: a call is one that may be made, and what comes is a message of a node
abbrev pub IsFit : {Call : Type 0} → Parameters → (NodeEvent Call → Type 0) → NodeEvent Call → Type 0
IsFit settings May (Comes message) = IsMessage message × (message.from < settings.nodes)
IsFit settings May Ticks = Unit {0}
IsFit settings May event = May event

-- where a node keeps what fits, what an event sends has a spelling, and what it leaves fits
pub record AreSpoken
    {Local Call Told : Type 0} (job : Job Local Call Told) (IsKept : (me : ℕ) → Local → Type 0) (Fits : Local → Type 0)
    (May : NodeEvent Call → Type 0) : Type 0 where
  pub spelled : (me : ℕ) (node : Node Local) (now : ℕ) (event : NodeEvent Call)
      → me < job.settings.nodes → NodeInvariant job.settings IsKept me node → Fits node.local
      → IsFit job.settings May event → IsSpelled job me node now event
  pub fits : (me : ℕ) (node : Node Local) (now : ℕ) (event : NodeEvent Call)
      → me < job.settings.nodes → NodeInvariant job.settings IsKept me node → Fits node.local
      → IsFit job.settings May event → Fits (node_after job me node now event).local

-- of a state of the world
pub record Lasts
    {Local Call Told : Type 0} (job : Job Local Call Told) (IsKept : (me : ℕ) → Local → Type 0) (Fits : Local → Type 0)
    (world : World Local) : Type 0 where
  pub holds : Holds job IsKept world
  pub nodes : (node : ℕ) → NodeInvariant job.settings IsKept node (world node)
  pub fits : (node : ℕ) → Fits (world node).local

-- ---- before all events

no_requests : (limits : Limits) → IsOrderly limits []
no_requests limits = record {
  few = omega arith;
  short = omega arith;
  low = λ number request is. absurd (numbered_nil number request is);
  apart = λ number later request other is. absurd (numbered_nil number request is);
}

pub opening_lasts : {Local Call Told : Type 0} (job : Job Local Call Told) (IsKept : (me : ℕ) → Local → Type 0)
    (Fits : Local → Type 0) (start : ℕ → Local) → ((node : ℕ) → IsKept node (start node))
    → ((node : ℕ) → Fits (start node)) → Lasts job IsKept Fits (opening start)
opening_lasts job IsKept Fits start kept fits = record {
  holds = opening_holds job IsKept start kept;
  nodes = λ node. opening_keeps job.settings IsKept node (start node) (kept node);
  fits = fits;
}

-- ---- messages that are recorded

-- a request with another slot and content that are the same
at_request : (settings : Parameters) (from to number slot : ℕ) (content : Content) (request : Request)
    → request.slot ≡ slot → request.content ≡ content
    → IsMessage (request_message settings from to number request)
    → IsMessage (packet_message settings
    (Asking (record { from = from; to = to; number = number; slot = slot }) content))
at_request settings from to number slot content request same_slot same_content is =
    subst₂ (λ (k : ℕ) (c : Content). IsMessage (packet_message settings
    (Asking (record { from = from; to = to; number = number; slot = k }) c))) same_slot same_content is

at_reply : (settings : Parameters) (from to number slot : ℕ) (content : Content) (run : Run)
    → run.slot ≡ slot → run.reply ≡ content → run.number ≡ number
    → IsMessage (reply_message settings from to run)
    → IsMessage (packet_message settings
    (Replying (record { from = from; to = to; number = number; slot = slot }) content))
at_reply settings from to number slot content run same_slot same_content same_number is =
    subst (λ (n : ℕ). IsMessage (packet_message settings
    (Replying (record { from = from; to = to; number = n; slot = slot }) content))) same_number
    (subst₂ (λ (k : ℕ) (c : Content). IsMessage (packet_message settings
    (Replying (record { from = from; to = to; number = run.number; slot = k }) c))) same_slot same_content is)

-- each of them has a spelling
pub recorded_message : {Local Call Told : Type 0} (job : Job Local Call Told) (IsKept : (me : ℕ) → Local → Type 0)
    (Fits : Local → Type 0) (world : World Local) (packet : Packet) → Lasts job IsKept Fits world
    → IsRecorded world packet → IsMessage (packet_message job.settings packet)
recorded_message job IsKept Fits world (Asking at content) L h =
    at_request job.settings at.from at.to at.number at.slot content h.0 h.2 h.3
    ((L.nodes at.from).asked at.to at.number h.0 h.1)
recorded_message job IsKept Fits world (Replying at content) L h =
    let there = run_of_there at.number ((world at.to).ran at.from) h.0 h.1 in
    at_reply job.settings at.from at.to at.number at.slot content h.0 h.2 h.3 there.0
    ((L.nodes at.to).replied at.from there.1.0 h.0 there.1.1)

-- its nodes are there
pub recorded_among : {Local Call Told : Type 0} (job : Job Local Call Told) (IsKept : (me : ℕ) → Local → Type 0)
    (world : World Local) (packet : Packet) → Holds job IsKept world → IsRecorded world packet
    → (sender packet < job.settings.nodes) × (receiver packet < job.settings.nodes)
recorded_among job IsKept world (Asking at content) holds h = holds.nodes at.from at.to at.number h.0 h.1
recorded_among job IsKept world (Replying at content) holds h =
    let there = run_of_there at.number ((world at.to).ran at.from) h.0 h.1 in
    let named = (holds.pair at.from at.to).named there.1.0 h.0 there.1.1 in
    let both = holds.nodes at.from at.to h.0.number named.0 named.1 in
    (both.1, both.0)

-- ---- an event of the world

-- one node is changed to what is good
put_all : {Local : Type 0} (Good : (node : ℕ) → Node Local → Type 0) (world : World Local) (i : ℕ) (x : Node Local)
    → ((node : ℕ) → Good node (world node)) → Good i x → (node : ℕ) → Good node (put world i x node)
put_all Good world i x all good node = elim (cases_eq node i) [
  | inl is ↦ subst₂ Good (sym is) (sym (ap (put world i x) is ∙ put_same world i x)) good
  | inr apart ↦ subst (Good node) (sym (put_other world i x node apart)) (all node)
]

-- an event that falls on a node falls on one that is there
came_there : {Local Call Told : Type 0} (job : Job Local Call Told) (IsKept : (me : ℕ) → Local → Type 0)
    (world : World Local) (i : ℕ) (event : NodeEvent Call) → Holds job IsKept world
    → Came job.settings world i event → i < job.settings.nodes
came_there job IsKept world i (Comes message) holds (inl h) = (holds.nodes h.0 i h.1 h.2 h.3).1
came_there job IsKept world i (Comes message) holds (inr h) =
    let there = run_of_there h.1 ((world h.0).ran i) h.2 h.3 in
    let named = (holds.pair i h.0).named there.1.0 h.2 there.1.1 in
    (holds.nodes i h.0 h.2.number named.0 named.1).0
came_there job IsKept world i (Asks ask) holds came = came
came_there job IsKept world i (Does thread call) holds came = came
came_there job IsKept world i Ticks holds came = came

-- what is asked of a state holds after an event
pub lasts_on : {Local Call Told : Type 0} (job : Job Local Call Told) (IsKept : (me : ℕ) → Local → Type 0)
    (Fits : Local → Type 0) (May : NodeEvent Call → Type 0) (world : World Local) (i : ℕ) (event : NodeEvent Call)
    (timed : EventAt Call) → IsAllSound job.behaviour IsKept → AreSpoken job IsKept Fits May
    → Lasts job IsKept Fits world → IsAmong job.settings timed.event
    → falls job.settings world timed.event ≡ Some (record { node = i; event = event })
    → IsFit job.settings May event → Lasts job IsKept Fits (world_after job world timed)
lasts_on {Local} {Call} job IsKept Fits May world i event timed sound spoken L among falls_so fit =
    let came : Came job.settings world i event =
    subst (CameAt job.settings world) falls_so (falls_came job.settings world timed.event among) in
    let here = came_there job IsKept world i event L.holds came in
    let says = spoken.spelled i (world i) timed.now event here (L.nodes i) (L.fits i) fit in
    let after = node_after job i (world i) timed.now event in
    record {
      holds = step_keeps job IsKept world timed sound L.holds among;
      nodes = subst (λ (o : Option (Fall Call)). (node : ℕ)
          → NodeInvariant job.settings IsKept node (after_at job world timed.now o node)) (sym falls_so)
          (put_all (NodeInvariant job.settings IsKept) world i after L.nodes
          (event_keeps job IsKept i (world i) timed.now event sound (L.nodes i) says));
      fits = subst (λ (o : Option (Fall Call)). (node : ℕ) → Fits (after_at job world timed.now o node).local)
          (sym falls_so)
          (put_all (λ node (x : Node Local). Fits x.local) world i after L.fits
          (spoken.fits i (world i) timed.now event here (L.nodes i) (L.fits i) fit));
    }
