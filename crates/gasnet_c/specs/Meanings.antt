-- Handlers whose meaning is told event by event, as C tells what they did: the runs of an event, and one meaning of all
-- events.
-- Origin: this project's profile.
use Rattle.std.specs.Prelude.{ℕ, ◌≡◌, ◌⊎◌, ◌<◌, ◌^◌, ◌==◌, nat_le, nat_lt, Bool, true, false, ◌||◌}
use Rattle.std.specs.Prelude.{if◌then◌else◌, List, [], ◌∷◌, length, Option, Some, None}
use Rattle.wire_message.specs.Parameters.{Parameters}
use Rattle.wire_message.specs.Content.{Content, code, is_ack, content_of}
use Rattle.base_lists.specs.Numbered.{element_at}
use Rattle.part_handlers.specs.declared.table.Entry.{Entry}
use Rattle.part_handlers.specs.declared.rules.Role.{Role}
use Rattle.part_handlers.specs.declared.rules.Role.TheVariants as role
use Rattle.part_handlers.specs.Runs.{Arrival, Frame, Start, Meaning, IsLawfulMeaning, nothing_done}
use Rattle.spec_node.specs.declared.answer.Asked.TheVariants as asked
use Rattle.spec_node.specs.Record.{Node}
use Rattle.spec_node.specs.Executed.{greatest}
use Rattle.spec_node.specs.Behaviour.{Contact}
use Rattle.spec_node.specs.Step.{with_itself, with_sender, request_answer, request_content, verdict, Runs, Returns}
use Rattle.spec_node.specs.NodeStep.{Asks, Does, Comes, Ticks, site_of}
use Rattle.spec_network.specs.Plain.{is_back}
use Rattle.spec_network.specs.World.{EventAt, Fall, falls, world_after, world_answer}
use Rattle.node_core.specs.Kept.{Local, start_from, with_writes}
use Rattle.node_core.specs.Library.{is_library}
use Rattle.node_core.specs.HandlerRuns.{NodeHandlers, handlers_of, landing, frame_of_run, run_request}
use Rattle.node_rules.specs.EndpointLocal.{EndpointLocal}
use Rattle.node_rules.specs.EndpointRules.{OtherCall, RecordEvent, Records, at_the_opening, job_of}
use Rattle.node_rules.specs.Touches.{touches}
use Rattle.node_atomics.specs.BatchRequests.{batch_handler, block_handler}
use Rattle.part_collective_area.specs.Served.{collective_handler}
use Rattle.gasnet_c.specs.OwnHandlers.{serving}
use Rattle.node_endpoint.specs.EndpointState.{EndpointState}
use Rattle.gasnet_c.specs.Replayed.{asked_in, both_replayed_by, own_count, with_one_more}
use Rattle.gasnet_c.specs.declared.replay.OwnRuns.{OwnRuns}
use Rattle.gasnet_c.specs.declared.replay.Reply.{Reply}

-- ---- the runs of an event

-- the fact is so of the run of a client's handler of this role for a message: of the handler, of what stays the same
-- while it runs, and of what it finds
abbrev pub AtRun : NodeHandlers → Role → Contact → Content → Local → ((handler : ℕ) → Frame → Start → Type 0) → Type 0
AtRun handlers which contact content local Fact =
    is_library content.handler ≡ false
    → Fact content.handler (frame_of_run handlers which contact content)
    (start_from handlers.settings (with_writes local (landing content)))

-- an Ack runs no handler
abbrev pub AtReply : NodeHandlers → Contact → Content → Local → ((handler : ℕ) → Frame → Start → Type 0) → Type 0
AtReply handlers contact content local Fact =
    is_ack (code content.kind) ≡ false → AtRun handlers role.Reply contact content local Fact

-- of a request of the node to itself, and of its reply
abbrev pub AtOwnRuns : NodeHandlers → (me : ℕ) → Content → Local → ((handler : ℕ) → Frame → Start → Type 0) → Type 0
AtOwnRuns handlers me content local Fact =
    AtRun handlers role.Request (with_itself me) content local Fact
    × (let out = run_request handlers (with_itself me) content local in
    AtReply handlers (with_itself me) out.1 out.0 Fact)

-- a node of a job, as its record stands before an event
pub record NodeBefore : Type 0 where
  pub settings : Parameters
  pub table : List (Option Entry)
  pub me : ℕ
  pub node : Node EndpointLocal

-- of each run of a client's handler at an event of the node, where handlers mean this
abbrev pub AtRuns : NodeBefore → Meaning → RecordEvent → ((handler : ℕ) → Frame → Start → Type 0) → Type 0
AtRuns at meaning (Asks ask) Fact =
    let site = site_of (job_of at.settings at.table meaning) at.me in
    request_answer site at.node ask ≡ asked.Ran
    → AtOwnRuns (handlers_of at.settings at.table meaning) at.me (request_content site at.node ask) at.node.local.core
    Fact
AtRuns at meaning (Comes message) Fact =
    let site = site_of (job_of at.settings at.table meaning) at.me in
    let handlers = handlers_of at.settings at.table meaning in
    (verdict site at.node message ≡ Runs
    → AtRun handlers role.Request (with_sender at.me message) (content_of message) at.node.local.core Fact)
    × (verdict site at.node message ≡ Returns
    → AtReply handlers (with_sender at.me message) (content_of message) at.node.local.core Fact)
AtRuns at meaning _ Fact = Unit {0}

-- ---- what C tells of them

-- the library's own handlers: those of batches and that of collectives
abbrev pub is_served : (handler : ℕ) → Bool
is_served handler = (handler == batch_handler) || ((handler == block_handler) || (handler == collective_handler))

abbrev pub is_asked : Role → Bool
is_asked role.Request = true
is_asked role.Reply = false

-- the message is a request of the node to itself, which C's handler runs
abbrev pub is_counted : (handler : ℕ) → Arrival → Bool
is_counted handler arrival =
    if is_served handler then false else (if arrival.number == 0 then is_asked arrival.role else false)

-- there is no reply, or it goes to a handler of the library's own exactly where the request did
abbrev pub AnswersAlike : (handler : ℕ) → Option Content → Type 0
AnswersAlike handler None = Unit {0}
AnswersAlike handler (Some content) = is_served content.handler ≡ is_served handler

-- this is what is told of a run: the library's own handlers serve; a request of the node to itself is counted, where
-- C's handler runs it, and nothing else changes the cells
pub record IsToldRun (meaning : Meaning) (handler : ℕ) (frame : Frame) (start : Start) : Type 0 where
  pub served : is_served handler ≡ true → meaning handler frame start ≡ serving handler frame start
  pub cells : (meaning handler frame start).cells
      ≡ (if is_counted handler frame.arrival then with_one_more start.cells else start.cells)
  pub reply : frame.arrival.number ≡ 0 → is_asked frame.arrival.role ≡ true
      → AnswersAlike handler (meaning handler frame start).reply

-- a request is for a handler of clients, and a call leaves the cells alone
abbrev pub IsCall : RecordEvent → Type 0
IsCall (Asks ask) = is_library ask.what.handler ≡ false
IsCall (Does thread call) = (touches call).cells ≡ false
IsCall _ = Unit {0}

-- an event, and what handlers mean in it
pub record MeantEvent : Type 0 where
  pub timed : EventAt OtherCall
  pub meaning : Meaning

-- so it is of an event where it falls, if it does
abbrev pub IsToldAt : Parameters → List (Option Entry) → Records → Meaning → Option (Fall OtherCall) → Type 0
IsToldAt settings table world meaning None = Unit {0}
IsToldAt settings table world meaning (Some fall) =
    IsCall fall.event
    × AtRuns (record { settings = settings; table = table; me = fall.node; node = world fall.node }) meaning fall.event
    (IsToldRun meaning)

-- the world after an event
abbrev pub after_meant : Parameters → List (Option Entry) → Records → MeantEvent → Records
after_meant settings table world step = world_after (job_of settings table step.meaning) world step.timed

-- so it is of each of these events, from this world on
abbrev pub AreTold : Parameters → List (Option Entry) → Records → List MeantEvent → Type 0
AreTold settings table world [] = Unit {0}
AreTold settings table world (step ∷ later) =
    IsToldAt settings table world step.meaning (falls settings world step.timed.event)
    × AreTold settings table (after_meant settings table world step) later

-- what handlers mean in each of them is lawful
abbrev pub AreLawful : List MeantEvent → Type 0
AreLawful [] = Unit {0}
AreLawful (step ∷ later) = IsLawfulMeaning step.meaning × AreLawful later

-- ---- one meaning

-- each of these events, from this world on, leaves and is answered the same by this meaning
abbrev pub AreTheSame : Parameters → List (Option Entry) → Meaning → Records → List MeantEvent → Type 0
AreTheSame settings table meaning world [] = Unit {0}
AreTheSame settings table meaning world (step ∷ later) =
    (world_after (job_of settings table meaning) world step.timed ≡ after_meant settings table world step)
    × (world_answer (job_of settings table meaning) world step.timed
    ≡ world_answer (job_of settings table step.meaning) world step.timed)
    × AreTheSame settings table meaning (after_meant settings table world step) later

-- a lawful meaning, by which all events go, and which serves as the library's own handlers do
pub record OneMeaning (settings : Parameters) (table : List (Option Entry)) (steps : List MeantEvent) : Type 0 where
  pub meaning : Meaning
  pub lawful : IsLawfulMeaning meaning
  pub serves : (handler : ℕ) (frame : Frame) (start : Start)
      → is_served handler ≡ true → meaning handler frame start ≡ serving handler frame start
  pub same : AreTheSame settings table meaning (at_the_opening settings) steps

-- there is one for each run of fewer than 2^64 events, from the opening on, of which that is told
abbrev pub HaveOneMeaning : Type 0
HaveOneMeaning =
    (settings : Parameters) (table : List (Option Entry)) (steps : List MeantEvent)
    → length steps < 2 ^ 64 → AreLawful steps → AreTold settings table (at_the_opening settings) steps
    → OneMeaning settings table steps

-- ---- C's events

-- what is said of a request's handlers: an operation on a word is served, and else C says what both handlers did, with
-- no reply to a handler of the library's own
abbrev pub IsRequestOfC : (handler : ℕ) → Meaning → Type 0
IsRequestOfC handler meaning =
    ((is_served handler ≡ true) × (meaning ≡ serving))
    ⊎ ((it : OwnRuns) × (is_served handler ≡ false) × (is_served it.request.reply.handler ≡ false)
    × (meaning ≡ both_replayed_by it))

-- and of the handler of a message that comes: it is served, as each one of the library's own is, or C says which reply
-- it asked for
abbrev pub IsDeliveryOfC : (handler : ℕ) → Meaning → Type 0
IsDeliveryOfC handler meaning =
    (meaning ≡ serving)
    ⊎ ((held : Option EndpointState) × (reply : Reply) × (is_served handler ≡ false)
    × (meaning ≡ asked_in held reply))

-- an event as the exports make it, with what is said of handlers: a request goes to a client's handler, and other calls
-- leave the cells alone. Where no handler runs they mean whatever is said
abbrev pub IsOfC : RecordEvent → Meaning → Type 0
IsOfC (Asks ask) meaning = (is_library ask.what.handler ≡ false) × IsRequestOfC ask.what.handler meaning
IsOfC (Does thread call) meaning = ((touches call).cells ≡ false) × (meaning ≡ serving)
IsOfC (Comes message) meaning = IsDeliveryOfC message.handler meaning
IsOfC Ticks meaning = meaning ≡ serving

-- so it is where it falls, if it does
abbrev pub IsOfCAt : Meaning → Option (Fall OtherCall) → Type 0
IsOfCAt meaning None = meaning ≡ serving
IsOfCAt meaning (Some fall) = IsOfC fall.event meaning

-- so is each of these events, from this world on
abbrev pub AreOfC : Parameters → List (Option Entry) → Records → List MeantEvent → Type 0
AreOfC settings table world [] = Unit {0}
AreOfC settings table world (step ∷ later) =
    IsOfCAt step.meaning (falls settings world step.timed.event)
    × AreOfC settings table (after_meant settings table world step) later

-- whatever handlers of C keep outside of the segment, there is one meaning of all events of each run of fewer than 2^64
abbrev pub COfOneMeaning : Type 0
COfOneMeaning =
    (settings : Parameters) (table : List (Option Entry)) (steps : List MeantEvent)
    → length steps < 2 ^ 64 → AreOfC settings table (at_the_opening settings) steps
    → OneMeaning settings table steps

-- ---- how it is made

-- the run of a request of the node to itself, or of its reply, which found the one count is over where this one is kept
abbrev pub own_is_over : Role → (found kept : ℕ) → Bool
own_is_over role.Request found kept = nat_lt found kept
own_is_over role.Reply found kept = nat_le found kept

-- so is the run of another node's request, or of its reply, at the node of this record
abbrev pub came_is_over : Role → Node EndpointLocal → Arrival → Bool
came_is_over role.Request node arrival = nat_le arrival.number (greatest arrival.slot (node.ran arrival.source))
came_is_over role.Reply node arrival = is_back (element_at (node.asked arrival.source) arrival.number)

-- so is a run, by its message and what it found
abbrev pub is_over : Node EndpointLocal → Frame → Start → Bool
is_over node frame start =
    if frame.arrival.number == 0
    then own_is_over frame.arrival.role (own_count start.cells) (own_count node.local.core.cells)
    else came_is_over frame.arrival.role node frame.arrival

-- what the first event of these says after which the run is over
abbrev pub first_over : Parameters → List (Option Entry) → Records → List MeantEvent → Meaning
first_over settings table world [] handler frame start = nothing_done start
first_over settings table world (step ∷ later) handler frame start =
    let after = after_meant settings table world step in
    if is_over (after frame.arrival.me) frame start then step.meaning handler frame start
    else first_over settings table after later handler frame start

-- the library's own handlers serve; the others did what that event says
abbrev pub one_meaning : Parameters → List (Option Entry) → Records → List MeantEvent → Meaning
one_meaning settings table world steps handler frame start =
    if is_served handler then serving handler frame start
    else first_over settings table world steps handler frame start
