-- In a job of endpoints whose handlers are lawful and fitting, what an event sends has a spelling, and what it leaves
-- fits.
use Rattle.std.proofs.Common.{◌≡◌, ◌≢◌, inl, inr, ℕ, zero, suc, ◌<◌, ◌≤◌, ◌^◌, not, Bool, true, false, List}
use Rattle.std.proofs.Common.{[], ◌∷◌, length, Option, None, Some, Result, Ok, Err, refl, sym, ◌∙◌, subst, arith}
use Rattle.std.proofs.Common.{ℤ, nat_lt}
use Rattle.std.specs.Prelude.{◌==◌, slice_set, pos, replicate, if◌then◌else◌}
use Rattle.std.specs.Int.{w32, w64, to_le_bytes}
use Rattle.std.specs.Int.RustNames.{FitsSigned}
use Rattle.std.proofs.lemmas.Bool.{cases_Bool, eqb-true, ltb-true}
use Rattle.base_lists.proofs.Cases.{none_some}
use Rattle.base_lists.proofs.Members.{all_append}
use Rattle.wire_message.specs.Parameters.{Parameters, credits_of}
use Rattle.wire_message.specs.Content.{Content, content_of}
use Rattle.wire_message.specs.Message.{Message, IsMessage}
use Rattle.wire_message.proofs.Credits.{few_credits}
use Rattle.part_segment.specs.Image.{Write}
use Rattle.part_handlers.specs.declared.table.Entry.{Entry}
use Rattle.part_handlers.specs.declared.rules.Forbidden.{Forbidden}
use Rattle.part_handlers.specs.Runs.{Meaning}
use Rattle.spec_node.specs.declared.answer.Asked.{Asked}
use Rattle.spec_node.specs.declared.answer.Asked.TheVariants as asked
use Rattle.spec_node.specs.declared.answer.Why.{Why}
use Rattle.spec_node.specs.declared.answer.Why.TheVariants as why
use Rattle.spec_node.specs.Record.{Request, Node}
use Rattle.spec_node.specs.Requests.{outstanding, next_claim, free_slot}
use Rattle.spec_node.specs.Behaviour.{Behaviour, Ask, Sending, Contact}
use Rattle.spec_node.specs.Step.{request_content, request_answer, after_request, address_fault, first_why, Verdict}
use Rattle.spec_node.specs.Step.{Runs, Returns, verdict, with_sender, with_itself}
use Rattle.spec_node.specs.Step.{after_delivery, TickChoice, Retransmits, Sends, Rests, tick_choice, next_due, can_ask}
use Rattle.spec_node.specs.Step.{after_tick, slots_for, with_asked}
use Rattle.spec_node.specs.Invariant.{NodeInvariant, address_in}
use Rattle.spec_node.specs.NodeStep.{site_of, Asks, Does, Comes, Ticks, node_after}
use Rattle.spec_node.specs.Step.{is_exhausted}
use Rattle.spec_node.specs.Spelled.{IsAskSpelled, IsReplySpelled, IsTickSpelled, IsSpelled}
use Rattle.spec_node.proofs.Answers.{accepted_says, here_says, runs_says, returns_says, sends_choice, can_says}
use Rattle.spec_node.proofs.Slots.{free_le}
use Rattle.part_transfers.specs.declared.operation.Mode.{Mode}
use Rattle.part_transfers.specs.declared.operation.Mode.TheVariants.{Explicit}
use Rattle.part_transfers.specs.declared.operation.Transfer.{Transfer}
use Rattle.part_transfers.specs.declared.operation.Transfer.TheVariants as transfers
use Rattle.part_transfers.specs.Operation.{size}
use Rattle.node_core.specs.Kept.{Local, segment_of, with_writes}
use Rattle.node_core.specs.ClientRules.{rules}
use Rattle.node_core.specs.Library.{Notification, notification_handler}
use Rattle.node_rules.specs.EndpointLocal.{EndpointLocal, IsEndpointKept, nothing_begun}
use Rattle.node_rules.specs.Called.{Requests, Performs, node_event}
use Rattle.node_rules.specs.CoreCalls.{SetCell, OnSegment}
use Rattle.node_rules.specs.EndpointRules.{OtherCall, OnCore, OnTransfers, RecordEvent, job_of}
use Rattle.node_rules.specs.EndpointRules.{endpoint_rules, next_sending, chunk_work, after_sent, does_call}
use Rattle.node_rules.specs.EndpointRules.{unless_forbidden}
use Rattle.node_rules.specs.Memory.{SegmentCall, Show, Set, Fill, LoadWord, SetWord, segment_does, range_fault}
use Rattle.node_rules.specs.Memory.{word_fault, unless_fault}
use Rattle.node_rules.specs.TransferCalls.{Begin, BeginImplicit}
use Rattle.node_rules.specs.TransferCalls.{Caller, transfer_does}
use Rattle.node_rules.specs.TransferCalls.{begin_says, after_beginning, implicit_mode}
use Rattle.node_rules.specs.TransferCalls.{own_write, written_at_once}
use Rattle.node_rules.specs.declared.answer.Answer.{Answer}
use Rattle.node_rules.specs.declared.answer.Begun.{Begun}
use Rattle.node_rules.specs.declared.answer.Begun.TheVariants as begun
use Rattle.node_rules.specs.declared.answer.Local.{Local as LocalAnswer}
use Rattle.node_rules.specs.declared.answer.Local.TheVariants as local_answers
use Rattle.node_rules.proofs.Kept.{IsFaultless, done_says}
use Rattle.node_rules.proofs.Handled.{asking_well, run_replies}
use Rattle.node_rules.proofs.Sending.{IsSent, IsNotification, IsChunk, sending_is}
use Rattle.node_rules.proofs.Works.{notification_work_fits, chunk_work_fits, sending_well}
use Rattle.node_rules.proofs.Frames.{call_framed}
use Rattle.law_traces.specs.Fitting.{CoreFits, KeptFits, CallFits, OtherFits, ContentFits, PayloadFits, AreNumbers}
use Rattle.law_traces.specs.Fitting.{AreBytes, WriteBytes, IsFittingJob}
use Rattle.law_traces.specs.Scripts.{ThreadCall}
use Rattle.law_traces.proofs.Bytes.{bytes_part, bytes_same, bytes_word, bytes_image, small_fits}
use Rattle.law_traces.proofs.Saying.{IsSpoken, IsPlace, spoken_message, asked_spoken, work_spoken}
use Rattle.law_traces.proofs.Fitting.{request_fits, reply_fits}
use Rattle.law_traces.proofs.Lasting.{IsFit, AreSpoken}

-- ---- addresses

-- from a node to another, with a slot and a number of their pair
place_is : (settings : Parameters) (table : List (Option Entry)) (meaning : Meaning) (from to slot number : ℕ)
    → IsFittingJob settings table meaning → from < settings.nodes → to < settings.nodes → from ≢ to → slot < 2 ^ 16
    → 1 ≤ number → number < 2 ^ 64 → IsPlace (address_in settings from to slot number)
place_is settings table meaning from to slot number job from_in to_in apart slot_in some number_in = record {
  well = record { version = job.range.version; apart = apart; numbered = some };
  job = job.job;
  from = omega (arith, from_in, job.range.nodes);
  to = omega (arith, to_in, job.range.nodes);
  slot = slot_in;
  number = number_in;
}

-- the next claim of a pair
claim_place : (settings : Parameters) (table : List (Option Entry)) (meaning : Meaning) (me to : ℕ)
    (requests : List Request) → IsFittingJob settings table meaning → me < settings.nodes → to < settings.nodes
    → to ≢ me → length requests < settings.last → outstanding requests < credits_of settings me to
    → IsPlace (address_in settings me to (next_claim requests).slot (next_claim requests).number)
claim_place settings table meaning me to requests job here there other left free =
    let few = (few_credits settings job.range me to).few in
    place_is settings table meaning me to (free_slot requests) (suc (length requests)) job here there
    (λ same. other (sym same)) (omega (arith, free_le requests, free, few)) (omega arith)
    (omega (arith, left, job.last))

-- ---- what an event sends

ask_spelled : (settings : Parameters) (table : List (Option Entry)) (meaning : Meaning) (me now : ℕ)
    (node : Node EndpointLocal) (ask : Ask) (answer : Asked) → IsFittingJob settings table meaning
    → me < settings.nodes → KeptFits node.local → AreNumbers ask.what.args → PayloadFits ask.what.payload
    → request_answer (site_of (job_of settings table meaning) me) node ask ≡ answer
    → IsAskSpelled (site_of (job_of settings table meaning) me) node now ask answer
ask_spelled settings table meaning me now node ask (asked.Accepted to slot number) job here fits args payload e =
    let site = site_of (job_of settings table meaning) me in
    let says = accepted_says site node ask to slot number e in
    let content = request_content site node ask in
    let spoken = asked_spoken settings table (segment_of settings node.local.core) ask.what job.range job.indexes
    says.faultless args payload (bytes_image settings.segment node.local.core.writes fits.writes) in
    let place = claim_place settings table meaning me ask.to (node.asked ask.to) job here says.to_in says.other
    says.left says.free in
    let there : IsPlace (address_in settings me ask.to slot number) =
    subst (λ (k : ℕ). IsPlace (address_in settings me ask.to k number)) (sym says.slot_is)
    (subst (λ (n : ℕ). IsPlace (address_in settings me ask.to (next_claim (node.asked ask.to)).slot n))
    (sym says.number_is) place) in
    spoken_message (address_in settings me ask.to slot number) content there spoken
ask_spelled settings table meaning me now node ask _ job here fits args payload e = tt

-- what an address that isn't wrong says
to_me : (settings : Parameters) (me : ℕ) (message : Message) → address_fault settings me message ≡ None
    → message.to ≡ me
to_me settings me message e = by_tests (message.job == settings.job) (message.to == me)
    (nat_lt message.from settings.nodes) (nat_lt message.slot (slots_for settings me message)) refl e
  where
    by_tests : (a b c d : Bool) → (message.to == me) ≡ b
        → (if not a then Some why.Job else (if not b then Some why.Receiver else (if not c then Some why.Sender
        else (if not d then Some why.Slot else None)))) ≡ None
        → message.to ≡ me
    by_tests a true c d is none = eqb-true message.to me is
    by_tests true false c d is none = absurd (none_some (sym none))
    by_tests false false c d is none = absurd (none_some (sym none))

first_none : (one other : Option Why) → first_why one other ≡ None → one ≡ None
first_none None other e = refl
first_none (Some reason) other e = absurd (none_some (sym e))

content_fits : (message : Message) → IsMessage message → ContentFits (content_of message)
content_fits message is = record { args = is.args; payload = is.payload }

reply_spelled : (settings : Parameters) (table : List (Option Entry)) (meaning : Meaning) (me : ℕ)
    (node : Node EndpointLocal) (message : Message) (v : Verdict) → IsFittingJob settings table meaning
    → me < settings.nodes → KeptFits node.local → IsMessage message → message.from < settings.nodes
    → verdict (site_of (job_of settings table meaning) me) node message ≡ v
    → IsReplySpelled (site_of (job_of settings table meaning) me) node message v
reply_spelled settings table meaning me node message Runs job here fits is from e =
    let site = site_of (job_of settings table meaning) me in
    let says = runs_says site node message e in
    let to : message.to ≡ me = to_me settings me message
    (first_none (address_fault settings me message) _ says.unrefused)
    in
    let ran = request_fits settings table meaning (with_sender me message) (content_of message) node.local.core job
    (omega (arith, from, job.range.nodes)) (content_fits message is) says.well fits in
    spoken_message (address_in settings me message.from message.slot message.number) _
    (place_is settings table meaning me message.from message.slot message.number job here from
    (λ same. is.apart (sym same ∙ sym to)) is.slot is.numbered is.number)
    ran.reply
reply_spelled settings table meaning me node message _ job here fits is from e = tt

sending_spoken : (settings : Parameters) (table : List (Option Entry)) (meaning : Meaning) (me : ℕ) (can : ℕ → Bool)
    (local : EndpointLocal) (sending : Sending) → IsFittingJob settings table meaning → KeptFits local
    → IsEndpointKept settings me local → next_sending settings me can local ≡ Some sending → IsSpoken sending.content
sending_spoken settings table meaning me can local sending job fits kept is =
    by_kind (sending_is settings me can local sending is)
  where
    segment : List ℕ
    segment = segment_of settings local.core

    bytes : AreBytes segment
    bytes = bytes_image settings.segment local.core.writes fits.writes

    by_kind : IsSent settings me can local sending → IsSpoken sending.content
    by_kind (IsNotification sent notification_is same) =
        subst (λ (one : Sending). IsSpoken one.content) (sym same)
        (work_spoken settings segment (Notification sent.notification) job.range
        (notification_work_fits settings me can local sent job.range kept notification_is) bytes)
    by_kind (IsChunk next next_is same) =
        subst (λ (one : Sending). IsSpoken one.content) (sym same)
        (work_spoken settings segment (chunk_work next) job.range
        (chunk_work_fits settings me can local next kept next_is) bytes)

tick_spelled : (settings : Parameters) (table : List (Option Entry)) (meaning : Meaning) (me now : ℕ)
    (node : Node EndpointLocal) (choice : TickChoice) → IsFittingJob settings table meaning
    → me < settings.nodes → KeptFits node.local → IsEndpointKept settings me node.local
    → tick_choice (site_of (job_of settings table meaning) me) node now ≡ choice
    → IsTickSpelled (site_of (job_of settings table meaning) me) node now choice
tick_spelled settings table meaning me now node (Sends sending) job here fits kept e =
    let site = site_of (job_of settings table meaning) me in
    let next = next_sending settings me (can_ask site node) node.local in
    let is = sends_choice (next_due settings node now) next sending e in
    let can = can_says site node sending.to
    (sending_well settings table me (can_ask site node) node.local sending job.range kept is).0 in
    spoken_message _ sending.content
    (claim_place settings table meaning me sending.to (node.asked sending.to) job here can.to_in can.other can.left
    can.free)
    (sending_spoken settings table meaning me (can_ask site node) node.local sending job fits kept is)
tick_spelled settings table meaning me now node (Retransmits due) job here fits kept e = tt
tick_spelled settings table meaning me now node Rests job here fits kept e = tt

-- ---- what an event leaves

ask_fits : (settings : Parameters) (table : List (Option Entry)) (meaning : Meaning) (me now : ℕ)
    (node : Node EndpointLocal) (ask : Ask) (answer : Asked) → IsFittingJob settings table meaning
    → me < settings.nodes → KeptFits node.local → AreNumbers ask.what.args → PayloadFits ask.what.payload
    → request_answer (site_of (job_of settings table meaning) me) node ask ≡ answer
    → KeptFits (after_request (site_of (job_of settings table meaning) me) node now ask answer).local
ask_fits settings table meaning me now node ask asked.Ran job here fits args payload e =
    let site = site_of (job_of settings table meaning) me in
    let content = request_content site node ask in
    let faultless = here_says site node ask e in
    let segment = segment_of settings node.local.core in
    let spoken = asked_spoken settings table segment ask.what job.range job.indexes faultless args payload
    (bytes_image settings.segment node.local.core.writes fits.writes) in
    let well = asking_well settings table segment ask.what.category ask.what refl faultless in
    let low : me < 2 ^ 16 = omega (arith, here, job.range.nodes) in
    let ran = request_fits settings table meaning (with_itself me) content node.local.core job low spoken.fits well fits
    in
    reply_fits settings table meaning (with_itself me) _ _ job low ran.reply.fits
    (run_replies settings table meaning (with_itself me) content node.local.core job.lawful well) ran.core
ask_fits settings table meaning me now node ask (asked.Forbidden forbidden) job here fits args payload e =
    record { cells = fits.cells; writes = fits.writes }
ask_fits settings table meaning me now node ask _ job here fits args payload e = fits

delivery_fits : (settings : Parameters) (table : List (Option Entry)) (meaning : Meaning) (me : ℕ)
    (node : Node EndpointLocal) (message : Message) (v : Verdict) → IsFittingJob settings table meaning
    → KeptFits node.local → IsMessage message → message.from < settings.nodes
    → verdict (site_of (job_of settings table meaning) me) node message ≡ v
    → KeptFits (after_delivery (site_of (job_of settings table meaning) me) node message v).local
delivery_fits settings table meaning me node message Runs job fits is from e =
    let says = runs_says (site_of (job_of settings table meaning) me) node message e in
    (request_fits settings table meaning (with_sender me message) (content_of message) node.local.core job
    (omega (arith, from, job.range.nodes)) (content_fits message is) says.well fits).core
delivery_fits settings table meaning me node message Returns job fits is from e =
    let says = returns_says (site_of (job_of settings table meaning) me) node message e in
    reply_fits settings table meaning (with_sender me message) (content_of message) node.local.core job
    (omega (arith, from, job.range.nodes)) (content_fits message is) says.well fits
delivery_fits settings table meaning me node message _ job fits is from e = fits

sent_fits : (settings : Parameters) (contact : Contact) (content : Content) (local : EndpointLocal) → KeptFits local
    → KeptFits (after_sent settings contact content local)
sent_fits settings contact content local fits = elim (cases_Bool (content.handler == notification_handler)) [
  | inl notification ↦ rw notification fits
  | inr chunk ↦ rw chunk fits
]

tick_fits : (settings : Parameters) (table : List (Option Entry)) (meaning : Meaning) (me now : ℕ)
    (node : Node EndpointLocal) (choice : TickChoice) → KeptFits node.local
    → KeptFits (after_tick (site_of (job_of settings table meaning) me) node now choice).local
tick_fits settings table meaning me now node (Sends sending) fits =
    sent_fits settings (with_asked me node sending.to) sending.content node.local fits
tick_fits settings table meaning me now node _ fits = fits

-- ---- other calls

-- a number in the place of another
pub numbers_set : (cells : List ℤ) (place : ℕ) (value : ℤ) → AreNumbers cells → FitsSigned w32 value
    → AreNumbers (slice_set cells place value)
numbers_set [] place value all fits = tt
numbers_set (cell ∷ cells) zero value all fits = (fits, all.1)
numbers_set (cell ∷ cells) (suc place) value all fits = (all.0, numbers_set cells place value all.1 fits)

unless_bytes : (fault : Option LocalAnswer) (outcome : LocalAnswer × List Write) → WriteBytes outcome.1
    → WriteBytes (unless_fault fault outcome).1
unless_bytes None outcome bytes = bytes
unless_bytes (Some fault) outcome bytes = tt

segment_bytes : (bytes : List ℕ) (call : SegmentCall) → OtherFits (OnCore (OnSegment call))
    → WriteBytes (segment_does bytes call).1
segment_bytes bytes (Show offset len) fits = unless_bytes (range_fault bytes offset len) _ tt
segment_bytes bytes (Set write) fits =
    unless_bytes (range_fault bytes write.offset (length write.bytes)) (local_answers.Done, write ∷ []) (fits, tt)
segment_bytes bytes (Fill offset len byte) fits =
    unless_bytes (range_fault bytes offset len)
    (local_answers.Done, record { offset = offset; bytes = replicate len byte } ∷ []) (bytes_same len byte fits, tt)
segment_bytes bytes (LoadWord offset) fits = unless_bytes (word_fault bytes offset) _ tt
segment_bytes bytes (SetWord offset value) fits =
    unless_bytes (word_fault bytes offset)
    (local_answers.Done, record { offset = offset; bytes = to_le_bytes w64 value } ∷ []) (bytes_word value, tt)

-- more is written
more_fits : (local : Local) (writes : List Write) → CoreFits local → WriteBytes writes
    → CoreFits (with_writes local writes)
more_fits local writes fits bytes = record {
  cells = fits.cells;
  writes = all_append (λ (write : Write). AreBytes write.bytes) local.writes writes fits.writes bytes;
}

-- ---- transfers

own_bytes : (settings : Parameters) (segment : List ℕ) (transfer : Transfer) → IsFaultless settings transfer
    → AreBytes segment → AreBytes (own_write segment transfer).bytes
own_bytes settings segment (transfers.Put to remote local len) good bytes = bytes_part segment local len bytes
own_bytes settings segment (transfers.Get to remote local len) good bytes = bytes_part segment remote len bytes
own_bytes settings segment (transfers.Memset to remote len byte) good bytes =
    bytes_same len byte (ltb-true byte 256 good.byte)

at_once_bytes : (settings : Parameters) (segment : List ℕ) (transfer : Transfer) → IsFaultless settings transfer
    → AreBytes segment → WriteBytes (written_at_once segment transfer)
at_once_bytes settings segment transfer good bytes = elim (cases_Bool (size transfer == 0)) [
  | inl none ↦ rw none tt
  | inr some ↦ rw some (own_bytes settings segment transfer good bytes, tt)
]

begun_fits : (caller : Caller) (transfer : Transfer) (mode : Mode) (says : Begun) (local : EndpointLocal)
    → begin_says caller transfer local.operations ≡ says → KeptFits local
    → KeptFits (after_beginning caller transfer mode says local)
begun_fits caller transfer mode begun.Done local is fits =
    let segment = segment_of caller.settings local.core in
    more_fits local.core (written_at_once segment transfer) fits
    (at_once_bytes caller.settings segment transfer (done_says caller transfer local.operations is)
    (bytes_image caller.settings.segment local.core.writes fits.writes))
begun_fits caller transfer mode (begun.Handle handle) local is fits = fits
begun_fits caller transfer mode _ local is fits = fits

-- ---- any call

unless_fits : (behaviour : Behaviour EndpointLocal) (thread : ℕ) (judged : Result (Unit {0}) Forbidden)
    (local : EndpointLocal) (outcome : Answer × EndpointLocal)
    → ((forbidden : Forbidden) → KeptFits (behaviour.notes thread forbidden local)) → KeptFits outcome.1
    → KeptFits (unless_forbidden behaviour thread judged local outcome).1
unless_fits behaviour thread (Ok _) local outcome notes fits = fits
unless_fits behaviour thread (Err forbidden) local outcome notes fits = notes forbidden

call_fits : (settings : Parameters) (table : List (Option Entry)) (meaning : Meaning) (caller : Caller)
    (call : OtherCall) (local : EndpointLocal) → caller.settings ≡ settings → OtherFits call → KeptFits local
    → KeptFits (does_call (endpoint_rules settings table meaning) (rules settings table meaning) caller call local).1
call_fits settings table meaning caller (OnCore (SetCell cell value)) local same may fits =
    record { cells = numbers_set local.core.cells cell value fits.cells may; writes = fits.writes }
call_fits settings table meaning caller (OnCore (OnSegment call)) local same may fits =
    more_fits local.core _ fits (segment_bytes (segment_of caller.settings local.core) call may)
call_fits settings table meaning caller (OnTransfers (Begin register transfer)) local same may fits =
    unless_fits (endpoint_rules settings table meaning) caller.thread _ local
    (transfer_does caller (Begin register transfer) local)
    (λ forbidden. record { cells = fits.cells; writes = fits.writes })
    (begun_fits caller transfer Explicit _ local refl fits)
call_fits settings table meaning caller (OnTransfers (BeginImplicit transfer)) local same may fits =
    unless_fits (endpoint_rules settings table meaning) caller.thread _ local
    (transfer_does caller (BeginImplicit transfer) local)
    (λ forbidden. record { cells = fits.cells; writes = fits.writes })
    (begun_fits caller transfer (implicit_mode local.regions caller.thread) _ local refl fits)
call_fits settings table meaning caller call local same may fits =
    let framed = call_framed settings table meaning caller call local in
    record {
      cells = subst AreNumbers (sym (framed.cells refl)) fits.cells;
      writes = subst WriteBytes (sym (framed.writes refl)) fits.writes;
    }

-- ---- any event

-- what a call of a thread says and writes fits
abbrev pub EventFits : RecordEvent → Type 0
EventFits (Asks ask) = AreNumbers ask.what.args × PayloadFits ask.what.payload
EventFits (Does thread call) = OtherFits call
EventFits event = Unit {0}

pub call_event_fits : (thread : ℕ) (call : ThreadCall) → CallFits call → EventFits (node_event thread call)
call_event_fits thread (Requests to asking) fits = fits
call_event_fits thread (Performs call) fits = fits

pub are_spoken : (settings : Parameters) (table : List (Option Entry)) (meaning : Meaning)
    → IsFittingJob settings table meaning
    → AreSpoken (job_of settings table meaning) (IsEndpointKept settings) KeptFits EventFits
are_spoken settings table meaning job = record { spelled = spelled; fits = fits }
  where
    spelled : (me : ℕ) (node : Node EndpointLocal) (now : ℕ) (event : RecordEvent) → me < settings.nodes
        → NodeInvariant settings (IsEndpointKept settings) me node → KeptFits node.local
        → IsFit settings EventFits event → IsSpelled (job_of settings table meaning) me node now event
    spelled me node now (Asks ask) here holds keeps may =
        ask_spelled settings table meaning me now node ask _ job here keeps may.0 may.1 refl
    spelled me node now (Does thread call) here holds keeps may = tt
    spelled me node now (Comes message) here holds keeps may =
        reply_spelled settings table meaning me node message _ job here keeps may.0 may.1 refl
    spelled me node now Ticks here holds keeps may =
        tick_spelled settings table meaning me now node _ job here keeps holds.kept refl

    fits : (me : ℕ) (node : Node EndpointLocal) (now : ℕ) (event : RecordEvent) → me < settings.nodes
        → NodeInvariant settings (IsEndpointKept settings) me node → KeptFits node.local
        → IsFit settings EventFits event → KeptFits (node_after (job_of settings table meaning) me node now event).local
    fits me node now (Asks ask) here holds keeps may =
        ask_fits settings table meaning me now node ask _ job here keeps may.0 may.1 refl
    fits me node now (Does thread call) here holds keeps may =
        call_fits settings table meaning
        (record { settings = settings; me = me; thread = thread; exhausted = is_exhausted settings node })
        call node.local refl may keeps
    fits me node now (Comes message) here holds keeps may =
        delivery_fits settings table meaning me node message _ job keeps may.0 may.1 refl
    fits me node now Ticks here holds keeps may =
        tick_fits settings table meaning me now node
        (tick_choice (site_of (job_of settings table meaning) me) node now) keeps

-- before all events
zeros_fit : (many : ℕ) → AreNumbers (replicate many (pos 0))
zeros_fit zero = tt
zeros_fit (suc many) = (small_fits 0 (omega arith), zeros_fit many)

pub opening_fits : (settings : Parameters) → KeptFits (nothing_begun settings)
opening_fits settings = record { cells = zeros_fit 256; writes = tt }
