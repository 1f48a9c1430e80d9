-- Each event of a node keeps what its operations and its requests say of each other.
use Rattle.std.proofs.Common.{◌≡◌, ℕ, suc, ◌==◌, not, Bool, true, true≢false, List, [], ◌∷◌, ◌++◌}
use Rattle.std.proofs.Common.{Option, None, Some, Result, Ok, Err, length, refl, sym, ap, ◌∙◌, subst, arith, eqb-true}
use Rattle.std.proofs.lemmas.Bool.{and_parts}
use Rattle.base_lists.specs.Put.{put}
use Rattle.base_lists.specs.Numbered.{element_at}
use Rattle.base_lists.proofs.Numbered.{numbered_nil, numbered_in}
use Rattle.base_lists.proofs.Places.{slice_get_last}
use Rattle.base_lists.proofs.Put.{put_same}
use Rattle.wire_message.specs.Parameters.{Parameters}
use Rattle.wire_message.specs.Message.{Message}
use Rattle.part_handlers.specs.declared.table.Entry.{Entry}
use Rattle.part_handlers.specs.declared.rules.Forbidden.{Forbidden}
use Rattle.part_handlers.specs.declared.rules.CallKind.TheVariants as kinds
use Rattle.part_handlers.specs.Runs.{Meaning}
use Rattle.spec_node.specs.declared.answer.Asked.{Asked}
use Rattle.spec_node.specs.declared.answer.Asked.TheVariants as asked
use Rattle.spec_node.specs.Record.{Request, Node, opening_node}
use Rattle.spec_node.specs.Requests.{is_open}
use Rattle.spec_node.specs.Behaviour.{Ask, Sending}
use Rattle.spec_node.specs.Step.{after_request, request_answer, Verdict, Runs, Returns, verdict, after_delivery}
use Rattle.spec_node.specs.Step.{TickChoice, Retransmits, Sends, Rests, tick_choice, after_tick, after_sending, can_ask}
use Rattle.spec_node.specs.Step.{next_due, with_asked, new_request, is_exhausted}
use Rattle.spec_node.specs.NodeStep.{NodeEvent, Asks, Does, Comes, Ticks, site_of, node_after}
use Rattle.spec_node.proofs.Answers.{returns_says, sends_choice}
use Rattle.part_transfers.specs.declared.operation.Next.{Next}
use Rattle.part_transfers.specs.Operation.{target, next_chunk}
use Rattle.part_transfers.proofs.Issued.{next_is_first}
use Rattle.node_core.specs.Kept.{segment_of}
use Rattle.node_core.specs.ClientRules.{rules}
use Rattle.node_core.specs.Library.{work_content}
use Rattle.node_rules.specs.declared.answer.Answer.{Answer}
use Rattle.node_rules.specs.EndpointLocal.{EndpointLocal, nothing_begun}
use Rattle.node_rules.specs.EndpointRules.{OtherCall, OnCore, OnTransfers, OnBarrier, endpoint_rules, job_of}
use Rattle.node_rules.specs.EndpointRules.{unless_forbidden, does_call, chunk_work, next_sending}
use Rattle.node_rules.specs.TransferCalls.{Caller, transfer_kind, transfer_does}
use Rattle.node_rules.specs.Tracking.{Tracks, NodeTracks, chunk_content}
use Rattle.node_rules.proofs.Asked.{stay_push, stay_sent, returns_back, returns_none}
use Rattle.node_rules.proofs.Chunks.{tracks_stay, tracks_back, Issues, tracks_issued}
use Rattle.node_rules.proofs.Syncing.{transfer_tracks}
use Rattle.node_rules.proofs.Sending.{IsSent, IsNotification, IsChunk, sending_is, chunk_no_notification, says_chunk}
use Rattle.node_rules.proofs.Sending.{issued_operations}

-- before all events
pub opening_tracks : (settings : Parameters) → NodeTracks settings.version (opening_node (nothing_begun settings))
opening_tracks settings = record {
  request = λ number index chunk. absurd (numbered_nil number chunk.operation chunk.numbered_so);
  apart = λ number index other place chunk second same numbers.
      absurd (numbered_nil number chunk.operation chunk.numbered_so);
  few = λ number operation at. absurd (numbered_nil number operation at);
  complete = λ number operation at synced. absurd (numbered_nil number operation at);
}

-- ---- a request of a thread

asks_tracks : (settings : Parameters) (table : List (Option Entry)) (meaning : Meaning) (me : ℕ)
    (node : Node EndpointLocal) (now : ℕ) (ask : Ask) (answer : Asked) → NodeTracks settings.version node
    → NodeTracks settings.version
    (after_request (site_of (job_of settings table meaning) me) node now ask answer)
asks_tracks settings table meaning me node now ask (asked.Accepted to slot number) tracks =
    tracks_stay settings.version node.asked _ node.local.operations (stay_push node.asked ask.to _) tracks
asks_tracks settings table meaning me node now ask asked.Ran tracks =
    tracks_back settings.version me 0 0 node.asked node.asked node.local.operations (returns_none node.asked me 0)
    tracks
asks_tracks settings table meaning me node now ask (asked.Forbidden forbidden) tracks = tracks
asks_tracks settings table meaning me node now ask _ tracks = tracks

-- ---- another call

judged_tracks : (settings : Parameters) (table : List (Option Entry)) (meaning : Meaning)
    (asked_of : ℕ → List Request) (thread : ℕ) (judged : Result (Unit {0}) Forbidden) (local : EndpointLocal)
    (outcome : Answer × EndpointLocal) → Tracks settings.version asked_of local.operations
    → Tracks settings.version asked_of outcome.1.operations
    → Tracks settings.version asked_of
    (unless_forbidden (endpoint_rules settings table meaning) thread judged local outcome).1.operations
judged_tracks settings table meaning asked_of thread (Ok allowed) local outcome tracks after = after
judged_tracks settings table meaning asked_of thread (Err forbidden) local outcome tracks after = tracks

call_tracks : (settings : Parameters) (table : List (Option Entry)) (meaning : Meaning) (asked_of : ℕ → List Request)
    (caller : Caller) (call : OtherCall) (local : EndpointLocal) → Tracks settings.version asked_of local.operations
    → Tracks settings.version asked_of
    (does_call (endpoint_rules settings table meaning) (rules settings table meaning) caller call local).1.operations
call_tracks settings table meaning asked_of caller (OnCore call) local tracks = tracks
call_tracks settings table meaning asked_of caller (OnTransfers call) local tracks =
    judged_tracks settings table meaning asked_of caller.thread
    ((endpoint_rules settings table meaning).judges caller.thread (transfer_kind call) local) local
    (transfer_does caller call local) tracks
    (transfer_tracks settings.version asked_of caller call local tracks)
call_tracks settings table meaning asked_of caller (OnBarrier call) local tracks =
    judged_tracks settings table meaning asked_of caller.thread
    ((endpoint_rules settings table meaning).judges caller.thread kinds.Barrier local) local _ tracks tracks

-- ---- a delivery

-- a request that isn't back, and has the slot
open_is : (slot : ℕ) (request : Option Request) → is_open slot request ≡ true
    → (one : Request) × (request ≡ Some one) × (one.slot ≡ slot)
open_is slot None e = absurd (true≢false (sym e))
open_is slot (Some one) e =
    (one, refl, eqb-true one.slot slot (and_parts (not one.back) (one.slot == slot) e).1)

comes_tracks : (settings : Parameters) (table : List (Option Entry)) (meaning : Meaning) (me : ℕ)
    (node : Node EndpointLocal) (message : Message) (becomes : Verdict)
    → verdict (site_of (job_of settings table meaning) me) node message ≡ becomes
    → NodeTracks settings.version node
    → NodeTracks settings.version
    (after_delivery (site_of (job_of settings table meaning) me) node message becomes)
comes_tracks settings table meaning me node message Runs is tracks = tracks
comes_tracks settings table meaning me node message Returns is tracks =
    let returning = returns_says (site_of (job_of settings table meaning) me) node message is in
    let one = open_is message.slot (element_at (node.asked message.from) message.number) returning.open_ in
    tracks_back settings.version message.from message.slot message.number node.asked _ node.local.operations
    (returns_back node.asked message.from message.slot message.number one.0 one.1 one.2) tracks
comes_tracks settings table meaning me node message _ is tracks = tracks

-- ---- a tick

-- the chunk that is sent is the next one of an operation, and its request is the next one to its target
abbrev issues : (settings : Parameters) (node : Node EndpointLocal) (can : ℕ → Bool) (now slot : ℕ) (next : Next)
    → next_chunk can 1 node.local.operations ≡ Some next
    → let to = target next.transfer in
    let content = work_content settings.version (segment_of settings node.local.core) (chunk_work next) in
    Issues settings.version node.asked
    (put node.asked to (node.asked to ++ new_request now slot content ∷ [])) node.local.operations next.number
issues settings node can now slot next is =
    let first = next_is_first can node.local.operations next is in
    let to = target next.transfer in
    let same : target first.operation.transfer ≡ to = ap (λ (n : Next). target n.transfer) (sym first.chunk) in
    let segment = segment_of settings node.local.core in
    let content = work_content settings.version segment (chunk_work next) in
    let new = new_request now slot content in
    let later = put node.asked to (node.asked to ++ new ∷ []) in
    record {
      operation = first.operation;
      here = first.here;
      has = first.has;
      request = new;
      number = suc (length (node.asked to));
      bytes = content.payload;
      stay = stay_push node.asked to new;
      fresh = λ request at. absurd (omega (
        arith,
        numbered_in (node.asked to) (suc (length (node.asked to))) request
            (ap (λ peer. element_at (node.asked peer) (suc (length (node.asked to)))) (sym same) ∙ at),
      ));
      accepted = ap (λ peer. element_at (later peer) (suc (length (node.asked to)))) same
          ∙ (ap (λ list. element_at list (suc (length (node.asked to))))
          (put_same node.asked to (node.asked to ++ new ∷ []))
          ∙ slice_get_last (node.asked to) new);
      content = says_chunk settings.version segment next
          ∙ ap (λ chunk. chunk_content settings.version chunk content.payload) first.chunk;
      open_ = refl;
    }

sends_tracks : (settings : Parameters) (table : List (Option Entry)) (meaning : Meaning) (me : ℕ)
    (node : Node EndpointLocal) (now : ℕ) (can : ℕ → Bool) (sending : Sending)
    → IsSent settings me can node.local sending → NodeTracks settings.version node
    → NodeTracks settings.version
    (after_sending (site_of (job_of settings table meaning) me) node now sending)
sends_tracks settings table meaning me node now can sending (IsNotification sent is says) tracks =
    subst (λ (s : Sending). NodeTracks settings.version
    (after_sending (site_of (job_of settings table meaning) me) node now s)) (sym says)
    (tracks_stay settings.version node.asked _ node.local.operations (stay_push node.asked sent.to _) tracks)
sends_tracks settings table meaning me node now can sending (IsChunk next is says) tracks =
    let to = target next.transfer in
    let segment = segment_of settings node.local.core in
    let content = work_content settings.version segment (chunk_work next) in
    let contact = with_asked me node to in
    let first = next_is_first can node.local.operations next is in
    let it = issues settings node can now contact.slot next is in
    subst (λ (s : Sending). NodeTracks settings.version
    (after_sending (site_of (job_of settings table meaning) me) node now s)) (sym says)
    (subst (Tracks settings.version
    (put node.asked to (node.asked to ++ new_request now contact.slot content ∷ [])))
    (sym (issued_operations settings contact content node.local (chunk_no_notification settings.version segment next)
    ∙ first.issued contact.slot contact.number content.payload))
    (tracks_issued settings.version node.asked _ node.local.operations next.number it tracks))

tick_tracks : (settings : Parameters) (table : List (Option Entry)) (meaning : Meaning) (me : ℕ)
    (node : Node EndpointLocal) (now : ℕ) (choice : TickChoice)
    → tick_choice (site_of (job_of settings table meaning) me) node now ≡ choice
    → NodeTracks settings.version node
    → NodeTracks settings.version (after_tick (site_of (job_of settings table meaning) me) node now choice)
tick_tracks settings table meaning me node now (Retransmits due) is tracks =
    tracks_stay settings.version node.asked _ node.local.operations (stay_sent node.asked now due.peer due.number)
    tracks
tick_tracks settings table meaning me node now (Sends sending) is tracks =
    let can = can_ask (site_of (job_of settings table meaning) me) node in
    sends_tracks settings table meaning me node now can sending
    (sending_is settings me can node.local sending
    (sends_choice (next_due settings node now) (next_sending settings me can node.local) sending is)) tracks
tick_tracks settings table meaning me node now Rests is tracks = tracks

-- ---- each event

pub event_tracks : (settings : Parameters) (table : List (Option Entry)) (meaning : Meaning) (me : ℕ)
    (node : Node EndpointLocal) (now : ℕ) (event : NodeEvent OtherCall) → NodeTracks settings.version node
    → NodeTracks settings.version (node_after (job_of settings table meaning) me node now event)
event_tracks settings table meaning me node now (Asks ask) tracks =
    asks_tracks settings table meaning me node now ask
    (request_answer (site_of (job_of settings table meaning) me) node ask) tracks
event_tracks settings table meaning me node now (Does thread call) tracks =
    call_tracks settings table meaning node.asked
    (record { settings = settings; me = me; thread = thread; exhausted = is_exhausted settings node }) call node.local tracks
event_tracks settings table meaning me node now (Comes message) tracks =
    comes_tracks settings table meaning me node message
    (verdict (site_of (job_of settings table meaning) me) node message) refl tracks
event_tracks settings table meaning me node now Ticks tracks =
    tick_tracks settings table meaning me node now
    (tick_choice (site_of (job_of settings table meaning) me) node now) refl tracks
