-- What an answer names is there after the event: the slot of what a tick sent has it, with its number, and the range
-- that is shown lies inside the segment.
use Rattle.std.proofs.Common.{◌≡◌, ℕ, ◌+◌, ◌<◌, ◌≤◌, ◌==◌, Option, Some, None, refl, sym, ◌∙◌}
use Rattle.std.proofs.Common.{subst, Bool, true, false, true≢false, List, [], length, if◌then◌else◌}
use Rattle.std.specs.Prelude.{nat_lt}
use Rattle.std.proofs.lemmas.Bool.{ltb-false}
use Rattle.wire_message.specs.Content.{Content}
use Rattle.wire_message.specs.Parameters.{Parameters, AreInRange}
use Rattle.part_handlers.specs.declared.table.Entry.{Entry}
use Rattle.part_handlers.specs.Runs.{Meaning}
use Rattle.base_lists.proofs.Put.{put_same}
use Rattle.base_lists.specs.Numbered.{element_at}
use Rattle.spec_node.specs.declared.answer.Asked.{Asked}
use Rattle.spec_node.specs.declared.answer.Asked.TheVariants as asked
use Rattle.spec_node.specs.declared.answer.SlotRef.{SlotRef}
use Rattle.spec_node.specs.declared.answer.Ticked.TheVariants as ticked
use Rattle.spec_node.specs.Behaviour.{Behaviour, Sending}
use Rattle.spec_node.specs.Executed.{run_of}
use Rattle.spec_node.specs.Invariant.{NodeInvariant}
use Rattle.spec_node.specs.NodeStep.{site_of}
use Rattle.spec_node.specs.Record.{Node, Request, Run}
use Rattle.spec_node.specs.Requests.{Due, next_claim}
use Rattle.spec_node.specs.Step.{after_resend, after_sending, after_tick, can_ask, choice_of, is_exhausted, next_due}
use Rattle.spec_node.specs.Step.{request_slot, tick_answer}
use Rattle.spec_node.specs.Under.{under}
use Rattle.node_core.specs.ClientRules.{rules}
use Rattle.node_core.specs.Kept.{IsKept, Local, segment_of}
use Rattle.node_core.specs.Library.{notification_handler}
use Rattle.spec_network.specs.World.{Asks, Does, RequestComes, ReplyComes, Ticks, IsAmong, world_after, world_answer}
use Rattle.spec_network.specs.World.{answer_at, reply_event, request_event}
use Rattle.node_rules.specs.PlainAnswers.{is_plain_answer}
use Rattle.node_rules.proofs.PlainAnswers.{answers_plain}
use Rattle.node_rules.specs.EndpointLocal.{EndpointLocal, IsEndpointKept, core_of}
use Rattle.node_rules.specs.EndpointRules.{OtherCall, OnCore, Records, RecordsEvent}
use Rattle.node_rules.specs.EndpointRules.{asked_answer, does_call, next_sending, sent_as, timed_event, transition}
use Rattle.node_rules.specs.CoreCalls.{OnSegment}
use Rattle.node_rules.specs.TransferCalls.{Caller}
use Rattle.node_rules.proofs.Works.{sending_well}
use Rattle.sim_world.specs.WorldTold.{world_told}
use Rattle.node_rules.specs.Memory.{Show, unless_fault}
use Rattle.node_endpoint.specs.EndpointState.{EndpointState, EndpointStands}
use Rattle.sim_world.specs.Events.{StepsInWorld, job_in}
use Rattle.sim_world.specs.Stands.{WorldStands}
use Rattle.sim_world.specs.WorldState.{WorldState}
use Rattle.node_rules.specs.declared.answer.Answer.{Answer}
use Rattle.node_rules.specs.declared.answer.Answer.TheVariants as answers
use Rattle.node_rules.specs.declared.answer.Local.TheVariants as local
use Rattle.sim_world.specs.declared.event.WorldAnswer.{WorldAnswer}
use Rattle.sim_world.specs.declared.event.WorldAnswer.TheVariants as world_answers
use Rattle.text_script.specs.AnswersTold.{HasNumber, HasRange, NamesItsBytes, NamesWhatIs}
use Rattle.text_script.proofs.SentNumbers.{first_sent_there, resent_there}
use Rattle.sim_run.specs.RunText.{node_of_event}
use Rattle.sim_run.specs.ScheduleRun.{WorldRecords, TellsWhatIs}
use Rattle.node_rules.proofs.CoreKept.{segment_long}

-- ---- no other event is answered as a tick

-- a range that is shown
pub show_names : (endpoint : EndpointState) (size offset len : ℕ) (far : Bool) → nat_lt size (offset + len) ≡ far
    → ((offset + len ≤ size) → HasRange endpoint offset len)
    → NamesItsBytes endpoint
    (unless_fault (if far then Some local.Outside else None) (local.Shown offset len, [])).0
show_names endpoint size offset len true test has = tt
show_names endpoint size offset len false test has = has (ltb-false size (offset + len) test)

-- a plain answer names nothing
pub plain_names : (endpoint : EndpointState) (answer : Answer) → is_plain_answer answer ≡ true
    → NamesWhatIs endpoint answer
plain_names endpoint (answers.Ticked sent) plain = absurd (true≢false (sym plain))
plain_names endpoint (answers.Local (local.Shown offset len)) plain = absurd (true≢false (sym plain))
plain_names endpoint _ plain = tt

-- a call that makes no request, where each range inside the segment is there
call_names : (endpoint : EndpointState) (rules : Behaviour EndpointLocal) (own : Behaviour Local) (caller : Caller)
    (call : OtherCall) (local : EndpointLocal)
    → ((offset len : ℕ) → offset + len ≤ length (segment_of caller.settings local.core) → HasRange endpoint offset len)
    → NamesWhatIs endpoint (does_call rules own caller call local).0
call_names endpoint rules own caller (OnCore (OnSegment (Show offset len))) local has =
    let size = length (segment_of caller.settings local.core) in
    show_names endpoint size offset len (nat_lt size (offset + len)) refl (has offset len)
call_names endpoint rules own caller call local has =
    plain_names endpoint (does_call rules own caller call local).0 (answers_plain rules own caller call local refl)

-- a request
pub asked_names : (endpoint : EndpointState) (answer : Asked) → NamesWhatIs endpoint (asked_answer answer)
asked_names endpoint (asked.Accepted to slot number) = tt
asked_names endpoint asked.Ran = tt
asked_names endpoint (asked.BadArg part) = tt
asked_names endpoint (asked.Forbidden rule) = tt
asked_names endpoint (asked.LockBusy lock) = tt
asked_names endpoint asked.Exhausted = tt
asked_names endpoint asked.NotYet = tt

-- the answer of a node
same_answer : (answer other : Answer) → world_answers.Node answer ≡ world_answers.Node other → answer ≡ other
same_answer answer other same = cc

-- that of a world
told_names : (endpoint : EndpointState) (answer other : Answer) → world_answers.Node answer ≡ world_answers.Node other
    → NamesWhatIs endpoint other → NamesWhatIs endpoint answer
told_names endpoint answer other same names =
    subst (NamesWhatIs endpoint) (sym (same_answer answer other same)) names

-- a request that is delivered
request_names : (endpoint : EndpointState) (meaning : Meaning) (old : WorldState) (records : Records)
    (now from to number : ℕ) (request : Option Request) (answer : Answer)
    → world_answers.Node answer ≡ world_told (answer_at (job_in meaning old) records now
    (request_event old.settings from to number request)) → NamesWhatIs endpoint answer
request_names endpoint meaning old records now from to number None answer same = absurd (cc)
request_names endpoint meaning old records now from to number (Some request) answer same =
    told_names endpoint answer _ same tt

-- a reply that is delivered
reply_names : (endpoint : EndpointState) (meaning : Meaning) (old : WorldState) (records : Records)
    (now from to : ℕ) (run : Option Run) (answer : Answer)
    → world_answers.Node answer ≡ world_told (answer_at (job_in meaning old) records now
    (reply_event old.settings from to run)) → NamesWhatIs endpoint answer
reply_names endpoint meaning old records now from to None answer same = absurd (cc)
reply_names endpoint meaning old records now from to (Some run) answer same =
    told_names endpoint answer _ same tt

-- ---- a tick

-- a notification, or a chunk, of the slot that has it
sent_names : (endpoint : EndpointState) (content : Content) (at : SlotRef) → HasNumber endpoint at
    → NamesWhatIs endpoint (answers.Ticked (sent_as content at))
sent_names endpoint content at has = by_test (content.handler == notification_handler)
  where
    by_test : (test : Bool)
        → NamesWhatIs endpoint (answers.Ticked (if test then ticked.Notification at else ticked.Chunk at))
    by_test true = has
    by_test false = has

-- what is sent goes to a node that can be asked
sent_can : (settings : Parameters) (table : List (Option Entry)) (me : ℕ) (can : ℕ → Bool) (local : EndpointLocal)
    (sending : Sending) → AreInRange settings → IsEndpointKept settings me local
    → next_sending settings me can local ≡ Some sending → can sending.to ≡ true
sent_can settings table me can local sending range kept is =
    (sending_well settings table me can local sending range kept is).0

-- the record of a node of a world that stands
pub record Holds (settings : Parameters) (node : ℕ) (record_ : Node EndpointLocal) : Type 0 where
  pub range : AreInRange settings
  pub core : NodeInvariant settings (IsKept settings) node (under core_of record_)
  pub kept : IsEndpointKept settings node record_.local

-- by what it does
choice_names : (meaning : Meaning) (old : WorldState) (node : ℕ) (record_ : Node EndpointLocal) (now : ℕ)
    (endpoint : EndpointState) (first : Option Due) (next : Option Sending) → Holds old.settings node record_
    → next_due old.settings record_ now ≡ first
    → next_sending old.settings node (can_ask (site_of (job_in meaning old) node) record_) record_.local ≡ next
    → EndpointStands endpoint (after_tick (site_of (job_in meaning old) node) record_ now (choice_of first next))
    → endpoint.core.settings ≡ old.settings → endpoint.core.me ≡ node
    → NamesWhatIs endpoint
    (answers.Ticked (tick_answer (job_in meaning old).behaviour.messages record_ (choice_of first next)))
choice_names meaning old node record_ now endpoint None None holds due goes stands settings me = tt
choice_names meaning old node record_ now endpoint None (Some sending) holds due goes stands settings me =
    let site = site_of (job_in meaning old) node in
    let claim = next_claim (record_.asked sending.to) in
    let can = sent_can old.settings old.table node (can_ask site record_) record_.local sending holds.range holds.kept
    goes in
    sent_names endpoint sending.content (request_slot sending.to claim.slot)
    (record {
      node = after_sending site record_ now sending;
      stands = stands;
      number = claim.number;
      there = rw (settings, me) (first_sent_there site record_ now sending can);
    })
choice_names meaning old node record_ now endpoint (Some due) next holds first goes stands settings me = record {
  node = after_resend record_ now (Some due);
  stands = stands;
  number = due.number;
  there = rw (settings, me)
      (resent_there old.settings (IsKept old.settings) node (under core_of record_) now due holds.core first);
}

-- each node of a world that stands
node_holds : (old : WorldState) (records : Records) (most : ℕ → ℕ) (node : ℕ) → WorldStands old records most
    → node < old.settings.nodes → Holds old.settings node (records node)
node_holds old records most node stands low =
    let it = stands.endpoints node low in
    subst (λ (settings : Parameters). Holds settings node (records node)) it.2.settings_are
    (subst (λ (me : ℕ). Holds it.0.core.settings me (records node)) it.2.me_is (record {
      range = it.3.core.range;
      core = it.3.core.invariant_;
      kept = it.3.kept;
    }))

-- a range inside the segment as it was is inside it as it is
range_there : (settings : Parameters) (me : ℕ) (kept : Local) (endpoint : EndpointState) (after : Node EndpointLocal)
    → IsKept settings me kept → EndpointStands endpoint after → endpoint.core.settings ≡ settings
    → (offset len : ℕ) → offset + len ≤ length (segment_of settings kept) → HasRange endpoint offset len
range_there settings me kept endpoint after holds stands same = λ offset len inside.
    let long = segment_long settings me kept holds in
    let now = segment_long endpoint.core.settings endpoint.core.me after.local.core stands.kept.core in
    record {
      node = after;
      stands = stands;
      inside = rw (now, same) (rw long at inside);
    }

-- ---- any event

-- by the record of its node after it
event_names : (meaning : Meaning) (old : WorldState) (records : Records) (most : ℕ → ℕ) (now : ℕ)
    (event : RecordsEvent) (endpoint : EndpointState) (answer : Answer) → WorldStands old records most
    → IsAmong old.settings event
    → EndpointStands endpoint (world_after (job_in meaning old) records (timed_event now event) (node_of_event event))
    → endpoint.core.settings ≡ old.settings → endpoint.core.me ≡ node_of_event event
    → world_answers.Node answer ≡ world_told (world_answer (job_in meaning old) records (timed_event now event))
    → NamesWhatIs endpoint answer
event_names meaning old records most now (Asks node ask) endpoint answer stood among stands settings me same =
    told_names endpoint answer _ same (asked_names endpoint _)
event_names meaning old records most now (Does node thread call) endpoint answer stood among stands settings me same =
    told_names endpoint answer _ same
    (call_names endpoint (job_in meaning old).behaviour.messages (rules old.settings old.table meaning)
    (record {
      settings = old.settings;
      me = node;
      thread = thread;
      exhausted = is_exhausted old.settings (records node);
    }) call (records node).local
    (range_there old.settings node (records node).local.core endpoint _
    (node_holds old records most node stood among).core.kept stands settings))
event_names meaning old records most now (RequestComes from to number) endpoint answer stood among stands settings me
    same =
    request_names endpoint meaning old records now from to number (element_at ((records from).asked to) number) answer
    same
event_names meaning old records most now (ReplyComes from to number) endpoint answer stood among stands settings me
    same =
    reply_names endpoint meaning old records now from to (run_of number ((records to).ran from)) answer same
event_names meaning old records most now (Ticks node) endpoint answer stood among stands settings me same =
    told_names endpoint answer _ same
    (choice_names meaning old node (records node) now endpoint (next_due old.settings (records node) now)
    (next_sending old.settings node (can_ask (site_of (job_in meaning old) node) (records node)) (records node).local)
    (node_holds old records most node stood among) refl refl
    (subst (EndpointStands endpoint) (put_same records node _) stands) settings me)

-- an answer of a world that stood
pub step_names : (meaning : Meaning) (old new : WorldState) (now : ℕ) (event : RecordsEvent) (answer : WorldAnswer)
    → WorldRecords old → IsAmong old.settings event → new.settings ≡ old.settings
    → StepsInWorld meaning old (transition now event answer) new → TellsWhatIs new (node_of_event event) answer
step_names meaning old new now event (world_answers.Node answer) stood among same steps = λ endpoint is stands.
    let it = steps stood.records stood.most stood.stands in
    event_names meaning old stood.records stood.most now event endpoint answer stood.stands among
    (stands (world_after (job_in meaning old) stood.records (timed_event now event)) _ it.1)
    (is.settings_are ∙ same) is.me_is it.0
step_names meaning old new now event world_answers.Unsent stood among same steps = tt
step_names meaning old new now event world_answers.NoMemory stood among same steps = tt
