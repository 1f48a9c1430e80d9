-- The library's own messages: when they are refused, as the code finds it, and what their runs are.
use Rattle.std.proofs.Common.{ℕ, ◌≡◌, ◌-◌, ◌<◌, ◌≤◌, List, [], ◌∷◌, Option, Some, None, Bool, true, false}
use Rattle.std.proofs.Common.{inl, inr, refl, sym, ap, ◌∙◌, subst, arith, length, true≢false}
use Rattle.std.specs.Prelude.{◌==◌, ◌||◌, not, if◌then◌else◌}
use Rattle.std.proofs.lemmas.Bool.Decides.{nat_tests}
use Rattle.std.proofs.lemmas.Bool.{cases_Bool, eqb-true, le-leb, lt-leb}
use Rattle.wire_message.specs.Parameters.{Parameters, AreInRange}
use Rattle.wire_message.specs.Content.{Content, code, is_ack, is_request, is_version}
use Rattle.wire_message.specs.declared.kind.Kind.{Kind}
use Rattle.wire_message.specs.declared.kind.Kind.TheVariants as kind
use Rattle.wire_message.specs.declared.notification.BarrierNotification.{BarrierNotification}
use Rattle.wire_message.specs.Notifications.{IsNotification, most_nodes, notification_arguments, argument}
use Rattle.wire_message.proofs.Notified.{joined_again, mask_again, each_version}
use Rattle.part_handlers.specs.declared.table.Entry.{Entry}
use Rattle.part_handlers.specs.Registered.{entry_at, is_for_requests, is_for_replies}
use Rattle.part_handlers.specs.Runs.{passes_end}
use Rattle.spec_node.specs.declared.answer.SlotRef.{SlotRef}
use Rattle.spec_node.specs.declared.answer.Delivered.TheVariants as delivered
use Rattle.spec_node.specs.declared.answer.Why.{Why}
use Rattle.spec_node.specs.declared.answer.Why.TheVariants as why
use Rattle.spec_node.specs.Step.{address_fault, first_why, reply_slot}
use Rattle.node_core.specs.Library.{is_library, has_library, has_wrong_args, library_refusal, notification_said, natural}
use Rattle.node_core.specs.Library.{get_handler, memset_handler, notification_handler, run_answer}
use Rattle.node_core.specs.ClientRules.{content_refusal, client_refusal, is_handled, has_handler}
use Rattle.node_core.specs.Library.{library_outcome, library_reply, library_writes, filling, fill_said}
use Rattle.node_core.specs.CoreStep.{library_fault, client_delivered, delivered_outcome, landed_core, lock_at, start_at}
use Rattle.node_core.specs.CoreStep.{DeliversMessage, IsNewRequest, IsOurReply, KeepsAnswer, Runs, RunsBy, RunsNew}
use Rattle.part_window.specs.SlotsState.{SlotsState}
use Rattle.node_core.specs.CoreStep.{CanRunReply}
use Rattle.node_core.specs.CoreStep.{handlers_at, message_refusal, with_client_reply_ran, with_outcome, with_reply_ran}
use Rattle.node_core.specs.CoreState.{CoreState}
use Rattle.part_window.specs.RepliesState.{RepliesState}
use Rattle.part_segment.proofs.Images.{length-written_by}
use Rattle.node_core.proofs.Deliveries.{message_fits}
use Rattle.node_core.specs.HandlerRuns.{client_outcome, landing, reply_or_ack}
use Rattle.wire_message.specs.Message.{Message}
use Rattle.wire_message.specs.Content.{content_of}
use Rattle.part_segment.specs.Image.{Write, written_by}
use Rattle.part_handlers.specs.declared.rules.Role.TheVariants as role
use Rattle.part_handlers.specs.Runs.{Meaning, Outcome}
use Rattle.spec_node.specs.Behaviour.{Contact}
use Rattle.spec_node.specs.declared.answer.Delivered.{Delivered}
use Rattle.node_core.proofs.Landings.{client_request, client_reply, ack_short, library_taken}

-- ---- refusals

-- where a place passes the end
abbrev pub range_refusal : Parameters → Content → Option Why
range_refusal settings content = if passes_end settings.segment content then Some why.Range else None

-- a content for which a handler of its role is registered has an index of a client's
handler_client : (table : List (Option Entry)) (content : Content) → has_handler table content ≡ true
    → is_library content.handler ≡ false
handler_client table content registered = by_role (is_request content.kind) registered
  where
    by_role : (asks : Bool) → (if asks then is_for_requests (entry_at table content.handler)
        else is_for_replies (entry_at table content.handler)) ≡ true
        → is_library content.handler ≡ false
    by_role true registered = client_request table content.handler registered
    by_role false registered = client_reply table content.handler registered

-- a content for which there is a handler of a client, or none is needed, is refused for its place alone
pub handled_refusal : (settings : Parameters) (table : List (Option Entry)) (content : Content)
    → is_handled table content ≡ true → content_refusal settings table content ≡ range_refusal settings content
handled_refusal settings table content handled =
    by_index (is_library content.handler) (is_ack (code content.kind)) refl refl
  where
    clients : client_refusal settings table content ≡ range_refusal settings content
    clients = ap (λ (is : Bool). if is then range_refusal settings content else Some why.Handler) handled

    by_index : (own acks : Bool) → is_library content.handler ≡ own → is_ack (code content.kind) ≡ acks
        → (if own then library_refusal settings content else client_refusal settings table content)
        ≡ range_refusal settings content
    by_index false acks own is = clients
    by_index true true own is =
        ap (λ (test : Bool). if test then None else first_own) is ∙ sym (rw (ack_short content.kind is) refl)
      where
        first_own : Option Why
        first_own = if not (has_library content.kind content.handler) then Some why.Handler
            else (if has_wrong_args settings content.handler content.args then Some why.Args
            else (if passes_end settings.segment content then Some why.Range
            else None))
    by_index true false own is =
        let registered : has_handler table content ≡ true =
        ap (λ (acks : Bool). acks || has_handler table content) (sym is) ∙ handled in
        absurd (true≢false (sym own ∙ handler_client table content registered))

-- a client's index is none of the library's handlers
no_library : (one : Kind) (index : ℕ) → is_library index ≡ false → has_library one index ≡ false
no_library kind.ShortRequest index client = grind (arith, nat_tests)
no_library kind.MediumRequest index client = refl
no_library kind.LongRequest index client = grind (arith, nat_tests)
no_library kind.ShortReply index client = refl
no_library kind.MediumReply index client = refl
no_library kind.LongReply index client = grind (arith, nat_tests)
no_library kind.Ack index client = refl

-- other contents are refused for what is wrong with them as the library's, and then for their place
pub unhandled_refusal : (settings : Parameters) (table : List (Option Entry)) (content : Content)
    → is_handled table content ≡ false
    → content_refusal settings table content ≡ first_why (library_fault settings content)
    (range_refusal settings content)
unhandled_refusal settings table content none =
    by_index (is_library content.handler) refl
  where
    no_ack : is_ack (code content.kind) ≡ false
    no_ack = by_test (is_ack (code content.kind)) (has_handler table content) none
      where
        by_test : (acks has : Bool) → (acks || has) ≡ false → acks ≡ false
        by_test true has none = absurd (true≢false none)
        by_test false has none = refl

    by_tests : (known wrong : Bool) → (range : Option Why)
        → (if not known then Some why.Handler else (if wrong then Some why.Args else range))
        ≡ first_why (if not known then Some why.Handler else (if wrong then Some why.Args else None)) range
    by_tests true true range = refl
    by_tests true false range = refl
    by_tests false wrong range = refl

    by_index : (own : Bool) → is_library content.handler ≡ own
        → (if own then library_refusal settings content else client_refusal settings table content)
        ≡ first_why (library_fault settings content) (range_refusal settings content)
    by_index true own =
        rw no_ack (by_tests (has_library content.kind content.handler)
        (has_wrong_args settings content.handler content.args) (range_refusal settings content))
    by_index false client =
        ap (λ (is : Bool). if is then range_refusal settings content else Some why.Handler) none
        ∙ sym (ap (λ (known : Bool). first_why (if not known then Some why.Handler
        else (if has_wrong_args settings content.handler content.args then Some why.Args else None))
        (range_refusal settings content)) (no_library content.kind content.handler client))

-- ---- notes

-- a job has no more nodes than a notification of its version can name
pub nodes_few : (settings : Parameters) → AreInRange settings → settings.nodes ≤ most_nodes settings.version
nodes_few settings range = elim (cases_Bool (settings.version == 1)) [
  | inl first ↦ rw first (range.nodes_at_first (eqb-true settings.version 1 first))
  | inr second ↦ rw second range.nodes
]

-- a notification among the nodes is read as it was sent
pub notification_again : (version nodes : ℕ) (notification : BarrierNotification) → is_version version ≡ true → nodes ≤ most_nodes version
    → IsNotification nodes notification → notification_said version (notification_arguments version notification) ≡ notification
notification_again version nodes notification known few is =
    let args = notification_arguments version notification in
    let id : argument args (length args - 2) ≡ notification.id = each_version
    (λ v. argument (notification_arguments v notification) (length (notification_arguments v notification) - 2) ≡ notification.id) version known refl refl in
    let flags : natural (argument args (length args - 1)) ≡ notification.flags = each_version
    (λ v. natural (argument (notification_arguments v notification) (length (notification_arguments v notification) - 1)) ≡ notification.flags) version known
    refl refl in
    λ i. record {
      phase = joined_again notification.phase is.phase i;
      mask = mask_again version nodes notification known few is.mask i;
      id = id i;
      flags = flags i;
    }

-- the run of a notification is told with it
pub noted_answer : (settings : Parameters) (content : Content) (at : SlotRef) (notification : BarrierNotification)
    → AreInRange settings → content.handler ≡ notification_handler → IsNotification settings.nodes notification
    → content.args ≡ notification_arguments settings.version notification
    → delivered.Notified at notification ≡ run_answer settings.version content at
noted_answer settings content at notification range handler is args =
    let read : notification_said settings.version content.args ≡ notification = ap (notification_said settings.version) args
    ∙ notification_again settings.version settings.nodes notification range.version (nodes_few settings range) is in
    sym (ap (λ (index : ℕ). if index == notification_handler then delivered.Notified at (notification_said settings.version content.args)
    else delivered.Ran at) handler ∙ ap (delivered.Notified at) read)

-- ---- runs

-- what a run of a client's handler gives
client_run : (meaning : Meaning) (core : CoreState) (message : Message) → is_library message.handler ≡ false
    → client_delivered meaning core message ≡ delivered_outcome meaning core message
client_run meaning core message client =
    let content = content_of message in
    sym (ap (λ (own : Bool). if own then library_outcome content (start_at (landed_core core content))
    else client_delivered meaning core message) client)

-- a client's handler ran
pub client_runs_new : (meaning : Meaning) (core : CoreState) (message : Message) (new : CoreState)
    → IsNewRequest core message → lock_at core message ≡ None → 127 < message.handler
    → RunsBy (client_delivered meaning core message) core message new
    → RunsNew meaning core message (delivered.Ran (reply_slot message.from message.slot)) new
client_runs_new meaning core message new request free high ran = record {
  request = request;
  free = free;
  answer_is =
      let other : (message.handler == notification_handler) ≡ false = grind (arith, nat_tests) in
      let at = reply_slot message.from message.slot in
      sym (ap (λ (noted : Bool). if noted then delivered.Notified at (notification_said core.settings.version message.args)
      else delivered.Ran at) other);
  ran =
      let client : is_library message.handler ≡ false = grind (arith, nat_tests) in
      subst (λ (run : Outcome). RunsBy run core message new) (client_run meaning core message client) ran;
}

-- the reply of the library is the same before and after what its run writes
reply_alike : (content : Content) (bytes : List ℕ)
    → library_reply (written_by bytes (library_writes content)) content ≡ library_reply bytes content
reply_alike content bytes = elim (cases_Bool (content.handler == get_handler)) [
  | inl is ↦ (let same : content.handler ≡ get_handler = eqb-true content.handler get_handler is in
      let writes : library_writes content ≡ [] = ap
      (λ (index : ℕ). if index == memset_handler then filling (fill_said content.args) ∷ [] else []) same in
      ap (λ (those : List Write). library_reply (written_by bytes those) content) writes)
  | inr other ↦ rw other refl
]

-- the core after a request of the library landed and wrote
abbrev pub library_written : CoreState → Content → CoreState
library_written core content =
    record core { segment = written_by (written_by core.segment (landing content)) (library_writes content) }

-- a handler of the library ran
library_runs : (meaning : Meaning) (core : CoreState) (message : Message) (new : CoreState)
    → is_library message.handler ≡ true
    → KeepsAnswer (library_written core (content_of message)) message
    (reply_or_ack (library_reply (library_written core (content_of message)).segment (content_of message))) new
    → Runs meaning core message new
library_runs meaning core message new own kept =
    let content = content_of message in
    let landed = landed_core core content in
    let given : library_outcome content (start_at landed) ≡ delivered_outcome meaning core message =
    sym (ap (λ (is : Bool). if is then library_outcome content (start_at landed)
    else client_delivered meaning core message) own) in
    let alike = subst (λ (reply : Option Content). KeepsAnswer (library_written core content) message
    (reply_or_ack reply) new) (reply_alike content landed.segment) kept in
    subst (λ (run : Outcome). RunsBy run core message new) given
    (record { spelled = alike.spelled; kept = alike.kept })

-- a request that ran is answered as its run is
delivers_new : (meaning : Meaning) (core : CoreState) (message : Message) (answer : Delivered) (new : CoreState)
    → RunsNew meaning core message answer new → DeliversMessage meaning core message answer new
delivers_new meaning core message answer new ran =
    subst (λ (one : Delivered). RunsNew meaning core message one new → DeliversMessage meaning core message one new)
    (sym ran.answer_is) (by_notification (message.handler == notification_handler)) ran
  where
    by_notification : (noted : Bool)
        → RunsNew meaning core message (if noted
        then delivered.Notified (reply_slot message.from message.slot) (notification_said core.settings.version message.args)
        else delivered.Ran (reply_slot message.from message.slot)) new
        → DeliversMessage meaning core message (if noted
        then delivered.Notified (reply_slot message.from message.slot) (notification_said core.settings.version message.args)
        else delivered.Ran (reply_slot message.from message.slot)) new
    by_notification true ran = ran
    by_notification false ran = ran

-- a request of the library that is new in its slot
pub library_delivers : (meaning : Meaning) (core : CoreState) (message : Message) (answer : Delivered) (new : CoreState)
    → IsNewRequest core message → lock_at core message ≡ None → message.handler ≤ 127
    → KeepsAnswer (library_written core (content_of message)) message
    (reply_or_ack (library_reply (library_written core (content_of message)).segment (content_of message))) new
    → answer ≡ run_answer core.settings.version (content_of message) (reply_slot message.from message.slot)
    → DeliversMessage meaning core message answer new
library_delivers meaning core message answer new request free low kept answer_is =
    let own : is_library message.handler ≡ true = le-leb message.handler 127 low in
    delivers_new meaning core message answer new (record {
      request = request;
      free = free;
      answer_is = answer_is;
      ran = library_runs meaning core message new own kept;
    })

-- where bytes were written and replies kept, the same messages are refused
pub same_refusal : (core : CoreState) (message : Message) (segment : List ℕ) (replies : RepliesState)
    → message_refusal core message ≡ None
    → message_refusal (record core { segment = segment; replies = replies }) message ≡ None
unfolding message_refusal
same_refusal core message segment replies none = none

-- a request of the library that is new in its slot still is so after its run wrote
pub written_new : (core : CoreState) (message : Message) → IsNewRequest core message
    → IsNewRequest (library_written core (content_of message)) message
written_new core message request = record {
  ours = record {
    ours = same_refusal core message (library_written core (content_of message)).segment core.replies
        request.ours.ours;
    known = record {
      to = request.ours.known.to;
      from = request.ours.known.from;
      slot = request.ours.known.slot;
      placed = request.ours.known.placed;
    };
    request = request.ours.request;
    spelled = request.ours.spelled;
  };
  new = request.new;
}

-- the segment is then as long as before
pub written_sized : (core : CoreState) (message : Message) → IsNewRequest core message
    → length core.segment ≡ core.settings.segment
    → length (library_written core (content_of message)).segment ≡ core.settings.segment
written_sized core message request sized =
    let content = content_of message in
    let stays = message_fits core message request.ours.spelled request.ours.ours in
    length-written_by core.settings.segment (written_by core.segment (landing content)) (library_writes content)
    (length-written_by core.settings.segment core.segment (landing content) sized stays.landed) stays.written

-- ---- replies

-- where slots were freed, the same messages are refused
freed_refusal : (core : CoreState) (message : Message) (requests : SlotsState) → message_refusal core message ≡ None
    → message_refusal (record core { requests = requests }) message ≡ None
unfolding message_refusal
freed_refusal core message requests none = none

-- a reply can run after its request's slot is free
pub freed_can_run : (core inside : CoreState) (message : Message) (requests : SlotsState) → inside ≡ core
    → IsOurReply core message → is_ack (code message.kind) ≡ false → lock_at core message ≡ None
    → CanRunReply (record inside { requests = requests }) message
freed_can_run core inside message requests view ours runs free =
    subst (λ (one : CoreState). CanRunReply (record one { requests = requests }) message) (sym view) (record {
      ours = record {
        ours = freed_refusal core message requests ours.ours;
        known = record {
          to = ours.known.to;
          from = ours.known.from;
          slot = ours.known.slot;
          placed = ours.known.placed;
        };
        reply = ours.reply;
        spelled = ours.spelled;
      };
      runs = runs;
      free = free;
    })

-- a reply for a client's handler ran
pub client_reply_ran : (meaning : Meaning) (core : CoreState) (contact : Contact) (content : Content)
    → 127 < content.handler
    → with_client_reply_ran meaning core contact content ≡ with_reply_ran meaning core contact content
client_reply_ran meaning core contact content high =
    let client : is_library content.handler ≡ false = lt-leb content.handler 127 high in
    let landed = landed_core core content in
    sym (ap (λ (own : Bool). with_outcome landed role.Reply
    (if own then library_outcome content (start_at landed)
    else client_outcome (handlers_at meaning landed) role.Reply contact content (start_at landed))) client)

-- a reply of the library's has no range to fill
no_filling : (one : Kind) (index : ℕ) → is_request one ≡ false → is_ack (code one) ≡ false
    → has_library one index ≡ true → (index == memset_handler) ≡ false
no_filling kind.ShortRequest index reply other known = absurd (true≢false reply)
no_filling kind.MediumRequest index reply other known = absurd (true≢false reply)
no_filling kind.LongRequest index reply other known = absurd (true≢false reply)
no_filling kind.ShortReply index reply other known = absurd (true≢false (sym known))
no_filling kind.MediumReply index reply other known = absurd (true≢false (sym known))
no_filling kind.LongReply index reply other known = ap (λ (one : ℕ). one == memset_handler) (eqb-true index 68 known)
no_filling kind.Ack index reply other known = absurd (true≢false other)

-- what a message says isn't refused where the message isn't
pub content_accepted : (core : CoreState) (message : Message) → message_refusal core message ≡ None
    → content_refusal core.settings core.table (content_of message) ≡ None
unfolding message_refusal
content_accepted core message none =
    second (address_fault core.settings core.me message)
    (content_refusal core.settings core.table (content_of message)) none
  where
    second : (first rest : Option Why) → first_why first rest ≡ None → rest ≡ None
    second None rest is = is
    second (Some reason) rest is = absurd (cc)

-- a reply of the library's ran: its payload landed
pub library_reply_ran : (meaning : Meaning) (core : CoreState) (contact : Contact) (message : Message)
    → IsOurReply core message → is_ack (code message.kind) ≡ false → message.handler ≤ 127
    → landed_core core (content_of message) ≡ with_reply_ran meaning core contact (content_of message)
library_reply_ran meaning core contact message ours other low =
    let content = content_of message in
    let own : is_library content.handler ≡ true = le-leb message.handler 127 low in
    let landed = landed_core core content in
    let none : library_refusal core.settings content ≡ None =
    sym (ap (λ (is : Bool). if is then library_refusal core.settings content
    else client_refusal core.settings core.table content) own) ∙ content_accepted core message ours.ours in
    let taken = library_taken core.settings content none other in
    let writes : library_writes content ≡ [] =
    ap (λ (fills : Bool). if fills then filling (fill_said content.args) ∷ [] else [])
    (no_filling content.kind content.handler ours.reply other taken.known) in
    sym (ap (λ (is : Bool). with_outcome landed role.Reply (if is then library_outcome content (start_at landed)
    else client_outcome (handlers_at meaning landed) role.Reply contact content (start_at landed))) own
    ∙ ap (λ (those : List Write). record landed { segment = written_by landed.segment those }) writes)
