-- The rules of two versions do the same with contents that are spelled as each has them.
use Rattle.std.proofs.Common.{◌≡◌, ℕ, ◌≤◌, ◌==◌, Bool, true, false, true≢false, List, ℤ}
use Rattle.std.proofs.Common.{Option, None, Some, refl, sym, ap, ◌∙◌, subst, inl, inr, eqb-true}
use Rattle.std.specs.Prelude.{if◌then◌else◌, is_none, option_map, ◌&&◌}
use Rattle.std.proofs.lemmas.Bool.{cases_Bool, and_parts}
use Rattle.wire_message.specs.Content.{Content, is_request, is_ack, code, is_version}
use Rattle.wire_message.specs.Parameters.{Parameters, AreInRange}
use Rattle.wire_message.specs.Notifications.{IsNotification, notification_arguments, most_nodes, is_no_notification}
use Rattle.wire_message.specs.declared.kind.Kind.{Kind}
use Rattle.wire_message.specs.declared.kind.Kind.TheVariants as kind
use Rattle.wire_message.specs.declared.notification.BarrierNotification.{BarrierNotification}
use Rattle.wire_message.proofs.Notified.{not_refused}
use Rattle.part_handlers.specs.declared.table.Entry.{Entry}
use Rattle.part_handlers.specs.declared.rules.Role.{Role}
use Rattle.part_handlers.specs.declared.rules.Role.TheVariants as role
use Rattle.part_handlers.specs.Runs.{Meaning, Start, Outcome, after_return}
use Rattle.part_handlers.specs.Registered.{entry_at, is_for_requests}
use Rattle.part_barrier.specs.Record.{SentNotification, BarrierRecord, hear}
use Rattle.node_rules.specs.BarrierCalls.{has_ranges}
use Rattle.part_transfers.specs.declared.operation.Next.{Next}
use Rattle.part_transfers.specs.declared.operation.Transfer.{Transfer}
use Rattle.part_transfers.specs.declared.operation.Transfer.TheVariants as transfers
use Rattle.part_transfers.specs.Operation.{target, next_chunk}
use Rattle.spec_node.specs.Behaviour.{Asking, Contact, Sending, Category, Short, Medium, Long, asks_well}
use Rattle.spec_node.specs.Behaviour.{replies_well}
use Rattle.spec_node.specs.declared.answer.SlotRef.{SlotRef}
use Rattle.part_handlers.specs.declared.lock_answer.Held.{Held}
use Rattle.base_lists.proofs.Cases.{none_some, none_is}
use Rattle.part_transfers.specs.Operation.{come_back}
use Rattle.node_rules.specs.CoreCalls.{LocalCall, Poll}
use Rattle.node_core.specs.Kept.{Local, segment_of, start_from, with_writes}
use Rattle.node_core.specs.Library.{notification_handler, notification_said, is_library, has_library, Notification}
use Rattle.node_core.specs.Library.{run_answer, work_content}
use Rattle.node_core.specs.ClientRules.{content_by, payload_in, content_refusal, asking_fault, awaited_lock}
use Rattle.node_core.specs.HandlerRuns.{handlers_of, NodeHandlers, frame_of_run, landing, outcome, left_by_run}
use Rattle.node_core.specs.HandlerRuns.{reply_or_ack}
use Rattle.node_core.specs.HandlerRuns.{run_request, run_reply}
use Rattle.node_core.proofs.LibraryLaws.{notification_again, nodes_few}
use Rattle.node_core.proofs.Landings.{client_request}
use Rattle.node_rules.specs.EndpointLocal.{EndpointLocal, IsEndpointKept}
use Rattle.node_rules.specs.EndpointRules.{OtherCall, OnCore, OnTransfers, OnBarrier, all_rules, next_sending}
use Rattle.node_rules.specs.EndpointRules.{next_notification}
use Rattle.node_rules.specs.EndpointRules.{notification_first, sending_of, chunk_work, after_notification, after_sent, sent_as}
use Rattle.node_rules.proofs.Handled.{asking_well, well_is, asks_no_ack}
use Rattle.node_rules.proofs.Works.{notification_work_fits}
use Rattle.node_rules.proofs.Sending.{IsSent, IsNotification as SendsNotification, IsChunk as SendsChunk, sending_is, chunk_no_notification}
use Rattle.sim_versions.specs.Respelled.{AgreeOn, IgnoresVersion, IsNotificationIfAny, spelled_as, respell_sending}

-- the settings with another version
abbrev in_version : Parameters → (version : ℕ) → Parameters
in_version settings version = record settings { version = version }

-- ---- how contents are spelled

pub spelled_other : (one other : ℕ) (content : Content) → (content.handler == notification_handler) ≡ false
    → spelled_as one other content ≡ content
spelled_other one other content client = rw client refl

spelled_notification : (one other : ℕ) (content : Content) → (content.handler == notification_handler) ≡ true
    → spelled_as one other content ≡ record content { args = notification_arguments other (notification_said one content.args) }
spelled_notification one other content notification = rw notification refl

kind_alike : (one other : ℕ) (content : Content) → (spelled_as one other content).kind ≡ content.kind
kind_alike one other content = elim (cases_Bool (content.handler == notification_handler)) [
  | inl notification ↦ rw notification refl
  | inr client ↦ rw client refl
]

-- ---- notes

-- a notification that a request spells, and its spelling by the other version
record IsRead (settings : Parameters) (version : ℕ) (content : Content) : Type 0 where
  notification : BarrierNotification
  is : IsNotification settings.nodes notification
  one : notification_said settings.version content.args ≡ notification
  other : notification_said version (notification_arguments version (notification_said settings.version content.args)) ≡ notification

read_notification : (settings : Parameters) (version : ℕ) (content : Content) → AreInRange settings → is_version version ≡ true
    → settings.nodes ≤ most_nodes version → content.handler ≡ notification_handler → IsNotificationIfAny settings content
    → IsRead settings version content
read_notification settings version content range known few handler noted =
    let it = noted handler in
    let one : notification_said settings.version content.args ≡ it.0 =
    ap (notification_said settings.version) it.2
    ∙ notification_again settings.version settings.nodes it.0 range.version (nodes_few settings range) it.1
    in
    record {
      notification = it.0;
      is = it.1;
      one = one;
      other = ap (λ (notification : BarrierNotification). notification_said version (notification_arguments version notification)) one
          ∙ notification_again version settings.nodes it.0 known few it.1;
    }

-- ---- runs

-- the run of a handler for the same content
outcome_alike : (settings : Parameters) (version : ℕ) (table : List (Option Entry)) (meaning : Meaning)
    → IgnoresVersion version meaning → (which : Role) (contact : Contact) (content : Content) (start : Start)
    → outcome (handlers_of (in_version settings version) table meaning) which contact content start
    ≡ outcome (handlers_of settings table meaning) which contact content start
outcome_alike settings version table meaning ignores which contact content start =
    let frame = frame_of_run (handlers_of settings table meaning) which contact content in
    elim (cases_Bool (is_library content.handler)) [
      | inl own ↦ rw own refl
      | inr client ↦ rw client (ap (after_return frame) (ignores content.handler frame start))
    ]

run_alike : (settings : Parameters) (version : ℕ) (table : List (Option Entry)) (meaning : Meaning)
    → IgnoresVersion version meaning → (contact : Contact) (content : Content) (local : Local)
    → run_request (handlers_of (in_version settings version) table meaning) contact content local
    ≡ run_request (handlers_of settings table meaning) contact content local
run_alike settings version table meaning ignores contact content local =
    let landed = with_writes local (landing content) in
    ap (λ (o : Outcome). (left_by_run role.Request o landed, reply_or_ack o.reply))
    (outcome_alike settings version table meaning ignores role.Request contact content (start_from settings landed))

take_alike : (settings : Parameters) (version : ℕ) (table : List (Option Entry)) (meaning : Meaning)
    → IgnoresVersion version meaning → (contact : Contact) (content : Content) (local : Local)
    → run_reply (handlers_of (in_version settings version) table meaning) contact content local
    ≡ run_reply (handlers_of settings table meaning) contact content local
take_alike settings version table meaning ignores contact content local =
    let landed = with_writes local (landing content) in
    ap (λ (o : Outcome). if is_ack (code content.kind) then local else left_by_run role.Reply o landed)
    (outcome_alike settings version table meaning ignores role.Reply contact content (start_from settings landed))

-- the run of a notification, whatever its arguments
notification_outcome : (handlers : NodeHandlers) (which : Role) (contact : Contact) (content : Content) (args : List ℤ)
    (start : Start)
    → (content.handler == notification_handler) ≡ true
    → outcome handlers which contact (record content { args = args }) start ≡ outcome handlers which contact content
    start
notification_outcome handlers which contact content args start notification =
    rw (eqb-true content.handler notification_handler notification) refl

notification_runs : (handlers : NodeHandlers) (contact : Contact) (content : Content) (args : List ℤ) (local : Local)
    → (content.handler == notification_handler) ≡ true
    → run_request handlers contact (record content { args = args }) local ≡ run_request handlers contact content local
notification_runs handlers contact content args local notification =
    let landed = with_writes local (landing content) in
    ap (λ (o : Outcome). (left_by_run role.Request o landed, reply_or_ack o.reply))
    (notification_outcome handlers role.Request contact content args (start_from handlers.settings landed) notification)

core_runs : (settings : Parameters) (version : ℕ) (table : List (Option Entry)) (meaning : Meaning)
    → IgnoresVersion version meaning → (contact : Contact) (content : Content) (local : Local)
    → run_request (handlers_of (in_version settings version) table meaning) contact
    (spelled_as settings.version version content) local
    ≡ run_request (handlers_of settings table meaning) contact content local
core_runs settings version table meaning ignores contact content local =
    elim (cases_Bool (content.handler == notification_handler)) [
      | inl notification ↦
          ap (λ c. run_request (handlers_of (in_version settings version) table meaning) contact c local)
          (spelled_notification settings.version version content notification)
          ∙ (notification_runs (handlers_of (in_version settings version) table meaning) contact content
          (notification_arguments version (notification_said settings.version content.args)) local notification
          ∙ run_alike settings version table meaning ignores contact content local)
      | inr other ↦
          ap (λ c. run_request (handlers_of (in_version settings version) table meaning) contact c local)
          (spelled_other settings.version version content other)
          ∙ run_alike settings version table meaning ignores contact content local
    ]

-- what a notification tells the barrier, where it is heard
abbrev told_by : (handler : ℕ) → BarrierRecord → BarrierNotification → BarrierRecord
told_by handler barrier notification = if (handler == notification_handler) && has_ranges notification then hear barrier notification else barrier

-- what a request tells the barrier
noted_alike : (settings : Parameters) (version : ℕ) (content : Content) (barrier : BarrierRecord) → AreInRange settings
    → is_version version ≡ true → settings.nodes ≤ most_nodes version → IsNotificationIfAny settings content
    → after_notification (in_version settings version) (spelled_as settings.version version content) barrier
    ≡ after_notification settings content barrier
noted_alike settings version content barrier range known few noted =
    elim (cases_Bool (content.handler == notification_handler)) [
      | inl notification ↦
          let read = read_notification settings version content range known few (eqb-true content.handler notification_handler notification)
          noted in
          ap (λ c. after_notification (in_version settings version) c barrier) (spelled_notification settings.version version content notification)
          ∙ ap (told_by content.handler barrier) (read.other ∙ sym read.one)
      | inr other ↦
          ap (λ c. after_notification (in_version settings version) c barrier)
          (spelled_other settings.version version content other)
          ∙ (ap (λ (is : Bool). if is && has_ranges (notification_said version content.args)
          then hear barrier (notification_said version content.args) else barrier) other
          ∙ sym (ap (λ (is : Bool). if is && has_ranges (notification_said settings.version content.args)
          then hear barrier (notification_said settings.version content.args) else barrier) other))
    ]

-- how a run is answered
answered_alike : (settings : Parameters) (version : ℕ) (content : Content) (at : SlotRef) → AreInRange settings
    → is_version version ≡ true → settings.nodes ≤ most_nodes version → IsNotificationIfAny settings content
    → run_answer version (spelled_as settings.version version content) at ≡ run_answer settings.version content at
answered_alike settings version content at range known few noted = elim (cases_Bool (content.handler == notification_handler)) [
  | inl notification ↦
      let read = read_notification settings version content range known few (eqb-true content.handler notification_handler notification)
      noted in
      let same : notification_said version (notification_arguments version (notification_said settings.version content.args))
      ≡ notification_said settings.version content.args = read.other ∙ sym read.one in
      rw (spelled_notification settings.version version content notification) (rw same refl)
  | inr other ↦ rw (spelled_other settings.version version content other) (rw other refl)
]

-- ---- refusals

-- what the library takes of a notification is a Short request
short_is : (k : Kind) → has_library k notification_handler ≡ true → k ≡ kind.ShortRequest
short_is kind.ShortRequest e = refl
short_is kind.MediumRequest e = absurd (true≢false (sym e))
short_is kind.LongRequest e = absurd (true≢false (sym e))
short_is kind.ShortReply e = absurd (true≢false (sym e))
short_is kind.MediumReply e = absurd (true≢false (sym e))
short_is kind.LongReply e = absurd (true≢false (sym e))
short_is kind.Ack e = absurd (true≢false (sym e))

-- contents that aren't notes are refused alike
client_alike : (settings : Parameters) (version : ℕ) (table : List (Option Entry)) (content : Content)
    → (content.handler == notification_handler) ≡ false
    → content_refusal (in_version settings version) table content ≡ content_refusal settings table content
client_alike settings version table content other = rw other refl

asks_alike : (settings : Parameters) (version : ℕ) (table : List (Option Entry)) (content : Content)
    → AreInRange settings
    → is_version version ≡ true → settings.nodes ≤ most_nodes version → IsNotificationIfAny settings content
    → asks_well (content_refusal settings table) content ≡ true
    → content_refusal (in_version settings version) table (spelled_as settings.version version content) ≡ None
asks_alike settings version table content range known few noted well =
    let parts = and_parts (is_request content.kind) (is_none (content_refusal settings table content)) well in
    elim (cases_Bool (content.handler == notification_handler)) [
      | inl notification ↦
          let handler : content.handler ≡ notification_handler = eqb-true content.handler notification_handler notification in
          let is = well_is settings table content (asks_no_ack content.kind parts.0) parts.1 in
          let taken = is.right (ap is_library handler) in
          let short : content.kind ≡ kind.ShortRequest =
          short_is content.kind (ap (has_library content.kind) (sym handler) ∙ taken.known) in
          let read = read_notification settings version content range known few handler noted in
          let args : is_no_notification version settings.nodes
          (notification_arguments version (notification_said settings.version content.args)) ≡ false =
          ap (λ (n : BarrierNotification). is_no_notification version settings.nodes (notification_arguments version n)) read.one
          ∙ not_refused version settings.nodes read.notification known few read.is in
          rw (spelled_notification settings.version version content notification) (rw handler (rw short (rw args refl)))
      | inr other ↦
          ap (content_refusal (in_version settings version) table)
          (spelled_other settings.version version content other)
          ∙ (client_alike settings version table content other
          ∙ none_is (content_refusal settings table content) parts.1)
    ]

-- a reply is never one of the library's notes
reply_alike : (settings : Parameters) (version : ℕ) (table : List (Option Entry)) (content : Content)
    → replies_well (content_refusal settings table) content ≡ true
    → content_refusal (in_version settings version) table content ≡ None
reply_alike settings version table content well =
    let parts = and_parts (if is_request content.kind then false else true)
    (is_none (content_refusal settings table content)) well in
    elim (cases_Bool (content.handler == notification_handler)) [
      | inl notification ↦ by_kind content.kind refl (eqb-true content.handler notification_handler notification) parts.0 parts.1
      | inr other ↦ client_alike settings version table content other
          ∙ none_is (content_refusal settings table content) parts.1
    ]
  where
    by_kind : (k : Kind) → content.kind ≡ k → content.handler ≡ notification_handler
        → (if is_request content.kind then false else true) ≡ true
        → is_none (content_refusal settings table content) ≡ true
        → content_refusal (in_version settings version) table content ≡ None
    by_kind kind.ShortRequest is handler reply none = absurd (true≢false (sym (rw is at reply)))
    by_kind kind.MediumRequest is handler reply none = absurd (true≢false (sym (rw is at reply)))
    by_kind kind.LongRequest is handler reply none = absurd (true≢false (sym (rw is at reply)))
    by_kind kind.ShortReply is handler reply none = absurd (true≢false (sym (rw (handler, is) at none)))
    by_kind kind.MediumReply is handler reply none = absurd (true≢false (sym (rw (handler, is) at none)))
    by_kind kind.LongReply is handler reply none = absurd (true≢false (sym (rw (handler, is) at none)))
    by_kind kind.Ack is handler reply none = rw (handler, is) refl

-- ---- what ticks send

-- a chunk is spelled alike
chunk_spelled : (settings : Parameters) (version : ℕ) (segment : List ℕ) (next : Next)
    → sending_of (in_version settings version) segment (target next.transfer) (chunk_work next)
    ≡ respell_sending (spelled_as settings.version version)
    (sending_of settings segment (target next.transfer) (chunk_work next))
chunk_spelled settings version segment next = by_kind next.transfer
  where
    by_kind : (transfer : Transfer) → let chunk : Next = record next { transfer = transfer } in
        sending_of (in_version settings version) segment (target transfer) (chunk_work chunk)
        ≡ respell_sending (spelled_as settings.version version)
        (sending_of settings segment (target transfer) (chunk_work chunk))
    by_kind (transfers.Put to remote local len) = refl
    by_kind (transfers.Get to remote local len) = refl
    by_kind (transfers.Memset to remote len byte) = refl

next_alike : (settings : Parameters) (version me : ℕ) (can : ℕ → Bool) (local : EndpointLocal) → AreInRange settings
    → is_version version ≡ true → settings.nodes ≤ most_nodes version → IsEndpointKept settings me local
    → next_sending (in_version settings version) me can local
    ≡ option_map (respell_sending (spelled_as settings.version version)) (next_sending settings me can local)
next_alike settings version me can local range known few kept =
    by_parts (next_notification settings me can local.barrier) (next_chunk can 1 local.operations) refl
  where
    segment : List ℕ
    segment = segment_of settings local.core

    by_parts : (notification : Option SentNotification) (next : Option Next) → next_notification settings me can local.barrier ≡ notification
        → notification_first (in_version settings version) segment notification next
        ≡ option_map (respell_sending (spelled_as settings.version version)) (notification_first settings segment notification next)
    by_parts None None is = refl
    by_parts None (Some next) is = ap Some (chunk_spelled settings version segment next)
    by_parts (Some sent) next is =
        let fits : IsNotification settings.nodes sent.notification = notification_work_fits settings me can local sent range kept is in
        let again = notification_again settings.version settings.nodes sent.notification range.version (nodes_few settings range)
        fits in
        ap (λ (notification : BarrierNotification). Some (sending_of (in_version settings version) segment sent.to (Notification notification)))
        (sym again)

-- ---- requests of a thread

said_client : (settings : Parameters) (table : List (Option Entry)) (segment : List ℕ) (asking : Asking)
    → asking_fault settings table asking ≡ None
    → ((content_by asking.category asking (payload_in segment asking.payload)).handler == notification_handler) ≡ false
said_client settings table segment asking fine =
    by_category asking.category (client_request table asking.handler registered)
  where
    registered : is_for_requests (entry_at table asking.handler) ≡ true
    registered = elim (cases_Bool (is_for_requests (entry_at table asking.handler))) [
      | inl is ↦ is
      | inr isnt ↦ absurd (none_some (sym (rw isnt at fine)))
    ]

    apart : (handler : ℕ) → is_library handler ≡ false → (handler == notification_handler) ≡ false
    apart handler client = elim (cases_Bool (handler == notification_handler)) [
      | inl notification ↦ absurd (true≢false (ap is_library (sym (eqb-true handler notification_handler notification)) ∙ client))
      | inr other ↦ other
    ]

    by_category : (category : Category) → is_library asking.handler ≡ false
        → ((content_by category asking (payload_in segment asking.payload)).handler == notification_handler) ≡ false
    by_category Short client = apart asking.handler client
    by_category Medium client = apart asking.handler client
    by_category Long client = apart asking.handler client

-- a content that is no notification
no_notification : (settings : Parameters) (content : Content) → (content.handler == notification_handler) ≡ false
    → IsNotificationIfAny settings content
no_notification settings content other notification = absurd (true≢false (sym (ap (λ h. h == notification_handler) notification) ∙ other))

notifications_sent : (settings : Parameters) (me : ℕ) (can : ℕ → Bool) (local : EndpointLocal) (sending : Sending)
    → AreInRange settings → IsEndpointKept settings me local → IsSent settings me can local sending
    → IsNotificationIfAny settings sending.content
notifications_sent settings me can local sending range kept (SendsNotification sent notification_is same) =
    subst (λ (s : Sending). IsNotificationIfAny settings s.content) (sym same)
    (λ handler. (sent.notification, notification_work_fits settings me can local sent range kept notification_is, refl))
notifications_sent settings me can local sending range kept (SendsChunk next next_is same) =
    subst (λ (s : Sending). IsNotificationIfAny settings s.content) (sym same)
    (no_notification settings (work_content settings.version (segment_of settings local.core) (chunk_work next))
    (chunk_no_notification settings.version (segment_of settings local.core) next))

-- ---- what is left where a request went out

issued_alike : (settings : Parameters) (version : ℕ) (contact : Contact) (content : Content) (local : EndpointLocal)
    → after_sent (in_version settings version) contact (spelled_as settings.version version content) local
    ≡ after_sent settings contact content local
issued_alike settings version contact content local = elim (cases_Bool (content.handler == notification_handler)) [
  | inl notification ↦ rw (spelled_notification settings.version version content notification) (rw notification refl)
  | inr other ↦ rw (spelled_other settings.version version content other) (rw other refl)
]

sent_alike : (one other : ℕ) (content : Content) (place : SlotRef)
    → sent_as (spelled_as one other content) place ≡ sent_as content place
sent_alike one other content place = elim (cases_Bool (content.handler == notification_handler)) [
  | inl notification ↦ rw (spelled_notification one other content notification) (rw notification refl)
  | inr client ↦ rw (spelled_other one other content client) (rw client refl)
]

waits_alike : (settings : Parameters) (version : ℕ) (table : List (Option Entry)) (content : Content) (held : List Held)
    → awaited_lock table (spelled_as settings.version version content) held ≡ awaited_lock table content held
waits_alike settings version table content held = elim (cases_Bool (content.handler == notification_handler)) [
  | inl notification ↦ rw (spelled_notification settings.version version content notification) refl
  | inr other ↦ rw (spelled_other settings.version version content other) refl
]

-- ---- other calls

calls_alike : (settings : Parameters) (version : ℕ) (table : List (Option Entry)) (meaning : Meaning) (me : ℕ)
    (exhausted : ℕ → Bool) (thread : ℕ) (call : OtherCall) (local : EndpointLocal)
    → (all_rules (in_version settings version) table meaning).does me exhausted thread call local
    ≡ (all_rules settings table meaning).does me exhausted thread call local
calls_alike settings version table meaning me exhausted thread (OnCore call) local = by_call call
  where
    by_call : (call : LocalCall)
        → (all_rules (in_version settings version) table meaning).does me exhausted thread (OnCore call) local
        ≡ (all_rules settings table meaning).does me exhausted thread (OnCore call) local
    by_call Poll = refl
    by_call _ = refl
calls_alike settings version table meaning me exhausted thread (OnTransfers call) local = refl
calls_alike settings version table meaning me exhausted thread (OnBarrier call) local = refl

-- ---- all rules

pub rules_agree : (version : ℕ) (settings : Parameters) (table : List (Option Entry)) (meaning : Meaning)
    → IgnoresVersion version meaning → AreInRange settings → is_version version ≡ true
    → settings.nodes ≤ most_nodes version
    → AgreeOn (spelled_as settings.version version) settings (all_rules settings table meaning)
    (all_rules (in_version settings version) table meaning)
rules_agree version settings table meaning ignores range known few = record {
  kind = kind_alike settings.version version;
  judges = λ thread kind local. refl;
  notes = λ thread forbidden local. refl;
  faults = λ asking. refl;
  says = λ asking local. refl;
  said = λ asking local fine. spelled_other settings.version version _
      (said_client settings table (segment_of settings local.core) asking fine);
  asks = λ asking local fine.
      asking_well settings table (segment_of settings local.core) asking.category asking refl fine;
  notifications_said = λ asking local fine. no_notification settings
      (content_by asking.category asking (payload_in (segment_of settings local.core) asking.payload))
      (said_client settings table (segment_of settings local.core) asking fine);
  notifications_next = λ me can local sending kept is.
      notifications_sent settings me can local sending range kept (sending_is settings me can local sending is);
  refuses = λ content noted well. asks_alike settings version table content range known few noted well;
  refuses_reply = λ content well. reply_alike settings version table content well;
  busy = λ content local. refl;
  waits = λ content local. waits_alike settings version table content local.core.locks;
  waits_reply = λ content local. refl;
  run = λ contact content local noted well.
      ap (λ (out : Local × Content). (
        record local {
          core = out.0;
          barrier = after_notification (in_version settings version)
              (spelled_as settings.version version content) local.barrier;
        },
        out.1,
      ))
      (core_runs settings version table meaning ignores contact content local.core)
      ∙ ap (λ (barrier : BarrierRecord). let out =
      run_request (handlers_of settings table meaning) contact content local.core in
      (record local { core = out.0; barrier = barrier }, out.1))
      (noted_alike settings version content local.barrier range known few noted);
  take = λ contact content local.
      ap (λ (core : Local). record local {
        core = core;
        operations = come_back contact.peer contact.slot contact.number local.operations;
      }) (take_alike settings version table meaning ignores contact content local.core);
  runs_as = λ content place noted. answered_alike settings version content place range known few noted;
  next = λ me can local kept. next_alike settings version me can local range known few kept;
  issued = λ contact content local. issued_alike settings version contact content local;
  sends_as = λ content place. sent_alike settings.version version content place;
  does = λ me exhausted thread call local. calls_alike settings version table meaning me exhausted thread call local;
}
