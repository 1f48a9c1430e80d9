-- Who holds locks changes only where a step ends: no delivery and no tick changes it, nor a call at which a step waits.
use Rattle.std.proofs.Common.{◌≡◌, ℕ, Bool, true, false, true≢false, List, [], ◌∷◌, ◌++◌, Option, None, Some, refl, sym}
use Rattle.std.proofs.Common.{◌∙◌}
use Rattle.std.proofs.Common.{inl, inr, subst}
use Rattle.std.specs.Prelude.{◌==◌}
use Rattle.std.specs.List.{AllByRecursion}
use Rattle.std.specs.Option.{option_map}
use Rattle.std.proofs.lemmas.Bool.{cases_Bool}
use Rattle.std.proofs.lemmas.Option.{same_Some}
use Rattle.wire_message.specs.Content.{Content, code, is_ack, content_of}
use Rattle.wire_message.specs.Message.{Message}
use Rattle.wire_message.specs.Parameters.{Parameters}
use Rattle.wire_message.specs.Refusals.{first_refusal}
use Rattle.wire_message.specs.declared.refused.Refused.{Refused as RefusedBytes}
use Rattle.part_handlers.specs.declared.lock_answer.Held.{Held}
use Rattle.part_handlers.specs.declared.lock_answer.LockAnswer.{LockAnswer}
use Rattle.part_handlers.specs.declared.lock_answer.LockAnswer.TheVariants as locking
use Rattle.part_handlers.specs.declared.lock_answer.Owner.TheVariants as owner
use Rattle.part_handlers.specs.Locks.{lock_answer, after_lock}
use Rattle.part_handlers.specs.declared.table.Entry.{Entry}
use Rattle.part_handlers.specs.Runs.{Meaning}
use Rattle.part_transfers.specs.declared.operation.Handle.{Handle}
use Rattle.spec_node.specs.declared.answer.Asked.{Asked}
use Rattle.spec_node.specs.declared.answer.Asked.TheVariants as asked
use Rattle.spec_node.specs.Behaviour.{Ask, Contact}
use Rattle.spec_node.specs.NodeStep.{Asks, Does, Comes, Ticks, site_of, node_after, node_answer}
use Rattle.spec_node.specs.Record.{Node}
use Rattle.spec_node.specs.Step.{Verdict, Runs, Returns, verdict, after_delivery, request_answer, after_request}
use Rattle.spec_node.specs.Step.{request_content, with_itself, is_exhausted, TickChoice, Retransmits, Sends, Rests, tick_choice}
use Rattle.spec_node.specs.Step.{after_tick}
use Rattle.node_core.specs.HandlerRuns.{handlers_of, run_reply}
use Rattle.node_core.specs.Kept.{Local}
use Rattle.node_core.specs.Library.{notification_handler}
use Rattle.node_rules.specs.Called.{Requests, Performs, node_event}
use Rattle.node_rules.specs.CoreCalls.{Lock}
use Rattle.node_rules.specs.EndpointLocal.{EndpointLocal}
use Rattle.node_rules.specs.EndpointRules.{OnCore, RecordEvent, job_of, answer_told}
use Rattle.node_rules.specs.Touches.{touches}
use Rattle.node_rules.proofs.Frames.{call_framed}
use Rattle.node_rules.specs.TransferCalls.{Caller, SyncHandle}
use Rattle.node_rules.specs.declared.answer.Answer.{Answer}
use Rattle.node_rules.specs.declared.answer.Answer.TheVariants as answers
use Rattle.text_calls.specs.declared.scheduled.ScheduledCall.TheVariants as call
use Rattle.text_steps.specs.declared.steps.ScriptStep.{ScriptStep}
use Rattle.text_steps.specs.declared.steps.ScriptStep.TheVariants as step
use Rattle.text_steps.specs.declared.steps.WaitingStep.TheVariants as waiting
use Rattle.law_traces.specs.Actions.{FormMay, Progress, StepContext, calls_of, unless}
use Rattle.law_traces.specs.Scripts.{ThreadCall, TryContext}
use Rattle.law_traces.specs.Turn.{node_run, coming, before_try, events_of}
use Rattle.law_traces.proofs.Acting.{calls_may}
use Rattle.proc_steps.specs.Forms.{step_form, is_held, begun_handle, sync_of, on_transfers}
use Rattle.base_lists.proofs.Tests.{some_none}
use Rattle.proc_steps.proofs.BegunPieces.{plan_may}
use Rattle.proc_steps.proofs.Calm.{waits_there}
use Rattle.proc_machine.specs.Scripted.{after_next, tried_next}
use Rattle.proc_machine.proofs.CollectiveCalls.{MayEach, collective_may, whole_may}

-- the locks that are held
abbrev pub locks_in : Node EndpointLocal → List Held
locks_in node = node.local.core.locks

-- ---- what happens to a node

reply_keeps : (settings : Parameters) (table : List (Option Entry)) (meaning : Meaning) (contact : Contact)
    (content : Content) (local : Local)
    → (run_reply (handlers_of settings table meaning) contact content local).locks ≡ local.locks
reply_keeps settings table meaning contact content local =
    elim (cases_Bool (is_ack (code content.kind))) [ inl e ↦ rw e refl | inr e ↦ rw e refl ]

delivery_keeps : (settings : Parameters) (table : List (Option Entry)) (meaning : Meaning) (me : ℕ)
    (node : Node EndpointLocal) (message : Message) (found : Verdict)
    → locks_in (after_delivery (site_of (job_of settings table meaning) me) node message found) ≡ locks_in node
delivery_keeps settings table meaning me node message Runs = refl
delivery_keeps settings table meaning me node message Returns =
    reply_keeps settings table meaning _ (content_of message) node.local.core
delivery_keeps settings table meaning me node message _ = refl

tick_keeps : (settings : Parameters) (table : List (Option Entry)) (meaning : Meaning) (me now : ℕ)
    (node : Node EndpointLocal) (choice : TickChoice)
    → locks_in (after_tick (site_of (job_of settings table meaning) me) node now choice) ≡ locks_in node
tick_keeps settings table meaning me now node (Retransmits due) = refl
tick_keeps settings table meaning me now node (Sends sending) =
    elim (cases_Bool (sending.content.handler == notification_handler)) [ inl e ↦ rw e refl | inr e ↦ rw e refl ]
tick_keeps settings table meaning me now node Rests = refl

request_keeps : (settings : Parameters) (table : List (Option Entry)) (meaning : Meaning) (me now : ℕ)
    (node : Node EndpointLocal) (ask : Ask) (answer : Asked)
    → locks_in (after_request (site_of (job_of settings table meaning) me) node now ask answer) ≡ locks_in node
request_keeps settings table meaning me now node ask (asked.Accepted to slot number) = refl
request_keeps settings table meaning me now node ask asked.Ran =
    let site = site_of (job_of settings table meaning) me in
    let out = site.behaviour.run (with_itself me) (request_content site node ask) node.local in
    reply_keeps settings table meaning (with_itself me) out.1 out.0.core
request_keeps settings table meaning me now node ask (asked.Forbidden forbidden) = refl
request_keeps settings table meaning me now node ask _ = refl

-- ---- calls

-- the call takes no lock and gives none back
abbrev pub is_locking : ThreadCall → Bool
is_locking (Requests to asking) = false
is_locking (Performs made) = (touches made).locks

-- a thread of the node
abbrev pub caller_of : Parameters → (me thread : ℕ) → Node EndpointLocal → Caller
caller_of settings me thread node =
    record { settings = settings; me = me; thread = thread; exhausted = is_exhausted settings node }

-- every call but these two
call_keeps : (settings : Parameters) (table : List (Option Entry)) (meaning : Meaning) (me thread now : ℕ)
    (node : Node EndpointLocal) (made : ThreadCall) → is_locking made ≡ false
    → locks_in (node_after (job_of settings table meaning) me node now (node_event thread made)) ≡ locks_in node
call_keeps settings table meaning me thread now node (Requests to asking) free =
    let ask : Ask = record { thread = thread; to = to; what = asking } in
    request_keeps settings table meaning me now node ask
    (request_answer (site_of (job_of settings table meaning) me) node ask)
call_keeps settings table meaning me thread now node (Performs made) free =
    (call_framed settings table meaning (caller_of settings me thread node) made node.local).locks free

-- ---- the calls of steps

-- the call is none on locks
abbrev pub IsFree : ThreadCall → Type 0
IsFree made = is_locking made ≡ false

-- so they leave who holds locks
calls_keep : (at : TryContext) (calls : List ThreadCall) (node : Node EndpointLocal) → AllByRecursion IsFree calls
    → locks_in (node_run (job_of at.settings at.table at.meaning) at.me at.now (events_of at.thread calls) node)
    ≡ locks_in node
calls_keep at [] node free = refl
calls_keep at (made ∷ calls) node free =
    calls_keep at calls
    (node_after (job_of at.settings at.table at.meaning) at.me node at.now (node_event at.thread made)) free.1
    ∙ call_keeps at.settings at.table at.meaning at.me at.thread at.now node made free.0

-- the second call of a blocking transfer
sync_free : (first : Answer) (made : ThreadCall) → sync_of first ≡ Some made → IsFree made
sync_free first made = by_handle (begun_handle first)
  where
    by_handle : (handle : Option Handle)
        → option_map (λ (one : Handle). on_transfers (SyncHandle one)) handle ≡ Some made → IsFree made
    by_handle None e = absurd (some_none (sym e))
    by_handle (Some handle) e = subst IsFree (same_Some (on_transfers (SyncHandle handle)) made e) refl

-- how a step that takes or gives back a lock is told from others
abbrev pub is_lock_step : ScriptStep → Bool
is_lock_step (step.Call (call.Lock lock)) = true
is_lock_step (step.Call (call.Unlock lock)) = true
is_lock_step _ = false

free_each : MayEach IsFree
free_each = record { requests = λ to asking. refl; polls = refl; sets = λ write. refl }

step_free : (one : ScriptStep) (at : StepContext) (node : Node EndpointLocal) → is_lock_step one ≡ false
    → FormMay IsFree (step_form one at node)
step_free (step.Call (call.Lock lock)) at node free = absurd (true≢false free)
step_free (step.Call (call.Unlock lock)) at node free = absurd (true≢false free)
step_free (step.Call _) at node free = refl
step_free (step.Vis vis) at node free =
    plan_may IsFree (λ one. refl) vis.plan vis.words.from vis.words.register at.place node
step_free (step.Collective one) at node free = collective_may IsFree free_each one at node
step_free (step.Waiting (waiting.Transfer transfer)) at node free = (refl, sync_free)
step_free (step.Waiting (waiting.Collective shape from dest)) at node free =
    whole_may IsFree free_each shape from dest at node
step_free (step.Waiting _) at node free = refl

-- a lock that another one holds is not taken
held_stays : (held : List Held) (thread lock : ℕ) (answer : LockAnswer)
    → lock_answer held (owner.Thread thread) lock 0 ≡ answer → is_held (answers.Lock answer) ≡ true
    → after_lock held (owner.Thread thread) lock 0 ≡ held
held_stays held thread lock locking.Held e waits = rw (e, after_lock) refl
held_stays held thread lock locking.Taken e waits = absurd (true≢false (sym waits))
held_stays held thread lock (locking.Refused why) e waits = absurd (true≢false (sym waits))

lock_waits : (settings : Parameters) (table : List (Option Entry)) (meaning : Meaning) (me thread now lock : ℕ)
    (node : Node EndpointLocal)
    → let job = job_of settings table meaning in
    let event : RecordEvent = node_event thread (Performs (OnCore (Lock lock))) in
    unless (is_held (answer_told (node_answer job me node now event))) (answer_told (node_answer job me node now event)) ≡ None
    → locks_in (node_after job me node now event) ≡ locks_in node
lock_waits settings table meaning me thread now lock node waits =
    held_stays (locks_in node) thread lock (lock_answer (locks_in node) (owner.Thread thread) lock 0) refl
    (waits_there _ _ waits)

-- the calls of a step that waits
waiting_keeps : (at : StepContext) (one : ScriptStep) (node : Node EndpointLocal) (began : Option Answer)
    → let progress : Progress ScriptStep = record { left = one ∷ []; began = began } in
    (tried_next at progress node).ended ≡ None → locks_in (after_next at progress node) ≡ locks_in node
waiting_keeps at one node began waits = by_step one (is_lock_step one) refl waits
  where
    by_step : (one : ScriptStep) (locks : Bool) → is_lock_step one ≡ locks
        → let progress : Progress ScriptStep = record { left = one ∷ []; began = began } in
        (tried_next at progress node).ended ≡ None → locks_in (after_next at progress node) ≡ locks_in node
    by_step one false free waits =
        calls_keep at.place (calls_of (step_form one at node) began) node
        (calls_may IsFree (step_form one at node) began (step_free one at node free))
    by_step (step.Call (call.Lock lock)) true locks waits =
        lock_waits at.place.settings at.place.table at.place.meaning at.place.me at.place.thread at.place.now lock node
        waits
    by_step (step.Call (call.Unlock lock)) true locks waits = absurd (some_none waits)
    by_step _ true locks waits = absurd (true≢false (sym locks))

-- ---- a turn

-- each of these events is a delivery or a tick
abbrev pub AreBefore : List RecordEvent → Type 0
AreBefore [] = Unit {0}
AreBefore (Asks ask ∷ events) = ⊥
AreBefore (Does thread made ∷ events) = ⊥
AreBefore (Comes message ∷ events) = AreBefore events
AreBefore (Ticks ∷ events) = AreBefore events

before_keep : (settings : Parameters) (table : List (Option Entry)) (meaning : Meaning) (me now : ℕ)
    (events : List RecordEvent) (node : Node EndpointLocal) → AreBefore events
    → locks_in (node_run (job_of settings table meaning) me now events node) ≡ locks_in node
before_keep settings table meaning me now [] node are = refl
before_keep settings table meaning me now (Asks ask ∷ events) node are = absurd are
before_keep settings table meaning me now (Does thread made ∷ events) node are = absurd are
before_keep settings table meaning me now (Comes message ∷ events) node are =
    before_keep settings table meaning me now events _ are
    ∙ delivery_keeps settings table meaning me node message (verdict (site_of (job_of settings table meaning) me) node
    message)
before_keep settings table meaning me now (Ticks ∷ events) node are =
    before_keep settings table meaning me now events _ are
    ∙ tick_keeps settings table meaning me now node (tick_choice (site_of (job_of settings table meaning) me) node now)

are_before : (version : ℕ) (polls : Bool) (got : Option (List ℕ)) → AreBefore (before_try version polls got)
are_before version false got = tt
are_before version true None = tt
are_before version true (Some bytes) = by_refusal (first_refusal version bytes)
  where
    by_refusal : (o : Option RefusedBytes) → AreBefore (coming version o bytes ++ Ticks ∷ [])
    by_refusal None = tt
    by_refusal (Some reason) = tt

-- the try of a thread's next step, where it didn't end it
next_keeps : (at : StepContext) (left : List ScriptStep) (began : Option Answer) (node : Node EndpointLocal)
    → let progress : Progress ScriptStep = record { left = left; began = began } in
    (tried_next at progress node).ended ≡ None → locks_in (after_next at progress node) ≡ locks_in node
next_keeps at [] began node waits = refl
next_keeps at (one ∷ left) began node waits = waiting_keeps at one node began waits

-- a turn of a thread that didn't end its step
pub turn_keeps : (at : StepContext) (version : ℕ) (polls : Bool) (got : Option (List ℕ)) (left : List ScriptStep)
    (began : Option Answer) (node : Node EndpointLocal)
    → let progress : Progress ScriptStep = record { left = left; began = began } in
    let mid =
    node_run (job_of at.place.settings at.place.table at.place.meaning) at.place.me at.place.now
    (before_try version polls got) node in
    (tried_next at progress mid).ended ≡ None → locks_in (after_next at progress mid) ≡ locks_in node
turn_keeps at version polls got left began node waits =
    next_keeps at left began _ waits
    ∙ before_keep at.place.settings at.place.table at.place.meaning at.place.me at.place.now
    (before_try version polls got) node
    (are_before version polls got)
