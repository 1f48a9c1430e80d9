-- A try that waits leaves the record of its node.
use Rattle.std.proofs.Common.{◌≡◌, ℕ, ℤ, Bool, true, false, true≢false, arith, cond, ◌&&◌, ◌||◌, map, List, [], ◌∷◌, ◌++◌, Option}
use Rattle.std.proofs.Common.{None, Some, refl, sym, ap, ◌∙◌, subst}
use Rattle.std.specs.Prelude.{◌==◌, is_some, is_none, Result, Ok, Err}
use Rattle.std.specs.Int.{w64, from_le_bytes}
use Rattle.std.specs.Option.{option_map, option_to_list}
use Rattle.std.proofs.lemmas.List.{append-nil}
use Rattle.std.proofs.lemmas.Option.{same_Some}
use Rattle.wire_message.specs.Parameters.{Parameters}
use Rattle.part_handlers.specs.Runs.{Meaning, lock_refusal}
use Rattle.part_segment.specs.Bytes.{part}
use Rattle.part_segment.specs.Image.{Write}
use Rattle.part_handlers.specs.declared.rules.Forbidden.{Forbidden}
use Rattle.part_handlers.specs.declared.rules.CallKind.TheVariants as kinds
use Rattle.part_handlers.specs.declared.rules.Violation.{Violation}
use Rattle.part_handlers.specs.declared.table.Entry.{Entry}
use Rattle.node_core.specs.Kept.{Local, with_locks, segment_of}
use Rattle.node_core.specs.ClientRules.{with_violations, short_asking, medium_asking, long_asking}
use Rattle.part_handlers.specs.Locks.{lock_answer, after_lock}
use Rattle.part_handlers.specs.declared.lock_answer.LockAnswer.{LockAnswer}
use Rattle.part_handlers.specs.declared.lock_answer.LockAnswer.TheVariants as locking
use Rattle.part_handlers.specs.declared.lock_answer.Held.{Held}
use Rattle.part_handlers.specs.declared.lock_answer.Owner.{Owner}
use Rattle.part_handlers.specs.declared.lock_answer.Owner.TheVariants as owner
use Rattle.part_barrier.specs.Record.{BarrierRecord, try_after}
use Rattle.part_barrier.specs.declared.answer.BarrierAnswer.{BarrierAnswer}
use Rattle.part_barrier.specs.declared.answer.BarrierAnswer.TheVariants as barrier
use Rattle.part_transfers.specs.Regions.{has_begun}
use Rattle.part_transfers.specs.Syncs.{members_of, whole_of, left_by, after_handle, implicit_of}
use Rattle.part_transfers.specs.declared.operation.Handle.{Handle}
use Rattle.part_transfers.specs.declared.operation.ImplicitKinds.{ImplicitKinds}
use Rattle.part_transfers.specs.declared.operation.Synced.{Synced}
use Rattle.part_transfers.specs.declared.operation.Synced.TheVariants as synced
use Rattle.spec_node.specs.Record.{Node}
use Rattle.spec_node.specs.Behaviour.{Behaviour, Ask, Asking}
use Rattle.spec_node.specs.Step.{Site, request_answer, after_request, with_local, is_exhausted}
use Rattle.spec_node.specs.NodeStep.{site_of, node_answer, node_after}
use Rattle.spec_node.specs.declared.answer.Asked.{Asked}
use Rattle.spec_node.specs.declared.answer.Asked.TheVariants as asked
use Rattle.node_rules.specs.CoreCalls.{Lock, OnSegment}
use Rattle.node_rules.specs.Memory.{LoadWord, unless_fault, word_fault}
use Rattle.node_rules.specs.BarrierCalls.{TryBarrier, barrier_does}
use Rattle.node_rules.specs.TransferCalls.{Caller, TransferCall, transfer_does, Sync, SyncHandle, SyncAll, SyncSome}
use Rattle.node_rules.specs.TransferCalls.{SyncImplicit, transfer_kind, handle_in, emptied_by, whole_registers}
use Rattle.node_rules.specs.Called.{Requests, Performs, node_event}
use Rattle.node_rules.specs.EndpointLocal.{EndpointLocal, with_core}
use Rattle.node_rules.specs.EndpointRules.{OnCore, OnBarrier, asked_answer, answer_told, job_of}
use Rattle.node_rules.specs.EndpointRules.{unless_forbidden}
use Rattle.node_rules.specs.EndpointRules.{with_barrier}
use Rattle.node_rules.specs.declared.answer.Answer.{Answer}
use Rattle.node_rules.specs.declared.answer.Answer.TheVariants as answers
use Rattle.node_rules.specs.declared.answer.Local.{Local as LocalAnswer}
use Rattle.node_rules.specs.declared.answer.Local.TheVariants as local
use Rattle.node_rules.specs.declared.answer.Region.TheVariants as region
use Rattle.node_atomics.specs.Asking.{batch_asking}
use Rattle.text_calls.specs.declared.scheduled.ScheduledCall.{ScheduledCall}
use Rattle.text_calls.specs.declared.scheduled.ScheduledCall.TheVariants as call
use Rattle.text_steps.specs.declared.steps.ScriptStep.{ScriptStep}
use Rattle.text_steps.specs.declared.steps.ScriptStep.TheVariants as step
use Rattle.text_steps.specs.declared.steps.WaitingStep.{WaitingStep}
use Rattle.text_steps.specs.declared.steps.WaitingStep.TheVariants as waiting
use Rattle.text_script.specs.Bodies.{operand_value}
use Rattle.text_script.specs.ScheduledCalls.{meant_by, given_from}
use Rattle.law_traces.specs.Actions.{Form, Once, Again, Until, Twice, Looks, Several, calls_of, ended_by, begins}
use Rattle.part_collective_area.specs.declared.shape.Shape.{Shape}
use Rattle.proc_collective_steps.specs.Parts.{first_part, later_part}
use Rattle.proc_collective_steps.proofs.Calm.{first_calm, later_calm}
use Rattle.node_collectives.specs.CollectivesState.{CollectivesState}
use Rattle.text_steps.specs.declared.steps.CollectiveText.{CollectiveText}
use Rattle.law_traces.specs.Actions.{Part, StepContext, moves, next_calls, step_context, tried_step, scripts_of}
use Rattle.law_traces.specs.Actions.{unless}
use Rattle.law_traces.specs.Empty.{IsCalm}
use Rattle.law_traces.specs.declared.script_answer.ScriptAnswer.{ScriptAnswer}
use Rattle.law_traces.specs.Scripts.{ThreadCall, TryContext}
use Rattle.law_traces.specs.Turn.{node_run, events_of, first_answer}
use Rattle.law_traces.specs.WorldRun.{endpoint_job}
use Rattle.law_traces.proofs.Acting.{scripts_same}
use Rattle.proc_steps.specs.Forms.{is_put_off, is_held, is_not_ready, call_form, waiting_form, step_form}
use Rattle.proc_steps.specs.Forms.{begun_handle, call_part, collective_form, nothing_there, on_transfers}
use Rattle.proc_steps.specs.Forms.{waiting_in, whole_form}
use Rattle.proc_steps.proofs.Collecting.{call_ends}
use Rattle.proc_steps.specs.Tries.{EndpointJob}

-- ---- calls, and answers at which a step waits

abbrev job_at : TryContext → EndpointJob
job_at place = job_of place.settings place.table place.meaning

abbrev answer_of : TryContext → Node EndpointLocal → ThreadCall → Answer
answer_of place node made = answer_told (node_answer (job_at place) place.me node place.now (node_event place.thread made))

abbrev after_of : TryContext → Node EndpointLocal → ThreadCall → Node EndpointLocal
after_of place node made = node_after (job_at place) place.me node place.now (node_event place.thread made)

-- a call whose answer is one to wait at leaves the record
abbrev Leaves : (waits : Answer → Bool) → TryContext → Node EndpointLocal → ThreadCall → Type 0
Leaves waits place node made = waits (answer_of place node made) ≡ true → after_of place node made ≡ node

-- a request
asked_leaves : (site : Site EndpointLocal) (node : Node EndpointLocal) (now : ℕ) (ask : Ask) (answer : Asked)
    → is_put_off (asked_answer answer) ≡ true → after_request site node now ask answer ≡ node
asked_leaves site node now ask (asked.Accepted to slot number) e = absurd (true≢false (sym e))
asked_leaves site node now ask asked.Ran e = absurd (true≢false (sym e))
asked_leaves site node now ask (asked.BadArg part) e = refl
asked_leaves site node now ask (asked.Forbidden forbidden) e = absurd (true≢false (sym e))
asked_leaves site node now ask (asked.LockBusy lock) e = refl
asked_leaves site node now ask asked.Exhausted e = refl
asked_leaves site node now ask asked.NotYet e = refl

request_leaves : (place : TryContext) (node : Node EndpointLocal) (to : ℕ) (what : Asking)
    → Leaves is_put_off place node (Requests to what)
request_leaves place node to what e =
    let ask : Ask = record { thread = place.thread; to = to; what = what } in
    let site = site_of (job_at place) place.me in
    asked_leaves site node place.now ask (request_answer site node ask) e

-- a lock
held_is : (says : LockAnswer) → is_held (answers.Lock says) ≡ true → says ≡ locking.Held
held_is locking.Taken e = absurd (true≢false (sym e))
held_is locking.Held e = refl
held_is (locking.Refused why) e = absurd (true≢false (sym e))

held_after : (locks : List Held) (by : Owner) (lock : ℕ) → lock_answer locks by lock 0 ≡ locking.Held
    → after_lock locks by lock 0 ≡ locks
held_after locks by lock e = go (lock_answer locks by lock 0) e
  where
    go : (says : LockAnswer) → says ≡ locking.Held
        → (elim says [
          | locking.Taken ↦ locks ++ record { lock = lock; owner = by } ∷ []
          | locking.Held ↦ locks
          | locking.Refused why ↦ locks
        ]) ≡ locks
    go locking.Taken h = absurd (cc)
    go locking.Held h = refl
    go (locking.Refused why) h = refl

lock_leaves : (place : TryContext) (node : Node EndpointLocal) (lock : ℕ)
    → Leaves is_held place node (Performs (OnCore (Lock lock)))
lock_leaves place node lock e =
    let core = node.local.core in
    let held : lock_answer core.locks (owner.Thread place.thread) lock 0 ≡ locking.Held =
    held_is (lock_answer core.locks (owner.Thread place.thread) lock 0) e in
    ap (λ (kept : Local). with_local node (with_core node.local kept))
    (ap (λ (locks : List Held). with_locks locks
    (with_violations place.thread (lock_refusal (lock_answer core.locks (owner.Thread place.thread) lock 0)) core))
    (held_after core.locks (owner.Thread place.thread) lock held)
    ∙ (ap (λ (says : LockAnswer). with_violations place.thread (lock_refusal says) core) held
    ∙ ap (λ (violations : List Violation). record core { violations = violations }) (append-nil core.violations)))

-- a call by how the rule table judges it
judged_leaves : (behaviour : Behaviour EndpointLocal) (thread : ℕ) (judged : Result (Unit {0}) Forbidden)
    (local : EndpointLocal) (outcome : Answer × EndpointLocal)
    → (is_not_ready outcome.0 ≡ true → outcome.1 ≡ local)
    → is_not_ready (unless_forbidden behaviour thread judged local outcome).0 ≡ true
    → (unless_forbidden behaviour thread judged local outcome).1 ≡ local
judged_leaves behaviour thread (Ok allowed) local outcome leaves e = leaves e
judged_leaves behaviour thread (Err forbidden) local outcome leaves e = absurd (true≢false (sym e))

-- what a synchronisation leaves, by its answer
synced_leaves : (local : EndpointLocal) (left : Synced → EndpointLocal) (says : Synced)
    → left synced.NotReady ≡ local → is_not_ready (answers.Synced says) ≡ true → left says ≡ local
synced_leaves local left synced.Ok not_ready e = absurd (true≢false (sym e))
synced_leaves local left synced.NotReady not_ready e = not_ready
synced_leaves local left synced.NotYours not_ready e = absurd (true≢false (sym e))
synced_leaves local left synced.BadHandle not_ready e = absurd (true≢false (sym e))
synced_leaves local left (synced.Exhausted node) not_ready e = absurd (true≢false (sym e))

-- a handle that isn't ready leaves the operations
handle_leaves : (handle : ℕ) (local : EndpointLocal)
    → record local { operations = after_handle synced.NotReady handle local.operations } ≡ local
handle_leaves handle local = go (handle == 0)
  where
    go : (invalid : Bool) → record local { operations = cond invalid local.operations local.operations } ≡ local
    go true = refl
    go false = refl

-- the implicit operations, in a region or not
implicit_leaves : (begun : Bool) (local : EndpointLocal) (outcome : Answer × EndpointLocal)
    → (is_not_ready outcome.0 ≡ true → outcome.1 ≡ local)
    → is_not_ready (cond {A = Answer × EndpointLocal} begun (answers.Region region.InRegion, local) outcome).0 ≡ true
    → (cond {A = Answer × EndpointLocal} begun (answers.Region region.InRegion, local) outcome).1 ≡ local
implicit_leaves true local outcome leaves e = absurd (true≢false (sym e))
implicit_leaves false local outcome leaves e = leaves e

-- a call on transfers that may wait
record MayWait (call : TransferCall) : Type 0 where
  pub leaves : (caller : Caller) (local : EndpointLocal) → is_not_ready (transfer_does caller call local).0 ≡ true
      → (transfer_does caller call local).1 ≡ local

transfer_leaves : (place : TryContext) (node : Node EndpointLocal) (call : TransferCall) → MayWait call
    → Leaves is_not_ready place node (on_transfers call)
transfer_leaves place node call may e =
    let behaviour = (job_at place).behaviour.messages in
    let caller : Caller = record {
      settings = place.settings;
      me = place.me;
      thread = place.thread;
      exhausted = is_exhausted place.settings node;
    } in
    ap (with_local node)
    (judged_leaves behaviour place.thread (behaviour.judges place.thread (transfer_kind call) node.local) node.local
    (transfer_does caller call node.local) (may.leaves caller node.local) e)

sync_waits : (register : ℕ) → MayWait (Sync register)
sync_waits register = record {
  leaves = λ caller local e.
      let handle = (handle_in local.registers register).serial in
      synced_leaves local (λ says. record local { operations = after_handle says handle local.operations }) _
      (handle_leaves handle local) e;
}

sync_handle_waits : (handle : Handle) → MayWait (SyncHandle handle)
sync_handle_waits handle = record {
  leaves = λ caller local e.
      synced_leaves local (λ says. record local { operations = after_handle says handle.serial local.operations }) _
      (handle_leaves handle.serial local) e;
}

sync_all_waits : (registers : List ℕ) → MayWait (SyncAll registers)
sync_all_waits registers = record {
  leaves = λ caller local e.
      let handles = map (handle_in local.registers) registers in
      synced_leaves local
      (λ says. record local {
        operations = left_by says (members_of handles local.operations) local.operations;
        registers = emptied_by says registers local.registers;
      }) _ refl e;
}

sync_some_waits : (registers : List ℕ) → MayWait (SyncSome registers)
sync_some_waits registers = record {
  leaves = λ caller local e.
      let handles = map (handle_in local.registers) registers in
      synced_leaves local
      (λ says. record local {
        operations = left_by says (whole_of handles local.operations) local.operations;
        registers = emptied_by says (whole_registers local.operations local.registers registers) local.registers;
      }) _ refl e;
}

sync_implicit_waits : (some : ImplicitKinds) → MayWait (SyncImplicit some)
sync_implicit_waits some = record {
  leaves = λ caller local e.
      implicit_leaves (has_begun local.regions caller.thread) local _
      (λ not_ready. synced_leaves local
      (λ says. record local {
        operations = left_by says (implicit_of caller.thread some) local.operations;
      }) _ refl not_ready)
      e;
}

-- a look at a word
nothing_written : (fault : Option LocalAnswer) (answer : LocalAnswer) (writes : List Write)
    → writes ++ (unless_fault fault (answer, [])).1 ≡ writes
nothing_written None answer writes = append-nil writes
nothing_written (Some fault) answer writes = append-nil writes

word_leaves : (place : TryContext) (node : Node EndpointLocal) (offset : ℕ)
    → after_of place node (Performs (OnCore (OnSegment (LoadWord offset)))) ≡ node
word_leaves place node offset =
    let segment = segment_of place.settings node.local.core in
    ap (λ (writes : List Write). with_local node (with_core node.local (record node.local.core { writes = writes })))
    (nothing_written (word_fault segment offset) (local.Number (from_le_bytes w64 (part segment offset 8)))
    node.local.core.writes)

-- the barrier
tried_leaves : (kept : BarrierRecord) (says : BarrierAnswer) → is_not_ready (answers.Barrier says) ≡ true
    → try_after kept says ≡ kept
tried_leaves kept barrier.Ok e = absurd (true≢false (sym e))
tried_leaves kept barrier.Mismatch e = absurd (true≢false (sym e))
tried_leaves kept barrier.NotReady e = refl
tried_leaves kept barrier.NoNotify e = absurd (true≢false (sym e))
tried_leaves kept barrier.BadFlags e = absurd (true≢false (sym e))
tried_leaves kept (barrier.Exhausted node) e = absurd (true≢false (sym e))

barrier_leaves : (place : TryContext) (node : Node EndpointLocal) (id : ℤ) (flags : ℕ)
    → Leaves is_not_ready place node (Performs (OnBarrier (TryBarrier id flags)))
barrier_leaves place node id flags e =
    let behaviour = (job_at place).behaviour.messages in
    let caller : Caller = record {
      settings = place.settings;
      me = place.me;
      thread = place.thread;
      exhausted = is_exhausted place.settings node;
    } in
    ap (with_local node)
    (judged_leaves behaviour place.thread (behaviour.judges place.thread kinds.Barrier node.local) node.local
    (with_barrier node.local (barrier_does caller (TryBarrier id flags) node.local.barrier))
    (λ not_ready. ap (λ (kept : BarrierRecord). record node.local { barrier = kept })
    (tried_leaves node.local.barrier _ not_ready)) e)

-- ---- steps

-- where a part ends nothing and changes nothing of the node's collectives, its calls leave the record
abbrev IsCalmPart : TryContext → Node EndpointLocal → Part → Type 0
IsCalmPart place node part =
    part.ended ≡ None → is_some part.next ≡ false
    → node_run (job_at place) place.me place.now (events_of place.thread part.calls) node ≡ node

-- the calls of the form at whose answers it waits leave the record
abbrev WaitsCalm : TryContext → Node EndpointLocal → Form EndpointLocal → Type 0
WaitsCalm place node (Once made) = Unit {0}
WaitsCalm place node (Again waits made) = Leaves waits place node made
WaitsCalm place node (Until call ends) = after_of place node call ≡ node
WaitsCalm place node (Twice begin next waits says) =
    (first : Answer) (made : ThreadCall) → next first ≡ Some made → Leaves waits place node made
WaitsCalm place node (Looks begin ready) = Unit {0}
WaitsCalm place node (Several first later) = IsCalmPart place node first × IsCalmPart place node later

call_calm : (place : TryContext) (node : Node EndpointLocal) (one : ScheduledCall)
    → WaitsCalm place node (call_form one (meant_by node.local.core.cells one))
call_calm place node (call.Short to handler operands) =
    request_leaves place node to (short_asking handler (map (operand_value node.local.core.cells []) operands))
call_calm place node (call.Medium text) =
    request_leaves place node text.to
    (medium_asking text.handler (map (operand_value node.local.core.cells []) text.operands) (given_from text.payload))
call_calm place node (call.Long text) =
    request_leaves place node text.to
    (long_asking text.handler (map (operand_value node.local.core.cells []) text.operands) (given_from text.payload)
    text.offset)
call_calm place node (call.LongAsync text) =
    request_leaves place node text.to
    (long_asking text.handler (map (operand_value node.local.core.cells []) text.operands) (given_from text.payload)
    text.offset)
call_calm place node (call.Atomic batch) = request_leaves place node batch.to (batch_asking batch.request)
call_calm place node (call.Lock lock) = lock_leaves place node lock
call_calm place node _ = tt

-- the second call of a blocking transfer
second_calm : (place : TryContext) (node : Node EndpointLocal) (handle : Option Handle) (made : ThreadCall)
    → option_map (λ handle. on_transfers (SyncHandle handle)) handle ≡ Some made → Leaves is_not_ready place node made
second_calm place node None made e = absurd (cc)
second_calm place node (Some handle) made e =
    subst (Leaves is_not_ready place node) (same_Some (on_transfers (SyncHandle handle)) made e)
    (transfer_leaves place node (SyncHandle handle) (sync_handle_waits handle))

waiting_calm : (place : TryContext) (node : Node EndpointLocal) (one : WaitingStep)
    → WaitsCalm place node (waiting_form node.local.core.cells one)
waiting_calm place node (waiting.Until cell operand) = refl
waiting_calm place node (waiting.UntilWord offset number) =
    word_leaves place node offset
waiting_calm place node (waiting.Transfer transfer) =
    λ first made e. second_calm place node (begun_handle first) made e
waiting_calm place node (waiting.PutBegin register put) = tt
waiting_calm place node (waiting.PutImplicit put) = tt
waiting_calm place node (waiting.Wait register) = transfer_leaves place node (Sync register) (sync_waits register)
waiting_calm place node (waiting.WaitAll registers) =
    transfer_leaves place node (SyncAll registers) (sync_all_waits registers)
waiting_calm place node (waiting.WaitSome registers) =
    transfer_leaves place node (SyncSome registers) (sync_some_waits registers)
waiting_calm place node (waiting.WaitImplicit which) =
    transfer_leaves place node (SyncImplicit which) (sync_implicit_waits which)
waiting_calm place node (waiting.BarrierWait id flags) = barrier_leaves place node id flags
waiting_calm place node (waiting.Collective shape from dest) = (λ ended still. absurd (cc), λ ended still. absurd (cc))

-- a part that ends its step
ends_calm : (place : TryContext) (node : Node EndpointLocal) (part : Part) → is_none part.ended ≡ false
    → IsCalmPart place node part
ends_calm place node part ends none still = absurd (true≢false (sym (ap is_none none) ∙ ends))

-- one call of the node's collectives
collective_calm : (call : CollectiveText) (at : StepContext) (node : Node EndpointLocal)
    → WaitsCalm at.place node (collective_form call at node)
collective_calm call at node = by_state at.collectives
  where
    by_state : (state : Option CollectivesState)
        → WaitsCalm at.place node (collective_form call (record at { collectives = state }) node)
    by_state None = (λ ended still. absurd (cc), λ ended still. absurd (cc))
    by_state (Some it) = (
      ends_calm at.place node (call_part call at.place node it) (call_ends call at.place node it),
      ends_calm at.place node (call_part call at.place node it) (call_ends call at.place node it),
    )

-- a whole collective
whole_calm : (shape : Shape) (from dest : ℕ) (at : StepContext) (node : Node EndpointLocal)
    → WaitsCalm at.place node (whole_form shape from dest at node)
whole_calm shape from dest at node = by_state at.collectives
  where
    by_me : (it : CollectivesState) (same : Bool) → (it.me == at.place.me) ≡ same
        → WaitsCalm at.place node (cond {A = Form EndpointLocal} same
        (Several (first_part at.place shape from node it) (later_part at.place dest node it)) nothing_there)
    by_me it true is =
        let here : it.me ≡ at.place.me = grind (arith, is) in
        (first_calm at.place shape from node it, later_calm at.place dest node it here)
    by_me it false is = (λ ended still. absurd (cc), λ ended still. absurd (cc))

    by_state : (state : Option CollectivesState)
        → WaitsCalm at.place node (whole_form shape from dest (record at { collectives = state }) node)
    by_state None = (λ ended still. absurd (cc), λ ended still. absurd (cc))
    by_state (Some it) = by_me it (it.me == at.place.me) refl

waiting_in_calm : (at : StepContext) (node : Node EndpointLocal) (one : WaitingStep)
    → WaitsCalm at.place node (waiting_in one at node)
waiting_in_calm at node (waiting.Collective shape from dest) = whole_calm shape from dest at node
waiting_in_calm at node (waiting.Until cell operand) = waiting_calm at.place node (waiting.Until cell operand)
waiting_in_calm at node (waiting.UntilWord offset number) = waiting_calm at.place node (waiting.UntilWord offset number)
waiting_in_calm at node (waiting.Transfer transfer) = waiting_calm at.place node (waiting.Transfer transfer)
waiting_in_calm at node (waiting.PutBegin register put) = waiting_calm at.place node (waiting.PutBegin register put)
waiting_in_calm at node (waiting.PutImplicit put) = waiting_calm at.place node (waiting.PutImplicit put)
waiting_in_calm at node (waiting.Wait register) = waiting_calm at.place node (waiting.Wait register)
waiting_in_calm at node (waiting.WaitAll registers) = waiting_calm at.place node (waiting.WaitAll registers)
waiting_in_calm at node (waiting.WaitSome registers) = waiting_calm at.place node (waiting.WaitSome registers)
waiting_in_calm at node (waiting.WaitImplicit which) = waiting_calm at.place node (waiting.WaitImplicit which)
waiting_in_calm at node (waiting.BarrierWait id flags) = waiting_calm at.place node (waiting.BarrierWait id flags)

step_calm : (at : StepContext) (node : Node EndpointLocal) (one : ScriptStep)
    → WaitsCalm at.place node (step_form one at node)
step_calm at node (step.Call made) = call_calm at.place node made
step_calm at node (step.Vis vis) = (λ ended still. absurd (cc), λ ended still. absurd (cc))
step_calm at node (step.Collective call) = collective_calm call at node
step_calm at node (step.Waiting one) = waiting_in_calm at node one

-- an answer is no end exactly where it is one to wait at
pub waits_there : (waits : Bool) (answer : Answer) → unless waits answer ≡ None → waits ≡ true
waits_there true answer e = refl
waits_there false answer e = absurd (cc)

-- a try whose step has begun now
begun_now : (ended : Option ScriptAnswer) → ended ≡ None → is_none ended ≡ false → ⊥
begun_now None e not = true≢false not
begun_now (Some answer) e not = cc

both_parts : (open_ : Bool) → ((true && true || false) && open_) ≡ false → open_ ≡ false
both_parts open_ e = e

-- the record after calls of a thread, and the answer of the first of them
abbrev after_calls : TryContext → Node EndpointLocal → List ThreadCall → Node EndpointLocal
after_calls place node calls = node_run (job_at place) place.me place.now (events_of place.thread calls) node

abbrev answer_to : TryContext → Node EndpointLocal → List ThreadCall → Option Answer
answer_to place node calls = first_answer (job_at place) place.me place.thread place.now calls node

-- the second call of a step that began with this answer, and waits
second_waits : (place : TryContext) (node after : Node EndpointLocal) (begin : ThreadCall)
    (next : Answer → Option ThreadCall) (waits : Answer → Bool) (says : Answer → Answer) (first : Answer)
    (call : Option ThreadCall) → ((made : ThreadCall) → call ≡ Some made → Leaves waits place node made)
    → ended_by (Twice begin next waits says) (Some first) after (answer_to place node (option_to_list call)) ≡ None
    → after_calls place node (option_to_list call) ≡ node
second_waits place node after begin next waits says first None calm e = refl
second_waits place node after begin next waits says first (Some made) calm e = calm made refl (waits_there _ _ e)

-- a try that changes nothing of the node's collectives
still_part : (starts moved : Bool) (ended : Option ScriptAnswer) → ended ≡ None
    → ((starts || moved) && is_none ended) ≡ false → moved ≡ false
still_part starts false ended none b = refl
still_part true true None none b = absurd (true≢false b)
still_part false true None none b = absurd (true≢false b)
still_part starts true (Some end) none b = absurd (cc)

-- a try that neither ends nor begins its step
form_calm : (place : TryContext) (node : Node EndpointLocal) (form : Form EndpointLocal) (began : Option Answer)
    → WaitsCalm place node form
    → let calls = calls_of form began in
    let ended = ended_by form began (after_calls place node calls) (answer_to place node calls) in
    ended ≡ None → ((begins form && is_none began || moves form began) && is_none ended) ≡ false
    → after_calls place node calls ≡ node
form_calm place node (Once call) began calm e b = absurd (cc)
form_calm place node (Again waits call) began calm e b = calm (waits_there _ _ e)
form_calm place node (Until call ends) began calm e b = calm
form_calm place node (Twice begin next waits says) None calm e b = absurd (begun_now _ e (both_parts _ b))
form_calm place node (Twice begin next waits says) (Some first) calm e b =
    second_waits place node (after_calls place node (option_to_list (next first))) begin next waits says first
    (next first) (calm first) e
form_calm place node (Looks begin ready) None calm e b = absurd (begun_now _ e (both_parts _ b))
form_calm place node (Looks begin ready) (Some first) calm e b = refl
form_calm place node (Several first later) None calm e b = calm.0 e (still_part _ (is_some first.next) first.ended e b)
form_calm place node (Several first later) (Some answer) calm e b =
    calm.1 e (still_part _ (is_some later.next) later.ended e b)

-- of what is left of a script
left_calm : (at : StepContext) (node : Node EndpointLocal) (left : List ScriptStep) (began : Option Answer)
    → let place = at.place in
    let calls = next_calls step_form at began left node in
    let tried = tried_step step_form at began left node (after_calls place node calls) (answer_to place node calls) in
    tried.ended ≡ None → tried.began ≡ false → after_calls place node calls ≡ node
left_calm at node [] began e b = refl
left_calm at node (one ∷ rest) began e b =
    form_calm at.place node (step_form one at node) began (step_calm at node one) e b

pub waiting_is_calm : (settings : Parameters) (table : List (Option Entry)) (meaning : Meaning)
    → IsCalm (endpoint_job settings table meaning (scripts_of step_form))
waiting_is_calm settings table meaning = record {
  node = λ me thread now own node e b sent.
      left_calm
      (step_context
      (record { settings = settings; table = table; meaning = meaning; me = me; thread = thread; now = now }) own)
      node (own.threads thread).left (own.threads thread).began e b;
  left = λ at own before after answer e b. scripts_same step_form at own before after answer e b;
}
