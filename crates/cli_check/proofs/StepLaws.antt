-- The laws of transfers and of the barrier, of what a line of a step tells.
use Rattle.std.proofs.Common.{◌≡◌, ◌≢◌, ◌⊎◌, inl, inr, ℕ, zero, suc, Bool, true, false, List, [], ◌∷◌, ◌++◌, Option, Some, None, refl, sym, ap}
use Rattle.std.proofs.Common.{subst, ◌∙◌, arith}
use Rattle.std.specs.Prelude.{ℤ, is_some}
use Rattle.std.specs.List.{AllByRecursion, slice_get}
use Rattle.std.specs.Option.{option_map}
use Rattle.std.specs.Prelude.{Result, Ok, Err}
use Rattle.std.proofs.lemmas.Option.{same_Some}
use Rattle.text_trace.specs.declared.trace.Trace.{Trace}
use Rattle.law_barrier.specs.BarrierLaws.{BarrierHolds, EndsPhase}
use Rattle.wire_message.specs.Parameters.{Parameters}
use Rattle.part_handlers.specs.Runs.{Meaning}
use Rattle.part_handlers.specs.declared.rules.Forbidden.{Forbidden}
use Rattle.part_handlers.specs.declared.table.Entry.{Entry as TableEntry}
use Rattle.node_rules.specs.EndpointLocal.{EndpointLocal}
use Rattle.node_rules.specs.EndpointRules.{OtherCall, Records, at_the_opening, endpoint_rules, unless_forbidden}
use Rattle.node_rules.specs.TransferCalls.{TransferCall, Begin, SyncHandle, transfer_kind}
use Rattle.node_rules.specs.declared.answer.Answer.{Answer}
use Rattle.node_rules.specs.declared.answer.Answer.TheVariants as answers
use Rattle.node_rules.specs.declared.answer.Begun.{Begun}
use Rattle.node_rules.specs.declared.answer.Begun.TheVariants as begun
use Rattle.text_job.specs.declared.job.Job.{Job as JobState}
use Rattle.text_steps.specs.declared.steps.ScriptStep.{ScriptStep}
use Rattle.text_steps.specs.declared.steps.ScriptStep.TheVariants as step
use Rattle.text_steps.specs.declared.steps.WaitingStep.{WaitingStep}
use Rattle.text_steps.specs.declared.steps.WaitingStep.TheVariants as waiting
use Rattle.part_barrier.specs.declared.answer.BarrierAnswer.{BarrierAnswer}
use Rattle.base_turns.specs.declared.entry.Entry.{Entry}
use Rattle.proc_machine.specs.Laws.{IsRunOf, order_by}
use Rattle.spec_node.specs.NodeStep.{OfCall}
use Rattle.spec_node.specs.Record.{Node}
use Rattle.spec_node.specs.Step.{is_exhausted}
use Rattle.law_traces.specs.Actions.{Form, StepContext, Twice, unless}
use Rattle.law_traces.specs.Scripts.{ThreadCall}
use Rattle.law_traces.specs.Order.{own_entries}
use Rattle.law_traces.specs.WorldRun.{joined_events}
use Rattle.law_traces.specs.declared.script_answer.ScriptAnswer.{ScriptAnswer}
use Rattle.law_traces.specs.declared.script_answer.ScriptAnswer.TheVariants as said
use Rattle.text_script.specs.Bodies.{script_meaning}
use Rattle.base_text.specs.LineTexts.{Line}
use Rattle.text_script.specs.Registration.{handlers_of, registry_of}
use Rattle.spec_network.specs.World.{EventAt, IsAmong, OfNode, WorldAnswer, run, world_answer}
use Rattle.part_transfers.specs.Syncs.{handle_answer}
use Rattle.part_transfers.specs.declared.operation.Handle.{Handle}
use Rattle.part_transfers.specs.declared.operation.Synced.{Synced}
use Rattle.part_transfers.specs.declared.operation.Synced.TheVariants as synced
use Rattle.part_transfers.specs.declared.operation.Transfer.{Transfer}
use Rattle.proc_steps.specs.Forms.{as_synced, begun_handle, is_not_ready, step_form, sync_of}
use Rattle.law_transfers.specs.Chunks.{EndpointJob, state_after}
use Rattle.law_transfers.proofs.Begins.{allowed_there, begins_last, told_there}
use Rattle.law_transfers.specs.TransferLaws.{Beginning, Synchronises, TransfersHold, transfer_event, since}
use Rattle.cli_check.specs.StepLines.{StepAt}
use Rattle.cli_check.specs.StepsTold.{BarrierIsTried, EndsAsTried, EndsAtCall, EndsLater, IsCallMade, IsMadeSince}
use Rattle.cli_check.specs.StepsTold.{IsReply}
use Rattle.cli_check.specs.StepsTold.{IsStepTold, LinesTell, RunOrder, SyncIsMade, TransferIsMade, before_of}
use Rattle.cli_check.specs.StepsTold.{begun_before}
use Rattle.cli_check.specs.StepsTold.{call_event}
use Rattle.cli_check.specs.StepsTold.{first_turns, machine_at, on_transfer_call, past_of, records_after, rules_of}
use Rattle.cli_check.specs.StepsTold.{run_told}
use Rattle.cli_check.specs.StepsTold.{sync_waited, tried_at, tries_barrier}
use Rattle.cli_check.specs.TracesRun.{entries_of}
use Rattle.cli_check.proofs.CallsMade.{run_append}
use Rattle.cli_check.proofs.LinesTold.{lines_rise, lines_told, order_of_run}
use Rattle.cli_check.proofs.StepsTold.{Machine}
use Rattle.base_lists.proofs.Members.{all_append}
use Rattle.cli_check.proofs.Regions.{AreThere, HoldsOf, IsOther, number_is_free, the_one}

-- ---- answers

-- the answer of a call is that of the step
call_same : (told answer : Answer) → ◌≡◌ {A = ScriptAnswer} (said.Call told) (said.Call answer) → told ≡ answer
call_same told answer same = cc

unless_same : (b : Bool) (told : Answer) (answer : ScriptAnswer) → unless b told ≡ Some answer → answer ≡ said.Call told
unless_same true told answer same = absurd (cc)
unless_same false told answer same = cc

told_is : (b : Bool) (told answer : Answer) (step : ScriptAnswer) → unless b told ≡ Some step → step ≡ said.Call answer
    → told ≡ answer
told_is b told answer step ends is = call_same told answer (sym (unless_same b told step ends) ∙ is)

-- a call with an answer that is another one
abbrev since_so : (job : JobState) (past run : List (EventAt OtherCall)) (at : StepAt) (call : ThreadCall)
    (told answer : Answer) → told ≡ answer → IsMadeSince job past run at call told
    → IsMadeSince job past run at call answer
since_so job past run at call told answer is made = subst (IsMadeSince job past run at call) is made

-- a call that ended a step whose answer is its own
made_so : (job : JobState) (past run : List (EventAt OtherCall)) (at : StepAt) (call : ThreadCall) (waits : Answer → Bool)
    (answer : Answer) (step : ScriptAnswer) → EndsAtCall job past run at call (λ told. unless (waits told) told) step
    → step ≡ said.Call answer → IsMadeSince job past run at call answer
made_so job past run at call waits answer step it is =
    since_so job past run at call it.told answer (told_is (waits it.told) it.told answer step it.ended is) it.made

-- ---- events among the nodes

prefix_among : (job : JobState) (first : List (EventAt OtherCall)) (event : EventAt OtherCall) (later : List (EventAt OtherCall))
    → AllByRecursion (λ (one : EventAt OtherCall). IsAmong job.settings one.event) (first ++ event ∷ later)
    → AllByRecursion (λ (one : EventAt OtherCall). IsAmong job.settings one.event) first
    × IsAmong job.settings event.event
    × AllByRecursion (λ (one : EventAt OtherCall). IsAmong job.settings one.event) later
prefix_among job [] event later among = (tt, among.0, among.1)
prefix_among job (one ∷ first) event later among =
    let it = prefix_among job first event later among.1 in ((among.0, it.0), it.1, it.2)

abbrev AreAmong : JobState → List (EventAt OtherCall) → Type 0
AreAmong job run = AllByRecursion (λ (one : EventAt OtherCall). IsAmong job.settings one.event) run

all_prefix : (job : JobState) (first later : List (EventAt OtherCall)) → AreAmong job (first ++ later) → AreAmong job first
    × AreAmong job later
all_prefix job [] later among = (tt, among)
all_prefix job (one ∷ first) later among = let it = all_prefix job first later among.1 in ((among.0, it.0), it.1)

-- those of the first turns
turns_among : (job : JobState) (count : ℕ) (turns : List (List (EventAt OtherCall))) → AreAmong job (joined_events turns)
    → AreAmong job (first_turns count turns)
turns_among job zero turns among = tt
turns_among job (suc count) [] among = tt
turns_among job (suc count) (turn ∷ turns) among =
    let it = all_prefix job turn (joined_events turns) among in
    all_append (λ (one : EventAt OtherCall). IsAmong job.settings one.event) turn (first_turns count turns) it.0
    (turns_among job count turns it.1)

-- ---- the laws

abbrev sync_done : (job : JobState) (past run : List (EventAt OtherCall)) (at : StepAt) (call : TransferCall)
    → TransfersHold job.settings (registry_of (handlers_of job)).table (script_meaning (handlers_of job))
    → AreAmong job run → IsMadeSince job past run at (on_transfer_call call) (answers.Synced synced.Ok)
    → SyncIsMade job past run at call
sync_done job past run at call holds among since_past = record {
  made = since_past;
  done = λ beginning events is syncs.
      let made = since_past.made in
      let first = transfer_event beginning.now beginning.node beginning.thread beginning.call in
      let before = (prefix_among job made.before (call_event at made.now (on_transfer_call call)) made.later
      (subst (AreAmong job) made.run_is among)).0 in
      let parts = prefix_among job beginning.before first events (subst (AreAmong job) is before) in
      let there : records_after job made.before ≡ state_after (rules_of job) (since (rules_of job) beginning events) =
      ap (records_after job) is
      ∙ run_append (rules_of job) beginning.before (first ∷ events) (at_the_opening job.settings) in
      holds.synchronised beginning events (call_event at made.now (on_transfer_call call)) parts.2
      (subst (λ (w : Records). Synchronises (rules_of job) w (call_event at made.now (on_transfer_call call))
      beginning.node beginning.number) there syncs);
}

barrier_done : (job : JobState) (past run : List (EventAt OtherCall)) (at : StepAt) (id : ℤ) (flags : ℕ)
    (answer : BarrierAnswer)
    → BarrierHolds job.settings (registry_of (handlers_of job)).table (script_meaning (handlers_of job))
    → AreAmong job run → EndsPhase answer
    → IsMadeSince job past run at (tries_barrier id flags) (answers.Barrier answer)
    → BarrierIsTried job past run at id flags answer
barrier_done job past run at id flags answer holds among ends since_past =
    let made = since_past.made in
    let parts = prefix_among job made.before (call_event at made.now (tries_barrier id flags)) made.later
    (subst (AreAmong job) made.run_is among) in
    record {
      made = since_past;
      tells = holds.tells made.before
          (record { now = made.now; node = at.rank; thread = at.thread; id = id; flags = flags }) answer parts.0 parts.1
          ends made.answered;
    }

-- ---- by the step

-- a step that waits for transfers
wait_made : (job : JobState) (past run : List (EventAt OtherCall)) (at : StepAt) (wait : WaitingStep) (call : TransferCall)
    (context : StepContext) (node : Node EndpointLocal) (began : Option Answer) (answer : Answer)
    (said_so : ScriptAnswer) → sync_waited wait ≡ Some call
    → EndsAsTried job past run at (step_form (step.Waiting wait) context node) began said_so
    → said_so ≡ said.Call answer → IsMadeSince job past run at (on_transfer_call call) answer
wait_made job past run at (waiting.Wait register) call context node began answer said_so is ends same =
    subst (λ (c : TransferCall). IsMadeSince job past run at (on_transfer_call c) answer) (same_Some _ call is)
    (made_so job past run at _ is_not_ready answer said_so ends same)
wait_made job past run at (waiting.WaitAll registers) call context node began answer said_so is ends same =
    subst (λ (c : TransferCall). IsMadeSince job past run at (on_transfer_call c) answer) (same_Some _ call is)
    (made_so job past run at _ is_not_ready answer said_so ends same)
wait_made job past run at (waiting.WaitSome registers) call context node began answer said_so is ends same =
    subst (λ (c : TransferCall). IsMadeSince job past run at (on_transfer_call c) answer) (same_Some _ call is)
    (made_so job past run at _ is_not_ready answer said_so ends same)
wait_made job past run at (waiting.WaitImplicit which) call context node began answer said_so is ends same =
    subst (λ (c : TransferCall). IsMadeSince job past run at (on_transfer_call c) answer) (same_Some _ call is)
    (made_so job past run at _ is_not_ready answer said_so ends same)
wait_made job past run at wait call context node began answer said_so is ends same = absurd (cc)

-- the beginning of a transfer isn't answered as a sync is
never_synced : (settings : Parameters) (table : List (Option TableEntry)) (meaning : Meaning) (thread : ℕ)
    (judged : Result (Unit {0}) Forbidden) (local left : EndpointLocal) (begun_so : Begun) (says : Synced)
    → (unless_forbidden (endpoint_rules settings table meaning) thread judged local (answers.Begun begun_so, left)).0
    ≡ answers.Synced says → ⊥
never_synced settings table meaning thread (Ok allowed) local left begun_so says same = cc
never_synced settings table meaning thread (Err forbidden) local left begun_so says same = cc

reply_same : (one other : Answer) → ◌≡◌ {A = WorldAnswer Answer} (OfNode (OfCall one)) (OfNode (OfCall other))
    → one ≡ other
reply_same one other same = cc

begin_synced : (job : JobState) (run : List (EventAt OtherCall)) (at : StepAt) (transfer : Transfer) (says : Synced)
    → IsCallMade job run at (on_transfer_call (Begin None transfer)) (answers.Synced says) → ⊥
begin_synced job run at transfer says made =
    let local = (records_after job made.before at.rank).local in
    let settings = job.settings in
    never_synced settings (registry_of (handlers_of job)).table (script_meaning (handlers_of job)) at.thread
    ((endpoint_rules settings (registry_of (handlers_of job)).table (script_meaning (handlers_of job))).judges at.thread
    (transfer_kind (Begin None transfer)) local) local _ _ says (reply_same _ _ made.answered)

-- a blocking transfer that is told as Ok, and had no second call, was done in its first one
at_once : (job : JobState) (run : List (EventAt OtherCall)) (at : StepAt) (transfer : Transfer) (first : Answer)
    → IsCallMade job run at (on_transfer_call (Begin None transfer)) first → as_synced first ≡ answers.Synced synced.Ok
    → first ≡ answers.Begun begun.Done
at_once job run at transfer (answers.Begun begun.Done) made ok = refl
at_once job run at transfer (answers.Begun (begun.Handle handle)) made ok = absurd (cc)
at_once job run at transfer (answers.Begun (begun.BadArg part)) made ok = absurd (cc)
at_once job run at transfer (answers.Begun begun.TooMany) made ok = absurd (cc)
at_once job run at transfer (answers.Synced says) made ok = absurd (begin_synced job run at transfer says made)
at_once job run at transfer other made ok = absurd (cc)

-- the handle that the first answer names
named_by : (first : Answer) (call : ThreadCall) → sync_of first ≡ Some call
    → (handle : Handle) × (begun_handle first ≡ Some handle) × (call ≡ on_transfer_call (SyncHandle handle))
named_by first call is = by_handle (begun_handle first) refl is
  where
    by_handle : (found : Option Handle) → begun_handle first ≡ found
        → option_map (λ handle. on_transfer_call (SyncHandle handle)) found ≡ Some call
        → (handle : Handle) × (begun_handle first ≡ Some handle) × (call ≡ on_transfer_call (SyncHandle handle))
    by_handle None at same = absurd (cc)
    by_handle (Some handle) at same = (handle, at, sym (same_Some _ call same))

never_started : (settings : Parameters) (table : List (Option TableEntry)) (meaning : Meaning) (thread : ℕ)
    (judged : Result (Unit {0}) Forbidden) (local left : EndpointLocal) (begun_so other : Begun)
    → (unless_forbidden (endpoint_rules settings table meaning) thread judged local (answers.Begun begun_so, left)).0
    ≡ answers.Started other → ⊥
never_started settings table meaning thread (Ok allowed) local left begun_so other same = cc
never_started settings table meaning thread (Err forbidden) local left begun_so other same = cc

begin_started : (job : JobState) (run : List (EventAt OtherCall)) (at : StepAt) (transfer : Transfer) (other : Begun)
    → IsCallMade job run at (on_transfer_call (Begin None transfer)) (answers.Started other) → ⊥
begin_started job run at transfer other made =
    let local = (records_after job made.before at.rank).local in
    let settings = job.settings in
    never_started settings (registry_of (handlers_of job)).table (script_meaning (handlers_of job)) at.thread
    ((endpoint_rules settings (registry_of (handlers_of job)).table (script_meaning (handlers_of job))).judges at.thread
    (transfer_kind (Begin None transfer)) local) local _ _ other (reply_same _ _ made.answered)

-- so that answer is the beginning's
begun_so : (job : JobState) (run : List (EventAt OtherCall)) (at : StepAt) (transfer : Transfer) (first : Answer)
    (handle : Handle) → IsCallMade job run at (on_transfer_call (Begin None transfer)) first
    → begun_handle first ≡ Some handle → first ≡ answers.Begun (begun.Handle handle)
begun_so job run at transfer (answers.Begun (begun.Handle found)) handle made is =
    ap (λ (h : Handle). answers.Begun (begun.Handle h)) (same_Some found handle is)
begun_so job run at transfer (answers.Started other) handle made is =
    absurd (begin_started job run at transfer other made)
begun_so job run at transfer other handle made is = absurd (cc)

-- a sync's Ok is told as it is
synced_as : (told : Answer) → as_synced told ≡ answers.Synced synced.Ok → (told ≡ answers.Begun begun.Done → ⊥)
    → told ≡ answers.Synced synced.Ok
synced_as (answers.Begun begun.Done) is other = absurd (other refl)
synced_as (answers.Begun (begun.Handle handle)) is other = is
synced_as (answers.Begun (begun.BadArg part)) is other = is
synced_as (answers.Begun begun.TooMany) is other = is
synced_as told is other = is

sync_begun : (settings : Parameters) (table : List (Option TableEntry)) (meaning : Meaning) (thread : ℕ)
    (judged : Result (Unit {0}) Forbidden) (local left : EndpointLocal) (says : Synced) (begun_as : Begun)
    → (unless_forbidden (endpoint_rules settings table meaning) thread judged local (answers.Synced says, left)).0
    ≡ answers.Begun begun_as → ⊥
sync_begun settings table meaning thread (Ok allowed) local left says begun_as same = cc
sync_begun settings table meaning thread (Err forbidden) local left says begun_as same = cc

sync_not_begun : (job : JobState) (run : List (EventAt OtherCall)) (at : StepAt) (handle : Handle) (begun_as : Begun)
    → IsCallMade job run at (on_transfer_call (SyncHandle handle)) (answers.Begun begun_as) → ⊥
sync_not_begun job run at handle begun_as made =
    let local = (records_after job made.before at.rank).local in
    let settings = job.settings in
    sync_begun settings (registry_of (handlers_of job)).table (script_meaning (handlers_of job)) at.thread
    ((endpoint_rules settings (registry_of (handlers_of job)).table (script_meaning (handlers_of job))).judges at.thread
    (transfer_kind (SyncHandle handle)) local) local _ _ begun_as (reply_same _ _ made.answered)

-- a call that is another one, with an answer that is another one
abbrev remade : (job : JobState) (run : List (EventAt OtherCall)) (at : StepAt) (call other : ThreadCall)
    (told answer : Answer) → call ≡ other → told ≡ answer → IsCallMade job run at call told
    → IsCallMade job run at other answer
remade job run at call other told answer same is made = record {
  before = made.before;
  now = made.now;
  later = made.later;
  run_is = subst (λ (c : ThreadCall). run ≡ made.before ++ call_event at made.now c ∷ made.later) same made.run_is;
  answered = subst (λ (a : Answer). IsReply other a
      (world_answer (rules_of job) (records_after job made.before) (call_event at made.now other))) is
      (subst (λ (c : ThreadCall). IsReply c told
      (world_answer (rules_of job) (records_after job made.before) (call_event at made.now c))) same made.answered);
}

abbrev remade_since : (job : JobState) (past run : List (EventAt OtherCall)) (at : StepAt) (call other : ThreadCall)
    (told answer : Answer) → call ≡ other → told ≡ answer → IsMadeSince job past run at call told
    → IsMadeSince job past run at other answer
remade_since job past run at call other told answer same is made = record {
  made = remade job run at call other told answer same is made.made;
  between = made.between;
  before_is = made.before_is;
}

-- ---- the sync of a blocking transfer

synced_same : (one other : Synced) → answers.Synced one ≡ answers.Synced other → one ≡ other
synced_same one other same = cc

-- what a sync of a handle answers there
sync_says : (job : JobState) (world : Records) (at : StepAt) (now : ℕ) (handle : Handle)
    → world_answer (rules_of job) world (call_event at now (on_transfer_call (SyncHandle handle)))
    ≡ OfNode (OfCall (answers.Synced synced.Ok))
    → handle_answer (is_exhausted job.settings (world at.rank)) at.thread handle.serial (world at.rank).local.operations
    ≡ synced.Ok
sync_says job world at now handle answered =
    let settings = job.settings in
    let table = (registry_of (handlers_of job)).table in
    let meaning = script_meaning (handlers_of job) in
    let told = told_there settings table meaning world now at.rank at.thread (SyncHandle handle)
    (answers.Synced synced.Ok) answered in
    let does = allowed_there settings table meaning world at.rank at.thread (SyncHandle handle)
    (answers.Synced synced.Ok) (λ forbidden same. never forbidden same) told in
    synced_same _ synced.Ok (sym (ap (λ (out : Answer × EndpointLocal). out.0) does) ∙ told)
  where
    never : (forbidden : Forbidden) → answers.Forbidden forbidden ≡ answers.Synced synced.Ok → ⊥
    never forbidden same = cc

-- the handle of a transfer that began is none that is invalid, and its number is the name of no region
some_number : (number count : ℕ) → number ≡ suc count → number ≢ 0
some_number number count is none = absurd (omega (arith, is, none))

-- so a sync of it that is answered Ok synchronises it
synchronises : (job : JobState) (at : StepAt) (transfer : Transfer) (handle : Handle)
    (before events : List (EventAt OtherCall)) (begun_at now : ℕ)
    → TransfersHold job.settings (registry_of (handlers_of job)).table (script_meaning (handlers_of job))
    → world_answer (rules_of job) (records_after job before)
    (call_event at begun_at (on_transfer_call (Begin None transfer)))
    ≡ OfNode (OfCall (answers.Begun (begun.Handle handle)))
    → let world =
    records_after job (before ++ call_event at begun_at (on_transfer_call (Begin None transfer)) ∷ events) in
    world_answer (rules_of job) world (call_event at now (on_transfer_call (SyncHandle handle)))
    ≡ OfNode (OfCall (answers.Synced synced.Ok))
    → Synchronises (rules_of job) world (call_event at now (on_transfer_call (SyncHandle handle))) at.rank handle.serial
synchronises job at transfer handle before events begun_at now holds began answered =
    let settings = job.settings in
    let table = (registry_of (handlers_of job)).table in
    let meaning = script_meaning (handlers_of job) in
    let call = call_event at begun_at (on_transfer_call (Begin None transfer)) in
    let world = records_after job (before ++ call ∷ events) in
    let same : world ≡ run events_job (call ∷ events) (records_after job before) =
    run_append (rules_of job) before (call ∷ events) (at_the_opening settings) in
    let free = number_is_free settings table meaning before events begun_at at.rank at.thread handle.serial None transfer
    began in
    let last = begins_last settings table meaning (records_after job before) begun_at at.rank at.thread
    (Begin None transfer) transfer handle.serial (refl, began) in
    let one = the_one (is_exhausted settings (world at.rank)) at.thread handle.serial (world at.rank).local
    (some_number handle.serial _ last.number_is)
    (subst (λ (w : Records). HoldsOf (AreThere handle.serial) (IsOther handle.serial) (w at.rank).local) (sym same) free)
    (sync_says job world at now handle answered) in
    let goes = holds.goes world (call_event at now (on_transfer_call (SyncHandle handle))) handle.serial one.operation
    (record {
      node = at.rank;
      thread = at.thread;
      call = SyncHandle handle;
      event = refl;
      answered = answered;
      there = one.there;
      chosen = one.chosen_so;
    }) in
    record {
      thread = at.thread;
      call = SyncHandle handle;
      event = refl;
      answered = answered;
      old = one.operation;
      was = one.there;
      unmarked = one.unmarked;
      new = record one.operation { synced = true };
      is = goes.marked;
      marked = refl;
    }
  where
    events_job : EndpointJob
    events_job = rules_of job

-- a second call, behind the first one
later_made : (job : JobState) (past run : List (EventAt OtherCall)) (at : StepAt)
    → TransfersHold job.settings (registry_of (handlers_of job)).table (script_meaning (handlers_of job))
    → AreAmong job run → (transfer : Transfer) (answer : ScriptAnswer)
    → EndsLater job past run at (on_transfer_call (Begin None transfer)) sync_of
    (λ told. unless (is_not_ready told) (as_synced told)) answer
    → answer ≡ said.Call (answers.Synced synced.Ok) → TransferIsMade job past run at transfer
later_made job past run at holds among transfer answer later same =
    let it = named_by later.first later.call later.next_is in
    let begin = on_transfer_call (Begin None transfer) in
    let call = on_transfer_call (SyncHandle it.0) in
    let synced_told = told_is (is_not_ready later.told) (as_synced later.told) (answers.Synced synced.Ok) answer
    later.ended same in
    let ok : later.told ≡ answers.Synced synced.Ok =
    synced_as later.told synced_told (λ done. sync_not_begun job run at it.0 begun.Done
    (remade job run at later.call call later.told (answers.Begun begun.Done) it.2 done later.made.made)) in
    let since_past = remade_since job past run at later.call call later.told (answers.Synced synced.Ok) it.2 ok
    later.made in
    let made = since_past.made in
    let sync = sync_done job past run at (SyncHandle it.0) holds among since_past in
    let first = remade job made.before at begin begin later.first (answers.Begun (begun.Handle it.0)) refl
    (begun_so job made.before at transfer later.first it.0 later.begun it.1) later.begun in
    let parts = prefix_among job first.before (call_event at first.now begin) first.later
    (subst (AreAmong job) first.run_is
    (prefix_among job made.before (call_event at made.now call) made.later (subst (AreAmong job) made.run_is among)).0) in
    let beginning : Beginning (rules_of job) = record {
      before = first.before;
      among = parts.0;
      now = first.now;
      node = at.rank;
      there = parts.1;
      thread = at.thread;
      call = Begin None transfer;
      transfer = transfer;
      number = it.0.serial;
      begins = (refl, first.answered);
    } in
    let answered : world_answer (rules_of job)
    (records_after job (first.before ++ call_event at first.now begin ∷ first.later)) (call_event at made.now call)
    ≡ OfNode (OfCall (answers.Synced synced.Ok)) =
    subst (λ (b : List (EventAt OtherCall)). world_answer (rules_of job) (records_after job b) (call_event at made.now call)
    ≡ OfNode (OfCall (answers.Synced synced.Ok))) first.run_is made.answered in
    record {
      handle = it.0;
      sync = sync;
      beginning = beginning;
      node_is = refl;
      thread_is = refl;
      call_is = refl;
      number_is = refl;
      transfer_is = refl;
      events = first.later;
      before_is = first.run_is;
      done = sync.done beginning first.later first.run_is
          (subst (λ (b : List (EventAt OtherCall)). Synchronises (rules_of job) (records_after job b)
          (call_event at made.now call) at.rank it.0.serial) (sym first.run_is)
          (synchronises job at transfer it.0 first.before first.later first.now made.now holds first.answered answered));
    }

transfer_made : (job : JobState) (past run : List (EventAt OtherCall)) (at : StepAt)
    → TransfersHold job.settings (registry_of (handlers_of job)).table (script_meaning (handlers_of job))
    → AreAmong job run → (transfer : Transfer) (began : Option Answer) (answer : ScriptAnswer)
    → EndsAsTried job past run at
    (Twice (on_transfer_call (Begin None transfer)) sync_of is_not_ready as_synced) began answer
    → answer ≡ said.Call (answers.Synced synced.Ok)
    → IsMadeSince job past run at (on_transfer_call (Begin None transfer)) (answers.Begun begun.Done)
    ⊎ TransferIsMade job past run at transfer
transfer_made job past run at holds among transfer began answer (inl first) same =
    inl (since_so job past run at (on_transfer_call (Begin None transfer)) first.told (answers.Begun begun.Done)
    (at_once job run at transfer first.told first.made.made
    (told_is (is_some (sync_of first.told)) (as_synced first.told) (answers.Synced synced.Ok) answer first.ended same))
    first.made)
transfer_made job past run at holds among transfer began answer (inr later) same =
    inr (later_made job past run at holds among transfer answer later same)

-- ---- all of them

-- the machine of its node before the turn of a told step, and how this step is tried by it
abbrev machine_of : {job : JobState} {traces : List Trace} {order : RunOrder} {line : ℕ} {words : Line}
    → IsStepTold job traces order line words → Machine
machine_of {job} told = machine_at job told.at.rank told.trace told.place

abbrev context_of : {job : JobState} {traces : List Trace} {order : RunOrder} {line : ℕ} {words : Line}
    → IsStepTold job traces order line words → StepContext
context_of {job} told = tried_at job told.at (machine_of told) told.entry.now

abbrev form_of : {job : JobState} {traces : List Trace} {order : RunOrder} {line : ℕ} {words : Line}
    → IsStepTold job traces order line words → ScriptStep → Form EndpointLocal
form_of {job} told one =
    step_form one (context_of told) (before_of job told.at.rank (machine_of told) told.entry)

-- how a told step ended, where it is this one
ends_of : (job : JobState) (traces : List Trace) (order : RunOrder) (line : ℕ) (words : Line)
    (told : IsStepTold job traces order line words) (one : ScriptStep) → told.step ≡ one
    → EndsAsTried job (past_of told) (run_told told) told.at (form_of told one) (begun_before (machine_of told) told.at)
    told.answer
ends_of job traces order line words told one same =
    subst (λ (s : ScriptStep). EndsAsTried job (past_of told) (run_told told) told.at (form_of told s)
    (begun_before (machine_of told) told.at) told.answer) same told.ends

pub lines_tell : (job : JobState) (traces : List Trace) (ranks : List ℕ) (turns : List (List (EventAt OtherCall)))
    → IsRunOf job (order_by job (entries_of traces) ranks) turns
    → ((rank : ℕ) (entries : List Entry) → slice_get (entries_of traces) rank ≡ Some entries
    → own_entries rank (order_by job (entries_of traces) ranks) ≡ entries)
    → LinesTell job traces (order_of_run job traces ranks turns)
lines_tell job traces ranks turns run own =
    let order = order_of_run job traces ranks turns in
    record {
      each = λ line words there. lines_told job traces ranks turns run own line words there;
      rise = lines_rise job traces order;
      syncs = λ line words told wait call is waited ok.
          sync_done job (past_of told) (run_told told) told.at call run.transfers
          (turns_among job (suc told.turn) turns run.among)
          (wait_made job (past_of told) (run_told told) told.at wait call (context_of told)
          (before_of job told.at.rank (machine_of told) told.entry) (begun_before (machine_of told) told.at)
          (answers.Synced synced.Ok) told.answer waited
          (ends_of job traces order line words told (step.Waiting wait) is) ok);
      transfers = λ line words told text is ok.
          transfer_made job (past_of told) (run_told told) told.at run.transfers
          (turns_among job (suc told.turn) turns run.among) text (begun_before (machine_of told) told.at) told.answer
          (ends_of job traces order line words told (step.Waiting (waiting.Transfer text)) is) ok;
      barriers = λ line words told id flags answer is said_so ends.
          barrier_done job (past_of told) (run_told told) told.at id flags answer run.barrier
          (turns_among job (suc told.turn) turns run.among) ends
          (made_so job (past_of told) (run_told told) told.at (tries_barrier id flags) is_not_ready
          (answers.Barrier answer)
          told.answer (ends_of job traces order line words told (step.Waiting (waiting.BarrierWait id flags)) is) said_so);
    }
