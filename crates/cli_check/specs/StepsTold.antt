-- What the lines of the steps of a run of traces tell. Of each: which step of which thread ended, by which calls of the
-- run, and how these were answered there.
-- Origin: this project's profile. What an `ok` of a transfer and of the barrier means is that of GASNet 1.8.1.
use Rattle.std.specs.Prelude.{◌≡◌, ◌<◌, ◌⊎◌, ℕ, ℤ, zero, suc, ◌==◌, ◌&&◌, if◌then◌else◌, List, [], ◌∷◌, ◌++◌, Option}
use Rattle.std.specs.Prelude.{Some, None, ◌+◌, is_some, length, slice_get, take}
use Rattle.text_trace.specs.declared.trace.Trace.{Trace}
use Rattle.base_turns.specs.declared.entry.Entry.{Entry}
use Rattle.law_barrier.specs.BarrierLaws.{EndsPhase, TellsOutcome}
use Rattle.node_rules.specs.BarrierCalls.{TryBarrier}
use Rattle.node_rules.specs.Called.{Requests, Performs, event_at}
use Rattle.node_rules.specs.EndpointLocal.{EndpointLocal}
use Rattle.node_rules.specs.EndpointRules.{OtherCall, OnBarrier, OnTransfers, Records, asked_answer, at_the_opening}
use Rattle.node_rules.specs.EndpointRules.{job_of, timed_event}
use Rattle.node_rules.specs.TransferCalls.{TransferCall, Begin, Sync, SyncAll, SyncHandle, SyncImplicit, SyncSome}
use Rattle.node_rules.specs.declared.answer.Begun.TheVariants as begun
use Rattle.node_rules.specs.declared.answer.Answer.{Answer}
use Rattle.node_rules.specs.declared.answer.Answer.TheVariants as answers
use Rattle.text_job.specs.declared.job.Job.{Job as JobState}
use Rattle.text_steps.specs.declared.steps.ScriptStep.{ScriptStep}
use Rattle.text_steps.specs.declared.steps.ScriptStep.TheVariants as step
use Rattle.text_steps.specs.declared.steps.WaitingStep.{WaitingStep}
use Rattle.text_steps.specs.declared.steps.WaitingStep.TheVariants as waiting
use Rattle.part_barrier.specs.declared.answer.BarrierAnswer.{BarrierAnswer}
use Rattle.proc_machine.specs.NodeState.{script_job, steps_of_thread}
use Rattle.spec_node.specs.NodeStep.{OfCall, OfRequest}
use Rattle.spec_node.specs.Record.{Node as Record}
use Rattle.spec_node.specs.declared.answer.Asked.{Asked}
use Rattle.law_traces.specs.Actions.{Form, Once, Again, Until, Twice, Looks, Several, OwnScripts, Part, StepContext}
use Rattle.law_traces.specs.Actions.{step_part_of, step_context, unless}
use Rattle.law_traces.specs.Order.{NodeEntry, own_entries, replay}
use Rattle.law_traces.specs.Scripts.{ThreadCall}
use Rattle.law_traces.specs.Turn.{MachineState, as_tried, context}
use Rattle.law_traces.specs.declared.script_answer.ScriptAnswer.{ScriptAnswer}
use Rattle.law_traces.specs.declared.script_answer.ScriptAnswer.TheVariants as said
use Rattle.text_script.specs.Bodies.{script_meaning}
use Rattle.base_text.specs.LineTexts.{Line}
use Rattle.text_script.specs.Registration.{handlers_of, registry_of}
use Rattle.spec_network.specs.World.{EventAt, WorldAnswer, OfNode, run, world_answer}
use Rattle.part_transfers.specs.declared.operation.Handle.{Handle}
use Rattle.part_transfers.specs.declared.operation.Synced.TheVariants as synced
use Rattle.part_transfers.specs.declared.operation.Transfer.{Transfer}
use Rattle.proc_steps.specs.Forms.{step_form}
use Rattle.law_transfers.specs.Chunks.{EndpointJob}
use Rattle.law_transfers.specs.TransferLaws.{Beginning, IsDoneSince, Synchronises, transfer_event}
use Rattle.cli_check.specs.StepLines.{StepAt, machine_after, answer_of_step, step_line, step_lines, steps_from}
use Rattle.cli_check.specs.Machines.{first_machine}

-- ---- calls of a run

-- the rules of the job, as the laws of its runs have them
abbrev pub rules_of : JobState → EndpointJob
rules_of job = job_of job.settings (registry_of (handlers_of job)).table (script_meaning (handlers_of job))

-- the records of its nodes after these events from the opening on
abbrev pub records_after : JobState → List (EventAt OtherCall) → Records
records_after job events = run (rules_of job) events (at_the_opening job.settings)

-- the world's answer to a call is this one
abbrev pub IsReply : ThreadCall → Answer → WorldAnswer Answer → Type 0
IsReply (Requests to asking) answer reply =
    (asked : Asked) × (reply ≡ OfNode (OfRequest asked)) × (answer ≡ asked_answer asked)
IsReply (Performs call) answer reply = reply ≡ OfNode (OfCall answer)

-- the event of a call of a thread at this time
abbrev pub call_event : StepAt → (now : ℕ) → ThreadCall → EventAt OtherCall
call_event at now call = timed_event now (event_at at.rank at.thread call)

-- an event of the run is that the thread makes this call, and there it is answered so
pub record IsCallMade (job : JobState) (run : List (EventAt OtherCall)) (at : StepAt) (call : ThreadCall)
    (answer : Answer)
    : Type 0 where
  pub before : List (EventAt OtherCall)
  pub now : ℕ
  pub later : List (EventAt OtherCall)
  pub run_is : run ≡ before ++ call_event at now call ∷ later
  pub answered : IsReply call answer (world_answer (rules_of job) (records_after job before) (call_event at now call))

-- so it is of an event behind the first ones of the run
pub record IsMadeSince (job : JobState) (past run : List (EventAt OtherCall)) (at : StepAt) (call : ThreadCall)
    (answer : Answer) : Type 0 where
  pub made : IsCallMade job run at call answer
  pub between : List (EventAt OtherCall)
  pub before_is : made.before ≡ past ++ between

-- ---- how a step ended, in a turn behind these events of the past, where the run is that up to the end of the turn

-- one call was made in the turn, and its answer ended the step
pub record EndsAtCall (job : JobState) (past run : List (EventAt OtherCall)) (at : StepAt) (call : ThreadCall)
    (ends : Answer → Option ScriptAnswer) (answer : ScriptAnswer) : Type 0 where
  pub told : Answer
  pub made : IsMadeSince job past run at call told
  pub ended : ends told ≡ Some answer

-- a call began something, in an event before that of the call in the turn which ended the step; what that call is the
-- answer of the first one says
pub record EndsLater (job : JobState) (past run : List (EventAt OtherCall)) (at : StepAt) (begin : ThreadCall)
    (next : Answer → Option ThreadCall) (ends : Answer → Option ScriptAnswer) (answer : ScriptAnswer) : Type 0 where
  pub first : Answer
  pub call : ThreadCall
  pub next_is : next first ≡ Some call
  pub told : Answer
  pub made : IsMadeSince job past run at call told
  pub begun : IsCallMade job made.made.before at begin first
  pub ended : ends told ≡ Some answer

-- a call began something, and its answer is the step's
pub record EndsAsBegun (job : JobState) (run : List (EventAt OtherCall)) (at : StepAt) (begin : ThreadCall)
    (answer : ScriptAnswer) : Type 0 where
  pub first : Answer
  pub begun : IsCallMade job run at begin first
  pub ended : answer ≡ said.Call first

-- the calls of this part of the step were made in the turn, and it ends the step with this answer
pub record EndsAfterAll (job : JobState) (past run : List (EventAt OtherCall)) (at : StepAt) (part : Part)
    (answer : ScriptAnswer) : Type 0 where
  pub each : (place : ℕ) (call : ThreadCall) → slice_get part.calls place ≡ Some call
      → (told : Answer) × IsMadeSince job past run at call told
  pub ended : part.ended ≡ Some answer

-- so it is of a step that is tried in this form, where an earlier try began it with this answer, if one did
abbrev pub EndsAsTried : JobState → (past run : List (EventAt OtherCall)) → StepAt → Form EndpointLocal
    → (began : Option Answer) → ScriptAnswer → Type 0
EndsAsTried job past run at (Once call) began answer =
    EndsAtCall job past run at call (λ told. Some (said.Call told)) answer
EndsAsTried job past run at (Again waits call) began answer =
    EndsAtCall job past run at call (λ told. unless (waits told) told) answer
EndsAsTried job past run at (Until call ends) began answer = EndsAtCall job past run at call ends answer
EndsAsTried job past run at (Twice begin next waits says) began answer =
    EndsAtCall job past run at begin (λ told. unless (is_some (next told)) (says told)) answer
    ⊎ EndsLater job past run at begin next (λ told. unless (waits told) (says told)) answer
EndsAsTried job past run at (Looks begin ready) began answer = EndsAsBegun job run at begin answer
EndsAsTried job past run at (Several first later) began answer =
    EndsAfterAll job past run at (step_part_of first later began) answer

-- ---- which step it is

-- how many steps of a thread end in the turns of these entries of its node
abbrev pub steps_ended_in : JobState → StepAt → MachineState EndpointLocal (OwnScripts ScriptStep) → List Entry → ℕ
steps_ended_in job at machine [] = 0
steps_ended_in job at machine (entry ∷ entries) =
    if (entry.thread == at.thread) && is_some (answer_of_step job at.rank machine entry)
    then suc (steps_ended_in job at (machine_after job at.rank machine entry) entries)
    else steps_ended_in job at (machine_after job at.rank machine entry) entries

-- the machine of a node before the turn of the entry at this place of its trace
abbrev pub machine_at : JobState → (rank : ℕ) → Trace → (place : ℕ)
    → MachineState EndpointLocal (OwnScripts ScriptStep)
machine_at job rank trace place = replay (script_job job) rank (first_machine job rank) (take place trace.entries)

-- how many lines of steps stand before that of this entry: those of the nodes before, and of the entries before
abbrev pub lines_before : JobState → List Trace → (rank : ℕ) → Trace → (place : ℕ) → ℕ
lines_before job traces rank trace place =
    length (steps_from job 0 (take rank traces))
    + length (step_lines job rank (first_machine job rank) (take place trace.entries))

-- in which job, at which node and when a step is tried, and how far the collectives of that node are, whose machine is
-- this one
abbrev pub tried_at : JobState → StepAt → MachineState EndpointLocal (OwnScripts ScriptStep) → (now : ℕ) → StepContext
tried_at job at machine now = step_context (context (script_job job) at.rank at.thread now) machine.own

-- the answer with which an earlier try began the next step of a thread, if one did
abbrev pub begun_before : MachineState EndpointLocal (OwnScripts ScriptStep) → StepAt → Option Answer
begun_before machine at = (machine.own.threads at.thread).began

-- the record of a node as the step of its thread is tried in the turn of an entry
abbrev pub before_of : JobState → (rank : ℕ) → MachineState EndpointLocal (OwnScripts ScriptStep) → Entry
    → Record EndpointLocal
before_of job rank machine entry = as_tried (script_job job) rank machine entry.thread entry.now entry.got

-- the events of the first so many turns
abbrev pub first_turns : (count : ℕ) → List (List (EventAt OtherCall)) → List (EventAt OtherCall)
first_turns zero turns = []
first_turns (suc count) [] = []
first_turns (suc count) (turn ∷ turns) = turn ++ first_turns count turns

-- a run of traces: its entries in their order, and the events of the turn of each
pub record RunOrder : Type 0 where
  pub items : List NodeEntry
  pub turns : List (List (EventAt OtherCall))

-- what this line, counted from 0, tells of the run of these traces: in the turn of its entry, the one of this number of
-- the run, counted from 0, the step of this number of the thread's script, counted from 0, ended so, by what happened
-- in the run up to the end of that turn; and the words are the thread's and those of the answer, by the node's record
-- after that turn
pub record IsStepTold (job : JobState) (traces : List Trace) (order : RunOrder) (line : ℕ) (words : Line) : Type 0 where
  pub at : StepAt
  pub trace : Trace
  pub trace_is : slice_get traces at.rank ≡ Some trace
  pub place : ℕ
  pub entry : Entry
  pub entry_is : slice_get trace.entries place ≡ Some entry
  pub line_is : line ≡ lines_before job traces at.rank trace place
  pub thread_is : entry.thread ≡ at.thread
  pub number : ℕ
  pub number_is : number ≡ steps_ended_in job at (first_machine job at.rank) (take place trace.entries)
  pub step : ScriptStep
  pub step_is : slice_get (steps_of_thread job.scripts at.rank at.thread) number ≡ Some step
  pub answer : ScriptAnswer
  pub answered : answer_of_step job at.rank (machine_at job at.rank trace place) entry ≡ Some answer
  pub turn : ℕ
  pub turn_is : slice_get order.items turn ≡ Some (record { node = at.rank; entry = entry })
  pub own_is : own_entries at.rank (take turn order.items) ≡ take place trace.entries
  pub ends : EndsAsTried job (first_turns turn order.turns) (first_turns (suc turn) order.turns) at
      (step_form step (tried_at job at (machine_at job at.rank trace place) entry.now)
      (before_of job at.rank (machine_at job at.rank trace place) entry))
      (begun_before (machine_at job at.rank trace place) at) answer
  pub node_is : records_after job (first_turns (suc turn) order.turns) at.rank
      ≡ (machine_after job at.rank (machine_at job at.rank trace place) entry).node
  pub words_are : words ≡ step_line job at (records_after job (first_turns (suc turn) order.turns) at.rank) answer

-- one turn of the run is later than another: all that happened up to the end of the earlier one stands before the
-- events of the later one
pub record IsLater (order : RunOrder) (turn later : ℕ) : Type 0 where
  pub more : turn < later
  pub between : List (EventAt OtherCall)
  pub is : first_turns later order.turns ≡ first_turns (suc turn) order.turns ++ between

-- ---- what an answer of a sync and of the barrier says

-- a call on transfers, and one on the barrier
abbrev pub on_transfer_call : TransferCall → ThreadCall
on_transfer_call call = Performs (OnTransfers call)

abbrev pub tries_barrier : ℤ → (flags : ℕ) → ThreadCall
tries_barrier id flags = Performs (OnBarrier (TryBarrier id flags))

-- where a sync of the turn was answered Ok, each transfer that began before and that it synchronises was done in
-- between
pub record SyncIsMade (job : JobState) (past run : List (EventAt OtherCall)) (at : StepAt) (call : TransferCall)
    : Type 0 where
  pub made : IsMadeSince job past run at (on_transfer_call call) (answers.Synced synced.Ok)
  pub done : (beginning : Beginning (rules_of job)) (events : List (EventAt OtherCall))
      → made.made.before
      ≡ beginning.before ++ transfer_event beginning.now beginning.node beginning.thread beginning.call ∷ events
      → Synchronises (rules_of job) (records_after job made.made.before)
      (call_event at made.made.now (on_transfer_call call))
      beginning.node beginning.number
      → IsDoneSince (rules_of job) beginning events

-- a transfer was begun by the thread, a sync of its handle in the turn was answered Ok, and in between the transfer was
-- done
pub record TransferIsMade (job : JobState) (past run : List (EventAt OtherCall)) (at : StepAt) (transfer : Transfer)
    : Type 0 where
  pub handle : Handle
  pub sync : SyncIsMade job past run at (SyncHandle handle)
  pub beginning : Beginning (rules_of job)
  pub node_is : beginning.node ≡ at.rank
  pub thread_is : beginning.thread ≡ at.thread
  pub call_is : beginning.call ≡ Begin None transfer
  pub number_is : beginning.number ≡ handle.serial
  pub transfer_is : beginning.transfer ≡ transfer
  pub events : List (EventAt OtherCall)
  pub before_is : sync.made.made.before
      ≡ beginning.before ++ transfer_event beginning.now beginning.node beginning.thread beginning.call ∷ events
  pub done : IsDoneSince (rules_of job) beginning events

-- a try of the barrier in the turn was answered so, which tells the outcome of the notifies of all nodes
pub record BarrierIsTried (job : JobState) (past run : List (EventAt OtherCall)) (at : StepAt) (id : ℤ) (flags : ℕ)
    (answer : BarrierAnswer) : Type 0 where
  pub made : IsMadeSince job past run at (tries_barrier id flags) (answers.Barrier answer)
  pub tells : TellsOutcome job.settings (records_after job made.made.before)
      (record { now = made.made.now; node = at.rank; thread = at.thread; id = id; flags = flags }) answer

-- the synchronisation at which a step waits
abbrev pub sync_waited : WaitingStep → Option TransferCall
sync_waited (waiting.Wait register) = Some (Sync register)
sync_waited (waiting.WaitAll registers) = Some (SyncAll registers)
sync_waited (waiting.WaitSome registers) = Some (SyncSome registers)
sync_waited (waiting.WaitImplicit which) = Some (SyncImplicit which)
sync_waited other = None

-- ---- all lines

-- what happened before the turn of a line, and up to its end
abbrev pub past_of : {job : JobState} {traces : List Trace} {order : RunOrder} {line : ℕ} {words : Line}
    → IsStepTold job traces order line words → List (EventAt OtherCall)
past_of {job} {traces} {order} told = first_turns told.turn order.turns

abbrev pub run_told : {job : JobState} {traces : List Trace} {order : RunOrder} {line : ℕ} {words : Line}
    → IsStepTold job traces order line words → List (EventAt OtherCall)
run_told {job} {traces} {order} told = first_turns (suc told.turn) order.turns

-- each line of the steps of a run of these traces tells how its step ended. So an `ok` of a step that waits for
-- transfers, of a blocking transfer, and an `ok` or a `mismatch` of one that waits at the barrier, is what the laws of
-- transfers and of the barrier speak of, in the very turn of the line. And of two lines of one node the later one is of
-- a later turn
pub record LinesTell (job : JobState) (traces : List Trace) (order : RunOrder) : Type 0 where
  pub each : (line : ℕ) (words : Line) → slice_get (steps_from job 0 traces) line ≡ Some words
      → IsStepTold job traces order line words
  pub rise : (line other : ℕ) (words more : Line) (one : IsStepTold job traces order line words)
      (two : IsStepTold job traces order other more)
      → one.at.rank ≡ two.at.rank → line < other → IsLater order one.turn two.turn
  pub syncs : (line : ℕ) (words : Line) (told : IsStepTold job traces order line words)
      (wait : WaitingStep) (call : TransferCall)
      → told.step ≡ step.Waiting wait → sync_waited wait ≡ Some call
      → told.answer ≡ said.Call (answers.Synced synced.Ok) → SyncIsMade job (past_of told) (run_told told) told.at call
  pub transfers : (line : ℕ) (words : Line) (told : IsStepTold job traces order line words) (text : Transfer)
      → told.step ≡ step.Waiting (waiting.Transfer text) → told.answer ≡ said.Call (answers.Synced synced.Ok)
      → IsMadeSince job (past_of told) (run_told told) told.at (on_transfer_call (Begin None text))
      (answers.Begun begun.Done)
      ⊎ TransferIsMade job (past_of told) (run_told told) told.at text
  pub barriers : (line : ℕ) (words : Line) (told : IsStepTold job traces order line words) (id : ℤ) (flags : ℕ)
      (answer : BarrierAnswer) → told.step ≡ step.Waiting (waiting.BarrierWait id flags)
      → told.answer ≡ said.Call (answers.Barrier answer) → EndsPhase answer
      → BarrierIsTried job (past_of told) (run_told told) told.at id flags answer
