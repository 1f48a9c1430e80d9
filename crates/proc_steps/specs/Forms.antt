-- How each step of a script is tried, and where it ends.
-- Origin: this project's profile; waiting is that of the blocking calls of GASNet 1.8.1.
use Rattle.std.specs.Prelude.{◌≡◌, ℕ, ℤ, int_le, ◌==◌, if◌then◌else◌, Bool, true, false, not, List, []}
use Rattle.std.specs.Prelude.{Option, None, Some}
use Rattle.std.specs.Option.{option_map}
use Rattle.wire_message.specs.Parameters.{Parameters}
use Rattle.part_handlers.specs.declared.lock_answer.LockAnswer.TheVariants as locking
use Rattle.part_barrier.specs.declared.answer.BarrierAnswer.TheVariants as barrier
use Rattle.spec_node.specs.Record.{Node}
use Rattle.spec_node.specs.declared.answer.Asked.TheVariants as asked
use Rattle.part_transfers.specs.Operation.{has_unissued}
use Rattle.part_transfers.specs.declared.operation.Handle.{Handle}
use Rattle.part_transfers.specs.declared.operation.Synced.TheVariants as synced
use Rattle.part_transfers.specs.declared.operation.Transfer.{Transfer}
use Rattle.part_transfers.specs.declared.operation.Transfer.TheVariants as transfers
use Rattle.node_rules.specs.EndpointLocal.{EndpointLocal}
use Rattle.node_rules.specs.CoreCalls.{Cell, OnSegment}
use Rattle.node_rules.specs.Memory.{LoadWord}
use Rattle.node_rules.specs.EndpointRules.{OnCore, OnTransfers, OnBarrier}
use Rattle.node_rules.specs.TransferCalls.{TransferCall, Begin, BeginImplicit, Sync, SyncHandle}
use Rattle.node_rules.specs.TransferCalls.{SyncAll, SyncSome, SyncImplicit}
use Rattle.node_rules.specs.BarrierCalls.{TryBarrier}
use Rattle.node_rules.specs.Called.{Performs}
use Rattle.node_rules.specs.declared.answer.Answer.{Answer}
use Rattle.node_rules.specs.declared.answer.Answer.TheVariants as answers
use Rattle.node_rules.specs.declared.answer.Begun.TheVariants as begun
use Rattle.node_rules.specs.declared.answer.Local.TheVariants as local
use Rattle.text_calls.specs.Calls.{IsCall}
use Rattle.text_steps.specs.Scripts.{IsStep}
use Rattle.text_calls.specs.declared.scope.Scope.{Scope}
use Rattle.text_steps.specs.declared.steps.PutText.{PutText}
use Rattle.text_calls.specs.declared.scheduled.ScheduledCall.{ScheduledCall}
use Rattle.text_calls.specs.declared.scheduled.ScheduledCall.TheVariants as call
use Rattle.text_steps.specs.declared.steps.ScriptStep.{ScriptStep}
use Rattle.text_steps.specs.declared.steps.ScriptStep.TheVariants as step
use Rattle.text_steps.specs.declared.steps.WaitingStep.{WaitingStep}
use Rattle.text_steps.specs.declared.steps.WaitingStep.TheVariants as waiting
use Rattle.text_script.specs.Bodies.{operand_value}
use Rattle.text_script.specs.ScheduledCalls.{meant_by}
use Rattle.part_collective_area.specs.declared.shape.Shape.{Shape}
use Rattle.proc_collective_steps.specs.Parts.{end_part, first_part, later_part, start_part, step_part}
-- for those who stand on steps of scripts
pub use Rattle.proc_collective_steps.specs.Parts.{calls_of_all, site_of}
use Rattle.node_collectives.specs.CollectivesState.{CollectivesState}
use Rattle.node_collectives.specs.declared.answers.StepAnswer.TheVariants as steps
use Rattle.text_steps.specs.declared.steps.CollectiveText.{CollectiveText}
use Rattle.text_steps.specs.declared.steps.CollectiveText.TheVariants as text
use Rattle.node_vis.specs.Beginning.{BeginCall, calls_made, vis_answer}
use Rattle.node_vis.specs.Plans.{PlanState}
use Rattle.law_traces.specs.Actions.{Form, Once, Again, Until, Twice, Looks, Several, Part, StepContext, Reading}
use Rattle.law_traces.specs.Scripts.{ThreadCall, TryContext}
use Rattle.law_traces.specs.declared.script_answer.ScriptAnswer.{ScriptAnswer}
use Rattle.law_traces.specs.declared.script_answer.ScriptAnswer.TheVariants as said

-- ---- answers at which a step waits

-- a request can't go now: all credits are outstanding, or a handler that would run waits for a lock
abbrev pub is_put_off : Answer → Bool
is_put_off (answers.Asked asked.NotYet) = true
is_put_off (answers.Asked (asked.LockBusy lock)) = true
is_put_off _ = false

-- another one holds the lock
abbrev pub is_held : Answer → Bool
is_held (answers.Lock locking.Held) = true
is_held _ = false

-- what is synchronised isn't complete (GASNET_ERR_NOT_READY)
abbrev pub is_not_ready : Answer → Bool
is_not_ready (answers.Synced synced.NotReady) = true
is_not_ready (answers.Barrier barrier.NotReady) = true
is_not_ready _ = false

-- ---- answers that end a step which looks at the local node

-- ok, where the cell that was read is at least the value
abbrev pub cell_reached : (value : ℤ) → Answer → Option ScriptAnswer
cell_reached value (answers.Local (local.Cell number)) =
    if int_le value number then Some (said.Call (answers.Local local.Done)) else None
cell_reached value _ = None

-- ok, where the word that was read is this number; and a refusal of the place
abbrev pub word_reached : (number : ℕ) → Answer → Option ScriptAnswer
word_reached number (answers.Local (local.Number found)) =
    if found == number then Some (said.Call (answers.Local local.Done)) else None
word_reached number answer = Some (said.Call answer)

-- ---- calls that a schedule has, too

-- at which answers the step of such a call waits: that of a request and of a lock; the others never wait
abbrev pub waits_of : ScheduledCall → Option (Answer → Bool)
waits_of (call.Short to handler operands) = Some is_put_off
waits_of (call.Medium text) = Some is_put_off
waits_of (call.Long text) = Some is_put_off
waits_of (call.LongAsync text) = Some is_put_off
waits_of (call.Atomic batch) = Some is_put_off
waits_of (call.Lock lock) = Some is_held
waits_of _ = None

-- the call once, or again while it is answered so
abbrev pub tried_while : Option (Answer → Bool) → (meant : ThreadCall) → Form EndpointLocal
tried_while None meant = Once meant
tried_while (Some waits) meant = Again waits meant

abbrev pub call_form : ScheduledCall → (meant : ThreadCall) → Form EndpointLocal
call_form call meant = tried_while (waits_of call) meant

-- the step of such a call waits at this answer of the call
abbrev pub waits_at : ScheduledCall → Answer → Bool
waits_at call answer = elim (waits_of call) [
  | None ↦ false
  | Some waits ↦ waits answer
]

-- ---- transfers

-- the handle of what the answer says is under way
abbrev pub begun_handle : Answer → Option Handle
begun_handle (answers.Begun (begun.Handle handle)) = Some handle
begun_handle (answers.Started (begun.Handle handle)) = Some handle
begun_handle _ = None

abbrev pub on_transfers : TransferCall → ThreadCall
on_transfers call = Performs (OnTransfers call)

-- the second call of a blocking transfer: the synchronisation of what its first one began, if that is under way
abbrev pub sync_of : (first : Answer) → Option ThreadCall
sync_of first = option_map (λ handle. on_transfers (SyncHandle handle)) (begun_handle first)

-- a blocking transfer that was done in its first call is answered as one that was synchronised
abbrev pub as_synced : Answer → Answer
as_synced (answers.Begun begun.Done) = answers.Synced synced.Ok
as_synced answer = answer

-- no chunk of the operation of that handle is unissued
abbrev pub is_issued : Option Handle → Node EndpointLocal → Bool
is_issued None node = true
is_issued (Some handle) node = not (has_unissued handle.serial node.local.operations)

-- no chunk of what the first call began is unissued; so it is where that began nothing
abbrev pub is_sent : (first : Answer) → Node EndpointLocal → Bool
is_sent first node = is_issued (begun_handle first) node

-- the transfer of a put of a script alone
abbrev pub put_of : PutText → Transfer
put_of put = transfers.Put put.to put.remote put.local put.len

-- ---- transfers of many pieces

-- several calls in one try, which ends the step
abbrev pub in_one_try : Part → Form EndpointLocal
in_one_try part = Several part part

-- the pieces of a plan from one on are begun in a region of the thread, whose handle goes into the register. The calls
-- and the answer are those of that beginning, of the record that the try finds
abbrev pub plan_form : (plan : PlanState) → (from register : ℕ) → TryContext → Node EndpointLocal → Form EndpointLocal
plan_form plan from register at node =
    let asked : BeginCall = record { plan = plan; thread = at.thread; from = from; register = register } in
    let answer = vis_answer (site_of at) node asked in
    in_one_try (record {
      calls = calls_of_all (calls_made asked answer);
      ended = Some (said.Vis answer);
      next = None;
    })

-- ---- collectives of the node

-- a step of a node that has none
abbrev pub nothing_part : Part
nothing_part = record { calls = []; ended = Some (said.Step steps.Nothing); next = None }

abbrev pub nothing_there : Form EndpointLocal
nothing_there = in_one_try nothing_part

-- one call of the collectives, of the record that the try finds
abbrev pub call_part : CollectiveText → TryContext → Node EndpointLocal → CollectivesState → Part
call_part (text.Start shape from) at node it = start_part at shape from node it
call_part text.Step at node it = step_part at node it
call_part (text.Try dest) at node it = end_part at dest node it

abbrev pub collective_form : CollectiveText → StepContext → Node EndpointLocal → Form EndpointLocal
collective_form call at node = elim at.collectives [
  | None ↦ nothing_there
  | Some it ↦ in_one_try (call_part call at.place node it)
]

-- a whole collective of the node: the start at each turn until it waits for no lock; then a step and a try to end at
-- each turn until the phase ends
abbrev pub whole_form : Shape → (from dest : ℕ) → StepContext → Node EndpointLocal → Form EndpointLocal
whole_form shape from dest at node = elim at.collectives [
  | None ↦ nothing_there
  | Some it ↦ if it.me == at.place.me
      then Several (first_part at.place shape from node it) (later_part at.place dest node it) else nothing_there
]

-- ---- steps

-- how a step that scripts alone have is tried, by the cells of its node
abbrev pub waiting_form : (cells : List ℤ) → WaitingStep → Form EndpointLocal
waiting_form cells (waiting.Until cell operand) =
    Until (Performs (OnCore (Cell cell))) (cell_reached (operand_value cells [] operand))
waiting_form cells (waiting.UntilWord offset number) =
    Until (Performs (OnCore (OnSegment (LoadWord offset)))) (word_reached number)
-- gasnet_put, gasnet_get and gasnet_memset: the operation is begun without a register
waiting_form cells (waiting.Transfer transfer) =
    Twice (on_transfers (Begin None transfer)) sync_of is_not_ready as_synced
-- gasnet_put_nb and gasnet_put_nbi: the source may be written again once all chunks were issued
waiting_form cells (waiting.PutBegin register put) =
    Looks (on_transfers (Begin (Some register) (put_of put))) is_sent
waiting_form cells (waiting.PutImplicit put) = Looks (on_transfers (BeginImplicit (put_of put))) is_sent
-- gasnet_wait_syncnb and its like
waiting_form cells (waiting.Wait register) = Again is_not_ready (on_transfers (Sync register))
waiting_form cells (waiting.WaitAll registers) = Again is_not_ready (on_transfers (SyncAll registers))
waiting_form cells (waiting.WaitSome registers) = Again is_not_ready (on_transfers (SyncSome registers))
waiting_form cells (waiting.WaitImplicit which) =
    Again is_not_ready (on_transfers (SyncImplicit which))
-- gasnet_barrier_wait
waiting_form cells (waiting.BarrierWait id flags) = Again is_not_ready (Performs (OnBarrier (TryBarrier id flags)))
-- a whole collective is read by how far the node's collectives are, too (`waiting_in`)
waiting_form cells (waiting.Collective shape from dest) = nothing_there

-- how such a step is tried in a context
abbrev pub waiting_in : WaitingStep → StepContext → Node EndpointLocal → Form EndpointLocal
waiting_in (waiting.Collective shape from dest) at node = whole_form shape from dest at node
waiting_in step at node = waiting_form node.local.core.cells step

-- how a step is tried, by the record of its node as the try begins: `cN` is read from the node's cells
abbrev pub step_form : Reading EndpointLocal ScriptStep
step_form (step.Call call) at node = call_form call (meant_by node.local.core.cells call)
step_form (step.Vis vis) at node = plan_form vis.plan vis.words.from vis.words.register at.place node
step_form (step.Collective call) at node = collective_form call at node
step_form (step.Waiting waiting) at node = waiting_in waiting at node

-- ---- kinds of steps

-- the call may stand in some job
abbrev pub IsJobCall : ScheduledCall → Type 0
IsJobCall call = (scope : Scope) × IsCall scope call

-- the step may stand in some job of these settings
abbrev pub IsJobStep : Parameters → ScriptStep → Type 0
IsJobStep settings step = (scope : Scope) × (scope.settings ≡ settings) × IsStep scope step

-- the step begins a put, and waits until its chunks are issued
abbrev pub IsPut : WaitingStep → Type 0
IsPut (waiting.PutBegin register put) = Unit {0}
IsPut (waiting.PutImplicit put) = Unit {0}
IsPut _ = ⊥

-- the step isn't a whole collective
abbrev pub IsPlain : WaitingStep → Type 0
IsPlain (waiting.Collective shape from dest) = ⊥
IsPlain _ = Unit {0}

-- the step waits at a synchronisation or at the barrier
abbrev pub IsSync : WaitingStep → Type 0
IsSync (waiting.Wait register) = Unit {0}
IsSync (waiting.WaitAll registers) = Unit {0}
IsSync (waiting.WaitSome registers) = Unit {0}
IsSync (waiting.WaitImplicit which) = Unit {0}
IsSync (waiting.BarrierWait id flags) = Unit {0}
IsSync _ = ⊥
