-- The recorders of a job's nodes before all turns, and what their merge leaves.
-- Origin: this project's profile.
use Rattle.std.specs.Prelude.{◌≡◌, ◌≤◌, ◌^◌, ℕ, true, List, length, map, slice_get, IsSomeAnd, Result, Ok, Err}
use Rattle.std.specs.List.{flat_map}
use Rattle.std.specs.Option.{ForSome}
use Rattle.node_endpoint.specs.EndpointState.{EndpointState, IsNodeOf}
use Rattle.text_trace.specs.declared.merging.MergeFault.{MergeFault}
use Rattle.text_trace.specs.declared.merging.MergeFault.TheVariants as faults
use Rattle.text_trace.specs.declared.trace.Trace.{Trace}
use Rattle.text_job.specs.declared.job.Job.{Job as JobState}
use Rattle.proc_machine.specs.Kept.{MachineKept}
use Rattle.base_text.specs.LineTexts.{spell}
use Rattle.text_script.specs.Registration.{handlers_of, registry_of}
use Rattle.cli_check.specs.Recording.{RecorderKept, RecorderStands, opening_record}
use Rattle.cli_check.specs.StepLines.{most_held, step_lines}
use Rattle.cli_check.specs.Machines.{first_machine}
use Rattle.cli_check.specs.TracesRun.{AreNodesAfter, AreNoRun, AreRanked, RunOfTraces}
use Rattle.cli_check.specs.declared.machines.RunReport.{RunReport}
use Rattle.cli_check.specs.declared.recorder.NodeReport.{NodeReport}

-- ---- recorders

-- the recorder of each node of the job, before all turns
pub record AreFirstRecorders (job : JobState) (recorders : List RecorderKept) : Type 0 where
  pub count : length recorders ≡ job.settings.nodes
  pub each : (rank : ℕ) → ForSome (slice_get recorders rank) (λ one. RecorderStands one (opening_record job rank))

-- the endpoint of a machine is that of a node of its job
abbrev pub IsOfItsJob : MachineKept → Type 0
IsOfItsJob machine =
    IsNodeOf machine.job.settings
    (registry_of (handlers_of machine.job)).table machine.endpoint.core.me machine.endpoint

-- these are the endpoint of a recorder whose text is whole, and what was recorded
pub record ClosesRecorder (kept : RecorderKept) (endpoint : EndpointState) (report : NodeReport) : Type 0 where
  pub whole : kept.whole ≡ true
  pub endpoint_is : endpoint ≡ kept.node.endpoint
  pub own : IsOfItsJob kept.node
  pub text_is : report.text.taken ≡ kept.text
  pub most_is : report.most ≡ kept.most

-- the text of a recorder is whole, and its node is one of its job
pub record IsWholeRecorder (kept : RecorderKept) : Type 0 where
  pub whole : kept.whole ≡ true
  pub own : IsOfItsJob kept.node

-- these are the endpoints of recorders whose texts are whole, and what was recorded, in their order
pub record ClosesAll (recorders : List RecorderKept) (all : RunReport) : Type 0 where
  pub nodes : all.nodes.items ≡ map (λ kept. kept.node.endpoint) recorders
  pub texts : map (λ report. report.text.taken) all.reports.items ≡ map (λ kept. kept.text) recorders
  pub most : map (λ report. report.most) all.reports.items ≡ map (λ kept. kept.most) recorders
  pub each : (rank : ℕ) → ForSome (slice_get recorders rank) IsWholeRecorder

-- ---- what was recorded of the nodes of a run

-- of the node of this rank, with this trace: the text of the lines of its steps, and the most that it held
pub record IsReportOf (job : JobState) (rank : ℕ) (trace : Trace) (report : NodeReport) : Type 0 where
  pub text_is : report.text.taken ≡ spell (step_lines job rank (first_machine job rank) trace.entries)
  pub most_is : report.most ≡ most_held job rank trace.entries

-- of each node, in rising order of ranks
pub record AreReports (job : JobState) (traces : List Trace) (reports : List NodeReport) : Type 0 where
  pub count : length reports ≡ length traces
  pub each : (rank : ℕ) → ForSome (slice_get reports rank) (λ report.
      IsSomeAnd (slice_get traces rank) (λ trace. IsReportOf job rank trace report))

-- the texts, one after the other
abbrev pub texts_of : List NodeReport → List ℕ
texts_of reports = flat_map (λ report. report.text.taken) reports

-- there is one of each node, and each node is that of its place
pub record CanBeWritten (all : RunReport) : Type 0 where
  pub few : length all.nodes.items ≤ 2 ^ 16
  pub count : length all.reports.items ≡ length all.nodes.items
  pub ranks : AreRanked all.nodes.items

-- the traces are a run, which leaves these nodes, and this was recorded of them
pub record IsMerged (job : JobState) (traces : List Trace) (all : RunReport) : Type 0 where
  pub run : RunOfTraces job traces
  pub nodes_after : AreNodesAfter job traces all.nodes.items
  pub reports : AreReports job traces all.reports.items

-- traces are a run; or they are none; or memory ran out before that is known
abbrev pub MergesTraces : JobState → List Trace → Result RunReport MergeFault → Type 0
MergesTraces job traces (Ok all) = IsMerged job traces all
MergesTraces job traces (Err (faults.NotARun node entry)) = AreNoRun job traces node entry
MergesTraces job traces (Err faults.NoMemory) = Unit {0}
