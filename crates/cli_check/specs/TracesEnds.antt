-- How the check of traces ends, and what is written: they are judged without the bytes that their nodes refuse.
-- Origin: this project's profile.
use Rattle.std.specs.Prelude.{◌≡◌, ◌⊎◌, ℕ, Bool, List}
use Rattle.base_io.specs.Buffered.{Outbox, Gathers, GathersPrefix}
use Rattle.node_endpoint.specs.EndpointState.{EndpointState}
use Rattle.text_trace.specs.declared.trace.Trace.{Trace}
use Rattle.text_job.specs.declared.job.Job.{Job as JobState}
use Rattle.base_text.specs.LineTexts.{Line, spell}
use Rattle.sim_run.specs.LinesWritten.{LinesUpTo}
use Rattle.cli_check.specs.StepLines.{is_violated, run_lines}
use Rattle.cli_check.specs.Rejected.{accepted_traces}
use Rattle.cli_check.specs.TracesRun.{AreNodesAfter, AreNoRun, RunOfTraces}
use Rattle.cli_check.specs.declared.run.TracesEnd.{TracesEnd}
use Rattle.cli_check.specs.declared.run.TracesEnd.TheVariants as ends

-- they are a run, all its lines went in, and these nodes are left: those of the run, and so those that each node's
-- trace leaves, as it was read
pub record EndsTold (job : JobState) (traces : List Trace) (old new : Outbox) (violated : Bool)
    (nodes : List EndpointState) : Type 0 where
  pub run : RunOfTraces job (accepted_traces job traces)
  pub lines : Gathers old new (spell (run_lines job (accepted_traces job traces)))
  pub violated_is : violated ≡ is_violated job (accepted_traces job traces)
  pub nodes_of_run : AreNodesAfter job (accepted_traces job traces) nodes
  pub nodes_after : AreNodesAfter job traces nodes

-- they are none, and nothing went in
pub record EndsUntold (job : JobState) (traces : List Trace) (old new : Outbox) (node entry : ℕ) : Type 0 where
  pub none : AreNoRun job (accepted_traces job traces) node entry
  pub same : new ≡ old

-- they are a run, the sink failed, and a prefix of the text of its lines went in
pub record EndsCut (job : JobState) (traces : List Trace) (old new : Outbox) : Type 0 where
  pub run : RunOfTraces job (accepted_traces job traces)
  pub lines : GathersPrefix old new (spell (run_lines job (accepted_traces job traces)))

-- they are a run, memory ran out, and some of its lines went in
pub record EndsHalfway (job : JobState) (traces : List Trace) (old new : Outbox) : Type 0 where
  pub run : RunOfTraces job (accepted_traces job traces)
  pub rest : List Line
  pub lines : LinesUpTo old new (run_lines job (accepted_traces job traces)) rest

-- so it ended; memory may run out before it is known whether they are one
abbrev pub EndsTraces : JobState → List Trace → (old new : Outbox) → TracesEnd → Type 0
EndsTraces job traces old new (ends.Done violated nodes) = EndsTold job traces old new violated nodes.items
EndsTraces job traces old new (ends.NotARun node entry) = EndsUntold job traces old new node entry
EndsTraces job traces old new ends.Fault = EndsCut job traces old new
EndsTraces job traces old new ends.NoMemory = (new ≡ old) ⊎ EndsHalfway job traces old new
