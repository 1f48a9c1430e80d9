-- What is said of the traces of a job's nodes: what commands share that check them. The traces are judged without the
-- bytes that their nodes refuse.
use Rattle.std.specs.Prelude.{◌≡◌, ◌⊎◌, List, ◌++◌, Bool, true, false, ℕ}
use Rattle.text_trace.specs.declared.trace.Trace.{Trace}
use Rattle.text_job.specs.declared.job.Job.{Job as JobState}
use Rattle.base_text.specs.LineTexts.{Line}
use Rattle.cli_launch.specs.StepLines.{is_violated, run_lines}
use Rattle.cli_launch.specs.Rejected.{accepted_traces}
use Rattle.cli_launch.specs.TracesRun.{AreNoRun, RunOfTraces}
use Rattle.cli_commands.specs.Commands.{end_of}
use Rattle.cli_commands.specs.HowEnds.{After, EndsHow, SaysAlone, said_last}
use Rattle.cli_commands.specs.declared.ending.CommandEnd.TheVariants as ends

-- they are a run, whose laws hold, and a node noted a violation in it or none: the lines of that run, and the status
-- line. There are the nodes after it, which are those that the traces leave, as they were read
pub record RunsTraces (job : JobState) (traces : List Trace) (violated : Bool) (after : After) (said : List ℕ)
    : Type 0 where
  pub run : RunOfTraces job (accepted_traces job traces)
  pub violated_is : is_violated job (accepted_traces job traces) ≡ violated
  pub said_is : said ≡ said_last (run_lines job (accepted_traces job traces)) (end_of violated)
  pub nodes_of_run : after.checked job (accepted_traces job traces)
  pub nodes_after : after.checked job traces

-- so, but memory ran out as it was told: whole lines of the run, up to the rest, and the status line
pub record LeavesTraces (job : JobState) (traces : List Trace) (after : After) (said : List ℕ) : Type 0 where
  pub run : RunOfTraces job (accepted_traces job traces)
  pub prefix : List Line
  pub rest : List Line
  pub whole : run_lines job (accepted_traces job traces) ≡ prefix ++ rest
  pub said_is : said ≡ said_last prefix ends.NoMemory
  pub nothing_given : after.none

-- they are no run: the status line alone
pub record RefusesTraces (job : JobState) (traces : List Trace) (node entry : ℕ) (after : After) (said : List ℕ)
    : Type 0 where
  pub none : AreNoRun job (accepted_traces job traces) node entry
  pub alone : SaysAlone (ends.NotARun node entry) after said

-- how a command may end that checks them; memory may run out before it is known whether they are a run
abbrev pub TracesEnds : JobState → List Trace → EndsHow
TracesEnds job traces ends.Done after said = RunsTraces job traces false after said
TracesEnds job traces ends.Violations after said = RunsTraces job traces true after said
TracesEnds job traces ends.NoMemory after said =
    SaysAlone ends.NoMemory after said ⊎ LeavesTraces job traces after said
TracesEnds job traces (ends.NotARun node entry) after said = RefusesTraces job traces node entry after said
TracesEnds job traces ends.Usage after said = ⊥
TracesEnds job traces (ends.BadJob line reason) after said = ⊥
TracesEnds job traces ends.ReadFault after said = ⊥
TracesEnds job traces ends.WriteFault after said = ⊥
TracesEnds job traces ends.LinkFault after said = ⊥
TracesEnds job traces ends.SpawnFault after said = ⊥
TracesEnds job traces ends.Stuck after said = ⊥
TracesEnds job traces ends.JournalFull after said = ⊥
TracesEnds job traces (ends.Child rank code) after said = ⊥
