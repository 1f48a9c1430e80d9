-- How a command may end, what it says where its sink takes all, and what its caller is given.
use Rattle.std.specs.Prelude.{◌≡◌, List, [], ◌∷◌, ◌++◌, Option, Some, None, ℕ, Vec}
use Rattle.std.specs.Global.{Global}
use Rattle.base_io.specs.declared.writing.Wrote.{Wrote}
use Rattle.base_io.specs.declared.writing.Wrote.TheVariants as wrote
use Rattle.node_endpoint.specs.EndpointState.{EndpointState}
use Rattle.sim_world.specs.WorldState.{WorldState}
use Rattle.text_trace.specs.declared.trace.Trace.{Trace}
use Rattle.base_text.specs.LineTexts.{Line, spell}
use Rattle.text_job.specs.declared.job.Job.{Job as JobState}
use Rattle.sim_drill.specs.ScheduleRun.{StandsForRun}
use Rattle.cli_launch.specs.TracesRun.{AreNodesAfter}
use Rattle.cli_commands.specs.Outsides.{Call, took_in}
use Rattle.cli_commands.specs.Commands.{status_line}
use Rattle.cli_commands.specs.declared.ending.CommandEnd.{CommandEnd}
use Rattle.cli_commands.specs.declared.ending.CommandEnd.TheVariants as ends
use Rattle.cli_commands.specs.declared.ending.Given.{Given}

-- ---- what the caller is given besides the exit status

-- nothing
abbrev pub nothing : Given
nothing = record { world = None; node = None; nodes = None }

-- this world
abbrev pub world_given : WorldState → Given
world_given world = record { world = Some world; node = None; nodes = None }

-- this node, where there is one
abbrev pub node_given : Option EndpointState → Given
node_given node = record { world = None; node = node; nodes = None }

-- these nodes
abbrev pub nodes_given : Vec EndpointState Global → Given
nodes_given nodes = record { world = None; node = None; nodes = Some nodes }

-- there is a world, and it stands for the end of the job's run
pub record IsAfter (given : Given) (job : JobState) : Type 0 where
  pub state : WorldState
  pub given_is : given ≡ world_given state
  pub stands : StandsForRun job state

-- there are nodes, and they are those of the job after these traces
pub record AreAfter (given : Given) (job : JobState) (traces : List Trace) : Type 0 where
  pub nodes : Vec EndpointState Global
  pub given_is : given ≡ nodes_given nodes
  pub nodes_after : AreNodesAfter job traces nodes.items

-- what is claimed of it: where a command ran a job in a world, where it ran a node as a process, where it checked the
-- traces of a job, and where none of these
pub record After : Type 1 where
  pub ran : JobState → Type 0
  pub left : EndpointState → Type 0
  pub checked : JobState → List Trace → Type 0
  pub none : Type 0

-- it is this
abbrev pub gives : Given → After
gives given = record {
  ran = IsAfter given;
  left = λ node. given ≡ node_given (Some node);
  checked = AreAfter given;
  none = given ≡ nothing;
}

-- nothing is claimed
abbrev pub claims_nothing : After
claims_nothing = record {
  ran = λ job. Unit {0};
  left = λ node. Unit {0};
  checked = λ job traces. Unit {0};
  none = Unit {0};
}

-- ---- what is said

-- how a command may end: so, where it says these bytes, with what is claimed of what its caller is given
abbrev pub EndsHow : Type 1
EndsHow = CommandEnd → After → (said : List ℕ) → Type 0

-- the status line of this end, behind these lines
abbrev pub said_last : List Line → CommandEnd → List ℕ
said_last lines end = spell (lines ++ status_line end ∷ [])

-- the status line of this end alone, and nothing is given
pub record SaysAlone (end : CommandEnd) (after : After) (said : List ℕ) : Type 0 where
  pub nothing_given : after.none
  pub said_is : said ≡ said_last [] end

-- ---- what is written; `took` is what the sink took of some bytes: all of them, or a prefix of them where it failed

-- it ended so, gave this, and all that it says was taken
pub record IsToldEnd (Ends : EndsHow) (took : List ℕ → Wrote → Type 0) (end : CommandEnd) (given : Given) : Type 0 where
  pub said : List ℕ
  pub ends : Ends end (gives given) said
  pub written : took said wrote.Done

-- the sink failed, and took a prefix of what some end says; nothing is given
pub record Cut (Ends : EndsHow) (took : List ℕ → Wrote → Type 0) (given : Given) : Type 0 where
  pub end : CommandEnd
  pub said : List ℕ
  pub ends : Ends end claims_nothing said
  pub cut : took said wrote.Fault
  pub nothing_given : given ≡ nothing

-- how a command ended, by what its sink took, and what was given
abbrev pub EndMeans : EndsHow → (took : List ℕ → Wrote → Type 0) → Given → CommandEnd → Type 0
EndMeans Ends took given ends.WriteFault = Cut Ends took given
EndMeans Ends took given end = IsToldEnd Ends took end given

-- the call ended so
abbrev pub TellsEnd : Call → EndsHow → CommandEnd → Type 0
TellsEnd call Ends end = IsToldEnd Ends (took_in call) end call.given

-- it ended as its sink failed
abbrev pub IsCutShort : Call → EndsHow → Type 0
IsCutShort call Ends = Cut Ends (took_in call) call.given
