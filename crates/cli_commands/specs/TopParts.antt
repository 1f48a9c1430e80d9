-- The parts of the top call.
use Rattle.std.specs.Prelude.{◌≡◌, ◌⊎◌, ℕ, Bool, List, [], Option, Some, None, Result, Ok, Err, ⊤}
use Rattle.base_io.specs.Buffered.{Outbox, Gathering, Gathers, GathersAll, GathersPrefix, Flushes, outbox}
use Rattle.base_io.specs.declared.writing.Wrote.TheVariants as wrote
use Rattle.base_io.specs.Faults.{Rose}
use Rattle.base_text.specs.Lines.{Word}
use Rattle.base_text.specs.LineTexts.{line_text}
use Rattle.text_job.specs.declared.job.Job.{Job as JobState}
use Rattle.sim_drill.specs.RunEnd.{RunEnd}
use Rattle.sim_drill.specs.RunEnd.TheVariants as runs
use Rattle.proc_runner.specs.declared.ends.StationEnd.{StationEnd}
use Rattle.proc_runner.specs.declared.ends.StationEnd.TheVariants as stations
use Rattle.node_endpoint.specs.EndpointState.{EndpointState}
use Rattle.cli_launch.specs.InputFault.{InputFault}
use Rattle.cli_launch.specs.InputFault.TheVariants as inputs
use Rattle.cli_launch.specs.TracesEnd.{TracesEnd}
use Rattle.cli_launch.specs.TracesEnd.TheVariants as traces
use Rattle.cli_launch.specs.declared.fault.LaunchFault.{LaunchFault}
use Rattle.cli_launch.specs.declared.fault.LaunchFault.TheVariants as launches
use Rattle.cli_commands.specs.Outsides.{Course, Reading, Spawning, given_with}
use Rattle.cli_commands.specs.Commands.{code_of, end_of, status_line}
use Rattle.cli_commands.specs.HowEnds.{EndsHow, EndMeans, node_given, nodes_given, nothing, world_given}
use Rattle.cli_commands.specs.JobReads.{GivesJob, ReadsNoJob}
use Rattle.cli_commands.specs.WorldCommand.{WorldEnds}
use Rattle.cli_commands.specs.UpgradeCommand.{UpgradeEnds}
use Rattle.cli_commands.specs.CheckCommand.{CheckEnds}
use Rattle.cli_commands.specs.LaunchCommand.{IsUnused, LaunchEnds}
use Rattle.cli_commands.specs.NodeCommand.{NodeEnds}
use Rattle.cli_commands.specs.DrillCommand.{DrillEnds}
use Rattle.cli_commands.specs.NoCommand.{UsageEnds}
use Rattle.cli_commands.specs.declared.ending.CommandEnd.{CommandEnd}
use Rattle.cli_commands.specs.declared.ending.CommandEnd.TheVariants as ends
use Rattle.cli_commands.specs.declared.ending.EndedCommand.{EndedCommand}
use Rattle.cli_commands.specs.declared.ending.Given.{Given}
use Rattle.cli_commands.specs.declared.reading.JobRead.{JobRead}
use Rattle.cli_commands.specs.declared.outside.Outside.{Outside}
use Rattle.cli_commands.specs.declared.top.Status.{Status}
use Rattle.cli_commands.specs.declared.words.Command.{Command}
use Rattle.cli_commands.specs.declared.words.Command.TheVariants as commands

-- ---- commands

-- how what was asked for may end, by how the source was read, by what a node ran over before and after, and by what is
-- seen of the spawner before and after
abbrev pub Ends : Option Command → Course → Spawning → EndsHow
Ends None course spawning = UsageEnds
Ends (Some commands.World) course spawning = WorldEnds course.reading
Ends (Some commands.Upgrade) course spawning = UpgradeEnds course.reading
Ends (Some commands.Check) course spawning = CheckEnds course.reading
Ends (Some (commands.Launch port)) course spawning = LaunchEnds port course.reading spawning
Ends (Some (commands.Node rank port)) course spawning = NodeEnds rank port course
Ends (Some (commands.Drill seed)) course spawning = DrillEnds seed

-- how a command ended, by what went into a sink that gathers
abbrev pub EndsBy : EndsHow → (old new : Outbox) → EndedCommand → Type 0
EndsBy Ends old new ended = EndMeans Ends (GathersAll old new) ended.given ended.end

-- what is seen of the source stands as it did
abbrev pub KeepsSource : Course → Type 0
KeepsSource course = course.reading.after ≡ course.reading.before

-- so does what is seen of a node's link and clock
abbrev pub KeepsDevices : Course → Type 0
KeepsDevices course = course.after ≡ course.before

-- what is seen of the outside and stands as it did, by what was asked for
abbrev pub KeepsOutside : Option Command → Course → Spawning → Type 0
KeepsOutside None course spawning = KeepsSource course × KeepsDevices course × IsUnused spawning
KeepsOutside (Some commands.World) course spawning = KeepsDevices course × IsUnused spawning
KeepsOutside (Some commands.Upgrade) course spawning = KeepsDevices course × IsUnused spawning
KeepsOutside (Some commands.Check) course spawning = KeepsDevices course × IsUnused spawning
KeepsOutside (Some (commands.Launch port)) course spawning = KeepsDevices course
KeepsOutside (Some (commands.Node rank port)) course spawning = IsUnused spawning
KeepsOutside (Some (commands.Drill seed)) course spawning =
    KeepsSource course × KeepsDevices course × IsUnused spawning

-- how what was asked for ended, and what it left as it stood
pub record EndsAs (asked : Option Command) (course : Course) (spawning : Spawning) (old new : Outbox)
    (ended : EndedCommand)
    : Type 0 where
  pub ends : EndsBy (Ends asked course spawning) old new ended
  pub keeps : KeepsOutside asked course spawning

-- it isn't to run a node
abbrev pub IsNoNode : Option Command → Type 0
IsNoNode asked = (rank port : ℕ) → asked ≡ Some (commands.Node rank port) → ⊥

-- ---- reading

-- why reading a job gave none
abbrev pub IsUnreadJob : Reading → CommandEnd → Type 0
IsUnreadJob reading (ends.BadJob line why) = ReadsNoJob reading.before.left reading.after.left line why
IsUnreadJob reading ends.ReadFault = Rose reading.before.faults reading.after.faults
IsUnreadJob reading ends.NoMemory = ⊤
IsUnreadJob reading ends.Done = ⊥
IsUnreadJob reading ends.Violations = ⊥
IsUnreadJob reading ends.Usage = ⊥
IsUnreadJob reading ends.WriteFault = ⊥
IsUnreadJob reading ends.LinkFault = ⊥
IsUnreadJob reading ends.SpawnFault = ⊥
IsUnreadJob reading ends.Stuck = ⊥
IsUnreadJob reading ends.JournalFull = ⊥
IsUnreadJob reading (ends.NotARun node entry) = ⊥
IsUnreadJob reading (ends.Child rank code) = ⊥

-- what reading a job and its bytes gave
abbrev pub GivesText : Reading → JobState → List ℕ → Type 0
GivesText reading job bytes = (read : GivesJob reading job) × (read.bytes ≡ bytes)

abbrev pub ReadsTextOrNot : Reading → Result JobRead CommandEnd → Type 0
ReadsTextOrNot reading (Ok read) = GivesText reading read.job read.bytes.items
ReadsTextOrNot reading (Err end) = IsUnreadJob reading end

-- what reading a job gave
abbrev pub ReadsOrNot : Reading → Result JobState CommandEnd → Type 0
ReadsOrNot reading (Ok job) = GivesJob reading job
ReadsOrNot reading (Err end) = IsUnreadJob reading end

-- how `check` ends where no input was read
abbrev pub end_unread : InputFault → CommandEnd
end_unread (inputs.Bad line reason) = ends.BadJob line reason
end_unread inputs.ReadFault = ends.ReadFault
end_unread inputs.NoMemory = ends.NoMemory

-- ---- launching

-- how a command ends whose launch gave no outputs
abbrev pub end_of_fault : LaunchFault → CommandEnd
end_of_fault (launches.Child rank code) = ends.Child rank code
end_of_fault launches.SpawnFault = ends.SpawnFault
end_of_fault launches.NoMemory = ends.NoMemory

-- ---- saying

-- how a command ends whose sink failed
abbrev pub cut_short : EndedCommand
cut_short = record { end = ends.WriteFault; given = nothing }

-- the status line of this end went in, and so the command ended, and gave this; or the sink failed, and a prefix of
-- that line went in
abbrev pub SaysEnd : CommandEnd → Given → (old new : Outbox) → EndedCommand → Type 0
SaysEnd end given old new ended =
    ((ended ≡ record { end = end; given = given }) × Gathers old new (line_text (status_line end)))
    ⊎ ((ended ≡ cut_short) × GathersPrefix old new (line_text (status_line end)))

-- what is said behind the lines of a run that ended so: the status line, with the world after the run; nothing where
-- the sink failed
abbrev pub SaysRun : RunEnd → (old new : Outbox) → EndedCommand → Type 0
SaysRun (runs.Done violated world) old new ended = SaysEnd (end_of violated) (world_given world) old new ended
SaysRun runs.Fault old new ended = (ended ≡ cut_short) × (new ≡ old)
SaysRun runs.NoMemory old new ended = SaysEnd ends.NoMemory nothing old new ended

-- what is said behind the trace of a node whose turns ended so: the status line, with this node, where one is left;
-- nothing where the sink failed
abbrev pub SaysNode : StationEnd → (violated : Bool) → Option EndpointState → (old new : Outbox) → EndedCommand → Type 0
SaysNode stations.Over violated left old new ended = SaysEnd (end_of violated) (node_given left) old new ended
SaysNode stations.Stuck violated left old new ended = SaysEnd ends.Stuck (node_given left) old new ended
SaysNode stations.LinkFault violated left old new ended = SaysEnd ends.LinkFault (node_given left) old new ended
SaysNode stations.JournalFull violated left old new ended = SaysEnd ends.JournalFull (node_given left) old new ended
SaysNode stations.NoMemory violated left old new ended = SaysEnd ends.NoMemory (node_given left) old new ended
SaysNode stations.WriteFault violated left old new ended = (ended ≡ cut_short) × (new ≡ old)

-- what is said behind the lines of traces whose check ended so: the status line, with the nodes after them; nothing
-- where the sink failed
abbrev pub SaysTraces : TracesEnd → (old new : Outbox) → EndedCommand → Type 0
SaysTraces (traces.Done violated nodes) old new ended = SaysEnd (end_of violated) (nodes_given nodes) old new ended
SaysTraces (traces.NotARun node entry) old new ended = SaysEnd (ends.NotARun node entry) nothing old new ended
SaysTraces traces.Fault old new ended = (ended ≡ cut_short) × (new ≡ old)
SaysTraces traces.NoMemory old new ended = SaysEnd ends.NoMemory nothing old new ended

-- what waited was given on, and the end stays; or the sink failed at that. After a fault nothing more is given on
abbrev pub GivesOn : (old new : Outbox) → (before after : EndedCommand) → Type 0
GivesOn old new before after =
    ((before.end ≡ ends.WriteFault) × (after ≡ before) × (new ≡ old))
    ⊎ (((before.end ≡ ends.WriteFault → ⊥) × (after ≡ before) × Flushes old new wrote.Done)
    ⊎ ((before.end ≡ ends.WriteFault → ⊥) × (after ≡ cut_short) × Flushes old new wrote.Fault))

-- the outside with this sink
abbrev pub with_sink : {S J K L P C G : Type 0} → Outside S J L P C G → K → Outside S K L P C G
with_sink outside sink = record {
  source = outside.source;
  sink = sink;
  link = outside.link;
  spawner = outside.spawner;
  clock = outside.clock;
  waiter = outside.waiter;
}

-- the outside is the other one, over a sink that gathers before its sink and holds back nothing
pub record StandsOver {S K L P C G : Type 0} (outside : Outside S K L P C G)
    (gathering : Outside S (Gathering K) L P C G) : Type 0 where
  pub is : outside ≡ with_sink gathering gathering.sink.inner
  pub empty : gathering.sink.pending ≡ []

-- what the sink still held back was given on, and so the call of a command that ended ends
pub record Closes {S K L P C G : Type 0} (taken : K → Option (List ℕ)) (faults : K → ℕ) (ended : EndedCommand)
    (gathering : Outside S (Gathering K) L P C G) (status : Status) (outside : Outside S K L P C G) : Type 0 where
  pub sink : Gathering K
  pub over : EndedCommand
  pub gives_on : GivesOn (outbox taken faults gathering.sink) (outbox taken faults sink) ended over
  pub code : status.code ≡ code_of over.end
  pub given : given_with status ≡ over.given
  pub is : outside ≡ with_sink gathering sink.inner
