-- The command `node`: a job is read, one of its nodes is run, and its trace is written.
use Rattle.std.specs.Prelude.{◌≡◌, ◌⊎◌, ℕ, nat_lt, List, [], ◌∷◌, Bool, ◌&&◌, true, false}
use Rattle.std.specs.List.{Contains}
use Rattle.base_io.specs.Faults.{Rose}
use Rattle.base_turns.specs.declared.entry.Entry.{Entry}
use Rattle.base_text.specs.LineTexts.{spell}
use Rattle.text_job.specs.declared.job.Job.{Job as JobState}
use Rattle.proc_runner.specs.declared.ends.StationEnd.{StationEnd}
use Rattle.proc_runner.specs.declared.ends.StationEnd.TheVariants as stations
use Rattle.proc_node.specs.NodeLeaves.{Post, has_noted, node_lines, node_open, post_of, record_after}
use Rattle.proc_node.specs.NodeEnds.{RunsTo}
use Rattle.cli_commands.specs.Outsides.{Call, Course, Input, IsFaultless, course_in}
use Rattle.cli_commands.specs.Commands.{end_of}
use Rattle.cli_commands.specs.HowEnds.{After, EndsHow, SaysAlone, said_last}
use Rattle.cli_commands.specs.JobReads.{FailsToRead, GivesJob, HoldsJob, RefusesJob}
use Rattle.cli_commands.specs.Ports.{has_ports}
use Rattle.cli_commands.specs.Statuses.{CodeMeans}
use Rattle.cli_commands.specs.declared.ending.CommandEnd.{CommandEnd}
use Rattle.cli_commands.specs.declared.ending.CommandEnd.TheVariants as ends

-- among so many nodes there is one of this rank, and each has its port where rank 0 has this one
abbrev pub has_node_place : (rank port nodes : ℕ) → Bool
has_node_place rank port nodes = nat_lt rank nodes && has_ports port nodes

-- a job was read, and it has no place for this node: the status line alone
pub record HasNoPlace (rank port : ℕ) (course : Course) (after : After) (said : List ℕ) : Type 0 where
  pub job : JobState
  pub read : GivesJob course.reading job
  pub no_place : has_node_place rank port job.settings.nodes ≡ false
  pub alone : SaysAlone ends.Usage after said

-- a job was read, and its node of this rank ran until this end of its station: the trace of its journal, and the status
-- line; and there is the node after its turns
pub record RunsNode (rank port : ℕ) (course : Course) (station : StationEnd) (end : CommandEnd) (after : After)
    (said : List ℕ) : Type 0 where
  pub job : JobState
  pub read : GivesJob course.reading job
  pub place : has_node_place rank port job.settings.nodes ≡ true
  pub run : RunsTo (post_of job rank port) course.before course.after station
  pub said_is : said ≡ said_last (node_lines (post_of job rank port) run.journal) end
  pub node_after : after.left run.left.machine.endpoint

-- all its scripts came to their ends, and it noted a violation or none
pub record EndsNode (rank port : ℕ) (course : Course) (violated : Bool) (after : After) (said : List ℕ) : Type 0 where
  pub runs : RunsNode rank port course stations.Over (end_of violated) after said
  pub violated_is : has_noted (record_after (post_of runs.job rank port) runs.run.journal) ≡ violated

-- its link failed
pub record LosesLink (rank port : ℕ) (course : Course) (after : After) (said : List ℕ) : Type 0 where
  pub runs : RunsNode rank port course stations.LinkFault ends.LinkFault after said
  pub rose : Rose course.before.link.faults course.after.link.faults

-- memory ran out as its node ran: the trace of its journal without the last line, and the status line
pub record LosesMemory (rank port : ℕ) (course : Course) (after : After) (said : List ℕ) : Type 0 where
  pub job : JobState
  pub read : GivesJob course.reading job
  pub place : has_node_place rank port job.settings.nodes ≡ true
  pub run : RunsTo (post_of job rank port) course.before course.after stations.NoMemory
  pub said_is : said ≡ said_last (node_open (post_of job rank port) run.journal) ends.NoMemory
  pub nothing_given : after.none

-- the node took the turns of this journal until the sink failed; or that failed before, and nothing was done
abbrev pub StopsAt : Post → Course → (journal : List Entry) → Type 0
StopsAt post course journal =
    ((run : RunsTo post course.before course.after stations.WriteFault) × (run.journal ≡ journal))
    ⊎ ((course.after ≡ course.before) × (journal ≡ []))

-- its sink failed as its node ran, or before: the trace of its journal, of which the sink took a prefix
pub record LosesSink (rank port : ℕ) (course : Course) (said : List ℕ) : Type 0 where
  pub job : JobState
  pub read : GivesJob course.reading job
  pub place : has_node_place rank port job.settings.nodes ≡ true
  pub journal : List Entry
  pub stops : StopsAt (post_of job rank port) course journal
  pub said_is : said ≡ spell (node_lines (post_of job rank port) journal)

-- how it may end, by how its source was read, and by what is seen of its link and clock before and after
abbrev pub NodeEnds : (rank port : ℕ) → Course → EndsHow
NodeEnds rank port course ends.Done after said = EndsNode rank port course false after said
NodeEnds rank port course ends.Violations after said = EndsNode rank port course true after said
NodeEnds rank port course ends.Usage after said = HasNoPlace rank port course after said
NodeEnds rank port course (ends.BadJob line reason) after said = RefusesJob course.reading line reason after said
NodeEnds rank port course ends.ReadFault after said = FailsToRead course.reading after said
NodeEnds rank port course ends.WriteFault after said = LosesSink rank port course said
NodeEnds rank port course ends.LinkFault after said = LosesLink rank port course after said
NodeEnds rank port course ends.SpawnFault after said = ⊥
NodeEnds rank port course ends.NoMemory after said =
    SaysAlone ends.NoMemory after said ⊎ LosesMemory rank port course after said
NodeEnds rank port course ends.Stuck after said = RunsNode rank port course stations.Stuck ends.Stuck after said
NodeEnds rank port course ends.JournalFull after said =
    RunsNode rank port course stations.JournalFull ends.JournalFull after said
NodeEnds rank port course (ends.NotARun node entry) after said = ⊥
NodeEnds rank port course (ends.Child child code) after said = ⊥

-- what each of its exit statuses says
abbrev pub NodeMeans : Call → (rank port code : ℕ) → Type 0
NodeMeans call rank port code =
    CodeMeans call (NodeEnds rank port (course_in call)) (0 ∷ 1 ∷ 2 ∷ 3 ∷ 4 ∷ 5 ∷ 6 ∷ 8 ∷ 9 ∷ 10 ∷ []) code

-- the bytes that are left are told, and they are the text of some job with a place for this node
pub record HoldsNode (rank port : ℕ) (source : Input) : Type 0 where
  pub holds : HoldsJob source
  pub place : has_node_place rank port holds.job.settings.nodes ≡ true

-- where no count of faults rose, the node of a job that could be read came to its end, got stuck, or filled its
-- journal, or memory ran out
abbrev pub NodeCompletes : Call → (rank port code : ℕ) → Type 0
NodeCompletes call rank port code =
    HoldsNode rank port call.before.source → IsFaultless call
    → (Rose call.before.devices.link.faults call.after.devices.link.faults → ⊥)
    → Contains (0 ∷ 1 ∷ 8 ∷ 9 ∷ 10 ∷ []) code
