-- What a call sees of its outside.
use Rattle.std.specs.Prelude.{ℕ, List, Option}
use Rattle.std.specs.Io.KnownBytes.{Appends}
use Rattle.base_io.specs.Faults.{Rose}
use Rattle.base_io.specs.declared.source.Source.{Ghosts as SourceGhosts}
use Rattle.base_io.specs.declared.sink.Sink.{Ghosts as SinkGhosts}
use Rattle.base_io.specs.declared.link.Link.{Ghosts as LinkGhosts}
use Rattle.base_io.specs.declared.spawner.Spawner.{Ghosts as SpawnerGhosts}
use Rattle.base_io.specs.declared.clock.Clock.{Ghosts as ClockGhosts}
use Rattle.base_io.specs.Whole.{TakesUpTo}
use Rattle.base_io.specs.declared.writing.Wrote.{Wrote}
use Rattle.base_io.specs.declared.writing.Wrote.TheVariants as wrote
use Rattle.base_text.specs.Lines.{Word}
use Rattle.proc_node.specs.Seen.{DevicesSeen, devices_seen}
use Rattle.cli_launch.specs.Children.{SpawnerSeen, spawner_seen}
use Rattle.cli_commands.specs.declared.ending.Given.{Given}
use Rattle.cli_commands.specs.declared.outside.Outside.{Outside}
use Rattle.cli_commands.specs.declared.top.Status.{Status}

-- a source: the bytes that are left, where it tells them, and its count of faults
pub record Input : Type 0 where
  pub left : Option (List ℕ)
  pub faults : ℕ

abbrev pub input : {S : Type 0} → (left : S → Option (List ℕ)) → (faults : S → ℕ) → S → Input
input left faults source = record { left = left source; faults = faults source }

-- a sink: the bytes that were taken, where it tells them, and its count of faults
pub record Output : Type 0 where
  pub taken : Option (List ℕ)
  pub faults : ℕ

abbrev pub output : {K : Type 0} → (taken : K → Option (List ℕ)) → (faults : K → ℕ) → K → Output
output taken faults sink = record { taken = taken sink; faults = faults sink }

-- an outside: what is seen of its source, of its sink, of what a node runs over, and of its spawner
pub record OutsideView : Type 0 where
  pub source : Input
  pub sink : Output
  pub devices : DevicesSeen
  pub spawner : SpawnerSeen

abbrev pub outside_view : {S K L P C G : Type 0} → SourceGhosts S → SinkGhosts K → LinkGhosts L → SpawnerGhosts P
    → ClockGhosts C → Outside S K L P C G → OutsideView
outside_view sources sinks links spawners clocks outside = record {
  source = input sources.left sources.faults outside.source;
  sink = output sinks.taken sinks.faults outside.sink;
  devices = devices_seen links clocks outside.link outside.clock;
  spawner = spawner_seen spawners outside.spawner;
}

-- ---- a call

-- its words, its outside before and after it, and what it gives besides its exit status
pub record Call : Type 0 where
  pub words : List Word
  pub before : OutsideView
  pub after : OutsideView
  pub given : Given

abbrev pub call_of : List Word → (before after : OutsideView) → Given → Call
call_of words before after given = record { words = words; before = before; after = after; given = given }

-- a call over a place of which so much is seen
abbrev pub call_between : {Place : Type 0} → (see : Place → OutsideView) → List Word → (before after : Place) → Given
    → Call
call_between see words before after given = call_of words (see before) (see after) given

-- what a call gives besides its exit status
abbrev pub given_with : Status → Given
given_with status = record { world = status.world; node = status.node; nodes = status.nodes }

-- a source before and after it was read
pub record Reading : Type 0 where
  pub before : Input
  pub after : Input

abbrev pub reading_of : (before after : Input) → Reading
reading_of before after = record { before = before; after = after }

-- that of a source of any kind
abbrev pub reading_over : {S : Type 0} → (left : S → Option (List ℕ)) → (faults : S → ℕ) → (before after : S) → Reading
reading_over left faults before after = reading_of (input left faults before) (input left faults after)

-- that of a call
abbrev pub read_in : Call → Reading
read_in call = reading_of call.before.source call.after.source

-- how a source was read, and what a node ran over before and after
pub record Course : Type 0 where
  pub reading : Reading
  pub before : DevicesSeen
  pub after : DevicesSeen

abbrev pub course_with : Reading → (before after : DevicesSeen) → Course
course_with reading before after = record { reading = reading; before = before; after = after }

-- that of an outside of any kind
abbrev pub course_over : {S K L P C G : Type 0} → SourceGhosts S → LinkGhosts L → ClockGhosts C
    → (before after : Outside S K L P C G) → Course
course_over sources links clocks before after =
    course_with (reading_over sources.left sources.faults before.source after.source)
    (devices_seen links clocks before.link before.clock) (devices_seen links clocks after.link after.clock)

-- that of a call
abbrev pub course_in : Call → Course
course_in call = course_with (read_in call) call.before.devices call.after.devices

-- a spawner before and after it was used
pub record Spawning : Type 0 where
  pub before : SpawnerSeen
  pub after : SpawnerSeen

abbrev pub spawning_of : (before after : SpawnerSeen) → Spawning
spawning_of before after = record { before = before; after = after }

-- that of a spawner of any kind
abbrev pub spawning_over : {P : Type 0} → SpawnerGhosts P → (before after : P) → Spawning
spawning_over spawners before after = spawning_of (spawner_seen spawners before) (spawner_seen spawners after)

-- that of a call
abbrev pub spawning_in : Call → Spawning
spawning_in call = spawning_of call.before.spawner call.after.spawner

-- what a sink took of some bytes: all of them; or it failed, and a prefix of them
abbrev pub TakesBytes : (old new : Output) → List ℕ → Wrote → Type 0
TakesBytes old new bytes wrote.Done = Appends old.taken new.taken bytes
TakesBytes old new bytes wrote.Fault =
    Rose old.faults new.faults × (rest : List ℕ) × TakesUpTo old.taken new.taken bytes rest

-- what the sink of a call took of some bytes in the call
abbrev pub took_in : Call → List ℕ → Wrote → Type 0
took_in call = TakesBytes call.before.sink call.after.sink

-- neither the source's count of faults nor the sink's rose in the call, or stands at its last value; of the link's and
-- the spawner's it says nothing
pub record IsFaultless (call : Call) : Type 0 where
  pub source : Rose call.before.source.faults call.after.source.faults → ⊥
  pub sink : Rose call.before.sink.faults call.after.sink.faults → ⊥
