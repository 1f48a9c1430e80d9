-- What stays true of a station from its opening on: each turn keeps it, so it holds whenever the lock is free.
use Rattle.std.specs.Prelude.{◌≡◌, ◌≢◌, ℕ, ◌+◌, ◌-◌, ◌^◌, ◌<◌, ◌≤◌, ◌⊎◌, min, true, false}
use Rattle.std.specs.Prelude.{List, ◌++◌, length, All, take, Option, Some, None}
use Rattle.std.specs.List.{flat_map}
use Rattle.std.specs.Option.{ForSome}
use Rattle.std.specs.Io.KnownBytes.{Appends}
use Rattle.base_io.specs.Buffered.{Outbox, Gathers, GathersPrefix}
use Rattle.base_io.specs.Faults.{Rose}
use Rattle.base_io.specs.Told.{and_all, IsEmptyWhereTold}
use Rattle.base_io.specs.declared.link.Link.{Ghosts as LinkGhosts}
use Rattle.base_io.specs.declared.clock.Clock.{Ghosts as ClockGhosts}
use Rattle.base_turns.specs.declared.entry.Entry.{Entry}
use Rattle.base_turns.specs.declared.turns.Machine.{Ghosts as MachineGhosts}
use Rattle.base_turns.specs.Replay.{steps_of, replay_state, got_in, sent_in, quiet_tail}
use Rattle.proc_runner.specs.declared.ends.StationEnd.{StationEnd}
use Rattle.proc_runner.specs.declared.ends.StationEnd.TheVariants.{Over, Stuck, LinkFault, WriteFault, JournalFull, NoMemory}
use Rattle.proc_runner.specs.declared.recorder.Recorder.{Ghosts as RecorderGhosts}
use Rattle.proc_runner.specs.StationState.{StationState, Opening}
use Rattle.base_io.specs.declared.link.TheConstants.{MAX_DATAGRAM}

-- the last value of a count of 64 bits
abbrev pub last_count : ℕ
last_count = 2 ^ 64 - 1

-- the bytes of the receive buffer: a datagram has at most one less
abbrev pub receive_limit : ℕ
receive_limit = MAX_DATAGRAM + 1

-- the most entries of a journal
abbrev pub entry_limit : ℕ
entry_limit = 4294967295

-- no turn is begun where so many entries were recorded
abbrev pub IsJournalFull : (count : ℕ) → Type 0
IsJournalFull count = entry_limit ≤ count

-- an entry of a machine with so many threads
abbrev pub IsEntryWithin : (threads : ℕ) → Entry → Type 0
IsEntryWithin threads entry = (entry.thread < threads) × ForSome entry.got (λ bytes. length bytes ≤ receive_limit)

-- where a list is told, it has gone on by these
abbrev pub WentOn : {A : Type 0} → Option (List A) → (more : List A) → Option (List A) → Type 0
WentOn before more now = now ≡ and_all before more

-- where they are told, the datagrams sent are those that the turns gave, without the one that failed and those after it
-- in the last entry
abbrev pub SentShort : {M L : Type 0} → (machines : MachineGhosts M) → LinkGhosts L → machines.State → L → List Entry
    → L → Type 0
SentShort machines links state first journal link =
    (prefix last : List Entry) × (count : ℕ)
    × (journal ≡ prefix ++ last) × (length last ≤ 1)
    × (length (sent_in (steps_of machines) state prefix) ≤ count)
    × WentOn (links.sent first) (take count (sent_in (steps_of machines) state journal)) (links.sent link)

-- the last entry is quiet; or a turn of some thread, at what the clock said last and with nothing got, is empty
abbrev pub LastWasQuiet : {M C : Type 0} → (machines : MachineGhosts M) → ClockGhosts C → machines.State → List Entry
    → M → C → Type 0
LastWasQuiet machines clocks state journal machine clock =
    (0 < quiet_tail (steps_of machines) state 0 journal)
    ⊎ ((thread : ℕ) × (thread < machines.thread_count machine)
    × ((machines.turned (replay_state (steps_of machines) state journal) thread (clocks.said clock) None).changed
    ≡ false))

-- every thread polls
abbrev pub AllPoll : {M : Type 0} → MachineGhosts M → M → Type 0
AllPoll machines machine = (thread : ℕ) → thread < machines.thread_count machine
    → machines.polls_at machine thread ≡ true

-- the bytes of entries, one after the other
abbrev pub texts : {K : Type 0} → RecorderGhosts K → List Entry → List ℕ
texts recorders entries = flat_map recorders.text entries

-- the bytes that waited at first have gone on to the sink behind, then these, and maybe more
abbrev pub HasGone : Outbox → Outbox → List ℕ → Type 0
HasGone old new bytes = (more : List ℕ) × Appends old.given new.given ((old.pending ++ bytes) ++ more)

-- at these ends datagrams of the last turn weren't sent
abbrev pub IsCut : Option StationEnd → Type 0
IsCut kept = (kept ≡ Some LinkFault) ⊎ (kept ≡ Some WriteFault)

-- what was written when something was sent: entries of the journal, up to some place, whose bytes have gone on to the
-- sink behind. The link was sent nothing but what their turns gave, and those behind them gave nothing, unless the sink
-- failed
pub record Ahead {M L K : Type 0} (machines : MachineGhosts M) (links : LinkGhosts L) (recorders : RecorderGhosts K)
    (state : machines.State) (first last : L) (before now : K) (journal : List Entry) (kept : Option StationEnd) : Type 0 where
  pub written : List Entry
  pub waits : List Entry
  pub whole : journal ≡ written ++ waits
  pub gone : 0 < length written → HasGone (recorders.outbox before) (recorders.outbox now) (texts recorders written)
  pub silent : kept ≢ Some WriteFault → sent_in (steps_of machines) state journal ≡ sent_in (steps_of machines) state written
  pub sent : kept ≢ Some LinkFault → WentOn (links.sent first) (sent_in (steps_of machines) state written) (links.sent last)

-- what a kept end says
abbrev pub EndIs : {M L C K : Type 0} → MachineGhosts M → LinkGhosts L → RecorderGhosts K → Opening M L C K
    → StationState M L C K → Option StationEnd → Type 0
EndIs machines links recorders opening station None = Unit {0}
EndIs machines links recorders opening station (Some Over) =
    (station.quiet ≡ station.patience) × (machines.is_over station.machine ≡ true)
EndIs machines links recorders opening station (Some Stuck) =
    (station.quiet ≡ station.patience) × (machines.is_over station.machine ≡ false)
EndIs machines links recorders opening station (Some LinkFault) =
    Rose (links.faults opening.link) (links.faults station.link)
EndIs machines links recorders opening station (Some WriteFault) =
    Rose (recorders.outbox opening.recorder).faults (recorders.outbox station.recorder).faults
EndIs machines links recorders opening station (Some JournalFull) = IsJournalFull station.count
EndIs machines links recorders opening station (Some NoMemory) = Unit {0}

-- machine and datagrams of a station, by the replay of its journal from a state for which the machine stood at first
pub record Replays {M L C K : Type 0} (machines : MachineGhosts M) (links : LinkGhosts L) (clocks : ClockGhosts C)
    (recorders : RecorderGhosts K) (opening : Opening M L C K) (state : machines.State) (journal : List Entry)
    (station : StationState M L C K) : Type 0 where
  -- the machine stands for the replay
  pub machine : machines.stands station.machine (replay_state (steps_of machines) state journal)
  -- where the link tells them, the datagrams sent are those that the turns of the journal gave
  pub sent : ¬ IsCut station.kept
      → WentOn (links.sent opening.link) (sent_in (steps_of machines) state journal) (links.sent station.link)
  pub sent_short : IsCut station.kept → SentShort machines links state opening.link journal station.link
  -- and their entries were written before
  pub ahead : Ahead machines links recorders state opening.link station.link opening.recorder station.recorder journal
      station.kept
  -- the quiet turns are at most the quiet entries at the journal's end and the empty turns
  pub quiet : station.kept ≢ Some LinkFault
      → station.quiet ≤ quiet_tail (steps_of machines) state 0 journal + station.idle
  -- where a turn was quiet, the last entry is, or a turn would be empty
  pub last : station.kept ≢ Some LinkFault → 0 < station.quiet
      → LastWasQuiet machines clocks state journal station.machine station.clock

-- what holds of a station that was opened so, and took the turns of this journal
pub record Facts {M L C K : Type 0} (machines : MachineGhosts M) (links : LinkGhosts L) (clocks : ClockGhosts C)
    (recorders : RecorderGhosts K) (opening : Opening M L C K) (journal : List Entry)
    (station : StationState M L C K) : Type 0 where
  -- the machine has as many threads, and patience stays
  pub threads : machines.thread_count station.machine ≡ machines.thread_count opening.machine
  pub patience : station.patience ≡ opening.patience
  -- the bounds of the journal and of its entries
  pub count : station.count ≡ length journal
  pub within : length journal ≤ entry_limit
  pub entries : All (IsEntryWithin (machines.thread_count opening.machine)) journal
  -- the bytes of all entries went into the recorder, or at its fault a prefix of them
  pub written : station.kept ≢ Some WriteFault
      → Gathers (recorders.outbox opening.recorder) (recorders.outbox station.recorder) (texts recorders journal)
  pub prefix : station.kept ≡ Some WriteFault
      → GathersPrefix (recorders.outbox opening.recorder) (recorders.outbox station.recorder) (texts recorders journal)
  -- for each state for which the machine stood, machine and journal are its replay
  pub replay : (state : machines.State) → machines.stands opening.machine state
      → Replays machines links clocks recorders opening state journal station
  -- where the link tells them, the datagrams received are the journal's; its place stays, its faults never fall
  pub received : WentOn (links.received opening.link) (got_in journal) (links.received station.link)
  pub bound : links.bound station.link ≡ links.bound opening.link
  pub faults : links.faults opening.link ≤ links.faults station.link
  -- where the clock always says one value, each entry has that time
  pub fixed : clocks.fixed station.clock ≡ clocks.fixed opening.clock
  pub times : ForSome (clocks.fixed opening.clock) (λ value. All (λ entry. entry.now ≡ value) journal)
  -- the clock was asked at least once for each entry and each empty turn, or its counter stands at its last value
  pub asked : min (clocks.asked opening.clock + (length journal + station.idle)) last_count ≤ clocks.asked station.clock
  -- where the last turn was quiet and every thread polls, nothing waits, where the link tells what waits
  pub waiting : station.kept ≢ Some LinkFault → 0 < station.quiet → AllPoll machines station.machine
      → IsEmptyWhereTold (links.waiting station.link)
  -- the cause of the kept end
  pub end : EndIs machines links recorders opening station station.kept

-- it took the turns of some journal
abbrev pub HasFacts : {M L C K : Type 0} → MachineGhosts M → LinkGhosts L → ClockGhosts C → RecorderGhosts K
    → Opening M L C K → StationState M L C K → Type 0
HasFacts machines links clocks recorders opening station =
    (journal : List Entry) × Facts machines links clocks recorders opening journal station
