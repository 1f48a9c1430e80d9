-- What the threads of a station leave, once they have ended.
use Rattle.std.specs.Prelude.{◌≡◌, ◌≢◌, ◌+◌, ◌≤◌, ◌⊎◌, true, false, length, List, All, Some, unwrap_or}
use Rattle.std.specs.Option.{ForSome}
use Rattle.base_io.specs.Buffered.{Gathers, GathersPrefix}
use Rattle.base_io.specs.Faults.{Rose}
use Rattle.base_io.specs.Told.{IsEmptyWhereTold}
use Rattle.base_io.specs.declared.link.Link.{Ghosts as LinkGhosts}
use Rattle.base_io.specs.declared.clock.Clock.{Ghosts as ClockGhosts}
use Rattle.base_turns.specs.declared.entry.Entry.{Entry}
use Rattle.base_turns.specs.declared.turns.Machine.{Ghosts as MachineGhosts}
use Rattle.base_turns.specs.Replay.{steps_of, replay_state, got_in, sent_in, quiet_tail}
use Rattle.proc_runner.specs.declared.ends.StationEnd.{StationEnd}
use Rattle.proc_runner.specs.declared.ends.StationEnd.TheVariants.{Over, Stuck, LinkFault, WriteFault, JournalFull, NoMemory}
use Rattle.proc_runner.specs.declared.ends.EndedStation.{EndedStation}
use Rattle.proc_runner.specs.declared.recorder.Recorder.{Ghosts as RecorderGhosts}
use Rattle.proc_runner.specs.StationState.{StationState, Opening}
use Rattle.proc_runner.specs.Facts.{entry_limit, last_count, IsJournalFull, IsEntryWithin, WentOn, SentShort}
use Rattle.proc_runner.specs.Facts.{LastWasQuiet}
use Rattle.proc_runner.specs.Facts.{AllPoll, Ahead, texts}

-- an end for which patience was spent
abbrev pub IsSpent : StationEnd → Type 0
IsSpent end = (end ≡ Over) ⊎ (end ≡ Stuck)

-- the quiet entries at the journal's end, with the times that the clock was asked without an entry, are at least
-- `patience`; or the clock's counter stands at its last value
abbrev pub PatienceIsSpent : {M L C K : Type 0} → (machines : MachineGhosts M) → ClockGhosts C → Opening M L C K
    → machines.State → (journal : List Entry) → EndedStation M L C K → Type 0
PatienceIsSpent machines clocks opening state journal left =
    (opening.patience + (length journal + clocks.asked opening.clock)
    ≤ quiet_tail (steps_of machines) state 0 journal + clocks.asked left.clock)
    ⊎ (last_count ≤ clocks.asked left.clock)

-- at these ends datagrams of the last turn weren't sent
abbrev pub IsShort : StationEnd → Type 0
IsShort end = (end ≡ LinkFault) ⊎ (end ≡ WriteFault)

-- what is left, by the replay of the journal from a state for which the machine stood at the opening
pub record LeavesReplay {M L C K : Type 0} (machines : MachineGhosts M) (links : LinkGhosts L) (clocks : ClockGhosts C)
    (recorders : RecorderGhosts K) (opening : Opening M L C K) (state : machines.State) (journal : List Entry)
    (left : EndedStation M L C K) : Type 0 where
  -- the machine stands for the replay
  pub machine : machines.stands left.machine (replay_state (steps_of machines) state journal)
  -- where the link tells them, the datagrams sent are those that the turns of the journal gave
  pub sent : ¬ IsShort left.end
      → WentOn (links.sent opening.link) (sent_in (steps_of machines) state journal) (links.sent left.link)
  pub sent_short : IsShort left.end → SentShort machines links state opening.link journal left.link
  -- and their entries had gone on to the sink behind before
  pub ahead : Ahead machines links recorders state opening.link left.link opening.recorder left.recorder journal
      (Some left.end)
  -- at `Over` and `Stuck`
  pub spent : IsSpent left.end → PatienceIsSpent machines clocks opening state journal left
  pub last : IsSpent left.end → LastWasQuiet machines clocks state journal left.machine left.clock

-- what the threads of a station that was opened so leave: there is a journal, of which these hold
pub record StationLeaves {M L C K : Type 0} (machines : MachineGhosts M) (links : LinkGhosts L) (clocks : ClockGhosts C)
    (recorders : RecorderGhosts K) (opening : Opening M L C K) (left : EndedStation M L C K) : Type 0 where
  pub journal : List Entry
  pub threads : machines.thread_count left.machine ≡ machines.thread_count opening.machine
  -- the bounds of the journal and of its entries
  pub within : length journal ≤ entry_limit
  pub entries : All (IsEntryWithin (machines.thread_count opening.machine)) journal
  -- the bytes of all entries went into the recorder, or at its fault a prefix of them
  pub written : left.end ≢ WriteFault
      → Gathers (recorders.outbox opening.recorder) (recorders.outbox left.recorder) (texts recorders journal)
  pub prefix : left.end ≡ WriteFault
      → GathersPrefix (recorders.outbox opening.recorder) (recorders.outbox left.recorder) (texts recorders journal)
  -- for each state for which the machine stood, machine and journal are its replay
  pub replay : (state : machines.State) → machines.stands opening.machine state
      → LeavesReplay machines links clocks recorders opening state journal left
  -- where the link tells them, the datagrams received are the journal's; what it was bound to stays
  pub received : WentOn (links.received opening.link) (got_in journal) (links.received left.link)
  pub bound : links.bound left.link ≡ links.bound opening.link
  -- where the clock always says one value, each entry has that time
  pub times : ForSome (clocks.fixed opening.clock) (λ value. All (λ entry. entry.now ≡ value) journal)
  -- the causes of the ends
  pub over : left.end ≡ Over → machines.is_over left.machine ≡ true
  pub stuck : left.end ≡ Stuck → machines.is_over left.machine ≡ false
  pub waiting : IsSpent left.end → AllPoll machines left.machine → IsEmptyWhereTold (links.waiting left.link)
  pub fault : left.end ≡ LinkFault → Rose (links.faults opening.link) (links.faults left.link)
  pub full : left.end ≡ JournalFull → IsJournalFull (length journal)

-- what a station leaves: its end, or want of memory where it keeps none
abbrev pub left_by_station : {M L C K : Type 0} → StationState M L C K → EndedStation M L C K
left_by_station station = record {
  machine = station.machine;
  link = station.link;
  clock = station.clock;
  recorder = station.recorder;
  end = unwrap_or station.kept NoMemory;
}
