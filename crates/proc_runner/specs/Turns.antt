-- What one turn of a station does.
use Rattle.std.specs.Prelude.{◌≡◌, ◌≢◌, ℕ, ◌+◌, ◌^◌, ◌<◌, ◌≤◌, ◌⊎◌, Bool, ◌&&◌, not, true, false, if◌then◌else◌}
use Rattle.std.specs.Prelude.{List, [], ◌∷◌, ◌++◌, length, take, Option, Some, None, is_none}
use Rattle.std.specs.Option.{ForSome, option_to_list}
use Rattle.base_io.specs.Buffered.{Gathers, GathersPrefix}
use Rattle.base_io.specs.Faults.{Rose, one_more}
use Rattle.base_io.specs.Told.{IsEmptyWhereTold, IsFirstWhereTold, rest_of}
use Rattle.base_io.specs.declared.link.Link.{Ghosts as LinkGhosts}
use Rattle.base_io.specs.declared.link.LinkAnswer.{LinkAnswer}
use Rattle.base_io.specs.declared.link.LinkAnswer.TheVariants.{Done, Failed}
use Rattle.base_io.specs.declared.clock.Clock.{Ghosts as ClockGhosts}
use Rattle.base_turns.specs.declared.entry.Entry.{Entry}
use Rattle.base_turns.specs.declared.turns.Turned.{Turned}
use Rattle.base_turns.specs.declared.turns.Machine.{Ghosts as MachineGhosts}
use Rattle.base_turns.specs.Replay.{steps_of, after_entry, given_by}
use Rattle.proc_runner.specs.declared.ends.TurnAnswer.{TurnAnswer}
use Rattle.proc_runner.specs.declared.ends.StationEnd.{StationEnd}
use Rattle.proc_runner.specs.declared.ends.StationEnd.TheVariants.{Over, Stuck, LinkFault, WriteFault, JournalFull, NoMemory}
use Rattle.proc_runner.specs.declared.ends.TurnAnswer.TheVariants.{Went, Idle, Ended}
use Rattle.proc_runner.specs.declared.recorder.Recorder.{Ghosts as RecorderGhosts}
use Rattle.base_io.specs.declared.writing.Wrote.{Wrote}
use Rattle.base_io.specs.declared.writing.Wrote.TheVariants as wrote
use Rattle.proc_runner.specs.StationState.{StationState, Opening, ended_with}
use Rattle.proc_runner.specs.Facts.{WentOn, IsJournalFull, Facts, receive_limit}

abbrev pub made_entry : (thread now : ℕ) → Option (List ℕ) → Entry
made_entry thread now got = record { thread = thread; now = now; got = got }

-- the clock was asked once
pub record Asks {C : Type 0} (clocks : ClockGhosts C) (old new : C) : Type 0 where
  pub asked : clocks.asked new ≡ one_more (clocks.asked old)
  pub fixed : clocks.fixed new ≡ clocks.fixed old
  pub time : ForSome (clocks.fixed old) (λ value. clocks.said new ≡ value)

-- the link gave a datagram, or none: it was asked where the thread polls
pub record GivesDatagram {L : Type 0} (links : LinkGhosts L) (polls : Bool) (got : Option (List ℕ)) (old new : L)
    : Type 0 where
  pub cut : ForSome got (λ bytes. length bytes ≤ receive_limit)
  pub polled : polls ≡ false → got ≡ None
  pub received : WentOn (links.received old) (option_to_list got) (links.received new)
  pub first : ForSome got (λ bytes. IsFirstWhereTold (links.waiting old) receive_limit bytes
      × (links.waiting new ≡ rest_of (links.waiting old)))
  pub none : polls ≡ true → got ≡ None → IsEmptyWhereTold (links.waiting new)
  pub sent : links.sent new ≡ links.sent old
  pub bound : links.bound new ≡ links.bound old
  pub faults : links.faults old ≤ links.faults new

-- the link failed as it was asked
pub record GivesNot {L : Type 0} (links : LinkGhosts L) (old new : L) : Type 0 where
  pub received : links.received new ≡ links.received old
  pub waiting : links.waiting new ≡ links.waiting old
  pub sent : links.sent new ≡ links.sent old
  pub bound : links.bound new ≡ links.bound old
  pub rose : Rose (links.faults old) (links.faults new)
  pub faults : links.faults old ≤ links.faults new

-- the link was sent these datagrams
pub record Sends {L : Type 0} (links : LinkGhosts L) (given : List (ℕ × List ℕ)) (old new : L) : Type 0 where
  pub sent : WentOn (links.sent old) given (links.sent new)
  pub received : links.received new ≡ links.received old
  pub waiting : links.waiting new ≡ links.waiting old
  pub bound : links.bound new ≡ links.bound old
  pub faults : links.faults old ≤ links.faults new

-- the first of the datagrams of the machine's last turn, by each state for which it stands
abbrev pub AreOutgoing : {M : Type 0} → MachineGhosts M → M → (count : ℕ) → List (ℕ × List ℕ) → Type 0
AreOutgoing machines machine count given = (state : machines.State) → machines.stands machine state
    → given ≡ take count (machines.sent state)

-- a machine whose last turn says how many datagrams it sends, the link before, how it answered, and the link after
pub record OutgoingSent (M L : Type 0) : Type 0 where
  pub machine : M
  pub count : ℕ
  pub before : L
  pub answer : LinkAnswer
  pub after : L

-- by the answer: all were sent, or those before the one that failed
abbrev pub SendsAs : {M L : Type 0} → MachineGhosts M → LinkGhosts L → OutgoingSent M L → LinkAnswer → Type 0
SendsAs machines links sent Done =
    (given : List (ℕ × List ℕ)) × AreOutgoing machines sent.machine sent.count given
    × Sends links given sent.before sent.after
SendsAs machines links sent Failed =
    (given : List (ℕ × List ℕ)) × (count : ℕ) × (count < sent.count) × AreOutgoing machines sent.machine count given
    × Sends links given sent.before sent.after × Rose (links.faults sent.before) (links.faults sent.after)

-- a link that is sent so many datagrams of the machine's last turn: all, or those before the one that failed
abbrev pub SendsOutgoing : {M L : Type 0} → MachineGhosts M → LinkGhosts L → OutgoingSent M L → Type 0
SendsOutgoing machines links sent = SendsAs machines links sent sent.answer

-- the machine took its turn: what it is then, by each state for which it stood
pub record Turns {M : Type 0} (machines : MachineGhosts M) (entry : Entry) (told : Turned) (old new : M) : Type 0 where
  pub threads : machines.thread_count new ≡ machines.thread_count old
  pub polls : told.stepped ≡ false → (thread : ℕ) → machines.polls_at new thread ≡ machines.polls_at old thread
  pub stands : (state : machines.State) → machines.stands old state
      → machines.stands new (after_entry (steps_of machines) state entry)
  pub told_is : (state : machines.State) → machines.stands old state
      → told ≡ machines.turned state entry.thread entry.now entry.got

-- an entry went into the recorder; and where its turn sends datagrams, nothing waits there
pub record Records {K : Type 0} (recorders : RecorderGhosts K) (entry : Entry) (sends : ℕ) (old new : K) : Type 0 where
  pub gathered : Gathers (recorders.outbox old) (recorders.outbox new) (recorders.text entry)
  pub flushed : 0 < sends → (recorders.outbox new).pending ≡ []

-- by the answer; at a fault a prefix of it went in
abbrev pub RecordsAs : {K : Type 0} → RecorderGhosts K → Entry → (sends : ℕ) → (old new : K) → Wrote → Type 0
RecordsAs recorders entry sends old new wrote.Done = Records recorders entry sends old new
RecordsAs recorders entry sends old new wrote.Fault =
    GathersPrefix (recorders.outbox old) (recorders.outbox new) (recorders.text entry)

-- a turn that keeps its entry: something was got or changed; the entry went into the recorder, and then its datagrams
-- were sent, all unless one failed, and none where the recorder did
pub record KeepsEntry {M L C K : Type 0} (machines : MachineGhosts M) (links : LinkGhosts L) (clocks : ClockGhosts C)
    (recorders : RecorderGhosts K) (thread : ℕ)
    (old new : StationState M L C K) : Type 0 where
  pub now : ℕ
  pub got : Option (List ℕ)
  pub told : Turned
  pub between : L
  pub count : ℕ
  pub given : List (ℕ × List ℕ)
  pub asks : Asks clocks old.clock new.clock
  pub said : clocks.said new.clock ≡ now
  pub gives : GivesDatagram links (machines.polls_at old.machine thread) got old.link between
  pub whether : (got ≢ None) ⊎ (told.changed ≡ true)
  pub turns : Turns machines (made_entry thread now got) told old.machine new.machine
  pub records : new.kept ≢ Some WriteFault
      → Records recorders (made_entry thread now got) told.sends old.recorder new.recorder
  pub prefix : new.kept ≡ Some WriteFault
      → GathersPrefix (recorders.outbox old.recorder) (recorders.outbox new.recorder)
      (recorders.text (made_entry thread now got))
  pub sends : Sends links given between new.link
  pub given_is : (state : machines.State) → machines.stands old.machine state
      → given ≡ take count (given_by (steps_of machines) state (made_entry thread now got))
  pub all : new.kept ≡ None → count ≡ told.sends
  pub short : new.kept ≡ Some LinkFault → count < told.sends
  pub none : new.kept ≡ Some WriteFault → given ≡ []
  pub rest : new ≡ record old {
    machine = new.machine;
    link = new.link;
    clock = new.clock;
    recorder = new.recorder;
    count = old.count + 1;
    quiet = if is_none got && not told.stepped then old.quiet + 1 else 0;
    kept = new.kept;
  }

-- an empty turn: nothing was got, and what the machine stands for stays
pub record Rests {M L C K : Type 0} (machines : MachineGhosts M) (links : LinkGhosts L) (clocks : ClockGhosts C)
    (thread : ℕ)
    (old new : StationState M L C K) : Type 0 where
  pub asks : Asks clocks old.clock new.clock
  pub gives : GivesDatagram links (machines.polls_at old.machine thread) None old.link new.link
  pub threads : machines.thread_count new.machine ≡ machines.thread_count old.machine
  pub polls : (any : ℕ) → machines.polls_at new.machine any ≡ machines.polls_at old.machine any
  pub stands : (state : machines.State) → machines.stands old.machine state → machines.stands new.machine state
  pub empty : (state : machines.State) → machines.stands old.machine state
      → (machines.turned state thread (clocks.said new.clock) None).changed ≡ false
  pub small : old.quiet < 2 ^ 32
  pub rest : new ≡ record old {
    machine = new.machine;
    link = new.link;
    clock = new.clock;
    quiet = old.quiet + 1;
    idle = one_more old.idle;
  }

-- the link failed as it was asked, and the turn ended there
pub record FailsAsked {M L C K : Type 0} (links : LinkGhosts L) (clocks : ClockGhosts C)
    (old new : StationState M L C K)
    : Type 0 where
  pub asks : Asks clocks old.clock new.clock
  pub gives : GivesNot links old.link new.link
  pub rest : new ≡ record old { link = new.link; clock = new.clock; kept = Some LinkFault }

-- one turn: its thread, the station before, how the turn ended, and the station after
pub record StationTurn (M L C K : Type 0) : Type 0 where
  pub thread : ℕ
  pub before : StationState M L C K
  pub end : TurnAnswer
  pub after : StationState M L C K

-- a turn that is begun and meets an end
abbrev pub MeetsEnd : {M L C K : Type 0} → MachineGhosts M → LinkGhosts L → ClockGhosts C → RecorderGhosts K
    → StationTurn M L C K → StationEnd → Type 0
MeetsEnd machines links clocks recorders turn LinkFault =
    FailsAsked links clocks turn.before turn.after
    ⊎ (KeepsEntry machines links clocks recorders turn.thread turn.before turn.after
    × (turn.after.kept ≡ Some LinkFault)
    × Rose (links.faults turn.before.link) (links.faults turn.after.link))
MeetsEnd machines links clocks recorders turn WriteFault =
    KeepsEntry machines links clocks recorders turn.thread turn.before turn.after × (turn.after.kept ≡ Some WriteFault)
MeetsEnd machines links clocks recorders turn Over = ⊥
MeetsEnd machines links clocks recorders turn Stuck = ⊥
MeetsEnd machines links clocks recorders turn JournalFull = ⊥
MeetsEnd machines links clocks recorders turn NoMemory = turn.after ≡ ended_with turn.before NoMemory

-- a turn that is begun and ends so
abbrev pub GoesAs : {M L C K : Type 0} → MachineGhosts M → LinkGhosts L → ClockGhosts C → RecorderGhosts K
    → StationTurn M L C K → TurnAnswer → Type 0
GoesAs machines links clocks recorders turn Went =
    KeepsEntry machines links clocks recorders turn.thread turn.before turn.after × (turn.after.kept ≡ None)
GoesAs machines links clocks recorders turn Idle = Rests machines links clocks turn.thread turn.before turn.after
GoesAs machines links clocks recorders turn (Ended end) = MeetsEnd machines links clocks recorders turn end

-- a turn that is begun, by its answer
abbrev pub GoesTurn : {M L C K : Type 0} → MachineGhosts M → LinkGhosts L → ClockGhosts C → RecorderGhosts K
    → StationTurn M L C K → Type 0
GoesTurn machines links clocks recorders turn = GoesAs machines links clocks recorders turn turn.end

-- the datagrams of a turn, as many as it sends: the station before, how sending ended, and the station after
pub record SendingTurn (M L C K : Type 0) : Type 0 where
  pub sends : ℕ
  pub before : StationState M L C K
  pub end : TurnAnswer
  pub after : StationState M L C K

-- what the link was sent of it, and how it answered
abbrev pub sent_at : {M L C K : Type 0} → SendingTurn M L C K → LinkAnswer → OutgoingSent M L
sent_at turn answer = record {
  machine = turn.before.machine;
  count = turn.sends;
  before = turn.before.link;
  answer = answer;
  after = turn.after.link;
}

-- sending that ended so
abbrev pub SendsAll : {M L C K : Type 0} → MachineGhosts M → LinkGhosts L → SendingTurn M L C K → TurnAnswer → Type 0
SendsAll machines links turn Went =
    SendsOutgoing machines links (sent_at turn Done)
    × (turn.after ≡ record turn.before { link = turn.after.link })
SendsAll machines links turn Idle = ⊥
SendsAll machines links turn (Ended LinkFault) =
    SendsOutgoing machines links (sent_at turn Failed)
    × (turn.after ≡ record turn.before { link = turn.after.link; kept = Some LinkFault })
SendsAll machines links turn (Ended WriteFault) = ⊥
SendsAll machines links turn (Ended Over) = ⊥
SendsAll machines links turn (Ended Stuck) = ⊥
SendsAll machines links turn (Ended JournalFull) = ⊥
SendsAll machines links turn (Ended NoMemory) = ⊥

-- the datagrams of a turn were sent, or one failed
abbrev pub SendsOn : {M L C K : Type 0} → MachineGhosts M → LinkGhosts L → SendingTurn M L C K → Type 0
SendsOn machines links turn = SendsAll machines links turn turn.end

-- a station whose recorder was handed one more entry
abbrev pub with_entry : {M L C K : Type 0} → StationState M L C K → K → StationState M L C K
with_entry station recorder = record station { recorder = recorder; count = station.count + 1 }

-- the turn with its entry recorded
abbrev pub sending : {M L C K : Type 0} → SendingTurn M L C K → SendingTurn M L C K
sending turn = record turn { before = with_entry turn.before turn.after.recorder }

-- the entry went into the recorder, and then the datagrams were sent, or one failed; or the recorder failed, and none was
abbrev pub FinishesAs : {M L C K : Type 0} → MachineGhosts M → LinkGhosts L → RecorderGhosts K → Entry
    → SendingTurn M L C K → TurnAnswer → Type 0
FinishesAs machines links recorders entry turn Went =
    Records recorders entry turn.sends turn.before.recorder turn.after.recorder
    × SendsAll machines links (sending turn) Went
FinishesAs machines links recorders entry turn Idle = ⊥
FinishesAs machines links recorders entry turn (Ended LinkFault) =
    Records recorders entry turn.sends turn.before.recorder turn.after.recorder
    × SendsAll machines links (sending turn) (Ended LinkFault)
FinishesAs machines links recorders entry turn (Ended WriteFault) =
    GathersPrefix (recorders.outbox turn.before.recorder) (recorders.outbox turn.after.recorder)
    (recorders.text entry)
    × (turn.after ≡ ended_with (with_entry turn.before turn.after.recorder) WriteFault)
FinishesAs machines links recorders entry turn (Ended Over) = ⊥
FinishesAs machines links recorders entry turn (Ended Stuck) = ⊥
FinishesAs machines links recorders entry turn (Ended JournalFull) = ⊥
FinishesAs machines links recorders entry turn (Ended NoMemory) = ⊥

abbrev pub Finishes : {M L C K : Type 0} → MachineGhosts M → LinkGhosts L → RecorderGhosts K → Entry
    → SendingTurn M L C K → Type 0
Finishes machines links recorders entry turn = FinishesAs machines links recorders entry turn turn.end

-- a journal that stays, or has one entry more, of this thread
abbrev pub AppendsAtMostOne : (thread : ℕ) → List Entry → List Entry → Type 0
AppendsAtMostOne thread old new =
    (new ≡ old) ⊎ ((now : ℕ) × (got : Option (List ℕ)) × (new ≡ old ++ made_entry thread now got ∷ []))

-- a station that took the turns of this journal, and then at most one more, of this thread
abbrev pub KeepsFacts : {M L C K : Type 0} → MachineGhosts M → LinkGhosts L → ClockGhosts C → RecorderGhosts K
    → Opening M L C K → (thread : ℕ) → List Entry → StationState M L C K → Type 0
KeepsFacts machines links clocks recorders opening thread journal station =
    (after : List Entry) × AppendsAtMostOne thread journal after
    × Facts machines links clocks recorders opening after station

-- a count that stays, or is one more
abbrev pub CountsAtMostOne : (old new : ℕ) → Type 0
CountsAtMostOne old new = (new ≡ old) ⊎ (new ≡ old + 1)

-- a turn, by the first of its steps that ends it
pub record TakesTurn {M L C K : Type 0} (machines : MachineGhosts M) (links : LinkGhosts L) (clocks : ClockGhosts C)
    (recorders : RecorderGhosts K) (turn : StationTurn M L C K) : Type 0 where
  pub again : ForSome turn.before.kept (λ end. (turn.end ≡ Ended end) × (turn.after ≡ turn.before))
  pub spent : turn.before.kept ≡ None → turn.before.quiet ≡ turn.before.patience
      → let end = if machines.is_over turn.before.machine then Over else Stuck in
      (turn.end ≡ Ended end) × (turn.after ≡ ended_with turn.before end)
  pub full : turn.before.kept ≡ None → turn.before.quiet ≢ turn.before.patience → IsJournalFull turn.before.count
      → (turn.end ≡ Ended JournalFull) × (turn.after ≡ ended_with turn.before JournalFull)
  pub goes : turn.before.kept ≡ None → turn.before.quiet ≢ turn.before.patience → ¬ IsJournalFull turn.before.count
      → GoesTurn machines links clocks recorders turn
