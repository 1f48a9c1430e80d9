-- How a node runs, and what it writes as it does.
-- Origin: this project's profile.
use Rattle.std.specs.Prelude.{◌≡◌, ◌≤◌, ◌⊎◌, ℕ, Bool, true, false, List, [], ◌++◌, codes, map, Some}
use Rattle.base_io.specs.Buffered.{Gathering, Outbox, Gathers, GathersPrefix, GathersAll, outbox}
use Rattle.base_io.specs.Faults.{Rose}
use Rattle.base_io.specs.declared.link.Link.{Ghosts as LinkGhosts}
use Rattle.base_io.specs.declared.clock.Clock.{Ghosts as ClockGhosts}
use Rattle.base_io.specs.declared.sink.Sink.{Ghosts as SinkGhosts}
use Rattle.base_io.specs.declared.writing.Wrote.{Wrote}
use Rattle.base_io.specs.declared.writing.Wrote.TheVariants as wrotes
use Rattle.wire_message.specs.Parameters.{Parameters}
use Rattle.base_turns.specs.declared.entry.Entry.{Entry}
use Rattle.base_turns.specs.declared.turns.Machine.{Ghosts as MachineGhosts}
use Rattle.proc_runner.specs.declared.ends.StationEnd.{StationEnd}
use Rattle.proc_runner.specs.declared.ends.StationEnd.TheVariants.{Over, Stuck, LinkFault, WriteFault, JournalFull, NoMemory}
use Rattle.proc_runner.specs.declared.ends.EndedStation.{EndedStation}
use Rattle.proc_runner.specs.declared.recorder.Recorder.{Ghosts as RecorderGhosts}
use Rattle.proc_runner.specs.Leaving.{StationLeaves}
use Rattle.proc_runner.specs.StationState.{Opening, opened_with}
use Rattle.base_text.specs.LineTexts.{Line, line_text, spell}
use Rattle.text_trace.specs.TraceText.{trace_text, head_lines, head_text, entry_line}
use Rattle.text_trace.specs.declared.trace.Trace.{Trace}
use Rattle.proc_station.specs.declared.node.Node.{Node}

-- ---- what is left

-- the link tells the datagrams that it told before
pub record TellsTheSame {L : Type 0} (l : LinkGhosts L) (before after : L) : Type 0 where
  pub sent : l.sent after ≡ l.sent before
  pub received : l.received after ≡ l.received before
  pub waiting : l.waiting after ≡ l.waiting before

-- the node with its link bound, and what takes its entries
abbrev pub opening_over : {M L C D : Type 0} → L → D → Node M L C → Opening M L C D
opening_over bound recorder node = opened_with node.machine bound node.clock recorder node.patience

-- the link was bound to the node's address, and the node's threads ran over it
pub record RunsBound {M L C D : Type 0} (m : MachineGhosts M) (l : LinkGhosts L) (c : ClockGhosts C)
    (d : RecorderGhosts D) (node : Node M L C) (recorder : D) (left : EndedStation M L C D) : Type 0 where
  pub link : L  -- as it was bound
  pub bound : l.bound link ≡ Some (node.address.rank, node.settings.nodes, node.address.port)
  pub same : TellsTheSame l node.link link
  pub later : l.faults node.link ≤ l.faults link
  pub leaves : StationLeaves m l c d (opening_over link recorder node) left

-- the link failed as it was to be bound, and nothing was done
pub record IsUnbound {M L C D : Type 0} (l : LinkGhosts L) (node : Node M L C) (recorder : D) (left : EndedStation M L C D)
    : Type 0 where
  pub bound : l.bound left.link ≡ l.bound node.link
  pub same : TellsTheSame l node.link left.link
  pub rose : Rose (l.faults node.link) (l.faults left.link)
  pub left_is : left ≡ record {
    machine = node.machine;
    link = left.link;
    clock = node.clock;
    recorder = recorder;
    end = LinkFault;
  }

-- it ran, and took these turns
abbrev pub RunsOver : {M L C D : Type 0} → (m : MachineGhosts M) → LinkGhosts L → ClockGhosts C → RecorderGhosts D
    → Node M L C → D → (journal : List Entry) → EndedStation M L C D → Type 0
RunsOver m l c d node recorder journal left =
    ((ran : RunsBound m l c d node recorder left) × (ran.leaves.journal ≡ journal))
    ⊎ (IsUnbound l node recorder left × (journal ≡ []))

abbrev pub RunsSome : {M L C D : Type 0} → (m : MachineGhosts M) → LinkGhosts L → ClockGhosts C → RecorderGhosts D
    → Node M L C → D → EndedStation M L C D → Type 0
RunsSome m l c d node recorder left = (journal : List Entry) × RunsOver m l c d node recorder journal left

-- ---- what is written

-- a sink that gathers, as what takes the entries of a journal
abbrev pub tracing : {K : Type 0} → SinkGhosts K → RecorderGhosts (Gathering K)
tracing k = record { outbox = outbox k.taken k.faults; text = λ entry. line_text (entry_line entry) }

-- the trace of a node's journal
abbrev pub trace_of : Parameters → (rank : ℕ) → List Entry → Trace
trace_of settings rank journal = record { job = settings.job; rank = rank; entries = journal }

-- its text
abbrev pub whole_text : Parameters → (rank : ℕ) → List Entry → List ℕ
whole_text settings rank journal = trace_text settings.version (trace_of settings rank journal)

-- its lines without the last one, and their text
abbrev pub open_lines : Parameters → (rank : ℕ) → List Entry → List Line
open_lines settings rank journal =
    head_lines settings.version settings.job rank ++ map entry_line journal

abbrev pub open_text : Parameters → (rank : ℕ) → List Entry → List ℕ
open_text settings rank journal = spell (open_lines settings rank journal)

-- by the end, and by whether the last line was written: the whole text; without its last line, where memory ran out; and
-- at a fault of the sink a prefix of it
abbrev pub WritesAt : Parameters → (rank : ℕ) → List Entry → (old new : Outbox) → StationEnd → Wrote
    → Type 0
WritesAt settings rank journal old new NoMemory wrote = Gathers old new (open_text settings rank journal)
WritesAt settings rank journal old new WriteFault wrote = GathersPrefix old new (whole_text settings rank journal)
WritesAt settings rank journal old new Over wrote = GathersAll old new (whole_text settings rank journal) wrote
WritesAt settings rank journal old new Stuck wrote = GathersAll old new (whole_text settings rank journal) wrote
WritesAt settings rank journal old new LinkFault wrote = GathersAll old new (whole_text settings rank journal) wrote
WritesAt settings rank journal old new JournalFull wrote = GathersAll old new (whole_text settings rank journal) wrote

-- the last line of what threads left was written, or none
abbrev pub EndLine : (old new : Outbox) → StationEnd → Wrote → Type 0
EndLine old new NoMemory wrote = new ≡ old
EndLine old new WriteFault wrote = new ≡ old
EndLine old new Over wrote = GathersAll old new (codes "end\n") wrote
EndLine old new Stuck wrote = GathersAll old new (codes "end\n") wrote
EndLine old new LinkFault wrote = GathersAll old new (codes "end\n") wrote
EndLine old new JournalFull wrote = GathersAll old new (codes "end\n") wrote

-- the last line is written, or its writing fails, where the turns ended so
abbrev pub has_last_line : StationEnd → Bool
has_last_line NoMemory = false
has_last_line WriteFault = false
has_last_line Over = true
has_last_line Stuck = true
has_last_line LinkFault = true
has_last_line JournalFull = true

-- the end of a node whose turns ended so, by whether its last line was written
abbrev pub written_end : StationEnd → Wrote → StationEnd
written_end NoMemory wrote = NoMemory
written_end WriteFault wrote = WriteFault
written_end _ wrotes.Fault = WriteFault
written_end Over wrotes.Done = Over
written_end Stuck wrotes.Done = Stuck
written_end LinkFault wrotes.Done = LinkFault
written_end JournalFull wrotes.Done = JournalFull

-- what threads left, after the last line of the trace; where that isn't to be written, nothing changes
pub record Finishes {M L C K : Type 0} (k : SinkGhosts K) (left after : EndedStation M L C (Gathering K))
    : Type 0 where
  pub wrote : Wrote
  pub after_is : after ≡ record left { recorder = after.recorder; end = written_end left.end wrote }
  pub line : EndLine (outbox k.taken k.faults left.recorder) (outbox k.taken k.faults after.recorder) left.end wrote

-- the node ran with a recorder into which the head of its trace had gone, and left this before its last line
pub record RunsOpen {M L C K : Type 0} (m : MachineGhosts M) (l : LinkGhosts L) (c : ClockGhosts C) (k : SinkGhosts K)
    (node : Node M L C) (sink : Gathering K) (after : EndedStation M L C (Gathering K)) : Type 0 where
  pub opened : Gathering K
  pub left : EndedStation M L C (Gathering K)
  pub journal : List Entry
  pub head : Gathers (outbox k.taken k.faults sink) (outbox k.taken k.faults opened)
      (head_text node.settings.version node.settings.job node.address.rank)
  pub ran : RunsOver m l c (tracing k) node opened journal left
  -- and its last line was written, or that failed
  pub wrote : Wrote
  pub after_is : after ≡ record left { recorder = after.recorder; end = written_end left.end wrote }
  pub written : WritesAt node.settings node.address.rank journal (outbox k.taken k.faults sink)
      (outbox k.taken k.faults after.recorder) left.end wrote

-- the sink failed before anything was done
pub record IsUnopened {M L C K : Type 0} (k : SinkGhosts K) (node : Node M L C) (sink : Gathering K)
    (after : EndedStation M L C (Gathering K)) : Type 0 where
  pub after_is : after ≡ record {
    machine = node.machine;
    link = node.link;
    clock = node.clock;
    recorder = after.recorder;
    end = WriteFault;
  }
  pub written : GathersPrefix (outbox k.taken k.faults sink) (outbox k.taken k.faults after.recorder)
      (whole_text node.settings node.address.rank [])

abbrev pub RunsStation : {M L C K : Type 0} → MachineGhosts M → LinkGhosts L → ClockGhosts C → SinkGhosts K → Node M L C
    → Gathering K → EndedStation M L C (Gathering K) → Type 0
RunsStation m l c k node sink after = RunsOpen m l c k node sink after ⊎ IsUnopened k node sink after
