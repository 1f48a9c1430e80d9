-- What the threads of a node leave, by what is seen of its link and its clock.
use Rattle.std.proofs.Common.{List, ap, inl, inr}
use Rattle.base_io.specs.Buffered.{Gathering, Outbox, outbox}
use Rattle.base_io.specs.declared.link.Link.{Ghosts as LinkGhosts}
use Rattle.base_io.specs.declared.sink.Sink.{Ghosts as SinkGhosts}
use Rattle.base_io.specs.declared.clock.Clock.{Ghosts as ClockGhosts}
use Rattle.base_turns.specs.declared.entry.Entry.{Entry}
use Rattle.base_turns.specs.declared.turns.Machine.{Ghosts as MachineGhosts}
use Rattle.proc_runner.specs.declared.ends.EndedStation.{EndedStation}
use Rattle.proc_runner.specs.Leaving.{StationLeaves, LeavesReplay}
use Rattle.proc_runner.specs.StationState.{Opening}
use Rattle.proc_station.specs.declared.node.Node.{Node}
use Rattle.proc_station.specs.NodeRuns.{IsUnbound, RunsBound, RunsOver, opening_over, tracing}
use Rattle.proc_node.specs.Seen.{ClockSeen, LinkSeen, clock_seen, link_seen, seen_clocks, seen_links}
use Rattle.proc_node.specs.Seen.{seen_recorders}

-- a node, its opening and what it leaves, of which this is seen
abbrev pub node_seen : {M L C : Type 0} → LinkGhosts L → ClockGhosts C → Node M L C → Node M LinkSeen ClockSeen
node_seen l c node = record {
  settings = node.settings;
  address = node.address;
  machine = node.machine;
  link = link_seen l node.link;
  clock = clock_seen c node.clock;
  patience = node.patience;
}

abbrev pub sink_seen : {K : Type 0} → SinkGhosts K → Gathering K → Outbox
sink_seen k sink = outbox k.taken k.faults sink

abbrev pub opening_seen : {M L C K : Type 0} → LinkGhosts L → ClockGhosts C → SinkGhosts K
    → Opening M L C (Gathering K) → Opening M LinkSeen ClockSeen Outbox
opening_seen l c k opening = record {
  machine = opening.machine;
  link = link_seen l opening.link;
  clock = clock_seen c opening.clock;
  recorder = sink_seen k opening.recorder;
  patience = opening.patience;
}

abbrev pub left_seen : {M L C K : Type 0} → LinkGhosts L → ClockGhosts C → SinkGhosts K
    → EndedStation M L C (Gathering K) → EndedStation M LinkSeen ClockSeen Outbox
left_seen l c k left = record {
  machine = left.machine;
  link = link_seen l left.link;
  clock = clock_seen c left.clock;
  recorder = sink_seen k left.recorder;
  end = left.end;
}

module _ {M L C K : Type 0} (m : MachineGhosts M) (l : LinkGhosts L) (c : ClockGhosts C) (k : SinkGhosts K) where
  see_replay : (opening : Opening M L C (Gathering K)) (state : m.State) (journal : List Entry)
      (left : EndedStation M L C (Gathering K))
      → LeavesReplay m l c (tracing k) opening state journal left
      → LeavesReplay m seen_links seen_clocks seen_recorders (opening_seen l c k opening) state journal
      (left_seen l c k left)
  see_replay opening state journal left h = record {
    machine = h.machine;
    sent = h.sent;
    sent_short = h.sent_short;
    ahead = record {
      written = h.ahead.written;
      waits = h.ahead.waits;
      whole = h.ahead.whole;
      gone = h.ahead.gone;
      silent = h.ahead.silent;
      sent = h.ahead.sent;
    };
    spent = h.spent;
    last = h.last;
  }

  abbrev see_leaves : (opening : Opening M L C (Gathering K)) (left : EndedStation M L C (Gathering K))
      → StationLeaves m l c (tracing k) opening left
      → StationLeaves m seen_links seen_clocks seen_recorders (opening_seen l c k opening) (left_seen l c k left)
  see_leaves opening left h = record {
    journal = h.journal;
    threads = h.threads;
    within = h.within;
    entries = h.entries;
    written = h.written;
    prefix = h.prefix;
    replay = λ state stood. see_replay opening state h.journal left (h.replay state stood);
    received = h.received;
    bound = h.bound;
    times = h.times;
    over = h.over;
    stuck = h.stuck;
    waiting = h.waiting;
    fault = h.fault;
    full = h.full;
  }

  abbrev see_bound : (node : Node M L C) (opened : Gathering K) (left : EndedStation M L C (Gathering K))
      → RunsBound m l c (tracing k) node opened left
      → RunsBound m seen_links seen_clocks seen_recorders (node_seen l c node) (sink_seen k opened)
      (left_seen l c k left)
  see_bound node opened left h = record {
    link = link_seen l h.link;
    bound = h.bound;
    same = record { sent = h.same.sent; received = h.same.received; waiting = h.same.waiting };
    later = h.later;
    leaves = see_leaves (opening_over h.link opened node) left h.leaves;
  }

  see_unbound : (node : Node M L C) (opened : Gathering K) (left : EndedStation M L C (Gathering K))
      → IsUnbound l node opened left
      → IsUnbound seen_links (node_seen l c node) (sink_seen k opened) (left_seen l c k left)
  see_unbound node opened left h = record {
    bound = h.bound;
    same = record { sent = h.same.sent; received = h.same.received; waiting = h.same.waiting };
    rose = h.rose;
    left_is = ap (left_seen l c k) h.left_is;
  }

  -- the run of a node, by what is seen
  pub see_runs : (node : Node M L C) (opened : Gathering K) (journal : List Entry) (left : EndedStation M L C (Gathering K))
      → RunsOver m l c (tracing k) node opened journal left
      → RunsOver m seen_links seen_clocks seen_recorders (node_seen l c node) (sink_seen k opened) journal
      (left_seen l c k left)
  see_runs node opened journal left (inl bound) = inl (see_bound node opened left bound.0, bound.1)
  see_runs node opened journal left (inr unbound) = inr (see_unbound node opened left unbound.0, unbound.1)
