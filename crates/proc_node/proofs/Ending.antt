-- How the run of a node of a job ended, from what its threads left.
use Rattle.std.proofs.Common.{◌≡◌, ◌≢◌, Bool, List, [], append-nil, drop, length, refl, sym, ap, subst, inl, inr, ◌∙◌}
use Rattle.std.proofs.Common.{Option, Some, None}
use Rattle.std.specs.Prelude.{option_map}
use lib.Seq.{drop_at}
use Rattle.base_io.specs.Sieve.{Sieving}
use Rattle.base_io.specs.Buffered.{Gathering, Outbox, Gathers, GathersPrefix}
use Rattle.base_io.specs.declared.link.Link.{Ghosts as LinkGhosts}
use Rattle.base_io.specs.declared.clock.Clock.{Ghosts as ClockGhosts}
use Rattle.base_io.specs.declared.sink.Sink.{Ghosts as SinkGhosts}
use Rattle.base_io.specs.declared.writing.Wrote.{Wrote}
use Rattle.base_io.specs.declared.writing.Wrote.TheVariants as wrote
use Rattle.base_io.proofs.Outboxes.{gathers_none}
use Rattle.node_endpoint.specs.EndpointState.{ForItsRecord}
use Rattle.base_turns.specs.declared.entry.Entry.{Entry}
use Rattle.proc_runner.specs.declared.ends.StationEnd.{StationEnd}
use Rattle.proc_runner.specs.declared.ends.StationEnd.TheVariants as stations
use Rattle.proc_runner.specs.declared.ends.EndedStation.{EndedStation}
use Rattle.proc_station.specs.declared.node.Node.{Node}
use Rattle.proc_station.specs.NodeRuns.{IsUnopened, RunsStation, RunsOpen, RunsOver, WritesAt, tracing, whole_text}
use Rattle.proc_station.specs.NodeRuns.{written_end}
use Rattle.proc_machine.specs.Kept.{MachineKept}
use Rattle.proc_machine.specs.NodeState.{NodeStands, opening_state}
use Rattle.base_text.specs.LineTexts.{spell}
use Rattle.text_trace.specs.TraceText.{head_text}
use Rattle.proc_node.specs.Seen.{ClockSeen, DevicesSeen, LinkSeen, clock_seen, devices_seen, link_seen, behind_sieve}
use Rattle.proc_node.specs.Seen.{seen_clocks, seen_links, seen_recorders}
use Rattle.proc_node.specs.Sieved.{Datagrams}
use Rattle.proc_node.specs.NodeLeaves.{NodeLeaves, Post, has_noted, node_at, node_lines, node_machines}
use Rattle.proc_node.specs.NodeLeaves.{record_after}
use Rattle.proc_node.specs.NodeEnds.{EndsAt, EndsNode, EndsSo, EndsUnwritten, IsReadyNode, node_for, unmade}
use Rattle.proc_node.specs.declared.calling.EndedJobNode.{EndedJobNode}
use Rattle.proc_node.specs.declared.sieved.Sieved.{Sieved}
use Rattle.proc_node.proofs.Behind.{is_behind, is_first, sieved_links, told_first}
use Rattle.proc_node.proofs.Seeing.{left_seen, node_seen, see_runs, sink_seen}
use Rattle.proc_node.proofs.Skipping.{runs_went, since, skip_runs}

-- of a run that ended so, whether it noted a violation
noted : (post : Post) (machine : MachineKept) (before : DevicesSeen) (opened : Outbox) (journal : List Entry)
    (left : EndedStation MachineKept LinkSeen ClockSeen Outbox) (violated : Bool)
    → NodeStands machine (opening_state post.job post.rank)
    → RunsOver node_machines seen_links seen_clocks seen_recorders (node_at post machine before) opened journal left
    → left.end ≡ stations.Over → ForItsRecord left.machine.endpoint (λ node. violated ≡ has_noted node)
    → has_noted (record_after post journal) ≡ violated
noted post machine before opened journal left violated opens (inl bound) over h =
    let leaves = bound.0.leaves in
    subst (λ (turns : List Entry). has_noted (record_after post turns) ≡ violated) bound.1
    (sym (h (record_after post leaves.journal)
    (leaves.replay (opening_state post.job post.rank) opens).machine.node))
noted post machine before opened journal left violated opens (inr unbound) over h =
    let fault : left.end ≡ stations.LinkFault =
    ap (λ (e : EndedStation MachineKept LinkSeen ClockSeen Outbox). e.end) unbound.0.left_is in
    absurd (cc)

module _ (post : Post) (before after : DevicesSeen) (journal : List Entry)
    (left : EndedStation MachineKept LinkSeen ClockSeen Outbox) (old new : Outbox) (violated : Bool)
    (h : NodeLeaves post before after journal left)
    (begun : Gathers old h.opened (head_text post.job.settings.version post.job.settings.job post.rank))
    (said : ForItsRecord left.machine.endpoint (λ node. violated ≡ has_noted node)) where
  abbrev ends_at : (end : StationEnd) → left.end ≡ end → Gathers old new (spell (node_lines post journal))
      → EndsAt post before after end old new (Some left.machine.endpoint)
  ends_at end is went = record {
    run = record { left = left; journal = journal; leaves = h; end_is = is };
    begun = begun;
    written = went;
    node_is = refl;
  }

  unwritten : (end : StationEnd) → left.end ≡ end → end ≢ stations.NoMemory
      → GathersPrefix old new (spell (node_lines post journal)) → EndsUnwritten post before after old new None
  unwritten end is some went = record {
    how = inl
        (record {
          end = end;
          some_text = some;
          run = record { left = left; journal = journal; leaves = h; end_is = is };
          begun = begun;
          written = went;
        });
    no_node = refl;
  }

  -- how it ended
  ends_by : (end : StationEnd) (written : Wrote) → left.end ≡ end → WritesAt post.job.settings post.rank journal old new end written
      → EndsNode post before after old new (written_end end written) violated
      (node_for (written_end end written) left.machine.endpoint)
  ends_by stations.NoMemory written is went = record {
    how = inl
        (record {
          run = record { left = left; journal = journal; leaves = h; end_is = is };
          begun = begun;
          written = went;
        });
    no_node = refl;
  }
  ends_by stations.WriteFault written is went = unwritten stations.WriteFault is (λ e. absurd (cc e)) went
  ends_by stations.Over wrote.Fault is went = unwritten stations.Over is (λ e. absurd (cc e)) went
  ends_by stations.Stuck wrote.Fault is went = unwritten stations.Stuck is (λ e. absurd (cc e)) went
  ends_by stations.LinkFault wrote.Fault is went = unwritten stations.LinkFault is (λ e. absurd (cc e)) went
  ends_by stations.JournalFull wrote.Fault is went = unwritten stations.JournalFull is (λ e. absurd (cc e)) went
  ends_by stations.Over wrote.Done is went = record {
    ends = ends_at stations.Over is went;
    violated_is = noted post h.machine before h.opened journal left violated h.opens h.runs is said;
  }
  ends_by stations.Stuck wrote.Done is went = ends_at stations.Stuck is went
  ends_by stations.LinkFault wrote.Done is went = ends_at stations.LinkFault is went
  ends_by stations.JournalFull wrote.Done is went = ends_at stations.JournalFull is went

module _ {L C K : Type 0} (l : LinkGhosts L) (c : ClockGhosts C) (k : SinkGhosts K) (post : Post) (link : L)
    (clock : C) (sink : Gathering K) where
  -- the sieves of such links, and what is seen of them since the run began
  abbrev behind : LinkGhosts (Sieved L l)
  behind = sieved_links l

  abbrev seen_of : Node MachineKept (Sieved L l) C → LinkGhosts (Sieved L l)
  seen_of node = since (told_first l node.link) behind

  -- what is seen of the node before it runs
  same_node : (node : Node MachineKept (Sieved L l) C) → IsReadyNode l post link clock node
      → node_seen (seen_of node) c node ≡ node_at post node.machine (devices_seen l c link clock)
  same_node node ready =
      let told = told_first l node.link in
      let some : Option Datagrams → LinkSeen = λ sent. record (link_seen l node.link.sieve.inner) { sent = sent } in
      let none : option_map (drop (length told)) (behind.sent node.link) ≡ Some [] =
      ap (option_map (drop (length told))) (is_first l node.link ready.fresh.handed_is)
      ∙ ap (λ list. Some (drop (length told) list)) (sym (append-nil told))
      ∙ ap Some (drop_at told [] (length told) refl) in
      let inner : L → LinkSeen = λ i. record (link_seen l i) { sent = Some [] } in
      let link_is : link_seen (seen_of node) node.link ≡ behind_sieve (link_seen l link) =
      ap some none ∙ ap inner (ap (λ (s : Sieving L). s.inner) ready.fresh.sieve_is) in
      let seen : Node MachineKept (Sieved L l) C → Node MachineKept LinkSeen ClockSeen = λ n. record {
        settings = n.settings;
        address = n.address;
        machine = node.machine;
        link = link_seen (seen_of node) node.link;
        clock = clock_seen c n.clock;
        patience = n.patience;
      } in
      let over : LinkSeen → Node MachineKept LinkSeen ClockSeen = λ s. record {
        settings = post.job.settings;
        address = record { rank = post.rank; port = post.port };
        machine = node.machine;
        link = s;
        clock = clock_seen c clock;
        patience = post.job.patience;
      } in
      ap seen ready.node_is ∙ ap over link_is

  -- what is left, by what is seen of the devices
  abbrev node_leaves : (node : Node MachineKept (Sieved L l) C) (opened : Gathering K) (journal : List Entry)
      (left : EndedStation MachineKept (Sieved L l) C (Gathering K))
      → IsReadyNode l post link clock node
      → RunsOver node_machines behind c (tracing k) node opened journal left
      → NodeLeaves post (devices_seen l c link clock) (devices_seen l c left.link.sieve.inner left.clock) journal
      (left_seen (seen_of node) c k left)
  node_leaves node opened journal left ready runs =
      let told = told_first l node.link in
      let first : behind.sent node.link ≡ Some told = is_first l node.link ready.fresh.handed_is in
      let some = runs_went node_machines behind c (tracing k) told node opened journal left
      (opening_state post.job post.rank) ready.opens runs in
      let same : node_seen (seen_of node) c node ≡ node_at post node.machine (devices_seen l c link clock) =
      same_node node ready in
      record {
        machine = node.machine;
        opens = ready.opens;
        opened = sink_seen k opened;
        runs = subst (λ (n : Node MachineKept LinkSeen ClockSeen).
            RunsOver node_machines seen_links seen_clocks seen_recorders n (sink_seen k opened) journal
            (left_seen (seen_of node) c k left)) same
            (see_runs node_machines (seen_of node) c k node opened journal left
            (skip_runs node_machines behind c (tracing k) told node opened journal left first runs));
        link = is_behind l post.job.sieve link node.link left.link ready.fresh some.0 some.1;
        clock = refl;
      }

  -- how a node ended into whose sink the first lines of its trace went
  ends_open : (node : Node MachineKept (Sieved L l) C) (after : EndedStation MachineKept (Sieved L l) C (Gathering K))
      (ended : EndedJobNode L C K)
      → IsReadyNode l post link clock node → RunsOpen node_machines behind c k node sink after
      → EndsSo l after ended
      → EndsNode post (devices_seen l c link clock) (devices_seen l c ended.link ended.clock) (sink_seen k sink)
      (sink_seen k ended.sink) ended.end ended.violated ended.node
  ends_open node after ended ready opens ends =
      let left = opens.left in
      let so : EndsSo l (record left { recorder = after.recorder; end = written_end left.end opens.wrote }) ended =
      subst (λ (w : EndedStation MachineKept (Sieved L l) C (Gathering K)). EndsSo l w ended) opens.after_is ends in
      let begun = subst (λ (n : Node MachineKept (Sieved L l) C).
      Gathers (sink_seen k sink) (sink_seen k opens.opened)
      (head_text n.settings.version n.settings.job n.address.rank))
      ready.node_is opens.head in
      let went = subst (λ (n : Node MachineKept (Sieved L l) C).
      WritesAt n.settings n.address.rank opens.journal (sink_seen k sink) (sink_seen k after.recorder) left.end opens.wrote)
      ready.node_is opens.written in
      let by = ends_by post (devices_seen l c link clock) (devices_seen l c left.link.sieve.inner left.clock) opens.journal
      (left_seen (seen_of node) c k left) (sink_seen k sink) (sink_seen k after.recorder) ended.violated
      (node_leaves node opens.opened opens.journal left ready opens.ran) begun so.violated_is left.end opens.wrote refl
      went in
      rw (so.node_is, so.end_is, so.link, so.clock, so.sink) by

  -- the sink failed before
  ends_unopened : (node : Node MachineKept (Sieved L l) C)
      (after : EndedStation MachineKept (Sieved L l) C (Gathering K)) (ended : EndedJobNode L C K)
      → IsReadyNode l post link clock node → IsUnopened k node sink after → EndsSo l after ended
      → EndsNode post (devices_seen l c link clock) (devices_seen l c ended.link ended.clock) (sink_seen k sink)
      (sink_seen k ended.sink) ended.end ended.violated ended.node
  ends_unopened node after ended ready un ends =
      let so : EndsSo l (record {
        machine = node.machine;
        link = node.link;
        clock = node.clock;
        recorder = after.recorder;
        end = stations.WriteFault;
      }) ended =
      subst (λ (w : EndedStation MachineKept (Sieved L l) C (Gathering K)). EndsSo l w ended) un.after_is ends in
      let link_is : ended.link ≡ link =
      so.link ∙ ap (λ (s : Sieving L). s.inner) ready.fresh.sieve_is in
      let clock_is : ended.clock ≡ clock =
      so.clock ∙ ap (λ (n : Node MachineKept (Sieved L l) C). n.clock) ready.node_is in
      let went = subst (λ (n : Node MachineKept (Sieved L l) C).
      GathersPrefix (sink_seen k sink) (sink_seen k after.recorder) (whole_text n.settings n.address.rank []))
      ready.node_is un.written in
      rw (so.node_is, so.end_is, link_is, clock_is, so.sink)
      (record { how = inr (record { kept = refl; written = went }); no_node = refl })

  -- how a node ended that was ready
  pub ends_node : (node : Node MachineKept (Sieved L l) C)
      (after : EndedStation MachineKept (Sieved L l) C (Gathering K)) (ended : EndedJobNode L C K)
      → IsReadyNode l post link clock node → RunsStation node_machines behind c k node sink after
      → EndsSo l after ended
      → EndsNode post (devices_seen l c link clock) (devices_seen l c ended.link ended.clock) (sink_seen k sink)
      (sink_seen k ended.sink) ended.end ended.violated ended.node
  ends_node node after ended ready (inl opens) so = ends_open node after ended ready opens so
  ends_node node after ended ready (inr un) so = ends_unopened node after ended ready un so

  -- nothing was done
  pub ends_unmade : (ended : EndedJobNode L C K) → ended ≡ unmade link clock sink
      → EndsNode post (devices_seen l c link clock) (devices_seen l c ended.link ended.clock) (sink_seen k sink)
      (sink_seen k ended.sink) ended.end ended.violated ended.node
  ends_unmade ended is =
      rw is (record { how = inr (record { kept = refl; written = gathers_none (sink_seen k sink) }); no_node = refl })
