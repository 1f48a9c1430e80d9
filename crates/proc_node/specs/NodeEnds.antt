-- How the run of a node of a job ends, and what is written.
-- Origin: this project's profile.
use Rattle.std.specs.Prelude.{◌≡◌, ◌≢◌, ◌⊎◌, ℕ, Bool, false, List, [], Option, Some, None}
use Rattle.base_io.specs.Buffered.{Gathering, Outbox, Gathers, GathersPrefix}
use Rattle.base_io.specs.declared.link.Link.{Ghosts as LinkGhosts}
use Rattle.node_endpoint.specs.EndpointState.{EndpointState, ForItsRecord}
use Rattle.base_turns.specs.declared.entry.Entry.{Entry}
use Rattle.base_text.specs.LineTexts.{spell}
use Rattle.text_trace.specs.TraceText.{head_text}
use Rattle.proc_runner.specs.declared.ends.StationEnd.{StationEnd}
use Rattle.proc_runner.specs.declared.ends.StationEnd.TheVariants as stations
use Rattle.proc_runner.specs.declared.ends.EndedStation.{EndedStation}
use Rattle.proc_station.specs.declared.node.Node.{Node}
use Rattle.proc_machine.specs.Kept.{MachineKept}
use Rattle.proc_machine.specs.NodeState.{NodeStands, opening_state}
use Rattle.proc_node.specs.Sieved.{IsFreshSieve}
use Rattle.proc_node.specs.Seen.{ClockSeen, DevicesSeen, LinkSeen}
use Rattle.proc_node.specs.NodeLeaves.{NodeLeaves, Post, has_noted, node_lines, node_open, record_after}
use Rattle.proc_node.specs.declared.calling.EndedJobNode.{EndedJobNode}
use Rattle.proc_node.specs.declared.sieved.Sieved.{Sieved}

-- ---- for a caller

-- the node took the turns of a journal, until this end of its station
pub record RunsTo (post : Post) (before after : DevicesSeen) (end : StationEnd) : Type 0 where
  pub left : EndedStation MachineKept LinkSeen ClockSeen Outbox
  pub journal : List Entry
  pub leaves : NodeLeaves post before after journal left
  pub end_is : left.end ≡ end

-- the bytes of the trace of a run, and those without its last line
abbrev pub text_of : {post : Post} {before after : DevicesSeen} {end : StationEnd} → RunsTo post before after end
    → List ℕ
text_of {post} run = spell (node_lines post run.journal)

abbrev pub open_of : {post : Post} {before after : DevicesSeen} {end : StationEnd} → RunsTo post before after end
    → List ℕ
open_of {post} run = spell (node_open post run.journal)

-- the first lines of the trace went in before the run
abbrev pub HasBegun : {post : Post} {before after : DevicesSeen} {end : StationEnd} → Outbox
    → RunsTo post before after end
    → Type 0
HasBegun {post} old run =
    Gathers old run.leaves.opened (head_text post.job.settings.version post.job.settings.job post.rank)

-- it ran until this end, its whole trace went in, and this node is left
pub record EndsAt (post : Post) (before after : DevicesSeen) (end : StationEnd) (old new : Outbox)
    (node : Option EndpointState) : Type 0 where
  pub run : RunsTo post before after end
  pub begun : HasBegun old run
  pub written : Gathers old new (text_of run)
  pub node_is : node ≡ Some run.left.machine.endpoint

-- so it ended, with all scripts over, and noted a violation or none
pub record EndsOver (post : Post) (before after : DevicesSeen) (violated : Bool) (old new : Outbox)
    (node : Option EndpointState) : Type 0 where
  pub ends : EndsAt post before after stations.Over old new node
  pub violated_is : has_noted (record_after post ends.run.journal) ≡ violated

-- memory ran out in its run, and its trace went in without the last line
pub record EndsOpen (post : Post) (before after : DevicesSeen) (old new : Outbox) : Type 0 where
  pub run : RunsTo post before after stations.NoMemory
  pub begun : HasBegun old run
  pub written : Gathers old new (open_of run)

-- nothing was done, for want of memory, and nothing went in
pub record EndsUnmade (before after : DevicesSeen) (old new : Outbox) : Type 0 where
  pub kept : after ≡ before
  pub written : Gathers old new []

-- memory ran out, in the run or before it
pub record EndsEarly (post : Post) (before after : DevicesSeen) (old new : Outbox) (node : Option EndpointState)
    : Type 0 where
  pub how : EndsOpen post before after old new ⊎ EndsUnmade before after old new
  pub no_node : node ≡ None

-- it ran until some end, and the sink failed at an entry or behind the last one: a prefix of its trace went in
pub record EndsCut (post : Post) (before after : DevicesSeen) (old new : Outbox) : Type 0 where
  pub end : StationEnd
  pub some_text : end ≢ stations.NoMemory
  pub run : RunsTo post before after end
  pub begun : HasBegun old run
  pub written : GathersPrefix old new (text_of run)

-- the sink failed within the first lines, and nothing was done
pub record EndsUnopened (post : Post) (before after : DevicesSeen) (old new : Outbox) : Type 0 where
  pub kept : after ≡ before
  pub written : GathersPrefix old new (spell (node_lines post []))

-- the sink failed, in the run or before it
pub record EndsUnwritten (post : Post) (before after : DevicesSeen) (old new : Outbox) (node : Option EndpointState)
    : Type 0 where
  pub how : EndsCut post before after old new ⊎ EndsUnopened post before after old new
  pub no_node : node ≡ None

-- how the turns of a node ended, whether it noted a violation, what went into its sink, and what is left of the node
abbrev pub EndsNode : Post → (before after : DevicesSeen) → (old new : Outbox) → StationEnd → (violated : Bool)
    → Option EndpointState → Type 0
EndsNode post before after old new stations.Over violated left = EndsOver post before after violated old new left
EndsNode post before after old new stations.Stuck violated left = EndsAt post before after stations.Stuck old new left
EndsNode post before after old new stations.LinkFault violated left =
    EndsAt post before after stations.LinkFault old new left
EndsNode post before after old new stations.JournalFull violated left =
    EndsAt post before after stations.JournalFull old new left
EndsNode post before after old new stations.NoMemory violated left = EndsEarly post before after old new left
EndsNode post before after old new stations.WriteFault violated left = EndsUnwritten post before after old new left

-- ---- the parts

-- the node that is given after this end
abbrev pub node_for : StationEnd → EndpointState → Option EndpointState
node_for stations.NoMemory endpoint = None
node_for stations.WriteFault endpoint = None
node_for _ endpoint = Some endpoint

-- so a node ended whose threads left this
pub record EndsSo {L C K : Type 0} (links : LinkGhosts L)
    (left : EndedStation MachineKept (Sieved L links) C (Gathering K)) (ended : EndedJobNode L C K) : Type 0 where
  pub violated_is : ForItsRecord left.machine.endpoint (λ node. ended.violated ≡ has_noted node)
  pub end_is : ended.end ≡ left.end
  pub node_is : ended.node ≡ node_for left.end left.machine.endpoint
  pub link : ended.link ≡ left.link.sieve.inner
  pub clock : ended.clock ≡ left.clock
  pub sink : ended.sink ≡ left.recorder

-- nothing was done, for want of memory
abbrev pub unmade : {L C K : Type 0} → L → C → Gathering K → EndedJobNode L C K
unmade link clock sink = record {
  end = stations.NoMemory;
  violated = false;
  node = None;
  link = link;
  clock = clock;
  sink = sink;
}

-- a node was made ready to run, over this link behind its job's sieve, to which nothing was handed yet: its machine
-- stands for the node before all turns
pub record IsReadyNode {L C : Type 0} (links : LinkGhosts L) (post : Post) (link : L) (clock : C)
    (node : Node MachineKept (Sieved L links) C) : Type 0 where
  pub opens : NodeStands node.machine (opening_state post.job post.rank)
  pub fresh : IsFreshSieve post.job.sieve link node.link.sieve node.link.first.value node.link.handed.datagrams
  pub node_is : node ≡ record {
    settings = post.job.settings;
    address = record { rank = post.rank; port = post.port };
    machine = node.machine;
    link = node.link;
    clock = clock;
    patience = post.job.patience;
  }
