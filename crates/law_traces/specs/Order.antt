-- The entries of the traces of several nodes, in an order in which each can go.
-- Origin: this project's profile.
use Rattle.std.specs.Prelude.{ℕ, ◌≡◌, ◌<◌, ◌==◌, if◌then◌else◌, true, List, [], ◌∷◌, ◌++◌, map, length, Option, None}
use Rattle.std.specs.Prelude.{Some}
use Rattle.std.specs.List.{Contains}
use Rattle.base_lists.specs.Put.{put}
use Rattle.spec_node.specs.NodeStep.{NodeAnswer}
use Rattle.spec_network.specs.World.{World}
use Rattle.base_turns.specs.declared.entry.Entry.{Entry}
use Rattle.base_turns.specs.declared.turns.Turned.{Turned}
use Rattle.base_turns.specs.Replay.{Steps, replay_state}
use Rattle.node_rules.specs.declared.answer.Answer.{Answer}
use Rattle.law_traces.specs.Scripts.{NodeJob}
use Rattle.law_traces.specs.Turn.{MachineState, Turn, turn, datagram}

-- ---- the machine of one node

-- a machine with its node's number
pub record RankedMachine (Kept Own : Type 0) : Type 0 where
  pub me : ℕ
  pub state : MachineState Kept Own

-- what a turn of it tells
abbrev pub told_by : {Kept Own : Type 0}
    → NodeJob Kept Own → RankedMachine Kept Own → (thread now : ℕ) → (got : Option (List ℕ)) → Turned
told_by job ranked thread now got =
    let it = turn job ranked.me ranked.state thread now got in
    record { changed = it.changed; stepped = it.stepped; sends = if it.changed then length it.packets else 0 }

-- what is known of the machines of a job
abbrev pub job_steps : {Kept Own : Type 0} → NodeJob Kept Own → Steps (RankedMachine Kept Own)
job_steps job = record {
  polls = λ ranked thread. job.polls thread ranked.state.node.local;
  after = λ ranked thread now got. record ranked { state = (turn job ranked.me ranked.state thread now got).after };
  turned = told_by job;
  sent = λ ranked. ranked.state.outgoing;
}

-- the machine of the node `me` after the entries of its trace
abbrev pub replay : {Kept Own : Type 0}
    → NodeJob Kept Own → (me : ℕ) → MachineState Kept Own → List Entry → MachineState Kept Own
replay job me state entries = (replay_state (job_steps job) (record { me = me; state = state }) entries).state

-- ---- the machines of all nodes

-- an entry of that node's trace
pub record NodeEntry : Type 0 where
  pub node : ℕ
  pub entry : Entry

-- the entries of the node, in their order
abbrev pub own_entries : (node : ℕ) → List NodeEntry → List Entry
own_entries node [] = []
own_entries node (item ∷ items) =
    if item.node == node then item.entry ∷ own_entries node items else own_entries node items

-- the machine of each node
abbrev pub Machines : Type 0 → Type 0 → Type 0
Machines Kept Own = (node : ℕ) → MachineState Kept Own

-- before all entries
abbrev pub at_first : {Kept Own : Type 0} → World Kept → (ℕ → Own) → Machines Kept Own
at_first world own node = record { node = world node; own = own node; outgoing = []; answer = None }

-- the turn of this entry
abbrev pub turn_of : {Kept Own : Type 0} → NodeJob Kept Own → Machines Kept Own → NodeEntry → Turn Kept Own
turn_of job machines item =
    turn job item.node (machines item.node) item.entry.thread item.entry.now item.entry.got

-- the machines after it
abbrev pub after_entry : {Kept Own : Type 0}
    → NodeJob Kept Own → Machines Kept Own → NodeEntry → Machines Kept Own
after_entry job machines item = put machines item.node (turn_of job machines item).after

-- the datagrams that it sent, each with the node that it is for
abbrev pub given_by : {Kept Own : Type 0}
    → NodeJob Kept Own → Machines Kept Own → NodeEntry → List (ℕ × List ℕ)
given_by job machines item = map (datagram job.job.settings) (turn_of job machines item).packets

-- the machines after these entries
abbrev pub after_all : {Kept Own : Type 0}
    → NodeJob Kept Own → Machines Kept Own → List NodeEntry → Machines Kept Own
after_all job machines [] = machines
after_all job machines (item ∷ items) = after_all job (after_entry job machines item) items

-- the datagrams that they sent
abbrev pub given_by_all : {Kept Own : Type 0}
    → NodeJob Kept Own → Machines Kept Own → List NodeEntry → List (ℕ × List ℕ)
given_by_all job machines [] = []
given_by_all job machines (item ∷ items) =
    given_by job machines item ++ given_by_all job (after_entry job machines item) items

-- the answers of their events
abbrev pub answers_by_all : {Kept Own : Type 0}
    → NodeJob Kept Own → Machines Kept Own → List NodeEntry → List (NodeAnswer Answer)
answers_by_all job machines [] = []
answers_by_all job machines (item ∷ items) =
    (turn_of job machines item).answers ++ answers_by_all job (after_entry job machines item) items

-- what the node's turn may get: nothing; or, where its thread polls, what was sent to the node
abbrev pub MayGet : {Kept Own : Type 0}
    → NodeJob Kept Own → (node : ℕ) → MachineState Kept Own → (given : List (ℕ × List ℕ)) → (thread : ℕ)
    → (got : Option (List ℕ)) → Type 0
MayGet job node state given thread None = Unit {0}
MayGet job node state given thread (Some bytes) =
    (job.polls thread state.node.local ≡ true) × Contains given (node, bytes)

-- each entry can go in its turn, where these datagrams were given before
abbrev pub GoInOrder : {Kept Own : Type 0}
    → NodeJob Kept Own → Machines Kept Own → (given : List (ℕ × List ℕ)) → List NodeEntry → Type 0
GoInOrder job machines given [] = Unit {0}
GoInOrder job machines given (item ∷ items) =
    (item.node < job.job.settings.nodes)
    × MayGet job item.node (machines item.node) given item.entry.thread item.entry.got
    × GoInOrder job (after_entry job machines item) (given ++ given_by job machines item) items
