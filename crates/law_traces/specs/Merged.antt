-- The nodes of a job with their traces, and the order of entries that a list of nodes gives.
-- Origin: this project's profile.
use Rattle.std.specs.Prelude.{ℕ, ◌≡◌, ◌+◌, List, [], ◌∷◌, ◌++◌, Option, None, Some, slice_get}
use Rattle.std.specs.Prelude.{slice_index}
use Rattle.std.specs.Option.{option_map, option_to_list}
use Rattle.base_turns.specs.declared.entry.Entry.{Entry}
use Rattle.base_turns.specs.Replay.{Steps}
use Rattle.base_turns.specs.Prefixes.{Node, advance}
use Rattle.law_traces.specs.Order.{NodeEntry, Machines, RankedMachine}

-- the nodes from this number on, with these machines at the opening and these traces
abbrev pub nodes_from : {Kept Own : Type 0}
    → Machines Kept Own → (first : ℕ) → (traces : List (List Entry)) → List (Node (RankedMachine Kept Own))
nodes_from machines first [] = []
nodes_from machines first (trace ∷ traces) =
    record { state = record { me = first; state = machines first }; entries = trace }
    ∷ nodes_from machines (first + 1) traces

-- the next entry of a node of which so many have gone
abbrev pub next_entry_of : {State : Type 0} → (count : ℕ) → Option (Node State) → Option Entry
next_entry_of count None = None
next_entry_of count (Some node) = slice_get node.entries count

-- the next entry of the node at the prefix, with its node
abbrev pub next_at : {State : Type 0} → List (Node State) → (prefix : List ℕ) → (node : ℕ) → List NodeEntry
next_at nodes prefix node =
    option_to_list (option_map (λ (entry : Entry). record { node = node; entry = entry })
    (next_entry_of (slice_index prefix node) (slice_get nodes node)))

-- the entries that go where the next entries of these nodes go one after another
abbrev pub order_of : {State : Type 0}
    → List (Node State) → (prefix : List ℕ) → (list : List ℕ) → List NodeEntry
order_of nodes prefix [] = []
order_of nodes prefix (node ∷ list) = next_at nodes prefix node ++ order_of nodes (advance prefix node) list

-- ---- machines that are others, with more in them

-- what is known of a machine is what is known of the machine that it becomes
pub record Carries {First Second : Type 0} (become : First → Second) (first : Steps First) (second : Steps Second)
    : Type 0 where
  pub polls : (state : First) (thread : ℕ) → second.polls (become state) thread ≡ first.polls state thread
  pub after : (state : First) (thread now : ℕ) (got : Option (List ℕ))
      → second.after (become state) thread now got ≡ become (first.after state thread now got)
  pub turned : (state : First) (thread now : ℕ) (got : Option (List ℕ))
      → second.turned (become state) thread now got ≡ first.turned state thread now got
  pub sent : (state : First) → second.sent (become state) ≡ first.sent state

-- the node with that machine
abbrev pub with_machine_of : {First Second : Type 0} → (First → Second) → Node First → Node Second
with_machine_of become node = record { state = become node.state; entries = node.entries }
