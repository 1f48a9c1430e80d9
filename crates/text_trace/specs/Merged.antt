-- What a merge answers.
use Rattle.std.specs.Prelude.{◌≡◌, ℕ, ◌+◌, ◌<◌, List, [], ◌∷◌, All, slice_get, slice_index, IsSomeAnd}
use Rattle.std.specs.Prelude.{Result, Ok, Err, Vec}
use Rattle.std.specs.Option.{ForSome}
use Rattle.std.specs.Global.{Global}
use Rattle.base_turns.specs.declared.turns.Machine.{Ghosts}
use Rattle.base_turns.specs.Replay.{Steps, steps_of}
use Rattle.base_turns.specs.Prefixes.{Node, replay, start, full, advance, Reaches, HasLeft, IsStuck}
use Rattle.text_trace.specs.declared.trace.Trace.{Trace}
use Rattle.text_trace.specs.declared.trace.Placed.{Placed}
use Rattle.text_trace.specs.declared.merging.MergeFault.{MergeFault}
use Rattle.text_trace.specs.declared.merging.MergeFault.TheVariants.{NotARun, NoMemory}

-- each machine stands for the state at its place
abbrev pub StandFor : {M : Type 0} → (ghosts : Ghosts M) → List M → List ghosts.State → Type 0
StandFor ghosts [] [] = Unit {0}
StandFor ghosts (machine ∷ machines) (state ∷ states) = ghosts.stands machine state × StandFor ghosts machines states
StandFor ghosts machines states = ⊥

-- the states of nodes with the entries of their traces
abbrev pub nodes_of : {State : Type 0} → List State → List Trace → List (Node State)
nodes_of [] traces = []
nodes_of (state ∷ states) [] = []
nodes_of (state ∷ states) (trace ∷ traces) = record { state = state; entries = trace.entries } ∷ nodes_of states traces

-- each entry's thread is one of its machine's
abbrev pub HaveThreads : {M : Type 0} → Ghosts M → List M → List Trace → Type 0
HaveThreads ghosts machines traces =
    (n : ℕ) → ForSome (slice_get machines n) (λ machine. ForSome (slice_get traces n)
    (λ trace. All (λ entry. entry.thread < ghosts.thread_count machine)
    trace.entries))

-- the next entries of these nodes, one after another, each counted from 1
abbrev pub placed_by : List ℕ → List ℕ → List Placed
placed_by prefix [] = []
placed_by prefix (n ∷ nodes) =
    record { node = n; entry = slice_index prefix n + 1 } ∷ placed_by (advance prefix n) nodes

-- each machine stands for the replay of those of its node's entries that have gone
abbrev pub AreReplays : {M : Type 0} → (ghosts : Ghosts M) → List (Node ghosts.State) → List ℕ → List M → Type 0
AreReplays ghosts given prefix machines =
    (n : ℕ) → ForSome (slice_get machines n) (λ machine. IsSomeAnd (slice_get given n)
    (λ one. ghosts.stands machine (replay (steps_of ghosts) one
    (slice_index prefix n))))

-- the node is the smallest with an entry left at the prefix
pub record IsFirstLeft {State : Type 0} (given : List (Node State)) (prefix : List ℕ) (node : ℕ) : Type 0 where
  pub left : HasLeft given prefix node
  pub first : (other : ℕ) → other < node → HasLeft given prefix other → ⊥

-- an order of all entries: a list of nodes that reaches the prefix that has all, and the number of each one's next
-- entry
pub record IsOrder
    {State : Type 0}
    (steps : Steps State)
    (given : List (Node State))
    (prefix : List ℕ)
    (placed : List Placed) : Type 0
  where
    pub nodes : List ℕ
    pub reached : Reaches steps given nodes prefix
    pub all : prefix ≡ full given
    pub numbers : placed ≡ placed_by (start given) nodes

-- what a merge that came to a prefix answers
abbrev pub Answers : {State : Type 0} → Steps State → List (Node State) → List ℕ → Result (Vec Placed Global) MergeFault
    → Type 0
Answers steps given prefix (Ok placed) = IsOrder steps given prefix placed.items
Answers steps given prefix (Err (NotARun node entry)) =
    IsStuck steps given prefix × IsFirstLeft given prefix node × (entry ≡ slice_index prefix node + 1)
Answers steps given prefix (Err NoMemory) = (order : List ℕ) × Reaches steps given order prefix

-- a merge of these nodes came to a prefix: its answer, and what the machines stand for then
pub record Merges
    {M : Type 0}
    (ghosts : Ghosts M)
    (given : List (Node ghosts.State))
    (prefix : List ℕ)
    (answer : Result (Vec Placed Global) MergeFault)
    (machines : List M) : Type 0
  where
    pub answers : Answers (steps_of ghosts) given prefix answer
    pub replays : AreReplays ghosts given prefix machines
