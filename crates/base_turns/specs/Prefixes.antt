-- Which orders of the entries of several traces can go: prefixes.
use Rattle.std.specs.Prelude.{◌≡◌, ℕ, ◌+◌, ◌<◌, true, List, [], ◌∷◌, length, map, take, Option, Some, None}
use Rattle.std.specs.Prelude.{slice_get, slice_set, slice_index, Contains, IsSomeAnd}
use Rattle.base_turns.specs.declared.entry.Entry.{Entry}
use Rattle.base_turns.specs.Replay.{Steps, replay_state, sent_in}

-- a node: the state for which its machine stood at the opening, and the entries of its trace
pub record Node (State : Type 0) : Type 0 where
  pub state : State
  pub entries : List Entry

-- the state of a node after its first entries
abbrev pub replay : {State : Type 0} → Steps State → Node State → (count : ℕ) → State
replay s node count = replay_state s node.state (take count node.entries)

-- the datagrams that its first entries sent, each with the node that it is for
abbrev pub sent_of : {State : Type 0} → Steps State → Node State → (count : ℕ) → List (ℕ × List ℕ)
sent_of s node count = sent_in s node.state (take count node.entries)

-- A prefix has one number per node: how many of its first entries have gone.
-- No entry has gone.
abbrev pub start : {State : Type 0} → List (Node State) → List ℕ
start nodes = map (λ _. 0) nodes

-- All entries have gone.
abbrev pub full : {State : Type 0} → List (Node State) → List ℕ
full nodes = map (λ node. length node.entries) nodes

-- The next entry of a node has gone too.
abbrev pub advance : List ℕ → (rank : ℕ) → List ℕ
advance prefix rank = slice_set prefix rank (slice_index prefix rank + 1)

-- An entry that has gone sent these bytes to the node of this rank.
abbrev pub WasSent : {State : Type 0} → Steps State → List (Node State) → List ℕ → (rank : ℕ) → List ℕ → Type 0
WasSent s nodes prefix rank bytes =
    (from : ℕ) × IsSomeAnd (slice_get nodes from) (λ node.
    Contains (sent_of s node (slice_index prefix from)) (rank, bytes))

-- What a thread of the node may get in this state: nothing; or, where it polls, what was sent to the node.
abbrev pub CanGet : {State : Type 0} → Steps State → List (Node State) → List ℕ → (rank : ℕ) → State
    → (thread : ℕ) → Option (List ℕ) → Type 0
CanGet s nodes prefix rank state thread None = Unit {0}
CanGet s nodes prefix rank state thread (Some bytes) = (s.polls state thread ≡ true) × WasSent s nodes prefix rank bytes

-- The next entry of the node can go at the prefix.
abbrev pub CanGo : {State : Type 0} → Steps State → List (Node State) → List ℕ → (rank : ℕ) → Type 0
CanGo s nodes prefix rank = IsSomeAnd (slice_get nodes rank) (λ node.
    IsSomeAnd (slice_get node.entries (slice_index prefix rank)) (λ e.
    CanGet s nodes prefix rank (replay s node (slice_index prefix rank)) e.thread e.got))

-- The next entries of the nodes of these ranks can go one after another, from the one prefix to the other.
abbrev pub GoesOn : {State : Type 0} → Steps State → List (Node State) → List ℕ → (ranks : List ℕ) → List ℕ → Type 0
GoesOn s nodes prefix [] to = prefix ≡ to
GoesOn s nodes prefix (rank ∷ ranks) to = CanGo s nodes prefix rank × GoesOn s nodes (advance prefix rank) ranks to

-- The list of ranks reaches the prefix.
abbrev pub Reaches : {State : Type 0} → Steps State → List (Node State) → (ranks : List ℕ) → List ℕ → Type 0
Reaches s nodes ranks prefix = GoesOn s nodes (start nodes) ranks prefix

-- Some list of ranks reaches the prefix that has all entries.
abbrev pub IsRun : {State : Type 0} → Steps State → List (Node State) → Type 0
IsRun s nodes = (ranks : List ℕ) × Reaches s nodes ranks (full nodes)

-- The node has an entry that hasn't gone.
abbrev pub HasLeft : {State : Type 0} → List (Node State) → List ℕ → (rank : ℕ) → Type 0
HasLeft nodes prefix rank = IsSomeAnd (slice_get nodes rank) (λ node. slice_index prefix rank < length node.entries)

-- A prefix that is reached, at which entries are left and none can go.
pub record IsStuck {State : Type 0} (s : Steps State) (nodes : List (Node State)) (prefix : List ℕ) : Type 0 where
  pub reached : (ranks : List ℕ) × Reaches s nodes ranks prefix
  pub left : (rank : ℕ) × HasLeft nodes prefix rank
  pub none : (rank : ℕ) → CanGo s nodes prefix rank → ⊥
