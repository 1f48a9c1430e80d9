-- Nodes that run collectives, by themselves: phases, messages and parts, without bytes.
-- Origin: this project's profile.
use Rattle.std.specs.Prelude.{ℕ, ◌≡◌, ◌≢◌, ◌⊎◌, ◌+◌, ◌<◌, ◌≤◌, ◌%◌, Bool, true, false, List, [], ◌∷◌}

-- of each node, how many phases it has started and ended; of each two, how many phases' messages the one has sent to
-- the other, and whether that of a phase has run; and what stands in the part that a node has for another one, of the
-- phases with this remainder by 2: 1 more than the phase, or 0. The message of a node to itself is that of its start
pub record Phases : Type 0 where
  pub started : ℕ → ℕ
  pub ended : ℕ → ℕ
  pub sent : (from to : ℕ) → ℕ
  pub ran : (from to phase : ℕ) → Bool
  pub stands : (node parity from : ℕ) → ℕ

-- before all events
pub record IsNothing (now : Phases) : Type 0 where
  pub started : (node : ℕ) → now.started node ≡ 0
  pub ended : (node : ℕ) → now.ended node ≡ 0
  pub sent : (from to : ℕ) → now.sent from to ≡ 0
  pub ran : (from to phase : ℕ) → now.ran from to phase ≡ false
  pub stands : (node parity from : ℕ) → now.stands node parity from ≡ 0

-- ---- events

pub data PhaseEvent : Type 0 where
  Nothing : PhaseEvent  -- an event of something else
  Starts : (node : ℕ) → PhaseEvent  -- the next phase; its message to itself runs at once
  Sends : (from to : ℕ) → PhaseEvent  -- the message of the phase that is started
  Runs : (from to phase : ℕ) → PhaseEvent  -- it runs at the other node
  Ends : (node : ℕ) → PhaseEvent

-- a node is ready to end its phase: it has sent to all, and all parts of the phase have its stamp
pub record IsReady (nodes : ℕ) (now : Phases) (node : ℕ) : Type 0 where
  pub started : now.started node ≡ now.ended node + 1
  pub sent : (to : ℕ) → to < nodes → now.sent node to ≡ now.started node
  pub all : (from : ℕ) → from < nodes → now.stands node (now.ended node % 2) from ≡ now.started node

-- where each of these may happen
abbrev pub MayHappen : (nodes : ℕ) → Phases → PhaseEvent → Type 0
MayHappen nodes now Nothing = Unit {0}
MayHappen nodes now (Starts node) = (node < nodes) × (now.started node ≡ now.ended node)
MayHappen nodes now (Sends from to) =
    (from < nodes) × (to < nodes) × (from ≢ to) × (now.started from ≡ now.ended from + 1)
    × (now.sent from to ≡ now.ended from)
MayHappen nodes now (Runs from to phase) =
    (from < nodes) × (to < nodes) × (from ≢ to) × (phase < now.sent from to) × (now.ran from to phase ≡ false)
MayHappen nodes now (Ends node) = (node < nodes) × IsReady nodes now node

-- ---- what they leave

abbrev pub SameStarted : Phases → Phases → Type 0
SameStarted now next = (node : ℕ) → next.started node ≡ now.started node

abbrev pub SameEnded : Phases → Phases → Type 0
SameEnded now next = (node : ℕ) → next.ended node ≡ now.ended node

-- of nodes of the job: a node that ends a phase has sent it to these alone
abbrev pub SameSent : (nodes : ℕ) → Phases → Phases → Type 0
SameSent nodes now next = (from to : ℕ) → from < nodes → to < nodes → next.sent from to ≡ now.sent from to

-- no message ran
pub record SameRan (nodes : ℕ) (now next : Phases) : Type 0 where
  pub ran : (from to phase : ℕ) → next.ran from to phase ≡ now.ran from to phase
  pub stands : (node parity from : ℕ) → node < nodes → parity < 2 → from < nodes
      → next.stands node parity from ≡ now.stands node parity from

-- one message was sent
pub record SendsOne (now next : Phases) (from to count : ℕ) : Type 0 where
  pub here : next.sent from to ≡ count
  pub others : (one other : ℕ) → (one ≢ from) ⊎ (other ≢ to) → next.sent one other ≡ now.sent one other

-- one message ran, and stands in its part
pub record RunsOne (nodes : ℕ) (now next : Phases) (from to phase : ℕ) : Type 0 where
  pub ran : next.ran from to phase ≡ true
  pub ran_others : (one other of : ℕ) → (one ≢ from) ⊎ ((other ≢ to) ⊎ (of ≢ phase))
      → next.ran one other of ≡ now.ran one other of
  pub stands : next.stands to (phase % 2) from ≡ phase + 1
  pub stands_others : (node parity one : ℕ) → node < nodes → parity < 2 → one < nodes
      → (node ≢ to) ⊎ ((parity ≢ phase % 2) ⊎ (one ≢ from))
      → next.stands node parity one ≡ now.stands node parity one

-- one number rose by 1
pub record RisesOne (now next : ℕ → ℕ) (node : ℕ) : Type 0 where
  pub here : next node ≡ now node + 1
  pub others : (other : ℕ) → other ≢ node → next other ≡ now other

abbrev pub Leaves : (nodes : ℕ) → Phases → PhaseEvent → Phases → Type 0
Leaves nodes now Nothing next =
    SameStarted now next × SameEnded now next × SameSent nodes now next × SameRan nodes now next
Leaves nodes now (Starts node) next =
    RisesOne now.started next.started node × SameEnded now next
    × SendsOne now next node node (now.started node + 1) × RunsOne nodes now next node node (now.started node)
Leaves nodes now (Sends from to) next =
    SameStarted now next × SameEnded now next × SendsOne now next from to (now.started from)
    × SameRan nodes now next
Leaves nodes now (Runs from to phase) next =
    SameStarted now next × SameEnded now next × SameSent nodes now next × RunsOne nodes now next from to phase
Leaves nodes now (Ends node) next =
    SameStarted now next × RisesOne now.ended next.ended node × SameSent nodes now next × SameRan nodes now next

-- an event, and the state after it
pub record EventAndNext : Type 0 where
  pub event : PhaseEvent
  pub next : Phases

-- each of these events may happen where it comes, and leaves the state behind it
abbrev pub IsRun : (nodes : ℕ) → Phases → List EventAndNext → Type 0
IsRun nodes now [] = Unit {0}
IsRun nodes now (step ∷ later) =
    MayHappen nodes now step.event × Leaves nodes now step.event step.next × IsRun nodes step.next later

abbrev pub last_of : Phases → List EventAndNext → Phases
last_of now [] = now
last_of now (step ∷ later) = last_of step.next later

-- ---- the invariant

-- of each node
pub record NodeHolds (now : Phases) (node : ℕ) : Type 0 where
  pub ended : now.ended node ≤ now.started node
  pub started : now.started node ≤ now.ended node + 1

-- of each two nodes
pub record PairHolds (now : Phases) (from to : ℕ) : Type 0 where
  -- a message of each phase that it has ended was sent, and of none that it hasn't started
  pub before : now.ended from ≤ now.sent from to
  pub sent : now.sent from to ≤ now.started from
  -- what ran was sent
  pub ran : (phase : ℕ) → now.ran from to phase ≡ true → phase < now.sent from to
  -- what the other one ended has run there
  pub ended : (phase : ℕ) → phase < now.ended to → now.ran from to phase ≡ true
  -- a part has no stamp but of a phase that ran, and that of the last one with its remainder
  pub stands : (phase : ℕ) → now.stands to (phase % 2) from ≡ phase + 1 → now.ran from to phase ≡ true
  pub latest : (phase : ℕ) → now.ran from to phase ≡ true → phase < now.stands to (phase % 2) from
  pub parity : (parity : ℕ) → parity < 2
      → (now.stands to parity from ≡ 0) ⊎ ((now.stands to parity from + 1) % 2 ≡ parity)

pub record AllHold (nodes : ℕ) (now : Phases) : Type 0 where
  pub node : (node : ℕ) → node < nodes → NodeHolds now node
  pub pair : (from to : ℕ) → from < nodes → to < nodes → PairHolds now from to

-- ---- the law

-- where a node is ready to end its phase, all nodes have started that phase, and their messages of it have run there;
-- none has started a phase behind the next one
pub record IsSafe (nodes : ℕ) (now : Phases) (node : ℕ) : Type 0 where
  pub all : (from : ℕ) → from < nodes → now.ended node < now.started from
  pub near : (from : ℕ) → from < nodes → now.started from ≤ now.ended node + 2
  pub ran : (from : ℕ) → from < nodes → now.ran from node (now.ended node) ≡ true

-- a message that runs doesn't come behind a later one of its part: what stands there is of an earlier phase
abbrev pub ComesInTime : Phases → PhaseEvent → Type 0
ComesInTime now (Runs from to phase) = now.stands to (phase % 2) from ≤ phase
ComesInTime now event = Unit {0}

pub record PhasesHold (nodes : ℕ) (now : Phases) : Type 0 where
  pub ready : (node : ℕ) → node < nodes → IsReady nodes now node → IsSafe nodes now node
  pub in_time : (event : PhaseEvent) → MayHappen nodes now event → ComesInTime now event

abbrev pub PhasesAreSafe : Type 0
PhasesAreSafe =
    (nodes : ℕ) (opening : Phases) (steps : List EventAndNext) → IsNothing opening
    → IsRun nodes opening steps → PhasesHold nodes (last_of opening steps)
