-- The replay of a trace by itself, and what its turns sent.
-- Origin: this project's profile.
use Rattle.std.specs.Prelude.{◌≡◌, ◌≤◌, ◌<◌, ◌+◌, ℕ, true, List, [], ◌∷◌, ◌++◌, length, map, take}
use Rattle.std.specs.Prelude.{slice_get, IsSomeAnd, IfSome}
use Rattle.std.specs.Option.{ForSome}
use Rattle.base_turns.specs.Replay.{StandsFor, Steps, after_entry, given_by, steps_of}
use Rattle.base_turns.specs.declared.entry.Entry.{Entry}
use Rattle.base_turns.specs.declared.turns.Machine.{Ghosts}
use Rattle.text_trace.specs.declared.replaying.Replayed.{Replayed}
use Rattle.text_trace.specs.declared.sent.Sent.{Sent}

-- ---- what was sent

-- the datagrams of the turn of this entry, which has this number
abbrev pub numbered_sends : (number : ℕ) → List (ℕ × List ℕ) → List Sent
numbered_sends number datagrams = map (λ one. record { entry = number; to = one.0; bytes = one.1 }) datagrams

-- the datagrams that the turns of these entries sent, the first of which has this number
abbrev pub sent_from : {State : Type 0} → Steps State → State → (number : ℕ) → List Entry → List Sent
sent_from steps state number [] = []
sent_from steps state number (entry ∷ entries) =
    numbered_sends number (given_by steps state entry) ++ sent_from steps (after_entry steps state entry)
    (number + 1) entries

-- ---- a replay

-- the entry can be taken: it is of a thread of the machine, which polls where it got something
abbrev pub CanBeTaken : {M : Type 0} → Ghosts M → M → Entry → Type 0
CanBeTaken ghosts machine entry =
    (entry.thread < ghosts.thread_count machine)
    × IfSome entry.got (λ bytes. ghosts.polls_at machine entry.thread ≡ true)

-- the machine took the turns of so many entries, and these are the datagrams that they sent, whatever state it stood
-- for
pub record Replays {M : Type 0} (ghosts : Ghosts M) (first last : M) (entries : List Entry) (replay : Replayed) : Type 0
  where
    pub within : replay.turns ≤ length entries
    pub stands : StandsFor ghosts first (take replay.turns entries) last
    pub sent : (state : ghosts.State) → ghosts.stands first state
        → replay.sent.items ≡ sent_from (steps_of ghosts) state 1 (take replay.turns entries)
    -- where it didn't take all, the next one can't be taken
    pub stopped : ForSome (slice_get entries replay.turns) (λ entry. CanBeTaken ghosts last entry → ⊥)

-- ---- who sent

-- one of them is this datagram for this node
abbrev pub IsSentAmong : List Sent → (to : ℕ) → (bytes : List ℕ) → Type 0
IsSentAmong sent to bytes =
    (place : ℕ) × IsSomeAnd (slice_get sent place) (λ one. (one.to ≡ to) × (one.bytes ≡ bytes))

-- one of these nodes sent this datagram to this node
abbrev pub IsSent : List Replayed → (to : ℕ) → (bytes : List ℕ) → Type 0
IsSent replays to bytes =
    (from : ℕ) × IsSomeAnd (slice_get replays from) (λ replay. IsSentAmong replay.sent.items to bytes)

-- the entry of this node got a datagram that none of these nodes sent to it
abbrev pub IsUnsent : List Replayed → (to : ℕ) → Entry → Type 0
IsUnsent replays to entry = IsSomeAnd entry.got (λ bytes. IsSent replays to bytes → ⊥)

-- it is the first such entry
pub record IsFirstUnsent (replays : List Replayed) (to : ℕ) (entries : List Entry) (place : ℕ) : Type 0 where
  pub unsent : IsSomeAnd (slice_get entries place) (IsUnsent replays to)
  pub first : (other : ℕ) → other < place → ForSome (slice_get entries other) (λ entry. IsUnsent replays to entry → ⊥)

-- there is none
abbrev pub AreAllSent : List Replayed → (to : ℕ) → List Entry → Type 0
AreAllSent replays to entries =
    (place : ℕ) → ForSome (slice_get entries place) (λ entry. IsUnsent replays to entry → ⊥)
