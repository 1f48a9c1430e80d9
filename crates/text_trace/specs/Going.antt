-- What may go now, by what the machines stand for and the datagrams that are known to have been sent.
use Rattle.std.specs.Prelude.{◌≡◌, ℕ, ◌<◌, length, Bool, true, List, Option, Some, None, slice_set, slice_get}
use Rattle.std.specs.Prelude.{slice_index, IsSomeAnd, IfSome, IsTrue, ◌↔◌}
use Rattle.std.specs.Option.{ForSome}
use Rattle.base_turns.specs.declared.entry.Entry.{Entry}
use Rattle.base_turns.specs.declared.turns.Machine.{Ghosts}
use Rattle.base_turns.specs.Replay.{Steps, steps_of, given_by}
use Rattle.base_turns.specs.Prefixes.{Node}
use Rattle.text_trace.specs.declared.trace.Trace.{Trace}
use Rattle.text_trace.specs.Noted.{PlaceMaps, MarkLists, Marks, IsNoted}

-- where a merge is: the machines, their traces, how many entries of each have gone, and which of the datagrams that the
-- traces got are marked as sent
pub record MergeState (M : Type 0) : Type 0 where
  pub machines : List M
  pub traces : List Trace
  pub prefix : List ℕ
  pub places : PlaceMaps
  pub marks : MarkLists

-- what a turn may get: nothing or, where its thread polls, a datagram that is known to have been sent to its node
abbrev pub MayGet : (polls : Bool) → (known : List ℕ → Type 0) → Option (List ℕ) → Type 0
MayGet polls known None = Unit {0}
MayGet polls known (Some bytes) = (polls ≡ true) × known bytes

-- the entry at this place of a node's entries may go
abbrev pub MayGo : {State : Type 0} → Steps State → Node State → (known : List ℕ → Type 0) → (at : ℕ) → Type 0
MayGo steps node known at =
    IsSomeAnd (slice_get node.entries at) (λ entry. MayGet (steps.polls node.state entry.thread) known entry.got)

-- an entry that got something has a thread that polls
abbrev pub CanTake : {M : Type 0} → Ghosts M → M → Entry → Type 0
CanTake ghosts machine entry = IfSome entry.got (λ bytes. ghosts.polls_at machine entry.thread ≡ true)

-- the node's next entry is there, and its machine can take it
abbrev pub CanTakeNext : {M : Type 0} → Ghosts M → List M → List Trace → List ℕ → ℕ → Type 0
CanTakeNext ghosts machines traces prefix n =
    IsSomeAnd (slice_get machines n) (λ machine. IsSomeAnd (slice_get traces n)
    (λ trace. IsSomeAnd (slice_get trace.entries (slice_index prefix n))
    (CanTake ghosts machine)))

-- the answer is whether the node's next entry may go, in whatever state its machine stands for
abbrev pub Judges : {M : Type 0} → (ghosts : Ghosts M) → MergeState M → (n : ℕ) → Bool → Type 0
Judges ghosts merging n answer =
    ForSome (slice_get merging.machines n) (λ machine. ForSome (slice_get merging.traces n)
    (λ trace. (state : ghosts.State) → ghosts.stands machine state
    → IsTrue answer
    ↔ MayGo (steps_of ghosts) (record { state = state; entries = trace.entries })
    (IsNoted merging.places merging.marks n)
    (slice_index merging.prefix n)))

-- the node's next entry may not go
abbrev pub IsBlocked : {M : Type 0} → (ghosts : Ghosts M) → MergeState M → (n : ℕ) → Type 0
IsBlocked ghosts merging n =
    ForSome (slice_get merging.machines n) (λ machine. ForSome (slice_get merging.traces n)
    (λ trace. (state : ghosts.State) → ghosts.stands machine state
    → MayGo (steps_of ghosts) (record { state = state; entries = trace.entries })
    (IsNoted merging.places merging.marks n)
    (slice_index merging.prefix n)
    → ⊥))

-- the node's trace has an entry that hasn't gone
abbrev pub IsLeftAt : List Trace → List ℕ → ℕ → Type 0
IsLeftAt traces prefix n = IsSomeAnd (slice_get traces n) (λ trace. slice_index prefix n < length trace.entries)

-- a machine, and which datagrams are marked as sent
pub record MachineWithMarks (M : Type 0) : Type 0 where
  pub machine : M
  pub marks : MarkLists

-- a machine took the turn of an entry, and what it sent was marked
pub record Took
    {M : Type 0}
    (ghosts : Ghosts M)
    (places : PlaceMaps)
    (entry : Entry)
    (old new : MachineWithMarks M) : Type 0
  where
    pub after : (state : ghosts.State) → ghosts.stands old.machine state → ghosts.stands new.machine
        (ghosts.after state entry.thread entry.now entry.got)
    pub threads : ghosts.thread_count new.machine ≡ ghosts.thread_count old.machine
    pub marks : (state : ghosts.State) → ghosts.stands old.machine state → Marks places old.marks new.marks
        (given_by (steps_of ghosts) state entry)

-- the next entry of a node went: these are the machines and the marks then
pub record TookNext
    {M : Type 0}
    (ghosts : Ghosts M)
    (before : MergeState M)
    (n : ℕ)
    (new_machines : List M)
    (new_marks : MarkLists) : Type 0
  where
    pub machine : M
    pub trace : Trace
    pub entry : Entry
    pub left : M
    pub machine_at : slice_get before.machines n ≡ Some machine
    pub trace_at : slice_get before.traces n ≡ Some trace
    pub entry_at : slice_get trace.entries (slice_index before.prefix n) ≡ Some entry
    pub machines : new_machines ≡ slice_set before.machines n left
    pub took : Took ghosts before.places entry (record { machine = machine; marks = before.marks })
        (record { machine = left; marks = new_marks })
