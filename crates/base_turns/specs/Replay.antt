-- What a machine stands for after the entries of a journal, and what its turns got and sent.
use Rattle.std.specs.Prelude.{ℕ, ◌+◌, Bool, ◌&&◌, not, if◌then◌else◌, List, [], ◌∷◌, ◌++◌, take, Option, is_none}
use Rattle.std.specs.Option.{option_to_list}
use Rattle.base_turns.specs.declared.entry.Entry.{Entry}
use Rattle.base_turns.specs.declared.turns.Turned.{Turned}
use Rattle.base_turns.specs.declared.turns.Machine.{Ghosts}

-- what is known of the states that machines of one kind stand for
pub record Steps (State : Type 0) : Type 0 where
  pub polls : State → (thread : ℕ) → Bool  -- whether the thread polls
  pub after : State → (thread now : ℕ) → Option (List ℕ) → State  -- after a turn, with a datagram that was got or none
  pub turned : State → (thread now : ℕ) → Option (List ℕ) → Turned  -- what that turn tells
  -- the datagrams of the last turn that wasn't empty, each with the node that it is for
  pub sent : State → List (ℕ × List ℕ)

-- what is known of the states of these machines
abbrev pub steps_of : {M : Type 0} → (g : Ghosts M) → Steps g.State
steps_of g = record { polls = g.polls_in; after = g.after; turned = g.turned; sent = g.sent }

-- the state after the turn of an entry
abbrev pub after_entry : {State : Type 0} → Steps State → State → Entry → State
after_entry s r e = s.after r e.thread e.now e.got

-- the state after the turns of all entries
abbrev pub replay_state : {State : Type 0} → Steps State → State → List Entry → State
replay_state s r [] = r
replay_state s r (e ∷ es) = replay_state s (after_entry s r e) es

-- the datagrams got
abbrev pub got_in : List Entry → List (List ℕ)
got_in [] = []
got_in (e ∷ es) = option_to_list e.got ++ got_in es

-- the datagrams that the turn of an entry gave
abbrev pub given_by : {State : Type 0} → Steps State → State → Entry → List (ℕ × List ℕ)
given_by s r e = take (s.turned r e.thread e.now e.got).sends (s.sent (after_entry s r e))

-- the datagrams that the turns of all entries gave
abbrev pub sent_in : {State : Type 0} → Steps State → State → List Entry → List (ℕ × List ℕ)
sent_in s r [] = []
sent_in s r (e ∷ es) = given_by s r e ++ sent_in s (after_entry s r e) es

-- whether the turn of an entry got nothing and ended no step
abbrev pub is_quiet : {State : Type 0} → Steps State → State → Entry → Bool
is_quiet s r e = is_none e.got && not (s.turned r e.thread e.now e.got).stepped

-- how many quiet entries stand at the end, after so many of them
abbrev pub quiet_tail : {State : Type 0} → Steps State → State → ℕ → List Entry → ℕ
quiet_tail s r count [] = count
quiet_tail s r count (e ∷ es) = quiet_tail s (after_entry s r e) (if is_quiet s r e then count + 1 else 0) es

-- of whatever state the one machine stood for, the other stands for its replay
abbrev pub StandsFor : {M : Type 0} → Ghosts M → M → List Entry → M → Type 0
StandsFor g first es last = (r : g.State) → g.stands first r → g.stands last (replay_state (steps_of g) r es)
