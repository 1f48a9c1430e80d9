-- What a turn does to a machine, but for what it keeps of the turn.
-- Origin: this project's profile.
use Rattle.std.specs.Prelude.{ℕ, ◌≡◌, true, false, if◌then◌else◌, length, is_some}
use Rattle.base_turns.specs.declared.turns.Turned.{Turned}
use Rattle.proc_machine.specs.Kept.{MachineKept, polls_at}
use Rattle.proc_machine.specs.NodeState.{NodeState, NodeStands, after_turn, turn_result}
use Rattle.proc_machine.specs.Turns.{TurnTaken, is_changed}
use Rattle.proc_machine.specs.declared.turn.TurnDone.{TurnDone}

-- the machine keeps what that turn sent, and the answer of the step that it ended
abbrev pub with_done : MachineKept → TurnDone → MachineKept
with_done machine done = record machine { outgoing = done.outgoing; answer = done.tried.ended }

-- what it tells
abbrev pub turned_of : TurnTaken → TurnDone → Turned
turned_of taken done = record {
  changed = is_changed taken done;
  stepped = is_some done.tried.ended;
  sends = if is_changed taken done then length done.outgoing else 0;
}

-- a machine took a turn: of every state for which it stood it stands for the state after it, where it keeps what that
-- turn sent if it wasn't empty
pub record MachineTakes (old : MachineKept) (taken : TurnTaken) (done : TurnDone) (new : MachineKept) : Type 0 where
  pub job : new.job ≡ old.job
  pub changed : is_changed taken done ≡ true → (state : NodeState) → NodeStands old state
      → NodeStands (with_done new done) (after_turn state taken.thread taken.now taken.got)
  pub quiet : is_changed taken done ≡ false → (state : NodeState) → NodeStands old state
      → NodeStands new (after_turn state taken.thread taken.now taken.got)
  pub told : (state : NodeState) → NodeStands old state
      → turn_result state taken.thread taken.now taken.got ≡ turned_of taken done
  -- whether a thread polls changes only in a turn that ends a step
  pub polls : is_some done.tried.ended ≡ false → (thread : ℕ) → polls_at new thread ≡ polls_at old thread
