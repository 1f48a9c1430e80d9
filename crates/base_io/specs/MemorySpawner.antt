-- What the spawner in memory is, and what each of its calls does, exactly.
use Rattle.std.specs.Prelude.{◌≡◌, ◌≤◌, ◌<◌, ◌+◌, ℕ, zero, suc, Bool, true, false, not, nat_le, ◌&&◌, if◌then◌else◌}
use Rattle.std.specs.Prelude.{List, [], ◌++◌, map, length, slice_index_or}
use Rattle.std.specs.Global.{Vec}
use Rattle.base_io.specs.Faults.{one_more}
use Rattle.base_io.specs.Memory.{is_listed}
use Rattle.base_io.specs.Spawner.{ToldCall, SpawnTold, ChildEnd, was_started, is_pending, told_call, told_end}
use Rattle.base_io.specs.Spawner.ToldCall.{Start, Finish}
use Rattle.base_io.specs.declared.spawner.Started.{Started}
use Rattle.base_io.specs.declared.spawner.Started.TheVariants as started
use Rattle.base_io.specs.declared.spawner.Finished.{Finished}
use Rattle.base_io.specs.declared.spawner.Finished.TheVariants as finished
use Rattle.base_io.specs.declared.spawn_call.SpawnCall.{SpawnCall}
use Rattle.base_io.specs.declared.spawn_call.SpawnCall.TheVariants as call
use Rattle.base_io.specs.declared.spawner.TheConstants.{MAX_OUTPUT}

-- a spawner in memory: the output and the exit status of each rank's child, what it tells, the numbers of the calls
-- that are to fail, the calls so far, and the faults
pub record SpawnerState : Type 0 where
  pub children : List (List ℕ × ℕ)
  pub told : SpawnTold
  pub fail : List ℕ
  pub calls : ℕ
  pub faults : ℕ

-- the children in vectors
abbrev pub children_of : List (Vec ℕ × ℕ) → List (List ℕ × ℕ)
children_of children = map (λ child. (child.0.items, child.1)) children

-- the calls in vectors
abbrev pub told_of : SpawnCall → ToldCall
told_of (call.Start rank port input) = Start rank port input.items
told_of (call.Finish rank) = Finish rank

abbrev pub told_calls : List SpawnCall → List ToldCall
told_calls calls = map told_of calls

-- what the child of a rank gives, and its exit status
abbrev pub output_of : List (List ℕ × ℕ) → ℕ → List ℕ
output_of children rank = (slice_index_or children rank ([], 0)).0

abbrev pub status_of : List (List ℕ × ℕ) → ℕ → ℕ
status_of children rank = (slice_index_or children rank ([], 0)).1

-- what it gave, by the answer of its finish
abbrev pub output_by : List (List ℕ × ℕ) → ℕ → Finished → List ℕ
output_by children rank (finished.Ended status) = output_of children rank
output_by children rank finished.Failed = []
output_by children rank finished.NoMemory = []

abbrev pub child_end_told : List (List ℕ × ℕ) → ℕ → Finished → ChildEnd
child_end_told children rank answer =
    record { rank = rank; output = output_by children rank answer; answer = answer }

abbrev pub ends_of : List (List ℕ × ℕ) → List (ℕ × Finished) → List ChildEnd
ends_of children ends = map (λ end. child_end_told children end.0 end.1) ends

-- how many of the ranks below this one have a child that was started, and not finished yet
abbrev pub pending_below : ℕ → List ToldCall → ℕ
pending_below zero calls = 0
pending_below (suc rank) calls = (if is_pending rank calls then 1 else 0) + pending_below rank calls

-- each finish that is still to be told has room, and is that of a child that is there
pub record HasRoom (ranks : ℕ) (calls : List ToldCall) (calls_room ends_room : ℕ) : Type 0 where
  pub calls_fit : pending_below ranks calls ≤ calls_room
  pub ends_fit : pending_below ranks calls ≤ ends_room
  pub there : (rank : ℕ) → is_pending rank calls ≡ true → rank < ranks

-- the spawner after a call that did nothing else
abbrev pub spawner_called : SpawnerState → SpawnerState
spawner_called state = record state { calls = one_more state.calls }

-- the spawner after a call that failed
abbrev pub call_failed : SpawnerState → SpawnerState
call_failed state = record state { calls = one_more state.calls; faults = one_more state.faults }

-- a start: the call's number isn't listed, and the rank has a child, which was never started; or `Failed`, where that
-- isn't so, or for want of memory
abbrev pub StartsNext : ℕ → ToldCall → SpawnerState → Started → SpawnerState → Type 0
StartsNext rank start old started.Started new =
    (is_listed old.fail (one_more old.calls) ≡ false)
    × (rank < length old.children)
    × (was_started rank old.told.calls ≡ false)
    × (new ≡ record (spawner_called old) { told = told_call start old.told })
StartsNext rank start old started.Failed new = new ≡ call_failed old

-- a finish of this rank doesn't fail as the call with the last number
abbrev pub can_end : ℕ → SpawnerState → Bool
can_end rank state =
    not (is_listed state.fail state.calls) && is_pending rank state.told.calls
    && nat_le (length (output_of state.children rank)) MAX_OUTPUT

-- the end of the child of a rank, by what stands in the vector before and after: the child's output is appended;
-- `Failed` exactly where it can't end, and `NoMemory` for want of memory
abbrev pub EndsAs : ℕ → SpawnerState → Finished → (before after : List ℕ) → Type 0
EndsAs rank state (finished.Ended status) before after =
    (can_end rank state ≡ true) × (status ≡ status_of state.children rank)
    × (after ≡ before ++ output_of state.children rank)
EndsAs rank state finished.Failed before after = (can_end rank state ≡ false) × (after ≡ before)
EndsAs rank state finished.NoMemory before after = (can_end rank state ≡ true) × (after ≡ before)

-- the spawner after the end of a child was told
abbrev pub ended_as : ℕ → Finished → SpawnerState → SpawnerState
ended_as rank answer state = record state { told = told_end (child_end_told state.children rank answer) state.told }

-- and after the whole finish
abbrev pub finished_as : ℕ → Finished → SpawnerState → SpawnerState
finished_as rank (finished.Ended status) old = ended_as rank (finished.Ended status) (spawner_called old)
finished_as rank finished.Failed old = ended_as rank finished.Failed (call_failed old)
finished_as rank finished.NoMemory old = ended_as rank finished.NoMemory (spawner_called old)
