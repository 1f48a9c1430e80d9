-- The children of a launch: their starts and their ends, and what a spawner tells of these.
-- Origin: this project's profile.
use Rattle.std.specs.Prelude.{◌≡◌, ◌<◌, ◌≤◌, ℕ, zero, suc, List, [], ◌∷◌, ◌++◌, length, map, All}
use Rattle.std.specs.Prelude.{Option, Some, option_map, slice_get, false}
use Rattle.std.specs.List.{list_any}
use Rattle.std.specs.Option.{ForSome}
use Rattle.base_io.specs.Faults.{Rose}
use Rattle.base_io.specs.Spawner.{ChildEnd, IsFinishFailed, SpawnTold, ToldCall, is_finish_of, told_end}
use Rattle.base_io.specs.Spawner.ToldCall.{Finish, Start}
use Rattle.base_io.specs.declared.spawner.Spawner.{Ghosts as SpawnerGhosts}
use Rattle.cli_launch.specs.declared.children.Child.{Child}
use Rattle.base_io.specs.declared.spawner.TheConstants.{MAX_OUTPUT}

-- ---- a spawner

-- the starts and finishes of children, where it tells them, and its count of faults
pub record SpawnerSeen : Type 0 where
  pub told : Option SpawnTold
  pub faults : ℕ

-- what is seen of this spawner
abbrev pub spawner_seen : {P : Type 0} → SpawnerGhosts P → P → SpawnerSeen
spawner_seen spawners spawner = record { told = spawners.told spawner; faults = spawners.faults spawner }

-- ---- starts

-- those of the children of the ranks below this one, in order, each with the port of rank 0 and these bytes
abbrev pub starts_below : (rank port : ℕ) → (input : List ℕ) → List ToldCall
starts_below zero port input = []
starts_below (suc rank) port input = starts_below rank port input ++ Start rank port input ∷ []

-- what is told after them
abbrev pub with_starts : (count port : ℕ) → (input : List ℕ) → SpawnTold → SpawnTold
with_starts count port input told = record told { calls = told.calls ++ starts_below count port input }

-- ---- ends

-- the end of a child that was finished
abbrev pub end_of_child : Child → ChildEnd
end_of_child child = record { rank = child.rank; output = child.output.items; answer = child.answer }

abbrev pub ends_of : List Child → List ChildEnd
ends_of children = map end_of_child children

-- what is told after the finishes that had these ends, in order
abbrev pub with_ends : List ChildEnd → SpawnTold → SpawnTold
with_ends [] told = told
with_ends (end ∷ ends) told = with_ends ends (told_end end told)

-- the finishes of the children of the ranks below this one, in order
abbrev pub finishes_below : (rank : ℕ) → List ToldCall
finishes_below zero = []
finishes_below (suc rank) = finishes_below rank ++ Finish rank ∷ []

-- they are those of the ranks from 0 on, in order
abbrev pub AreRanked : List ChildEnd → Type 0
AreRanked ends = (rank : ℕ) → ForSome (slice_get ends rank) (λ end. end.rank ≡ rank)

-- a child gave at most as many bytes as an output may have
abbrev pub IsOutputWithin : ChildEnd → Type 0
IsOutputWithin end = length end.output ≤ MAX_OUTPUT

-- ---- both

-- no finish of a child of the ranks below this one was told
abbrev pub NoneFinished : (rank : ℕ) → SpawnTold → Type 0
NoneFinished rank told = (other : ℕ) → other < rank → list_any (is_finish_of other) told.calls ≡ false

-- what is told after both, where each end is told: the calls and the ends behind those that were told before
abbrev pub all_told : (started port : ℕ) (input : List ℕ) → List ChildEnd → SpawnTold → SpawnTold
all_told started port input ends told = record {
  calls = told.calls ++ starts_below started port input ++ finishes_below (length ends);
  ended = told.ended ++ ends;
}

-- of this many nodes so many children were started, from rank 0 on, and then these were finished, in order, with these
-- ends: all were started, and no finish failed, unless the spawner's count of faults rose. `told` is what a spawner
-- tells that tells its calls, of which a finish that isn't the first of its child is none; `plain` says the same
-- without cases where it had told no finish of the ranks that were started
pub record Spawns (nodes port : ℕ) (input : List ℕ) (before after : SpawnerSeen) (started : ℕ) (ends : List ChildEnd)
    : Type 0 where
  pub few : started ≤ nodes
  pub told : after.told ≡ option_map (λ told. with_ends ends (with_starts started port input told)) before.told
  pub plain : ForSome before.told (λ told. NoneFinished started told
      → after.told ≡ Some (all_told started port input ends told))
  pub ranks : AreRanked ends
  pub within : All IsOutputWithin ends
  pub later : before.faults ≤ after.faults
  pub unstarted : started < nodes → Rose before.faults after.faults
  pub unfinished : All (λ end. IsFinishFailed end.answer → Rose before.faults after.faults) ends
