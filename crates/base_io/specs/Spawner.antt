-- What a spawner tells of its children, after each of its answers.
use Rattle.std.specs.Prelude.{◌≡◌, ◌≤◌, ℕ, ◌==◌, Bool, true, false, not, ◌&&◌, if◌then◌else◌, List, [], ◌∷◌, ◌++◌}
use Rattle.std.specs.Prelude.{length, take, drop, Option, option_map, ⊤}
use Rattle.std.specs.Option.{ForSome}
use Rattle.std.specs.List.{list_any}
use Rattle.base_io.specs.declared.spawner.Started.{Started}
use Rattle.base_io.specs.declared.spawner.Started.TheVariants as started
use Rattle.base_io.specs.declared.spawner.Finished.{Finished}
use Rattle.base_io.specs.declared.spawner.Finished.TheVariants as finished
use Rattle.base_io.specs.declared.spawner.TheConstants.{MAX_OUTPUT}

-- a start or a finish that is told
pub data ToldCall : Type 0 where
  Start : (rank port : ℕ) → (input : List ℕ) → ToldCall  -- the child of a rank was started, and given these bytes
  Finish : (rank : ℕ) → ToldCall  -- the child of a rank was finished

-- the end of a child: what it gave, and the answer that its finish had
pub record ChildEnd : Type 0 where
  pub rank : ℕ
  pub output : List ℕ
  pub answer : Finished

-- the starts and finishes in order, and the ends of the children, one for each finish
pub record SpawnTold : Type 0 where
  pub calls : List ToldCall
  pub ended : List ChildEnd

abbrev pub is_start_of : ℕ → ToldCall → Bool
is_start_of rank (Start started port input) = started == rank
is_start_of rank (Finish finished) = false

abbrev pub is_finish_of : ℕ → ToldCall → Bool
is_finish_of rank (Start started port input) = false
is_finish_of rank (Finish finished) = finished == rank

-- the child of this rank was started
abbrev pub was_started : ℕ → List ToldCall → Bool
was_started rank calls = list_any (is_start_of rank) calls

-- it was started, and not finished yet
abbrev pub is_pending : ℕ → List ToldCall → Bool
is_pending rank calls = was_started rank calls && not (list_any (is_finish_of rank) calls)

-- a call more is told
abbrev pub told_call : ToldCall → SpawnTold → SpawnTold
told_call call told = record told { calls = told.calls ++ call ∷ [] }

-- the first finish of a child that was started is told, and no other
abbrev pub told_end : ChildEnd → SpawnTold → SpawnTold
told_end end told =
    if is_pending end.rank told.calls
    then (record { calls = told.calls ++ Finish end.rank ∷ []; ended = told.ended ++ end ∷ [] })
    else told

-- a start is told; a failure changes nothing
abbrev pub StartTold : Started → ToldCall → Option SpawnTold → Option SpawnTold → Type 0
StartTold started.Started call old new = new ≡ option_map (told_call call) old
StartTold started.Failed call old new = new ≡ old

abbrev pub IsStartFailed : Started → Type 0
IsStartFailed started.Started = ⊥
IsStartFailed started.Failed = ⊤

abbrev pub IsFinishFailed : Finished → Type 0
IsFinishFailed (finished.Ended status) = ⊥
IsFinishFailed finished.Failed = ⊤
IsFinishFailed finished.NoMemory = ⊥

-- what was appended
abbrev pub new_bytes : (before after : List ℕ) → List ℕ
new_bytes before after = drop (length before) after

-- the output was appended, and is within the limit; else nothing was
abbrev pub AppendsOutput : Finished → (before after : List ℕ) → Type 0
AppendsOutput (finished.Ended status) before after =
    (take (length before) after ≡ before) × (length (new_bytes before after) ≤ MAX_OUTPUT)
AppendsOutput finished.Failed before after = after ≡ before
AppendsOutput finished.NoMemory before after = after ≡ before

-- a child ends once, after its start
abbrev pub EndsPending : Finished → ℕ → Option SpawnTold → Type 0
EndsPending (finished.Ended status) rank old = ForSome old (λ told. is_pending rank told.calls ≡ true)
EndsPending finished.Failed rank old = ⊤
EndsPending finished.NoMemory rank old = ⊤

-- the end of a child, by what stands in the vector before and after its finish
abbrev pub child_end : ℕ → Finished → (before after : List ℕ) → ChildEnd
child_end rank answer before after = record { rank = rank; output = new_bytes before after; answer = answer }
