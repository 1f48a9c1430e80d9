-- What an object of the outside tells, where it tells it.
use Rattle.std.specs.Prelude.{◌≡◌, ℕ, List, [], ◌∷◌, ◌++◌, Option, Some, option_map, drop, take, slice_get}
use Rattle.std.specs.Option.{ForSome}

-- where a list is told, it has these more
abbrev pub and_all : {A : Type 0} → Option (List A) → List A → Option (List A)
and_all told more = option_map (λ list. list ++ more) told

-- where a list is told, it has one more
abbrev pub and_then : {A : Type 0} → Option (List A) → A → Option (List A)
and_then told one = and_all told (one ∷ [])

-- where a list is told, its first is gone
abbrev pub rest_of : {A : Type 0} → Option (List A) → Option (List A)
rest_of told = option_map (drop 1) told

-- where it is told what waits, nothing waits
abbrev pub IsEmptyWhereTold : Option (List (List ℕ)) → Type 0
IsEmptyWhereTold waiting = ForSome waiting (λ list. list ≡ [])

-- where it is told what waits, this is the first of it, cut to the room
abbrev pub IsFirstWhereTold : Option (List (List ℕ)) → ℕ → List ℕ → Type 0
IsFirstWhereTold waiting room got =
    ForSome waiting (λ list. option_map (take room) (slice_get list 0) ≡ Some got)
