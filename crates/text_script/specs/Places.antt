-- Which of the texts of a job's handlers is registered for which index, as the code keeps it.
use Rattle.std.specs.Prelude.{ℕ, ◌≡◌, ◌<◌, ◌^◌, ◌-◌, ◌==◌, Bool, true, false, not, List, [], ◌∷◌, Option, Some, None}
use Rattle.std.specs.Prelude.{nat_lt, length, slice_get, option_and_then, option_map, if◌then◌else◌, is_none}
use Rattle.std.specs.List.{filter, fold}
use Rattle.part_handlers.specs.declared.table.Entry.{Entry}
use Rattle.part_handlers.specs.Registered.{entry_at}
use Rattle.text_steps.specs.declared.steps.Action.{Action}
use Rattle.text_job.specs.declared.job.HandlerText.{HandlerText}
use Rattle.text_script.specs.Registration.{JobHandlers, Registry, body_for, register}

-- the place among the texts of the one that is registered for the index; none for an index below 128
abbrev pub place_at : List (Option ℕ) → (index : ℕ) → Option ℕ
place_at places index =
    if nat_lt index 128 then None else option_and_then (λ place. place) (slice_get places (index - 128))

-- the body of a text, if there is one
abbrev pub body_of : Option HandlerText → List Action
body_of None = []
body_of (Some text) = text.body

-- the body of the text at the place; none, which does nothing, where no place is given
abbrev pub body_at : List HandlerText → Option ℕ → List Action
body_at texts None = []
body_at texts (Some place) = body_of (slice_get texts place)

-- each index has its place, and the place is that of its body
pub record AreBodies (handlers : JobHandlers) (places : List (Option ℕ)) : Type 0 where
  pub long : length places ≡ 128
  pub each : (index : ℕ) → index < 2 ^ 8
      → body_at handlers.texts (place_at places index) ≡ body_for handlers index

-- the body that is registered for the index, if there is one
abbrev pub found_body : List (ℕ × List Action) → (index : ℕ) → Option (List Action)
found_body [] index = None
found_body (body ∷ bodies) index = if body.0 == index then Some body.1 else found_body bodies index

-- table and places are those of a registry: nothing has a place that isn't registered
pub record ArePlaced (texts : List HandlerText) (registry : Registry) (table : List (Option Entry))
    (places : List (Option ℕ)) : Type 0 where
  pub table_is : table ≡ registry.table
  pub long : length places ≡ 128
  pub rows : length table ≡ 128
  pub found : (index : ℕ) → index < 2 ^ 8
      → found_body registry.bodies index ≡ option_map (λ place. body_at texts (Some place)) (place_at places index)
  pub known : (index : ℕ) → index < 2 ^ 8 → is_none (entry_at table index) ≡ true → place_at places index ≡ None

-- whether a handler asks for its index in this turn: those with an index of their own in the first, those that ask for
-- any in the second
abbrev pub is_in_turn : (any : Bool) → HandlerText → Bool
is_in_turn true text = text.index == 0
is_in_turn false text = not (text.index == 0)

-- a table as the code keeps it: its entries, and the place of the text that is registered for each index
pub record Placing : Type 0 where
  pub table : List (Option Entry)
  pub places : List (Option ℕ)

-- what the code keeps, in one
abbrev pub placing : List (Option Entry) → List (Option ℕ) → Placing
placing table places = record { table = table; places = places }

-- a registration goes from any registry so far to the next
abbrev pub AtRegistering : List HandlerText → (Registry → Registry) → (old new : Placing) → Type 0
AtRegistering texts next old new =
    (registry : Registry) → ArePlaced texts registry old.table old.places
    → ArePlaced texts (next registry) new.table new.places

-- those of one turn registered, in order
abbrev pub register_turn : (any : Bool) → List HandlerText → Registry → Registry
register_turn any texts registry = fold register registry (filter (is_in_turn any) texts)
