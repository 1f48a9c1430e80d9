-- Places in the order in which their operations began: those that wait, or all that are taken.
use Rattle.std.specs.Prelude.{ℕ, ◌≡◌, ◌≢◌, ◌⊎◌, ◌<◌, ◌≤◌, List, Option, None, Some, length, insert, remove}
use Rattle.std.specs.Prelude.{slice_get}
use Rattle.part_transfers.specs.declared.queue.Queued.{Queued}

-- each place is there once, behind those of smaller numbers
pub record IsQueue (queue : List Queued) : Type 0 where
  pub order : (index later : ℕ) (first second : Queued) → index < later → slice_get queue index ≡ Some first
      → slice_get queue later ≡ Some second → (first.number ≤ second.number) × (first.place ≢ second.place)
  pub inside : (index : ℕ) (entry : Queued) → slice_get queue index ≡ Some entry → entry.place < 256

-- the place waits there
pub record WaitsAt (queue : List Queued) (index place : ℕ) : Type 0 where
  pub entry : Queued
  pub here : slice_get queue index ≡ Some entry
  pub same : entry.place ≡ place

-- the place doesn't wait
abbrev pub IsNowhere : List Queued → (place : ℕ) → Type 0
IsNowhere queue place = (index : ℕ) (entry : Queued) → slice_get queue index ≡ Some entry → entry.place ≢ place

-- the place waits exactly where there is a number by which it does
abbrev pub IsQueuedAs : List Queued → (place : ℕ) → Option ℕ → Type 0
IsQueuedAs queue place None = IsNowhere queue place
IsQueuedAs queue place (Some number) =
    (index : ℕ) × (slice_get queue index ≡ Some (record { number = number; place = place }))

-- an entry of that number goes there: before the entries of that number, if there are any
pub record IsIndexFor (queue : List Queued) (number index : ℕ) : Type 0 where
  pub within : index ≤ length queue
  pub before : (at : ℕ) (entry : Queued) → at < index → slice_get queue at ≡ Some entry → entry.number < number
  pub behind : (at : ℕ) (entry : Queued) → index ≤ at → slice_get queue at ≡ Some entry → number ≤ entry.number

-- the queue without the place, if it waited
abbrev pub Goes : (place : ℕ) → Option ℕ → (old new : List Queued) → Type 0
Goes place None old new = new ≡ old
Goes place (Some number) old new = (index : ℕ) × (WaitsAt old index place) × (new ≡ remove old index)

-- and the place doesn't wait any more
pub record Leaves (place : ℕ) (was : Option ℕ) (old new : List Queued) : Type 0 where
  pub goes : Goes place was old new
  pub gone : IsNowhere new place

-- the queue with the place, if there is a number by which it waits
abbrev pub Enters : (place : ℕ) → Option ℕ → (old new : List Queued) → Type 0
Enters place None old new = new ≡ old
Enters place (Some number) old new =
    (index : ℕ) × (index ≤ length old) × (new ≡ insert old index (record { number = number; place = place }))

-- the place waits by the second number instead of the first, as far as there are numbers
abbrev pub Changes : (place : ℕ) → (was now : Option ℕ) → (old new : List Queued) → Type 0
Changes place was now old new =
    ((was ≡ now) × (new ≡ old))
    ⊎ ((middle : List Queued) × (Leaves place was old middle) × (Enters place now middle new))

-- the queue has each place that waits, by its number
pub record Queues (waits : ℕ → Option ℕ) (queue : List Queued) : Type 0 where
  pub each : (index : ℕ) (entry : Queued) → slice_get queue index ≡ Some entry
      → waits entry.place ≡ Some entry.number
  pub all : (place number : ℕ) → waits place ≡ Some number
      → (index : ℕ) × (slice_get queue index ≡ Some (record { number = number; place = place }))
