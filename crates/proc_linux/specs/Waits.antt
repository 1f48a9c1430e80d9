-- When a node waits, and what it looks at.
use Rattle.std.specs.Prelude.{◌≡◌, ℕ, ◌%◌, ◌<◌, ◌==◌, Bool, true, false, List, length, if◌then◌else◌}
use Rattle.std.specs.Bool.{MatchBool}
use Rattle.std.specs.List.{AllWithin, HoldsAt}
use Rattle.mio.specs.Event.{event_token, is_write_closed}
use Rattle.mio.specs.declared.event.event.Event.{Event}
use Rattle.proc_linux.specs.declared.socket_waiter.Rest.{Rest}
use Rattle.proc_linux.specs.declared.socket_waiter.Rest.TheVariants as rest

-- what a thread does before a turn: after a quiet one it pauses; of 1,024 others it looks at the events before one
abbrev pub rest_before : (quiet : Bool) (busy : ℕ) → Rest
rest_before true busy = rest.Pause
rest_before false busy = if busy % 1024 == 1023 then rest.Look else rest.Go

-- the event says that nobody reads standard output any more
abbrev pub SaysUnread : Event → Type 0
SaysUnread event = (event_token event ≡ record { 0 = 1 }) × (is_write_closed event ≡ true)

-- the event says nothing of that
abbrev pub SaysNone : Event → Type 0
SaysNone event = ¬ (SaysUnread event)

-- whether one of the events says so
abbrev pub TellUnread : List Event → Bool → Type 0
TellUnread events told =
    MatchBool told ((k : ℕ) × (k < length events) × HoldsAt SaysUnread events k)
    (AllWithin SaysNone events 0 (length events))
