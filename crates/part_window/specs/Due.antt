-- Which request a requester's slots send again next; the record's rule is `next_due` of `spec_node`.
use Rattle.std.specs.Prelude.{ℕ, ◌≡◌, ◌<◌, ◌≤◌, ◌+◌, ◌^◌, Option, Some, None, Bool, true, false, nat_le, if◌then◌else◌}
use Rattle.std.specs.Prelude.{option_and_then}
use Rattle.part_window.specs.SlotsState.{SlotState, SlotsState, Vacant, Opened, Committed, slot_at}
pub use Rattle.part_window.specs.TableState.{as_retransmitted}

-- when the slot's message was last sent, where that was `resend` or more before now: the message is then due
abbrev pub due_time : ℕ → ℕ → SlotState → Option ℕ
due_time now resend Vacant = None
due_time now resend (Opened number time buffer) = None
due_time now resend (Committed number time message) = if nat_le (time + resend) now then Some time else None

-- when the message in a slot of a node was last sent, where it is due
abbrev pub due_at : SlotsState → ℕ → ℕ → ℕ → ℕ → Option ℕ
due_at table now resend to slot = option_and_then (due_time now resend) (slot_at table to slot)

-- when a message was sent, to which node, and from which slot
pub record Sending : Type 0 where
  pub time : ℕ
  pub node : ℕ
  pub slot : ℕ

-- a sending is not after another: it was at an earlier time, else to a lower node, else from no higher slot
pub record IsNotAfter (sending other : Sending) : Type 0 where
  pub earlier : sending.time ≤ other.time
  pub lower_node : other.time ≡ sending.time → sending.node ≤ other.node
  pub lower_slot : other.time ≡ sending.time → other.node ≡ sending.node → sending.slot ≤ other.slot

-- the slot of the node is due, and no other slot that is due comes before it
pub record IsFirstDue (table : SlotsState) (now resend to slot : ℕ) : Type 0 where
  pub time : ℕ
  pub due : due_at table now resend to slot ≡ Some time
  pub first : (node other_slot time_of_other : ℕ) → due_at table now resend node other_slot ≡ Some time_of_other
      → IsNotAfter (record { time = time; node = to; slot = slot })
      (record { time = time_of_other; node = node; slot = other_slot })

-- no slot is due
abbrev pub NoneIsDue : SlotsState → ℕ → ℕ → Type 0
NoneIsDue table now resend = (node slot : ℕ) → due_at table now resend node slot ≡ None

-- the answer: the slot that is due and comes first, with its node; None where no slot is due
abbrev pub IsDueNext : SlotsState → ℕ → ℕ → Option (ℕ × ℕ) → Type 0
IsDueNext table now resend None = NoneIsDue table now resend
IsDueNext table now resend (Some found) = IsFirstDue table now resend found.0 found.1

-- whether a slot is due
abbrev pub IsDue : SlotsState → (now resend : ℕ) → Bool → Type 0
IsDue table now resend true = (found : ℕ × ℕ) × IsDueNext table now resend (Some found)
IsDue table now resend false = IsDueNext table now resend None

-- the time from which on this is so, as long as nothing changes: at each time it is exactly where that one has come.
-- None where it is so at no time that 64 bits hold
abbrev pub IsSoFrom : (IsSo : (now : ℕ) → Bool → Type 0) → Option ℕ → Type 0
IsSoFrom IsSo None = (now : ℕ) → now < 2 ^ 64 → IsSo now false
IsSoFrom IsSo (Some time) = (now : ℕ) → IsSo now (nat_le time now)

-- the time from which on a slot is due
abbrev pub IsNextDue : SlotsState → (resend : ℕ) → Option ℕ → Type 0
IsNextDue table resend time = IsSoFrom (λ now. IsDue table now resend) time
