-- Notifies of one phase, combined.
use Rattle.std.specs.Prelude.{ℕ, zero, suc, ◌+◌, ℤ, pos, Bool, false, not, ◌||◌}
use Rattle.std.specs.Prelude.{Option, Some, None, unwrap_or, is_none, if◌then◌else◌}
use Rattle.std.specs.Int.{int_min}
use Rattle.std.specs.Ordering.{int_eq}
use Rattle.part_barrier.specs.declared.known.Combination.{Combination}
use Rattle.part_barrier.specs.declared.known.Notify.{Notify}
use Rattle.part_barrier.specs.Masks.{has}

-- ---- flags: 1 is ANONYMOUS, 2 is MISMATCH

abbrev pub is_anonymous : (flags : ℕ) → Bool
is_anonymous flags = has flags 0

abbrev pub is_mismatched : (flags : ℕ) → Bool
is_mismatched flags = has flags 1

-- ---- several notifies: whether they are a mismatch, and the least identifier that is named

-- none
abbrev pub no_notify : Combination
no_notify = record { mismatch = false; id = None }

-- one, which is named where it isn't anonymous
abbrev pub one_notify : (id : ℤ) → (flags : ℕ) → Combination
one_notify id flags =
    record { mismatch = is_mismatched flags; id = if is_anonymous flags then None else Some id }

-- both are named, by different identifiers
abbrev pub differ : (first second : Option ℤ) → Bool
differ None second = false
differ (Some id) None = false
differ (Some id) (Some other) = not (int_eq id other)

abbrev pub least : (first second : Option ℤ) → Option ℤ
least None second = second
least (Some id) None = Some id
least (Some id) (Some other) = Some (int_min id other)

-- two combinations, combined
abbrev pub combine : (first second : Combination) → Combination
combine first second =
    record {
      mismatch = first.mismatch || second.mismatch || differ first.id second.id;
      id = least first.id second.id;
    }

-- ---- written as one notify

-- the least named identifier, or 0 where none is named
abbrev pub combined_id : Combination → ℤ
combined_id combined = unwrap_or combined.id (pos 0)

-- ANONYMOUS where all are, and MISMATCH where they are one
abbrev pub combined_flags : Combination → ℕ
combined_flags combined = (if is_none combined.id then 1 else 0) + (if combined.mismatch then 2 else 0)

-- ---- of many nodes

-- what each node notified, if it did
abbrev pub Notifies : Type 0
Notifies = (node : ℕ) → Option Notify

-- what one node notified
abbrev pub notified_by : Option Notify → Combination
notified_by None = no_notify
notified_by (Some notify) = one_notify notify.id notify.flags

-- what the nodes below this one notified
abbrev pub all_of : Notifies → (nodes : ℕ) → Combination
all_of notifies zero = no_notify
all_of notifies (suc node) = combine (all_of notifies node) (notified_by (notifies node))

-- the notifies of the nodes in a mask
abbrev pub among : (mask : ℕ) → Notifies → Notifies
among mask notifies node = if has mask node then notifies node else None
