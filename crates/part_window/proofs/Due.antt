-- What is due, by single slots.
use Rattle.std.proofs.Common.{ℕ, ◌≡◌, ◌≤◌, ◌+◌, Option, Some, None, true, false, cond, leb, arith, refl, ap}
use Rattle.std.proofs.Common.{◌∙◌, List}
use Rattle.std.specs.Prelude.{option_and_then}
use Rattle.std.specs.Option.{option_map}
use Rattle.base_lists.proofs.Update.{sum_by-update_same}
use Rattle.part_window.proofs.CreditCounts.{taken}
use Rattle.part_window.proofs.CreditLookups.{slot_at-changed}
use borrow.Author.Tests.{leb-true, le-leb}
use Rattle.part_window.specs.SlotsState.{SlotState, SlotsState, Vacant, Opened, Committed, slot_at, held_count}
use Rattle.part_window.specs.SlotsState.{taken_count, with_slot_in, with_slot_changed}
use Rattle.part_window.specs.Due.{as_retransmitted, due_time, due_at}

-- a slot that is due has a message, which was last sent at that time
pub due_at-as_committed : (table : SlotsState) (now resend to k time : ℕ) → due_at table now resend to k ≡ Some time
    → (number : ℕ) × (message : List ℕ) × (slot_at table to k ≡ Some (Committed number time message))
    × (time + resend ≤ now)
due_at-as_committed table now resend to k time e = at (slot_at table to k) refl e where
  at : (o : Option SlotState) → slot_at table to k ≡ o → option_and_then (due_time now resend) o ≡ Some time
      → (number : ℕ) × (message : List ℕ) × (slot_at table to k ≡ Some (Committed number time message))
      × (time + resend ≤ now)
  at None is d = absurd cc
  at (Some Vacant) is d = absurd cc
  at (Some (Opened number sent buffer)) is d = absurd cc
  at (Some (Committed number sent message)) is d =
      elim (leb (sent + resend) now) as
      (λ b. leb (sent + resend) now ≡ b → cond b (Some sent) None ≡ Some time → (number : ℕ) × (message : List ℕ) ×
      (slot_at table to k ≡ Some (Committed number time message)) × (time + resend ≤ now)) [
        | true ↦
            λ le q. let same : sent ≡ time = cc in (
              number,
              message,
              is
                  ∙ ap (λ (u : ℕ). Some (Committed number u message)) same,
              let low : sent + resend ≤ now = leb-true
                  (sent + resend) now le in omega arith,
            )
        | false ↦ λ gt q. absurd cc
      ] refl d

-- a message that was last sent `resend` or more before now is due
pub due_at-of_committed : (table : SlotsState) (now resend to k number time : ℕ) (message : List ℕ)
    → slot_at table to k ≡ Some (Committed number time message) → time + resend ≤ now
    → due_at table now resend to k ≡ Some time
due_at-of_committed table now resend to k number time message at low = rw (at, le-leb (time + resend) now low) refl

-- the slot that was sent again, where it had a message
pub slot_at-as_retransmitted : (table : SlotsState) (to k now number time : ℕ) (message : List ℕ)
    → slot_at table to k ≡ Some (Committed number time message)
    → slot_at (with_slot_changed table to k (as_retransmitted now)) to k ≡ Some (Committed number now message)
slot_at-as_retransmitted table to k now number time message at =
    slot_at-changed table to k (as_retransmitted now) ∙ ap (option_map (as_retransmitted now)) at

-- a slot that is sent again stays taken, or vacant
pub held_count-as_retransmitted : (table : SlotsState) (to k now : ℕ)
    → held_count (with_slot_changed table to k (as_retransmitted now)) ≡ held_count table
held_count-as_retransmitted table to k now =
    sum_by-update_same taken_count table.peers to (λ peer. with_slot_in peer k (as_retransmitted now))
    (λ peer. sum_by-update_same taken peer.slots k (as_retransmitted now) same) where
      same : (s : SlotState) → taken (as_retransmitted now s) ≡ taken s
      same Vacant = refl
      same (Opened number time buffer) = refl
      same (Committed number time message) = refl
