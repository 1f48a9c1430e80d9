-- A slot in range, and what stands at the beginning of its buffer.
use Rattle.std.proofs.Common.{ℕ, ◌≡◌, ◌<◌, ◌≤◌, ◌++◌, List, Some, length, take, inl, inr, arith}
use Rattle.std.proofs.lemmas.Grind.{common_steps}
use Rattle.std.proofs.lemmas.List.{take-take, take-append-le}
use Rattle.std.proofs.lemmas.Option.{slice_get_cases}
use Rattle.std.proofs.Math.Seq.{take-append_seam}
use Rattle.base_lists.specs.Cut.{count_at, total_of}
use Rattle.base_lists.proofs.Cut.{start-inside}
use Rattle.part_window.specs.TableState.{TableState, SlotState, slot_in, place_of, refill}

-- a slot in range is there
pub place-there : (table : TableState) (node slot : ℕ) → slot < count_at table.counts node
    → total_of table.counts ≡ length table.slots → (state : SlotState) × (slot_in table node slot ≡ Some state)
place-there table node slot inside whole =
    elim ((slice_get_cases table.slots (place_of table node slot)).1) [
      | inl known ↦ (
        known.0,
        known.2,
      )
      | inr known ↦ absurd (omega (arith, known.0, start-inside table.counts node slot inside, whole))
    ]

-- the first bytes of a buffer at whose prefix a message was written
pub refilled-prefix : (buffer message rest : List ℕ) → length message ≤ length buffer
    → take (length message) (refill buffer (message ++ rest)) ≡ message
refilled-prefix buffer message rest fits = grind (arith, common_steps, take-take, take-append-le, take-append_seam)
