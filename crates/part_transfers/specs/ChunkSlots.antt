-- An entry for each slot of each node.
use Rattle.std.specs.Prelude.{ℕ, ◌≡◌, ◌+◌, ◌*◌, ◌&&◌, nat_lt, if◌then◌else◌, List, Option, None, slice_get}
use Rattle.part_transfers.specs.declared.slots.Waiting.{Waiting}
use Rattle.part_transfers.specs.Table.{flat}

-- the entries of one node's slots after another's; each node has `credits` of them
pub record ChunkSlots : Type 0 where
  pub nodes : ℕ
  pub credits : ℕ
  pub entries : List (Option Waiting)

-- the entry of a slot of a node; there is none elsewhere
abbrev pub entry_at : ChunkSlots → (to slot : ℕ) → Option Waiting
entry_at slots to slot =
    if nat_lt to slots.nodes && nat_lt slot slots.credits
    then flat (slice_get slots.entries (to * slots.credits + slot)) else None

-- the entry of this slot of this node is that, and each other one is what it was
pub record HasSet (old : ChunkSlots) (to slot : ℕ) (entry : Option Waiting) (new : ChunkSlots) : Type 0 where
  pub nodes : new.nodes ≡ old.nodes
  pub credits : new.credits ≡ old.credits
  pub here : entry_at new to slot ≡ entry
  pub others : (node other : ℕ) → (node ≡ to → other ≡ slot → ⊥) → entry_at new node other ≡ entry_at old node other
