-- What the notifies of n nodes say, combined, in plain words.
use Rattle.std.specs.Prelude.{◌≡◌, ◌≢◌, ◌↔◌, ◌⊎◌, ℕ, ◌<◌, ℤ, ◌≤ℤ◌, true, false, Some, None}
use Rattle.part_barrier.specs.declared.known.Combination.{Combination}
use Rattle.part_barrier.specs.declared.known.Notify.{Notify}
use Rattle.part_barrier.specs.Combinations.{Notifies, is_anonymous, is_mismatched, all_of}

-- one of the nodes gave this notify
abbrev pub IsGivenNotify : Notifies → (nodes : ℕ) → Notify → Type 0
IsGivenNotify notifies nodes notify = (node : ℕ) × (node < nodes) × (notifies node ≡ Some notify)

-- a notify has MISMATCH
abbrev pub HasMismatch : Notifies → (nodes : ℕ) → Type 0
HasMismatch notifies nodes =
    (notify : Notify) × IsGivenNotify notifies nodes notify × (is_mismatched notify.flags ≡ true)

-- a notify is named by this identifier
abbrev pub IsNamedBy : Notifies → (nodes : ℕ) → (id : ℤ) → Type 0
IsNamedBy notifies nodes id =
    (notify : Notify) × IsGivenNotify notifies nodes notify × (is_anonymous notify.flags ≡ false) × (notify.id ≡ id)

-- two named identifiers differ
abbrev pub HasClash : Notifies → (nodes : ℕ) → Type 0
HasClash notifies nodes =
    (id : ℤ) × (other : ℤ) × IsNamedBy notifies nodes id × IsNamedBy notifies nodes other × (id ≢ other)

pub record IsTogether (notifies : Notifies) (nodes : ℕ) (combined : Combination) : Type 0 where
  -- a mismatch exactly where a notify has MISMATCH or two named identifiers differ
  pub mismatch : (combined.mismatch ≡ true) ↔ (HasMismatch notifies nodes ⊎ HasClash notifies nodes)
  -- no identifier exactly where none is named, else the least one
  pub none : (combined.id ≡ None) ↔ ((id : ℤ) → IsNamedBy notifies nodes id → ⊥)
  pub some : (id : ℤ) → combined.id ≡ Some id
      → IsNamedBy notifies nodes id × ((other : ℤ) → IsNamedBy notifies nodes other → id ≤ℤ other)

abbrev pub AllTogether : Type 0
AllTogether = (notifies : Notifies) (nodes : ℕ) → IsTogether notifies nodes (all_of notifies nodes)
