-- A slot of a node has one entry, which no write of another one changes.
use Rattle.std.proofs.Common.{◌≡◌, inl, inr, ℕ, ◌+◌, ◌*◌, ◌/◌, ◌<◌, ◌&&◌, nat_lt, Option, refl, sym, ap}
use Rattle.std.proofs.Common.{List, length, set, slice_get}
use Rattle.std.proofs.Common.{◌∙◌, arith, lt-ltb}
use Rattle.std.proofs.lemmas.Bool.{cases_Bool, and_parts, ltb-true}
use Rattle.std.proofs.lemmas.Nat.{div-mul-add}
use Rattle.base_lists.proofs.Indexes.{get-set_same, get-set_other}
use Rattle.part_transfers.specs.declared.slots.Waiting.{Waiting}
use Rattle.part_transfers.specs.Table.{flat}
use Rattle.part_transfers.specs.ChunkSlots.{ChunkSlots, HasSet}

-- a place of the grid is that of one slot of one node
one_slot : (to slot node other width : ℕ) → slot < width → other < width → to * width + slot ≡ node * width + other
    → (to ≡ node) × (slot ≡ other)
one_slot to slot node other width within also same =
    let row : to ≡ node = sym (div-mul-add to width slot within)
    ∙ (ap (λ n. n / width) same ∙ div-mul-add node width other also) in
    let start : to * width ≡ node * width = ap (λ n. n * width) row in
    (row, omega (arith, same, start))

pub has_set : (slots : ChunkSlots) (to slot : ℕ) (entry : Option Waiting) (entries : List (Option Waiting))
    → to * slots.credits + slot < length entries
    → ((at : ℕ) → flat (slice_get entries at) ≡ flat (slice_get slots.entries at))
    → to < slots.nodes → slot < slots.credits
    → HasSet slots to slot entry (record slots { entries = set entries (to * slots.credits + slot) entry })
has_set slots to slot entry entries inside same to_in slot_in = record {
  nodes = refl;
  credits = refl;
  here = rw (lt-ltb to slots.nodes to_in, lt-ltb slot slots.credits slot_in)
      (ap flat (get-set_same entries (to * slots.credits + slot) entry inside));
  others = λ node other apart. elim (cases_Bool (nat_lt node slots.nodes && nat_lt other slots.credits)) [
    | inl among ↦
        rw among (ap flat
        (get-set_other entries (to * slots.credits + slot) entry (node * slots.credits + other) (λ is. (
        let within : other < slots.credits =
        ltb-true other slots.credits (and_parts (nat_lt node slots.nodes) (nat_lt other slots.credits) among).1 in
        let one = one_slot node other to slot slots.credits within slot_in is in
        apart one.0 one.1)))
        ∙ same (node * slots.credits + other))
    | inr outside ↦ rw outside refl
  ];
}
