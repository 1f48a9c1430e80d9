-- The parts of an area stand apart from one another.
use Rattle.std.proofs.Common.{◌≡◌, ◌⊎◌, inl, inr, ℕ, zero, suc, ◌+◌, ◌*◌, ◌<◌, ◌≤◌, refl, subst, arith}
use Rattle.std.specs.Prelude.{◌≢◌}
use Rattle.std.proofs.lemmas.Bool.{cases_lt}
use Rattle.std.proofs.Math.Nat.{mul-le-mul_right}
use Rattle.part_collective_area.specs.Area.{Area, part_place, area_end}

-- the product of the next number
mul_next : (i size : ℕ) → (i + 1) * size ≡ i * size + size
mul_next i size = grind arith

-- steps of one size that follow one another
pub steps_apart : (i j size : ℕ) → i < j → i * size + size ≤ j * size
steps_apart i j size low =
    let next : i + 1 ≤ j = omega (arith, low) in
    let more : (i + 1) * size ≤ j * size = mul-le-mul_right size next in
    subst (λ (n : ℕ). n ≤ j * size) (mul_next i size) more

-- the place of a part among all of them
abbrev pub index_of : Area → (parity node : ℕ) → ℕ
index_of area parity node = parity * area.nodes + node

-- different parts have different places
pub index_apart : (nodes parity node other_parity other : ℕ) → parity < 2 → other_parity < 2 → node < nodes
    → other < nodes → (parity ≢ other_parity) ⊎ (node ≢ other)
    → parity * nodes + node ≢ other_parity * nodes + other
index_apart nodes zero node zero other low other_low inside other_inside apart same =
    by_node apart
  where
    by_node : (zero ≢ zero) ⊎ (node ≢ other) → ⊥
    by_node (inl differ) = differ refl
    by_node (inr differ) = differ (grind arith)
index_apart nodes zero node (suc zero) other low other_low inside other_inside apart same =
    grind (arith, same, inside)
index_apart nodes (suc zero) node zero other low other_low inside other_inside apart same =
    grind (arith, same, other_inside)
index_apart nodes (suc zero) node (suc zero) other low other_low inside other_inside apart same =
    by_node apart
  where
    by_node : (suc zero ≢ suc zero) ⊎ (node ≢ other) → ⊥
    by_node (inl differ) = differ refl
    by_node (inr differ) = differ (grind arith)
index_apart nodes (suc (suc parity)) node other_parity other low other_low inside other_inside apart same =
    absurd (omega (arith, low))
index_apart nodes parity node (suc (suc other_parity)) other low other_low inside other_inside apart same =
    absurd (omega (arith, other_low))

-- the index of a part is below twice the nodes
pub index_below : (nodes parity node : ℕ) → parity < 2 → node < nodes → parity * nodes + node < 2 * nodes
index_below nodes zero node low inside = grind (arith, inside)
index_below nodes (suc zero) node low inside = grind (arith, inside)
index_below nodes (suc (suc parity)) node low inside = absurd (omega (arith, low))

-- two parts share no byte
pub parts_apart : (area : Area) (parity node other_parity other : ℕ) → parity < 2 → other_parity < 2
    → node < area.nodes → other < area.nodes → (parity ≢ other_parity) ⊎ (node ≢ other)
    → (part_place area parity node + (16 + area.room) ≤ part_place area other_parity other)
    ⊎ (part_place area other_parity other + (16 + area.room) ≤ part_place area parity node)
parts_apart area parity node other_parity other low other_low inside other_inside apart =
    let size = 16 + area.room in
    let i = index_of area parity node in
    let j = index_of area other_parity other in
    let differ = index_apart area.nodes parity node other_parity other low other_low inside other_inside apart in
    elim (cases_lt i j) [
      | inl before ↦ inl (let steps = steps_apart i j size before in omega (arith, steps))
      | inr not_before ↦ (
          let behind : j < i = omega (arith, not_before, differ) in
          inr (let steps = steps_apart j i size behind in omega (arith, steps)))
    ]

-- a part lies inside the area
pub part_inside : (area : Area) (parity node : ℕ) → parity < 2 → node < area.nodes
    → part_place area parity node + (16 + area.room) ≤ area_end area
part_inside area parity node low inside =
    let steps = steps_apart (index_of area parity node) (2 * area.nodes) (16 + area.room)
    (index_below area.nodes parity node low inside) in
    omega (arith, steps)
