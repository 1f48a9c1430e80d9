-- Where the parts of collectives stand in each segment, and what stands in one (this project's profile).
use Rattle.std.specs.Prelude.{ℕ, ◌≡◌, ◌⊎◌, ◌+◌, ◌*◌, ◌%◌, ◌≤◌, List, [], length}
use Rattle.std.specs.List.{AllByRecursion}
use Rattle.std.specs.Int.{w64, from_le_bytes}
use Rattle.part_segment.specs.Bytes.{part}
use Rattle.part_segment.specs.Image.{Write}
use Rattle.wire_message.specs.declared.limits.TheConstants.{MAX_PAYLOAD}

-- how many nodes there are, where the area begins in each segment, and the room for data of each part
pub record Area : Type 0 where
  pub nodes : ℕ
  pub base : ℕ
  pub room : ℕ

-- where the part of a node begins, of the phases with this remainder by 2
abbrev pub part_place : Area → (parity node : ℕ) → ℕ
part_place area parity node = area.base + (parity * area.nodes + node) * (16 + area.room)

-- where its data does
abbrev pub data_place : Area → (parity node : ℕ) → ℕ
data_place area parity node = part_place area parity node + 16

-- where the area ends
abbrev pub area_end : Area → ℕ
area_end area = area.base + 2 * area.nodes * (16 + area.room)

-- an area in segments of so many bytes
pub record IsArea (segment : ℕ) (area : Area) : Type 0 where
  pub base : area.base % 8 ≡ 0
  pub room : area.room % 8 ≡ 0
  pub some_room : 1 ≤ area.room
  pub small : area.room ≤ MAX_PAYLOAD
  pub inside : area_end area ≤ segment

-- ---- what stands in a part

-- its stamp: 1 more than the phase; 0 where nothing came
abbrev pub stamp_in : List ℕ → Area → (parity node : ℕ) → ℕ
stamp_in segment area parity node = from_le_bytes w64 (part segment (part_place area parity node) 8)

-- the word of the shape
abbrev pub word_in : List ℕ → Area → (parity node : ℕ) → ℕ
word_in segment area parity node = from_le_bytes w64 (part segment (part_place area parity node + 8) 8)

-- the first so many bytes of data
abbrev pub data_in : List ℕ → Area → (parity node len : ℕ) → List ℕ
data_in segment area parity node len = part segment (data_place area parity node) len

-- ---- writes beside it

-- the write has no byte of the area
abbrev pub SparesArea : Area → Write → Type 0
SparesArea area write =
    (write.bytes ≡ []) ⊎ ((write.offset + length write.bytes ≤ area.base) ⊎ (area_end area ≤ write.offset))

-- none of these writes has
abbrev pub SpareArea : Area → List Write → Type 0
SpareArea area writes = AllByRecursion (SparesArea area) writes
