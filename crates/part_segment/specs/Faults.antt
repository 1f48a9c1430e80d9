-- When a typed read or write is refused.
use Rattle.std.specs.Prelude.{◌≢◌, ℕ, ◌+◌, ◌%◌, ◌<◌, ◌≤◌}
use Rattle.part_segment.specs.declared.segment.TypedFault.{TypedFault}
use Rattle.part_segment.specs.declared.segment.TypedFault.TheVariants.{Outside, Unaligned}

-- of a value of `width` bytes at `offset` in `size` bytes: outside is told first
abbrev pub RefusesTyped : (size offset width : ℕ) → TypedFault → Type 0
RefusesTyped size offset width Outside = size < offset + width
RefusesTyped size offset width Unaligned = (offset + width ≤ size) × (offset % width ≢ 0)
