-- The area of collectives that a job has.
use Rattle.std.specs.Prelude.{ℕ, ◌%◌, ◌≡◌, Bool, ◌&&◌, ◌==◌, nat_le, Option, Some, None}
use Rattle.part_collective_area.specs.Area.{Area, IsArea, area_end}
use Rattle.wire_message.specs.Parameters.{Parameters}
use Rattle.text_job.specs.declared.job.CollectArea.{CollectArea}
use Rattle.wire_message.specs.declared.limits.TheConstants.{MAX_PAYLOAD}

-- the area in a job of so many nodes
abbrev pub area_of : (nodes : ℕ) → CollectArea → Area
area_of nodes at = record { nodes = nodes; base = at.base; room = at.room }

-- whether segments of so many bytes have the area
abbrev pub is_area : (segment : ℕ) → Area → Bool
is_area segment area =
    ((area.base % 8 == 0) && (area.room % 8 == 0)) && ((nat_le 1 area.room && nat_le area.room MAX_PAYLOAD)
    && nat_le (area_end area) segment)

-- a job of these settings may have it: the datagrams have the second version, and the segments have the area
pub record IsCollect (settings : Parameters) (at : CollectArea) : Type 0 where
  pub second : settings.version ≡ 2
  pub area : IsArea settings.segment (area_of settings.nodes at)

-- an area, where there is one
abbrev pub IsCollectOrNone : Parameters → Option CollectArea → Type 0
IsCollectOrNone settings None = Unit {0}
IsCollectOrNone settings (Some at) = IsCollect settings at
