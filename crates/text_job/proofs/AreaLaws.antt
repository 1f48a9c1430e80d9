-- The test of an area says whether segments have it.
use Rattle.std.proofs.Common.{◌≡◌, ◌∙◌, ℕ, ◌+◌, ◌*◌, ◌-◌, ◌%◌, ◌≤◌, ◌<◌, ◌^◌, ◌&&◌, Bool, true, false, leb, eqb, refl}
use Rattle.std.proofs.Common.{sym, arith}
use Rattle.std.proofs.lemmas.Bool.{and_parts, and_from, leb-true, leb-false, le-leb, lt-leb, eqb-true, eq-eqb}
use Rattle.part_collective_area.specs.Area.{Area, IsArea, area_end}
use Rattle.wire_message.specs.Parameters.{Parameters}
use Rattle.text_job.specs.CollectAreas.{area_of, is_area, IsCollect}
use Rattle.text_job.specs.Places.{collect_fits}
use Rattle.text_calls.specs.Versions.{is_second}
use Rattle.text_job.specs.declared.job.CollectArea.{CollectArea}
use Rattle.text_calls.specs.declared.scope.Scope.{Scope}

-- what passes the test is an area
area_by : (segment : ℕ) (area : Area) → is_area segment area ≡ true → IsArea segment area
area_by segment area h =
    let places = eqb (area.base % 8) 0 && eqb (area.room % 8) 0 in
    let sizes = leb 1 area.room && leb area.room 8192 in
    let all = and_parts places (sizes && leb (area_end area) segment) h in
    let aligned = and_parts (eqb (area.base % 8) 0) (eqb (area.room % 8) 0) all.0 in
    let rest = and_parts sizes (leb (area_end area) segment) all.1 in
    let room = and_parts (leb 1 area.room) (leb area.room 8192) rest.0 in
    record {
      base = eqb-true (area.base % 8) 0 aligned.0;
      room = eqb-true (area.room % 8) 0 aligned.1;
      some_room = leb-true 1 area.room room.0;
      small = leb-true area.room 8192 room.1;
      inside = leb-true (area_end area) segment rest.1;
    }

-- and the other way round
area_passes : (segment : ℕ) (area : Area) → IsArea segment area → is_area segment area ≡ true
area_passes segment area is =
    and_from _ _
    (and_from _ _ (eq-eqb (area.base % 8) 0 is.base) (eq-eqb (area.room % 8) 0 is.room))
    (and_from _ _
    (and_from _ _ (le-leb 1 area.room is.some_room) (le-leb area.room 8192 is.small))
    (le-leb (area_end area) segment is.inside))

-- what may stand in a job
pub collect_is : (scope : Scope) (at : CollectArea) → collect_fits scope at ≡ true → IsCollect scope.settings at
collect_is scope at h =
    let area = area_of scope.settings.nodes at in
    let parts = and_parts (is_second scope) (is_area scope.settings.segment area) h in
    record {
      second = eqb-true scope.settings.version 2 parts.0;
      area = area_by scope.settings.segment area parts.1;
    }

pub collect_passes : (scope : Scope) (at : CollectArea) → IsCollect scope.settings at → collect_fits scope at ≡ true
collect_passes scope at is =
    and_from _ _ (eq-eqb scope.settings.version 2 is.second)
    (area_passes scope.settings.segment (area_of scope.settings.nodes at) is.area)

-- its numbers have 64 bits
pub collect_said : (settings : Parameters) (at : CollectArea) → settings.segment ≤ 67108864 → IsCollect settings at
    → (at.base < 2 ^ 64) × (at.room < 2 ^ 64)
collect_said settings at few is =
    let inside = is.area.inside in
    let small = is.area.small in
    (low (2 * settings.nodes * (16 + at.room)) inside, omega (arith, small))
  where
    low : (size : ℕ) → at.base + size ≤ settings.segment → at.base < 2 ^ 64
    low size h = omega (arith, h, few)

-- ---- so many bytes behind an offset, where a segment has so many, and where it has fewer

pub moved : (base size segment : ℕ) → size ≤ segment → leb base (segment - size) ≡ leb (base + size) segment
moved base size segment fits = by_test (leb base (segment - size)) refl
  where
    by_test : (b : Bool) → leb base (segment - size) ≡ b → leb base (segment - size) ≡ leb (base + size) segment
    by_test true e =
        let le = leb-true base (segment - size) e in
        e ∙ sym (le-leb (base + size) segment (omega (arith, le, fits)))
    by_test false e =
        let gt = leb-false base (segment - size) e in
        e ∙ sym (lt-leb (base + size) segment (omega (arith, gt, fits)))

pub beyond : (base size segment : ℕ) → segment < size → leb (base + size) segment ≡ false
beyond base size segment lt = lt-leb (base + size) segment (omega (arith, lt))
