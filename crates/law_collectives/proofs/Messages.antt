-- What the run of a message of collectives leaves.
use Rattle.std.proofs.Common.{◌≡◌, ◌⊎◌, inl, inr, ℕ, ◌+◌, ◌-◌, ◌*◌, ◌/◌, ◌%◌, ◌^◌, ◌<◌, ◌≤◌, List, [], ◌∷◌}
use Rattle.std.proofs.Common.{◌++◌, length, Option, refl, sym, ap, ◌∙◌, arith, append_assoc}
use Rattle.std.specs.Prelude.{◌≢◌, if◌then◌else◌}
use Rattle.std.specs.Int.{w64, to_le_bytes, from_le_bytes}
use Rattle.std.proofs.lemmas.List.Elements.{All-cons}
use Rattle.wire_message.specs.Parameters.{Parameters}
use Rattle.wire_message.specs.Content.{Content}
use Rattle.wire_message.proofs.Notified.{joined_again}
use Rattle.part_segment.specs.Bytes.{part}
use Rattle.part_segment.specs.Image.{Write, FitsIn, AllFit, overwritten, written_by}
use Rattle.part_segment.proofs.Images.{length-overwritten, length-image, all_fit-append, all_fit_one}
use Rattle.part_handlers.specs.declared.table.Entry.{Entry}
use Rattle.part_handlers.specs.declared.rules.Role.TheVariants as role
use Rattle.part_handlers.specs.Runs.{Frame, Start, Outcome, Meaning, after_return, nothing_done}
use Rattle.spec_node.specs.Behaviour.{Contact}
use Rattle.node_core.specs.Kept.{Local, IsKept, start_from, with_writes}
use Rattle.node_core.specs.Library.{is_library, library_outcome}
use Rattle.node_core.specs.HandlerRuns.{handlers_of, frame_of_run, landing, outcome, run_request, place_of}
use Rattle.part_collective_area.specs.Area.{Area, IsArea, part_place, data_place, stamp_in, word_in, data_in}
use Rattle.part_collective_area.specs.Served.{ServesCollectives, collective_content, collective_handler, header_arguments, header_at}
use Rattle.part_collective_area.specs.Served.{header_for, number_at, outcome_of_piece}
use Rattle.part_collective_area.proofs.Stamping.{header_is}
use Rattle.law_collectives.specs.Groups.{content_writes}
use Rattle.part_collective_area.specs.Area.{SpareArea}
use Rattle.part_collective_area.proofs.Places.{index_of, part_inside, parts_apart}
use Rattle.part_collective_area.proofs.Bytes.{AreApart, IsApart, number_written, part_spared, part_written, parts_spared}

-- ---- places

multiple : (i size : ℕ) → size % 8 ≡ 0 → i * size % 8 ≡ 0
multiple i size even =
    let eighth = size / 8 in
    let is : size ≡ 8 * eighth = omega (arith, even) in
    let product : i * size ≡ 8 * (i * eighth) = ap (λ (n : ℕ). i * n) is ∙ grind arith in
    omega (arith, product)

pub data_aligned : (size : ℕ) (area : Area) (parity node : ℕ) → IsArea size area → data_place area parity node % 8 ≡ 0
data_aligned size area parity node good =
    let base = good.base in
    let room = good.room in
    let whole : (16 + area.room) % 8 ≡ 0 = omega (arith, room) in
    let steps = multiple (index_of area parity node) (16 + area.room) whole in
    omega (arith, base, steps)

-- a part of an area in a segment of so many bytes
pub record IsPart (size : ℕ) (area : Area) (parity node : ℕ) : Type 0 where
  pub good : IsArea size area
  pub low : parity < 2
  pub there : node < area.nodes

pub data_inside : (size : ℕ) (area : Area) (parity node : ℕ) → IsPart size area parity node
    → data_place area parity node + area.room ≤ size
data_inside size area parity node it =
    let inside = part_inside area parity node it.low it.there in
    let whole = it.good.inside in
    omega (arith, inside, whole)

-- ---- what a message writes

-- data at its place, and stamp and shape before it
abbrev pub message_writes : Area → (parity node stamp shape : ℕ) → List ℕ → List Write
message_writes area parity node stamp shape bytes =
    record { offset = data_place area parity node; bytes = bytes } ∷ header_at (data_place area parity node) stamp shape

pub message_is : (size : ℕ) (area : Area) (parity node stamp shape : ℕ) (bytes : List ℕ)
    → IsPart size area parity node → stamp < 2 ^ 64 → shape < 2 ^ 64
    → content_writes size (collective_content stamp shape (data_place area parity node) bytes)
    ≡ message_writes area parity node stamp shape bytes
message_is size area parity node stamp shape bytes it stamp_small shape_small =
    let offset = data_place area parity node in
    let inside = data_inside size area parity node it in
    let first : Write = record { offset = offset; bytes = bytes } in
    ap (λ (header : List Write). first ∷ header)
    (header_is size (header_arguments stamp shape) offset refl (omega arith)
    (data_aligned size area parity node it.good) (omega (arith, inside))
    ∙ (ap (λ (number : ℕ). header_at offset number (number_at (header_arguments stamp shape) 2))
    (joined_again stamp stamp_small)
    ∙ ap (λ (number : ℕ). header_at offset stamp number) (joined_again shape shape_small)))

-- they fit
pub message_fits : (size : ℕ) (area : Area) (parity node stamp shape : ℕ) (bytes : List ℕ)
    → IsPart size area parity node → length bytes ≤ area.room
    → AllFit size (message_writes area parity node stamp shape bytes)
message_fits size area parity node stamp shape bytes it few =
    let inside = data_inside size area parity node it in
    let offset = data_place area parity node in
    let first : Write = record { offset = offset; bytes = bytes } in
    let second : Write = record { offset = offset - 16; bytes = to_le_bytes w64 stamp } in
    let third : Write = record { offset = offset - 8; bytes = to_le_bytes w64 shape } in
    let first_fits : FitsIn size first = omega (arith, inside, few) in
    let second_fits : FitsIn size second = omega (arith, inside) in
    let third_fits : FitsIn size third = omega (arith, inside) in
    All-cons (FitsIn size) first (second ∷ third ∷ []) first_fits
    (All-cons (FitsIn size) second (third ∷ []) second_fits (all_fit_one size third third_fits))

-- ---- what stands then

-- this stands in a part
pub record Stands (segment : List ℕ) (area : Area) (parity node stamp shape : ℕ) (bytes : List ℕ) : Type 0 where
  pub stamp_is : stamp_in segment area parity node ≡ stamp
  pub shape_is : word_in segment area parity node ≡ shape
  pub bytes_are : data_in segment area parity node (length bytes) ≡ bytes

pub message_stands : (size : ℕ) (segment : List ℕ) (area : Area) (parity node stamp shape : ℕ) (bytes : List ℕ)
    → length segment ≡ size → IsPart size area parity node → length bytes ≤ area.room → stamp < 2 ^ 64
    → shape < 2 ^ 64
    → Stands (written_by segment (message_writes area parity node stamp shape bytes)) area parity node stamp shape
    bytes
message_stands size segment area parity node stamp shape bytes long it few stamp_small shape_small =
    let place = part_place area parity node in
    let offset = data_place area parity node in
    let inside = data_inside size area parity node it in
    let first : Write = record { offset = offset; bytes = bytes } in
    let second : Write = record { offset = offset - 16; bytes = to_le_bytes w64 stamp } in
    let third : Write = record { offset = offset - 8; bytes = to_le_bytes w64 shape } in
    let one = overwritten segment first in
    let two = overwritten one second in
    let first_fits : FitsIn (length segment) first = omega (arith, inside, few, long) in
    let long_one : length one ≡ size = length-overwritten segment first first_fits ∙ long in
    let second_fits : FitsIn (length one) second = omega (arith, inside, long_one) in
    let long_two : length two ≡ size = length-overwritten one second second_fits ∙ long_one in
    let third_fits : FitsIn (length two) third = omega (arith, inside, long_two) in
    let stamp_place : offset - 16 ≡ place = omega arith in
    let shape_place : offset - 8 ≡ place + 8 = omega arith in
    let stamp_apart : IsApart third place 8 = inr (inr (omega arith)) in
    let data_apart_third : IsApart third offset (length bytes) = inr (inl (omega arith)) in
    let data_apart_second : IsApart second offset (length bytes) = inr (inl (omega arith)) in
    record {
      stamp_is = ap (from_le_bytes w64) (part_spared two third place 8 third_fits stamp_apart)
          ∙ (ap (λ (at : ℕ). from_le_bytes w64 (part two at 8)) (sym stamp_place)
          ∙ number_written one (offset - 16) stamp (omega (arith, second_fits)) stamp_small);
      shape_is = ap (λ (at : ℕ). from_le_bytes w64 (part (overwritten two third) at 8)) (sym shape_place)
          ∙ number_written two (offset - 8) shape (omega (arith, third_fits)) shape_small;
      bytes_are = part_spared two third offset (length bytes) third_fits data_apart_third
          ∙ (part_spared one second offset (length bytes) second_fits data_apart_second
          ∙ part_written segment bytes offset first_fits);
    }

-- a part that such writes leave alone is as it was
pub record Untouched (now before : List ℕ) (area : Area) (parity node : ℕ) : Type 0 where
  pub stamp : stamp_in now area parity node ≡ stamp_in before area parity node
  pub shape : word_in now area parity node ≡ word_in before area parity node
  pub bytes : (len : ℕ) → len ≤ area.room → data_in now area parity node len ≡ data_in before area parity node len

-- writes none of which has a byte of the part
pub record AreOutside (writes : List Write) (area : Area) (parity node : ℕ) : Type 0 where
  pub all : (offset len : ℕ) → part_place area parity node ≤ offset
      → offset + len ≤ part_place area parity node + (16 + area.room) → AreApart writes offset len

pub outside_untouched : (size : ℕ) (segment : List ℕ) (writes : List Write) (area : Area) (parity node : ℕ)
    → length segment ≡ size → AllFit size writes → AreOutside writes area parity node
    → Untouched (written_by segment writes) segment area parity node
outside_untouched size segment writes area parity node long fit outside = record {
  stamp = ap (from_le_bytes w64) (parts_spared size segment writes (part_place area parity node) 8 long fit
      (outside.all (part_place area parity node) 8 (omega arith) (omega arith)));
  shape = ap (from_le_bytes w64) (parts_spared size segment writes (part_place area parity node + 8) 8 long fit
      (outside.all (part_place area parity node + 8) 8 (omega arith) (omega arith)));
  bytes = λ len few. parts_spared size segment writes (data_place area parity node) len long fit
      (outside.all (data_place area parity node) len (omega arith) (omega (arith, few)));
}

-- a message to another part does
pub message_outside : (size : ℕ) (area : Area) (parity node other_parity other stamp shape : ℕ) (bytes : List ℕ)
    → IsPart size area parity node → IsPart size area other_parity other → length bytes ≤ area.room
    → (parity ≢ other_parity) ⊎ (node ≢ other)
    → AreOutside (message_writes area parity node stamp shape bytes) area other_parity other
message_outside size area parity node other_parity other stamp shape bytes it that few differ = record {
  all = λ offset len from to.
      elim (parts_apart area parity node other_parity other it.low that.low it.there that.there differ) [
        | inl before ↦ (
          inr (inl (omega (arith, before, from, few))),
          (inr (inl (omega (arith, before, from))), (inr (inl (omega (arith, before, from))), tt)),
        )
        | inr behind ↦ (
          inr (inr (omega (arith, behind, to))),
          (inr (inr (omega (arith, behind, to))), (inr (inr (omega (arith, behind, to))), tt)),
        )
      ];
}

-- writes that spare the area do
pub spare_outside : (size : ℕ) (area : Area) (parity node : ℕ) (writes : List Write) → IsPart size area parity node
    → SpareArea area writes → AreOutside writes area parity node
spare_outside size area parity node writes it spare = record {
  all = λ offset len from to. each writes spare offset len from to;
}
  where
    each : (list : List Write) → SpareArea area list → (offset len : ℕ) → part_place area parity node ≤ offset
        → offset + len ≤ part_place area parity node + (16 + area.room) → AreApart list offset len
    each [] spare offset len from to = tt
    each (write ∷ later) spare offset len from to = (
      elim spare.0 [
        | inl none ↦ inl none
        | inr side ↦ elim side [
          | inl before ↦ inr (inl (omega (arith, before, from)))
          | inr behind ↦ (
              let inside = part_inside area parity node it.low it.there in
              inr (inr (omega (arith, behind, to, inside))))
        ]
      ],
      each later spare.1 offset len from to,
    )

-- two lists of writes outside are
pub apart_both : (first second : List Write) (offset len : ℕ) → AreApart first offset len → AreApart second offset len
    → AreApart (first ++ second) offset len
apart_both [] second offset len one other = other
apart_both (write ∷ first) second offset len one other = (one.0, apart_both first second offset len one.1 other)

pub both_outside : (first second : List Write) (area : Area) (parity node : ℕ) → AreOutside first area parity node
    → AreOutside second area parity node → AreOutside (first ++ second) area parity node
both_outside first second area parity node one other = record {
  all = λ offset len from to.
      apart_both first second offset len (one.all offset len from to) (other.all offset len from to);
}

-- ---- the run

-- what is left where a message of collectives runs
pub collective_left : (settings : Parameters) (table : List (Option Entry)) (meaning : Meaning) (contact : Contact)
    (content : Content) (me : ℕ) (local : Local) → ServesCollectives meaning → content.handler ≡ collective_handler
    → AllFit settings.segment (landing content) → IsKept settings me local
    → (run_request (handlers_of settings table meaning) contact content local).0.writes
    ≡ local.writes ++ content_writes settings.segment content
collective_left settings table meaning contact content me local serves handler fit kept =
    let handlers = handlers_of settings table meaning in
    let frame = frame_of_run handlers role.Request contact content in
    let landed = with_writes local (landing content) in
    let start = start_from settings landed in
    let long : length start.segment ≡ settings.segment = length-image settings.segment landed.writes
    (all_fit-append settings.segment local.writes (landing content) kept.writes fit) in
    let header = λ (len : ℕ). header_for len content.args (place_of content) in
    let run : outcome handlers role.Request contact content start ≡ after_return frame (outcome_of_piece frame start (nothing_done start))
    = client content.handler frame start handler ∙ ap (after_return frame) (serves frame start) in
    ap (λ (o : Outcome). landed.writes ++ o.writes) run
    ∙ (ap (λ (len : ℕ). landed.writes ++ header len) long
    ∙ (append_assoc local.writes (landing content) (header settings.segment)
    ∙ ap (λ (writes : List Write). local.writes ++ writes) (sym (by_handler content handler))))
  where
    client : (index : ℕ) (frame : Frame) (at : Start) → index ≡ collective_handler
        → (if is_library index then library_outcome content at else after_return frame (meaning index frame at))
        ≡ after_return frame (meaning collective_handler frame at)
    client index frame at is = rw is refl

    by_handler : (content : Content) → content.handler ≡ collective_handler
        → content_writes settings.segment content
        ≡ landing content ++ header_for settings.segment content.args (place_of content)
    by_handler content is = rw is refl
