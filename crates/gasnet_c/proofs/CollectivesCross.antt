-- What C holds of collectives may go to another thread.
use Rattle.std.specs.Prelude.{Option, Some, None}
use base.Fraction.{full_share}
use base.Shift.{Keyless}
use denote.RattleType.{RattleType}
use denote.Exit.{Exit, unchanged, leaves, hidden, under}
use denote.RawPtr.{Ptr, block_ptr, null_ptr, lies_at}
use denote.Struct.Struct.{exits_of}
use denote.Struct.Owning.{shape, fields, to}
use denote.Param.Send.{IsSend, AllSend, Quiet, owning_send, part_keyless, struct_send, sendable}
use Rattle.std.proofs.Crossing.{frees}
use Rattle.node_collectives.specs.CollectivesState.{CollectivesState}
use Rattle.gasnet_c.specs.CollectivesHeld.{collectives_place_owns}
use Rattle.node_collectives.specs.contracts.collectives.Collectives as collectives
use Rattle.gasnet_c.specs.contracts.collectives_place.CollectivesPlace as slot
use Rattle.node_collectives.proofs.collectives.Collectives.TheSendSync.{the_send}

-- they may
collectives_send : IsSend collectives.the_row
collectives_send = the_send

lies : (R : RattleType) → IsSend R → (place : Ptr) (value : R.Denot) → Keyless (lies_at R full_share place value)
lies R s (block_ptr block offset) value = part_keyless R s full_share value block offset
lies R s null_ptr value = tt

quiet : {D X : Type 0} (to : D → X) (exit : Exit X) → Quiet exit → Quiet (hidden (under to exit))
quiet to unchanged q = λ x w. tt
quiet to (leaves L l S s r) q = λ d. q (to d)

-- what a slot owns names no key
slot_keyless : (at : Ptr) (held : Option CollectivesState) → Keyless (collectives_place_owns at held)
slot_keyless at None = tt
slot_keyless at (Some x) = (lies collectives.the_row collectives_send at x, frees.frees _ _ at)

pub slot_send : IsSend slot.the_row
slot_send =
    let O = slot.the_type in
    let all : AllSend (fields O) = (search sendable, tt) in
    owning_send O all (λ d. slot_keyless d.at d.held)
    (λ k. quiet (to O) (exits_of k (fields O)) ((struct_send (shape O) all).leaving k))
