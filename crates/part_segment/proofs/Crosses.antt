-- Raw bytes, and the right to give them back, may go to another thread.
use Rattle.std.specs.Prelude.{ℕ, List, length}
use base.Fraction.{full_share}
use base.Shift.{Keyless}
use denote.Array.{Array}
use denote.Builtin.{u8}
use denote.RattleType.{RattleType}
use denote.Exit.{Exit, unchanged, leaves, hidden, under}
use denote.RawPtr.{Ptr, block_ptr, null_ptr, lies_at}
use denote.Struct.Struct.{exits_of}
use denote.Struct.Owning.{shape, fields, to}
use denote.Param.Send.{IsSend, AllSend, Frees, Quiet, array_send, owning_send, part_keyless, struct_send, sendable}
use Rattle.std.specs.declared.alloc.Allocator.{Ghosts}
use Rattle.part_segment.specs.Ownership.{bytes_own}
use Rattle.part_segment.specs.contracts.raw.Bytes as Bytes
use Rattle.part_segment.specs.contracts.raw.Lease as Lease

lies : (R : RattleType) → IsSend R → (place : Ptr) (value : R.Denot) → Keyless (lies_at R full_share place value)
lies R s (block_ptr block offset) value = part_keyless R s full_share value block offset
lies R s null_ptr value = tt

quiet : {D X : Type 0} (to : D → X) (exit : Exit X) → Quiet exit → Quiet (hidden (under to exit))
quiet to unchanged q = λ x w. tt
quiet to (leaves L l S s r) q = λ d. q (to d)

byte_send : IsSend u8
byte_send = search sendable

-- what they own names no key
bytes_keyless : (place : Ptr) (bytes : List ℕ) → Keyless (bytes_own place bytes)
bytes_keyless place bytes =
    (tt, lies (Array u8 (length bytes)) (array_send u8 (length bytes) byte_send) place bytes)

pub Bytes-send : IsSend Bytes.the_row
Bytes-send =
    let O = Bytes.the_type in
    let all : AllSend (fields O) = (search sendable, tt) in
    owning_send O all (λ d. bytes_keyless d.at d.items)
    (λ k. quiet (to O) (exits_of k (fields O)) ((struct_send (shape O) all).leaving k))

module _ (A : RattleType) (g : Ghosts A.Denot) where
  pub Lease-send : IsSend A → Frees g g.dealloc_token → IsSend (Lease.the_row A g)
  Lease-send s f =
      let O = Lease.the_type A g in
      let all : AllSend (fields O) = (search sendable, tt) in
      owning_send O all (λ d. f.frees d.alloc _ d.at)
      (λ k. quiet (to O) (exits_of k (fields O)) ((struct_send (shape O) all).leaving k))
