-- A `&` to the bytes is made where one to an array of them is. Assumes `Logic`.
use Rattle.std.proofs.Common.{ℕ, ◌^◌, length}
use base.Fml.{Fml, Lft, flt}
use base.Fraction.{full_share}
use denote.Array.{Array, Array-row_laws}
use denote.Builtin.{u8}
use denote.Param.Shared.{Sharable, copy_shared}
use denote.RawPtr.{lies_at}
use denote.Shares.{Shares-Array}
use denote.Sharing.{said}
use denote.SharingLaws.{beside_shr_laws, said_shr_laws}
use denote.Struct.Field.{RawPtr-field, u8-field}
use denote.Struct.Laws.{RawPtr-copy, u8-copy}
use denote.Struct.Lending.{lent_at, lent_at_shr_laws, Lends-lies, Lends-said, Lends-both, of_Lends}
use Rattle.part_segment.specs.contracts.raw.Bytes as C
use Rattle.part_segment.proofs.raw.Bytes.TheLaw.Statement.{statement}

abbrev byte : Sharable u8-field
byte = copy_shared u8-field u8-copy

abbrev small : ℕ → Fml
small n = flt n (2 ^ 63)

pub shares : statement
shares = of_Lends C.struct C.the_codes C.the_heap C.the_lent
    (λ d p. let n = length d.items in
    beside_shr_laws (said (small n)) (lent_at (Array u8 n) d.at d.items) (said_shr_laws (small n) tt)
    (lent_at_shr_laws (Array u8 n) (Array-row_laws u8 byte.shr_laws n) d.at d.items))
    (copy_shared RawPtr-field RawPtr-copy, tt)
    (λ M 𝓤 𝓛 d p.
    let n = length d.items in let l : Lft = C.the_row.lives in
    Lends-both 𝓛 (small n) (lies_at (Array u8 n) full_share d.at d.items) (said (small n))
    (lent_at (Array u8 n) d.at d.items) l (Lends-said 𝓛 (small n) tt l)
    (Lends-lies 𝓛 (Array u8 n) l d.at d.items (Shares-Array 𝓛 u8 tt n l (byte.shares M 𝓤 𝓛) d.items)))
