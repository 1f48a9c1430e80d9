-- What the bytes of a raw allocation own and lend.
use Rattle.std.specs.Prelude.{ℕ, ◌^◌, List, length}
use base.Fml.{Fml, Lft, fsep, flt}
use base.Fraction.{full_share}
use mir.Syntax.{Ty, w8, ty_int, ty_array}
use denote.Array.{Array}
use denote.Builtin.{u8}
use denote.RawPtr.{Ptr, lies_at}
use denote.Sharing.{said, beside}
use denote.Struct.Lending.{lent_at}

-- the bytes lie at `place`, and are no more than an allocation can have
abbrev pub bytes_own : (place : Ptr) → List ℕ → Fml
bytes_own place bytes = fsep (flt (length bytes) (2 ^ 63)) (lies_at (Array u8 (length bytes)) full_share place bytes)

-- the same while they are shared
abbrev pub bytes_shared : (place : Ptr) → List ℕ → Lft → Fml
bytes_shared place bytes =
    beside (said (flt (length bytes) (2 ^ 63))) (lent_at (Array u8 (length bytes)) place bytes)

-- the type of an allocation of `len` bytes
abbrev pub bytes_type : (len : ℕ) → Ty
bytes_type len = ty_array (ty_int w8) len
