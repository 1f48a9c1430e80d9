-- Bytes that lie somewhere are room for as many.
use Rattle.std.proofs.Common.{◌≡◌, ℕ, ◌+◌, List, [], ◌∷◌, length, refl, w8}
use seplogic.Ra.Ura.{Ura}
use base.Fraction.{full_share}
use base.Logic.{ent, via, mono∗}
use base.Fml.{froom, feq, fsep}
use mir.Syntax.{ty_int, ty_array}
use mir.Val.{vint}
use types.Logic.{Logic, sem}
use types.Kit.{‵, ◌$◌, ◌∵◌, !, qed, use1, fsplit, drop, rewrite, done}
use denote.Array.{Array}
use denote.ArrayMemory.{Array-apart}
use denote.Builtin.{u8}
use denote.Index.{row}
use denote.Memory.{part_at}
use denote.Plain.{uint_out}

module _ {M : Type 1} {𝓤 : Ura M} (𝓛 : Logic 𝓤) where
  one_room : (x b o : ℕ) → ent 𝓤 (sem 𝓛 (part_at u8 full_share x b o)) (𝓛.H.room (ty_int w8) b o)
  one_room x b o = via 𝓤 _ (uint_out 𝓛 full_share w8 x b o) (𝓛.laws.at_room (ty_int w8) b o (vint w8 x))

  row_room : (xs : List ℕ) (b o : ℕ)
      → ent 𝓤 (sem 𝓛 (row u8 full_share xs b o)) (𝓛.H.room (ty_array (ty_int w8) (length xs)) b o)
  row_room [] b o = 𝓛.laws.room_nil (ty_int w8) b o
  row_room (x ∷ xs) b o =
      via 𝓤 _ (mono∗ 𝓤 (one_room x b o) (row_room xs b (o + 1))) (𝓛.laws.room_cons (ty_int w8) (length xs) b o)

  pub array_room : (xs : List ℕ) (n b o : ℕ) → length xs ≡ n
      → ent 𝓤 (sem 𝓛 (part_at (Array u8 (length xs)) full_share xs b o)) (sem 𝓛 (froom (ty_array (ty_int w8) n) b o))
  array_room xs n b o e = qed 𝓛 (‵ (part_at (Array u8 (length xs)) full_share xs b o) ∷ []) ∵
      use1 𝓛 (‵ (fsep (feq ℕ (length xs) (length xs)) (row u8 full_share xs b o)))
      (Array-apart 𝓛 u8 full_share tt (length xs) xs b o) $ fsplit ! $ drop ! $
      use1 𝓛 (‵ (froom (ty_array (ty_int w8) (length xs)) b o)) (row_room xs b o) $
      rewrite ! 0 (λ (k : ℕ). ‵ (froom (ty_array (ty_int w8) k) b o)) e refl $ done !
