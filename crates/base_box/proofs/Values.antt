-- The machine value of a box that is taken apart: what its fields own tells it, and is made of nothing.
use Rattle.std.proofs.Common.{◌≡◌, List, [], ◌∷◌, ◌++◌, refl, ◌∙◌}
use seplogic.Ra.Ura.{Ura}
use mir.Val.{Val, vstruct, vcons, vnil, of_list}
use base.Logic.{ent, emp}
use base.Fml.{Fml}
use types.Logic.{Logic, sem}
use denote.RattleType.{RattleType}
use denote.RawPtr.{Ptr, RawPtr, ptr_val}
use denote.Shadow.{shadow, makes_shadow}
use denote.Struct.Struct.{Struct}

abbrev plainly : List RattleType → RattleType
plainly Rs = Struct (record { name = []; args = []; types = []; fields = Rs })

-- its place, and the marker, which has no bytes
abbrev pub raw_val : Ptr → Val
raw_val p = vstruct (vcons (ptr_val p) (vcons (vstruct vnil) vnil))

abbrev pub fields_own : Ptr → List Val → Fml
fields_own p = (plainly (RawPtr ∷ plainly [] ∷ [])).own_val (p, (tt, tt))

pub raw_told : (p : Ptr) (vs : List Val) → shadow (fields_own p vs) → vs ≡ raw_val p ∷ []
raw_told p vs s = s.1.0 ∙ (λ i. vstruct (of_list (s.1.1.0 i ++ (s.1.1.1.0.1.0 i ++ []))) ∷ [])

pub fields_made : {M : Type 1} {𝓤 : Ura M} (𝓛 : Logic 𝓤) (p : Ptr)
    → ent 𝓤 (emp 𝓤) (sem 𝓛 (fields_own p (raw_val p ∷ [])))
fields_made 𝓛 p =
    makes_shadow 𝓛 (fields_own p (raw_val p ∷ [])) (λ _. (tt, (tt, ((λ _. (tt, tt)), tt)))) (
      (ptr_val p ∷ [], (vstruct vnil ∷ [], tt)),
      (refl, (refl, ((tt, (refl, tt)), tt))),
    )
