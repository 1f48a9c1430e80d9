-- The machine value of a struct that is a pointer: what its field owns tells it, and is made of nothing.
use Rattle.std.proofs.Common.{◌≡◌, List, [], ◌∷◌, ◌++◌, refl, ◌∙◌}
use seplogic.Ra.Ura.{Ura}
use mir.Val.{Val, vstruct, vcons, vnil, of_list}
use base.Logic.{ent, emp}
use base.Fml.{Fml}
use types.Logic.{Logic, sem}
use denote.RawPtr.{Ptr, RawPtr, ptr_val}
use denote.Shadow.{shadow, makes_shadow}
use denote.Struct.Struct.{Struct}

abbrev pub place_val : Ptr → Val
place_val p = vstruct (vcons (ptr_val p) vnil)

abbrev pub place_own : Ptr → List Val → Fml
place_own p = (Struct (record { name = []; args = []; types = []; fields = RawPtr ∷ [] })).own_val (p, tt)

pub place_told : (p : Ptr) (vs : List Val) → shadow (place_own p vs) → vs ≡ place_val p ∷ []
place_told p vs s = s.1.0 ∙ (λ i. vstruct (of_list (s.1.1.0 i ++ [])) ∷ [])

pub place_made : {M : Type 1} {𝓤 : Ura M} (𝓛 : Logic 𝓤) (p : Ptr)
    → ent 𝓤 (emp 𝓤) (sem 𝓛 (place_own p (place_val p ∷ [])))
place_made 𝓛 p =
    makes_shadow 𝓛 (place_own p (place_val p ∷ [])) (λ _. (tt, (tt, tt))) ((ptr_val p ∷ [], tt), (refl, (refl, tt)))
