-- The machine values of the crate's structs: what is owned tells them, and is made of nothing.
use Rattle.std.proofs.Common.{◌≡◌, List, [], ◌∷◌, ◌++◌, refl, ◌∙◌}
use seplogic.Ra.Ura.{Ura}
use mir.Val.{Val, vstruct, vcons, vnil, of_list}
use base.Logic.{ent, emp}
use base.Fml.{Fml}
use types.Logic.{Logic, sem}
use denote.RattleType.{RattleType}
use denote.RawPtr.{Ptr, RawPtr, ptr_val}
use denote.Shadow.{shadow, makes_shadow}
use denote.Struct.Struct.{Struct}

abbrev pub plainly : List RattleType → RattleType
plainly Rs = Struct (record { name = []; args = []; types = []; fields = Rs })

abbrev pub bytes_val : Ptr → Val
bytes_val p = vstruct (vcons (ptr_val p) vnil)

abbrev pub fields_own : Ptr → List Val → Fml
fields_own p = (plainly (RawPtr ∷ [])).own_val (p, tt)

pub bytes_told : (p : Ptr) (vs : List Val) → shadow (fields_own p vs) → vs ≡ bytes_val p ∷ []
bytes_told p vs s = s.1.0 ∙ (λ i. vstruct (of_list (s.1.1.0 i ++ [])) ∷ [])

pub fields_made : {M : Type 1} {𝓤 : Ura M} (𝓛 : Logic 𝓤) (p : Ptr)
    → ent 𝓤 (emp 𝓤) (sem 𝓛 (fields_own p (bytes_val p ∷ [])))
fields_made 𝓛 p =
    makes_shadow 𝓛 (fields_own p (bytes_val p ∷ [])) (λ _. (tt, (tt, tt))) ((ptr_val p ∷ [], tt), (refl, (refl, tt)))

abbrev pub lease_val : Val
lease_val = vstruct (vcons (vstruct vnil) vnil)

abbrev pub lease_own : List Val → Fml
lease_own = (plainly (plainly [] ∷ [])).own_val (tt, tt)

pub lease_told : (vs : List Val) → shadow (lease_own vs) → vs ≡ lease_val ∷ []
lease_told vs s = s.1.0 ∙ (λ i. vstruct (of_list (s.1.1.0.1.0 i ++ [])) ∷ [])

pub lease_made : {M : Type 1} {𝓤 : Ura M} (𝓛 : Logic 𝓤) → ent 𝓤 (emp 𝓤) (sem 𝓛 (lease_own (lease_val ∷ [])))
lease_made 𝓛 =
    makes_shadow 𝓛 (lease_own (lease_val ∷ [])) (λ _. (tt, ((λ _. (tt, tt)), tt))) (
      (vstruct vnil ∷ [], tt),
      (refl, ((tt, (refl, tt)), tt)),
    )
