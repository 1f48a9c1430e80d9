-- How a node opens, from what is known at each answer.
use Rattle.std.proofs.Common.{◌≡◌, ◌<◌, ◌≤◌, Bool, true, false, Option, Some, None, is_some, refl, sym, ap, ◌∙◌, subst, inl, inr, arith}
use Rattle.std.proofs.lemmas.Bool.{false≢true}
use Rattle.wire_message.specs.Parameters.{Parameters, AreInRange}
use Rattle.node_endpoint.specs.EndpointState.{EndpointState}
use Rattle.gasnet_c.specs.Opening.{IsOpenedNode, IsSetupWithin, Opens, settings_of}
use Rattle.gasnet_c.specs.declared.opening.Setup.{Setup}
use Rattle.gasnet_c.proofs.Telling.{dead_is_none}

-- a live handle stays
pub opens_live : (setup : Setup) (held : Option EndpointState) (live : Bool) → live ≡ is_some held → live ≡ true
    → Opens setup held 3 held
opens_live setup (Some x) live whole alive = (refl, refl)
opens_live setup None live whole alive = absurd (false≢true (sym whole ∙ alive))

refused : (setup : Setup) (held : Option EndpointState) → held ≡ None → (IsSetupWithin setup → ⊥)
    → Opens setup held 1 held
refused setup None none beyond = inl (refl, beyond)
refused setup (Some x) none beyond = absurd (false≢true (sym (ap is_some none)))

-- a dead one stays dead where the setup breaks a limit
pub opens_beyond : (setup : Setup) (held : Option EndpointState) (live : Bool) → live ≡ is_some held → live ≡ false
    → (AreInRange (settings_of setup) → ⊥) → Opens setup held 1 held
opens_beyond setup held live whole dead beyond =
    refused setup held (dead_is_none held live whole dead) (λ within. beyond within.0)

-- or names no node of the job
pub opens_nobody : (setup : Setup) (held : Option EndpointState) (live : Bool) → live ≡ is_some held → live ≡ false
    → setup.nodes ≤ setup.me → Opens setup held 1 held
opens_nobody setup held live whole dead nobody =
    refused setup held (dead_is_none held live whole dead) (λ within. omega (arith, within.1))

poor : (setup : Setup) (held : Option EndpointState) → held ≡ None → IsSetupWithin setup → Opens setup held 2 held
poor setup None none within = inr (refl, within)
poor setup (Some x) none within = absurd (false≢true (sym (ap is_some none)))

-- or for want of memory
pub opens_poor : (setup : Setup) (held : Option EndpointState) (live : Bool) → live ≡ is_some held → live ≡ false
    → AreInRange (settings_of setup) → setup.me < setup.nodes → Opens setup held 2 held
opens_poor setup held live whole dead range there = poor setup held (dead_is_none held live whole dead) (range, there)

-- else it has a node
pub opens_new : (setup : Setup) (held new : Option EndpointState) (live : Bool) (settings : Parameters)
    (x : EndpointState) → live ≡ is_some held → live ≡ false → new ≡ Some x → settings ≡ settings_of setup
    → AreInRange (settings_of setup) → setup.me < setup.nodes → IsOpenedNode settings setup.me x
    → Opens setup held 0 new
opens_new setup held new live settings x whole dead is same range there opened =
    subst (λ (one : Option EndpointState). Opens setup one 0 new) (sym (dead_is_none held live whole dead))
    (subst (λ (one : Option EndpointState). Opens setup None 0 one) (sym is)
    (refl, (range, there), subst (λ (s : Parameters). IsOpenedNode s setup.me x) same opened))
