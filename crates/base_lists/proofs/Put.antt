-- A function of a number that was changed at one place.
use Rattle.std.proofs.Common.{◌≡◌, ◌≢◌, inl, inr, ℕ, refl, sym, ap, eqb, eqb-true, eq-eqb, ne_eqb}
use Rattle.std.proofs.Math.Path.{fun_ext}
use Rattle.std.proofs.lemmas.Bool.{cases_Bool}
use Rattle.base_lists.specs.Put.{put}

-- the place that was changed
pub put_same : {X : Type 0} (f : ℕ → X) (place : ℕ) (x : X) → put f place x place ≡ x
put_same f place x = rw (eq-eqb place place refl) refl

-- each other place
pub put_other : {X : Type 0} (f : ℕ → X) (place : ℕ) (x : X) (other : ℕ) → other ≢ place
    → put f place x other ≡ f other
put_other f place x other apart = rw (ne_eqb other place apart) refl

-- nothing changes where a place gets what it had
pub put_own : {X : Type 0} (f : ℕ → X) (place : ℕ) → put f place (f place) ≡ f
put_own f place = fun_ext (λ other. elim (cases_Bool (eqb other place)) [
  | inl same ↦ rw same (ap f (sym (eqb-true other place same)))
  | inr apart ↦ rw apart refl
])
