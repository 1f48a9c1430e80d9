-- What is written of a world that stands.
use Rattle.std.proofs.Common.{◌≡◌, ℕ, suc, ◌+◌, ◌-◌, ◌<◌, true, refl, arith}
use Rattle.std.proofs.Common.{ne_eqb}
use Rattle.node_rules.specs.EndpointRules.{Records}
use Rattle.sim_run.specs.RunText.{any_violation, violations}

-- a node without violations is passed
pub any_passed : (w : Records) (node n : ℕ) → node < n → violations (w node) ≡ 0
    → any_violation w node (n - node) ≡ any_violation w (node + 1) (n - (node + 1))
any_passed w node n h none = let left : n - node ≡ suc (n - (node + 1)) = omega arith in rw (left, none) refl

-- one with violations is found
pub any_found : (w : Records) (node n : ℕ) → node < n → (violations (w node) ≡ 0 → ⊥)
    → any_violation w node (n - node) ≡ true
any_found w node n h some = let left : n - node ≡ suc (n - (node + 1)) = omega arith in
    rw (left, ne_eqb (violations (w node)) 0 some) refl
