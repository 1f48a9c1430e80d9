-- Nodes that are looked at one after another.
use Rattle.std.proofs.Common.{◌≡◌, ℕ, suc, ◌+◌, ◌-◌, ◌<◌, Bool, true, false, Some, None, refl, ap}
use Rattle.std.proofs.Common.{◌∙◌, arith}
use Rattle.node_collectives.specs.Progress.{first_node, is_ready_from}

-- one more node was looked at
counted : (node nodes : ℕ) → node < nodes → nodes - node ≡ suc (nodes - (node + 1))
counted node nodes low = omega (arith, low)

next_is : (node : ℕ) → suc node ≡ node + 1
next_is node = omega arith

-- all of them, from the first on
pub from_first : (nodes : ℕ) → nodes ≡ nodes - 0
from_first nodes = omega arith

-- ---- the first node with a test

pub first_on : (test : ℕ → Bool) (node nodes : ℕ) → node < nodes → test node ≡ false
    → first_node test node (nodes - node) ≡ first_node test (node + 1) (nodes - (node + 1))
first_on test node nodes low is =
    let rest = nodes - (node + 1) in
    let passed : first_node test node (suc rest) ≡ first_node test (suc node) rest = rw is refl in
    ap (first_node test node) (counted node nodes low)
    ∙ (passed ∙ ap (λ (at : ℕ). first_node test at rest) (next_is node))

pub first_here : (test : ℕ → Bool) (node nodes : ℕ) → node < nodes → test node ≡ true
    → first_node test node (nodes - node) ≡ Some node
first_here test node nodes low is =
    let rest = nodes - (node + 1) in
    let found : first_node test node (suc rest) ≡ Some node = rw is refl in
    ap (first_node test node) (counted node nodes low) ∙ found

pub first_none : (test : ℕ → Bool) (node nodes : ℕ) → nodes - node ≡ 0 → first_node test node (nodes - node) ≡ None
first_none test node nodes none = ap (first_node test node) none

-- ---- all nodes have it

pub ready_on : (test : ℕ → Bool) (node nodes : ℕ) → node < nodes → test node ≡ true
    → is_ready_from test node (nodes - node) ≡ is_ready_from test (node + 1) (nodes - (node + 1))
ready_on test node nodes low is =
    let rest = nodes - (node + 1) in
    let passed : is_ready_from test node (suc rest) ≡ is_ready_from test (suc node) rest = rw is refl in
    ap (is_ready_from test node) (counted node nodes low)
    ∙ (passed ∙ ap (λ (at : ℕ). is_ready_from test at rest) (next_is node))

pub ready_not : (test : ℕ → Bool) (node nodes : ℕ) → node < nodes → test node ≡ false
    → is_ready_from test node (nodes - node) ≡ false
ready_not test node nodes low is =
    let rest = nodes - (node + 1) in
    let stopped : is_ready_from test node (suc rest) ≡ false = rw is refl in
    ap (is_ready_from test node) (counted node nodes low) ∙ stopped

pub ready_all : (test : ℕ → Bool) (node nodes : ℕ) → nodes - node ≡ 0
    → is_ready_from test node (nodes - node) ≡ true
ready_all test node nodes none = ap (is_ready_from test node) none
