-- How many message buffers a node holds, where one peer's requests or runs change; and the bound.
use Rattle.std.proofs.Common.{◌≡◌, ◌≢◌, inl, inr, ℕ, zero, suc, ◌-◌, ◌*◌, ◌<◌, ◌≤◌, if◌then◌else◌, eqb, List, [], refl}
use Rattle.std.proofs.Common.{ap, ◌∙◌, arith, eq-eqb, ne_eqb}
use Rattle.std.proofs.lemmas.Bool.{cases_Bool, cases_eq}
use Rattle.wire_message.specs.Parameters.{Parameters, credits_of}
use Rattle.spec_node.specs.Record.{Run, Node, opening_node}
use Rattle.spec_node.specs.Requests.{outstanding}
use Rattle.spec_node.specs.Executed.{has_run, slots_run}
use Rattle.spec_node.specs.Credits.{credits_with, greatest_holding}
use Rattle.spec_node.specs.Held.{held_with, held_buffers}
use Rattle.spec_node.specs.Invariant.{NodeInvariant}
use Rattle.base_lists.proofs.Sums.{sum_same, sum_more, sum_le, sum_none, sum_most, sum_but_one}

-- as much is held where as much is held for each peer
pub held_same : {Local : Type 0} (settings : Parameters) (me : ℕ) (r q : Node Local)
    → ((peer : ℕ) → held_with settings me q peer ≡ held_with settings me r peer)
    → held_buffers settings me q ≡ held_buffers settings me r
held_same settings me r q same =
    sum_same (held_with settings me q) (held_with settings me r) settings.nodes (λ peer low. same peer)

-- one more, for one peer
pub held_more : {Local : Type 0} (settings : Parameters) (me : ℕ) (r q : Node Local) (peer : ℕ) → peer < settings.nodes
    → held_with settings me q peer ≡ suc (held_with settings me r peer)
    → ((other : ℕ) → other ≢ peer → held_with settings me q other ≡ held_with settings me r other)
    → held_buffers settings me q ≡ suc (held_buffers settings me r)
held_more settings me r q peer low here same =
    sum_more (held_with settings me r) (held_with settings me q) peer settings.nodes low here same

-- ---- the bound

-- at most all slots have a run
pub slots_le : (runs : List Run) (n : ℕ) → slots_run runs n ≤ n
slots_le runs zero = omega arith
slots_le runs (suc n) =
    let ih = slots_le runs n in
    elim (cases_Bool (has_run n runs)) [ inl t ↦ rw t (omega (arith, ih)) | inr f ↦ rw f (omega (arith, ih)) ]

-- without runs no slot has one
pub no_slots : (n : ℕ) → slots_run [] n ≡ 0
no_slots zero = refl
no_slots (suc n) = let ih = no_slots n in omega arith

-- a node that asked and ran nothing holds nothing
pub held_nothing : {Local : Type 0} (settings : Parameters) (me : ℕ) (start : Local)
    → held_buffers settings me (opening_node start) ≡ 0
held_nothing settings me start =
    sum_none (held_with settings me (opening_node start)) settings.nodes
    (λ peer. let none = no_slots (credits_of settings peer me) in omega arith)

-- a node whose requests are within their credits holds at most those of its peers, where it holds nothing for itself
pub held_few : {Local : Type 0} (settings : Parameters) (me : ℕ) (r : Node Local)
    → ((peer : ℕ) → outstanding (r.asked peer) ≤ credits_of settings me peer)
    → held_with settings me r me ≡ 0 → held_buffers settings me r ≤ greatest_holding settings me
held_few settings me r few own =
    sum_le (held_with settings me r) (credits_with settings me) settings.nodes
    (λ peer low. elim (cases_eq peer me) [
      | inl e ↦ rw (eq-eqb peer me e)
          (let none : held_with settings me r peer ≡ 0 = ap (held_with settings me r) e ∙ own in omega arith)
      | inr n ↦ rw (ne_eqb peer me n) (omega (arith, few peer, slots_le (r.ran peer) (credits_of settings peer me)))
    ])

-- the sum over the peers where all pairs have as many credits: 2C(n-1)
pub holding_even : (settings : Parameters) (me credits : ℕ) → me < settings.nodes
    → ((from to : ℕ) → credits_of settings from to ≡ credits)
    → greatest_holding settings me ≡ 2 * credits * (settings.nodes - 1)
holding_even settings me credits low even =
    sum_same (credits_with settings me) (λ peer. if eqb peer me then 0 else 2 * credits) settings.nodes
    (λ peer l. elim (cases_eq peer me) [
      | inl e ↦ rw (eq-eqb peer me e) refl
      | inr n ↦ rw (ne_eqb peer me n) (omega (arith, even me peer, even peer me))
    ])
    ∙ (sum_but_one me (2 * credits) settings.nodes low ∙ grind arith)

-- a node's count fits a machine word, where no pair has more credits than so many
pub held_fits : {Local : Type 0} (settings : Parameters) (IsKept : (me : ℕ) → Local → Type 0) (me most : ℕ)
    (r : Node Local)
    → NodeInvariant settings IsKept me r → ((from to : ℕ) → credits_of settings from to ≤ most)
    → held_buffers settings me r ≤ settings.nodes * (2 * most)
held_fits settings IsKept me most r I few =
    sum_most (held_with settings me r) (2 * most) settings.nodes
    (λ peer. omega (
      arith,
      (I.orderly peer).few,
      few me peer,
      few peer me,
      slots_le (r.ran peer)
          (credits_of settings peer me),
    ))
