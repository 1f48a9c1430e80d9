-- What a core tells of a message that isn't delivered to it.
use Rattle.std.proofs.Common.{◌≡◌, ◌≢◌, ◌<◌, ℕ, [], Bool, true, false, refl, subst, arith, eq-eqb, ne_eqb}
use Rattle.std.specs.Prelude.{◌==◌, nat_lt}
use Rattle.std.proofs.lemmas.Bool.Decides.{nat_tests}
use Rattle.part_window.specs.RepliesState.{JudgesAt, Judges, Kept}
use Rattle.part_window.specs.declared.replies.Judged.{Judged}
use Rattle.part_window.specs.declared.replies.Judged.TheVariants.{New, Duplicate, Stale}
use Rattle.wire_message.specs.Parameters.{credits_of}
use Rattle.spec_node.specs.Executed.{greatest}
use Rattle.node_core.specs.CoreState.{CoreState}
use Rattle.node_core.specs.Known.{IsLastRun}
use Rattle.node_core.proofs.CoreStands.{node_judged}

-- the request was judged to come again
abbrev pub is_duplicate : Judged → Bool
is_duplicate New = false
is_duplicate Duplicate = true
is_duplicate Stale = false

judged_last : (number last : ℕ) (answer : Judged) → Judges (Kept last []) number answer
    → is_duplicate answer ≡ (number == last)
judged_last number last New judged = rw (ne_eqb number last (λ same. omega (arith, same, judged))) refl
judged_last number last Duplicate judged = rw (eq-eqb number last judged) refl
judged_last number last Stale judged = rw (ne_eqb number last (λ same. omega (arith, same, judged))) refl

-- a slot of another node, with the judgement of the number there
pub last_judged : (core : CoreState) (from slot number : ℕ) (answer : Judged) → from < core.settings.nodes
    → from ≢ core.me → slot < credits_of core.settings from core.me → JudgesAt core.replies from slot number answer
    → IsLastRun core from slot number (is_duplicate answer)
last_judged core from slot number answer low other below judged node stands =
    let low_test : nat_lt from core.settings.nodes ≡ true = grind (arith, nat_tests) in
    let slot_test : nat_lt slot (credits_of core.settings from core.me) ≡ true = grind (arith, nat_tests) in
    rw (low_test, slot_test, ne_eqb from core.me other)
    (judged_last number (greatest slot (node.ran from)) answer
    (node_judged from slot number core node answer stands low other below judged))

-- the same of a core that was looked into, by how the number was judged
pub last_found : (core inside : CoreState) (from slot number : ℕ) (answer found : Judged) → inside ≡ core
    → found ≡ answer → from < inside.settings.nodes → from ≢ inside.me
    → slot < credits_of inside.settings from inside.me → JudgesAt inside.replies from slot number found
    → IsLastRun core from slot number (is_duplicate answer)
last_found core inside from slot number answer found same is low other below judged =
    subst (λ (one : CoreState). IsLastRun one from slot number (is_duplicate answer)) same
    (last_judged inside from slot number answer low other below
    (subst (λ (one : Judged). JudgesAt inside.replies from slot number one) is judged))
