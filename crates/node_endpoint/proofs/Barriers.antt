-- The calls on the barrier are those of the record.
use Rattle.std.proofs.lemmas.Bool.{cases_Bool}
use Rattle.std.proofs.Common.{add-one, zero, inl, inr, ◌≡◌, ℕ, suc, ◌+◌, ℤ, Bool, true, false, Option, None, Some, refl}
use Rattle.std.proofs.Common.{ap, ap₂, ◌∙◌, subst, ◌<◌, ◌-◌, arith}
use Rattle.wire_message.specs.declared.notification.BarrierNotification.{BarrierNotification}
use Rattle.part_barrier.specs.BarrierState.{BarrierState}
use Rattle.part_barrier.specs.Record.{BarrierRecord, notify_answer, notify_after, try_answer, try_after}
use Rattle.part_barrier.specs.Stands.{BarrierStands}
use Rattle.part_barrier.specs.declared.answer.Notified.{Notified}
use Rattle.part_barrier.specs.declared.answer.BarrierAnswer.{BarrierAnswer}
use Rattle.node_core.specs.CoreState.{CoreState}
use Rattle.node_rules.specs.BarrierCalls.{Notify, TryBarrier, barrier_does, exhausted_for, identifier, first_where}
use Rattle.node_rules.specs.EndpointRules.{with_barrier, notification_among}
use Rattle.std.specs.Int.{w32}
use Rattle.std.proofs.lemmas.Int.{to_z-of_z}
use Rattle.node_rules.proofs.Noting.{identifier_fits}
use Rattle.node_rules.specs.declared.answer.Answer.{Answer}
use Rattle.node_rules.specs.declared.answer.Answer.TheVariants as answers
use Rattle.node_endpoint.specs.declared.extended.Extended.{Extended}
use Rattle.node_endpoint.specs.EndpointState.{ForItsRecord}
use Rattle.node_endpoint.specs.Parts.{Parts, PartDoes, endpoint_of, caller_in}
use Rattle.node_endpoint.proofs.Syncs.{same_core}

pub notify_does : (core : CoreState) (extended : Extended) (barrier : BarrierState) (thread : ℕ) (id : ℤ)
    (flags : ℕ) (says : Notified)
    → ((nodes me : ℕ) (kept : BarrierRecord) → BarrierStands nodes me extended.barrier kept
    → says ≡ notify_answer kept (identifier id) flags)
    → ((nodes me : ℕ) (kept : BarrierRecord) → BarrierStands nodes me extended.barrier kept
    → BarrierStands nodes me barrier
    (notify_after kept (identifier id) flags (notify_answer kept (identifier id) flags)))
    → PartDoes (record { core = core; extended = extended }) thread
    (λ caller kept. with_barrier kept (barrier_does caller (Notify id flags) kept.barrier)) (answers.Notified says)
    (record { core = core; extended = record extended { barrier = barrier } })
notify_does core extended barrier thread id flags says answer stands = record {
  same = same_core core;
  frame = record { nodes = refl; me_is = refl; threads = refl; room = refl };
  steps = λ node S.
      let kept = node.local.barrier in (
        ap (λ (s : Notified). answers.Notified s) (answer core.settings.nodes core.me kept S.barrier),
        record {
          core = S.core;
          transfers = S.transfers;
          regions_are = S.regions_are;
          registers_are = S.registers_are;
          barrier = stands core.settings.nodes core.me kept S.barrier;
        },
      );
}

pub try_does : (core : CoreState) (extended : Extended) (barrier : BarrierState) (thread : ℕ) (id : ℤ)
    (flags : ℕ) (exhausted : Option ℕ) (says : BarrierAnswer)
    → ForItsRecord (endpoint_of core extended) (λ node.
    exhausted ≡ exhausted_for (caller_in core node thread) node.local.barrier)
    → ((nodes me : ℕ) (kept : BarrierRecord) → BarrierStands nodes me extended.barrier kept
    → says ≡ try_answer nodes me kept (record { id = identifier id; flags = flags; exhausted = exhausted }))
    → ((nodes me : ℕ) (kept : BarrierRecord) → BarrierStands nodes me extended.barrier kept
    → BarrierStands nodes me barrier
    (try_after kept (try_answer nodes me kept (record { id = identifier id; flags = flags; exhausted = exhausted }))))
    → PartDoes (record { core = core; extended = extended }) thread
    (λ caller kept. with_barrier kept (barrier_does caller (TryBarrier id flags) kept.barrier)) (answers.Barrier says)
    (record { core = core; extended = record extended { barrier = barrier } })
try_does core extended barrier thread id flags exhausted says said_by answer stands = record {
  same = same_core core;
  frame = record { nodes = refl; me_is = refl; threads = refl; room = refl };
  steps = λ node S.
      let kept = node.local.barrier in
      let nodes = core.settings.nodes in
      let tried = λ (exhausted : Option ℕ). try_answer nodes core.me kept
      (record { id = identifier id; flags = flags; exhausted = exhausted }) in
      let same : tried exhausted ≡ tried (exhausted_for (caller_in core node thread) kept) = ap tried (said_by node S) in (
        ap (λ (s : BarrierAnswer). answers.Barrier s) (answer nodes core.me kept S.barrier ∙ same),
        record {
          core = S.core;
          transfers = S.transfers;
          regions_are = S.regions_are;
          registers_are = S.registers_are;
          barrier = subst (λ (a : BarrierAnswer). BarrierStands nodes core.me barrier (try_after kept a)) same
              (stands nodes core.me kept S.barrier);
        },
      );
}

-- ---- the least node

-- none below
pub first_none : (test : ℕ → Bool) (node many : ℕ) → test node ≡ false
    → first_where test node (suc many) ≡ first_where test (node + 1) many
first_none test node many none = rw (none, add-one) refl

pub first_here : (test : ℕ → Bool) (node many : ℕ) → test node ≡ true
    → first_where test node (suc many) ≡ Some node
first_here test node many here = rw here refl

pub among_unasked : (due : ℕ → Option BarrierNotification) (can : ℕ → Bool) (node many : ℕ) → can node ≡ false
    → notification_among due can node (suc many) ≡ notification_among due can (node + 1) many
among_unasked due can node many none = rw (none, add-one) refl

pub among_none : (due : ℕ → Option BarrierNotification) (can : ℕ → Bool) (node many : ℕ) → can node ≡ true
    → due node ≡ None → notification_among due can node (suc many) ≡ notification_among due can (node + 1) many
among_none due can node many asked none = rw (asked, none, add-one) refl

pub among_here : (due : ℕ → Option BarrierNotification) (can : ℕ → Bool) (node many : ℕ) (notification : BarrierNotification)
    → can node ≡ true → due node ≡ Some notification
    → notification_among due can node (suc many) ≡ Some (record { to = node; notification = notification })
among_here due can node many notification asked here = rw (asked, here) refl

-- nothing is due to the node
pub among_undue : (due : ℕ → Option BarrierNotification) (can : ℕ → Bool) (node many : ℕ) → due node ≡ None
    → notification_among due can node (suc many) ≡ notification_among due can (node + 1) many
among_undue due can node many none = elim (cases_Bool (can node)) [
  | inl asked ↦ among_none due can node many asked none
  | inr unasked ↦ among_unasked due can node many unasked
]

-- nothing is due to the first so many nodes
pub among_skip : (due : ℕ → Option BarrierNotification) (can : ℕ → Bool) (node many skip : ℕ)
    → ((to : ℕ) → to < node + skip → due to ≡ None)
    → notification_among due can node many ≡ notification_among due can (node + skip) (many - skip)
among_skip due can node many zero none =
    let from : node ≡ node + 0 = omega arith in
    let rest : many ≡ many - 0 = omega arith in
    ap₂ (notification_among due can) from rest
among_skip due can node zero (suc skip) none =
    let rest : 0 ≡ 0 - suc skip = omega arith in
    ap (notification_among due can (node + suc skip)) rest
among_skip due can node (suc many) (suc skip) none =
    let from : node + 1 + skip ≡ node + suc skip = omega arith in
    let rest : many - skip ≡ suc many - suc skip = omega arith in
    among_undue due can node many (none node (omega arith))
    ∙ (among_skip due can (node + 1) many skip (λ to below. none to (omega (arith, below)))
    ∙ ap₂ (notification_among due can) from rest)

-- nothing is due
pub among_quiet : (due : ℕ → Option BarrierNotification) (can : ℕ → Bool) (node many : ℕ)
    → ((to : ℕ) → due to ≡ None) → notification_among due can node many ≡ None
among_quiet due can node zero quiet = refl
among_quiet due can node (suc many) quiet = elim (cases_Bool (can node)) [
  | inl asked ↦ among_none due can node many asked (quiet node) ∙ among_quiet due can (node + 1) many quiet
  | inr unasked ↦ among_unasked due can node many unasked ∙ among_quiet due can (node + 1) many quiet
]

-- an identifier as its 32 bits tell it is its own one
pub notify_again : (old new : Parts) (thread : ℕ) (id : ℤ) (flags : ℕ) (answer : Answer)
    → PartDoes old thread
    (λ caller kept. with_barrier kept (barrier_does caller (Notify (identifier id) flags) kept.barrier)) answer new
    → PartDoes old thread
    (λ caller kept. with_barrier kept (barrier_does caller (Notify id flags) kept.barrier)) answer new
notify_again old new thread id flags answer D =
    subst (λ i. PartDoes old thread
    (λ caller kept. with_barrier kept (
      answers.Notified (notify_answer kept.barrier i flags),
      notify_after kept.barrier i flags (notify_answer kept.barrier i flags),
    )) answer new)
    (to_z-of_z w32 (identifier id) (identifier_fits id)) D

pub try_again : (old new : Parts) (thread : ℕ) (id : ℤ) (flags : ℕ) (answer : Answer)
    → PartDoes old thread
    (λ caller kept. with_barrier kept (barrier_does caller (TryBarrier (identifier id) flags) kept.barrier)) answer new
    → PartDoes old thread
    (λ caller kept. with_barrier kept (barrier_does caller (TryBarrier id flags) kept.barrier)) answer new
try_again old new thread id flags answer D =
    subst (λ i. PartDoes old thread
    (λ caller kept. with_barrier kept
    (let says = try_answer caller.settings.nodes caller.me kept.barrier
    (record { id = i; flags = flags; exhausted = exhausted_for caller kept.barrier }) in
    (answers.Barrier says, try_after kept.barrier says))) answer new)
    (to_z-of_z w32 (identifier id) (identifier_fits id)) D
