-- What each event does to the barrier of a node: nothing, or one event of barriers by themselves.
use Rattle.std.proofs.Common.{◌≡◌, inl, inr, ℕ, ◌<◌, ℤ, Option, Some, None, refl, sym, ap, subst, eqb, ◌||◌}
use Rattle.std.proofs.Common.{◌∙◌, arith, List, [], ◌∷◌, ◌++◌, ◌+◌}
use Rattle.std.proofs.lemmas.List.{append-nil}
use Rattle.std.specs.Prelude.{slice_get, suc}
use Rattle.std.proofs.lemmas.Bool.{cases_Bool}
use Rattle.base_lists.proofs.Places.{slice_get_kept}
use Rattle.wire_message.specs.declared.notification.BarrierNotification.{BarrierNotification}
use Rattle.wire_message.specs.Notifications.{IsNotification}
use Rattle.part_barrier.specs.declared.known.Notify.{Notify}
use Rattle.part_barrier.specs.declared.answer.Notified.{Notified}
use Rattle.part_barrier.specs.declared.answer.Notified.TheVariants as told
use Rattle.part_barrier.specs.declared.answer.BarrierAnswer.{BarrierAnswer}
use Rattle.part_barrier.specs.declared.answer.BarrierAnswer.TheVariants as tried
use Rattle.part_barrier.specs.Record.{BarrierRecord, SentNotification, Try, notify_answer, notify_after, try_answer, try_after}
use Rattle.part_barrier.specs.Record.{hear, notification_to, send}
use Rattle.part_barrier.specs.Within.{IsWithin}
use Rattle.part_barrier.specs.World.{Barriers, Notifying, Trying, Sending, Hearing, put_record, hear_sent}
use Rattle.part_barrier.proofs.Within.{stays_within}
use Rattle.node_rules.specs.BarrierCalls.{identifier}
use Rattle.node_rules.proofs.Noting.{identifier_fits}
use Rattle.law_barrier.proofs.Alone.{Changes}
use Rattle.law_barrier.proofs.Said.{Grows}
use Rattle.part_barrier.proofs.Phases.{hear_ended, send_ended}

-- what an event adds: notifies, and phases that ended
pub record Added : Type 0 where
  pub notifies : List Notify
  pub ended : ℕ

abbrev pub nothing_added : Added
nothing_added = record { notifies = []; ended = 0 }

-- the barrier of the node becomes this one, which has that more
pub record Steps (nodes : ℕ) (barriers : Barriers) (node : ℕ) (added : Added) (newer : BarrierRecord) : Type 0 where
  pub within : IsWithin nodes newer
  pub grows : Grows (barriers node).sent newer.sent
  pub changes : Changes nodes barriers node newer
  pub notifies : newer.notifies ≡ (barriers node).notifies ++ added.notifies
  pub ended : newer.ended ≡ (barriers node).ended + added.ended

pub step_same : (nodes : ℕ) (barriers : Barriers) (node : ℕ) (newer : BarrierRecord)
    → IsWithin nodes (barriers node)
    → newer ≡ barriers node → Steps nodes barriers node nothing_added newer
step_same nodes barriers node newer within same = record {
  within = subst (IsWithin nodes) (sym same) within;
  grows = λ place one there. subst (λ (any : BarrierRecord). slice_get any.sent place ≡ Some one) (sym same) there;
  changes = inl same;
  notifies = ap (λ (any : BarrierRecord). any.notifies) same ∙ sym (append-nil (barriers node).notifies);
  ended = omega (arith, ap (λ (any : BarrierRecord). any.ended) same);
}

notify_sent : (kept : BarrierRecord) (id : ℤ) (flags : ℕ) (answer : Notified)
    → Grows kept.sent (notify_after kept id flags answer).sent
notify_sent kept id flags told.Ok place one there = there
notify_sent kept id flags told.BadFlags place one there = there
notify_sent kept id flags told.Twice place one there = there
notify_sent kept id flags told.Exhausted place one there = there

-- what a notify adds
abbrev pub notify_adds : (id : ℤ) → (flags : ℕ) → Notified → Added
notify_adds id flags told.Ok = record { notifies = record { id = id; flags = flags } ∷ []; ended = 0 }
notify_adds id flags _ = nothing_added

notify_notifies : (kept : BarrierRecord) (id : ℤ) (flags : ℕ) (answer : Notified)
    → (notify_after kept id flags answer).notifies ≡ kept.notifies ++ (notify_adds id flags answer).notifies
notify_notifies kept id flags told.Ok = refl
notify_notifies kept id flags told.BadFlags = sym (append-nil kept.notifies)
notify_notifies kept id flags told.Twice = sym (append-nil kept.notifies)
notify_notifies kept id flags told.Exhausted = sym (append-nil kept.notifies)

notify_ends : (kept : BarrierRecord) (id : ℤ) (flags : ℕ) (answer : Notified)
    → (notify_after kept id flags answer).ended ≡ kept.ended + (notify_adds id flags answer).ended
notify_ends kept id flags told.Ok = omega arith
notify_ends kept id flags told.BadFlags = omega arith
notify_ends kept id flags told.Twice = omega arith
notify_ends kept id flags told.Exhausted = omega arith

pub step_notify : (nodes : ℕ) (barriers : Barriers) (node : ℕ) (id : ℤ) (flags : ℕ) → node < nodes
    → IsWithin nodes (barriers node)
    → Steps nodes barriers node
    (notify_adds (identifier id) flags (notify_answer (barriers node) (identifier id) flags))
    (notify_after (barriers node) (identifier id) flags (notify_answer (barriers node) (identifier id) flags))
step_notify nodes barriers node id flags there within =
    let answer = notify_answer (barriers node) (identifier id) flags in
    record {
      within = (stays_within.1 nodes (barriers node) within).notify (identifier id) flags (identifier_fits id);
      grows = notify_sent (barriers node) (identifier id) flags answer;
      changes = inr (Notifying node (identifier id) flags, there, refl);
      notifies = notify_notifies (barriers node) (identifier id) flags answer;
      ended = notify_ends (barriers node) (identifier id) flags answer;
    }

try_sent : (kept : BarrierRecord) (answer : BarrierAnswer) → Grows kept.sent (try_after kept answer).sent
try_sent kept tried.Ok place one there = there
try_sent kept tried.Mismatch place one there = there
try_sent kept tried.NotReady place one there = there
try_sent kept tried.NoNotify place one there = there
try_sent kept tried.BadFlags place one there = there
try_sent kept (tried.Exhausted node) place one there = there

-- what a try adds
abbrev pub try_adds : BarrierAnswer → Added
try_adds tried.Ok = record { notifies = []; ended = 1 }
try_adds tried.Mismatch = record { notifies = []; ended = 1 }
try_adds _ = nothing_added

try_notifies : (kept : BarrierRecord) (answer : BarrierAnswer)
    → (try_after kept answer).notifies ≡ kept.notifies ++ (try_adds answer).notifies
try_notifies kept tried.Ok = sym (append-nil kept.notifies)
try_notifies kept tried.Mismatch = sym (append-nil kept.notifies)
try_notifies kept tried.NotReady = sym (append-nil kept.notifies)
try_notifies kept tried.NoNotify = sym (append-nil kept.notifies)
try_notifies kept tried.BadFlags = sym (append-nil kept.notifies)
try_notifies kept (tried.Exhausted node) = sym (append-nil kept.notifies)

try_ends : (kept : BarrierRecord) (answer : BarrierAnswer)
    → (try_after kept answer).ended ≡ kept.ended + (try_adds answer).ended
try_ends kept tried.Ok = omega arith
try_ends kept tried.Mismatch = omega arith
try_ends kept tried.NotReady = omega arith
try_ends kept tried.NoNotify = omega arith
try_ends kept tried.BadFlags = omega arith
try_ends kept (tried.Exhausted node) = omega arith

pub step_try : (nodes : ℕ) (barriers : Barriers) (node : ℕ) (try : Try) → node < nodes
    → IsWithin nodes (barriers node)
    → Steps nodes barriers node (try_adds (try_answer nodes node (barriers node) try))
    (try_after (barriers node) (try_answer nodes node (barriers node) try))
step_try nodes barriers node try there within =
    let answer = try_answer nodes node (barriers node) try in
    record {
      within = (stays_within.1 nodes (barriers node) within).tried node try;
      grows = try_sent (barriers node) answer;
      changes = inr (Trying node try, there, refl);
      notifies = try_notifies (barriers node) answer;
      ended = try_ends (barriers node) answer;
    }

hear_keeps : (kept : BarrierRecord) (notification : BarrierNotification) → Grows kept.sent (hear kept notification).sent
hear_keeps kept notification place one there =
    elim (cases_Bool (eqb notification.phase kept.ended || eqb notification.phase (suc kept.ended))) [
      | inl takes ↦ rw takes there
      | inr drops ↦ rw drops there
    ]

hear_notifies : (kept : BarrierRecord) (notification : BarrierNotification) → (hear kept notification).notifies ≡ kept.notifies
hear_notifies kept notification = elim (cases_Bool (eqb notification.phase kept.ended || eqb notification.phase (suc kept.ended))) [
  | inl takes ↦ rw takes refl
  | inr drops ↦ rw drops refl
]

-- a notification comes that the other node sent
pub step_hear : (nodes : ℕ) (barriers : Barriers) (node other place : ℕ) (one : SentNotification) → node < nodes
    → IsWithin nodes (barriers node) → IsNotification nodes one.notification → slice_get (barriers other).sent place ≡ Some one
    → Steps nodes barriers node nothing_added (hear (barriers node) one.notification)
step_hear nodes barriers node other place one there within is sent = record {
  within = (stays_within.1 nodes (barriers node) within).hear one.notification is;
  grows = hear_keeps (barriers node) one.notification;
  changes = inr (
    Hearing node other place,
    there,
    ap (λ (heard : Option SentNotification). put_record barriers node (hear_sent (barriers node) heard)) sent,
  );
  notifies = hear_notifies (barriers node) one.notification ∙ sym (append-nil (barriers node).notifies);
  ended = omega (arith, hear_ended (barriers node) one.notification);
}

send_keeps : (kept : BarrierRecord) (to : ℕ) (notification : Option BarrierNotification) → Grows kept.sent (send kept to notification).sent
send_keeps kept to None place one there = there
send_keeps kept to (Some notification) place one there = slice_get_kept kept.sent _ place one there

send_notifies : (kept : BarrierRecord) (to : ℕ) (notification : Option BarrierNotification)
    → (send kept to notification).notifies ≡ kept.notifies
send_notifies kept to None = refl
send_notifies kept to (Some notification) = refl

pub step_send : (nodes : ℕ) (barriers : Barriers) (node to : ℕ) → node < nodes → IsWithin nodes (barriers node)
    → Steps nodes barriers node nothing_added (send (barriers node) to (notification_to nodes node (barriers node) to))
step_send nodes barriers node to there within =
    let notification = notification_to nodes node (barriers node) to in
    record {
      within = (stays_within.1 nodes (barriers node) within).send to notification;
      grows = send_keeps (barriers node) to notification;
      changes = inr (Sending node to, there, refl);
      notifies = send_notifies (barriers node) to notification ∙ sym (append-nil (barriers node).notifies);
      ended = omega (arith, send_ended (barriers node) to notification);
    }
