-- No node is two phases ahead of another.
use Rattle.std.proofs.Common.{◌≡◌, inl, inr, ℕ, zero, suc, ◌-◌, ◌^◌, ◌<◌, ◌≤◌, ℤ, List, [], ◌∷◌, ◌++◌, length, Option}
use Rattle.std.proofs.Common.{Some, None, refl, sym, ap, ◌∙◌, subst, arith, eqb, ltb, ◌||◌, length-append}
use Rattle.std.specs.Prelude.{slice_get}
use Rattle.std.proofs.lemmas.Bool.{cases_Bool, cases_eq}
use Rattle.base_lists.proofs.Cases.{cases_option}
use Rattle.base_lists.proofs.Places.{slice_get_in}
use Rattle.wire_message.specs.declared.notification.BarrierNotification.{BarrierNotification}
use Rattle.part_barrier.specs.declared.known.Notify.{Notify}
use Rattle.part_barrier.specs.declared.answer.BarrierAnswer.{BarrierAnswer}
use Rattle.part_barrier.specs.declared.answer.BarrierAnswer.TheVariants as tried
use Rattle.part_barrier.specs.Record.{BarrierRecord, SentNotification, own, notify_answer, notify_after, try_answer}
use Rattle.part_barrier.specs.Record.{try_after, notification_to, send}
use Rattle.part_barrier.specs.World.{Barriers, BarrierEvent, Notifying, Trying, Sending, Hearing, put_record}
use Rattle.part_barrier.specs.World.{hear_sent}
use Rattle.part_barrier.specs.World.{happens, barriers_after, all_opened, InEveryRun, EndedByAll}
use Rattle.part_barrier.proofs.Runs.{put_same, put_other}
use Rattle.base_lists.proofs.Places.{slice_get_short}

-- a node notifies no later phase than its present one
abbrev pub IsHigh : BarrierRecord → Type 0
IsHigh kept = length kept.notifies ≤ suc kept.ended

abbrev pub AreHigh : (nodes : ℕ) → Barriers → Type 0
AreHigh nodes barriers = (node : ℕ) → IsHigh (barriers node)

put_high : (nodes : ℕ) (barriers : Barriers) (node : ℕ) (newer : BarrierRecord) → AreHigh nodes barriers
    → IsHigh newer → AreHigh nodes (put_record barriers node newer)
put_high nodes barriers node newer high new other = elim (cases_eq other node) [
  | inl same ↦ subst IsHigh (sym (ap (put_record barriers node newer) same ∙ put_same barriers node newer)) new
  | inr apart ↦ subst IsHigh (sym (put_other barriers node other newer apart)) (high other)
]

notify_high : (kept : BarrierRecord) (id : ℤ) (flags : ℕ) → IsHigh kept
    → IsHigh (notify_after kept id flags (notify_answer kept id flags))
notify_high kept id flags high = elim (cases_Bool (ltb 3 flags)) [
  | inl bad ↦ rw bad high
  | inr good ↦ elim (cases_option (own kept kept.ended)) [
    | inl none ↦ elim (cases_Bool (eqb kept.ended (2 ^ 64 - 1))) [
      | inl last ↦ rw (good, none, last) high
      | inr left ↦ rw (good, none, left) (taken none)
    ]
    | inr some ↦ rw (good, some.1) high
  ]
]
  where
    notify : Notify
    notify = record { id = id; flags = flags }

    taken : own kept kept.ended ≡ None → length (kept.notifies ++ notify ∷ []) ≤ suc kept.ended
    taken none = omega (
      arith,
      length-append kept.notifies (notify ∷ []),
      slice_get_short kept.notifies kept.ended none,
    )

try_high : (kept : BarrierRecord) (answer : BarrierAnswer) → IsHigh kept → IsHigh (try_after kept answer)
try_high kept tried.Ok high = omega (arith, high)
try_high kept tried.Mismatch high = omega (arith, high)
try_high kept tried.NotReady high = high
try_high kept tried.NoNotify high = high
try_high kept tried.BadFlags high = high
try_high kept (tried.Exhausted node) high = high

send_high : (kept : BarrierRecord) (to : ℕ) (notification : Option BarrierNotification) → IsHigh kept → IsHigh (send kept to notification)
send_high kept to None high = high
send_high kept to (Some notification) high = high

hear_high : (kept : BarrierRecord) (sent : Option SentNotification) → IsHigh kept → IsHigh (hear_sent kept sent)
hear_high kept None high = high
hear_high kept (Some one) high =
    elim (cases_Bool (eqb one.notification.phase kept.ended || eqb one.notification.phase (suc kept.ended))) [
      | inl takes ↦ rw takes high
      | inr drops ↦ rw drops high
    ]

happens_high : (nodes : ℕ) (barriers : Barriers) (event : BarrierEvent) → AreHigh nodes barriers
    → AreHigh nodes (happens nodes barriers event)
happens_high nodes barriers (Notifying node id flags) high =
    put_high nodes barriers node _ high (notify_high (barriers node) id flags (high node))
happens_high nodes barriers (Trying node try) high =
    put_high nodes barriers node _ high
    (try_high (barriers node) (try_answer nodes node (barriers node) try) (high node))
happens_high nodes barriers (Sending node to) high =
    put_high nodes barriers node _ high
    (send_high (barriers node) to (notification_to nodes node (barriers node) to) (high node))
happens_high nodes barriers (Hearing node other place) high =
    put_high nodes barriers node _ high
    (hear_high (barriers node) (slice_get (barriers other).sent place) (high node))

run_high : (nodes : ℕ) (events : List BarrierEvent) (barriers : Barriers) → AreHigh nodes barriers
    → AreHigh nodes (barriers_after nodes events barriers)
run_high nodes [] barriers high = high
run_high nodes (event ∷ events) barriers high =
    run_high nodes events (happens nodes barriers event) (happens_high nodes barriers event high)

pub are_high : InEveryRun AreHigh
are_high nodes events among = run_high nodes events all_opened (λ node. omega arith)

-- a node that ended a phase ended one that each other node notified, in that phase or an earlier one
pub abreast : (nodes : ℕ) (barriers : Barriers) (node other : ℕ) → AreHigh nodes barriers → EndedByAll nodes barriers
    → node < nodes → other < nodes → (barriers node).ended ≤ suc (barriers other).ended
abreast nodes barriers node other high ended there other_there = by_phase (barriers node).ended refl
  where
    by_phase : (count : ℕ) → (barriers node).ended ≡ count → count ≤ suc (barriers other).ended
    by_phase zero is = omega arith
    by_phase (suc phase) is =
        let notify = ended node phase there (omega (arith, is)) other other_there in
        omega (arith, slice_get_in (barriers other).notifies phase notify.0 notify.1, high other)
