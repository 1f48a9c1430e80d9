-- A phase that a node has ended was notified by all, so no node is two phases ahead of another.
use Rattle.std.proofs.Common.{◌≡◌, ◌≢◌, ◌⊎◌, inl, inr, ℕ, suc, ◌<◌, ℤ, ◌||◌, Option, Some, None, List, [], ◌∷◌}
use Rattle.std.proofs.Common.{refl, sym, ap, ◌∙◌, subst, arith, eqb}
use Rattle.std.specs.List.{AllByRecursion, slice_get}
use Rattle.std.proofs.lemmas.Bool.{cases_Bool, cases_eq}
use Rattle.wire_message.specs.declared.notification.BarrierNotification.{BarrierNotification}
use Rattle.part_barrier.specs.declared.known.Notify.{Notify}
use Rattle.part_barrier.specs.declared.answer.Notified.{Notified}
use Rattle.part_barrier.specs.declared.answer.Notified.TheVariants as told
use Rattle.part_barrier.specs.declared.answer.BarrierAnswer.{BarrierAnswer}
use Rattle.part_barrier.specs.declared.answer.BarrierAnswer.TheVariants as tried
use Rattle.part_barrier.specs.Record.{BarrierRecord, SentNotification, own, notify_answer, notify_after, try_answer}
use Rattle.part_barrier.specs.Record.{try_after, hear, notification_to, send}
use Rattle.part_barrier.specs.World.{Barriers, BarrierEvent, Notifying, Trying, Sending, Hearing, put_record}
use Rattle.part_barrier.specs.World.{hear_sent}
use Rattle.part_barrier.specs.World.{happens, barriers_after, all_opened}
use Rattle.part_barrier.specs.World.{IsAmong, InEveryRun, AreCovered, AllNotified, EndedByAll}
use Rattle.part_barrier.proofs.Runs.{put_same, put_other, keeps_notify, keeps_try, keeps_send, keeps_hear_sent}
use Rattle.part_barrier.proofs.Runs.{notification_to_routed, routed_covered, happens_keeps, opens, inv_tells}

-- node i goes from barriers i to q, and ends at most a phase that all have notified
put_ended : (nodes : ℕ) (barriers : Barriers) (node : ℕ) (newer : BarrierRecord) → EndedByAll nodes barriers
    → ((phase : ℕ) (notify : Notify) → own (barriers node) phase ≡ Some notify → own newer phase ≡ Some notify)
    → ((phase : ℕ) → phase < newer.ended → (phase < (barriers node).ended) ⊎ AllNotified nodes barriers phase)
    → node < nodes → EndedByAll nodes (put_record barriers node newer)
put_ended nodes barriers node newer ended grows ends there one phase one_there low other other_there =
    grown (all (cases_eq one node))
  where
    all : (one ≡ node) ⊎ (one ≢ node) → (notify : Notify) × (own (barriers other) phase ≡ Some notify)
    all (inl same) =
        let at : put_record barriers node newer one ≡ newer =
        ap (put_record barriers node newer) same ∙ put_same barriers node newer in
        elim (ends phase (subst (λ (any : BarrierRecord). phase < any.ended) at low)) [
          | inl whole ↦ ended node phase there whole other other_there
          | inr whole ↦ whole other other_there
        ]
    all (inr unlike) = ended one phase one_there
        (subst (λ (any : BarrierRecord). phase < any.ended)
        (put_other barriers node one newer unlike) low) other other_there

    grown : (notify : Notify) × (own (barriers other) phase ≡ Some notify)
        → (notify : Notify) × (own (put_record barriers node newer other) phase ≡ Some notify)
    grown notify = elim (cases_eq other node) [
      | inl same ↦ (
        notify.0,
        ap (λ (any : BarrierRecord). own any phase)
            (ap (put_record barriers node newer) same ∙ put_same barriers node newer)
            ∙ grows phase notify.0 (ap (λ (number : ℕ). own (barriers number) phase) (sym same) ∙ notify.1),
      )
      | inr unlike ↦ (
        notify.0,
        ap (λ (any : BarrierRecord). own any phase) (put_other barriers node other newer unlike)
            ∙ notify.1,
      )
    ]

notify_ended : (kept : BarrierRecord) (id : ℤ) (flags : ℕ) (answer : Notified)
    → (notify_after kept id flags answer).ended ≡ kept.ended
notify_ended kept id flags told.Ok = refl
notify_ended kept id flags told.BadFlags = refl
notify_ended kept id flags told.Twice = refl
notify_ended kept id flags told.Exhausted = refl

pub send_ended : (kept : BarrierRecord) (to : ℕ) (maybe : Option BarrierNotification) → (send kept to maybe).ended ≡ kept.ended
send_ended kept to None = refl
send_ended kept to (Some notification) = refl

pub hear_ended : (kept : BarrierRecord) (notification : BarrierNotification) → (hear kept notification).ended ≡ kept.ended
hear_ended kept notification = elim (cases_Bool (eqb notification.phase kept.ended || eqb notification.phase
    (suc kept.ended))) [ inl sent_notification ↦ rw sent_notification refl | inr f ↦ rw f refl ]

hear_sent_ended : (kept : BarrierRecord) (maybe : Option SentNotification) → (hear_sent kept maybe).ended ≡ kept.ended
hear_sent_ended kept None = refl
hear_sent_ended kept (Some sent_notification) = hear_ended kept sent_notification.notification

try_ended : (nodes : ℕ) (barriers : Barriers) (kept : BarrierRecord) (answer : BarrierAnswer)
    → ((answer ≡ tried.Ok) ⊎ (answer ≡ tried.Mismatch) → AllNotified nodes barriers kept.ended) → (phase : ℕ)
    → phase < (try_after kept answer).ended → (phase < kept.ended) ⊎ AllNotified nodes barriers phase
try_ended nodes barriers kept tried.Ok all phase low =
    elim (cases_eq phase kept.ended) [
      | inl e ↦ inr
          (subst (AllNotified nodes barriers) (sym e) (all (inl refl)))
      | inr unlike ↦ inl (omega arith)
    ]
try_ended nodes barriers kept tried.Mismatch all phase low =
    elim (cases_eq phase kept.ended) [
      | inl e ↦ inr
          (subst (AllNotified nodes barriers) (sym e) (all (inr refl)))
      | inr unlike ↦ inl (omega arith)
    ]
try_ended nodes barriers kept tried.NotReady all phase low = inl low
try_ended nodes barriers kept tried.NoNotify all phase low = inl low
try_ended nodes barriers kept tried.BadFlags all phase low = inl low
try_ended nodes barriers kept (tried.Exhausted node) all phase low = inl low

same_ended : (nodes : ℕ) (barriers : Barriers) (kept newer : BarrierRecord) → newer.ended ≡ kept.ended → (phase : ℕ)
    → phase < newer.ended → (phase < kept.ended) ⊎ AllNotified nodes barriers phase
same_ended nodes barriers kept newer e phase low = inl (omega (arith, e, low))

happens_ended : (nodes : ℕ) (barriers : Barriers) (event : BarrierEvent) → IsAmong nodes event
    → AreCovered nodes barriers
    → EndedByAll nodes barriers → EndedByAll nodes (happens nodes barriers event)
happens_ended nodes barriers (Notifying node id flags) there covered whole =
    put_ended nodes barriers node _ whole (keeps_notify nodes barriers (barriers node) id flags
    (notify_answer (barriers node) id flags)).own
    (same_ended nodes barriers (barriers node)
    (notify_after (barriers node) id flags (notify_answer (barriers node) id flags))
    (notify_ended (barriers node) id flags (notify_answer (barriers node) id flags))) there
happens_ended nodes barriers (Trying node try) there covered whole =
    let answer = try_answer nodes node (barriers node) try in
    put_ended nodes barriers node _ whole (keeps_try nodes barriers (barriers node) answer).own
    (try_ended nodes barriers (barriers node) answer
    (λ notification. (inv_tells nodes barriers covered node try there notification).0)) there
happens_ended nodes barriers (Sending node to) there covered whole = put_ended nodes barriers node _ whole
    (keeps_send nodes barriers (barriers node) to (notification_to nodes node (barriers node) to)
    (λ notification e. let found = notification_to_routed nodes node (barriers node) to notification e in
    routed_covered nodes barriers node found.0 to notification covered there found.1)).own
    (same_ended nodes barriers (barriers node) (send (barriers node) to (notification_to nodes node (barriers node) to))
    (send_ended (barriers node) to (notification_to nodes node (barriers node) to))) there
happens_ended nodes barriers (Hearing node other index) there covered whole =
    put_ended nodes barriers node _ whole (keeps_hear_sent nodes barriers (barriers node)
    (slice_get (barriers other).sent index) (λ s e. covered.sent other index s e)).own
    (same_ended nodes barriers (barriers node)
    (hear_sent (barriers node) (slice_get (barriers other).sent index))
    (hear_sent_ended (barriers node) (slice_get (barriers other).sent index))) there

run_ended : (nodes : ℕ) (events : List BarrierEvent) (barriers : Barriers) → AllByRecursion (IsAmong nodes) events
    → AreCovered nodes barriers → EndedByAll nodes barriers → EndedByAll nodes (barriers_after nodes events barriers)
run_ended nodes [] barriers all covered whole = whole
run_ended nodes (e ∷ events) barriers all covered whole =
    run_ended nodes events (happens nodes barriers e) all.1 (happens_keeps nodes barriers e all.0 covered)
    (happens_ended nodes barriers e all.0 covered whole)

pub ended_by_all : InEveryRun EndedByAll
ended_by_all nodes events all = run_ended nodes events all_opened all (opens nodes)
    (λ node phase there never other low. absurd (omega (arith, never)))
