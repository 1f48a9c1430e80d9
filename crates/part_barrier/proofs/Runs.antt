-- Every run: notifications tell what was notified, and a try tells the outcome.
use Rattle.std.proofs.Common.{◌≡◌, ◌≢◌, ◌⊎◌, inl, inr, ℕ, zero, suc, ◌<◌, ℤ, true, true≢false, Bool, false, cond}
use Rattle.std.proofs.Common.{◌||◌, Option, Some, None, List, [], ◌∷◌, ◌++◌, refl, sym, ap, ◌∙◌, subst, arith, eqb, ◌↔◌}
use Rattle.std.specs.Prelude.{slice_get, nat_lt}
use Rattle.std.specs.List.{AllByRecursion}
use Rattle.std.proofs.lemmas.Bool.Decides.{nat_tests}
use Rattle.std.proofs.lemmas.Bool.{cases_Bool, cases_eq}
use Rattle.std.proofs.lemmas.Option.{same_Some}
use Rattle.wire_message.specs.declared.notification.BarrierNotification.{BarrierNotification}
use Rattle.part_barrier.specs.declared.known.Notify.{Notify}
use Rattle.part_barrier.specs.declared.answer.Notified.{Notified}
use Rattle.part_barrier.specs.declared.answer.Notified.TheVariants as told
use Rattle.part_barrier.specs.declared.answer.BarrierAnswer.{BarrierAnswer}
use Rattle.part_barrier.specs.declared.answer.BarrierAnswer.TheVariants as tried
use Rattle.part_barrier.specs.Masks.{has_all}
use Rattle.part_barrier.specs.Combinations.{all_of}
use Rattle.part_barrier.specs.Record.{BarrierRecord, SentNotification, PhasePart, own, own_part, part_of, heard_part, known_part}
use Rattle.part_barrier.specs.Record.{Stage, Try, stage, notification_of, notification_on_route}
use Rattle.part_barrier.specs.Record.{notify_answer, notify_after, try_answer, try_after, own_try, unready}
use Rattle.part_barrier.specs.Record.{is_other_try, hear, due, due_before, or_else, notification_to, was_sent, send}
use Rattle.part_barrier.specs.Route.{goes_to}
use Rattle.part_barrier.specs.World.{Barriers, BarrierEvent, Notifying, Trying, Sending, Hearing, put_record}
use Rattle.part_barrier.specs.World.{hear_sent}
use Rattle.part_barrier.specs.World.{happens, barriers_after, all_opened}
use Rattle.part_barrier.specs.World.{IsAmong, Covers, IsCovered, AreCovered, Keeps, TryTells, InEveryRun}
use Rattle.part_barrier.specs.World.{is_mismatch, notifies_of}
use Rattle.part_barrier.proofs.Covering.{covers_both, covers_own, covers_grows, covers_heard, covers_notification}
use Rattle.part_barrier.proofs.Covering.{covers_all, has_all-each}
use Rattle.base_lists.proofs.Places.{slice_get_kept}

-- ---- lists

pub slice_get_push : {Item : Type 0} (items : List Item) (last : Item) (place : ℕ) (item : Item)
    → slice_get (items ++ last ∷ []) place ≡ Some item → (slice_get items place ≡ Some item) ⊎ (last ≡ item)
slice_get_push [] last zero item e = inr cc
slice_get_push [] last (suc place) item e = absurd (cc)
slice_get_push (first ∷ items) last zero item e = inl e
slice_get_push (first ∷ items) last (suc place) item e = slice_get_push items last place item e

-- ---- the invariant

pub keeps_same : (nodes : ℕ) (barriers : Barriers) (kept : BarrierRecord) → Keeps nodes barriers kept kept
keeps_same nodes barriers kept = record {
  own = λ phase notify e. e;
  heard = λ place notification e. inl e;
  sent =
      λ place s e. inl e;
}

pub put_same : (barriers : Barriers) (node : ℕ) (kept : BarrierRecord) → put_record barriers node kept node ≡ kept
put_same barriers node kept = grind (arith, nat_tests)

pub put_other : (barriers : Barriers) (node other : ℕ) (kept : BarrierRecord) → other ≢ node
    → put_record barriers node kept other ≡ barriers other
put_other barriers node other kept nodes = grind (arith, nat_tests)

pub keeps_inv : (nodes : ℕ) (barriers : Barriers) (node : ℕ) (newer : BarrierRecord) → AreCovered nodes barriers
    → Keeps nodes barriers (barriers node) newer → AreCovered nodes (put_record barriers node newer)
keeps_inv nodes barriers node newer covered keeps = record {
  heard = λ other place notification e. elim (cases_eq other node) [
    | inl same ↦ elim (keeps.heard place notification
        (at_i other (λ any. slice_get any.heard place ≡ Some notification) same e)) [
          | inl was ↦ grown notification
              (covered.heard node place notification was)
          | inr new ↦ grown notification new
        ]
    | inr unlike ↦ grown notification (covered.heard other place notification
        (off_i other (λ any. slice_get any.heard place ≡ Some notification) unlike e))
  ];
  sent = λ other place sent_notification e. elim (cases_eq other node) [
    | inl same ↦ elim (keeps.sent place sent_notification
        (at_i other (λ any. slice_get any.sent place ≡ Some sent_notification) same e)) [
          | inl was ↦ grown sent_notification.notification
              (covered.sent node place sent_notification was)
          | inr new ↦ grown sent_notification.notification new
        ]
    | inr unlike ↦ grown sent_notification.notification (covered.sent other place sent_notification
        (off_i other (λ any. slice_get any.sent place ≡ Some sent_notification) unlike e))
  ];
}
  where
    at_i : (other : ℕ) (Holds : BarrierRecord → Type 0) → other ≡ node → Holds (put_record barriers node newer other)
        → Holds newer
    at_i other Holds same notification =
        subst Holds (ap (put_record barriers node newer) same ∙ put_same barriers node newer) notification

    off_i : (other : ℕ) (Holds : BarrierRecord → Type 0) → other ≢ node → Holds (put_record barriers node newer other)
        → Holds (barriers other)
    off_i other Holds unlike notification = subst Holds (put_other barriers node other newer unlike) notification

    grows : (phase other : ℕ) (notify : Notify) → own (barriers other) phase ≡ Some notify
        → own (put_record barriers node newer other) phase ≡ Some notify
    grows phase other notify e = elim (cases_eq other node) [
      | inl same ↦ subst (λ any. own any phase ≡ Some notify)
          (sym (ap (put_record barriers node newer) same ∙ put_same barriers node newer))
          (keeps.own phase notify (subst (λ which. own (barriers which) phase ≡ Some notify) same e))
      | inr unlike ↦ subst (λ any. own any phase ≡ Some notify) (sym (put_other barriers node other newer unlike)) e
    ]

    grown : (notification : BarrierNotification) → IsCovered nodes barriers notification → IsCovered nodes (put_record barriers node newer) notification
    grown notification told =
        covers_grows nodes (notifies_of barriers notification.phase) (notifies_of (put_record barriers node newer) notification.phase)
        (part_of notification) (grows notification.phase) told

-- ---- each event

pub keeps_notify : (nodes : ℕ) (barriers : Barriers) (kept : BarrierRecord) (id : ℤ) (flags : ℕ) (answer : Notified)
    → Keeps nodes barriers kept (notify_after kept id flags answer)
keeps_notify nodes barriers kept id flags told.Ok = record {
  own = λ phase notify e. slice_get_kept kept.notifies _ phase notify e;
  heard = λ place notification e. inl e;
  sent = λ place s e. inl e;
}
keeps_notify nodes barriers kept id flags told.BadFlags = keeps_same nodes barriers kept
keeps_notify nodes barriers kept id flags told.Twice = keeps_same nodes barriers kept
keeps_notify nodes barriers kept id flags told.Exhausted = keeps_same nodes barriers kept

pub keeps_try : (nodes : ℕ) (barriers : Barriers) (kept : BarrierRecord) (answer : BarrierAnswer)
    → Keeps nodes barriers kept (try_after kept answer)
keeps_try nodes barriers kept tried.Ok = record {
  own = λ phase notify e. e;
  heard = λ node notification e. inl e;
  sent =
      λ node s e. inl e;
}
keeps_try nodes barriers kept tried.Mismatch =
    record { own = λ phase notify e. e; heard = λ node notification e. inl e; sent = λ node s e. inl e }
keeps_try nodes barriers kept tried.NotReady = keeps_same nodes barriers kept
keeps_try nodes barriers kept tried.NoNotify = keeps_same nodes barriers kept
keeps_try nodes barriers kept tried.BadFlags = keeps_same nodes barriers kept
keeps_try nodes barriers kept (tried.Exhausted node) = keeps_same nodes barriers kept

pub keeps_hear : (nodes : ℕ) (barriers : Barriers) (kept : BarrierRecord) (notification : BarrierNotification)
    → IsCovered nodes barriers notification → Keeps nodes barriers kept (hear kept notification)
keeps_hear nodes barriers kept notification told =
    elim (cases_Bool (eqb notification.phase kept.ended || eqb notification.phase (suc kept.ended))) [
      | inl sent_notification ↦ rw sent_notification (record {
        own = λ phase notify e. e;
        heard = λ place one e. elim (slice_get_push kept.heard notification place one e) [
          | inl was ↦ inl was
          | inr new ↦ inr
              (subst (IsCovered nodes barriers) new told)
        ];
        sent = λ place s e. inl e;
      })
      | inr f ↦ rw f (keeps_same nodes barriers kept)
    ]

-- what a node knows of a phase is covered
pub known_covered : (nodes : ℕ) (barriers : Barriers) (node phase : ℕ) → AreCovered nodes barriers → node < nodes
    → Covers nodes (notifies_of barriers phase) (known_part node (barriers node) phase)
known_covered nodes barriers node phase covered there =
    covers_both nodes (notifies_of barriers phase) (own_part node (own (barriers node) phase))
    (heard_part phase (barriers node).heard)
    (covers_own nodes (notifies_of barriers phase) node (own (barriers node) phase) there refl)
    (covers_heard nodes phase (notifies_of barriers) (barriers node).heard (covered.heard node))

if_some : {Item : Type 0} (test : Bool) (item other : Item) → cond test (Some item) None ≡ Some other → other ≡ item
if_some true item other e = same_Some _ _ (sym e)
if_some false item other e = absurd (cc)

-- what is sent is what is known
pub routed_notification : (nodes me : ℕ) (now : Stage) (to : ℕ) (notification : BarrierNotification)
    → notification_on_route nodes me now to ≡ Some notification → notification ≡ notification_of now.phase now.part
routed_notification nodes me now to notification e =
    if_some (goes_to nodes me now.notified now.part.mask to) (notification_of now.phase now.part) notification e

pub routed_covered : (nodes : ℕ) (barriers : Barriers) (node phase to : ℕ) (notification : BarrierNotification)
    → AreCovered nodes barriers → node < nodes
    → notification_on_route nodes node (stage node (barriers node) phase) to ≡ Some notification → IsCovered nodes barriers notification
routed_covered nodes barriers node phase to notification covered there e =
    subst (IsCovered nodes barriers) (sym (routed_notification nodes node (stage node (barriers node) phase) to notification e))
    (covers_notification nodes phase (notifies_of barriers phase) (known_part node (barriers node) phase)
    (known_covered nodes barriers node phase covered there))

due_routed : (nodes me : ℕ) (kept : BarrierRecord) (phase to : ℕ) (notification : BarrierNotification)
    → due nodes me kept phase to ≡ Some notification
    → notification_on_route nodes me (stage me kept phase) to ≡ Some notification
due_routed nodes me kept phase to notification e = elim (cases_Bool (was_sent kept phase to)) [
  | inl sent_notification ↦ (let none : None ≡ Some notification = sym (rw sent_notification refl) ∙ e in absurd cc)
  | inr f ↦ sym (rw f refl) ∙ e
]

pub or_else_is : {Item : Type 0} (first second : Option Item) (item : Item) → or_else first second ≡ Some item
    → (first ≡ Some item) ⊎ (second ≡ Some item)
or_else_is None second item e = inr e
or_else_is (Some other) second item e = inl e

before_routed : (nodes me : ℕ) (kept : BarrierRecord) (phase to : ℕ) (notification : BarrierNotification)
    → due_before nodes me kept phase to ≡ Some notification
    → (number : ℕ) × (notification_on_route nodes me (stage me kept number) to ≡ Some notification)
before_routed nodes me kept zero to notification e = absurd (cc)
before_routed nodes me kept (suc phase) to notification e = (phase, due_routed nodes me kept phase to notification e)

pub notification_to_routed : (nodes me : ℕ) (kept : BarrierRecord) (to : ℕ) (notification : BarrierNotification)
    → notification_to nodes me kept to ≡ Some notification
    → (number : ℕ) × (notification_on_route nodes me (stage me kept number) to ≡ Some notification)
notification_to_routed nodes me kept to notification e = elim (or_else_is _ _ notification e) [
  | inl before ↦ before_routed nodes me kept kept.ended to notification before
  | inr now ↦ (kept.ended, due_routed nodes me kept kept.ended to notification now)
]

pub keeps_send : (nodes : ℕ) (barriers : Barriers) (kept : BarrierRecord) (to : ℕ) (maybe : Option BarrierNotification)
    → ((notification : BarrierNotification) → maybe ≡ Some notification → IsCovered nodes barriers notification)
    → Keeps nodes barriers kept (send kept to maybe)
keeps_send nodes barriers kept to None told = keeps_same nodes barriers kept
keeps_send nodes barriers kept to (Some notification) told = record {
  own = λ phase notify e. e;
  heard = λ place one e. inl e;
  sent = λ place sent_notification e. elim (slice_get_push kept.sent _ place sent_notification e) [
    | inl was ↦ inl was
    | inr new ↦ inr
        (subst (λ (one_more : SentNotification). IsCovered nodes barriers one_more.notification) new (told notification refl))
  ];
}

pub keeps_hear_sent : (nodes : ℕ) (barriers : Barriers) (kept : BarrierRecord) (maybe : Option SentNotification)
    → ((sent_notification : SentNotification) → maybe ≡ Some sent_notification → IsCovered nodes barriers sent_notification.notification)
    → Keeps nodes barriers kept (hear_sent kept maybe)
keeps_hear_sent nodes barriers kept None told = keeps_same nodes barriers kept
keeps_hear_sent nodes barriers kept (Some sent_notification) told =
    keeps_hear nodes barriers kept sent_notification.notification (told sent_notification refl)

pub happens_keeps : (nodes : ℕ) (barriers : Barriers) (event : BarrierEvent) → IsAmong nodes event
    → AreCovered nodes barriers
    → AreCovered nodes (happens nodes barriers event)
happens_keeps nodes barriers (Notifying node id flags) there covered =
    keeps_inv nodes barriers node _ covered
    (keeps_notify nodes barriers (barriers node) id flags (notify_answer (barriers node) id flags))
happens_keeps nodes barriers (Trying node try) there covered =
    keeps_inv nodes barriers node _ covered
    (keeps_try nodes barriers (barriers node) (try_answer nodes node (barriers node) try))
happens_keeps nodes barriers (Sending node to) there covered =
    keeps_inv nodes barriers node _ covered
    (keeps_send nodes barriers (barriers node) to (notification_to nodes node (barriers node) to)
    (λ notification e. let found = notification_to_routed nodes node (barriers node) to notification e in
    routed_covered nodes barriers node found.0 to notification covered there found.1))
happens_keeps nodes barriers (Hearing node other index) there covered =
    keeps_inv nodes barriers node _ covered
    (keeps_hear_sent nodes barriers (barriers node) (slice_get (barriers other).sent index)
    (λ s e. covered.sent other index s e))

pub run_keeps : (nodes : ℕ) (events : List BarrierEvent) (barriers : Barriers) → AllByRecursion (IsAmong nodes) events
    → AreCovered nodes barriers → AreCovered nodes (barriers_after nodes events barriers)
run_keeps nodes [] barriers all covered = covered
run_keeps nodes (e ∷ events) barriers all covered =
    run_keeps nodes events (happens nodes barriers e) all.1 (happens_keeps nodes barriers e all.0 covered)

pub opens : (nodes : ℕ) → AreCovered nodes all_opened
opens nodes = record { heard = λ node place notification e. absurd (cc); sent = λ node place s e. absurd (cc) }

-- ---- the laws

pub are_covered : InEveryRun AreCovered
are_covered nodes events all = run_keeps nodes events all_opened all (opens nodes)

not_unready : (exhausted : Option ℕ) → (unready exhausted ≡ tried.Ok) ⊎ (unready exhausted ≡ tried.Mismatch) → ⊥
not_unready None (inl e) = cc
not_unready None (inr e) = cc
not_unready (Some node) (inl e) = cc
not_unready (Some node) (inr e) = cc

-- what an answer Ok or Mismatch says of a node that has notified
abbrev pub Passes : ℕ → PhasePart → Try → Option Notify → BarrierAnswer → Type 0
Passes nodes part try own answer = (notify : Notify) × (own ≡ Some notify) × (has_all part.mask nodes ≡ true)
    × ((answer ≡ tried.Mismatch) ↔ ((part.combined.mismatch ≡ true) ⊎ (is_other_try notify try.id try.flags ≡ true)))

own_passes : (nodes : ℕ) (part : PhasePart) (try : Try) (maybe : Option Notify)
    → (own_try nodes part try maybe ≡ tried.Ok) ⊎ (own_try nodes part try maybe ≡ tried.Mismatch)
    → Passes nodes part try maybe (own_try nodes part try maybe)
own_passes nodes part try None notification = absurd (elim notification [ inl e ↦ cc | inr e ↦ cc ])
own_passes nodes part try (Some notify) notification = elim (cases_Bool (has_all part.mask nodes)) [
  | inl sent_notification ↦ (
    notify,
    refl,
    sent_notification,
    rw sent_notification (elim (cases_Bool part.combined.mismatch) [
      | inl mismatch ↦ rw mismatch (λ e. inl refl, λ e. refl)
      | inr mismatch ↦ rw mismatch (elim (cases_Bool (is_other_try notify try.id try.flags)) [
        | inl d ↦ rw d (λ e. inr refl, λ e. refl)
        | inr d ↦ rw d (
          λ e. absurd cc,
          λ e. elim e [
            | inl found ↦ absurd (true≢false (sym found))
            | inr found ↦ absurd
                (true≢false (sym found))
          ],
        )
      ])
    ]),
  )
  | inr f ↦ absurd (not_unready try.exhausted (rw f at notification))
]

pub passes : (nodes me : ℕ) (kept : BarrierRecord) (try : Try)
    → (try_answer nodes me kept try ≡ tried.Ok) ⊎ (try_answer nodes me kept try ≡ tried.Mismatch)
    → Passes nodes (known_part me kept kept.ended) try (own kept kept.ended) (try_answer nodes me kept try)
passes nodes me kept try notification = elim (cases_Bool (nat_lt 3 try.flags)) [
  | inl sent_notification ↦ absurd (let found = rw sent_notification at notification in elim found [ inl e ↦ cc | inr e ↦ cc ])
  | inr f ↦ rw f (own_passes nodes (known_part me kept kept.ended) try (own kept kept.ended) (rw f at notification))
]

pub inv_tells : (nodes : ℕ) (barriers : Barriers) → AreCovered nodes barriers → TryTells nodes barriers
inv_tells nodes barriers covered node try there notification =
    let passed = passes nodes node (barriers node) try notification in
    let whole = known_covered nodes barriers node (barriers node).ended covered there in
    let all : (known_part node (barriers node) (barriers node).ended).combined ≡ all_of
    (notifies_of barriers (barriers node).ended) nodes =
    covers_all nodes (notifies_of barriers (barriers node).ended)
    (known_part node (barriers node) (barriers node).ended) whole passed.2 in
    let same : (known_part node (barriers node) (barriers node).ended).combined.mismatch ≡ is_mismatch nodes barriers
    (barriers node).ended = ap (λ other. other.mismatch) all in (
      λ other below. (whole.there other (has_all-each
          (known_part node (barriers node) (barriers node).ended).mask nodes other passed.2 below)).1,
      (
        λ e. elim (passed.3.0 e) [
          | inl mismatch ↦ inl (sym same ∙ mismatch)
          | inr unlike ↦ inr
              (passed.0, passed.1, unlike)
        ],
        λ e. elim e [
          | inl mismatch ↦ passed.3.1 (inl (same ∙ mismatch))
          | inr unlike ↦ passed.3.1 (inr (subst (λ given. is_other_try given try.id try.flags ≡ true)
              (same_Some _ _ (sym unlike.1 ∙ passed.1)) unlike.2))
        ],
      ),
    )

pub try_tells : InEveryRun TryTells
try_tells nodes events all = inv_tells nodes (barriers_after nodes events all_opened)
    (run_keeps nodes events all_opened all (opens nodes))
