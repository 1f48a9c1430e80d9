-- The notifications that go are in their ranges.
use Rattle.std.proofs.Common.{◌≡◌, ◌≢◌, ◌⊎◌, inl, inr, ℕ, zero, suc, ◌-◌, ◌^◌, ◌<◌, ◌≤◌, ℤ}
use Rattle.std.proofs.Common.{Bool, true, false, true≢false, cond, Option, Some, None, List, [], ◌∷◌, ◌++◌, length}
use Rattle.std.proofs.Common.{refl, sym, ap, ◌∙◌, subst, arith, rules, eqb, int_lt, length-append, ◌||◌}
use Rattle.std.proofs.Common.{if◌then◌else◌, ◌==◌}
use Rattle.std.specs.Prelude.{is_some, slice_get, nat_lt}
use Rattle.std.specs.Int.{w32}
use Rattle.std.specs.Int.RustNames.{FitsSigned}
use Rattle.std.proofs.Math.Pow.{pow-lt}
use Rattle.std.proofs.lemmas.Nat.{or_lt, pow_pos}
use Rattle.std.proofs.lemmas.Bool.Decides.{nat_tests}
use Rattle.std.proofs.lemmas.Bool.{cases_Bool, and_parts}
use Rattle.std.proofs.lemmas.Option.{same_Some}
use Rattle.wire_message.specs.declared.notification.BarrierNotification.{BarrierNotification}
use Rattle.wire_message.specs.Notifications.{IsNotification, IsMask}
use Rattle.wire_message.proofs.Masks.{are_words}
use Rattle.part_barrier.specs.declared.known.Combination.{Combination}
use Rattle.part_barrier.specs.declared.known.Notify.{Notify}
use Rattle.part_barrier.specs.declared.answer.Notified.TheVariants as told
use Rattle.part_barrier.specs.declared.answer.BarrierAnswer.{BarrierAnswer}
use Rattle.part_barrier.specs.declared.answer.BarrierAnswer.TheVariants as tried
use Rattle.part_barrier.specs.Masks.{mask_words, low_word, higher}
use Rattle.part_barrier.specs.Combinations.{one_notify, is_anonymous, least, combined_id, combined_flags}
use Rattle.part_barrier.specs.Record.{BarrierRecord, PhasePart, own, no_part, join, part_of, own_part, heard_part}
use Rattle.part_barrier.specs.Record.{known_part, notification_of}
use Rattle.part_barrier.specs.Record.{stage, notification_on_route, was_sent, due, due_before, notify_answer, notify_after}
use Rattle.part_barrier.specs.Record.{try_answer}
use Rattle.part_barrier.specs.Record.{try_after, hear, send}
use Rattle.part_barrier.specs.Route.{goes_to, any_round}
use Rattle.part_barrier.specs.Within.{IsWithin, NotificationsFit, StepsWithin, StaysWithin}
use Rattle.part_barrier.proofs.Words.{words_number}
use Rattle.part_barrier.proofs.RoundLaws.{pow_up}
use Rattle.part_barrier.proofs.Runs.{routed_notification, or_else_is, passes, slice_get_push}
use Rattle.base_lists.proofs.Places.{slice_get_short}

-- an identifier that is named is one of 32 bits
abbrev IdFits : Option ℤ → Type 0
IdFits named = (id : ℤ) → named ≡ Some id → FitsSigned w32 id

record PartFits (nodes : ℕ) (part : PhasePart) : Type 0 where
  mask : part.mask < 2 ^ nodes
  id : IdFits part.combined.id

least_fits : (first second : Option ℤ) → IdFits first → IdFits second → IdFits (least first second)
least_fits None second one two id is = two id is
least_fits (Some first) None one two id is = one id is
least_fits (Some first) (Some second) one two id is = elim (cases_Bool (int_lt second first)) [
  | inl holds ↦ two id (ap Some (sym (rw holds refl)) ∙ is)
  | inr fails ↦ one id (ap Some (sym (rw fails refl)) ∙ is)
]

none_fits : (nodes : ℕ) → PartFits nodes no_part
none_fits nodes = record { mask = pow_pos nodes; id = λ id is. absurd (cc) }

join_fits : (nodes : ℕ) (first second : PhasePart) → PartFits nodes first → PartFits nodes second
    → PartFits nodes (join first second)
join_fits nodes first second one two = record {
  mask = or_lt nodes first.mask second.mask one.mask two.mask;
  id = least_fits first.combined.id second.combined.id one.id two.id;
}

one_fits : (id : ℤ) (flags : ℕ) → FitsSigned w32 id → IdFits (one_notify id flags).id
one_fits id flags fits named is = elim (cases_Bool (is_anonymous flags)) [
  | inl holds ↦ (let none : None ≡ Some named = rw holds at is in absurd cc)
  | inr fails ↦ subst (FitsSigned w32) (same_Some id named (rw fails at is)) fits
]

own_fits : (nodes me : ℕ) (mine : Option Notify) → me < nodes
    → ((notify : Notify) → mine ≡ Some notify → FitsSigned w32 notify.id) → PartFits nodes (own_part me mine)
own_fits nodes me None there fits = none_fits nodes
own_fits nodes me (Some notify) there fits = record {
  mask = pow-lt {i = me} {j = nodes} there;
  id = one_fits notify.id notify.flags (fits notify refl);
}

notification_fits : (nodes : ℕ) (notification : BarrierNotification) → IsNotification nodes notification → PartFits nodes (part_of notification)
notification_fits nodes notification is = record { mask = is.mask.there; id = one_fits notification.id notification.flags is.id }

heard_fits : (nodes phase : ℕ) (notifications : List BarrierNotification)
    → ((place : ℕ) (notification : BarrierNotification) → slice_get notifications place ≡ Some notification → IsNotification nodes notification)
    → PartFits nodes (heard_part phase notifications)
heard_fits nodes phase [] are = none_fits nodes
heard_fits nodes phase (notification ∷ notifications) are =
    let rest = heard_fits nodes phase notifications (λ place one is. are (suc place) one is) in
    elim (cases_Bool (eqb notification.phase phase)) [
      | inl holds ↦ (
          rw holds
          (join_fits nodes (part_of notification) (heard_part phase notifications) (notification_fits nodes notification (are 0 notification refl)) rest)
          )
      | inr fails ↦ rw fails rest
    ]

known_fits : (nodes me : ℕ) (kept : BarrierRecord) (phase : ℕ) → me < nodes → IsWithin nodes kept
    → PartFits nodes (known_part me kept phase)
known_fits nodes me kept phase there within =
    join_fits nodes (own_part me (own kept phase)) (heard_part phase kept.heard)
    (own_fits nodes me (own kept phase) there (within.own phase)) (heard_fits nodes phase kept.heard within.heard)

-- ---- written

words_fit : (nodes number : ℕ) → nodes ≤ 256 → number < 2 ^ nodes → IsMask nodes (mask_words number)
words_fit nodes number few low = record {
  four = refl;
  words = are_words (low_word number) (low_word (higher number)) (low_word (higher (higher number)))
      (higher (higher (higher number))) (omega arith) (omega arith) (omega arith) (omega (arith, wide));
  there = subst (λ whole. whole < 2 ^ nodes) (sym (words_number number)) low;
}
  where
    limit : 2 ^ nodes ≤ 2 ^ 256
    limit = pow_up nodes 256 few

    wide : number < 2 ^ 256
    wide = omega (arith, low, limit)

id_fits : (combined : Combination) → IdFits combined.id → FitsSigned w32 (combined_id combined)
id_fits combined fits = by_id combined.id fits
  where
    by_id : (named : Option ℤ) → IdFits named
        → FitsSigned w32 (combined_id (record { mismatch = combined.mismatch; id = named }))
    by_id None fits = search rules
    by_id (Some id) fits = fits id refl

flags_fit : (mismatch : Bool) (named : Option ℤ)
    → combined_flags (record { mismatch = mismatch; id = named }) ≤ 3
flags_fit true None = omega arith
flags_fit true (Some id) = omega arith
flags_fit false None = omega arith
flags_fit false (Some id) = omega arith

part_notification : (nodes phase : ℕ) (part : PhasePart) → nodes ≤ 256 → phase < 2 ^ 64 → PartFits nodes part
    → IsNotification nodes (notification_of phase part)
part_notification nodes phase part few low fits = record {
  phase = low;
  mask = words_fit nodes part.mask few fits.mask;
  id = id_fits part.combined fits.id;
  flags = flags_fit part.combined.mismatch part.combined.id;
}

-- ---- due

slice_get_in : {Item : Type 0} (items : List Item) (place : ℕ) → is_some (slice_get items place) ≡ true
    → place < length items
slice_get_in [] place is = absurd (true≢false (sym is))
slice_get_in (first ∷ items) zero is = omega arith
slice_get_in (first ∷ items) (suc place) is = omega (arith, slice_get_in items place is)

routed_fits : (nodes me : ℕ) (kept : BarrierRecord) (phase to : ℕ) (notification : BarrierNotification) → nodes ≤ 256 → me < nodes
    → IsWithin nodes kept → notification_on_route nodes me (stage me kept phase) to ≡ Some notification
    → IsNotification nodes notification
routed_fits nodes me kept phase to notification few there within is =
    subst (IsNotification nodes) (sym (routed_notification nodes me (stage me kept phase) to notification is))
    (part_notification nodes phase (known_part me kept phase) few (omega (arith, within.count, notified))
    (known_fits nodes me kept phase there within))
  where
    goes : (test : Bool) → cond test (Some (notification_of phase (known_part me kept phase))) None ≡ Some notification → test ≡ true
    goes true same = refl
    goes false same = absurd (cc)

    notified : phase < length kept.notifies
    notified = slice_get_in kept.notifies phase
        (and_parts (is_some (own kept phase)) (any_round nodes me (known_part me kept phase).mask to nodes)
        (goes (goes_to nodes me (is_some (own kept phase)) (known_part me kept phase).mask to) is)).0

due_fits : (nodes me : ℕ) (kept : BarrierRecord) (phase to : ℕ) (notification : BarrierNotification) → nodes ≤ 256 → me < nodes
    → IsWithin nodes kept → due nodes me kept phase to ≡ Some notification → IsNotification nodes notification
due_fits nodes me kept phase to notification few there within is = elim (cases_Bool (was_sent kept phase to)) [
  | inl holds ↦ (let none : None ≡ Some notification = rw holds at is in absurd cc)
  | inr fails ↦ routed_fits nodes me kept phase to notification few there within (rw fails at is)
]

before_fits : (nodes me : ℕ) (kept : BarrierRecord) (ended to : ℕ) (notification : BarrierNotification) → nodes ≤ 256 → me < nodes
    → IsWithin nodes kept → due_before nodes me kept ended to ≡ Some notification → IsNotification nodes notification
before_fits nodes me kept zero to notification few there within is = absurd (cc)
before_fits nodes me kept (suc phase) to notification few there within is =
    due_fits nodes me kept phase to notification few there within is

pub notifications_fit : NotificationsFit
notifications_fit nodes me kept to notification few there within is = elim (or_else_is _ _ notification is) [
  | inl last ↦ before_fits nodes me kept kept.ended to notification few there within last
  | inr now ↦ due_fits nodes me kept kept.ended to notification few there within now
]

-- ---- each step

within_notify : (nodes : ℕ) (kept : BarrierRecord) (id : ℤ) (flags : ℕ) → IsWithin nodes kept → FitsSigned w32 id
    → IsWithin nodes (notify_after kept id flags (notify_answer kept id flags))
within_notify nodes kept id flags within fits = by_flags (cases_Bool (nat_lt 3 flags))
  where
    notify : Notify
    notify = record { id = id; flags = flags }

    taken : own kept kept.ended ≡ None → kept.ended ≢ 2 ^ 64 - 1
        → IsWithin nodes (record kept { notifies = kept.notifies ++ notify ∷ [] })
    taken none left =
        let short : length kept.notifies ≤ kept.ended = slice_get_short kept.notifies kept.ended none in
        let more = length-append kept.notifies (notify ∷ []) in
        record {
          low = omega (arith, more, within.low);
          count = omega (arith, more, short, within.low, within.count, left);
          own = λ phase any is. elim (slice_get_push kept.notifies notify phase any is) [
            | inl was ↦ within.own phase any was
            | inr new ↦ subst (λ (one : Notify). FitsSigned w32 one.id) new fits
          ];
          heard = within.heard;
        }

    by_phase : own kept kept.ended ≡ None → (eqb kept.ended (2 ^ 64 - 1) ≡ true) ⊎ (eqb kept.ended (2 ^ 64 - 1) ≡ false)
        → IsWithin nodes
        (notify_after kept id flags (if kept.ended == 2 ^ 64 - 1 then told.Exhausted else told.Ok))
    by_phase none (inl holds) = rw holds within
    by_phase none (inr fails) = rw fails (taken none (grind (arith, nat_tests, fails)))

    by_own : (mine : Option Notify) → own kept kept.ended ≡ mine → IsWithin nodes (notify_after kept id flags
        (if is_some mine then told.Twice else (if kept.ended == 2 ^ 64 - 1 then told.Exhausted else told.Ok)))
    by_own (Some one) is = within
    by_own None is = by_phase is (cases_Bool (eqb kept.ended (2 ^ 64 - 1)))

    by_flags : (nat_lt 3 flags ≡ true) ⊎ (nat_lt 3 flags ≡ false)
        → IsWithin nodes (notify_after kept id flags (notify_answer kept id flags))
    by_flags (inl holds) = rw holds within
    by_flags (inr fails) = rw fails (by_own (own kept kept.ended) refl)

ending : (nodes : ℕ) (kept : BarrierRecord) → kept.ended < length kept.notifies → IsWithin nodes kept
    → IsWithin nodes (record kept { ended = suc kept.ended })
ending nodes kept low within =
    record { low = low; count = within.count; own = within.own; heard = within.heard }

within_try : (nodes : ℕ) (kept : BarrierRecord) (answer : BarrierAnswer)
    → ((answer ≡ tried.Ok) ⊎ (answer ≡ tried.Mismatch) → is_some (own kept kept.ended) ≡ true)
    → IsWithin nodes kept → IsWithin nodes (try_after kept answer)
within_try nodes kept tried.Ok given within =
    ending nodes kept (slice_get_in kept.notifies kept.ended (given (inl refl))) within
within_try nodes kept tried.Mismatch given within =
    ending nodes kept (slice_get_in kept.notifies kept.ended (given (inr refl))) within
within_try nodes kept tried.NotReady given within = within
within_try nodes kept tried.NoNotify given within = within
within_try nodes kept tried.BadFlags given within = within
within_try nodes kept (tried.Exhausted node) given within = within

within_hear : (nodes : ℕ) (kept : BarrierRecord) (notification : BarrierNotification) → IsWithin nodes kept → IsNotification nodes notification
    → IsWithin nodes (hear kept notification)
within_hear nodes kept notification within is =
    elim (cases_Bool (eqb notification.phase kept.ended || eqb notification.phase (suc kept.ended))) [
      | inl holds ↦ rw holds (record {
        low = within.low;
        count = within.count;
        own = within.own;
        heard = λ place any there. elim (slice_get_push kept.heard notification place any there) [
          | inl was ↦ within.heard place any was
          | inr new ↦ subst (IsNotification nodes) new is
        ];
      })
      | inr fails ↦ rw fails within
    ]

within_send : (nodes : ℕ) (kept : BarrierRecord) (to : ℕ) (notification : Option BarrierNotification) → IsWithin nodes kept
    → IsWithin nodes (send kept to notification)
within_send nodes kept to None within = within
within_send nodes kept to (Some notification) within =
    record { low = within.low; count = within.count; own = within.own; heard = within.heard }

steps_within : (nodes : ℕ) (kept : BarrierRecord) → IsWithin nodes kept → StepsWithin nodes kept
steps_within nodes kept within = record {
  notify = λ id flags fits. within_notify nodes kept id flags within fits;
  tried = λ me try. within_try nodes kept (try_answer nodes me kept try)
      (λ ends. let passed = passes nodes me kept try ends in ap is_some passed.1) within;
  hear = λ notification is. within_hear nodes kept notification within is;
  send = λ to notification. within_send nodes kept to notification within;
}

pub stays_within : StaysWithin
stays_within = (
  λ nodes. record {
    low = omega arith;
    count = omega arith;
    own = λ phase notify is. absurd (cc);
    heard = λ place notification is. absurd (cc);
  },
  steps_within,
)
