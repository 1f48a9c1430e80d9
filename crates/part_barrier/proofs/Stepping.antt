-- Each call keeps that the state stands for the record.
use Rattle.std.proofs.Common.{◌≡◌, ◌≢◌, ◌⊎◌, inl, inr, ℕ, zero, suc, ◌+◌, ◌-◌, ◌^◌, ◌<◌, ◌≤◌, ℤ, Bool, true, false}
use Rattle.std.proofs.Common.{true≢false, ◌||◌, Option, Some, None, List, [], ◌∷◌, ◌++◌, length, refl, sym, ap, ◌∙◌}
use Rattle.std.proofs.Common.{subst, arith, rules, eqb, length-append, if◌then◌else◌, ◌==◌}
use Rattle.std.specs.Prelude.{slice_get, bit_or, is_some, IsSome, nat_lt}
use Rattle.std.proofs.lemmas.Bool.Decides.{nat_tests}
use Rattle.std.proofs.lemmas.Bool.{cases_Bool}
use Rattle.wire_message.specs.declared.notification.BarrierNotification.{BarrierNotification}
use Rattle.part_barrier.specs.declared.known.Notify.{Notify}
use Rattle.part_barrier.specs.declared.answer.Notified.TheVariants as told
use Rattle.part_barrier.specs.declared.answer.BarrierAnswer.TheVariants as tried
use Rattle.part_barrier.specs.Masks.{has, has_all}
use Rattle.part_barrier.specs.Record.{BarrierRecord, SentNotification, PhasePart, is_other_try, own, no_part, join, part_of}
use Rattle.part_barrier.specs.Record.{own_part, heard_part, known_part, hear}
use Rattle.part_barrier.specs.Record.{was_sent, due, due_before, or_else, notification_to, send, notify_answer}
use Rattle.part_barrier.specs.Record.{Stage, Try, stage, notify_after, own_try, try_answer, try_after, notification_on_route}
use Rattle.part_barrier.specs.BarrierState.{BarrierState, last_due, now_due, notification_at}
use Rattle.wire_message.specs.Notifications.{mask_number}
use Rattle.part_barrier.specs.declared.barrier.Barrier.TheInside.{Inside}
use Rattle.part_barrier.specs.Views.{fields_view, IsBarrier}
use Rattle.part_barrier.specs.Stands.{sent_mask, before, barrier_state, BarrierStands}
use Rattle.part_barrier.proofs.Runs.{slice_get_push, routed_notification}
use Rattle.part_barrier.proofs.Standing.{join_assoc, none_join, heard_part_push, heard_part_none, sent_mask_push}
use Rattle.part_barrier.proofs.Standing.{sent_mask_none, sent_mask_has}
use Rattle.base_lists.proofs.Places.{slice_get_short}

-- ---- lists

slice_get_end : {Item : Type 0} (items : List Item) (place : ℕ) → length items ≤ place → slice_get items place ≡ None
slice_get_end [] place far = refl
slice_get_end (item ∷ items) zero far = absurd (omega arith)
slice_get_end (item ∷ items) (suc place) far = slice_get_end items place (omega arith)

slice_get_before : {Item : Type 0} (items : List Item) (last : Item) (place : ℕ) → place < length items
    → slice_get (items ++ last ∷ []) place ≡ slice_get items place
slice_get_before [] last place low = absurd (omega arith)
slice_get_before (item ∷ items) last zero low = refl
slice_get_before (item ∷ items) last (suc place) low = slice_get_before items last place (omega arith)

slice_get_last : {Item : Type 0} (items : List Item) (last : Item) (place : ℕ) → place ≡ length items
    → slice_get (items ++ last ∷ []) place ≡ Some last
slice_get_last [] last place same = rw same refl
slice_get_last (item ∷ items) last zero same = absurd (omega arith)
slice_get_last (item ∷ items) last (suc place) same = slice_get_last items last place (omega arith)

slice_get_in : {Item : Type 0} (items : List Item) (place : ℕ) (item : Item) → slice_get items place ≡ Some item
    → place < length items
slice_get_in [] place item same = absurd (cc)
slice_get_in (first ∷ items) zero item same = omega arith
slice_get_in (first ∷ items) (suc place) item same = omega (arith, slice_get_in items place item same)

own_there : (kept : BarrierRecord) (phase : ℕ) → phase < length kept.notifies → is_some (own kept phase) ≡ true
own_there kept phase low = there kept.notifies phase low
  where
    there : (notifies : List Notify) (phase : ℕ) → phase < length notifies → is_some (slice_get notifies phase) ≡ true
    there [] phase low = absurd (omega arith)
    there (first ∷ notifies) zero low = refl
    there (first ∷ notifies) (suc phase) low = there notifies phase (omega arith)

before_same : {Item : Type 0} (none : Item) (first second : ℕ → Item) (ended : ℕ)
    → ((phase : ℕ) → phase < ended → first phase ≡ second phase) → before none first ended ≡ before none second ended
before_same none first second zero alike = refl
before_same none first second (suc phase) alike = alike phase (omega arith)

-- ---- states

abbrev made : (nodes me phase : ℕ) → (own : Option Notify) → (present next last : PhasePart) → (sent_now sent_last : ℕ)
    → BarrierState
made nodes me phase own present next last sent_now sent_last =
    record {
      nodes = nodes;
      me = me;
      phase = phase;
      own = own;
      present = present;
      next = next;
      last = last;
      sent_now = sent_now;
      sent_last = sent_last;
    }

made_same : {nodes nodes' me me' phase phase' sent_now sent_now' sent_last sent_last' : ℕ} {own own' : Option Notify}
    {present present' next next' last last' : PhasePart}
    → nodes ≡ nodes' → me ≡ me' → phase ≡ phase' → own ≡ own' → present ≡ present' → next ≡ next' → last ≡ last'
    → sent_now ≡ sent_now' → sent_last ≡ sent_last'
    → made nodes me phase own present next last sent_now sent_last
    ≡ made nodes' me' phase' own' present' next' last' sent_now' sent_last'
made_same nodes me phase own present next last sent_now sent_last = cc

same_state : {first second : BarrierState} → first.nodes ≡ second.nodes → first.me ≡ second.me
    → first.phase ≡ second.phase
    → first.own ≡ second.own → first.present ≡ second.present → first.next ≡ second.next → first.last ≡ second.last
    → first.sent_now ≡ second.sent_now → first.sent_last ≡ second.sent_last → first ≡ second
same_state nodes me phase own present next last sent_now sent_last =
    made_same nodes me phase own present next last sent_now sent_last

-- ---- notify

abbrev pub notified : BarrierState → Notify → BarrierState
notified state notify =
    record state { own = Some notify; present = join (own_part state.me (Some notify)) state.present }

abbrev more : BarrierRecord → Notify → BarrierRecord
more kept notify = record kept { notifies = kept.notifies ++ notify ∷ [] }

given_notify : (nodes me : ℕ) (kept : BarrierRecord) (notify : Notify) → kept.ended ≡ length kept.notifies
    → barrier_state nodes me (more kept notify) ≡ notified (barrier_state nodes me kept) notify
given_notify nodes me kept notify count =
    let here : own (more kept notify) kept.ended ≡ Some notify = slice_get_last kept.notifies notify kept.ended count in
    let was : own kept kept.ended ≡ None = slice_get_end kept.notifies kept.ended (omega arith) in
    let later : own (more kept notify) (suc kept.ended) ≡ None =
    slice_get_end (kept.notifies ++ notify ∷ []) (suc kept.ended)
    (omega (arith, length-append kept.notifies (notify ∷ []))) in
    let unset : own kept (suc kept.ended) ≡ None = slice_get_end kept.notifies (suc kept.ended) (omega arith) in
    let old : (phase : ℕ) → phase < kept.ended → own (more kept notify) phase ≡ own kept phase =
    λ phase low. slice_get_before kept.notifies notify phase (omega arith) in
    let last : before no_part (known_part me (more kept notify)) kept.ended ≡ before no_part (known_part me kept) kept.ended =
    before_same no_part (known_part me (more kept notify)) (known_part me kept) kept.ended
    (λ phase low. ap (λ maybe. join (own_part me maybe) (heard_part phase kept.heard)) (old phase low)) in
    let present : known_part me (more kept notify) kept.ended ≡ join (own_part me (Some notify)) (known_part me kept kept.ended) =
    ap (λ maybe. join (own_part me maybe) (heard_part kept.ended kept.heard)) here
    ∙ ap (join (own_part me (Some notify)))
    (sym (none_join (heard_part kept.ended kept.heard))
    ∙ ap (λ maybe. join (own_part me maybe) (heard_part kept.ended kept.heard)) (sym was)) in
    let next : known_part me (more kept notify) (suc kept.ended) ≡ known_part me kept (suc kept.ended) =
    ap (λ maybe. join (own_part me maybe) (heard_part (suc kept.ended) kept.heard)) (later ∙ sym unset) in
    same_state refl refl refl here present next last refl refl

pub stands_notify : (nodes me : ℕ) (state : BarrierState) (kept : BarrierRecord) (id : ℤ) (flags : ℕ)
    → BarrierStands nodes me state kept → flags ≤ 3 → state.own ≡ None → state.phase ≢ 2 ^ 64 - 1
    → BarrierStands nodes me (notified state (record { id = id; flags = flags }))
    (notify_after kept id flags (notify_answer kept id flags))
stands_notify nodes me state kept id flags stood few none left = rw answer (record {
  is = moved;
  low = omega (arith, length-append kept.notifies (notify ∷ []), stood.low);
  high = omega (arith, length-append kept.notifies (notify ∷ []), stood.high, short);
  heard = stood.heard;
  sent = stood.sent;
})
  where
    notify : Notify
    notify = record { id = id; flags = flags }

    unset : own kept kept.ended ≡ None
    unset = sym (ap (λ other. other.own) stood.is) ∙ none

    short : length kept.notifies ≤ kept.ended
    short = slice_get_short kept.notifies kept.ended unset

    present : state.phase ≡ kept.ended
    present = ap (λ other. other.phase) stood.is

    answer : notify_answer kept id flags ≡ told.Ok
    answer = let few' : nat_lt 3 flags ≡ false = grind (arith, nat_tests) in
        let left' : eqb kept.ended (2 ^ 64 - 1) ≡ false = grind (arith, nat_tests) in rw (few', unset, left') refl

    moved : notified state notify ≡ barrier_state nodes me (more kept notify)
    moved = subst (λ other. notified other notify ≡ barrier_state nodes me (more kept notify)) (sym stood.is)
        (sym (given_notify nodes me kept notify (omega (arith, stood.low, short))))

-- ---- try

abbrev pub over : BarrierState → BarrierState
over state = record state {
  phase = state.phase + 1;
  own = None;
  present = state.next;
  next = no_part;
  last =
      state.present;
  sent_now = 0;
  sent_last = state.sent_now;
}

abbrev ended : BarrierRecord → BarrierRecord
ended kept = record kept { ended = suc kept.ended }

pub stands_over : (nodes me : ℕ) (state : BarrierState) (kept : BarrierRecord) (notify : Notify)
    → BarrierStands nodes me state kept
    → state.own ≡ Some notify → BarrierStands nodes me (over state) (ended kept)
stands_over nodes me state kept notify stood some = record {
  is = subst (λ other. over other ≡ barrier_state nodes me (ended kept)) (sym stood.is) (sym is_over);
  low = slice_get_in kept.notifies kept.ended notify here;
  high = omega (arith, stood.high);
  heard = λ place notification same. omega (arith, stood.heard place notification same);
  sent = λ place other same. omega (arith, stood.sent place other same);
}
  where
    here : own kept kept.ended ≡ Some notify
    here = sym (ap (λ other. other.own) stood.is) ∙ some

    is_over : barrier_state nodes me (ended kept) ≡ over (barrier_state nodes me kept)
    is_over =
        let unset : own kept (suc kept.ended) ≡ None =
        slice_get_end kept.notifies (suc kept.ended) (omega (arith, stood.high)) in
        let later : own kept (suc (suc kept.ended)) ≡ None =
        slice_get_end kept.notifies (suc (suc kept.ended)) (omega (arith, stood.high)) in
        let next : known_part me kept (suc (suc kept.ended)) ≡ no_part =
        ap (λ mine. join (own_part me mine) (heard_part (suc (suc kept.ended)) kept.heard)) later
        ∙ (none_join (heard_part (suc (suc kept.ended)) kept.heard)
        ∙ heard_part_none (suc (suc kept.ended)) kept.heard
        (λ place notification same. omega (arith, stood.heard place notification same))) in
        same_state refl refl (omega arith) unset refl next refl
        (sent_mask_none (suc kept.ended) kept.sent
        (λ place other same. omega (arith, stood.sent place other same))) refl

-- a try on a complete phase ends it
pub stands_try : (nodes me : ℕ) (state : BarrierState) (kept : BarrierRecord) (notify : Notify) (try : Try)
    → BarrierStands nodes me state kept → try.flags ≤ 3 → state.own ≡ Some notify
    → has_all state.present.mask state.nodes ≡ true
    → BarrierStands nodes me (over state) (try_after kept (try_answer nodes me kept try))
stands_try nodes me state kept notify try stood few some all =
    rw ends (stands_over nodes me state kept notify stood some)
  where
    few' : nat_lt 3 try.flags ≡ false
    few' = grind (arith, nat_tests)

    here : own kept kept.ended ≡ Some notify
    here = sym (ap (λ other. other.own) stood.is) ∙ some

    complete : has_all (known_part me kept kept.ended).mask nodes ≡ true
    complete = sym (ap (λ other. has_all other.present.mask other.nodes) stood.is) ∙ all

    after : (test : Bool) → try_after kept (if test then tried.Mismatch else tried.Ok) ≡ ended kept
    after true = refl
    after false = refl

    goes : (part : PhasePart) (mine : Option Notify) → mine ≡ Some notify → has_all part.mask nodes ≡ true
        → try_after kept (own_try nodes part try mine) ≡ ended kept
    goes part mine has whole = rw (has, whole) (after (part.combined.mismatch || is_other_try notify try.id try.flags))

    ends : try_after kept (try_answer nodes me kept try) ≡ ended kept
    ends = rw few' (goes (known_part me kept kept.ended) (own kept kept.ended) here complete)

-- ---- a notification comes

abbrev with_heard : BarrierRecord → BarrierNotification → BarrierRecord
with_heard kept notification = record kept { heard = kept.heard ++ notification ∷ [] }

known_push : (me : ℕ) (kept : BarrierRecord) (notification : BarrierNotification) (phase : ℕ) → notification.phase ≡ phase
    → known_part me (with_heard kept notification) phase ≡ join (known_part me kept phase) (part_of notification)
known_push me kept notification phase same =
    let test : eqb notification.phase phase ≡ true = grind (arith, nat_tests) in
    let pushed : heard_part phase (kept.heard ++ notification ∷ []) ≡ join (heard_part phase kept.heard) (part_of notification) =
    heard_part_push phase kept.heard notification ∙ rw test refl in
    ap (join (own_part me (own kept phase))) pushed
    ∙ sym (join_assoc (own_part me (own kept phase)) (heard_part phase kept.heard) (part_of notification))

known_push_other : (me : ℕ) (kept : BarrierRecord) (notification : BarrierNotification) (phase : ℕ) → notification.phase ≢ phase
    → known_part me (with_heard kept notification) phase ≡ known_part me kept phase
known_push_other me kept notification phase same =
    let test : eqb notification.phase phase ≡ false = grind (arith, nat_tests) in
    let pushed : heard_part phase (kept.heard ++ notification ∷ []) ≡ heard_part phase kept.heard =
    heard_part_push phase kept.heard notification ∙ rw test refl in
    ap (join (own_part me (own kept phase))) pushed

heard_is : (kept : BarrierRecord) (notification : BarrierNotification) → (notification.phase ≡ kept.ended) ⊎ (notification.phase ≡ suc kept.ended)
    → hear kept notification ≡ with_heard kept notification
heard_is kept notification (inl same) = let test : eqb notification.phase kept.ended ≡ true = grind (arith, nat_tests) in rw test refl
heard_is kept notification (inr same) = let test : eqb notification.phase kept.ended ≡ false = grind (arith, nat_tests) in
    let next : eqb notification.phase (suc kept.ended) ≡ true = grind (arith, nat_tests) in rw (test, next) refl

stands_heard : (nodes me : ℕ) (state newer : BarrierState) (kept : BarrierRecord) (notification : BarrierNotification)
    → BarrierStands nodes me state kept → notification.phase ≤ suc kept.ended → newer ≡ barrier_state nodes me (with_heard kept notification)
    → BarrierStands nodes me newer (with_heard kept notification)
stands_heard nodes me state newer kept notification stood low same = record {
  is = same;
  low = stood.low;
  high = stood.high;
  heard = λ place one found. elim
      (slice_get_push kept.heard notification place one found) [
        | inl was ↦ stood.heard place one was
        | inr new ↦ subst
            (λ (any : BarrierNotification). any.phase ≤ suc kept.ended) new low
      ];
  sent = stood.sent;
}

pub stands_present : (nodes me : ℕ) (state : BarrierState) (kept : BarrierRecord) (notification : BarrierNotification)
    → BarrierStands nodes me state kept → notification.phase ≡ state.phase
    → BarrierStands nodes me (record state { present = join state.present (part_of notification) }) (hear kept notification)
stands_present nodes me state kept notification stood same =
    rw (heard_is kept notification (inl here)) (stands_heard nodes me state
    (record state { present = join state.present (part_of notification) }) kept notification stood (omega (arith, here))
    (subst (λ (any : BarrierState). record any { present = join any.present (part_of notification) } ≡ barrier_state nodes me
    (with_heard kept notification)) (sym stood.is) (sym is_given)))
  where
    here : notification.phase ≡ kept.ended
    here = same ∙ ap (λ any. any.phase) stood.is

    is_given : barrier_state nodes me (with_heard kept notification) ≡ record
        (barrier_state nodes me kept) { present = join (known_part me kept kept.ended) (part_of notification) }
    is_given = same_state refl refl refl refl (known_push me kept notification kept.ended here)
        (known_push_other me kept notification (suc kept.ended) (omega (arith, here)))
        (before_same no_part (known_part me (with_heard kept notification)) (known_part me kept) kept.ended
        (λ phase low. known_push_other me kept notification phase (omega (arith, here)))) refl refl

pub stands_next : (nodes me : ℕ) (state : BarrierState) (kept : BarrierRecord) (notification : BarrierNotification)
    → BarrierStands nodes me state kept → notification.phase ≡ suc state.phase
    → BarrierStands nodes me (record state { next = join state.next (part_of notification) }) (hear kept notification)
stands_next nodes me state kept notification stood same =
    rw (heard_is kept notification (inr here)) (stands_heard nodes me state
    (record state { next = join state.next (part_of notification) }) kept notification stood (omega (arith, here))
    (subst (λ (any : BarrierState). record any { next = join any.next (part_of notification) }
    ≡ barrier_state nodes me (with_heard kept notification))
    (sym stood.is) (sym is_given)))
  where
    here : notification.phase ≡ suc kept.ended
    here = same ∙ ap (λ any. suc any.phase) stood.is

    is_given : barrier_state nodes me (with_heard kept notification) ≡ record
        (barrier_state nodes me kept) { next = join (known_part me kept (suc kept.ended)) (part_of notification) }
    is_given = same_state refl refl refl refl (known_push_other me kept notification kept.ended (omega (arith, here)))
        (known_push me kept notification (suc kept.ended) here)
        (before_same no_part (known_part me (with_heard kept notification)) (known_part me kept) kept.ended
        (λ phase low. known_push_other me kept notification phase (omega (arith, here)))) refl refl

-- ---- a notification goes

last_is : (nodes me : ℕ) (kept : BarrierRecord) (to ended : ℕ) → ended ≤ length kept.notifies
    → (if (ended == 0) || has
    (before 0 (λ phase. sent_mask phase kept.sent) ended) to then None else notification_on_route nodes me
    (record { phase = ended - 1; notified = true; part = before no_part (known_part me kept) ended }) to)
    ≡ due_before nodes me kept ended to
last_is nodes me kept to zero low = refl
last_is nodes me kept to (suc phase) low =
    let one_less : suc phase - 1 ≡ phase = omega arith in
    let test : eqb (suc phase) 0 ≡ false = grind (arith, nat_tests) in
    rw (one_less, test, sent_mask_has phase to kept.sent, own_there kept phase (omega (arith, low))) refl

pub now_due_is : (nodes me : ℕ) (state : BarrierState) (kept : BarrierRecord) (to : ℕ)
    → BarrierStands nodes me state kept
    → now_due state to ≡ due nodes me kept kept.ended to
now_due_is nodes me state kept to stood = subst (λ any. now_due any to ≡ due nodes me kept kept.ended to) (sym stood.is)
    (rw (sent_mask_has kept.ended to kept.sent) refl)

pub last_due_is : (nodes me : ℕ) (state : BarrierState) (kept : BarrierRecord) (to : ℕ)
    → BarrierStands nodes me state kept
    → last_due state to ≡ due_before nodes me kept kept.ended to
last_due_is nodes me state kept to stood =
    subst (λ any. last_due any to ≡ due_before nodes me kept kept.ended to) (sym stood.is)
    (last_is nodes me kept to kept.ended stood.low)

pub notification_is : (nodes me : ℕ) (state : BarrierState) (kept : BarrierRecord) (to : ℕ) → BarrierStands nodes me state kept
    → notification_at state to ≡ notification_to nodes me kept to
notification_is nodes me state kept to stood = rw (
  last_due_is nodes me state kept to stood,
  now_due_is nodes me state kept to stood,
) refl

-- the notification of a is of its phase
routed_phase : (nodes me : ℕ) (now : Stage) (to : ℕ) (notification : BarrierNotification)
    → notification_on_route nodes me now to ≡ Some notification → notification.phase ≡ now.phase
routed_phase nodes me now to notification same =
    ap (λ (any : BarrierNotification). any.phase) (routed_notification nodes me now to notification same)

due_phase : (nodes me : ℕ) (kept : BarrierRecord) (phase to : ℕ) (notification : BarrierNotification)
    → due nodes me kept phase to ≡ Some notification → notification.phase ≡ phase
due_phase nodes me kept phase to notification same = elim (cases_Bool (was_sent kept phase to)) [
  | inl other ↦ (let none : None ≡ Some notification = rw other at same in absurd cc)
  | inr f ↦ routed_phase nodes me (stage me kept phase) to notification (rw f at same)
]

before_phase : (nodes me : ℕ) (kept : BarrierRecord) (phase to : ℕ) (notification : BarrierNotification)
    → due_before nodes me kept phase to ≡ Some notification → suc notification.phase ≡ phase
before_phase nodes me kept zero to notification same = absurd (cc)
before_phase nodes me kept (suc phase) to notification same = ap suc (due_phase nodes me kept phase to notification same)

abbrev with_sent : BarrierRecord → ℕ → BarrierNotification → BarrierRecord
with_sent kept to notification = record kept { sent = kept.sent ++ record { to = to; notification = notification } ∷ [] }

sent_same : (kept : BarrierRecord) (to phase : ℕ) (notification : BarrierNotification) → notification.phase ≡ phase
    → sent_mask phase (with_sent kept to notification).sent ≡ bit_or (sent_mask phase kept.sent) (2 ^ to)
sent_same kept to phase notification same = let test : eqb notification.phase phase ≡ true = grind (arith, nat_tests) in
    sent_mask_push phase kept.sent (record { to = to; notification = notification }) ∙ rw test refl

sent_other : (kept : BarrierRecord) (to phase : ℕ) (notification : BarrierNotification) → notification.phase ≢ phase
    → sent_mask phase (with_sent kept to notification).sent ≡ sent_mask phase kept.sent
sent_other kept to phase notification same = let test : eqb notification.phase phase ≡ false = grind (arith, nat_tests) in
    sent_mask_push phase kept.sent (record { to = to; notification = notification }) ∙ rw test refl

stands_sent : (nodes me : ℕ) (state newer : BarrierState) (kept : BarrierRecord) (to : ℕ) (notification : BarrierNotification)
    → BarrierStands nodes me state kept → notification.phase ≤ kept.ended → newer ≡ barrier_state nodes me (with_sent kept to notification)
    → BarrierStands nodes me newer (with_sent kept to notification)
stands_sent nodes me state newer kept to notification stood low same = record {
  is = same;
  low = stood.low;
  high = stood.high;
  heard = stood.heard;
  sent = λ place one found. elim (slice_get_push kept.sent
      (record { to = to; notification = notification }) place one found) [
        | inl was ↦ stood.sent place one was
        | inr new ↦ subst
            (λ (any : SentNotification). any.notification.phase ≤ kept.ended) new low
      ];
}

pub stands_sent_now : (nodes me : ℕ) (state : BarrierState) (kept : BarrierRecord) (to : ℕ) (notification : BarrierNotification)
    → BarrierStands nodes me state kept → last_due state to ≡ None → now_due state to ≡ Some notification
    → BarrierStands nodes me (record state { sent_now = bit_or state.sent_now (2 ^ to) })
    (send kept to (notification_to nodes me kept to))
stands_sent_now nodes me state kept to notification stood none some =
    rw goes (stands_sent nodes me state (record state { sent_now = bit_or state.sent_now (2 ^ to) }) kept to notification stood
    (omega (arith, here))
    (subst (λ (any : BarrierState). record any { sent_now = bit_or any.sent_now (2 ^ to) } ≡ barrier_state nodes me
    (with_sent kept to notification)) (sym stood.is) (sym is_given)))
  where
    here : notification.phase ≡ kept.ended
    here = due_phase nodes me kept kept.ended to notification (sym (now_due_is nodes me state kept to stood) ∙ some)

    goes : notification_to nodes me kept to ≡ Some notification
    goes = sym (notification_is nodes me state kept to stood) ∙ (ap (λ maybe. or_else maybe (now_due state to)) none ∙ some)

    is_given : barrier_state nodes me (with_sent kept to notification) ≡ record
        (barrier_state nodes me kept) { sent_now = bit_or (sent_mask kept.ended kept.sent) (2 ^ to) }
    is_given = same_state refl refl refl refl refl refl refl (sent_same kept to kept.ended notification here)
        (before_same 0 (λ phase. sent_mask phase (with_sent kept to notification).sent)
        (λ phase. sent_mask phase kept.sent) kept.ended
        (λ phase low. sent_other kept to phase notification (omega (arith, here))))

pub stands_sent_last : (nodes me : ℕ) (state : BarrierState) (kept : BarrierRecord) (to : ℕ) (notification : BarrierNotification)
    → BarrierStands nodes me state kept → last_due state to ≡ Some notification
    → BarrierStands nodes me (record state { sent_last = bit_or state.sent_last (2 ^ to) })
    (send kept to (notification_to nodes me kept to))
stands_sent_last nodes me state kept to notification stood some =
    rw goes (stands_sent nodes me state (record state {
      sent_last =
          bit_or state.sent_last (2 ^ to);
    }) kept to notification stood (omega (arith, there))
    (subst (λ (any : BarrierState). record any { sent_last = bit_or any.sent_last (2 ^ to) } ≡ barrier_state nodes me
    (with_sent kept to notification)) (sym stood.is) (sym is_given)))
  where
    there : suc notification.phase ≡ kept.ended
    there = before_phase nodes me kept kept.ended to notification (sym (last_due_is nodes me state kept to stood) ∙ some)

    goes : notification_to nodes me kept to ≡ Some notification
    goes = sym (notification_is nodes me state kept to stood) ∙ ap (λ maybe. or_else maybe (now_due state to)) some

    masks : (ended : ℕ) → suc notification.phase ≡ ended
        → before 0 (λ phase. sent_mask phase (with_sent kept to notification).sent) ended ≡ bit_or
        (before 0 (λ phase. sent_mask phase kept.sent) ended) (2 ^ to)
    masks zero equal = absurd (omega (arith, equal))
    masks (suc phase) equal = sent_same kept to phase notification (omega (arith, equal))

    is_given : barrier_state nodes me (with_sent kept to notification) ≡ record
        (barrier_state nodes me kept) { sent_last = bit_or (before 0 (λ phase. sent_mask phase kept.sent) kept.ended) (2 ^ to) }
    is_given = same_state refl refl refl refl refl refl refl (sent_other kept to kept.ended notification (omega (arith, there)))
        (masks kept.ended there)

pub sends_last : (nodes me : ℕ) (state : BarrierState) (kept : BarrierRecord) (to : ℕ)
    → BarrierStands nodes me state kept
    → is_some (last_due state to) ≡ true
    → BarrierStands nodes me (record state { sent_last = bit_or state.sent_last (2 ^ to) })
    (send kept to (notification_to nodes me kept to))
sends_last nodes me state kept to stood some = by_notification (last_due state to) refl some
  where
    by_notification : (maybe : Option BarrierNotification) → last_due state to ≡ maybe → is_some maybe ≡ true
        → BarrierStands nodes me (record state { sent_last = bit_or state.sent_last (2 ^ to) })
        (send kept to (notification_to nodes me kept to))
    by_notification None is holds = absurd (true≢false (sym holds))
    by_notification (Some notification) is holds = stands_sent_last nodes me state kept to notification stood is

pub sends_now : (nodes me : ℕ) (state : BarrierState) (kept : BarrierRecord) (to : ℕ)
    → BarrierStands nodes me state kept
    → is_some (last_due state to) ≡ false → IsSome (notification_at state to)
    → BarrierStands nodes me (record state { sent_now = bit_or state.sent_now (2 ^ to) })
    (send kept to (notification_to nodes me kept to))
sends_now nodes me state kept to stood none some = by_notifications (last_due state to) (now_due state to) refl refl none some
  where
    by_notifications : (maybe second : Option BarrierNotification) → last_due state to ≡ maybe → now_due state to ≡ second
        → is_some maybe ≡ false → IsSome (or_else maybe second)
        → BarrierStands nodes me (record state { sent_now = bit_or state.sent_now (2 ^ to) })
        (send kept to (notification_to nodes me kept to))
    by_notifications (Some other) second is second_is fails holds = absurd (true≢false fails)
    by_notifications None (Some notification) is second_is fails holds = stands_sent_now nodes me state kept to notification stood is second_is
    by_notifications None None is second_is fails holds = absurd (search rules)

-- ---- where nothing is owed

unowed_now : (inside : Inside) (to : ℕ) → IsBarrier inside
    → (has (mask_number inside.goes_now) to ≡ true → has (mask_number inside.sent_now) to ≡ true)
    → now_due (fields_view inside) to ≡ None
unowed_now inside to kept sent = elim (cases_Bool (has (mask_number inside.sent_now) to)) [
  | inl was ↦ rw was refl
  | inr isnt ↦ elim (cases_Bool (has (mask_number inside.goes_now) to)) [
    | inl goes ↦ absurd (true≢false (sym (sent goes) ∙ isnt))
    | inr stays ↦ rw (isnt, sym (kept.now to) ∙ stays) refl
  ]
]

unowed_last : (inside : Inside) (to : ℕ) → IsBarrier inside
    → ((inside.phase ≡ 0 → ⊥) → has (mask_number inside.goes_last) to ≡ true
    → has (mask_number inside.sent_last) to ≡ true)
    → last_due (fields_view inside) to ≡ None
unowed_last inside to kept sent = elim (cases_Bool (inside.phase == 0)) [
  | inl first ↦ rw first refl
  | inr later ↦
      let some : inside.phase ≡ 0 → ⊥ = λ is. true≢false (sym (ap (λ phase. phase == 0) is) ∙ later) in
      elim (cases_Bool (has (mask_number inside.sent_last) to)) [
        | inl was ↦ rw (later, was) refl
        | inr isnt ↦ elim (cases_Bool (has (mask_number inside.goes_last) to)) [
          | inl goes ↦ absurd (true≢false (sym (sent some goes) ∙ isnt))
          | inr stays ↦ rw (later, isnt, sym (kept.last some to) ∙ stays) refl
        ]
      ]
]

pub unowed : (inside : Inside) (to : ℕ) → IsBarrier inside
    → (has (mask_number inside.goes_now) to ≡ true → has (mask_number inside.sent_now) to ≡ true)
    → ((inside.phase ≡ 0 → ⊥) → has (mask_number inside.goes_last) to ≡ true
    → has (mask_number inside.sent_last) to ≡ true)
    → notification_at (fields_view inside) to ≡ None
unowed inside to kept now last =
    ap (λ notification. or_else notification (now_due (fields_view inside) to)) (unowed_last inside to kept last)
    ∙ unowed_now inside to kept now
