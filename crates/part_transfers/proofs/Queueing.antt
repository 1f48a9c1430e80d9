-- The queue as places come and go.
use Rattle.std.proofs.Common.{◌≡◌, ◌≢◌, ◌==◌, inl, inr, ℕ, suc, ◌<◌, ◌≤◌, true, false, true≢false, List, []}
use Rattle.std.proofs.Common.{◌∷◌, Option, Some, None, length, map, refl, sym, ap, ◌∙◌, subst, arith, eqb, ne_eqb}
use Rattle.std.proofs.Common.{if◌then◌else◌, eq-eqb, Result, Ok, Err, is_some, is_err, OnSome, OnOk, OnErr}
use Rattle.std.specs.List.{slice_get, list_any, insert, remove, IsDistinct}
use Rattle.std.proofs.lemmas.Bool.{cases_eq}
use Rattle.std.proofs.lemmas.List.{length-map}
use Rattle.std.proofs.lemmas.Map.Steps.{length-le_from_distinct_below}
use Rattle.std.proofs.lemmas.Option.{same_Some}
use Rattle.part_transfers.specs.declared.queue.Queued.{Queued}
use Rattle.part_transfers.specs.Queue.{IsQueue, WaitsAt, IsNowhere, IsQueuedAs, IsIndexFor, Leaves, Enters, Changes, Queues}
use Rattle.part_transfers.proofs.Counts.{none_same}
use Rattle.part_transfers.proofs.Edits.{inserted_was, inserted_here, inserted_kept, removed_was, removed_kept}

-- ---- a place goes

pub queue_removed : (queue : List Queued) (index : ℕ) → IsQueue queue → IsQueue (remove queue index)
queue_removed queue index Q = record {
  order = λ one later first second less at there. elim (removed_was queue index one first at) [
    | inl a ↦ elim (removed_was queue index later second there) [
      | inl b ↦ Q.order one later first second less a.1 b.1
      | inr b ↦ Q.order one (suc later) first second (omega (arith, less)) a.1 b.1
    ]
    | inr a ↦ elim (removed_was queue index later second there) [
      | inl b ↦ absurd (omega (arith, less, a.0, b.0))
      | inr b ↦ Q.order (suc one) (suc later) first second (omega (arith, less)) a.1 b.1
    ]
  ];
  inside = λ at entry is. elim (removed_was queue index at entry is) [
    | inl a ↦ Q.inside at entry a.1
    | inr a ↦ Q.inside (suc at) entry a.1
  ];
}

-- the place that was removed is nowhere any more
pub removed_nowhere : (queue : List Queued) (index place : ℕ) → IsQueue queue → WaitsAt queue index place
    → IsNowhere (remove queue index) place
removed_nowhere queue index place Q A = λ at entry is same. elim (removed_was queue index at entry is) [
  | inl a ↦ (Q.order at index entry A.entry a.0 a.1 A.here).1 (same ∙ sym A.same)
  | inr a ↦ (Q.order index (suc at) A.entry entry (omega (arith, a.0)) A.here a.1).1 (A.same ∙ sym same)
]

-- a place that waited left
pub queue_left : (place : ℕ) (was : Option ℕ) (old new : List Queued) (index : ℕ) → is_some was ≡ true
    → WaitsAt old index place → new ≡ remove old index → IsQueue old → Leaves place was old new
queue_left place None old new index some at is Q = absurd (true≢false (sym some))
queue_left place (Some number) old new index some at is Q = record {
  goes = (index, at, is);
  gone = subst (λ xs. IsNowhere xs place) (sym is) (removed_nowhere old index place Q at);
}

pub removed_some : {X P : Type 0} (found : Option X) {x : X} → found ≡ Some x → OnSome found P → P
removed_some None is held = absurd (cc)
removed_some (Some y) is held = held

-- ---- a place comes

pub refused : {A E P : Type 0} (answer : Result A E) → is_err answer ≡ true → OnErr answer P → P
refused (Ok value) is held = absurd (true≢false (sym is))
refused (Err fault) is held = held

pub accepted : {A E P : Type 0} (answer : Result A E) → is_err answer ≡ false → OnOk answer P → P
accepted (Ok value) is held = held
accepted (Err fault) is held = absurd (true≢false is)

pub queue_inserted : (queue : List Queued) (index number place : ℕ) → IsQueue queue → IsIndexFor queue number index
    → IsNowhere queue place → place < 256
    → IsQueue (insert queue index (record { number = number; place = place }))
queue_inserted queue index number place Q F absent inside = record {
  order = λ one later first second less at there. elim (inserted_was queue index new one first F.within at) [
    | inl a ↦ elim (inserted_was queue index new later second F.within there) [
      | inl b ↦ Q.order one later first second less a.1 b.1
      | inr more ↦ elim more [
        | inl b ↦ (
          (let less = F.before one first a.0 a.1 in
              subst (λ (y : Queued). first.number ≤ y.number) b.1 (omega (arith, less))),
          subst (λ (y : Queued). first.place ≢ y.place) b.1 (absent one first a.1),
        )
        | inr b ↦ Q.order one b.0 first second (omega (arith, a.0, b.2)) a.1 b.3
      ]
    ]
    | inr this ↦ elim this [
      | inl a ↦ elim (inserted_was queue index new later second F.within there) [
        | inl b ↦ absurd (omega (arith, less, a.0, b.0))
        | inr more ↦ elim more [
          | inl b ↦ absurd (omega (arith, less, a.0, b.0))
          | inr b ↦ (
            subst (λ (y : Queued). y.number ≤ second.number) a.1 (F.behind b.0 second b.2 b.3),
            subst (λ (y : Queued). y.place ≢ second.place) a.1 (λ same. absent b.0 second b.3 (sym same)),
          )
        ]
      ]
      | inr a ↦ elim (inserted_was queue index new later second F.within there) [
        | inl b ↦ absurd (omega (arith, less, a.1, a.2, b.0))
        | inr more ↦ elim more [
          | inl b ↦ absurd (omega (arith, less, a.1, a.2, b.0))
          | inr b ↦ Q.order a.0 b.0 first second (omega (arith, less, a.1, b.1)) a.3 b.3
        ]
      ]
    ]
  ];
  inside = λ at entry is. elim (inserted_was queue index new at entry F.within is) [
    | inl a ↦ Q.inside at entry a.1
    | inr more ↦ elim more [
      | inl a ↦ subst (λ (y : Queued). y.place < 256) a.1 inside
      | inr a ↦ Q.inside a.0 entry a.3
    ]
  ];
}
  where
    new : Queued
    new = record { number = number; place = place }

-- ---- there is room

places : List Queued → List ℕ
places queue = map (λ (entry : Queued). entry.place) queue

place_at : (queue : List Queued) (place : ℕ) → list_any (eqb place) (places queue) ≡ true
    → (index : ℕ) × WaitsAt queue index place
unfolding places
place_at [] place is = absurd (true≢false (sym is))
place_at (entry ∷ queue) place is = elim (cases_eq place entry.place) [
  | inl same ↦ (0, record { entry = entry; here = refl; same = sym same })
  | inr apart ↦ (
      let later = place_at queue place (rw (ne_eqb place entry.place apart) at is) in
      let at = later.1 in (suc later.0, record { entry = at.entry; here = at.here; same = at.same }))
]

distinct_places : (queue : List Queued)
    → ((index later : ℕ) (first second : Queued) → index < later → slice_get queue index ≡ Some first
    → slice_get queue later ≡ Some second → first.place ≢ second.place)
    → IsDistinct eqb (places queue)
unfolding IsDistinct places
distinct_places [] apart = tt
distinct_places (entry ∷ queue) apart = (
  none_same entry.place (places queue) (λ is.
      (let later = place_at queue entry.place is in
      apart 0 (suc later.0) entry later.1.entry (omega arith) refl later.1.here (sym later.1.same))),
  distinct_places queue (λ index later first second less at there.
      apart (suc index) (suc later) first second (omega (arith, less)) at there),
)

-- where a place doesn't wait, less than 256 do
pub room_for : (queue : List Queued) (place : ℕ) → IsQueue queue → IsNowhere queue place → place < 256
    → length queue < 256
unfolding IsDistinct places
room_for queue place Q absent inside =
    let all : length (place ∷ places queue) ≤ 256 = length-le_from_distinct_below (place ∷ places queue) 256 (
      none_same place (places queue) (λ is. (let at = place_at queue place is in
          absent at.0 at.1.entry at.1.here at.1.same)),
      distinct_places queue (λ index later first second less at there.
          (Q.order index later first second less at there).1),
    ) below in
    omega (arith, all, length-map queue (λ (entry : Queued). entry.place))
  where
    below : (other : ℕ) → list_any (eqb other) (place ∷ places queue) ≡ true → other < 256
    below other is = elim (cases_eq other place) [
      | inl same ↦ omega (arith, same, inside)
      | inr apart ↦ (
          let at = place_at queue other (rw (ne_eqb other place apart) at is) in
          let less = Q.inside at.0 at.1.entry at.1.here in
          let same = at.1.same in
          omega (arith, less, same))
    ]

-- ---- the queue of the places that wait

pub queued_as : (waits : ℕ → Option ℕ) (queue : List Queued) (place : ℕ) (number : Option ℕ) → Queues waits queue
    → waits place ≡ number → IsQueuedAs queue place number
queued_as waits queue place None Q none =
    λ index entry at same. never entry.number (sym none ∙ (ap waits (sym same) ∙ Q.each index entry at))
  where
    never : (number : ℕ) → ◌≡◌ {A = Option ℕ} None (Some number) → ⊥
    never number is = cc
queued_as waits queue place (Some number) Q some =
    Q.all place number some

queues_same : (waits later : ℕ → Option ℕ) (queue : List Queued) → ((place : ℕ) → later place ≡ waits place)
    → Queues waits queue → Queues later queue
queues_same waits later queue same Q = record {
  each = λ index entry at. same entry.place ∙ Q.each index entry at;
  all = λ place number is. Q.all place number (sym (same place) ∙ is);
}

but_for : (waits later : ℕ → Option ℕ) (place : ℕ) → later place ≡ waits place
    → ((other : ℕ) → other ≢ place → later other ≡ waits other)
    → (other : ℕ) → later other ≡ waits other
but_for waits later place here others other = elim (cases_eq other place) [
  | inl same ↦ ap later same ∙ (here ∙ ap waits (sym same))
  | inr apart ↦ others other apart
]

queues_left : (waits later : ℕ → Option ℕ) (place : ℕ) (was : Option ℕ) (old new : List Queued) → Queues waits old
    → waits place ≡ was → later place ≡ None → ((other : ℕ) → other ≢ place → later other ≡ waits other)
    → Leaves place was old new → Queues later new
queues_left waits later place None old new Q was none others L =
    subst (Queues later) (sym L.goes)
    (queues_same waits later old (but_for waits later place (none ∙ sym was) others) Q)
queues_left waits later place (Some number) old new Q was none others L = record {
  each = λ index entry at. others entry.place (L.gone index entry at) ∙ before index entry at;
  all = all;
}
  where
    is : new ≡ remove old L.goes.0
    is = L.goes.2

    at_was : WaitsAt old L.goes.0 place
    at_was = L.goes.1

    before : (index : ℕ) (entry : Queued) → slice_get new index ≡ Some entry → waits entry.place ≡ Some entry.number
    before index entry at =
        elim (removed_was old L.goes.0 index entry (ap (λ xs. slice_get xs index) (sym is) ∙ at)) [
          | inl a ↦ Q.each index entry a.1
          | inr a ↦ Q.each (suc index) entry a.1
        ]

    never : (by : ℕ) → ◌≡◌ {A = Option ℕ} None (Some by) → ⊥
    never by none_is = cc

    all : (other by : ℕ) → later other ≡ Some by
        → (index : ℕ) × (slice_get new index ≡ Some (record { number = by; place = other }))
    all other by waits_so = elim (cases_eq other place) [
      | inl same ↦ absurd (never by (sym none ∙ (ap later (sym same) ∙ waits_so)))
      | inr apart ↦ (
          let there = Q.all other by (sym (others other apart) ∙ waits_so) in
          let entry : Queued = record { number = by; place = other } in
          let kept = removed_kept old L.goes.0 there.0 entry
          (λ same. apart (ap (λ (y : Queued). y.place) (same_Some entry at_was.entry
          (sym there.1 ∙ (ap (slice_get old) same ∙ at_was.here))) ∙ at_was.same)) there.1 in
          (kept.0, ap (λ xs. slice_get xs kept.0) is ∙ kept.1))
    ]

queues_entered : (waits later : ℕ → Option ℕ) (place : ℕ) (now : Option ℕ) (old new : List Queued) → Queues waits old
    → waits place ≡ None → later place ≡ now → ((other : ℕ) → other ≢ place → later other ≡ waits other)
    → Enters place now old new → Queues later new
queues_entered waits later place None old new Q none now others E =
    subst (Queues later) (sym E) (queues_same waits later old (but_for waits later place (now ∙ sym none) others) Q)
queues_entered waits later place (Some number) old new Q none now others E = record { each = each; all = all }
  where
    entered : Queued
    entered = record { number = number; place = place }

    never : (by : ℕ) → ◌≡◌ {A = Option ℕ} None (Some by) → ⊥
    never by none_is = cc

    old_each : (index : ℕ) (entry : Queued) → slice_get old index ≡ Some entry → later entry.place ≡ Some entry.number
    old_each index entry at =
        others entry.place (λ same. never entry.number (sym none ∙ (ap waits (sym same) ∙ Q.each index entry at)))
        ∙ Q.each index entry at

    each : (index : ℕ) (entry : Queued) → slice_get new index ≡ Some entry → later entry.place ≡ Some entry.number
    each index entry at =
        elim (inserted_was old E.0 entered index entry E.1 (ap (λ xs. slice_get xs index) (sym E.2) ∙ at)) [
          | inl a ↦ old_each index entry a.1
          | inr more ↦ elim more [
            | inl a ↦ subst (λ (y : Queued). later y.place ≡ Some y.number) a.1 now
            | inr a ↦ old_each a.0 entry a.3
          ]
        ]

    all : (other by : ℕ) → later other ≡ Some by
        → (index : ℕ) × (slice_get new index ≡ Some (record { number = by; place = other }))
    all other by waits_so = elim (cases_eq other place) [
      | inl same ↦ (
          let number_is : number ≡ by = same_Some number by (sym now ∙ (ap later (sym same) ∙ waits_so)) in (
            E.0,
            ap (λ xs. slice_get xs E.0) E.2
                ∙ (inserted_here old E.0 entered E.1
                ∙ (ap (λ n. Some (record { number = n; place = place })) number_is
                ∙ ap (λ p. Some (record { number = by; place = p })) (sym same))),
          ))
      | inr apart ↦ (
          let there = Q.all other by (sym (others other apart) ∙ waits_so) in
          let kept = inserted_kept old E.0 entered there.0 (record { number = by; place = other }) E.1 there.1 in
          (kept.0, ap (λ xs. slice_get xs kept.0) E.2 ∙ kept.1))
    ]

-- what waits but for one place
abbrev without : (ℕ → Option ℕ) → (place other : ℕ) → Option ℕ
without waits place other = if other == place then None else waits other

without_it : (waits : ℕ → Option ℕ) (place : ℕ) → without waits place place ≡ None
without_it waits place = rw (eq-eqb place place refl) refl

without_others : (waits : ℕ → Option ℕ) (place other : ℕ) → other ≢ place → without waits place other ≡ waits other
without_others waits place other apart = rw (ne_eqb other place apart) refl

-- the queue has what waits later, where one place waits by another number
pub queues_changed : (waits later : ℕ → Option ℕ) (place : ℕ) (was now : Option ℕ) (old new : List Queued)
    → Queues waits old → waits place ≡ was → later place ≡ now
    → ((other : ℕ) → other ≢ place → later other ≡ waits other)
    → Changes place was now old new → Queues later new
queues_changed waits later place was now old new Q was_so now_so others C = elim C [
  | inl same ↦
      subst (Queues later) (sym same.1)
      (queues_same waits later old (but_for waits later place (now_so ∙ (sym same.0 ∙ sym was_so)) others) Q)
  | inr steps ↦
      queues_entered (without waits place) later place now steps.0 new
      (queues_left waits (without waits place) place was old steps.0 Q was_so (without_it waits place)
      (without_others waits place) steps.1)
      (without_it waits place) now_so
      (λ other apart. others other apart ∙ sym (without_others waits place other apart)) steps.2
]
