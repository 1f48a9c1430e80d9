-- The runs of a peer: which run is found, and what is kept where one more request runs.
use Rattle.std.proofs.Common.{◌≡◌, ◌≢◌, inl, inr, ℕ, zero, suc, max, ◌<◌, ◌≤◌, true, false, true≢false, cond, ◌&&◌}
use Rattle.std.proofs.Common.{◌||◌, List, [], ◌∷◌, ◌++◌, Option, None, Some, refl, sym, ap, ◌∙◌, subst, arith, eqb}
use Rattle.std.proofs.Common.{eqb-true, eq-eqb, ne_eqb}
use Rattle.std.specs.List.{slice_get}
use Rattle.std.specs.Option.{option_or}
use Rattle.std.proofs.lemmas.Bool.{cases_Bool, cases_eq, and_parts, or_cases}
use Rattle.std.proofs.lemmas.Option.{same_Some}
use Rattle.base_lists.proofs.Cases.{none_some, option_or_none}
use Rattle.spec_node.specs.Record.{Run}
use Rattle.spec_node.specs.Executed.{greatest, run_at, has_run, slots_run}
use Rattle.std.proofs.Common.{◌≡◌, ◌⊎◌, inl, inr, ℕ, zero, suc, ◌<◌, ◌≤◌, true, false, true≢false, cond, List}
use Rattle.std.proofs.Common.{[], ◌∷◌, ◌++◌, Some, refl, sym, ap, ◌∙◌, arith, eqb}
use Rattle.std.specs.List.{slice_get}
use Rattle.std.proofs.lemmas.Bool.Decides.{nat_tests}
use Rattle.std.proofs.lemmas.Bool.{cases_Bool, cases_eq, cases_lt}
use Rattle.spec_node.specs.Record.{Run}
use Rattle.spec_node.specs.Executed.{greatest, run_of}

-- ---- which run is found

-- no run of a slot has a greater number
pub greatest_bounds : (runs : List Run) (p : ℕ) (run : Run) → slice_get runs p ≡ Some run
    → run.number ≤ greatest run.slot runs
greatest_bounds [] p run e = absurd (cc)
greatest_bounds (t ∷ runs) zero run e = let i : t ≡ run = cc in rw i (grind (arith, nat_tests))
greatest_bounds (t ∷ runs) (suc p) run e = let ih = greatest_bounds runs p run e in grind (arith, nat_tests, ih)

-- the greatest number is 0 or that of a run of the slot
pub greatest_there : (slot : ℕ) (runs : List Run)
    → (greatest slot runs ≡ 0) ⊎
    ((p : ℕ) × (run : Run) × (slice_get runs p ≡ Some run) × (run.slot ≡ slot) × (run.number ≡ greatest slot runs))
greatest_there slot [] = inl refl
greatest_there slot (t ∷ runs) =
    elim (cases_eq t.slot slot) [
      | inl e ↦ elim (cases_lt (greatest slot runs) t.number) [
        | inl b ↦ inr (0, t, refl, e, grind (arith, nat_tests))
        | inr b ↦ later (greatest_there slot runs) (grind (arith, nat_tests))
      ]
      | inr n ↦ later (greatest_there slot runs) (grind (arith, nat_tests))
    ]
  where
    later : (greatest slot runs ≡ 0) ⊎
        ((p : ℕ) × (run : Run) × (slice_get runs p ≡ Some run) × (run.slot ≡ slot) × (run.number ≡ greatest slot runs))
        → greatest slot (t ∷ runs) ≡ greatest slot runs
        → (greatest slot (t ∷ runs) ≡ 0) ⊎
        ((p : ℕ) × (run : Run) × (slice_get (t ∷ runs) p ≡ Some run) × (run.slot ≡ slot) ×
        (run.number ≡ greatest slot (t ∷ runs)))
    later ih e = elim ih [ inl z ↦ inl (e ∙ z) | inr h ↦ inr (suc h.0, h.1, h.2, h.3, h.4 ∙ sym e) ]

-- the run that is found has that number, and is among the runs
pub run_of_there : (k : ℕ) (runs : List Run) (run : Run) → run_of k runs ≡ Some run
    → (run.number ≡ k) × ((p : ℕ) × (slice_get runs p ≡ Some run))
run_of_there k [] run e = absurd (cc)
run_of_there k (t ∷ runs) run e =
    elim (cases_eq t.number k) [
      | inl h ↦ (let i : t ≡ run = grind (arith, nat_tests) in (ap (λ u. u.number) (sym i) ∙ h, (0, ap Some i)))
      | inr n ↦ (let ih = run_of_there k runs run (grind (arith, nat_tests)) in (ih.0, (suc ih.1.0, ih.1.1)))
    ]

-- a run's number is found
pub run_of_from : (runs : List Run) (p : ℕ) (run : Run) → slice_get runs p ≡ Some run
    → (t : Run) × (run_of run.number runs ≡ Some t)
run_of_from [] p run e = absurd (cc)
run_of_from (t ∷ runs) zero run e = let i : t ≡ run = cc in (t, rw i (grind (arith, nat_tests)))
run_of_from (t ∷ runs) (suc p) run e =
    elim (cases_eq t.number run.number) [
      | inl h ↦ (t, grind (arith, nat_tests))
      | inr n ↦ (let ih = run_of_from runs p run e in (ih.0, grind (arith, nat_tests)))
    ]

-- a run that is found is found with one run more
pub run_of_kept : (k : ℕ) (runs : List Run) (run other_run : Run) → run_of k runs ≡ Some other_run
    → run_of k (runs ++ run ∷ []) ≡ Some other_run
run_of_kept k [] run other_run e = absurd (cc)
run_of_kept k (u ∷ runs) run other_run e =
    elim (cases_eq u.number k) [
      | inl h ↦ grind (arith, nat_tests)
      | inr n ↦ (let ih = run_of_kept k runs run other_run (grind (arith, nat_tests)) in grind (arith, nat_tests))
    ]

-- ---- one run more

-- the greatest number of a slot with one run more
pub greatest_push : (slot : ℕ) (runs : List Run) (run : Run)
    → greatest slot (runs ++ run ∷ [])
    ≡ cond (eqb run.slot slot) (max run.number (greatest slot runs)) (greatest slot runs)
greatest_push slot [] run = refl
greatest_push slot (t ∷ runs) run = let ih = greatest_push slot runs run in elim (cases_Bool (eqb run.slot slot)) [
  | inl a ↦ elim (cases_Bool (eqb t.slot slot)) [ inl b ↦ rw (ih, a, b) (omega arith) | inr b ↦ rw (ih, a, b) refl ]
  | inr a ↦ rw (ih, a) refl
]

-- the run that is found with one run more was found, or it is that run
run_at_push : (slot number : ℕ) (runs : List Run) (run : Run)
    → run_at slot number (runs ++ run ∷ []) ≡ option_or (run_at slot number runs) (run_at slot number (run ∷ []))
run_at_push slot number [] run = refl
run_at_push slot number (t ∷ runs) run =
    let ih = run_at_push slot number runs run in
    elim (cases_Bool (eqb t.number number && eqb t.slot slot)) [ inl a ↦ rw a refl | inr a ↦ rw a ih ]

-- the run that is found has that number and slot, and is among the runs
pub run_at_says : (slot number : ℕ) (runs : List Run) (run : Run) → run_at slot number runs ≡ Some run
    → (run.number ≡ number) × (run.slot ≡ slot) × ((place : ℕ) × (slice_get runs place ≡ Some run))
run_at_says slot number [] run e = absurd (cc)
run_at_says slot number (t ∷ runs) run e = elim (cases_Bool (eqb t.number number && eqb t.slot slot)) [
  | inl a ↦ (let parts = and_parts (eqb t.number number) (eqb t.slot slot) a in
      let is = same_Some t run (rw a at e) in (
        ap (λ (z : Run). z.number) (sym is) ∙ eqb-true t.number number parts.0,
        ap (λ (z : Run). z.slot) (sym is) ∙ eqb-true t.slot slot parts.1,
        (0, ap Some is),
      ))
  | inr a ↦ (let ih = run_at_says slot number runs run (rw a at e) in (ih.0, ih.1, (suc ih.2.0, ih.2.1)))
]

-- no run of a slot has a number above the greatest
run_at_above : (slot number : ℕ) (runs : List Run) → greatest slot runs < number → run_at slot number runs ≡ None
run_at_above slot number runs above = go (run_at slot number runs) refl
  where
    go : (o : Option Run) → run_at slot number runs ≡ o → run_at slot number runs ≡ None
    go None e = e
    go (Some r) e = let it = run_at_says slot number runs r e in
        absurd (omega (
          arith,
          it.0,
          above,
          subst (λ q. r.number ≤ greatest q runs) it.1
              (greatest_bounds runs it.2.0 r it.2.1),
        ))

-- the run of the slot's greatest number, after one more run in the slot
pub last_new : (runs : List Run) (run : Run) → greatest run.slot runs < run.number
    → run_at run.slot (greatest run.slot (runs ++ run ∷ [])) (runs ++ run ∷ []) ≡ Some run
last_new runs run above =
    let top : greatest run.slot (runs ++ run ∷ []) ≡ run.number = greatest_push run.slot runs run
    ∙ rw (eq-eqb run.slot run.slot refl) (omega (arith, above)) in
    rw top (run_at_push run.slot run.number runs run
    ∙ rw (run_at_above run.slot run.number runs above, eq-eqb run.number run.number refl, eq-eqb run.slot run.slot refl)
    refl)

-- and in another slot
pub last_other : (slot : ℕ) (runs : List Run) (run : Run) → slot ≢ run.slot
    → run_at slot (greatest slot (runs ++ run ∷ [])) (runs ++ run ∷ []) ≡ run_at slot (greatest slot runs) runs
last_other slot runs run other =
    let apart = ne_eqb run.slot slot (λ e. other (sym e)) in
    let top : greatest slot (runs ++ run ∷ []) ≡ greatest slot runs = greatest_push slot runs run ∙ rw apart refl in
    rw top (run_at_push slot (greatest slot runs) runs run
    ∙ none (eqb run.number (greatest slot runs)) (eqb run.slot slot) apart)
  where
    none : (a b : _) → b ≡ false
        → option_or (run_at slot (greatest slot runs) runs) (cond (a && b) (Some run) None)
        ≡ run_at slot (greatest slot runs) runs
    none true b e = rw e (option_or_none (run_at slot (greatest slot runs) runs))
    none false b e = option_or_none (run_at slot (greatest slot runs) runs)

-- a run's slot and number are found
pub run_at_from : (runs : List Run) (place : ℕ) (run : Run) → slice_get runs place ≡ Some run
    → (t : Run) × (run_at run.slot run.number runs ≡ Some t)
run_at_from [] place run e = absurd (cc)
run_at_from (t ∷ runs) zero run e =
    let is = same_Some t run e in (
      t,
      rw (
        eq-eqb t.number run.number (ap (λ (z : Run). z.number) is),
        eq-eqb t.slot run.slot
            (ap (λ (z : Run). z.slot) is),
      ) refl,
    )
run_at_from (t ∷ runs) (suc place) run e =
    let ih = run_at_from runs place run e in
    elim (cases_Bool (eqb t.number run.number && eqb t.slot run.slot))
    [ inl a ↦ (t, rw a refl) | inr a ↦ (ih.0, rw a ih.1) ]

-- where nothing is found, the greatest number is 0
pub last_none : (slot : ℕ) (runs : List Run) → run_at slot (greatest slot runs) runs ≡ None → greatest slot runs ≡ 0
last_none slot runs none = elim (greatest_there slot runs) [
  | inl nothing ↦ nothing
  | inr it ↦ (let found = run_at_from runs it.0 it.1 it.2 in
      let same : run_at it.1.slot it.1.number runs ≡ None = rw (it.3, it.4) none in
      absurd (none_some (sym same ∙ found.1)))
]

-- ---- slots that have a run

-- a slot has a run with one run more where it had one, or it is that run's slot
pub has_run_push : (slot : ℕ) (runs : List Run) (run : Run)
    → has_run slot (runs ++ run ∷ []) ≡ (has_run slot runs || eqb run.slot slot)
has_run_push slot [] run = elim (cases_Bool (eqb run.slot slot)) [ inl a ↦ rw a refl | inr a ↦ rw a refl ]
has_run_push slot (t ∷ runs) run =
    let ih = has_run_push slot runs run in elim (cases_Bool (eqb t.slot slot)) [ inl a ↦ rw a refl | inr a ↦ rw a ih ]

-- the slot of a run has one
has_run_from : (runs : List Run) (place : ℕ) (run : Run) → slice_get runs place ≡ Some run
    → has_run run.slot runs ≡ true
has_run_from [] place run e = absurd (cc)
has_run_from (t ∷ runs) zero run e = rw (eq-eqb t.slot run.slot (ap (λ (z : Run). z.slot) (same_Some t run e))) refl
has_run_from (t ∷ runs) (suc place) run e =
    let ih = has_run_from runs place run e in
    elim (cases_Bool (eqb t.slot run.slot)) [ inl a ↦ rw a refl | inr a ↦ rw a ih ]

-- a slot that has a run is that of some run
run_from_has : (slot : ℕ) (runs : List Run) → has_run slot runs ≡ true
    → (place : ℕ) × (run : Run) × (slice_get runs place ≡ Some run) × (run.slot ≡ slot)
run_from_has slot [] e = absurd (true≢false (sym e))
run_from_has slot (t ∷ runs) e = elim (or_cases (eqb t.slot slot) (has_run slot runs) e) [
  | inl a ↦ (0, t, refl, eqb-true t.slot slot a)
  | inr a ↦ (let ih = run_from_has slot runs a in (suc ih.0, ih.1, ih.2, ih.3))
]

-- a slot has a run where the run of its greatest number is found
pub has_run_found : (slot : ℕ) (runs : List Run) (run : Run) → run_at slot (greatest slot runs) runs ≡ Some run
    → has_run slot runs ≡ true
has_run_found slot runs run e =
    let it = run_at_says slot (greatest slot runs) runs run e in
    subst (λ q. has_run q runs ≡ true) it.1 (has_run_from runs it.2.0 run it.2.1)

-- a slot has no run where the run of its greatest number isn't found
pub has_run_none : (slot : ℕ) (runs : List Run) → run_at slot (greatest slot runs) runs ≡ None
    → has_run slot runs ≡ false
has_run_none slot runs none = elim (cases_Bool (has_run slot runs)) [
  | inl t ↦ (let it = run_from_has slot runs t in
      let zero : greatest slot runs ≡ 0 = last_none slot runs none in
      let bound : it.1.number ≤ greatest slot runs = subst (λ q. it.1.number ≤ greatest q runs) it.3
      (greatest_bounds runs it.0 it.1 it.2) in
      let number : it.1.number ≡ greatest slot runs = omega (arith, zero, bound) in
      let found = run_at_from runs it.0 it.1 it.2 in
      let same : run_at it.1.slot it.1.number runs ≡ None = rw (it.3, number) none in
      absurd (none_some (sym same ∙ found.1)))
  | inr f ↦ f
]

-- below the slot of one run more as many slots have a run
slots_run_above : (runs : List Run) (run : Run) (n : ℕ) → n ≤ run.slot
    → slots_run (runs ++ run ∷ []) n ≡ slots_run runs n
slots_run_above runs run zero le = refl
slots_run_above runs run (suc n) le =
    let ih = slots_run_above runs run n (omega arith) in
    let same : has_run n (runs ++ run ∷ []) ≡ has_run n runs = has_run_push n runs run
    ∙ rw (ne_eqb run.slot n (λ e. omega (arith, e, le)))
    (elim (cases_Bool (has_run n runs)) [ inl a ↦ rw a refl | inr a ↦ rw a refl ]) in
    rw (ih, same) refl

-- one more slot has a run
pub slots_run_new : (runs : List Run) (run : Run) (n : ℕ) → run.slot < n → has_run run.slot runs ≡ false
    → slots_run (runs ++ run ∷ []) n ≡ suc (slots_run runs n)
slots_run_new runs run zero lt none = absurd (omega arith)
slots_run_new runs run (suc n) lt none = elim (cases_eq n run.slot) [
  | inl e ↦ (let below = slots_run_above runs run n (omega (arith, e)) in
      let was : has_run n runs ≡ false = ap (λ q. has_run q runs) e ∙ none in
      let now : has_run n (runs ++ run ∷ []) ≡ true = has_run_push n runs run
      ∙ rw (was, eq-eqb run.slot n (sym e)) refl in
      rw (below, was, now) (omega arith))
  | inr e ↦ (let ih = slots_run_new runs run n (omega (arith, e, lt)) none in
      let same : has_run n (runs ++ run ∷ []) ≡ has_run n runs = has_run_push n runs run
      ∙ rw (ne_eqb run.slot n (λ h. e (sym h)))
      (elim (cases_Bool (has_run n runs)) [ inl a ↦ rw a refl | inr a ↦ rw a refl ]) in
      rw (ih, same) (omega arith))
]

-- a slot that had a run has one still, and no other has
pub slots_run_again : (runs : List Run) (run : Run) (n : ℕ) → has_run run.slot runs ≡ true
    → slots_run (runs ++ run ∷ []) n ≡ slots_run runs n
slots_run_again runs run zero some = refl
slots_run_again runs run (suc n) some =
    let ih = slots_run_again runs run n some in
    let same : has_run n (runs ++ run ∷ []) ≡ has_run n runs = has_run_push n runs run ∙ elim (cases_eq run.slot n) [
      | inl e ↦ (let was : has_run n runs ≡ true = ap (λ q. has_run q runs) (sym e) ∙ some in rw was refl)
      | inr e ↦ rw (ne_eqb run.slot n e) (elim (cases_Bool (has_run n runs)) [ inl a ↦ rw a refl | inr a ↦ rw a refl ])
    ] in
    rw (ih, same) refl
