-- What a step of the plain world changes: its requests, runs and returned credits only become more.
use Rattle.std.proofs.Common.{◌≡◌, ◌⊎◌, inl, inr, ℕ, Bool, true, ◌||◌, List, [], ◌∷◌, ◌++◌, Some, refl, sym, ap, ◌∙◌}
use Rattle.std.proofs.Common.{subst, subst₂, arith, eqb, eqb-true, eq-eqb, ne_eqb}
use Rattle.std.proofs.lemmas.Bool.Decides.{nat_tests}
use Rattle.std.proofs.Math.Bool.{or-false}
use Rattle.std.proofs.lemmas.Bool.{cases_Bool, cases_eq, or_right}
use Rattle.std.proofs.lemmas.List.Folds.{list_any-append}
use Rattle.wire_message.specs.Content.{Content}
use Rattle.base_lists.specs.Numbered.{element_at}
use Rattle.base_lists.specs.Put.{put}
use Rattle.base_lists.proofs.Numbered.{numbered_kept}
use Rattle.base_lists.proofs.Put.{put_same, put_other}
use Rattle.spec_node.specs.declared.answer.Delivered.{Delivered}
use Rattle.spec_node.specs.NodeStep.{Job, OfDelivery}
use Rattle.spec_network.specs.World.{Event, RequestComes, ReplyComes, WorldAnswer, OfNode}
use Rattle.spec_network.specs.Plain.{Plain, PlainRequest, RunReply, InRuns, is_among, reply_of, put_pair, with_plain}
use Rattle.spec_network.specs.Plain.{with_replied, with_credit}
use Rattle.spec_network.specs.PlainStep.{PlainStep}
use Rattle.spec_network.specs.Headline.{Grows, IsRanAnswer, IsReturned}
use Rattle.spec_network.proofs.PlainReadings.{reply_among, among_reply}
use Rattle.spec_network.proofs.PlainChanges.{with_asked, step_changes, Changes, Nothing, Keeps, Accepts, Runs, Returns}

-- ---- it only becomes more

-- a pair was changed, or has what it had
pair_cases : {X : Type 0} (f : ℕ → ℕ → X) (from to : ℕ) (y : X) (a b : ℕ)
    → ((a ≡ from) × (b ≡ to) × (put_pair f from to y a b ≡ y)) ⊎ (put_pair f from to y a b ≡ f a b)
pair_cases f from to y a b = elim (cases_eq a from) [
  | inl u ↦ elim (cases_eq b to) [
    | inl v ↦ inl (u, v, rw (eq-eqb a from u, eq-eqb b to v) refl)
    | inr v ↦ inr (rw (eq-eqb a from u, ne_eqb b to v) (ap (λ c. f c b) (sym u)))
  ]
  | inr u ↦ inr (rw (ne_eqb a from u) refl)
]

-- the pair that was changed has what it got
pub pair_same : {X : Type 0} (f : ℕ → ℕ → X) (from to : ℕ) (y : X) → put_pair f from to y from to ≡ y
pair_same f from to y = ap (λ g. g to) (put_same f from _) ∙ put_same (f from) to y

-- what holds of a pair, and of what it gets
pair_has : {X : Type 0} (P : X → Type 0) (f : ℕ → ℕ → X) (from to : ℕ) (y : X) (a b : ℕ) → (P (f from to) → P y)
    → P (f a b)
    → P (put_pair f from to y a b)
pair_has P f from to y a b go h = elim (pair_cases f from to y a b) [
  | inl c ↦ subst P (sym c.2) (go (subst₂ (λ x z. P (f x z)) c.0 c.1 h))
  | inr e ↦ subst P (sym e) h
]

-- a reply that is there is there with one run more
reply_of_kept : (k : ℕ) (rs : List RunReply) (t : RunReply) (c : Content) → reply_of k rs ≡ Some c
    → reply_of k (rs ++ t ∷ []) ≡ Some c
reply_of_kept k [] t c e = absurd (cc)
reply_of_kept k (r ∷ rs) t c e = elim (cases_eq r.number k) [
  | inl h ↦ grind (arith, nat_tests)
  | inr n ↦ (let ih = reply_of_kept k rs t c (grind (arith, nat_tests)) in grind (arith, nat_tests))
]

-- the same plain world
pub grows_same : {Local : Type 0} (p q : Plain Local) → q ≡ p → Grows p q
grows_same p q e =
    subst (Grows p) (sym e) (record { requests = λ i j k x h. h; runs = λ i j k c h. h; back = λ i j k h. h })

-- a node keeps something else
grows_local : {Local : Type 0} (p q : Plain Local) (i : ℕ) (l : Local) → q ≡ with_plain p i l → Grows p q
grows_local p q i l e =
    subst (Grows p) (sym e) (record { requests = λ a b k x h. h; runs = λ a b k c h. h; back = λ a b k h. h })

-- a request is accepted
grows_asked : {Local : Type 0} (p q : Plain Local) (from to : ℕ) (request : PlainRequest) (local : ℕ → Local)
    → q ≡ with_asked p from to request local → Grows p q
grows_asked p q from to request local e = subst (Grows p) (sym e) (record {
  requests = λ a b k y h.
      pair_has (λ xs. element_at xs k ≡ Some y) p.requests from to _ a b
      (λ g. numbered_kept (p.requests from to) request k y g) h;
  runs = λ a b k d h. h;
  back = λ a b k h. h;
})

-- a request is run
grows_run : {Local : Type 0} (p q : Plain Local) (from to : ℕ) (x : RunReply) (l : Local)
    → q ≡ with_replied p from to x l
    → Grows p q
grows_run p q from to x l e = subst (Grows p) (sym e) (record {
  requests = λ a b k y h. h;
  runs =
      λ a b k c h. pair_has (λ rs. reply_of k rs ≡ Some c) p.runs from to _ a b
      (λ g. reply_of_kept k (p.runs from to) x c g) h;
  back = λ a b k h. h;
})

-- what is so stays so where one more becomes so
put_true : (f : ℕ → Bool) (k l : ℕ) → f l ≡ true → put f k true l ≡ true
put_true f k l h = elim (cases_eq l k) [ inl u ↦ rw (eq-eqb l k u) refl | inr n ↦ rw (ne_eqb l k n) h ]

-- a credit comes back
grows_back : {Local : Type 0} (p q : Plain Local) (from to number : ℕ) (l : Local) → q ≡ with_credit p from to number l
    → Grows p q
grows_back p q from to number l e = subst (Grows p) (sym e) (record {
  requests = λ a b n x h. h;
  runs = λ a b n c h. h;
  back = λ a b n h. pair_has (λ f. f n ≡ true) p.back from to _ a b (λ g. put_true (p.back from to) number n g) h;
})

-- what a step changes it only adds to
changes_grow : {Local Call Told : Type 0} (p q : Plain Local) (e : Event Call) (a : WorldAnswer Told)
    → Changes p q e a → Grows p q
changes_grow p q e a (Nothing is) = grows_same p q is
changes_grow p q e a (Keeps i l is) = grows_local p q i l is
changes_grow p q e a (Accepts i j x local is) = grows_asked p q i j x local is
changes_grow p q e a (Runs i j x l b ran event answer is) = grows_run p q i j x l is
changes_grow p q e a (Returns i j k l b returned event answer is) = grows_back p q i j k l is

-- after a step there is what there was
pub step_grows : {Local Call Told : Type 0} (job : Job Local Call Told) (p q : Plain Local) (e : Event Call)
    (a : WorldAnswer Told) → PlainStep job p e a q → Grows p q
step_grows job p q e a h = changes_grow p q e a (step_changes job p q e a h)

-- what was run stays run
pub ran_stays : {Local : Type 0} (p q : Plain Local) (from to number : ℕ) → Grows p q → InRuns p from to number
    → InRuns q from to number
ran_stays p q from to number G ran =
    let c = among_reply (p.runs from to) number ran in
    reply_among (q.runs from to) number c.0 (G.runs from to number c.0 c.1)

-- ---- what was run ran by a step, and what is back came back by one

-- it is that event, a delivery that was answered so
abbrev pub IsBy : {Call Told : Type 0} → Event Call → (Delivered → Type 0) → Event Call → WorldAnswer Told → Type 0
IsBy x Says e a = (b : Delivered) × Says b × (e ≡ x) × (a ≡ OfNode (OfDelivery b))

-- among the runs and one more is what was among them, and that one
among_push : (l : ℕ) (rs : List RunReply) (x : RunReply) → is_among l (rs ++ x ∷ []) ≡ (is_among l rs || eqb x.number l)
among_push l rs x =
    list_any-append (λ r. eqb r.number l) rs _ ∙ ap (λ b. is_among l rs || b) (or-false (eqb x.number l))

-- the request that is run was run
pub in_replied : {Local : Type 0} (p : Plain Local) (from to : ℕ) (x : RunReply) (l : Local)
    → InRuns (with_replied p from to x l) from to x.number
in_replied p from to x l =
    let runs = p.runs from to in
    ap (is_among x.number) (pair_same p.runs from to _)
    ∙ (among_push x.number runs x
    ∙ or_right (is_among x.number runs) (eqb x.number x.number) (eq-eqb x.number x.number refl))

-- what was run after a request is run was run before, or is that request
ran_by_run : {Local : Type 0} (p : Plain Local) (from to : ℕ) (x : RunReply) (local : Local) (a b l : ℕ)
    → InRuns (with_replied p from to x local) a b l → InRuns p a b l ⊎ ((from ≡ a) × (to ≡ b) × (x.number ≡ l))
ran_by_run p from to x local a b l h = elim (pair_cases p.runs from to (p.runs from to ++ x ∷ []) a b) [
  | inr other ↦ inl (ap (is_among l) (sym other) ∙ h)
  | inl here ↦ elim (cases_Bool (is_among l (p.runs from to))) [
    | inl was ↦ inl (subst₂ (λ c d. is_among l (p.runs c d) ≡ true) (sym here.0) (sym here.1) was)
    | inr new ↦ inr (
      sym here.0,
      sym here.1,
      eqb-true x.number l (rw new at (sym (among_push l (p.runs from to) x) ∙ (ap (is_among l) (sym here.2) ∙ h))),
    )
  ]
]

-- events of the same request are the same
same_request : {Call : Type 0} {from to number a b l : ℕ} → from ≡ a → to ≡ b → number ≡ l
    → ◌≡◌ {A = Event Call} (RequestComes from to number) (RequestComes a b l)
same_request u v world = cc

-- by what a step changes
changes_ran : {Local Call Told : Type 0} (p q : Plain Local) (e : Event Call) (o : WorldAnswer Told) (a b l : ℕ)
    → Changes p q e o → InRuns q a b l → InRuns p a b l ⊎ IsBy (RequestComes a b l) IsRanAnswer e o
changes_ran p q e o a b l (Runs i j x local d ran event answer is) h =
    elim (ran_by_run p i j x local a b l (subst (λ r. InRuns r a b l) is h)) [
      | inl was ↦ inl was
      | inr new ↦ inr (d, ran, event ∙ same_request new.0 new.1 new.2, answer)
    ]
changes_ran p q e o a b l (Nothing is) h = inl (subst (λ r. InRuns r a b l) is h)
changes_ran p q e o a b l (Keeps i x is) h = inl (subst (λ r. InRuns r a b l) is h)
changes_ran p q e o a b l (Accepts i j x local is) h = inl (subst (λ r. InRuns r a b l) is h)
changes_ran p q e o a b l (Returns i j k x d returned event answer is) h = inl (subst (λ r. InRuns r a b l) is h)

-- what was run after a step was run before, or ran by it
pub step_ran : {Local Call Told : Type 0} (job : Job Local Call Told) (p q : Plain Local) (e : Event Call)
    (o : WorldAnswer Told) (a b l : ℕ) → PlainStep job p e o q → InRuns q a b l
    → InRuns p a b l ⊎ IsBy (RequestComes a b l) IsRanAnswer e o
step_ran job p q e o a b l h = changes_ran p q e o a b l (step_changes job p q e o h)

-- what is back after a credit came back was back before, or is that request
back_by_credit : {Local : Type 0} (p : Plain Local) (from to number : ℕ) (x : Local) (a b l : ℕ)
    → (with_credit p from to number x).back a b l ≡ true
    → (p.back a b l ≡ true) ⊎ ((from ≡ a) × (to ≡ b) × (number ≡ l))
back_by_credit p from to number x a b l h = elim (pair_cases p.back from to (put (p.back from to) number true) a b) [
  | inr other ↦ inl (ap (λ f. f l) (sym other) ∙ h)
  | inl here ↦ elim (cases_eq l number) [
    | inl is ↦ inr (sym here.0, sym here.1, sym is)
    | inr n ↦ inl (subst₂ (λ c d. p.back c d l ≡ true) (sym here.0) (sym here.1)
        (sym (put_other (p.back from to) number true l n) ∙ (ap (λ f. f l) (sym here.2) ∙ h)))
  ]
]

-- events of the same reply are the same
same_reply : {Call : Type 0} {from to number a b l : ℕ} → from ≡ a → to ≡ b → number ≡ l
    → ◌≡◌ {A = Event Call} (ReplyComes from to number) (ReplyComes a b l)
same_reply u v world = cc

-- it is back
abbrev IsBack : {Local : Type 0} → (from to number : ℕ) → Plain Local → Type 0
IsBack from to number p = p.back from to number ≡ true

-- by what a step changes
changes_back : {Local Call Told : Type 0} (p q : Plain Local) (e : Event Call) (o : WorldAnswer Told) (a b l : ℕ)
    → Changes p q e o → IsBack a b l q → IsBack a b l p ⊎ IsBy (ReplyComes a b l) IsReturned e o
changes_back p q e o a b l (Returns i j k x d returned event answer is) h =
    elim (back_by_credit p i j k x a b l (subst (IsBack a b l) is h)) [
      | inl was ↦ inl was
      | inr new ↦ inr (d, returned, event ∙ same_reply new.0 new.1 new.2, answer)
    ]
changes_back p q e o a b l (Nothing is) h = inl (subst (IsBack a b l) is h)
changes_back p q e o a b l (Keeps i x is) h = inl (subst (IsBack a b l) is h)
changes_back p q e o a b l (Accepts i j x local is) h = inl (subst (IsBack a b l) is h)
changes_back p q e o a b l (Runs i j x local d ran event answer is) h = inl (subst (IsBack a b l) is h)

-- what is back after a step was back before, or came back by it
pub step_back : {Local Call Told : Type 0} (job : Job Local Call Told) (p q : Plain Local) (e : Event Call)
    (o : WorldAnswer Told) (a b l : ℕ) → PlainStep job p e o q → q.back a b l ≡ true
    → (p.back a b l ≡ true) ⊎ IsBy (ReplyComes a b l) IsReturned e o
step_back job p q e o a b l h = changes_back p q e o a b l (step_changes job p q e o h)
