-- What holds of each pair, and of what each node keeps, holds where one node is changed so.
use Rattle.std.proofs.Common.{◌≡◌, ◌⊎◌, inl, inr, ℕ, ◌<◌, List}
use Rattle.std.proofs.Common.{[], Option, Some, sym, ap, ◌∙◌, subst, subst₂, ap₂}
use Rattle.std.proofs.lemmas.Bool.{cases_eq}
use Rattle.wire_message.specs.Parameters.{Parameters}
use Rattle.wire_message.specs.Content.{Content}
use Rattle.base_lists.specs.Numbered.{element_at}
use Rattle.base_lists.specs.Put.{put}
use Rattle.base_lists.proofs.Put.{put_same, put_other}
use Rattle.spec_node.specs.declared.answer.Why.{Why}
use Rattle.spec_node.specs.Record.{Request, Run, Node}
use Rattle.spec_node.specs.Credits.{limits_of}
use Rattle.spec_network.specs.World.{World}
use Rattle.spec_network.specs.Invariant.{PairInvariant, WorldInvariant}

-- what node i keeps by peer was changed at j alone
pub put_cases : {Local X : Type 0} (of : Node Local → ℕ → X) (world : World Local) (i : ℕ) (x : Node Local) (j : ℕ)
    (y : X)
    → of x ≡ put (of (world i)) j y → (a b : ℕ)
    → ((a ≡ i) × (b ≡ j) × (of (put world i x a) b ≡ y)) ⊎ (of (put world i x a) b ≡ of (world a) b)
put_cases of world i x j y e a b =
    elim (cases_eq a i) [
      | inl u ↦ (let here : of (put world i x a) b ≡ put (of (world i)) j y b = ap (λ n. of n b)
          (ap (put world i x) u ∙ put_same world i x) ∙ ap (λ f. f b) e in elim (cases_eq b j) [
            | inl v ↦ inl (u, v, here ∙ (ap (put (of (world i)) j y) v ∙ put_same (of (world i)) j y))
            | inr v ↦ inr (here ∙ (put_other (of (world i)) j y b v ∙ ap (λ c. of (world c) b) (sym u)))
          ])
      | inr u ↦ inr (ap (λ n. of n b) (put_other world i x a u))
    ]

-- what node i keeps wasn't changed
pub put_kept : {Local X : Type 0} (of : Node Local → X) (world : World Local) (i : ℕ) (x : Node Local)
    → of x ≡ of (world i)
    → (a : ℕ) → of (put world i x a) ≡ of (world a)
put_kept of world i x e a =
    elim (cases_eq a i) [
      | inl u ↦ ap of (ap (put world i x) u ∙ put_same world i x) ∙ (e ∙ ap (λ c. of (world c)) (sym u))
      | inr u ↦ ap of (put_other world i x a u)
    ]

-- what each node keeps is good where that of the one is
kept_put : {Local : Type 0} (IsKept : (me : ℕ) → Local → Type 0) (world : World Local) (i : ℕ) (x : Node Local)
    → ((a : ℕ) → IsKept a (world a).local) → IsKept i x.local → (a : ℕ) → IsKept a (put world i x a).local
kept_put IsKept world i x all good a =
    elim (cases_eq a i) [
      | inl e ↦ subst (λ (n : Node _). IsKept a n.local) (sym (ap (put world i x) e ∙ put_same world i x))
          (subst (λ b. IsKept b x.local) (sym e) good)
      | inr n ↦ subst (λ (m : Node _). IsKept a m.local) (sym (put_other world i x a n)) (all a)
    ]

-- what node i asked of j was changed
pub asked_step : {Local : Type 0} (settings : Parameters) (refuses : Content → Option Why)
    (IsKept : (me : ℕ) → Local → Type 0) (world : World Local) (from to : ℕ) (x : Node Local) (requests : List Request)
    → WorldInvariant settings refuses IsKept world → IsKept from x.local → x.asked ≡ put (world from).asked to requests
    → x.ran ≡ (world from).ran
    → (to ≡ from → requests ≡ [])
    → ((k : ℕ) (request : Request) → element_at requests k ≡ Some request
    → (from < settings.nodes) × (to < settings.nodes))
    → PairInvariant (limits_of settings from to) refuses requests ((world to).ran from)
    → WorldInvariant settings refuses IsKept (put world from x)
asked_step settings refuses IsKept world from to x requests holds good e kept own there P = record {
  pair = λ a b. let runs = ap (λ f. f a) (put_kept (λ n. n.ran) world from x kept b) in
      elim (put_cases (λ n. n.asked) world from x to requests e a b) [
        | inl h ↦ subst₂ (λ c d. PairInvariant (limits_of settings c d) refuses ((put world from x a).asked b)
            ((put world from x b).ran a))
            (sym h.0) (sym h.1)
            (subst₂ (λ A R. PairInvariant (limits_of settings from to) refuses A R) (sym h.2)
            (ap₂ (λ c d. (world d).ran c) (sym h.0) (sym h.1) ∙ sym runs) P)
        | inr h ↦ subst₂ (λ A R. PairInvariant (limits_of settings a b) refuses A R) (sym h) (sym runs) (holds.pair a b)
      ];
  own =
      λ a. elim (put_cases (λ n. n.asked) world from x to requests e a a)
      [ inl h ↦ h.2 ∙ own (sym h.1 ∙ h.0) | inr h ↦ h ∙ holds.own a ];
  nodes = λ a b k request f. elim (put_cases (λ n. n.asked) world from x to requests e a b) [
    | inl h ↦ (let it = there k request (ap (λ l. element_at l k) (sym h.2) ∙ f) in
        (subst (λ q. q < settings.nodes) (sym h.0) it.0, subst (λ q. q < settings.nodes) (sym h.1) it.1))
    | inr h ↦ holds.nodes a b k request (ap (λ l. element_at l k) (sym h) ∙ f)
  ];
  kept = kept_put IsKept world from x holds.kept good;
}

-- what node i ran of j was changed
pub ran_step : {Local : Type 0} (settings : Parameters) (refuses : Content → Option Why)
    (IsKept : (me : ℕ) → Local → Type 0)
    (world : World Local) (from to : ℕ) (x : Node Local) (runs : List Run)
    → WorldInvariant settings refuses IsKept world
    → IsKept from x.local
    → x.asked ≡ (world from).asked → x.ran ≡ put (world from).ran to runs
    → PairInvariant (limits_of settings to from) refuses ((world to).asked from) runs
    → WorldInvariant settings refuses IsKept (put world from x)
ran_step settings refuses IsKept world from to x runs holds good kept e P = record {
  pair = λ a b. let asks = ap (λ f. f b) (put_kept (λ n. n.asked) world from x kept a) in
      elim (put_cases (λ n. n.ran) world from x to runs e b a) [
        | inl h ↦ subst₂ (λ c d. PairInvariant (limits_of settings d c) refuses ((put world from x a).asked b)
            ((put world from x b).ran a))
            (sym h.0) (sym h.1)
            (subst₂ (λ A R. PairInvariant (limits_of settings to from) refuses A R)
            (ap₂ (λ c d. (world d).asked c) (sym h.0) (sym h.1) ∙ sym asks) (sym h.2) P)
        | inr h ↦ subst₂ (λ A R. PairInvariant (limits_of settings a b) refuses A R) (sym asks) (sym h) (holds.pair a b)
      ];
  own = λ a. ap (λ f. f a) (put_kept (λ n. n.asked) world from x kept a) ∙ holds.own a;
  nodes =
      λ a b k y f. holds.nodes a b k y
      (ap (λ g. element_at (g b) k) (sym (put_kept (λ n. n.asked) world from x kept a)) ∙ f);
  kept = kept_put IsKept world from x holds.kept good;
}

-- neither what node i asked nor what it ran was changed
pub same_step : {Local : Type 0} (settings : Parameters) (refuses : Content → Option Why)
    (IsKept : (me : ℕ) → Local → Type 0)
    (world : World Local) (i : ℕ) (x : Node Local) → WorldInvariant settings refuses IsKept world → IsKept i x.local
    → x.asked ≡ (world i).asked → x.ran ≡ (world i).ran → WorldInvariant settings refuses IsKept (put world i x)
same_step settings refuses IsKept world i x holds good kept_asked kept_ran = record {
  pair =
      λ a b. subst₂ (λ A R. PairInvariant (limits_of settings a b) refuses A R)
      (sym (ap (λ f. f b) (put_kept (λ n. n.asked) world i x kept_asked a)))
      (sym (ap (λ f. f a) (put_kept (λ n. n.ran) world i x kept_ran b))) (holds.pair a b);
  own = λ a. ap (λ f. f a) (put_kept (λ n. n.asked) world i x kept_asked a) ∙ holds.own a;
  nodes =
      λ a b k y f. holds.nodes a b k y
      (ap (λ g. element_at (g b) k) (sym (put_kept (λ n. n.asked) world i x kept_asked a)) ∙ f);
  kept = kept_put IsKept world i x holds.kept good;
}
