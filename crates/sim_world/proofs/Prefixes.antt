-- How many exchanges at the beginning of a list are back.
use Rattle.std.proofs.Common.{◌≡◌, inl, inr, ℕ, zero, suc, ◌+◌, ◌-◌, ◌<◌, ◌≤◌, true, false, true≢false, List, []}
use Rattle.std.proofs.Common.{◌∷◌, ◌++◌, length, get_or, set, refl, sym, ap, ◌∙◌, arith}
use Rattle.std.proofs.lemmas.Bool.{cases_Bool, cases_lt}
use Rattle.std.proofs.lemmas.Option.{slice_get_read}
use Rattle.base_lists.specs.Update.{update}
use Rattle.base_lists.proofs.Update.{update-Some}
use Rattle.sim_world.specs.ExchangesState.{ExchangesState}
use Rattle.sim_world.specs.Exchanges.{leading_back, new_exchange}
use Rattle.sim_world.specs.declared.exchanges.Exchange.{Exchange}

-- ---- how many are back

-- where the first is back it counts
prefix_more : (e : Exchange) (es : List Exchange) → e.back ≡ true → leading_back (e ∷ es) ≡ suc (leading_back es)
prefix_more e es t = rw t refl

-- where the first is out none counts
prefix_none : (e : Exchange) (es : List Exchange) → e.back ≡ false → leading_back (e ∷ es) ≡ 0
prefix_none e es f = rw f refl

-- they are no more than all
pub prefix_within : (list : List Exchange) → leading_back list ≤ length list
prefix_within [] = omega arith
prefix_within (e ∷ es) = elim (cases_Bool e.back) [
  | inl t ↦ omega (arith, prefix_more e es t, prefix_within es)
  | inr f ↦ omega (arith, prefix_none e es f)
]

-- each of them is back
pub prefix_is_back : (list : List Exchange) (place : ℕ) (d : Exchange) → place < leading_back list
    → (get_or list place d).back ≡ true
prefix_is_back [] place d low = absurd (omega (arith, low))
prefix_is_back (e ∷ es) zero d low = elim (cases_Bool e.back) [
  | inl t ↦ t
  | inr f ↦ absurd (omega (arith, low, prefix_none e es f))
]
prefix_is_back (e ∷ es) (suc place) d low = elim (cases_Bool e.back) [
  | inl t ↦ prefix_is_back es place d (omega (arith, low, prefix_more e es t))
  | inr f ↦ absurd (omega (arith, low, prefix_none e es f))
]

-- the next one is out
pub prefix_is_out : (list : List Exchange) (d : Exchange) → leading_back list < length list
    → (get_or list (leading_back list) d).back ≡ false
prefix_is_out [] d low = absurd (omega (arith, low))
prefix_is_out (e ∷ es) d low = elim (cases_Bool e.back) [
  | inl t ↦ rw (prefix_more e es t) (prefix_is_out es d (omega (arith, low, prefix_more e es t)))
  | inr f ↦ rw (prefix_none e es f) f
]

-- where so many are back and the next one too, one more is
pub prefix_next : (list : List Exchange) (prefix : ℕ) (d : Exchange) → prefix < length list → prefix ≤ leading_back list
    → (get_or list prefix d).back ≡ true → prefix + 1 ≤ leading_back list
prefix_next list prefix d inside low t = elim (cases_lt prefix (leading_back list)) [
  | inl less ↦ omega (arith, less)
  | inr high ↦ (
      let last : leading_back list ≡ prefix = omega (arith, low, high) in
      let out = prefix_is_out list d (omega (arith, inside, last)) in
      absurd (true≢false (sym t ∙ (ap (λ k. (get_or list k d).back) (sym last) ∙ out))))
]

-- where so many are back and the next one is out, no more are
pub prefix_ends : (list : List Exchange) (prefix : ℕ) (d : Exchange) → prefix ≤ leading_back list
    → (get_or list prefix d).back ≡ false → prefix ≡ leading_back list
prefix_ends list prefix d low f = elim (cases_lt prefix (leading_back list)) [
  | inl less ↦ absurd (true≢false (sym (prefix_is_back list prefix d less) ∙ f))
  | inr high ↦ omega (arith, low, high)
]

-- ---- how the list changes

-- a request that is added is out
pub prefix_added : (list : List Exchange) (slot : ℕ) → leading_back (list ++ new_exchange slot ∷ []) ≡ leading_back list
prefix_added [] slot = refl
prefix_added (e ∷ es) slot = elim (cases_Bool e.back) [
  | inl t ↦ prefix_more e (es ++ new_exchange slot ∷ []) t ∙ (ap suc (prefix_added es slot) ∙ sym (prefix_more e es t))
  | inr f ↦ prefix_none e (es ++ new_exchange slot ∷ []) f ∙ sym (prefix_none e es f)
]

-- an exchange that is as much back as the one in whose place it stands
pub prefix_same : (list : List Exchange) (place : ℕ) (x y : Exchange) → x ≡ get_or list place x → y.back ≡ x.back
    → leading_back (set list place y) ≡ leading_back list
prefix_same [] place x y was same = refl
prefix_same (e ∷ es) zero x y was same =
    let back : y.back ≡ e.back = same ∙ ap (λ (z : Exchange). z.back) was in
    elim (cases_Bool e.back) [
      | inl t ↦ prefix_more y es (back ∙ t) ∙ sym (prefix_more e es t)
      | inr f ↦ prefix_none y es (back ∙ f) ∙ sym (prefix_none e es f)
    ]
prefix_same (e ∷ es) (suc place) x y was same = elim (cases_Bool e.back) [
  | inl t ↦ prefix_more e (set es place y) t ∙ (ap suc (prefix_same es place x y was same) ∙ sym (prefix_more e es t))
  | inr f ↦ prefix_none e (set es place y) f ∙ sym (prefix_none e es f)
]

-- where one more is back they become no fewer
pub prefix_grows : (list : List Exchange) (place : ℕ) (x : Exchange) → x.back ≡ true
    → leading_back list ≤ leading_back (set list place x)
prefix_grows [] place x back = omega arith
prefix_grows (e ∷ es) zero x back = elim (cases_Bool e.back) [
  | inl t ↦ omega (arith, prefix_more e es t, prefix_more x es back)
  | inr f ↦ omega (arith, prefix_none e es f)
]
prefix_grows (e ∷ es) (suc place) x back = elim (cases_Bool e.back) [
  | inl t ↦ omega (arith, prefix_more e es t, prefix_more e (set es place x) t, prefix_grows es place x back)
  | inr f ↦ omega (arith, prefix_none e es f)
]

-- ---- what a change is, in the value of the exchanges

-- a place that was written is a number that was changed
pub written_is : (list : List Exchange) (room number : ℕ) (now : ExchangesState) (f : Exchange → Exchange)
    (x : Exchange) → record { list = list; room = room } ≡ now → 1 ≤ number → number ≤ length now.list
    → x ≡ get_or list (number - 1) x
    → set list (number - 1) (f x) ≡ update now.list (number - 1) f
written_is list room number now f x view first last was =
    let same : list ≡ now.list = ap (λ (e : ExchangesState). e.list) view in
    let low : number - 1 < length list = omega (arith, first, last, ap length same) in
    sym (update-Some list (number - 1) f x (slice_get_read list (length list) (number - 1) x refl low was))
    ∙ ap (λ l. update l (number - 1) f) same
