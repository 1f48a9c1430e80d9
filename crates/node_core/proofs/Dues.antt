-- The requests that are due, and the earliest of them.
use Rattle.std.proofs.Common.{◌≡◌, ◌⊎◌, inl, inr, ℕ, zero, suc, ◌+◌, ◌<◌, ◌≤◌, true, false, not, ◌&&◌, List, [], ◌∷◌}
use Rattle.std.proofs.Common.{◌++◌, Option, None, Some, refl, sym, ap, ◌∙◌, subst, arith}
use Rattle.std.specs.Prelude.{nat_le}
use Rattle.std.specs.List.{slice_get}
use Rattle.std.proofs.lemmas.Bool.Decides.{nat_tests}
use Rattle.std.proofs.lemmas.Bool.{cases_Bool, cases_eq, and_parts, not-true}
use Rattle.std.proofs.lemmas.Option.{same_Some}
use Rattle.part_window.specs.Due.{IsNotAfter}
use Rattle.spec_node.specs.Record.{Request}
use Rattle.spec_node.specs.Requests.{Due, is_earlier, dues, all_dues, sooner, earliest}

-- ---- members

-- it is one of these
abbrev pub Among : Due → List Due → Type 0
Among d [] = ⊥
Among d (x ∷ ds) = (d ≡ x) ⊎ Among d ds

-- what is in the first is in both
among_left : (d : Due) (ds es : List Due) → Among d ds → Among d (ds ++ es)
among_left d [] es h = absurd h
among_left d (x ∷ ds) es (inl e) = inl e
among_left d (x ∷ ds) es (inr h) = inr (among_left d ds es h)

-- what is in the second is in both
among_right : (d : Due) (ds es : List Due) → Among d es → Among d (ds ++ es)
among_right d [] es h = h
among_right d (x ∷ ds) es h = inr (among_right d ds es h)

-- what is in both is in one of them
among_either : (d : Due) (ds es : List Due) → Among d (ds ++ es) → Among d ds ⊎ Among d es
among_either d [] es h = inr h
among_either d (x ∷ ds) es (inl e) = inl (inl e)
among_either d (x ∷ ds) es (inr h) = elim (among_either d ds es h) [ inl a ↦ inl (inr a) | inr b ↦ inr b ]

-- what is due of a peer: a request at a place that isn't back, and was sent long enough before
pub record IsDueOf (now resend peer number : ℕ) (xs : List Request) (d : Due) : Type 0 where
  pub place : ℕ
  pub x : Request
  pub at : slice_get xs place ≡ Some x
  pub open_ : x.back ≡ false
  pub long : x.time + resend ≤ now
  pub is : d ≡ record { time = x.time; peer = peer; slot = x.slot; number = number + place }

-- a request that passes the test isn't back, and was sent long enough before
due_here : (now resend : ℕ) (x : Request) → (not x.back && nat_le (x.time + resend) now) ≡ true
    → (x.back ≡ false) × (x.time + resend ≤ now)
due_here now resend x t =
    let parts = and_parts (not x.back) (nat_le (x.time + resend) now) t in
    (not-true x.back parts.0, grind (arith, nat_tests))

-- one place on
due_later : (now resend peer number : ℕ) (x : Request) (xs : List Request) (d : Due)
    → IsDueOf now resend peer (suc number) xs d → IsDueOf now resend peer number (x ∷ xs) d
due_later now resend peer number x xs d h = record {
  place = suc h.place;
  x = h.x;
  at = h.at;
  open_ = h.open_;
  long = h.long;
  is = h.is ∙ ap (λ n. record { time = h.x.time; peer = peer; slot = h.x.slot; number = n }) (omega arith);
}

-- what is due of a peer is such a request
pub dues_has : (now resend peer number : ℕ) (xs : List Request) (d : Due) → Among d (dues now resend peer number xs)
    → IsDueOf now resend peer number xs d
dues_has now resend peer number [] d h = absurd h
dues_has now resend peer number (x ∷ xs) d h = elim (cases_Bool (not x.back && nat_le (x.time + resend) now)) [
  | inl t ↦ elim (rw t at h) [
    | inl e ↦ (let it = due_here now resend x t in
        record {
          place = 0;
          x = x;
          at = refl;
          open_ = it.0;
          long = it.1;
          is = e
              ∙ ap (λ n. record { time = x.time; peer = peer; slot = x.slot; number = n }) (omega arith);
        })
    | inr m ↦ due_later now resend peer number x xs d (dues_has now resend peer (suc number) xs d m)
  ]
  | inr f ↦ due_later now resend peer number x xs d (dues_has now resend peer (suc number) xs d (rw f at h))
]

-- such a request is due
pub dues_from : (now resend peer number : ℕ) (xs : List Request) (place : ℕ) (x : Request)
    → slice_get xs place ≡ Some x → x.back ≡ false → x.time + resend ≤ now
    → Among (record { time = x.time; peer = peer; slot = x.slot; number = number + place })
    (dues now resend peer number xs)
dues_from now resend peer number [] place x at open_ long = absurd (cc)
dues_from now resend peer number (z ∷ xs) zero x at open_ long =
    let is : z ≡ x = same_Some z x at in
    let late : nat_le (z.time + resend) now ≡ true = rw is (grind (arith, nat_tests)) in
    let test : (not z.back && nat_le (z.time + resend) now) ≡ true = rw late
    (rw (ap (λ (a : Request). a.back) is ∙ open_) refl) in
    rw test (inl (ap (λ (a : Request). record { time = a.time; peer = peer; slot = a.slot; number = number + 0 })
    (sym is) ∙ ap (λ n. record { time = z.time; peer = peer; slot = z.slot; number = n }) (omega arith)))
dues_from now resend peer number (z ∷ xs) (suc place) x at open_ long =
    let ih = dues_from now resend peer (suc number) xs place x at open_ long in
    let e : suc number + place ≡ number + suc place = omega arith in
    let here = subst (λ n. Among (record { time = x.time; peer = peer; slot = x.slot; number = n })
    (dues now resend peer (suc number) xs)) e ih in
    elim (cases_Bool (not z.back && nat_le (z.time + resend) now)) [ inl t ↦ rw t (inr here) | inr f ↦ rw f here ]

-- what is due of all peers is due of one
pub all_dues_has : (now resend : ℕ) (asked : ℕ → List Request) (n : ℕ) (d : Due)
    → Among d (all_dues now resend asked n) → (peer : ℕ) × (peer < n) × Among d (dues now resend peer 1 (asked peer))
all_dues_has now resend asked zero d h = absurd h
all_dues_has now resend asked (suc n) d h =
    elim (among_either d (all_dues now resend asked n) (dues now resend n 1 (asked n)) h) [
      | inl a ↦ (let it = all_dues_has now resend asked n d a in (it.0, omega (arith, it.1), it.2))
      | inr b ↦ (n, omega arith, b)
    ]

-- what is due of one is due of all
pub all_dues_from : (now resend : ℕ) (asked : ℕ → List Request) (n : ℕ) (d : Due) (peer : ℕ) → peer < n
    → Among d (dues now resend peer 1 (asked peer)) → Among d (all_dues now resend asked n)
all_dues_from now resend asked zero d peer low h = absurd (omega arith)
all_dues_from now resend asked (suc n) d peer low h = elim (cases_eq peer n) [
  | inl e ↦ among_right d (all_dues now resend asked n) (dues now resend n 1 (asked n))
      (subst (λ q. Among d (dues now resend q 1 (asked q))) e h)
  | inr o ↦ among_left d (all_dues now resend asked n) (dues now resend n 1 (asked n))
      (all_dues_from now resend asked n d peer (omega (arith, low, o)) h)
]

-- ---- the earliest

-- one due request is not after another
abbrev pub NotAfter : Due → Due → Type 0
NotAfter a b =
    IsNotAfter (record { time = a.time; node = a.peer; slot = a.slot })
    (record { time = b.time; node = b.peer; slot = b.slot })

-- they have the same time, peer and slot
abbrev pub SamePlace : Due → Due → Type 0
SamePlace a b = (b.time ≡ a.time) × (b.peer ≡ a.peer) × (b.slot ≡ a.slot)

-- what is not before another isn't earlier
not_earlier : (a b : Due) → NotAfter a b → is_earlier b a ≡ false
not_earlier a b h = elim (cases_eq b.time a.time) [
  | inl t ↦ elim (cases_eq b.peer a.peer) [
    | inl p ↦ (let slot = h.lower_slot t p in grind (arith, nat_tests))
    | inr p ↦ (let peer = h.lower_node t in grind (arith, nat_tests))
  ]
  | inr t ↦ (let time = h.earlier in grind (arith, nat_tests))
]

-- what is not after another, and not earlier, is at the same place
same_or_earlier : (a b : Due) → NotAfter a b → is_earlier a b ≡ false → SamePlace a b
same_or_earlier a b h e = elim (cases_eq b.time a.time) [
  | inl t ↦ elim (cases_eq b.peer a.peer) [
    | inl p ↦ (let slot = h.lower_slot t p in (t, p, grind (arith, nat_tests)))
    | inr p ↦ (let peer = h.lower_node t in absurd (grind (arith, nat_tests)))
  ]
  | inr t ↦ (let time = h.earlier in absurd (grind (arith, nat_tests)))
]

-- the earliest is one of these
pub earliest_in : (ds : List Due) (d : Due) → earliest ds ≡ Some d → Among d ds
earliest_in [] d e = absurd (cc)
earliest_in (x ∷ ds) d e = go (earliest ds) refl (earliest_in ds)
  where
    go : (o : Option Due) → earliest ds ≡ o → ((y : Due) → earliest ds ≡ Some y → Among y ds) → Among d (x ∷ ds)
    go None none ih = inl (sym (same_Some x d (sym (ap (λ o. Some (sooner x o)) none) ∙ e)))
    go (Some y) some ih = elim (cases_Bool (is_earlier y x)) [
      | inl t ↦ (let is : y ≡ d = same_Some y d (sym (ap (λ o. Some (sooner x o)) some ∙ rw t refl) ∙ e) in
          inr (ih d (some ∙ ap Some is)))
      | inr f ↦ inl (sym (same_Some x d (sym (ap (λ o. Some (sooner x o)) some ∙ rw f refl) ∙ e)))
    ]

-- the one that is after none, and is alone at its place
pub earliest_is : (ds : List Due) (d : Due) → Among d ds → ((x : Due) → Among x ds → NotAfter d x)
    → ((x : Due) → Among x ds → SamePlace d x → x ≡ d) → earliest ds ≡ Some d
earliest_is [] d h first alone = absurd h
earliest_is (x ∷ ds) d (inl e) first alone = go (earliest ds) refl
  where
    go : (o : Option Due) → earliest ds ≡ o → earliest (x ∷ ds) ≡ Some d
    go None none = ap (λ o. Some (sooner x o)) none ∙ ap Some (sym e)
    go (Some y) some =
        let later : is_earlier y x ≡ false = subst (λ z. is_earlier y z ≡ false) e
        (not_earlier d y (first y (inr (earliest_in ds y some)))) in
        ap (λ o. Some (sooner x o)) some ∙ rw later (ap Some (sym e))
earliest_is (x ∷ ds) d (inr h) first alone =
    let ih = earliest_is ds d h (λ y m. first y (inr m)) (λ y m s. alone y (inr m) s) in
    ap (λ o. Some (sooner x o)) ih ∙ elim (cases_Bool (is_earlier d x)) [
      | inl t ↦ rw t refl
      | inr f ↦ rw f (ap Some (alone x (inl refl) (same_or_earlier d x (first x (inl refl)) f)))
    ]

-- where nothing is due, nothing is the earliest
pub none_earliest : (ds : List Due) → ((d : Due) → Among d ds → ⊥) → earliest ds ≡ None
none_earliest [] h = refl
none_earliest (x ∷ ds) h = absurd (h x (inl refl))
