-- The requests of a peer: which slots are taken, and which is the smallest free one.
use Rattle.std.proofs.Common.{◌≡◌, ◌⊎◌, inl, inr, ℕ, zero, suc, ◌+◌, ◌<◌, ◌≤◌, true, false, true≢false, cond, List}
use Rattle.std.proofs.Common.{[], ◌∷◌, ◌++◌, length, Some, refl, sym, ap, arith, eqb}
use Rattle.std.specs.List.{list_any, slice_get}
use Rattle.std.proofs.lemmas.Bool.Decides.{nat_tests}
use Rattle.std.proofs.lemmas.Bool.{cases_Bool, cases_eq}
use Rattle.std.proofs.lemmas.Map.Steps.{le-length_from_below}
use Rattle.base_lists.specs.Update.{update}
use Rattle.base_lists.specs.Numbered.{element_at, change}
use Rattle.base_lists.proofs.Update.{update-on}
use Rattle.spec_node.specs.Record.{Request}
use Rattle.spec_node.specs.Requests.{taken_slots, outstanding, least_outside, free_slot, as_back, sent_at}

-- ---- slots that are taken

-- one request more takes its slot, unless it is back
pub taken_push : (requests : List Request) (request : Request)
    → taken_slots (requests ++ request ∷ []) ≡ taken_slots requests ++ taken_slots (request ∷ [])
taken_push [] request = refl
taken_push (x ∷ requests) request =
    elim x.back as (λ b. cond b (taken_slots (requests ++ request ∷ [])) (x.slot ∷ taken_slots (requests ++ request ∷ []))
    ≡ cond b (taken_slots requests)
    (x.slot ∷ taken_slots requests) ++ taken_slots (request ∷ [])) [
      | true ↦ taken_push requests request
      | false ↦ ap (λ l. x.slot ∷ l) (taken_push requests request)
    ]

-- the slot of a request that isn't back is taken
pub taken_has : (requests : List Request) (p : ℕ) (request : Request) → slice_get requests p ≡ Some request
    → request.back ≡ false
    → list_any (eqb request.slot) (taken_slots requests) ≡ true
taken_has [] p request e b = absurd (cc)
taken_has (z ∷ requests) zero request e b = let i : z ≡ request = cc in rw (i, b) (grind arith)
taken_has (z ∷ requests) (suc p) request e b =
    let ih = taken_has requests p request e b in
    elim (cases_Bool z.back) [ inl t ↦ rw t ih | inr f ↦ rw f (grind (arith, ih)) ]

-- the slot of a request by its number that isn't back is taken
pub taken_numbered : (requests : List Request) (k : ℕ) (request : Request) → element_at requests k ≡ Some request
    → request.back ≡ false
    → list_any (eqb request.slot) (taken_slots requests) ≡ true
taken_numbered requests zero request e b = absurd (cc)
taken_numbered requests (suc p) request e b = taken_has requests p request e b

-- what is among the slots taken is that of a request which isn't back
pub taken_from : (requests : List Request) (q : ℕ) → list_any (eqb q) (taken_slots requests) ≡ true
    → (p : ℕ) × (request : Request) × (slice_get requests p ≡ Some request) × (request.back ≡ false)
    × (request.slot ≡ q)
taken_from [] q e = absurd (true≢false (sym e))
taken_from (z ∷ requests) q e = elim (cases_Bool z.back) [
  | inl t ↦ later (taken_from requests q (rw t at e))
  | inr f ↦ elim (cases_eq q z.slot) [
    | inl h ↦ (0, z, refl, f, sym h)
    | inr n ↦ later (taken_from requests q (grind (arith, nat_tests)))
  ]
]
  where
    later : ((p : ℕ) × (request : Request) × (slice_get requests p ≡ Some request) × (request.back ≡ false)
        × (request.slot ≡ q))
        → (p : ℕ) × (request : Request) × (slice_get (z ∷ requests) p ≡ Some request) × (request.back ≡ false)
        × (request.slot ≡ q)
    later h = (suc h.0, h.1, h.2, h.3, h.4)

-- ---- the smallest free slot

-- the least number outside is at most so many tries away
pub least_le : (xs : List ℕ) (many s : ℕ) → least_outside xs many s ≤ s + many
least_le xs zero s = omega arith
least_le xs (suc many) s = let ih = least_le xs many (suc s) in grind arith

-- each number from s on and below it is among them
pub least_below : (xs : List ℕ) (many s q : ℕ) → s ≤ q → q < least_outside xs many s → list_any (eqb q) xs ≡ true
least_below xs zero s q l h = absurd (omega arith)
least_below xs (suc many) s q l h =
    elim (cases_Bool (list_any (eqb s) xs)) [
      | inl t ↦ (elim (cases_eq s q)
          [ inl e ↦ rw (← e) t | inr n ↦ least_below xs many (suc s) q (omega arith) (grind arith) ])
      | inr f ↦ absurd (grind arith)
    ]

-- it isn't among them, or all tries were used
pub least_outside_is : (xs : List ℕ) (many s : ℕ)
    → (list_any (eqb (least_outside xs many s)) xs ≡ false) ⊎ (least_outside xs many s ≡ s + many)
least_outside_is xs zero s = inr (omega arith)
least_outside_is xs (suc many) s =
    elim (cases_Bool (list_any (eqb s) xs)) [
      | inl t ↦ rw t (elim (least_outside_is xs many (suc s)) [ inl h ↦ inl h | inr h ↦ inr (omega (arith, h)) ])
      | inr f ↦ rw f (inl f)
    ]

-- the smallest free slot is at most as great as there are slots taken
pub free_le : (requests : List Request) → free_slot requests ≤ outstanding requests
free_le requests = omega (arith, least_le (taken_slots requests) (outstanding requests) 0)

-- each slot below the smallest free one is taken
pub free_below : (requests : List Request) (q : ℕ) → q < free_slot requests → list_any (eqb q) (taken_slots requests) ≡ true
free_below requests q h = least_below (taken_slots requests) (outstanding requests) 0 q (omega arith) h

-- the smallest free slot isn't taken
pub free_outside : (requests : List Request) → list_any (eqb (free_slot requests)) (taken_slots requests) ≡ false
free_outside requests =
    elim (least_outside_is (taken_slots requests) (outstanding requests) 0) [
      | inl h ↦ h
      | inr e ↦ elim (cases_Bool (list_any (eqb (free_slot requests)) (taken_slots requests))) [
        | inl t ↦ absurd (omega (
          arith,
          le-length_from_below (taken_slots requests) (suc (outstanding requests))
              (λ q l. elim (cases_eq q (free_slot requests))
              [ inl h ↦ rw h t | inr n ↦ free_below requests q (omega (arith, e)) ]),
        ))
        | inr f ↦ f
      ]
    ]

-- ---- a request that comes back, or is sent again

-- no more slots are taken where the request at a place is back
pub taken-back_at : (requests : List Request) (p : ℕ)
    → length (taken_slots (update requests p as_back)) ≤ length (taken_slots requests)
taken-back_at [] p = omega arith
taken-back_at (x ∷ requests) zero = grind arith
taken-back_at (x ∷ requests) (suc p) = let ih = taken-back_at requests p in
    rw (update-on x requests p as_back) (grind arith)

-- no more requests are out where one is back
pub outstanding-back : (requests : List Request) (k : ℕ) → outstanding (change as_back requests k) ≤ outstanding requests
outstanding-back requests zero = omega arith
outstanding-back requests (suc p) = taken-back_at requests p

-- the same slots are taken where the request at a place is sent again
taken-sent_at : (now : ℕ) (requests : List Request) (p : ℕ) → taken_slots (update requests p (sent_at now)) ≡ taken_slots requests
taken-sent_at now [] p = refl
taken-sent_at now (x ∷ requests) zero = refl
taken-sent_at now (x ∷ requests) (suc p) =
    let ih = taken-sent_at now requests p in
    rw (update-on x requests p (sent_at now))
    (elim (cases_Bool x.back) [ inl t ↦ rw t ih | inr f ↦ rw f (ap (λ l. x.slot ∷ l) ih) ])

-- the same slots are taken
pub taken-sent : (now : ℕ) (requests : List Request) (k : ℕ) → taken_slots (change (sent_at now) requests k) ≡ taken_slots requests
taken-sent now requests zero = refl
taken-sent now requests (suc p) = taken-sent_at now requests p

-- as many requests aren't back
pub outstanding-sent : (now : ℕ) (requests : List Request) (k : ℕ)
    → outstanding (change (sent_at now) requests k) ≡ outstanding requests
outstanding-sent now requests k = ap length (taken-sent now requests k)
