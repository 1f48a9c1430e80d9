-- What is kept of the requests of a peer, where one is accepted or comes back.
use Rattle.std.proofs.Common.{◌≡◌, ◌≢◌, inl, inr, ℕ, zero, suc, ◌+◌, ◌<◌, true, false, true≢false, not, ◌&&◌, List, []}
use Rattle.std.proofs.Common.{◌∷◌, ◌++◌, length, Option, None, Some, refl, sym, ap, ap₂, ◌∙◌, subst, arith, eqb}
use Rattle.std.proofs.Common.{eqb-true, eq-eqb, ne_eqb, add-zero}
use Rattle.std.specs.List.{list_any, slice_get, AllByRecursion, IsDistinct}
use Rattle.std.specs.Option.{is_some, option_or}
use Rattle.std.proofs.lemmas.Bool.{cases_Bool, cases_eq, cases_order, or_parts, or_cases, and_parts, not-true}
use Rattle.std.proofs.lemmas.Option.{same_Some}
use Rattle.std.proofs.lemmas.Map.Steps.{length-le_from_distinct_below}
use Rattle.base_lists.specs.Update.{update}
use Rattle.base_lists.specs.Numbered.{element_at, change}
use Rattle.base_lists.proofs.Update.{update-on}
pub use Rattle.base_lists.proofs.Cases.{none_if as none_is}
use Rattle.base_lists.proofs.Cases.{none_if, option_or_none}
use Rattle.base_lists.proofs.Numbered.{numbered_at, numbered_on, numbered-change, numbered-change_here}
use Rattle.spec_node.specs.Record.{Request}
use Rattle.spec_node.specs.Requests.{taken_slots, outstanding, free_slot, is_open, as_back, sent_at, open_from, open_in}
use Rattle.spec_node.proofs.Slots.{free_below, free_outside, taken_from, taken_numbered}

-- ---- which slots are taken

-- a slot has an open request exactly where it is taken
pub open_taken : (slot number : ℕ) (requests : List Request)
    → is_some (open_from slot number requests) ≡ list_any (eqb slot) (taken_slots requests)
open_taken slot number [] = refl
open_taken slot number (x ∷ requests) =
    let ih = open_taken slot (suc number) requests in
    elim (cases_Bool x.back) [
      | inl t ↦ rw t ih
      | inr f ↦ elim (cases_eq x.slot slot) [
        | inl same ↦ rw (f, eq-eqb x.slot slot same, eq-eqb slot x.slot (sym same)) refl
        | inr other ↦ rw (f, ne_eqb x.slot slot other, ne_eqb slot x.slot (λ e. other (sym e))) ih
      ]
    ]

-- what is open in a slot with one request more was, or it is that request
open_push : (slot number : ℕ) (requests : List Request) (request : Request)
    → open_from slot number (requests ++ request ∷ []) ≡ option_or (open_from slot number requests)
    (open_from slot (number + length requests) (request ∷ []))
open_push slot number [] request = rw add-zero refl
open_push slot number (x ∷ requests) request =
    let ih = open_push slot (suc number) requests request in
    let e : suc number + length requests ≡ number + suc (length requests) = omega arith in
    elim (cases_Bool (not x.back && eqb x.slot slot)) [
      | inl t ↦ rw t refl
      | inr f ↦ rw f (ih ∙ ap (λ n. option_or (open_from slot (suc number) requests) (open_from slot n (request ∷ [])))
          e)
    ]

-- ---- a request is accepted

-- a request that is accepted is open in its slot
pub open_new : (requests : List Request) (request : Request) → open_in request.slot requests ≡ None
    → request.back ≡ false
    → open_in request.slot (requests ++ request ∷ []) ≡ Some (1 + length requests, request)
open_new requests request none open_ = open_push request.slot 1 requests request
    ∙ rw (none, open_, eq-eqb request.slot request.slot refl) refl

-- another slot keeps what is open in it when a request is accepted
pub open_other : (slot : ℕ) (requests : List Request) (request : Request) → slot ≢ request.slot
    → open_in slot (requests ++ request ∷ []) ≡ open_in slot requests
open_other slot requests request other =
    open_push slot 1 requests request
    ∙ rw (ne_eqb request.slot slot (λ e. other (sym e)))
    (elim (cases_Bool request.back)
    [ inl t ↦ rw t (option_or_none (open_in slot requests)) | inr f ↦ rw f (option_or_none (open_in slot requests)) ])

-- the smallest slot that is free
pub least_free : (requests : List Request) (slot : ℕ) → list_any (eqb slot) (taken_slots requests) ≡ false
    → ((q : ℕ) → q < slot → list_any (eqb q) (taken_slots requests) ≡ true) → slot ≡ free_slot requests
least_free requests slot free below = elim (cases_order slot (free_slot requests)) [
  | inl same ↦ same
  | inr apart ↦ elim apart [
    | inl less ↦ absurd (true≢false (sym (free_below requests slot less) ∙ free))
    | inr more ↦ absurd (true≢false (sym (below (free_slot requests) more) ∙ free_outside requests))
  ]
]

-- of the requests of one slot all but the last one are back
abbrev pub Apart : List Request → Type 0
Apart xs =
    (k l : ℕ) (request other : Request) → element_at xs k ≡ Some request → element_at xs l ≡ Some other → k < l
    → request.slot ≡ other.slot
    → request.back ≡ true

-- a number that isn't among those differs from each
all_other : (a : ℕ) (ys : List ℕ) → list_any (eqb a) ys ≡ false → AllByRecursion (λ y. eqb a y ≡ false) ys
all_other a [] e = tt
all_other a (y ∷ ys) e = let parts = or_parts (eqb a y) (list_any (eqb a) ys) e in (parts.0, all_other a ys parts.1)

-- slots that are taken are apart
pub taken_apart : (requests : List Request) → Apart requests → IsDistinct eqb (taken_slots requests)
unfolding IsDistinct
taken_apart [] apart = tt
taken_apart (x ∷ requests) apart =
    let ih = taken_apart requests
    (λ k l y z e f b g. apart (suc k) (suc l) y z (numbered_on x requests k y e) (numbered_on x requests l z f)
    (omega arith) g) in
    elim (cases_Bool x.back) [
      | inl t ↦ rw t ih
      | inr f ↦ rw f (
        all_other x.slot (taken_slots requests) (elim (cases_Bool (list_any (eqb x.slot) (taken_slots requests))) [
          | inl there ↦ (let it = taken_from requests x.slot there in
              absurd (true≢false (sym (apart 1 (suc (suc it.0)) x it.1 refl it.2 (omega arith) (sym it.4)) ∙ f)))
          | inr none ↦ none
        ]),
        ih,
      )
    ]

-- with a free slot below n fewer than n are outstanding
pub fewer : (requests : List Request) (n slot : ℕ) → Apart requests
    → ((k : ℕ) (request : Request) → element_at requests k ≡ Some request → request.slot < n)
    → slot < n → list_any (eqb slot) (taken_slots requests) ≡ false → outstanding requests < n
unfolding IsDistinct
fewer requests n slot apart low below free =
    length-le_from_distinct_below (slot ∷ taken_slots requests) n
    (all_other slot (taken_slots requests) free, taken_apart requests apart)
    (λ q e. elim (or_cases (eqb q slot) (list_any (eqb q) (taken_slots requests)) e) [
      | inl same ↦ subst (λ a. a < n) (sym (eqb-true q slot same)) below
      | inr there ↦ (let it = taken_from requests q there in subst (λ a. a < n) it.4 (low (suc it.0) it.1 it.2))
    ])

-- ---- a request comes back

-- what is open in a slot is among the requests, with that slot, and not back
pub open_found : (slot number : ℕ) (requests : List Request) (o : ℕ × Request) → open_from slot number requests ≡ Some o
    → (p : ℕ) × (slice_get requests p ≡ Some o.1) × (o.0 ≡ number + p) × (o.1.back ≡ false) × (o.1.slot ≡ slot)
open_found slot number [] o e = absurd (cc)
open_found slot number (x ∷ requests) o e = elim (cases_Bool (not x.back && eqb x.slot slot)) [
  | inl t ↦ (let parts = and_parts (not x.back) (eqb x.slot slot) t in
      let is = same_Some {A = ℕ × Request} (number, x) o (rw t at e) in
      let at : x ≡ o.1 = ap (λ (a : ℕ × Request). a.1) is in (
        0,
        ap Some at,
        ap (λ (a : ℕ × Request). a.0) (sym is)
            ∙ sym (add-zero number),
        ap (λ (a : Request). a.back) (sym at)
            ∙ not-true x.back parts.0,
        ap (λ (a : Request). a.slot) (sym at) ∙ eqb-true x.slot slot parts.1,
      ))
  | inr f ↦ (let ih = open_found slot (suc number) requests o (rw f at e) in
      (suc ih.0, ih.1, omega (arith, ih.2), ih.3, ih.4))
]

-- what is open is there, with that slot, and not back
pub is_open_says : (slot : ℕ) (o : Option Request) → is_open slot o ≡ true
    → (request : Request) × (o ≡ Some request) × (request.back ≡ false) × (request.slot ≡ slot)
is_open_says slot None e = absurd (true≢false (sym e))
is_open_says slot (Some request) e =
    let parts = and_parts (not request.back) (eqb request.slot slot) e in
    (request, refl, not-true request.back parts.0, eqb-true request.slot slot parts.1)

-- two open requests of one slot are one
pub one_open : (requests : List Request) (k l : ℕ) (request y : Request) → Apart requests
    → element_at requests k ≡ Some request
    → element_at requests l ≡ Some y → request.slot ≡ y.slot → request.back ≡ false → y.back ≡ false → k ≡ l
one_open requests k l request y apart e f same a b = elim (cases_order k l) [
  | inl is ↦ is
  | inr other ↦ elim other [
    | inl less ↦ absurd (true≢false (sym (apart k l request y e f less same) ∙ a))
    | inr more ↦ absurd (true≢false (sym (apart l k y request f e more (sym same)) ∙ b))
  ]
]

-- what is open in a slot is open by its number
pub open_if : (requests : List Request) (slot number : ℕ) (o : ℕ × Request) → open_in slot requests ≡ Some o
    → o.0 ≡ number
    → is_open slot (element_at requests number) ≡ true
open_if requests slot number o here same =
    let it = open_found slot 1 requests o here in
    rw (numbered_at requests number it.0 o.1 it.1 (omega (arith, it.2)), it.3, it.4) (eq-eqb slot slot refl)

-- what is open by its number is what is open in its slot
pub open_says : (requests : List Request) (slot number : ℕ) → Apart requests
    → is_open slot (element_at requests number) ≡ true
    → (request : Request) × (element_at requests number ≡ Some request) × (request.back ≡ false) × (request.slot ≡ slot) ×
    (open_in slot requests ≡ Some (number, request))
open_says requests slot number apart e = go (open_in slot requests) refl
  where
    go : (k : Option (ℕ × Request)) → open_in slot requests ≡ k
        → (request : Request) × (element_at requests number ≡ Some request) × (request.back ≡ false)
        × (request.slot ≡ slot) ×
        (open_in slot requests ≡ Some (number, request))
    go None none =
        let request = is_open_says slot (element_at requests number) e in
        absurd (true≢false (sym
        (ap (λ q. list_any (eqb q) (taken_slots requests)) (sym request.3)
        ∙ taken_numbered requests number request.0 request.1 request.2)
        ∙ (sym (open_taken slot 1 requests) ∙ ap is_some none)))
    go (Some o) some =
        let request = is_open_says slot (element_at requests number) e in
        let it = open_found slot 1 requests o some in
        let at = numbered_at requests o.0 it.0 o.1 it.1 it.2 in
        let k : o.0 ≡ number =
        one_open requests o.0 number o.1 request.0 apart at request.1 (it.4 ∙ sym request.3) it.3 request.2 in
        let y : o.1 ≡ request.0 = same_Some o.1 request.0 (sym at ∙ (ap (element_at requests) k ∙ request.1)) in
        let whole : ◌≡◌ {A = ℕ × Request} o (number, request.0) = ap₂ (λ a b. (a, b)) k y in
        (request.0, request.1, request.2, request.3, some ∙ ap Some whole)

-- another slot keeps what is open in it when the request at a place comes back
open_back_at : (j k : ℕ) (requests : List Request) (p : ℕ) (request : Request) → slice_get requests p ≡ Some request
    → request.slot ≢ j
    → open_from j k (update requests p as_back) ≡ open_from j k requests
open_back_at j k [] p request e n = refl
open_back_at j k (z ∷ requests) zero request e n =
    let i : z.slot ≢ j = (λ h. n (ap (λ (a : Request). a.slot) (sym (same_Some z request e)) ∙ h)) in
    rw (ne_eqb z.slot j i) (elim (cases_Bool z.back) [ inl t ↦ rw t refl | inr f ↦ rw f refl ])
open_back_at j k (z ∷ requests) (suc p) request e n =
    let ih = open_back_at j (suc k) requests p request e n in rw (update-on z requests p as_back, ih) refl

-- another slot keeps what is open in it
pub open_back : (slot : ℕ) (requests : List Request) (number : ℕ) (request : Request)
    → element_at requests number ≡ Some request → request.slot ≢ slot
    → open_in slot (change as_back requests number) ≡ open_in slot requests
open_back slot requests zero request e n = refl
open_back slot requests (suc p) request e n = open_back_at slot 1 requests p request e n

-- after it is back the slot is free
pub open_free : (slot : ℕ) (requests : List Request) (number : ℕ) (request : Request) → Apart requests
    → element_at requests number ≡ Some request
    → request.back ≡ false → request.slot ≡ slot → open_in slot (change as_back requests number) ≡ None
open_free slot requests number request apart e open_ same =
    none_if (open_in slot (change as_back requests number))
    (open_taken slot 1 (change as_back requests number)
    ∙ elim (cases_Bool (list_any (eqb slot) (taken_slots (change as_back requests number)))) [
      | inl t ↦ (let it = taken_from (change as_back requests number) slot t in
          let y = numbered-change as_back requests number (suc it.0) it.1 it.2 in
          absurd (elim y.2 [
            | inl other ↦ other.0
                (one_open requests (suc it.0) number y.0 request apart y.1 e
                (ap (λ (z : Request). z.slot) (sym other.1) ∙ (it.4 ∙ sym same))
                (ap (λ (z : Request). z.back) (sym other.1) ∙ it.3) open_)
            | inr this ↦ true≢false (ap (λ (z : Request). z.back) (sym this.1) ∙ it.3)
          ]))
      | inr f ↦ f
    ])

-- one request fewer isn't back, where it came back by its place
back_fewer_at : (requests : List Request) (p : ℕ) (request : Request) → slice_get requests p ≡ Some request
    → request.back ≡ false
    → suc (length (taken_slots (update requests p as_back))) ≡ length (taken_slots requests)
back_fewer_at [] p request e f = absurd (cc)
back_fewer_at (z ∷ requests) zero request e f =
    let i : z.back ≡ false = ap (λ (a : Request). a.back) (same_Some z request e) ∙ f in rw i refl
back_fewer_at (z ∷ requests) (suc p) request e f =
    let ih = back_fewer_at requests p request e f in
    rw (update-on z requests p as_back) (elim (cases_Bool z.back) [ inl t ↦ rw t ih | inr g ↦ rw g (ap suc ih) ])

-- one request fewer isn't back
pub back_fewer : (requests : List Request) (number : ℕ) (request : Request) → element_at requests number ≡ Some request
    → request.back ≡ false
    → suc (outstanding (change as_back requests number)) ≡ outstanding requests
back_fewer requests zero request e f = absurd (cc)
back_fewer requests (suc p) request e f = back_fewer_at requests p request e f

-- ---- a request is sent again

-- another slot keeps what is open in it when the request at a place is sent again
open_sent_at : (now j k : ℕ) (requests : List Request) (p : ℕ) (request : Request) → slice_get requests p ≡ Some request
    → request.slot ≢ j
    → open_from j k (update requests p (sent_at now)) ≡ open_from j k requests
open_sent_at now j k [] p request e n = refl
open_sent_at now j k (z ∷ requests) zero request e n =
    let i : z.slot ≢ j = (λ h. n (ap (λ (a : Request). a.slot) (sym (same_Some z request e)) ∙ h)) in
    rw (ne_eqb z.slot j i) (elim (cases_Bool z.back) [ inl t ↦ rw t refl | inr f ↦ rw f refl ])
open_sent_at now j k (z ∷ requests) (suc p) request e n =
    let ih = open_sent_at now j (suc k) requests p request e n in rw (update-on z requests p (sent_at now), ih) refl

-- another slot keeps what is open in it
pub open_sent : (now slot : ℕ) (requests : List Request) (number : ℕ) (request : Request)
    → element_at requests number ≡ Some request
    → request.slot ≢ slot → open_in slot (change (sent_at now) requests number) ≡ open_in slot requests
open_sent now slot requests zero request e n = refl
open_sent now slot requests (suc p) request e n = open_sent_at now slot 1 requests p request e n

-- its slot has it with the new time
pub open_sent_here : (now slot : ℕ) (requests : List Request) (number : ℕ) (request : Request)
    → Apart (change (sent_at now) requests number) → element_at requests number ≡ Some request → request.back ≡ false
    → request.slot ≡ slot
    → open_in slot (change (sent_at now) requests number) ≡ Some (number, sent_at now request)
open_sent_here now slot requests number request apart e open_ same =
    let here = numbered-change_here (sent_at now) requests number request e in
    let it = open_says (change (sent_at now) requests number) slot number apart
    (rw (here, open_) (eq-eqb request.slot slot same))
    in
    it.4 ∙ ap (λ (y : Request). Some (number, y)) (same_Some it.0 (sent_at now request) (sym it.1 ∙ here))
