-- What holds of the requests of a peer is kept where one is accepted, comes back, or is sent again.
use Rattle.std.proofs.Common.{◌≡◌, ◌≢◌, ◌⊎◌, inl, inr, ℕ, ◌<◌, true≢false, List, [], ◌∷◌, ◌++◌, length, sym, ap, ◌∙◌}
use Rattle.std.proofs.Common.{subst, arith, eqb, length-append}
use Rattle.std.specs.List.{list_any}
use Rattle.std.proofs.lemmas.Bool.{cases_Bool}
use Rattle.wire_message.specs.Content.{Content}
use Rattle.base_lists.specs.Numbered.{change}
use Rattle.base_lists.proofs.Numbered.{numbered_push, numbered_in, length-change, numbered-change}
use Rattle.spec_node.specs.Record.{Request}
use Rattle.spec_node.specs.Requests.{taken_slots, outstanding, free_slot, as_back, sent_at}
use Rattle.spec_node.specs.Credits.{Limits}
use Rattle.spec_node.specs.Step.{new_request}
use Rattle.spec_node.specs.Invariant.{IsOrderly}
use Rattle.spec_node.proofs.Slots.{taken_push, taken_numbered, free_le, free_outside, outstanding-back}
use Rattle.spec_node.proofs.Slots.{outstanding-sent}

-- no requests
pub orderly_none : (limits : Limits) → IsOrderly limits []
orderly_none limits = record {
  few = omega arith;
  short = omega arith;
  low = λ k x e. absurd (omega (arith, numbered_in [] k x e));
  apart = λ k l x y e f h i. absurd (omega (arith, numbered_in [] k x e));
}

-- a request in the smallest free slot
abbrev pub asks : List Request → Content → ℕ → Request
asks xs c now = new_request now (free_slot xs) c

-- a request is accepted
pub orderly_accepts : (limits : Limits) (requests : List Request) (c : Content) (now : ℕ) → IsOrderly limits requests
    → outstanding requests < limits.credits → length requests < limits.last
    → IsOrderly limits (requests ++ asks requests c now ∷ [])
orderly_accepts limits requests c now P free left = record {
  few = rw (taken_push requests (asks requests c now), length-append (taken_slots requests) (free_slot requests ∷ []))
      (omega arith);
  short = rw (length-append requests (asks requests c now ∷ [])) (omega arith);
  low = λ k x e. elim (numbered_push requests (asks requests c now) k x e) [
    | inl h ↦ P.low k x h
    | inr h ↦ subst (λ (request : Request). request.slot < limits.credits) h.1 (omega (arith, free_le requests))
  ];
  apart = λ k l x request e f b g. elim (numbered_push requests (asks requests c now) l request f) [
    | inl was ↦ elim (numbered_push requests (asks requests c now) k x e) [
      | inl h ↦ P.apart k l x request h was b g
      | inr h ↦ absurd (omega (arith, h.0, numbered_in requests l request was))
    ]
    | inr new ↦ elim (numbered_push requests (asks requests c now) k x e) [
      | inl h ↦ elim (cases_Bool x.back) [
        | inl t ↦ t
        | inr n ↦ (let i : x.slot ≡ free_slot requests = g ∙ ap (λ (z : Request). z.slot) (sym new.1) in
            absurd (true≢false (sym (taken_numbered requests k x h n)
            ∙ (ap (λ q. list_any (eqb q) (taken_slots requests)) i ∙ free_outside requests))))
      ]
      | inr h ↦ absurd (omega (arith, h.0, new.0))
    ]
  ];
}

-- the slot of one that may be back by now
pub back_slot : {q k : ℕ} {request other : Request}
    → ((q ≢ k) × (request ≡ other)) ⊎ ((q ≡ k) × (request ≡ as_back other)) → request.slot ≡ other.slot
back_slot (inl u) = ap (λ (z : Request). z.slot) u.1
back_slot (inr u) = ap (λ (z : Request). z.slot) u.1

-- what one that may be back by now says
pub back_content : {q k : ℕ} {request other : Request}
    → ((q ≢ k) × (request ≡ other)) ⊎ ((q ≡ k) × (request ≡ as_back other)) → request.content ≡ other.content
back_content (inl u) = ap (λ (z : Request). z.content) u.1
back_content (inr u) = ap (λ (z : Request). z.content) u.1

-- a request comes back
pub orderly_back : (limits : Limits) (requests : List Request) (k : ℕ) → IsOrderly limits requests
    → IsOrderly limits (change as_back requests k)
orderly_back limits requests k P = record {
  few = omega (arith, P.few, outstanding-back requests k);
  short = rw (length-change as_back requests k) P.short;
  low =
      λ l x e. let it =
      numbered-change as_back requests k l x e in
      subst (λ q. q < limits.credits) (sym (back_slot it.2)) (P.low l it.0 it.1);
  apart = λ k' l x y e g h i.
      let a = numbered-change as_back requests k k' x e in
      let b = numbered-change as_back requests k l y g in
      let back = P.apart k' l a.0 b.0 a.1 b.1 h (sym (back_slot a.2) ∙ (i ∙ back_slot b.2)) in
      elim a.2 [
        | inl u ↦ ap (λ (request : Request). request.back) u.1 ∙ back
        | inr u ↦
            ap (λ (request : Request). request.back) u.1
      ];
}

-- the slot of one that may be sent again by now
pub sent_slot : {now q k : ℕ} {request other : Request}
    → ((q ≢ k) × (request ≡ other)) ⊎ ((q ≡ k) × (request ≡ sent_at now other)) → request.slot ≡ other.slot
sent_slot (inl u) = ap (λ (z : Request). z.slot) u.1
sent_slot (inr u) = ap (λ (z : Request). z.slot) u.1

-- whether one that may be sent again by now is back
sent_back : {now q k : ℕ} {request other : Request}
    → ((q ≢ k) × (request ≡ other)) ⊎ ((q ≡ k) × (request ≡ sent_at now other)) → request.back ≡ other.back
sent_back (inl u) = ap (λ (z : Request). z.back) u.1
sent_back (inr u) = ap (λ (z : Request). z.back) u.1

-- what one that may be sent again by now says
pub sent_content : {now q k : ℕ} {request other : Request}
    → ((q ≢ k) × (request ≡ other)) ⊎ ((q ≡ k) × (request ≡ sent_at now other))
    → request.content ≡ other.content
sent_content (inl u) = ap (λ (z : Request). z.content) u.1
sent_content (inr u) = ap (λ (z : Request). z.content) u.1

-- a request is sent again
pub orderly_sent : (limits : Limits) (now : ℕ) (requests : List Request) (k : ℕ) → IsOrderly limits requests
    → IsOrderly limits (change (sent_at now) requests k)
orderly_sent limits now requests k P = record {
  few = rw (outstanding-sent now requests k) P.few;
  short = rw (length-change (sent_at now) requests k) P.short;
  low =
      λ l x e. let it =
      numbered-change (sent_at now) requests k l x e in
      subst (λ q. q < limits.credits) (sym (sent_slot it.2)) (P.low l it.0 it.1);
  apart = λ k' l x y e g h i.
      let a = numbered-change (sent_at now) requests k k' x e in
      let b = numbered-change (sent_at now) requests k l y g in
      sent_back a.2 ∙ P.apart k' l a.0 b.0 a.1 b.1 h (sym (sent_slot a.2) ∙ (i ∙ sent_slot b.2));
}
