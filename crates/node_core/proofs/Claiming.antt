-- What is kept of the requests of a peer gives the record's answer, and stands for the record's next requests.
use Rattle.spec_node.specs.Invariant.{address_in}
use Rattle.std.proofs.Common.{◌≡◌, inl, inr, ℕ, zero, suc, ◌+◌, ◌<◌, ◌≤◌, Bool, true, false, not, List, []}
use Rattle.std.proofs.Common.{◌∷◌, ◌++◌, length, Option, None, Some, refl, sym, ap, ◌∙◌, subst, arith, eqb}
use Rattle.std.proofs.Common.{length-append, length-set}
use Rattle.std.specs.List.{list_any, slice_get, position, prefix_len, position_or_len}
use Rattle.std.specs.Option.{is_some, option_map}
use Rattle.std.proofs.lemmas.Bool.Decides.{nat_tests}
use Rattle.std.proofs.lemmas.Bool.{cases_Bool, cases_eq, cases_lt, not-true, lt-ltb}
use Rattle.std.proofs.lemmas.Option.{same_Some, get_or_from_slice_get}
use Rattle.std.proofs.lemmas.List.Quantifiers.{position-Some}
use Rattle.std.proofs.lemmas.Map.Steps.{le-length_from_below}
use Rattle.wire_message.specs.Parameters.{Parameters, credits_of}
use Rattle.spec_node.specs.Credits.{limits_of}
use Rattle.wire_message.specs.Message.{spelling}
use Rattle.wire_message.specs.Content.{Content, message_at_address}
use Rattle.base_lists.specs.Update.{update}
use Rattle.base_lists.proofs.Update.{slice_get-update, slice_get-update_other, update-Some}
use Rattle.part_window.specs.SlotsState.{SlotState, Vacant, Committed, PeerState, is_vacant, IsTakenWith, CanClaim}
use Rattle.part_window.specs.Due.{as_retransmitted}
use Rattle.spec_node.specs.Record.{Request, element_at, change}
use Rattle.spec_node.specs.declared.answer.Asked.TheVariants as asked
use Rattle.spec_node.specs.Requests.{taken_slots, free_slot, is_open, open_in, as_back, sent_at}
use Rattle.spec_node.specs.Step.{claim_answer}
use Rattle.spec_node.specs.Invariant.{IsOrderly}
use Rattle.node_core.specs.Stands.{StandsForAsked, slot_state}
use Rattle.spec_node.proofs.Lists.{length-change}
use Rattle.spec_node.proofs.Keeping.{open_taken, none_is, open_new, open_other, least_free, fewer, open_if, open_says}
use Rattle.spec_node.proofs.Keeping.{open_back, open_free, open_sent, open_sent_here}
use Rattle.spec_node.proofs.Orderly.{orderly_sent}
use Rattle.std.proofs.lemmas.Bool.{not-false}

-- ---- which slots are vacant

-- where the prefix that passes is the whole, each item passes
all_pass : {X : Type 0} (test : X → Bool) (xs : List X) → length xs ≤ prefix_len test xs → (k : ℕ) (x : X)
    → slice_get xs k ≡ Some x → test x ≡ true
all_pass test [] le k x e = absurd (cc)
all_pass test (z ∷ xs) le zero x e =
    elim (cases_Bool (test z)) [ inl t ↦ ap test (sym (same_Some z x e)) ∙ t | inr f ↦ absurd (stops f) ]
  where
    stops : test z ≡ false → ⊥
    stops f = let short : prefix_len test (z ∷ xs) ≡ 0 = rw f refl in omega (arith, short, le)
all_pass test (z ∷ xs) le (suc k) x e =
    elim (cases_Bool (test z)) [ inl t ↦ all_pass test xs (goes t) k x e | inr f ↦ absurd (stops f) ]
  where
    goes : test z ≡ true → length xs ≤ prefix_len test xs
    goes t =
        let long : prefix_len test (z ∷ xs) ≡ suc (prefix_len test xs) = rw t (omega arith) in omega (arith, long, le)

    stops : test z ≡ false → ⊥
    stops f = let short : prefix_len test (z ∷ xs) ≡ 0 = rw f refl in omega (arith, short, le)

-- where the first that passes isn't found, none passes
none_passes : {X : Type 0} (test : X → Bool) (xs : List X) → position test xs ≡ None → (k : ℕ) (x : X)
    → slice_get xs k ≡ Some x → test x ≡ false
none_passes test xs e k x at =
    not-true (test x) (all_pass (λ y. not (test y)) xs
    (elim (cases_lt (position_or_len test xs) (length xs)) [ inl l ↦ absurd (found l) | inr l ↦ l ]) k x at)
  where
    found : position_or_len test xs < length xs → ⊥
    found l =
        let some : position test xs ≡ Some (position_or_len test xs) = rw (lt-ltb _ _ l) refl in
        let both = sym e ∙ some in cc

-- a slot is vacant exactly where nothing is open in it
vacant_is : (s : Parameters) (me peer : ℕ) (o : Option (ℕ × Request))
    → is_vacant (slot_state s me peer o) ≡ not (is_some o)
vacant_is s me peer None = refl
vacant_is s me peer (Some o) = refl

-- a slot below C is vacant exactly where no request that isn't back has it
pub vacant_taken : (s : Parameters) (me peer : ℕ) (p : PeerState) (xs : List Request) (slot : ℕ)
    → StandsForAsked s me peer p xs → slot < credits_of s me peer
    → (state : SlotState) × (slice_get p.slots slot ≡ Some state) ×
    (is_vacant state ≡ not (list_any (eqb slot) (taken_slots xs)))
vacant_taken s me peer p xs slot S below = (
  slot_state s me peer (open_in slot xs),
  S.slots slot below,
  vacant_is s me peer (open_in slot xs)
      ∙ ap not (open_taken slot 1 xs),
)

-- the first slot that is found vacant is vacant
lowest_vacant : (slots : List SlotState) (k : ℕ) → position is_vacant slots ≡ Some k → (state : SlotState)
    → slice_get slots k ≡ Some state → is_vacant state ≡ true
lowest_vacant slots k e state at =
    ap is_vacant (sym (get_or_from_slice_get slots k state state at)) ∙ (position-Some is_vacant slots k state e).1

-- the slots before it are taken
below_taken : (slots : List SlotState) (k q : ℕ) → position is_vacant slots ≡ Some k → q < k → (state : SlotState)
    → slice_get slots q ≡ Some state → is_vacant state ≡ false
below_taken slots k q e lt state at =
    ap is_vacant (sym (get_or_from_slice_get slots q state state at)) ∙ (position-Some is_vacant slots k state e).2 q lt

-- ---- the three answers

-- numbers that are used up give Exhausted
pub exhausted_is : (s : Parameters) (me to : ℕ) (p : PeerState) (xs : List Request) (last : ℕ) → StandsForAsked s me to p xs
    → last ≡ s.last → last ≤ p.given → claim_answer (limits_of s me to) to xs ≡ asked.Exhausted
exhausted_is s me to p xs last S same e = let c = S.given in grind (arith, nat_tests)

-- with no slot vacant it gives NotYet
pub not_yet_is : (s : Parameters) (me to : ℕ) (p : PeerState) (xs : List Request) (last : ℕ)
    → StandsForAsked s me to p xs → last ≡ s.last → p.given < last → position is_vacant p.slots ≡ None
    → claim_answer (limits_of s me to) to xs ≡ asked.NotYet
not_yet_is s me to p xs last S same left full =
    let c = S.given in
    let all = le-length_from_below (taken_slots xs) (credits_of s me to)
    (λ q below. let it = vacant_taken s me to p xs q S below in
    not-false _ (sym it.2 ∙ none_passes is_vacant p.slots full q it.0 it.1)) in
    grind (arith, nat_tests)

-- a request takes this slot and number
pub record Takes (s : Parameters) (me to : ℕ) (p : PeerState) (xs : List Request) (slot number : ℕ) : Type 0 where
  pub answer : claim_answer (limits_of s me to) to xs ≡ asked.Accepted to slot number
  pub below : slot < credits_of s me to
  pub left : length xs < s.last
  pub free : list_any (eqb slot) (taken_slots xs) ≡ false
  pub lowest : slot ≡ free_slot xs
  pub next : number ≡ 1 + length xs

-- the lowest vacant slot and the next number are those of the record
pub accepted_is : (s : Parameters) (me to : ℕ) (p : PeerState) (xs : List Request) (last slot number : ℕ)
    → StandsForAsked s me to p xs → IsOrderly (limits_of s me to) xs → last ≡ s.last → CanClaim p last slot
    → number ≡ p.given + 1 → Takes s me to p xs slot number
accepted_is s me to p xs last slot number S O same C e =
    let c = S.given in
    let below : slot < credits_of s me to = omega (arith, C.in_range, S.count) in
    let here = vacant_taken s me to p xs slot S below in
    let none : list_any (eqb slot) (taken_slots xs) ≡ false = not-true _
    (sym here.2 ∙ lowest_vacant p.slots slot C.lowest here.0 here.1) in
    let few = fewer xs (credits_of s me to) slot O.apart O.low below none in
    let is = least_free xs slot none
    (λ q l. let it = vacant_taken s me to p xs q S (omega arith) in
    not-false _ (sym it.2 ∙ below_taken p.slots slot q C.lowest l it.0 it.1)) in
    let next : number ≡ suc (length xs) = omega arith in
    let left = C.left in
    record {
      answer = rw (is, next) (grind (arith, nat_tests));
      below = below;
      left = omega arith;
      free = none;
      lowest = is;
      next = omega arith;
    }

-- ---- what stands afterwards

-- a change keeps the length
length_changed : {X : Type 0} (xs : List X) (k : ℕ) (f : X → X) (x : X) → slice_get xs k ≡ Some x
    → length (update xs k f) ≡ length xs
length_changed xs k f x e = ap length (update-Some xs k f x e) ∙ length-set xs k (f x)

-- the slot that was changed
changed_here : {X : Type 0} (xs : List X) (k : ℕ) (y x : X) → slice_get xs k ≡ Some x
    → slice_get (update xs k (λ _. y)) k ≡ Some y
changed_here xs k y x e = slice_get-update xs k (λ _. y) ∙ ap (option_map (λ _. y)) e

-- the slots stand for the requests where one was accepted
pub stands_accepted : (s : Parameters) (me to : ℕ) (p : PeerState) (xs : List Request) (c : Content)
    (slot number now : ℕ) → StandsForAsked s me to p xs → Takes s me to p xs slot number
    → StandsForAsked s me to
    (record {
      given = number;
      slots = update p.slots slot
          (λ _. Committed number now (spelling (message_at_address (address_in s me to slot number) c)));
    })
    (xs ++ record { slot = slot; content = c; time = now; back = false } ∷ [])
stands_accepted s me to p xs c slot number now S T =
    let new : Request = record { slot = slot; content = c; time = now; back = false } in
    let state = Committed number now (spelling (message_at_address (address_in s me to slot number) c)) in
    let was = S.slots slot T.below in
    record {
      given = T.next ∙ sym (length-append xs (new ∷ []) ∙ omega arith);
      count = length_changed p.slots slot (λ _. state) _ was ∙ S.count;
      slots = λ j l. elim (cases_eq j slot) [
        | inl same ↦ (let is : open_in slot xs ≡ None = none_is (open_in slot xs) (open_taken slot 1 xs ∙ T.free) in
            rw same (changed_here p.slots slot state _ was
            ∙ ap Some (ap (λ n. Committed n now (spelling (message_at_address (address_in s me to slot n) c))) T.next
            ∙ sym (ap (slot_state s me to) (open_new xs new is refl)))))
        | inr other ↦ slice_get-update_other p.slots slot (λ _. state) j other
            ∙ (S.slots j l ∙ ap (λ o. Some (slot_state s me to o)) (sym (open_other j xs new other)))
      ];
    }

-- ---- a request comes back

-- the slot is taken with that number exactly where the record has that request open
pub taken_open : (s : Parameters) (me to : ℕ) (xs : List Request) (slot number : ℕ)
    → IsTakenWith number (slot_state s me to (open_in slot xs)) → is_open slot (element_at xs number) ≡ true
taken_open s me to xs slot number h = go (open_in slot xs) refl h
  where
    go : (o : Option (ℕ × Request)) → open_in slot xs ≡ o → IsTakenWith number (slot_state s me to o)
        → is_open slot (element_at xs number) ≡ true
    go None e t = absurd t
    go (Some o) e t = open_if xs slot number o e t

-- and where the record has it open, the slot is taken with that number
pub open_taken_with : (s : Parameters) (me to : ℕ) (xs : List Request) (slot number : ℕ)
    → IsOrderly (limits_of s me to) xs → is_open slot (element_at xs number) ≡ true
    → IsTakenWith number (slot_state s me to (open_in slot xs))
open_taken_with s me to xs slot number O e =
    let it = open_says xs slot number O.apart e in
    subst (λ o. IsTakenWith number (slot_state s me to o)) (sym it.4) refl

-- the slots stand for the requests where one came back
pub stands_back : (s : Parameters) (me to : ℕ) (p : PeerState) (xs : List Request) (slot number : ℕ)
    → StandsForAsked s me to p xs → IsOrderly (limits_of s me to) xs → slot < credits_of s me to
    → is_open slot (element_at xs number) ≡ true
    → StandsForAsked s me to (record p { slots = update p.slots slot (λ _. Vacant) }) (change as_back xs number)
stands_back s me to p xs slot number S O below e =
    let it = open_says xs slot number O.apart e in
    let was = S.slots slot below in
    record {
      given = S.given ∙ sym (length-change as_back xs number);
      count = length_changed p.slots slot (λ _. Vacant) _ was ∙ S.count;
      slots = λ j l. elim (cases_eq j slot) [
        | inl same ↦ rw same
            (changed_here p.slots slot Vacant _ was
            ∙ ap (λ o. Some (slot_state s me to o)) (sym (open_free slot xs number it.0 O.apart it.1 it.2 it.3)))
        | inr other ↦ slice_get-update_other p.slots slot (λ _. Vacant) j other
            ∙ (S.slots j l ∙ ap (λ o. Some (slot_state s me to o))
            (sym (open_back j xs number it.0 it.1 (λ h. other (sym h ∙ it.3)))))
      ];
    }

-- ---- a request is sent again

-- the slots stand for the requests where one was sent again
pub stands_sent : (s : Parameters) (me to now : ℕ) (p : PeerState) (xs : List Request) (slot number : ℕ) (x : Request)
    → StandsForAsked s me to p xs → IsOrderly (limits_of s me to) xs → slot < credits_of s me to
    → element_at xs number ≡ Some x → x.back ≡ false → x.slot ≡ slot → open_in slot xs ≡ Some (number, x)
    → StandsForAsked s me to (record p { slots = update p.slots slot (as_retransmitted now) })
    (change (sent_at now) xs number)
stands_sent s me to now p xs slot number x S O below at open_ same found =
    let was : slice_get p.slots slot ≡ Some (slot_state s me to (Some (number, x))) = S.slots slot below
    ∙ ap (λ o. Some (slot_state s me to o)) found in
    record {
      given = S.given ∙ sym (length-change (sent_at now) xs number);
      count = length_changed p.slots slot (as_retransmitted now) _ was ∙ S.count;
      slots = λ j l. elim (cases_eq j slot) [
        | inl h ↦ rw h (slice_get-update p.slots slot (as_retransmitted now)
            ∙ (ap (option_map (as_retransmitted now)) was
            ∙ ap (λ o. Some (slot_state s me to o))
            (sym (open_sent_here now slot xs number x (orderly_sent (limits_of s me to) now xs number O).apart
            at open_ same))))
        | inr other ↦ slice_get-update_other p.slots slot (as_retransmitted now) j other
            ∙ (S.slots j l ∙ ap (λ o. Some (slot_state s me to o))
            (sym (open_sent now j xs number x at (λ h. other (sym h ∙ same)))))
      ];
    }
