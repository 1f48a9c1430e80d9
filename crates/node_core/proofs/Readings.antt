-- What is read of a core is what its record gives: messages, credits that are left, and whether numbers are.
use Rattle.std.proofs.Common.{◌≡◌, ◌≢◌, inl, inr, ℕ, zero, suc, ◌+◌, ◌-◌, ◌<◌, ◌≤◌, Bool, true, false, not, ◌&&◌, List}
use Rattle.std.proofs.Common.{[], ◌∷◌, length, Option, None, Some, refl, sym, ap, ◌∙◌, subst, arith, eqb, eq-eqb}
use Rattle.std.proofs.Common.{ne_eqb, lt-ltb}
use Rattle.std.specs.Prelude.{nat_le, nat_lt, option_and_then, count_by, if◌then◌else◌}
use Rattle.std.specs.Option.{option_map}
use Rattle.part_window.specs.SlotsState.{message_number as request_number, committed_number_at as request_number_at}
use Rattle.part_window.specs.RepliesState.{message_number as reply_number, kept_number_at as reply_number_at}
use Rattle.std.specs.List.{list_any, slice_get, AllByRecursion, IsDistinct}
use Rattle.std.proofs.lemmas.Bool.{cases_Bool, cases_eq}
use Rattle.std.proofs.lemmas.List.Recursion.{is_count_by}
use Rattle.std.proofs.lemmas.Option.{same_Some}
use Rattle.wire_message.specs.Parameters.{Parameters, credits_of}
use Rattle.spec_node.specs.Credits.{limits_of}
use Rattle.spec_node.specs.Step.{request_slot, reply_slot}
use Rattle.part_window.specs.SlotsState.{SlotState, PeerState, is_vacant, vacant_count, is_exhausted}
use Rattle.part_window.specs.SlotsState.{committed_message_at as request_bytes_at, message_of as request_of}
use Rattle.part_window.specs.RepliesState.{kept_message_at as reply_bytes_at, message_of as reply_of}
use Rattle.spec_node.specs.declared.answer.SlotRef.{SlotRef}
use Rattle.spec_node.specs.declared.answer.Side.{Side}
use Rattle.spec_node.specs.declared.answer.Side.TheVariants as side
use Rattle.spec_node.specs.Record.{Request, Run, Node}
use Rattle.spec_node.specs.Requests.{taken_slots, outstanding, open_in}
use Rattle.spec_node.specs.Executed.{last_run}
use Rattle.node_core.specs.Kept.{Local}
use Rattle.spec_node.specs.Invariant.{IsOrderly}
use Rattle.node_core.specs.CoreState.{CoreState}
use Rattle.node_core.specs.Stands.{CoreStands, StandsForAsked, slot_state, reply_state}
use Rattle.spec_node.specs.SlotMessages.{slots_of, committed_message, message_at, committed_number, number_in_slot}
use Rattle.spec_node.proofs.Lists.{taken_from, slice_get_in}
use Rattle.spec_node.proofs.Keeping.{taken_apart}
use Rattle.node_core.proofs.Claiming.{vacant_taken}
use Rattle.node_core.proofs.CoreStands.{request_found, reply_found}

-- ---- messages

-- the message of a request's slot, by what is open in it
request_state : (e : CoreState) (peer : ℕ) (o : Option (ℕ × Request)) (r : Node Local) (slot : ℕ)
    → open_in slot (r.asked peer) ≡ o
    → request_of (slot_state e.settings e.me peer o) ≡ committed_message e.settings e.me r (request_slot peer slot)
request_state e peer None r slot is = rw is refl
request_state e peer (Some o) r slot is = rw is refl

-- the message of a reply's slot, by its last run
reply_state_of : (e : CoreState) (peer : ℕ) (o : Option Run) (r : Node Local) (slot : ℕ)
    → last_run slot (r.ran peer) ≡ o
    → reply_of (reply_state e.settings e.me peer o) ≡ committed_message e.settings e.me r (reply_slot peer slot)
reply_state_of e peer None r slot is = rw is refl
reply_state_of e peer (Some o) r slot is = rw is refl

-- the message of a request's slot
pub request_bytes : (e : CoreState) (r : Node Local) (peer slot : ℕ) → CoreStands e r → peer < e.settings.nodes
    → peer ≢ e.me → slot < credits_of e.settings e.me peer
    → request_bytes_at e.requests peer slot ≡ committed_message e.settings e.me r (request_slot peer slot)
request_bytes e r peer slot S low other below =
    ap (option_and_then request_of) (request_found peer slot e r S low other below)
    ∙ request_state e peer (open_in slot (r.asked peer)) r slot refl

-- the message of a reply's slot
pub reply_bytes : (e : CoreState) (r : Node Local) (peer slot : ℕ) → CoreStands e r → peer < e.settings.nodes
    → peer ≢ e.me
    → slot < credits_of e.settings peer e.me
    → reply_bytes_at e.replies peer slot ≡ committed_message e.settings e.me r (reply_slot peer slot)
reply_bytes e r peer slot S low other below =
    ap (option_and_then reply_of) (reply_found peer slot e r S low other below)
    ∙ reply_state_of e peer (last_run slot (r.ran peer)) r slot refl

-- the slot of that side
abbrev pub slot_on : Side → (peer slot : ℕ) → SlotRef
slot_on side peer slot = record { side = side; peer = peer; slot = slot }

-- the bytes at a slot, by their side
abbrev pub side_bytes : CoreState → Side → (peer slot : ℕ) → Option (List ℕ)
side_bytes e side.Request peer slot = request_bytes_at e.requests peer slot
side_bytes e side.Reply peer slot = reply_bytes_at e.replies peer slot

-- the bytes at a slot of another node are the record's message
side_is : (e : CoreState) (r : Node Local) (which : Side) (peer slot : ℕ) → CoreStands e r → peer < e.settings.nodes
    → peer ≢ e.me → slot < slots_of e.settings e.me which peer
    → side_bytes e which peer slot ≡ committed_message e.settings e.me r (slot_on which peer slot)
side_is e r side.Request peer slot S low other below = request_bytes e r peer slot S low other below
side_is e r side.Reply peer slot S low other below = reply_bytes e r peer slot S low other below

-- a slot of another node has the record's message
pub message_is : (e : CoreState) (r : Node Local) (at : SlotRef) → CoreStands e r → at.peer < e.settings.nodes
    → at.peer ≢ e.me → at.slot < slots_of e.settings e.me at.side at.peer
    → side_bytes e at.side at.peer at.slot ≡ message_at e.settings e.me r at
message_is e r at S low other below =
    side_is e r at.side at.peer at.slot S low other below
    ∙ rw (
      lt-ltb at.peer e.settings.nodes low,
      ne_eqb at.peer e.me other,
      lt-ltb at.slot
          (slots_of e.settings e.me at.side at.peer) below,
    ) refl

-- any other slot has none
pub no_message : (e : CoreState) (r : Node Local) (at : SlotRef)
    → (nat_lt at.peer e.settings.nodes &&
    (not (eqb at.peer e.me) && nat_lt at.slot (slots_of e.settings e.me at.side at.peer))) ≡ false
    → None ≡ message_at e.settings e.me r at
no_message e r at no_slot = rw no_slot refl

-- ---- credits that are left

-- how many of the numbers from this one on pass, of so many
abbrev pub hits : (ℕ → Bool) → ℕ → ℕ → ℕ
hits f from zero = 0
hits f from (suc many) = if f from then suc (hits f (suc from) many) else hits f (suc from) many

-- nothing is in an empty list
hits_none : (from many : ℕ) → hits (λ k. list_any (eqb k) []) from many ≡ 0
hits_none from zero = refl
hits_none from (suc many) = hits_none (suc from) many

-- a number that lies elsewhere changes nothing
hits_past : (t : ℕ) (ts : List ℕ) (from many : ℕ) → t < from
    → hits (λ k. list_any (eqb k) (t ∷ ts)) from many ≡ hits (λ k. list_any (eqb k) ts) from many
hits_past t ts from zero l = refl
hits_past t ts from (suc many) l =
    let ih = hits_past t ts (suc from) many (omega (arith, l)) in
    rw (ih, ne_eqb from t (λ e. omega (arith, e, l))) refl

-- one number more passes
hits_more : (t : ℕ) (ts : List ℕ) (from many : ℕ) → from ≤ t → t < from + many → list_any (eqb t) ts ≡ false
    → hits (λ k. list_any (eqb k) (t ∷ ts)) from many ≡ suc (hits (λ k. list_any (eqb k) ts) from many)
hits_more t ts from zero a b fresh = absurd (omega (arith, a, b))
hits_more t ts from (suc many) a b fresh = elim (cases_eq from t) [
  | inl e ↦ (let past = hits_past t ts (suc from) many (omega (arith, e)) in
      let was : list_any (eqb from) ts ≡ false = ap (λ q. list_any (eqb q) ts) e ∙ fresh in
      rw (past, eq-eqb from t e, was) refl)
  | inr d ↦ (let ih = hits_more t ts (suc from) many (omega (arith, a, d)) (omega (arith, b)) fresh in
      rw (ih, ne_eqb from t d) (elim (cases_Bool (list_any (eqb from) ts)) [ inl x ↦ rw x refl | inr x ↦ rw x refl ]))
]

-- what differs from each isn't among them
none_of : (t : ℕ) (ts : List ℕ) → AllByRecursion (λ y. eqb t y ≡ false) ts → list_any (eqb t) ts ≡ false
none_of t [] h = refl
none_of t (y ∷ ts) h = rw h.0 (none_of t ts h.1)

-- of numbers that are apart and below n as many pass as there are
pub hits_all : (n : ℕ) (ts : List ℕ) → IsDistinct eqb ts → ((q : ℕ) → list_any (eqb q) ts ≡ true → q < n)
    → hits (λ k. list_any (eqb k) ts) 0 n ≡ length ts
unfolding IsDistinct
hits_all n [] D low = hits_none 0 n
hits_all n (t ∷ ts) D low =
    let ih = hits_all n ts D.1 (λ q h. low q (elim (cases_Bool (eqb q t)) [ inl x ↦ rw x refl | inr x ↦ rw x h ])) in
    let inside : t < n = low t (rw (eq-eqb t t refl) refl) in
    hits_more t ts 0 n (omega arith) (omega (arith, inside)) (none_of t ts D.0) ∙ ap suc ih

-- how many pass, by recursion
passing : {X : Type 0} (test : X → Bool) → List X → ℕ
passing test [] = 0
passing test (x ∷ xs) = if test x then 1 + passing test xs else passing test xs

-- the count is the one by recursion
passing_count : {X : Type 0} (test : X → Bool) (xs : List X) → passing test xs ≡ count_by test xs
unfolding passing
passing_count test xs = is_count_by (passing test) test refl (λ x ys. refl) xs

-- items that pass where the number of their place doesn't, and the places whose number passes
counted : {X : Type 0} (test : X → Bool) (f : ℕ → Bool) (xs : List X) (from : ℕ)
    → ((k : ℕ) (x : X) → slice_get xs k ≡ Some x → test x ≡ not (f (from + k)))
    → passing test xs + hits f from (length xs) ≡ length xs
unfolding passing
counted test f [] from h = omega arith
counted test f (x ∷ xs) from h =
    let ih = counted test f xs (suc from) (λ k y e. h (suc k) y e ∙ ap (λ n. not (f n)) (omega arith)) in
    let here : test x ≡ not (f from) = h 0 x refl ∙ ap (λ n. not (f n)) (omega arith) in
    elim (cases_Bool (f from)) [
      | inl t ↦ (let fails : test x ≡ false = here ∙ ap not t in rw (fails, t) (omega (arith, ih)))
      | inr t ↦ (let passes : test x ≡ true = here ∙ ap not t in rw (passes, t) (omega (arith, ih)))
    ]

-- as many slots of a peer are vacant as credits aren't out
peer_vacant : (s : Parameters) (me peer : ℕ) (p : PeerState) (xs : List Request) → StandsForAsked s me peer p xs
    → IsOrderly (limits_of s me peer) xs → count_by is_vacant p.slots ≡ credits_of s me peer - outstanding xs
peer_vacant s me peer p xs S O =
    let inside : (k : ℕ) (x : SlotState) → slice_get p.slots k ≡ Some x
    → k < credits_of s me peer = λ k x e. subst (λ n. k < n) S.count (slice_get_in p.slots k x e) in
    let all = counted is_vacant (λ k. list_any (eqb k) (taken_slots xs)) p.slots 0
    (λ k x e. let it = vacant_taken s me peer p xs k S (inside k x e) in
    ap is_vacant (same_Some x it.0 (sym e ∙ it.1))
    ∙ (it.2 ∙ ap (λ n. not (list_any (eqb n) (taken_slots xs))) (omega arith))) in
    let some = hits_all (credits_of s me peer) (taken_slots xs) (taken_apart xs O.apart)
    (λ q h. let it = taken_from xs q h in subst (λ n. n < credits_of s me peer) it.4 (O.low (suc it.0) it.1 it.2))
    in
    let passed = passing_count is_vacant p.slots in
    let both : passing is_vacant p.slots + outstanding xs ≡ credits_of s me peer = ap
    (λ n. passing is_vacant p.slots + n) (sym some ∙ ap (hits (λ k. list_any (eqb k) (taken_slots xs)) 0) (sym S.count))
    ∙ (all ∙ S.count) in
    omega (arith, both, passed)

-- the credits that are left
pub free_is : (e : CoreState) (r : Node Local) (to : ℕ) → CoreStands e r → to < e.settings.nodes → to ≢ e.me
    → vacant_count e.requests to ≡ credits_of e.settings e.me to - outstanding (r.asked to)
free_is e r to S low other =
    let p = S.requests to low other in
    ap (λ (o : Option PeerState). elim o as (λ _. ℕ) [ Some q ↦ count_by is_vacant q.slots | None ↦ 0 ]) p.1
    ∙ peer_vacant e.settings e.me to p.0 (r.asked to) p.2 (S.invariant_.orderly to)

-- whether the numbers are used up
pub exhausted_is : (e : CoreState) (r : Node Local) (to : ℕ) → CoreStands e r → to < e.settings.nodes → to ≢ e.me
    → is_exhausted e.requests to ≡ nat_le e.settings.last (length (r.asked to))
exhausted_is e r to S low other =
    let p = S.requests to low other in
    ap (λ (o : Option PeerState). elim o as (λ _. Bool) [ Some q ↦ nat_le e.requests.last q.given | None ↦ true ]) p.1
    ∙ rw (S.last, p.2.given) refl

-- ---- as the code reads them

-- the bytes of a request's slot are the record's message
pub request_read : (e : CoreState) (r : Node Local) (at : SlotRef) (found : Option (List ℕ)) → CoreStands e r
    → at.side ≡ side.Request → at.peer < e.settings.nodes → at.peer ≢ e.me
    → at.slot < slots_of e.settings e.me at.side at.peer → found ≡ request_bytes_at e.requests at.peer at.slot
    → found ≡ message_at e.settings e.me r at
request_read e r at found S is low other below read =
    read ∙ (ap (λ which. side_bytes e which at.peer at.slot) (sym is) ∙ message_is e r at S low other below)

-- the bytes of a reply's slot are the record's message
pub reply_read : (e : CoreState) (r : Node Local) (at : SlotRef) (found : Option (List ℕ)) → CoreStands e r
    → at.side ≡ side.Reply → at.peer < e.settings.nodes → at.peer ≢ e.me
    → at.slot < slots_of e.settings e.me at.side at.peer → found ≡ reply_bytes_at e.replies at.peer at.slot
    → found ≡ message_at e.settings e.me r at
reply_read e r at found S is low other below read =
    read ∙ (ap (λ which. side_bytes e which at.peer at.slot) (sym is) ∙ message_is e r at S low other below)

-- ---- numbers

-- the number of a request's slot, by what is open in it
request_number_of : (s : Parameters) (me peer : ℕ) (o : Option (ℕ × Request))
    → request_number (slot_state s me peer o) ≡ option_map (λ (open_ : ℕ × Request). open_.0) o
request_number_of s me peer None = refl
request_number_of s me peer (Some o) = refl

-- the number of a reply's slot, by its last run
reply_number_of : (s : Parameters) (me peer : ℕ) (o : Option Run)
    → reply_number (reply_state s me peer o) ≡ option_map (λ (run : Run). run.number) o
reply_number_of s me peer None = refl
reply_number_of s me peer (Some run) = refl

-- the numbers at a slot, by its side
abbrev pub side_number : CoreState → Side → (peer slot : ℕ) → Option ℕ
side_number e side.Request peer slot = request_number_at e.requests peer slot
side_number e side.Reply peer slot = reply_number_at e.replies peer slot

-- the number at a slot of another node is that of the record's message
number_is : (e : CoreState) (r : Node Local) (which : Side) (peer slot : ℕ) → CoreStands e r → peer < e.settings.nodes
    → peer ≢ e.me → slot < slots_of e.settings e.me which peer
    → side_number e which peer slot ≡ committed_number r (slot_on which peer slot)
number_is e r side.Request peer slot S low other below =
    ap (option_and_then request_number) (request_found peer slot e r S low other below)
    ∙ request_number_of e.settings e.me peer (open_in slot (r.asked peer))
number_is e r side.Reply peer slot S low other below =
    ap (option_and_then reply_number) (reply_found peer slot e r S low other below)
    ∙ reply_number_of e.settings e.me peer (last_run slot (r.ran peer))

-- as the code reads it
pub number_read : (e : CoreState) (r : Node Local) (at : SlotRef) (which : Side) (found : Option ℕ) → CoreStands e r
    → at.side ≡ which → at.peer < e.settings.nodes → at.peer ≢ e.me
    → at.slot < slots_of e.settings e.me at.side at.peer → found ≡ side_number e which at.peer at.slot
    → found ≡ number_in_slot e.settings e.me r at
number_read e r at which found S is low other below read =
    read
    ∙ (ap (λ w. side_number e w at.peer at.slot) (sym is) ∙ (number_is e r at.side at.peer at.slot S low other below
    ∙ rw (
      lt-ltb at.peer e.settings.nodes low,
      ne_eqb at.peer e.me other,
      lt-ltb at.slot (slots_of e.settings e.me at.side at.peer) below,
    ) refl))
