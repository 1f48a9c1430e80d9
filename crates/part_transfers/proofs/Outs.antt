-- Which chunks are out, as one goes out or comes back.
use Rattle.std.proofs.Common.{◌≡◌, ◌≢◌, inl, inr, ℕ, zero, suc, ◌+◌, ◌<◌, ◌≤◌, ◌==◌, Bool, true, false, true≢false, not}
use Rattle.std.proofs.Common.{◌&&◌, ◌||◌, if◌then◌else◌, List, [], ◌∷◌, ◌++◌, Some, length, map, refl, sym, ap, ap₂}
use Rattle.std.proofs.Common.{◌∙◌, arith, eq-eqb, ne_eqb}
use Rattle.std.specs.List.{slice_get, list_any, list_all}
use Rattle.std.proofs.lemmas.Bool.{cases_Bool, and_parts, and_from, or_parts, eqb-true, not-true}
use Rattle.std.proofs.lemmas.List.Folds.{list_any-append}
use Rattle.std.proofs.lemmas.Option.{same_Some}
use Rattle.base_lists.specs.Update.{update}
use Rattle.base_lists.proofs.Update.{update-on}
use Rattle.part_transfers.specs.Operation.{Operation, SentChunk, target, has_next, is_complete, returned_of, with_sent, went_as}
use Rattle.part_transfers.specs.Operation.{as_back, with_back, come_back, is_out, awaits, has_out, IsFreeSlot}
use Rattle.part_transfers.specs.Outs.{Out, requests_in, requests_of, outs}
use Rattle.part_transfers.specs.Syncs.{Choice, go}

and_false : (one : Bool) → (one && false) ≡ false
and_false true = refl
and_false false = refl

cons_parts : {X : Type 0} (x y : X) (xs ys : List X) → ◌≡◌ {A = List X} (x ∷ xs) (y ∷ ys) → (x ≡ y) × (xs ≡ ys)
cons_parts x y xs ys same = (cc, cc)

some_none : {X : Type 0} (x : X) (xs : List X) → ◌≡◌ {A = List X} (x ∷ xs) [] → ⊥
some_none x xs same = cc

-- ---- of one operation

-- a chunk is out as that request, or the reply leaves it as it was
sent_same : (slot request : ℕ) (sent : SentChunk) → is_out slot request sent ≡ false → as_back slot request sent ≡ sent
sent_same slot request sent isnt = elim (cases_Bool (went_as slot request sent)) [
  | inr other ↦ rw other refl
  | inl went ↦ elim (cases_Bool sent.back) [
    | inl back ↦ rw went (ap (λ b. record sent { back = b }) (sym back))
    | inr waits ↦
        absurd (true≢false (sym (and_from (went_as slot request sent) (not sent.back) went (ap not waits)) ∙ isnt))
  ]
]

sents_same : (slot request : ℕ) (sents : List SentChunk) → list_any (is_out slot request) sents ≡ false
    → map (as_back slot request) sents ≡ sents
sents_same slot request [] none = refl
sents_same slot request (sent ∷ later) none =
    let both = or_parts (is_out slot request sent) (list_any (is_out slot request) later) none in
    ap₂ (λ first rest. first ∷ rest) (sent_same slot request sent both.0) (sents_same slot request later both.1)

operation_same : (from slot request : ℕ) (operation : Operation) → awaits from slot request operation ≡ false
    → with_back from slot request operation ≡ operation
operation_same from slot request operation isnt = elim (cases_Bool (target operation.transfer == from)) [
  | inr other ↦ rw other refl
  | inl here ↦
      rw here (ap (λ sents. record operation { sent = sents })
      (sents_same slot request operation.sent (rw here at isnt)))
]

-- the requests that are out are those of the chunks that are
sents_are : (slot request : ℕ) (sents : List SentChunk)
    → list_any (is_out slot request) sents ≡ list_any (λ number. number == request) (requests_in slot sents)
sents_are slot request [] = refl
sents_are slot request (sent ∷ later) = elim (cases_Bool (sent.slot == slot)) [
  | inr other ↦ rw other (sents_are slot request later)
  | inl here ↦ elim (cases_Bool sent.back) [
    | inl back ↦
        rw (here, back)
        (ap (λ first. first || list_any (is_out slot request) later) (and_false (sent.number == request))
        ∙ sents_are slot request later)
    | inr waits ↦ elim (cases_Bool (sent.number == request)) [
      | inl is ↦ rw (here, waits, is) refl
      | inr isnt ↦ rw (here, waits, isnt) (sents_are slot request later)
    ]
  ]
]

awaits_are : (to slot request : ℕ) (operation : Operation)
    → awaits to slot request operation ≡ list_any (λ number. number == request) (requests_of to slot operation)
awaits_are to slot request operation = elim (cases_Bool (target operation.transfer == to)) [
  | inl here ↦ rw here (sents_are slot request operation.sent)
  | inr other ↦ rw other refl
]

-- the one chunk that is out in the slot comes back
one_sent : (slot request : ℕ) (sents : List SentChunk) → requests_in slot sents ≡ request ∷ []
    → (requests_in slot (map (as_back slot request) sents) ≡ [])
    × (returned_of (map (as_back slot request) sents) ≡ returned_of sents + 1)
one_sent slot request [] one = absurd (some_none request [] (sym one))
one_sent slot request (sent ∷ later) one = elim (cases_Bool ((sent.slot == slot) && not sent.back)) [
  | inl is ↦ (
      let both = and_parts (sent.slot == slot) (not sent.back) is in
      let parts = cons_parts sent.number request (requests_in slot later) [] (rw is at one) in
      let went : went_as slot request sent ≡ true = and_from _ _ both.0 (eq-eqb sent.number request parts.0) in
      let rest : map (as_back slot request) later ≡ later =
      sents_same slot request later (sents_are slot request later
      ∙ ap (list_any (λ number. number == request)) parts.1) in (
        rw (went, rest)
            (ap (λ out. if out then sent.number ∷ requests_in slot later else requests_in slot later)
            (and_false (sent.slot == slot)) ∙ parts.1),
        rw (went, rest, not-true sent.back both.1) (omega arith),
      ))
  | inr isnt ↦ (
      let ih = one_sent slot request later (rw isnt at one) in
      let out : is_out slot request sent ≡ false = elim (cases_Bool (is_out slot request sent)) [
        | inr fine ↦ fine
        | inl is ↦ (
            let both = and_parts (went_as slot request sent) (not sent.back) is in
            let slots = and_parts (sent.slot == slot) (sent.number == request) both.0 in
            absurd (true≢false (sym (and_from (sent.slot == slot) (not sent.back) slots.0 both.1) ∙ isnt)))
      ] in
      let same = sent_same slot request sent out in (
        rw (same, isnt) ih.0,
        rw same (let more = ih.1 in omega (arith, more)),
      ))
]

pub one_operation : (to slot request : ℕ) (operation : Operation) → requests_of to slot operation ≡ request ∷ []
    → (requests_of to slot (with_back to slot request operation) ≡ [])
    × (returned_of (with_back to slot request operation).sent ≡ returned_of operation.sent + 1)
one_operation to slot request operation one = elim (cases_Bool (target operation.transfer == to)) [
  | inl here ↦ (let it = one_sent slot request operation.sent (rw here at one) in rw here (rw here it.0, it.1))
  | inr other ↦ absurd (some_none request [] (sym (rw other at one)))
]

-- a reply changes nothing that is out elsewhere
sents_other : (slot request other : ℕ) (sents : List SentChunk) → other ≢ slot
    → requests_in other (map (as_back slot request) sents) ≡ requests_in other sents
sents_other slot request other [] apart = refl
sents_other slot request other (sent ∷ later) apart = elim (cases_Bool (went_as slot request sent)) [
  | inr isnt ↦
      rw isnt (ap (λ rest. if (sent.slot == other) && not sent.back then sent.number ∷ rest else rest)
      (sents_other slot request other later apart))
  | inl went ↦ (
      let is = eqb-true sent.slot slot (and_parts (sent.slot == slot) (sent.number == request) went).0 in
      let differs : (sent.slot == other) ≡ false = ne_eqb sent.slot other (λ same. apart (sym same ∙ is)) in
      rw (went, differs) (sents_other slot request other later apart))
]

operation_other : (to slot request node other : ℕ) (operation : Operation) → (node ≡ to → other ≡ slot → ⊥)
    → requests_of node other (with_back to slot request operation) ≡ requests_of node other operation
operation_other to slot request node other operation apart = elim (cases_Bool (target operation.transfer == to)) [
  | inr isnt ↦ rw isnt refl
  | inl here ↦ elim (cases_Bool (target operation.transfer == node)) [
    | inr isnt ↦ rw (here, isnt) refl
    | inl also ↦ (
        let same = sym (eqb-true (target operation.transfer) node also)
        ∙ eqb-true (target operation.transfer) to here in
        rw (here, also) (sents_other slot request other operation.sent (apart same)))
  ]
]

-- ---- of all operations

mapped_any : (number request : ℕ) (requests : List ℕ)
    → list_any (λ (out : Out). out.request == request) (map (λ r. record { operation = number; request = r }) requests)
    ≡ list_any (λ r. r == request) requests
mapped_any number request [] = refl
mapped_any number request (first ∷ later) = ap (λ rest. (first == request) || rest) (mapped_any number request later)

pub has_out_is : (to slot request number : ℕ) (operations : List Operation)
    → has_out to slot request operations ≡ list_any (λ (out : Out). out.request == request)
    (outs to slot number operations)
has_out_is to slot request number [] = refl
has_out_is to slot request number (operation ∷ later) =
    ap₂ (λ first rest. first || rest) (awaits_are to slot request operation
    ∙ sym (mapped_any number request (requests_of to slot operation)))
    (has_out_is to slot request (suc number) later)
    ∙ sym (list_any-append (λ (out : Out). out.request == request) (map (λ r. record {
      operation = number;
      request = r;
    }) (requests_of to slot operation)) (outs to slot (suc number) later))

-- a reply to what isn't out changes nothing
pub none_back : (from slot request : ℕ) (operations : List Operation) → has_out from slot request operations ≡ false
    → come_back from slot request operations ≡ operations
none_back from slot request [] none = refl
none_back from slot request (operation ∷ later) none =
    let both = or_parts (awaits from slot request operation) (has_out from slot request later) none in
    ap₂ (λ first rest. first ∷ rest) (operation_same from slot request operation both.0)
    (none_back from slot request later both.1)

pub outs_other : (to slot request node other number : ℕ) (operations : List Operation)
    → (node ≡ to → other ≡ slot → ⊥)
    → outs node other number (come_back to slot request operations) ≡ outs node other number operations
outs_other to slot request node other number [] apart = refl
outs_other to slot request node other number (operation ∷ later) apart =
    ap₂ (λ requests rest. map (λ r. record {
      operation = number;
      request = r;
    }) requests ++ rest) (operation_other to slot request node other operation apart)
    (outs_other to slot request node other (suc number) later apart)

-- which operation the one chunk is of that is out in a slot, and what its reply leaves
pub record IsOne (to slot number : ℕ) (operations : List Operation) (out : Out) : Type 0 where
  pub place : ℕ
  pub operation : Operation
  pub here : slice_get operations place ≡ Some operation
  pub numbered_so : out.operation ≡ number + place
  pub one : requests_of to slot operation ≡ out.request ∷ []
  pub changes : come_back to slot out.request operations ≡ update operations place (with_back to slot out.request)
  pub gone : outs to slot number (come_back to slot out.request operations) ≡ []

appended_none : (number : ℕ) (requests : List ℕ) (later : List Out)
    → map (λ r. record { operation = number; request = r }) requests ++ later ≡ [] → (requests ≡ []) × (later ≡ [])
appended_none number [] later none = (refl, none)
appended_none number (request ∷ requests) later none = absurd (some_none _ _ none)

pub one_out : (to slot number : ℕ) (operations : List Operation) (out : Out)
    → outs to slot number operations ≡ out ∷ [] → IsOne to slot number operations out
one_out to slot number [] out is = absurd (some_none out [] (sym is))
one_out to slot number (first ∷ later) out is =
    by (requests_of to slot first) refl is (one_out to slot (suc number) later out)
  where
    by : (requests : List ℕ) → requests_of to slot first ≡ requests
        → map (λ r. record { operation = number; request = r }) requests ++ outs to slot (suc number) later ≡ out ∷ []
        → (outs to slot (suc number) later ≡ out ∷ [] → IsOne to slot (suc number) later out)
        → IsOne to slot number (first ∷ later) out
    by [] none at rest =
        let it = rest at in
        let same : with_back to slot out.request first ≡ first =
        operation_same to slot out.request first (awaits_are to slot out.request first
        ∙ ap (list_any (λ r. r == out.request)) none) in
        record {
          place = suc it.place;
          operation = it.operation;
          here = it.here;
          numbered_so = (let so = it.numbered_so in omega (arith, so));
          one = it.one;
          changes = ap₂ (λ one more. one ∷ more) same it.changes
              ∙ sym (update-on first later it.place (with_back to slot out.request));
          gone = ap₂ (λ one more. map (λ r. record {
            operation = number;
            request = r;
          }) (requests_of to slot one) ++ more) same it.gone ∙ ap (λ requests. map (λ r. record {
            operation = number;
            request = r;
          }) requests ++ []) none;
        }
    by (request ∷ requests) some at rest =
        let parts = cons_parts (record {
          operation = number;
          request = request;
        }) out (map (λ r. record {
          operation = number;
          request = r;
        }) requests ++ outs to slot (suc number) later) [] at in
        let none = appended_none number requests (outs to slot (suc number) later) parts.1 in
        let request_is : request ≡ out.request = ap (λ (o : Out). o.request) parts.0 in
        let one : requests_of to slot first ≡ out.request ∷ [] = some ∙ ap₂ (λ r rs. r ∷ rs) request_is none.0 in
        let tail : come_back to slot out.request later ≡ later =
        none_back to slot out.request later (has_out_is to slot out.request (suc number) later
        ∙ ap (list_any (λ (o : Out). o.request == out.request)) none.1) in
        record {
          place = 0;
          operation = first;
          here = refl;
          numbered_so = (let so : number ≡ out.operation = ap (λ (o : Out). o.operation) parts.0 in omega (arith, so));
          one = one;
          changes = ap (λ more. with_back to slot out.request first ∷ more) tail;
          gone = ap₂ (λ rs more. map (λ r. record {
            operation = number;
            request = r;
          }) rs ++ more) (one_operation to slot out.request first one).0 (ap (outs to slot (suc number)) tail ∙ none.1);
        }

-- ---- a chunk goes out

sents_push : (slot : ℕ) (sents : List SentChunk) (new : SentChunk) → new.back ≡ false
    → requests_in slot (sents ++ new ∷ [])
    ≡ requests_in slot sents ++ (if new.slot == slot then new.number ∷ [] else [])
sents_push slot [] new waits =
    elim (cases_Bool (new.slot == slot)) [ inl is ↦ rw (is, waits) refl | inr isnt ↦ rw isnt refl ]
sents_push slot (first ∷ later) new waits = elim (cases_Bool ((first.slot == slot) && not first.back)) [
  | inl is ↦ rw is (ap (λ rest. first.number ∷ rest) (sents_push slot later new waits))
  | inr isnt ↦ rw isnt (sents_push slot later new waits)
]

pub issued_here : (to slot request : ℕ) (bytes : List ℕ) (operation : Operation) → target operation.transfer ≡ to
    → requests_of to slot operation ≡ []
    → requests_of to slot (with_sent slot request bytes operation) ≡ request ∷ []
issued_here to slot request bytes operation is none =
    let here : (target operation.transfer == to) ≡ true = eq-eqb (target operation.transfer) to is in
    let new : SentChunk = record { slot = slot; number = request; bytes = bytes; back = false } in
    rw here (sents_push slot operation.sent new refl
    ∙ ap₂ (λ rest mine. rest ++ (if mine then request ∷ [] else [])) (rw here at none) (eq-eqb slot slot refl))

append_none : {X : Type 0} (xs : List X) → xs ++ [] ≡ xs
append_none [] = refl
append_none (x ∷ xs) = ap (λ ys. x ∷ ys) (append_none xs)

pub issued_elsewhere : (to slot request : ℕ) (bytes : List ℕ) (node other : ℕ) (operation : Operation)
    → target operation.transfer ≡ to → (node ≡ to → other ≡ slot → ⊥)
    → requests_of node other (with_sent slot request bytes operation) ≡ requests_of node other operation
issued_elsewhere to slot request bytes node other operation is apart =
    elim (cases_Bool (target operation.transfer == node)) [
      | inr isnt ↦ rw isnt refl
      | inl here ↦ (
          let new : SentChunk = record { slot = slot; number = request; bytes = bytes; back = false } in
          let same = sym (eqb-true (target operation.transfer) node here) ∙ is in
          rw here (sents_push other operation.sent new refl
          ∙ (ap (λ mine. requests_in other operation.sent ++ (if mine then request ∷ [] else []))
          (ne_eqb slot other (λ e. apart same (sym e))) ∙ append_none (requests_in other operation.sent))))
    ]

pub outs_issued : (to slot request number : ℕ) (bytes : List ℕ) (operations : List Operation) (place : ℕ)
    (operation : Operation)
    → outs to slot number operations ≡ [] → slice_get operations place ≡ Some operation
    → target operation.transfer ≡ to
    → outs to slot number (update operations place (with_sent slot request bytes))
    ≡ record { operation = number + place; request = request } ∷ []
outs_issued to slot request number bytes [] place operation none at is = absurd (cc)
outs_issued to slot request number bytes (first ∷ later) zero operation none at is =
    let parts = appended_none number (requests_of to slot first) (outs to slot (suc number) later) none in
    let same : first ≡ operation = same_Some _ _ at in
    ap₂ (λ rs more. map (λ r. record {
      operation = number;
      request = r;
    }) rs ++ more)
    (issued_here to slot request bytes first (ap (λ (o : Operation). target o.transfer) same ∙ is) parts.0) parts.1
    ∙ ap (λ n. record { operation = n; request = request } ∷ []) (omega arith)
outs_issued to slot request number bytes (first ∷ later) (suc place) operation none at is =
    let parts = appended_none number (requests_of to slot first) (outs to slot (suc number) later) none in
    ap (outs to slot number) (update-on first later place (with_sent slot request bytes))
    ∙ (ap₂ (λ rs more. map (λ r. record {
      operation = number;
      request = r;
    }) rs ++ more) parts.0 (outs_issued to slot request (suc number) bytes later place operation parts.1 at is)
    ∙ ap (λ n. record { operation = n; request = request } ∷ []) (omega arith))

-- a change of one operation that leaves its requests leaves them all
pub outs_kept : (node other number : ℕ) (f : Operation → Operation) (operations : List Operation) (place : ℕ)
    (operation : Operation)
    → slice_get operations place ≡ Some operation
    → requests_of node other (f operation) ≡ requests_of node other operation
    → outs node other number (update operations place f) ≡ outs node other number operations
outs_kept node other number f [] place operation at same = absurd (cc)
outs_kept node other number f (first ∷ later) zero operation at same =
    let is : first ≡ operation = same_Some _ _ at in
    ap (λ rs. map (λ r. record {
      operation = number;
      request = r;
    }) rs ++ outs node other (suc number) later) (ap (λ o. requests_of node other (f o)) is
    ∙ (same ∙ ap (requests_of node other) (sym is)))
outs_kept node other number f (first ∷ later) (suc place) operation at same =
    ap (outs node other number) (update-on first later place f)
    ∙ ap (λ more. map (λ r. record {
      operation = number;
      request = r;
    }) (requests_of node other first) ++ more) (outs_kept node other (suc number) f later place operation at same)

sents_free : (slot : ℕ) (sents : List SentChunk)
    → ((index : ℕ) (sent : SentChunk) → slice_get sents index ≡ Some sent → sent.slot ≡ slot → sent.back ≡ true)
    → requests_in slot sents ≡ []
sents_free slot [] free = refl
sents_free slot (sent ∷ later) free = elim (cases_Bool ((sent.slot == slot) && not sent.back)) [
  | inl is ↦ (
      let both = and_parts (sent.slot == slot) (not sent.back) is in
      absurd (true≢false (sym (free 0 sent refl (eqb-true sent.slot slot both.0)) ∙ not-true sent.back both.1)))
  | inr isnt ↦ rw isnt (sents_free slot later (λ index one at. free (suc index) one at))
]

-- nothing is out in a slot that is free
pub outs_free : (to slot number : ℕ) (operations : List Operation) → IsFreeSlot operations to slot
    → outs to slot number operations ≡ []
outs_free to slot number [] free = refl
outs_free to slot number (operation ∷ later) free =
    ap₂ (λ rs more. map (λ r. record {
      operation = number;
      request = r;
    }) rs ++ more) here
    (outs_free to slot (suc number) later (λ place index one sent at. free (suc place) index one sent at))
  where
    here : requests_of to slot operation ≡ []
    here = elim (cases_Bool (target operation.transfer == to)) [
      | inr isnt ↦ rw isnt refl
      | inl is ↦ rw is
          (sents_free slot operation.sent
          (λ index sent at. free 0 index operation sent refl (eqb-true (target operation.transfer) to is) at))
    ]

-- ---- operations that begin, and that go

-- an operation that begins has nothing out
pub outs_begun : (to slot number : ℕ) (operations : List Operation) (new : Operation) → requests_of to slot new ≡ []
    → outs to slot number (operations ++ new ∷ []) ≡ outs to slot number operations
outs_begun to slot number [] new none = ap (λ rs. map (λ r. record { operation = number; request = r }) rs ++ []) none
outs_begun to slot number (first ∷ later) new none = ap (λ more. map (λ r. record {
  operation = number;
  request = r;
}) (requests_of to slot first) ++ more) (outs_begun to slot (suc number) later new none)

pub none_sent : (to slot : ℕ) (operation : Operation) → operation.sent ≡ [] → requests_of to slot operation ≡ []
none_sent to slot operation none = elim (cases_Bool (target operation.transfer == to)) [
  | inl here ↦ rw here (ap (requests_in slot) none)
  | inr other ↦ rw other refl
]

pub outs_gone : (to slot number : ℕ) (choice : Choice) (first_number : ℕ) (operations : List Operation)
    → outs to slot number (go choice first_number operations) ≡ outs to slot number operations
outs_gone to slot number choice k [] = refl
outs_gone to slot number choice k (first ∷ later) = elim (cases_Bool (choice k first)) [
  | inl is ↦ rw is (ap (λ more. map (λ r. record {
    operation = number;
    request = r;
  }) (requests_of to slot first) ++ more) (outs_gone to slot (suc number) choice (suc k) later))
  | inr isnt ↦ rw isnt (ap (λ more. map (λ r. record {
    operation = number;
    request = r;
  }) (requests_of to slot first) ++ more) (outs_gone to slot (suc number) choice (suc k) later))
]

sents_back : (slot : ℕ) (sents : List SentChunk) → list_all (λ (sent : SentChunk). sent.back) sents ≡ true
    → requests_in slot sents ≡ []
sents_back slot [] all = refl
sents_back slot (sent ∷ later) all =
    let both = and_parts sent.back (list_all (λ (one : SentChunk). one.back) later) all in
    rw both.0 (ap (λ out. if out then sent.number ∷ requests_in slot later else requests_in slot later)
    (and_false (sent.slot == slot)) ∙ sents_back slot later both.1)

-- a complete operation has nothing out
pub complete_none : (to slot : ℕ) (operation : Operation) → is_complete operation ≡ true
    → requests_of to slot operation ≡ []
complete_none to slot operation complete = elim (cases_Bool (target operation.transfer == to)) [
  | inl here ↦
      rw here (sents_back slot operation.sent
      (and_parts (not (has_next operation)) (list_all (λ (sent : SentChunk). sent.back) operation.sent) complete).1)
  | inr other ↦ rw other refl
]

-- what is out was issued, and isn't back
pub out_less : (slot : ℕ) (sents : List SentChunk) (request : ℕ) → requests_in slot sents ≡ request ∷ []
    → returned_of sents < length sents
out_less slot [] request one = absurd (some_none request [] (sym one))
out_less slot (sent ∷ later) request one = elim (cases_Bool ((sent.slot == slot) && not sent.back)) [
  | inl is ↦ (let most = returned_le later in
      rw (not-true sent.back (and_parts (sent.slot == slot) (not sent.back) is).1) (omega (arith, most)))
  | inr isnt ↦
      (let less = out_less slot later request (rw isnt at one) in
      elim (cases_Bool sent.back) [
        | inl back ↦ rw back (omega (arith, less))
        | inr waits ↦
            rw waits (omega (arith, less))
      ])
]
  where
    returned_le : (sents : List SentChunk) → returned_of sents ≤ length sents
    returned_le [] = omega arith
    returned_le (one ∷ more) = let rest = returned_le more in
        elim (cases_Bool one.back) [ inl is ↦ rw is (omega (arith, rest)) | inr isnt ↦ rw isnt (omega (arith, rest)) ]
