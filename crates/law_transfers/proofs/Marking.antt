-- What a change of a node's operations leaves of each of them.
use Rattle.std.proofs.Common.{◌≡◌, ◌⊎◌, inl, inr, ℕ, zero, suc, ◌==◌, Bool, true, false, List, [], ◌∷◌, map, length}
use Rattle.std.proofs.Common.{Some, refl, sym, ap, ◌∙◌, subst}
use Rattle.std.specs.Prelude.{if◌then◌else◌}
use Rattle.std.specs.List.{slice_get}
use Rattle.std.proofs.lemmas.Bool.{cases_Bool, cases_eq, eq-eqb, ne_eqb}
use Rattle.std.proofs.lemmas.Option.{same_Some}
use Rattle.base_lists.specs.Numbered.{element_at}
use Rattle.base_lists.proofs.Numbered.{numbered_push, numbered_kept, numbered_map, numbered_mapped}
use Rattle.part_transfers.specs.declared.operation.Transfer.{Transfer}
use Rattle.part_transfers.specs.declared.operation.Mode.{Mode}
use Rattle.part_transfers.specs.declared.operation.Synced.{Synced}
use Rattle.part_transfers.specs.declared.operation.Synced.TheVariants as synced
use Rattle.part_transfers.specs.Operation.{Operation, SentChunk, target, is_full, fresh, after_begin, with_back, as_back, went_as}
use Rattle.part_transfers.specs.Operation.{come_back}
use Rattle.part_transfers.specs.Syncs.{Choice, go, left_by, after_handle}

-- ---- marks

-- the same transfer, and the same chunks of it
abbrev pub Like : (old new : Operation) → Type 0
Like old new = (new.transfer ≡ old.transfer) × (new.sent ≡ old.sent)

-- each operation is like it was, or is new and has no chunk
pub record Alike (before after : List Operation) : Type 0 where
  pub kept : (number : ℕ) (old : Operation) → element_at before number ≡ Some old
      → (new : Operation) × (element_at after number ≡ Some new) × Like old new
  pub was : (number : ℕ) (new : Operation) → element_at after number ≡ Some new
      → ((old : Operation) × (element_at before number ≡ Some old) × Like old new) ⊎ (new.sent ≡ [])

pub alike_same : (before after : List Operation) → after ≡ before → Alike before after
alike_same before after is = record {
  kept = λ number old at. (old, ap (λ (operations : List Operation). element_at operations number) is ∙ at, (refl, refl));
  was = λ number new at. inl (
    new,
    ap (λ (operations : List Operation). element_at operations number) (sym is)
        ∙ at,
    (refl, refl),
  );
}

-- an operation after it was marked where it was chosen
abbrev marked : (chosen : Bool) → Operation → Operation
marked chosen operation = if chosen then record operation { synced = true } else operation

like_marked : (chosen : Bool) (operation : Operation) → Like operation (marked chosen operation)
like_marked true operation = (refl, refl)
like_marked false operation = (refl, refl)

go_kept : (choice : Choice) (number : ℕ) (operations : List Operation) (place : ℕ) (old : Operation)
    → slice_get operations place ≡ Some old
    → (new : Operation) × (slice_get (go choice number operations) place ≡ Some new) × Like old new
go_kept choice number [] place old at = absurd (cc)
go_kept choice number (first ∷ later) zero old at =
    let is : first ≡ old = same_Some _ _ at in (
      marked (choice number first) first,
      refl,
      subst (λ o. Like o (marked (choice number first) first)) is
          (like_marked (choice number first) first),
    )
go_kept choice number (first ∷ later) (suc place) old at = go_kept choice (suc number) later place old at

go_was : (choice : Choice) (number : ℕ) (operations : List Operation) (place : ℕ) (new : Operation)
    → slice_get (go choice number operations) place ≡ Some new
    → (old : Operation) × (slice_get operations place ≡ Some old) × Like old new
go_was choice number [] place new at = absurd (cc)
go_was choice number (first ∷ later) zero new at =
    let is : marked (choice number first) first ≡ new = same_Some _ _ at in
    (first, refl, subst (λ o. Like first o) is (like_marked (choice number first) first))
go_was choice number (first ∷ later) (suc place) new at = go_was choice (suc number) later place new at

alike_go : (choice : Choice) (operations : List Operation) → Alike operations (go choice 1 operations)
alike_go choice operations = record { kept = kept; was = was }
  where
    kept : (number : ℕ) (old : Operation) → element_at operations number ≡ Some old
        → (new : Operation) × (element_at (go choice 1 operations) number ≡ Some new) × Like old new
    kept zero old at = absurd (cc)
    kept (suc place) old at = go_kept choice 1 operations place old at

    was : (number : ℕ) (new : Operation) → element_at (go choice 1 operations) number ≡ Some new
        → ((old : Operation) × (element_at operations number ≡ Some old) × Like old new) ⊎ (new.sent ≡ [])
    was zero new at = absurd (cc)
    was (suc place) new at = inl (go_was choice 1 operations place new at)

pub alike_left : (says : Synced) (choice : Choice) (operations : List Operation)
    → Alike operations (left_by says choice operations)
alike_left synced.Ok choice operations = alike_go choice operations
alike_left _ choice operations = alike_same operations operations refl

pub alike_handle : (says : Synced) (handle : ℕ) (operations : List Operation)
    → Alike operations (after_handle says handle operations)
alike_handle says handle operations = elim (cases_eq handle 0) [
  | inl is ↦ rw (eq-eqb handle 0 is) (alike_same operations operations refl)
  | inr isnt ↦ rw (ne_eqb handle 0 isnt) (alike_left says _ operations)
]

-- an operation begins
pub alike_begin : (thread : ℕ) (transfer : Transfer) (mode : Mode) (operations : List Operation)
    → Alike operations (after_begin thread transfer mode operations)
alike_begin thread transfer mode operations =
    let new = fresh thread transfer mode (suc (length operations)) in
    elim (cases_Bool (is_full operations)) [
      | inl full ↦ rw full (alike_same operations operations refl)
      | inr room ↦ rw room (record {
        kept = λ number old at. (old, numbered_kept operations new number old at, (refl, refl));
        was = λ number one at. elim (numbered_push operations new number one at) [
          | inl old ↦ inl (one, old, (refl, refl))
          | inr it ↦ inr (ap (λ (o : Operation). o.sent) (sym it.1))
        ];
      })
    ]

-- ---- chunks

-- the operation of that number is this transfer, and its chunk at this index went as this request
pub record Chunked (operations : List Operation) (number index request : ℕ) (transfer : Transfer) : Type 0 where
  pub operation : Operation
  pub sent : SentChunk
  pub there : element_at operations number ≡ Some operation
  pub at : slice_get operation.sent index ≡ Some sent
  pub transfer_is : operation.transfer ≡ transfer
  pub request_is : sent.number ≡ request

-- operations keep their transfers, and have no chunk that they hadn't
pub record Evolves (before after : List Operation) : Type 0 where
  pub kept : (number : ℕ) (old : Operation) → element_at before number ≡ Some old
      → (new : Operation) × (element_at after number ≡ Some new) × (new.transfer ≡ old.transfer)
  pub chunk : (number index request : ℕ) (transfer : Transfer) → Chunked after number index request transfer
      → Chunked before number index request transfer

pub evolves_alike : (before after : List Operation) → Alike before after → Evolves before after
evolves_alike before after A = record {
  kept = λ number old at. let new = A.kept number old at in (new.0, new.1, new.2.0);
  chunk = λ number index request transfer C. elim (A.was number C.operation C.there) [
    | inl old ↦ record {
      operation = old.0;
      sent = C.sent;
      there = old.1;
      at = ap (λ (sent : List SentChunk). slice_get sent index) (sym old.2.1) ∙ C.at;
      transfer_is = sym old.2.0 ∙ C.transfer_is;
      request_is = C.request_is;
    }
    | inr none ↦ absurd (nothing index C.sent (ap (λ (sent : List SentChunk). slice_get sent index) (sym none) ∙ C.at))
  ];
}
  where
    nothing : (index : ℕ) (sent : SentChunk) → slice_get [] index ≡ Some sent → ⊥
    nothing index sent at = cc

pub evolves_same : (before after : List Operation) → after ≡ before → Evolves before after
evolves_same before after is = evolves_alike before after (alike_same before after is)

-- a chunk keeps its number where it comes back
as_back_number : (slot request : ℕ) (sent : SentChunk) → (as_back slot request sent).number ≡ sent.number
as_back_number slot request sent = elim (cases_Bool (went_as slot request sent))
    [ inl is ↦ rw is refl | inr isnt ↦ rw isnt refl ]

with_back_transfer : (from slot request : ℕ) (operation : Operation)
    → (with_back from slot request operation).transfer ≡ operation.transfer
with_back_transfer from slot request operation = elim (cases_Bool (target operation.transfer == from))
    [ inl is ↦ rw is refl | inr isnt ↦ rw isnt refl ]

-- a chunk of what is left was one, with its number
map_was : (slot request : ℕ) (chunks : List SentChunk) (index : ℕ) (new : SentChunk)
    → slice_get (map (as_back slot request) chunks) index ≡ Some new
    → (old : SentChunk) × (slice_get chunks index ≡ Some old) × (new.number ≡ old.number)
map_was slot request [] index new at = absurd (cc)
map_was slot request (first ∷ later) zero new at =
    (first, refl, ap (λ (s : SentChunk). s.number) (sym (same_Some _ _ at)) ∙ as_back_number slot request first)
map_was slot request (first ∷ later) (suc index) new at = map_was slot request later index new at

sent_was : (from slot request : ℕ) (operation : Operation) (index : ℕ) (new : SentChunk)
    → slice_get (with_back from slot request operation).sent index ≡ Some new
    → (old : SentChunk) × (slice_get operation.sent index ≡ Some old) × (new.number ≡ old.number)
sent_was from slot request operation index new at = elim (cases_Bool (target operation.transfer == from)) [
  | inl is ↦ map_was slot request operation.sent index new (rw is at at)
  | inr isnt ↦ (new, rw isnt at at, refl)
]

pub evolves_back : (from slot request : ℕ) (operations : List Operation)
    → Evolves operations (come_back from slot request operations)
evolves_back from slot number operations = record {
  kept = λ place old at. (
    with_back from slot number old,
    numbered_map (with_back from slot number) operations place
        old at,
    with_back_transfer from slot number old,
  );
  chunk = λ place index request transfer C.
      let old = numbered_mapped (with_back from slot number) operations place C.operation C.there in
      let was = sent_was from slot number old.0 index C.sent
      (ap (λ (o : Operation). slice_get o.sent index) old.2 ∙ C.at) in
      record {
        operation = old.0;
        sent = was.0;
        there = old.1;
        at = was.1;
        transfer_is = sym (with_back_transfer from slot number old.0)
            ∙ (ap (λ (o : Operation). o.transfer) old.2 ∙ C.transfer_is);
        request_is = sym was.2 ∙ C.request_is;
      };
}
