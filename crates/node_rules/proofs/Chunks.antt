-- What operations and requests say of each other is kept where requests stay, where an operation begins, where some go,
-- and where a chunk goes out or comes back.
use Rattle.std.proofs.Common.{◌≡◌, ◌≢◌, ◌⊎◌, inl, inr, ℕ, zero, suc, ◌+◌, ◌==◌, ◌≤◌, ◌&&◌, not, Bool, true, false}
use Rattle.std.proofs.Common.{true≢false}
use Rattle.std.proofs.Common.{if◌then◌else◌, List, [], ◌∷◌, ◌++◌, map, Some, length, refl, sym, ap, ◌∙◌, subst}
use Rattle.std.proofs.Common.{arith, eq-eqb, ne_eqb, nat_lt, ltb-true}
use Rattle.std.specs.List.{slice_get, list_all}
use Rattle.std.proofs.lemmas.Bool.{cases_Bool, cases_eq, and_parts, and_from}
use Rattle.std.proofs.lemmas.List.{length-map, length-append}
use Rattle.std.proofs.lemmas.Option.{same_Some}
use Rattle.base_lists.specs.Numbered.{element_at, change}
use Rattle.base_lists.proofs.Cases.{none_some}
use Rattle.base_lists.proofs.Places.{slice_get_push}
use Rattle.base_lists.proofs.Numbered.{numbered_push, numbered-change, numbered_mapped}
use Rattle.spec_node.specs.Record.{Request}
use Rattle.part_transfers.specs.declared.operation.Transfer.{Transfer}
use Rattle.part_transfers.specs.Operation.{Operation, SentChunk, target, size, chunks, has_next, is_complete, went_as, as_back}
use Rattle.part_transfers.specs.Operation.{with_back}
use Rattle.part_transfers.specs.Operation.{come_back, with_sent, chunk_of}
use Rattle.part_transfers.specs.Syncs.{Choice, go}
use Rattle.part_transfers.proofs.Issued.{come_back_was}
use Rattle.node_rules.specs.Tracking.{IsIssuedChunk, IsRequestOf, Tracks, chunk_at, chunk_content}
use Rattle.node_rules.proofs.Asked.{Stay, Returns}

-- ---- requests stay

pub tracks_stay : (version : ℕ) (asked later : ℕ → List Request) (operations : List Operation) → Stay asked later
    → Tracks version asked operations → Tracks version later operations
tracks_stay version asked later operations stay tracks = record {
  request = λ number index chunk.
      let was = tracks.request number index chunk in
      let now = stay (target chunk.operation.transfer) chunk.sent.number was.request was.accepted in
      record {
        request = now.0;
        accepted = now.1;
        slot = now.2.slot ∙ was.slot;
        content = now.2.content ∙ was.content;
        back = now.2.back_is ∙ was.back;
      };
  apart = tracks.apart;
  few = tracks.few;
  complete = tracks.complete;
}

-- ---- an operation begins

-- a chunk of an operation that has issued none
no_chunk : (operation : Operation) (index : ℕ) (sent : SentChunk) → operation.sent ≡ []
    → slice_get operation.sent index ≡ Some sent → ⊥
no_chunk operation index sent none at = none_some (sym (ap (λ sents. slice_get sents index) none) ∙ at)

-- the chunk where its operation has this number
abbrev chunk_in : (operations : List Operation) (number index : ℕ) (operation : Operation) (sent : SentChunk)
    → element_at operations number ≡ Some operation → slice_get operation.sent index ≡ Some sent
    → IsIssuedChunk operations number index
chunk_in operations number index operation sent here at =
    record { operation = operation; sent = sent; numbered_so = here; issued = at }

pub tracks_begun : (version : ℕ) (asked : ℕ → List Request) (operations : List Operation) (new : Operation)
    → new.sent ≡ [] → new.synced ≡ false
    → Tracks version asked operations → Tracks version asked (operations ++ new ∷ [])
tracks_begun version asked operations new none fresh tracks = record {
  request = λ number index chunk.
      let was = before number index chunk in
      tracks.request number index (chunk_in operations number index chunk.operation chunk.sent was chunk.issued);
  apart = λ number index other place chunk second same numbers.
      let was = before number index chunk in
      let also = before other place second in
      tracks.apart number index other place
      (chunk_in operations number index chunk.operation chunk.sent was chunk.issued)
      (chunk_in operations other place second.operation second.sent also second.issued) same numbers;
  few = λ number operation at. elim (numbered_push operations new number operation at) [
    | inl was ↦ tracks.few number operation was
    | inr is ↦
        let empty : length operation.sent ≡ 0 = ap length (sym (ap (λ (o : Operation). o.sent) is.1) ∙ none) in
        omega (arith, empty)
  ];
  complete = λ number operation at synced. elim (numbered_push operations new number operation at) [
    | inl was ↦ tracks.complete number operation was synced
    | inr is ↦ absurd (true≢false (sym synced ∙ (ap (λ (o : Operation). o.synced) (sym is.1) ∙ fresh)))
  ];
}
  where
    before : (number index : ℕ) (chunk : IsIssuedChunk (operations ++ new ∷ []) number index)
        → element_at operations number ≡ Some chunk.operation
    before number index chunk = elim (numbered_push operations new number chunk.operation chunk.numbered_so) [
      | inl was ↦ was
      | inr is ↦ absurd (no_chunk chunk.operation index chunk.sent
          (sym (ap (λ (o : Operation). o.sent) is.1) ∙ none) chunk.issued)
    ]

-- ---- operations go

-- the operation has the transfer and the chunks that it had
pub record IsSameButSynced (was now : Operation) : Type 0 where
  pub transfer : now.transfer ≡ was.transfer
  pub sent : now.sent ≡ was.sent

-- a request of a chunk is one of it where its operation has the same transfer
request_alike : (version : ℕ) (asked : ℕ → List Request) (number index : ℕ) (was now : Operation) (sent : SentChunk)
    → now.transfer ≡ was.transfer → IsRequestOf version asked number index was sent
    → IsRequestOf version asked number index now sent
request_alike version asked number index was now sent same is = record {
  request = is.request;
  accepted = ap (λ transfer. element_at (asked (target transfer)) sent.number) same ∙ is.accepted;
  slot = is.slot;
  content = is.content ∙ ap (λ transfer. chunk_content version (chunk_at transfer number index) sent.bytes) (sym same);
  back = is.back;
}

complete_alike : (was now : Operation) → IsSameButSynced was now → is_complete now ≡ is_complete was
complete_alike was now same = rw (same.transfer, same.sent) refl

pub go_was : (choice : Choice) (first : ℕ) (operations : List Operation) (place : ℕ) (now : Operation)
    → slice_get (go choice first operations) place ≡ Some now
    → (was : Operation) × (slice_get operations place ≡ Some was) × IsSameButSynced was now
    × ((now.synced ≡ was.synced) ⊎ (choice (first + place) was ≡ true))
go_was choice first [] place now at = absurd (none_some at)
go_was choice first (operation ∷ later) zero now at = elim (cases_Bool (choice first operation)) [
  | inl goes ↦ (
      let same : record operation { synced = true } ≡ now = same_Some _ _ (rw goes at at) in (
        operation,
        refl,
        record {
          transfer = ap (λ (o : Operation). o.transfer) (sym same);
          sent = ap (λ (o : Operation). o.sent) (sym same);
        },
        inr (ap (λ n. choice n operation) (omega arith) ∙ goes),
      ))
  | inr stays ↦ (
      let same : operation ≡ now = same_Some _ _ (rw stays at at) in (
        operation,
        refl,
        record {
          transfer = ap (λ (o : Operation). o.transfer) (sym same);
          sent = ap (λ (o : Operation). o.sent) (sym same);
        },
        inl (ap (λ (o : Operation). o.synced) (sym same)),
      ))
]
go_was choice first (operation ∷ later) (suc place) now at =
    let rest = go_was choice (suc first) later place now at in (
      rest.0,
      rest.1,
      rest.2,
      elim rest.3 [
        | inl same ↦ inl same
        | inr chosen ↦ inr (ap (λ n. choice n rest.0) (omega arith) ∙ chosen)
      ],
    )

-- the same by numbers
pub number_was : (choice : Choice) (operations : List Operation) (number : ℕ) (now : Operation)
    → element_at (go choice 1 operations) number ≡ Some now
    → (was : Operation) × (element_at operations number ≡ Some was) × IsSameButSynced was now
    × ((now.synced ≡ was.synced) ⊎ (choice number was ≡ true))
number_was choice operations zero now at = absurd (none_some at)
number_was choice operations (suc place) now at =
    let it = go_was choice 1 operations place now at in
    (it.0, it.1, it.2, elim it.3 [ inl same ↦ inl same | inr is ↦ inr (ap (λ n. choice n it.0) (omega arith) ∙ is) ])

-- all that are chosen are complete
abbrev pub AreComplete : Choice → List Operation → Type 0
AreComplete choice operations =
    (number : ℕ) (operation : Operation) → element_at operations number ≡ Some operation
    → choice number operation ≡ true → is_complete operation ≡ true

pub tracks_go : (version : ℕ) (asked : ℕ → List Request) (operations : List Operation) (choice : Choice)
    → AreComplete choice operations → Tracks version asked operations → Tracks version asked (go choice 1 operations)
tracks_go version asked operations choice all tracks = record {
  request = λ number index chunk.
      let was = number_was choice operations number chunk.operation chunk.numbered_so in
      request_alike version asked number index was.0 chunk.operation chunk.sent was.2.transfer
      (tracks.request number index (before number index chunk));
  apart = λ number index other place chunk second same numbers.
      let was = number_was choice operations number chunk.operation chunk.numbered_so in
      let also = number_was choice operations other second.operation second.numbered_so in
      tracks.apart number index other place (before number index chunk) (before other place second)
      (ap target (sym was.2.transfer) ∙ (same ∙ ap target also.2.transfer)) numbers;
  few = λ number operation at.
      let was = number_was choice operations number operation at in
      let less = tracks.few number was.0 was.1 in
      subst (λ (o : Transfer). length operation.sent ≤ chunks (size o)) (sym was.2.transfer)
      (subst (λ (sents : List SentChunk). length sents ≤ chunks (size was.0.transfer)) (sym was.2.sent) less);
  complete = λ number operation at synced.
      let was = number_was choice operations number operation at in
      complete_alike was.0 operation was.2 ∙ elim was.3 [
        | inl same ↦ tracks.complete number was.0 was.1 (sym same ∙ synced)
        | inr chosen ↦ all number was.0 was.1 chosen
      ];
}
  where
    before : (number index : ℕ) → IsIssuedChunk (go choice 1 operations) number index
        → IsIssuedChunk operations number index
    before number index chunk =
        let was = number_was choice operations number chunk.operation chunk.numbered_so in
        chunk_in operations number index was.0 chunk.sent was.1
        (ap (λ sents. slice_get sents index) (sym was.2.sent) ∙ chunk.issued)

-- ---- a chunk comes back

-- the operation after the reply to that request came from that node
pub record IsAfterReturn (from slot request : ℕ) (was now : Operation) : Type 0 where
  pub transfer : now.transfer ≡ was.transfer
  pub synced : now.synced ≡ was.synced
  pub sent : ((target was.transfer ≡ from) × (now.sent ≡ map (as_back slot request) was.sent))
      ⊎ ((target was.transfer ≢ from) × (now.sent ≡ was.sent))

after_return : (from slot request : ℕ) (was : Operation)
    → IsAfterReturn from slot request was (with_back from slot request was)
after_return from slot request was = elim (cases_eq (target was.transfer) from) [
  | inl same ↦ rw (eq-eqb (target was.transfer) from same)
      (record { transfer = refl; synced = refl; sent = inl (same, refl) })
  | inr apart ↦ rw (ne_eqb (target was.transfer) from apart)
      (record { transfer = refl; synced = refl; sent = inr (apart, refl) })
]

pub return_was : (from slot request : ℕ) (operations : List Operation) (number : ℕ) (now : Operation)
    → element_at (come_back from slot request operations) number ≡ Some now
    → (was : Operation) × (element_at operations number ≡ Some was) × IsAfterReturn from slot request was now
return_was from slot request operations number now at =
    let was = come_back_was from slot request operations number now at in (
      was.0,
      was.1,
      subst (λ (o : Operation). IsAfterReturn from slot request was.0 o) was.2
          (after_return from slot request was.0),
    )

-- a chunk then, by the one that it was
record IsAfterReply (from slot request to : ℕ) (was now : SentChunk) : Type 0 where
  slot_is : now.slot ≡ was.slot
  number : now.number ≡ was.number
  bytes : now.bytes ≡ was.bytes
  back : now.back ≡ (if (to == from) && ((was.slot == slot) && (was.number == request)) then true else was.back)

here_after : (from slot request to : ℕ) (was : SentChunk) → to ≡ from
    → IsAfterReply from slot request to was (as_back slot request was)
here_after from slot request to was same = elim (cases_Bool ((was.slot == slot) && (was.number == request))) [
  | inl it ↦ rw it
      (record { slot_is = refl; number = refl; bytes = refl; back = sym (rw (eq-eqb to from same, it) refl) })
  | inr other ↦ rw other
      (record { slot_is = refl; number = refl; bytes = refl; back = sym (rw (eq-eqb to from same, other) refl) })
]

sent_was : (from slot request : ℕ) (was now : Operation) (index : ℕ) (sent : SentChunk)
    → IsAfterReturn from slot request was now → slice_get now.sent index ≡ Some sent
    → (before : SentChunk) × (slice_get was.sent index ≡ Some before)
    × IsAfterReply from slot request (target was.transfer) before sent
sent_was from slot request was now index sent after at = elim after.sent [
  | inl here ↦ (
      let before = numbered_mapped (as_back slot request) was.sent (suc index) sent
      (ap (λ sents. slice_get sents index) (sym here.1) ∙ at) in (
        before.0,
        before.1,
        subst (λ (s : SentChunk). IsAfterReply from slot request (target was.transfer) before.0 s) before.2
            (here_after from slot request (target was.transfer) before.0 here.0),
      ))
  | inr there ↦ (
    sent,
    ap (λ sents. slice_get sents index) (sym there.1) ∙ at,
    record {
      slot_is = refl;
      number = refl;
      bytes = refl;
      back = sym (rw (ne_eqb (target was.transfer) from there.0) refl);
    },
  )
]

-- what was complete is
all_back : (slot request : ℕ) (sents : List SentChunk) → list_all (λ (sent : SentChunk). sent.back) sents ≡ true
    → list_all (λ (sent : SentChunk). sent.back) (map (as_back slot request) sents) ≡ true
all_back slot request [] all = refl
all_back slot request (sent ∷ later) all =
    let both = and_parts sent.back (list_all (λ (s : SentChunk). s.back) later) all in
    and_from _ _ (one (went_as slot request sent) both.0) (all_back slot request later both.1)
  where
    one : (it : Bool) → sent.back ≡ true
        → (if it then record sent { back = true } else sent).back ≡ true
    one true is = refl
    one false is = is

still_many : (from slot request : ℕ) (was now : Operation) → IsAfterReturn from slot request was now
    → length now.sent ≡ length was.sent
still_many from slot request was now after = elim after.sent [
  | inl here ↦ ap length here.1 ∙ length-map was.sent (as_back slot request)
  | inr there ↦ ap length there.1
]

still_complete : (from slot request : ℕ) (was now : Operation) → IsAfterReturn from slot request was now
    → is_complete was ≡ true → is_complete now ≡ true
still_complete from slot request was now after done =
    let both = and_parts (not (has_next was)) (list_all (λ (s : SentChunk). s.back) was.sent) done in
    let many : has_next now ≡ has_next was =
    rw (after.transfer, still_many from slot request was now after) refl in
    and_from _ _ (ap not many ∙ both.0) (elim after.sent [
      | inl here ↦ ap (list_all (λ (s : SentChunk). s.back)) here.1 ∙ all_back slot request was.sent both.1
      | inr there ↦ ap (list_all (λ (s : SentChunk). s.back)) there.1 ∙ both.1
    ])

pub tracks_back : (version from slot number : ℕ) (asked later : ℕ → List Request) (operations : List Operation)
    → Returns from slot number asked later
    → Tracks version asked operations → Tracks version later (come_back from slot number operations)
tracks_back version from slot number asked later operations returns tracks = record {
  request = λ place index chunk.
      let was = return_was from slot number operations place chunk.operation chunk.numbered_so in
      let sent = sent_was from slot number was.0 chunk.operation index chunk.sent was.2 chunk.issued in
      let is = tracks.request place index (chunk_in operations place index was.0 sent.0 was.1 sent.1) in
      let now = returns (target was.0.transfer) sent.0.number is.request is.accepted in
      record {
        request = now.0;
        accepted = ap (λ transfer. element_at (later (target transfer)) chunk.sent.number) was.2.transfer
            ∙ (ap (element_at (later (target was.0.transfer))) sent.2.number ∙ now.1);
        slot = now.2.slot ∙ (is.slot ∙ sym sent.2.slot_is);
        content = now.2.content ∙ (is.content
            ∙ (ap (λ bytes. chunk_content version (chunk_at was.0.transfer place index) bytes) (sym sent.2.bytes)
            ∙ ap (λ transfer. chunk_content version (chunk_at transfer place index) chunk.sent.bytes)
            (sym was.2.transfer)));
        back = now.2.back_is
            ∙ (ap (λ one. if (target was.0.transfer == from) && ((one == slot) && (sent.0.number == number)) then true
            else is.request.back) is.slot
            ∙ (ap (λ back. if (target was.0.transfer == from) && ((sent.0.slot == slot) && (sent.0.number == number))
            then true else back) is.back
            ∙ sym sent.2.back));
      };
  apart = λ place index other second_index chunk second same numbers.
      let was = return_was from slot number operations place chunk.operation chunk.numbered_so in
      let sent = sent_was from slot number was.0 chunk.operation index chunk.sent was.2 chunk.issued in
      let also = return_was from slot number operations other second.operation second.numbered_so in
      let went = sent_was from slot number also.0 second.operation second_index second.sent also.2 second.issued in
      tracks.apart place index other second_index (chunk_in operations place index was.0 sent.0 was.1 sent.1)
      (chunk_in operations other second_index also.0 went.0 also.1 went.1)
      (ap target (sym was.2.transfer) ∙ (same ∙ ap target also.2.transfer))
      (sym sent.2.number ∙ (numbers ∙ went.2.number));
  few = λ place operation at.
      let was = return_was from slot number operations place operation at in
      let less = tracks.few place was.0 was.1 in
      subst (λ (o : Transfer). length operation.sent ≤ chunks (size o)) (sym was.2.transfer)
      (subst (λ many. many ≤ chunks (size was.0.transfer))
      (sym (still_many from slot number was.0 operation was.2)) less);
  complete = λ place operation at synced.
      let was = return_was from slot number operations place operation at in
      still_complete from slot number was.0 operation was.2
      (tracks.complete place was.0 was.1 (sym was.2.synced ∙ synced));
}

-- ---- a chunk goes out

-- no request to the node has the number
abbrev pub IsFresh : (asked : ℕ → List Request) → (to number : ℕ) → Type 0
IsFresh asked to number = (request : Request) → element_at (asked to) number ≡ Some request → ⊥

-- the operation of that number issues its next chunk as this request, which went as the chunk says
pub record Issues (version : ℕ) (asked later : ℕ → List Request) (operations : List Operation) (place : ℕ)
    : Type 0 where
  pub operation : Operation
  pub here : element_at operations place ≡ Some operation
  pub has : has_next operation ≡ true
  pub request : Request
  pub number : ℕ
  pub bytes : List ℕ
  pub stay : Stay asked later
  pub fresh : IsFresh asked (target operation.transfer) number
  pub accepted : element_at (later (target operation.transfer)) number ≡ Some request
  pub content : request.content ≡ chunk_content version (chunk_of place operation) bytes
  pub open_ : request.back ≡ false

-- the operations then
abbrev pub after_issue : {version : ℕ} {asked later : ℕ → List Request} {operations : List Operation} {place : ℕ}
    → Issues version asked later operations place → List Operation
after_issue {operations = operations} {place = place} it =
    change (with_sent it.request.slot it.number it.bytes) operations place

-- the chunk that is new
abbrev new_sent : (slot number : ℕ) (bytes : List ℕ) → SentChunk
new_sent slot number bytes = record { slot = slot; number = number; bytes = bytes; back = false }

-- a chunk then was one before, or is the new one
data IsThen {version : ℕ} {asked later : ℕ → List Request} {operations : List Operation} {place : ℕ}
    (it : Issues version asked later operations place) (number index : ℕ) (now : Operation) (sent : SentChunk)
    : Type 0 where
  Old : (was : Operation) → now.transfer ≡ was.transfer → element_at operations number ≡ Some was
      → slice_get was.sent index ≡ Some sent → IsThen it number index now sent
  New : number ≡ place → index ≡ length it.operation.sent → now.transfer ≡ it.operation.transfer
      → sent ≡ new_sent it.request.slot it.number it.bytes → IsThen it number index now sent

then_is : (version : ℕ) (asked later : ℕ → List Request) (operations : List Operation) (place : ℕ)
    (it : Issues version asked later operations place)
    (number index : ℕ) (chunk : IsIssuedChunk (after_issue it) number index)
    → IsThen it number index chunk.operation chunk.sent
then_is version asked later operations place it number index chunk =
    let f = with_sent it.request.slot it.number it.bytes in
    let was = numbered-change f operations place number chunk.operation chunk.numbered_so in
    elim was.2 [
      | inl other ↦ Old was.0 (ap (λ (o : Operation). o.transfer) other.1) was.1
          (ap (λ (o : Operation). slice_get o.sent index) (sym other.1) ∙ chunk.issued)
      | inr one ↦
          let same : was.0 ≡ it.operation = same_Some _ _ (sym was.1 ∙ (ap (element_at operations) one.0 ∙ it.here)) in
          let transfer : chunk.operation.transfer ≡ was.0.transfer = ap (λ (o : Operation). o.transfer) one.1 in
          elim (slice_get_push was.0.sent (new_sent it.request.slot it.number it.bytes) index chunk.sent
          (ap (λ (o : Operation). slice_get o.sent index) (sym one.1) ∙ chunk.issued)) [
            | inl old ↦ Old was.0 transfer was.1 old
            | inr new ↦ New one.0 (new.0 ∙ ap (λ (o : Operation). length o.sent) same)
                (transfer ∙ ap (λ (o : Operation). o.transfer) same) (sym new.1)
          ]
    ]

-- the request of a chunk that is new
new_request : (version : ℕ) (asked later : ℕ → List Request) (operations : List Operation) (place : ℕ)
    (it : Issues version asked later operations place) (number index : ℕ) (now : Operation) (sent : SentChunk)
    → number ≡ place → index ≡ length it.operation.sent → now.transfer ≡ it.operation.transfer
    → sent ≡ new_sent it.request.slot it.number it.bytes
    → IsRequestOf version later number index now sent
new_request version asked later operations place it number index now sent here last same is = record {
  request = it.request;
  accepted = ap (λ (s : SentChunk). element_at (later (target now.transfer)) s.number) is
      ∙ (ap (λ transfer. element_at (later (target transfer)) it.number) same ∙ it.accepted);
  slot = ap (λ (s : SentChunk). s.slot) (sym is);
  content = it.content
      ∙ (ap (λ n. chunk_content version (chunk_at it.operation.transfer n (length it.operation.sent)) it.bytes)
      (sym here)
      ∙ (ap (λ i. chunk_content version (chunk_at it.operation.transfer number i) it.bytes) (sym last)
      ∙ (ap (λ transfer. chunk_content version (chunk_at transfer number index) it.bytes) (sym same)
      ∙ ap (λ (s : SentChunk). chunk_content version (chunk_at now.transfer number index) s.bytes) (sym is))));
  back = it.open_ ∙ ap (λ (s : SentChunk). s.back) (sym is);
}

-- an operation then has as many chunks, or it is the one that issued, with one more
few_then : (sents : List SentChunk) (sent : SentChunk) (many : ℕ) → nat_lt (length sents) many ≡ true
    → length (sents ++ sent ∷ []) ≤ many
few_then sents sent many less =
    omega (arith, length-append sents (sent ∷ []), ltb-true (length sents) many less)

pub tracks_issued : (version : ℕ) (asked later : ℕ → List Request) (operations : List Operation) (place : ℕ)
    (it : Issues version asked later operations place)
    → Tracks version asked operations → Tracks version later (after_issue it)
tracks_issued version asked later operations place it tracks = record {
  request = λ number index chunk.
      requests number index chunk (then_is version asked later operations place it number index chunk);
  apart = λ number index other second_index chunk second same numbers.
      apart number index other second_index chunk second same numbers
      (then_is version asked later operations place it number index chunk)
      (then_is version asked later operations place it other second_index second);
  few = λ number operation at.
      let was = numbered-change f operations place number operation at in
      elim was.2 [
        | inl other ↦ subst (λ (o : Operation). length o.sent ≤ chunks (size o.transfer)) (sym other.1)
            (tracks.few number was.0 was.1)
        | inr one ↦
            let same : was.0 ≡ it.operation = same_Some _ _ (sym was.1 ∙ (ap (element_at operations) one.0 ∙ it.here)) in
            subst (λ (o : Operation). length o.sent ≤ chunks (size o.transfer)) (sym one.1)
            (few_then was.0.sent _ (chunks (size was.0.transfer)) (ap has_next same ∙ it.has))
      ];
  complete = λ number operation at synced.
      let was = numbered-change f operations place number operation at in
      elim was.2 [
        | inl other ↦ ap is_complete other.1 ∙ tracks.complete number was.0 was.1
            (ap (λ (o : Operation). o.synced) (sym other.1) ∙ synced)
        | inr one ↦
            let same : was.0 ≡ it.operation = same_Some _ _ (sym was.1 ∙ (ap (element_at operations) one.0 ∙ it.here)) in
            let done : is_complete was.0 ≡ true =
            tracks.complete number was.0 was.1 (ap (λ (o : Operation). o.synced) (sym one.1) ∙ synced) in
            absurd (unfinished was.0 (ap has_next same ∙ it.has) done)
      ];
}
  where
    f : Operation → Operation
    f = with_sent it.request.slot it.number it.bytes

    unfinished : (was : Operation) → has_next was ≡ true → is_complete was ≡ true → ⊥
    unfinished was has done = true≢false (sym done ∙ rw has refl)

    old : (number index : ℕ) (now was : Operation) (sent : SentChunk) → now.transfer ≡ was.transfer
        → element_at operations number ≡ Some was → slice_get was.sent index ≡ Some sent
        → IsRequestOf version later number index now sent
    old number index now was sent same here at =
        request_alike version later number index was now sent same
        ((tracks_stay version asked later operations it.stay tracks).request number index
        (chunk_in operations number index was sent here at))

    requests : (number index : ℕ) (chunk : IsIssuedChunk (after_issue it) number index)
        → IsThen it number index chunk.operation chunk.sent
        → IsRequestOf version later number index chunk.operation chunk.sent
    requests number index chunk (Old was same here at) =
        old number index chunk.operation was chunk.sent same here at
    requests number index chunk (New here last same is) =
        new_request version asked later operations place it number index chunk.operation chunk.sent here last same is

    -- the request of an old chunk isn't the new one
    not_new : (number index : ℕ) (was : Operation) (sent : SentChunk) → element_at operations number ≡ Some was
        → slice_get was.sent index ≡ Some sent → target was.transfer ≡ target it.operation.transfer
        → sent.number ≡ it.number → ⊥
    not_new number index was sent here at same numbers =
        let is = tracks.request number index (chunk_in operations number index was sent here at) in
        it.fresh is.request (ap (λ to. element_at (asked to) it.number) (sym same)
        ∙ (ap (element_at (asked (target was.transfer))) (sym numbers) ∙ is.accepted))

    apart : (number index other second_index : ℕ) (chunk : IsIssuedChunk (after_issue it) number index)
        (second : IsIssuedChunk (after_issue it) other second_index)
        → target chunk.operation.transfer ≡ target second.operation.transfer → chunk.sent.number ≡ second.sent.number
        → IsThen it number index chunk.operation chunk.sent → IsThen it other second_index second.operation second.sent
        → (number ≡ other) × (index ≡ second_index)
    apart number index other second_index chunk second same numbers (Old was t here at) (Old also u there put_at) =
        tracks.apart number index other second_index (chunk_in operations number index was chunk.sent here at)
        (chunk_in operations other second_index also second.sent there put_at)
        (ap target (sym t) ∙ (same ∙ ap target u)) numbers
    apart number index other second_index chunk second same numbers (Old was t here at) (New place_is last u is) =
        absurd (not_new number index was chunk.sent here at (ap target (sym t) ∙ (same ∙ ap target u))
        (numbers ∙ ap (λ (s : SentChunk). s.number) is))
    apart number index other second_index chunk second same numbers (New place_is last t is) (Old also u there put_at) =
        absurd (not_new other second_index also second.sent there put_at
        (ap target (sym u) ∙ (sym same ∙ ap target t)) (sym numbers ∙ ap (λ (s : SentChunk). s.number) is))
    apart number index other second_index chunk second same numbers (New place_is last t is) (New also_is end u also) =
        (place_is ∙ sym also_is, last ∙ sym end)
