-- What lands stays within the segment.
use Rattle.std.proofs.Common.{ℕ, ◌≡◌, ◌+◌, ◌≤◌, Bool, true, false, List, ◌∷◌, [], Option, Some, None, inl, inr, refl}
use Rattle.std.proofs.Common.{arith, length, nat_lt, take, drop, true≢false, sym, ap, ◌∙◌, subst, ℤ}
use Rattle.std.specs.Prelude.{◌&&◌, ◌||◌, ◌==◌, not, if◌then◌else◌, replicate}
use Rattle.std.proofs.lemmas.Bool.Decides.{nat_tests}
use Rattle.std.proofs.lemmas.Bool.{cases_Bool, ltb-false, eqb-true}
use Rattle.std.proofs.lemmas.List.{length-take, length-replicate}
use Rattle.wire_message.specs.Parameters.{Parameters}
use Rattle.wire_message.specs.declared.kind.Kind.{Kind}
use Rattle.wire_message.specs.declared.kind.Kind.TheVariants as kind
use Rattle.wire_message.specs.Content.{Content, code, is_ack, is_long}
use Rattle.part_segment.specs.Image.{AllFit}
use Rattle.part_segment.proofs.Images.{all_fit_none, all_fit_one}
use Rattle.part_handlers.specs.declared.table.Entry.{Entry}
use Rattle.part_handlers.specs.declared.message.Which.{Which}
use Rattle.part_handlers.specs.declared.message.Which.TheVariants as which
use Rattle.part_handlers.specs.Registered.{entry_at, is_for_requests, is_for_replies}
use Rattle.part_handlers.specs.Runs.{is_reply_kind, passes_end, IsPlaced}
use Rattle.spec_node.specs.declared.answer.Why.TheVariants as why
use Rattle.spec_node.specs.Behaviour.{Asking, Category, Short, Medium, Long, PayloadFrom, Lent, Own}
use Rattle.wire_message.specs.Notifications.{argument}
use Rattle.node_core.specs.Library.{is_library, memset_handler, has_library, has_wrong_args, library_refusal}
use Rattle.node_core.specs.Library.{library_writes, is_no_fill, is_beyond, fill_said, filling}
use Rattle.node_core.specs.HandlerRuns.{landing, place_of}
use Rattle.node_core.specs.ClientRules.{content_refusal, client_refusal, has_handler, asking_fault, first_bad, payload_in}
use Rattle.node_core.specs.ClientRules.{payload_len, said_in, content_by, has_payload, has_place, passes_source}

-- what lands fits where a Long's place does
pub landing_fits : (segment : ℕ) (content : Content)
    → (is_long (code content.kind) ≡ true → content.offset + length content.payload ≤ segment)
    → AllFit segment (landing content)
landing_fits segment content inside = elim (cases_Bool (is_long (code content.kind))) [
  | inl long ↦ rw long (all_fit_one segment (record { offset = content.offset; bytes = content.payload }) (inside long))
  | inr other ↦ rw other (all_fit_none segment)
]

-- ---- replies

-- a reply that a handler sends is no Ack
pub reply_kind_is : (one : Kind) → is_reply_kind one ≡ true → is_ack (code one) ≡ false
reply_kind_is kind.ShortRequest is = refl
reply_kind_is kind.MediumRequest is = refl
reply_kind_is kind.LongRequest is = refl
reply_kind_is kind.ShortReply is = refl
reply_kind_is kind.MediumReply is = refl
reply_kind_is kind.LongReply is = refl
reply_kind_is kind.Ack is = absurd (cc)

-- ---- handlers of clients

-- an index with an entry is a client's
client_entry : (table : List (Option Entry)) (index : ℕ) (entry : Entry) → entry_at table index ≡ Some entry
    → is_library index ≡ false
client_entry table index entry is = elim (cases_Bool (nat_lt index 128)) [
  | inl low ↦ (let none = rw low at is in absurd (cc))
  | inr high ↦ grind (arith, nat_tests)
]

-- an index for which a handler of requests is registered is a client's
pub client_request : (table : List (Option Entry)) (index : ℕ) → is_for_requests (entry_at table index) ≡ true
    → is_library index ≡ false
client_request table index registered = by_entry (entry_at table index) refl registered
  where
    by_entry : (found : Option Entry) → entry_at table index ≡ found → is_for_requests found ≡ true
        → is_library index ≡ false
    by_entry None is registered = absurd (cc)
    by_entry (Some entry) is registered = client_entry table index entry is

-- so is one for which a handler of replies is
pub client_reply : (table : List (Option Entry)) (index : ℕ) → is_for_replies (entry_at table index) ≡ true
    → is_library index ≡ false
client_reply table index registered = by_entry (entry_at table index) refl registered
  where
    by_entry : (found : Option Entry) → entry_at table index ≡ found → is_for_replies found ≡ true
        → is_library index ≡ false
    by_entry None is registered = absurd (cc)
    by_entry (Some entry) is registered = client_entry table index entry is

-- what a message writes that no client's handler does, where so many bytes are there: its payload, and a memset's range
pub record StaysInside (segment : ℕ) (content : Content) : Type 0 where
  pub landed : AllFit segment (landing content)
  pub written : AllFit segment (library_writes content)

-- a message for a client's handler has no range to fill
pub client_stays : (segment : ℕ) (content : Content) → is_library content.handler ≡ false
    → AllFit segment (landing content) → StaysInside segment content
client_stays segment content client landed = record { landed = landed; written = rw none (all_fit_none segment) }
  where
    none : (content.handler == memset_handler) ≡ false
    none = elim (cases_Bool (content.handler == memset_handler)) [
      | inl is ↦ (let same : content.handler ≡ memset_handler = eqb-true content.handler memset_handler is in
          let low : is_library content.handler ≡ true = ap is_library same in
          absurd (true≢false (sym low ∙ client)))
      | inr other ↦ other
    ]

-- ---- messages that aren't refused

-- an Ack is no Long
pub ack_short : (one : Kind) → is_ack (code one) ≡ true → is_long (code one) ≡ false
ack_short kind.ShortRequest is = refl
ack_short kind.MediumRequest is = refl
ack_short kind.LongRequest is = absurd (true≢false (sym is))
ack_short kind.ShortReply is = refl
ack_short kind.MediumReply is = refl
ack_short kind.LongReply is = absurd (true≢false (sym is))
ack_short kind.Ack is = refl

-- what the library takes: a kind of its own, arguments that are right, and a place inside
pub record IsTaken (settings : Parameters) (content : Content) : Type 0 where
  pub known : has_library content.kind content.handler ≡ true
  pub right : has_wrong_args settings content.handler content.args ≡ false
  pub inside : passes_end settings.segment content ≡ false

-- a content of the library's that isn't refused, and is no Ack, is taken
pub library_taken : (settings : Parameters) (content : Content) → library_refusal settings content ≡ None
    → is_ack (code content.kind) ≡ false → IsTaken settings content
library_taken settings content none other =
    by_tests (has_library content.kind content.handler) (has_wrong_args settings content.handler content.args)
    (passes_end settings.segment content) refl refl refl (rw other at none)
  where
    by_tests : (known wrong passes : Bool) → has_library content.kind content.handler ≡ known
        → has_wrong_args settings content.handler content.args ≡ wrong
        → passes_end settings.segment content ≡ passes
        → (if not known then Some why.Handler else (if wrong then Some why.Args
        else (if passes then Some why.Range else None))) ≡ None
        → IsTaken settings content
    by_tests true false false k w p none = record { known = k; right = w; inside = p }
    by_tests true false true k w p none = absurd (cc)
    by_tests true true passes k w p none = absurd (cc)
    by_tests false wrong passes k w p none = absurd (cc)

library_inside : (settings : Parameters) (content : Content) → library_refusal settings content ≡ None
    → passes_end settings.segment content ≡ false
library_inside settings content none = elim (cases_Bool (is_ack (code content.kind))) [
  | inl acks ↦ rw (ack_short content.kind acks) refl
  | inr other ↦ (library_taken settings content none other).inside
]

-- a content for a client's handler that isn't refused has its place inside
client_inside : (settings : Parameters) (table : List (Option Entry)) (content : Content)
    → client_refusal settings table content ≡ None → passes_end settings.segment content ≡ false
client_inside settings table content none =
    by_tests (is_ack (code content.kind) || has_handler table content) (passes_end settings.segment content) none
  where
    by_tests : (is_handled passes : Bool)
        → (if is_handled then (if passes then Some why.Range else None) else Some why.Handler) ≡ None
        → passes ≡ false
    by_tests true false none = refl
    by_tests true true none = absurd (cc)
    by_tests false passes none = absurd (cc)

-- a content that isn't refused has its place inside
pub content_inside : (settings : Parameters) (table : List (Option Entry)) (content : Content)
    → content_refusal settings table content ≡ None → passes_end settings.segment content ≡ false
content_inside settings table content none = elim (cases_Bool (is_library content.handler)) [
  | inl own ↦ library_inside settings content (rw own at none)
  | inr other ↦ client_inside settings table content (rw other at none)
]

long_inside : (segment : ℕ) (content : Content) → passes_end segment content ≡ false
    → is_long (code content.kind) ≡ true → content.offset + length content.payload ≤ segment
long_inside segment content none long =
    let past : nat_lt segment (content.offset + length content.payload) ≡ false = rw long at none in
    ltb-false segment (content.offset + length content.payload) past

-- a content that doesn't pass the end has its place inside
pub inside_placed : (segment : ℕ) (content : Content) → passes_end segment content ≡ false
    → IsPlaced segment (place_of content)
inside_placed segment content inside = elim (cases_Bool (is_long (code content.kind))) [
  | inl long ↦ rw long (long_inside segment content inside long)
  | inr other ↦ rw other tt
]

-- the arguments of a memset that are right give a range inside
right_fill : (segment : ℕ) (args : List ℤ) → is_no_fill segment args ≡ false
    → AllFit segment (filling (fill_said args) ∷ [])
right_fill segment args right =
    let fill = fill_said args in
    let rest = or_none (not (length args == 4)) _ right in
    let range = or_none (is_beyond 255 (argument args 3)) _ (or_none (is_beyond 8192 (argument args 2)) _ rest.1).1 in
    let inside = ltb-false segment (fill.remote + fill.len) range.1 in
    let len : length (replicate fill.len fill.byte) ≡ fill.len = length-replicate fill.len fill.byte in
    all_fit_one segment (filling fill) (omega (arith, inside, len))
  where
    or_none : (first second : Bool) → (first || second) ≡ false → (first ≡ false) × (second ≡ false)
    or_none true second none = absurd (true≢false none)
    or_none false second none = (refl, none)

-- the range that a request of the library fills is inside
pub library_fits : (settings : Parameters) (content : Content) → library_refusal settings content ≡ None
    → is_ack (code content.kind) ≡ (content.handler == 0) → AllFit settings.segment (library_writes content)
library_fits settings content none acks = elim (cases_Bool (content.handler == memset_handler)) [
  | inl is ↦ (let same : content.handler ≡ memset_handler = eqb-true content.handler memset_handler is in
      let other : is_ack (code content.kind) ≡ false = acks ∙ ap (λ (index : ℕ). index == 0) same in
      let taken = library_taken settings content none other in
      let right : is_no_fill settings.segment content.args ≡ false =
      subst (λ (index : ℕ). has_wrong_args settings index content.args ≡ false) same taken.right in
      rw is (right_fill settings.segment content.args right))
  | inr other ↦ rw other (all_fit_none settings.segment)
]

-- what it writes that no client's handler does stays inside
pub content_fits : (settings : Parameters) (table : List (Option Entry)) (content : Content)
    → is_ack (code content.kind) ≡ (content.handler == 0)
    → content_refusal settings table content ≡ None → StaysInside settings.segment content
content_fits settings table content acks none =
    let landed = landing_fits settings.segment content
    (long_inside settings.segment content (content_inside settings table content none)) in
    elim (cases_Bool (is_library content.handler)) [
      | inl own ↦ record {
        landed = landed;
        written = library_fits settings content (rw own at none) acks;
      }
      | inr other ↦ client_stays settings.segment content other landed
    ]

-- ---- requests without a fault

-- where the first bad part is none, no part is bad
pub none_first : (bad : Bool) (part : Which) (rest : List (Bool × Which)) → first_bad ((bad, part) ∷ rest) ≡ None
    → (bad ≡ false) × (first_bad rest ≡ None)
none_first true part rest none = absurd (cc)
none_first false part rest none = (refl, none)

-- a payload has no more bytes than it is asked for
pub payload_small : (bytes : List ℕ) (payload : PayloadFrom) → length (payload_in bytes payload) ≤ payload_len payload
payload_small bytes (Lent lent) = omega arith
payload_small bytes (Own offset len) = take_small len bytes offset
  where
    take_small : (len : ℕ) (bytes : List ℕ) (offset : ℕ) → length (take len (drop offset bytes)) ≤ len
    take_small len bytes offset =
        let all = length-take len (drop offset bytes) in grind (arith, all)

-- the last faults
abbrev last_fault : Parameters → Asking → List (Bool × Which)
last_fault settings asking =
    (has_place asking.category && nat_lt settings.segment (asking.offset + payload_len asking.payload), which.Offset)
    ∷ []

abbrev place_faults : Parameters → Asking → List (Bool × Which)
place_faults settings asking =
    (has_payload asking.category && passes_source settings.segment asking.payload, which.Source)
    ∷ last_fault settings asking

abbrev payload_faults : Parameters → Asking → List (Bool × Which)
payload_faults settings asking =
    (has_payload asking.category && nat_lt 8192 (payload_len asking.payload), which.Payload)
    ∷ place_faults settings asking

-- the last of the five faults is none
placed : (settings : Parameters) (table : List (Option Entry)) (asking : Asking)
    → asking_fault settings table asking ≡ None
    → (has_place asking.category && nat_lt settings.segment (asking.offset + payload_len asking.payload)) ≡ false
placed settings table asking none =
    let handler = none_first (not (is_for_requests (entry_at table asking.handler))) which.Handler
    ((nat_lt 16 (length asking.args), which.Count) ∷ payload_faults settings asking) none in
    let count = none_first (nat_lt 16 (length asking.args)) which.Count (payload_faults settings asking) handler.1 in
    let payload = none_first (has_payload asking.category && nat_lt 8192 (payload_len asking.payload)) which.Payload
    (place_faults settings asking) count.1 in
    let source = none_first (has_payload asking.category && passes_source settings.segment asking.payload) which.Source
    (last_fault settings asking) payload.1 in
    (none_first (has_place asking.category && nat_lt settings.segment (asking.offset + payload_len asking.payload))
    which.Offset [] source.1).0

-- its handler is a client's
pub said_client : (settings : Parameters) (table : List (Option Entry)) (bytes : List ℕ) (asking : Asking)
    → asking_fault settings table asking ≡ None → is_library (said_in bytes asking).handler ≡ false
said_client settings table bytes asking none =
    by_category asking.category (client_request table asking.handler (not-false _ (none_first
    (not (is_for_requests (entry_at table asking.handler))) which.Handler
    ((nat_lt 16 (length asking.args), which.Count) ∷ payload_faults settings asking) none).0))
  where
    not-false : (test : Bool) → not test ≡ false → test ≡ true
    not-false true is = refl
    not-false false is = absurd (true≢false is)

    by_category : (category : Category) → is_library asking.handler ≡ false
        → is_library (content_by category asking (payload_in bytes asking.payload)).handler ≡ false
    by_category Short client = client
    by_category Medium client = client
    by_category Long client = client

-- what lands of a request without a fault fits
said_fits : (settings : Parameters) (table : List (Option Entry)) (bytes : List ℕ) (asking : Asking)
    → asking_fault settings table asking ≡ None → AllFit settings.segment (landing (said_in bytes asking))
said_fits settings table bytes asking none = by_category asking.category (placed settings table asking none)
  where
    by_category : (category : Category)
        → (has_place category && nat_lt settings.segment (asking.offset + payload_len asking.payload)) ≡ false
        → AllFit settings.segment (landing (content_by category asking (payload_in bytes asking.payload)))
    by_category Short inside = all_fit_none settings.segment
    by_category Medium inside = all_fit_none settings.segment
    by_category Long inside =
        let small = payload_small bytes asking.payload in
        let place = ltb-false settings.segment (asking.offset + payload_len asking.payload) inside in
        all_fit_one settings.segment
        (record { offset = asking.offset; bytes = payload_in bytes asking.payload }) (omega (arith, small, place))

-- what such a request writes that no client's handler does stays inside
pub said_stays : (settings : Parameters) (table : List (Option Entry)) (bytes : List ℕ) (asking : Asking)
    → asking_fault settings table asking ≡ None → StaysInside settings.segment (said_in bytes asking)
said_stays settings table bytes asking none =
    client_stays settings.segment (said_in bytes asking) (said_client settings table bytes asking none)
    (said_fits settings table bytes asking none)
