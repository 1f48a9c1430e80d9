-- Contents that aren't refused: what their runs write lies inside the segment, and their replies may be delivered.
use Rattle.std.proofs.Common.{◌≡◌, inl, inr, ℕ, ◌+◌, ◌≤◌, Bool, true, false, cond, ◌||◌, not, List, [], ◌∷◌, length}
use Rattle.std.proofs.Common.{Option}
use Rattle.std.proofs.Common.{None, Some, true≢false, refl, sym, ap, ◌∙◌, subst, arith, nat_lt}
use Rattle.std.specs.Prelude.{is_none, if◌then◌else◌, ◌==◌, drop, replicate}
use Rattle.std.specs.List.{AllByRecursion}
use Rattle.std.proofs.lemmas.Bool.{cases_Bool, and_parts, or_parts, ltb-false, le-ltb, eqb-true}
use Rattle.std.proofs.lemmas.List.{length-take, length-replicate}
use Rattle.wire_message.specs.Parameters.{Parameters}
use Rattle.wire_message.specs.Content.{Content, is_request, code, is_ack, is_long}
use Rattle.wire_message.specs.declared.kind.Kind.{Kind}
use Rattle.wire_message.specs.declared.kind.Kind.TheVariants as kind
use Rattle.wire_message.specs.Notifications.{argument}
use Rattle.part_segment.specs.Bytes.{part}
use Rattle.part_segment.specs.Image.{AllFit}
use Rattle.part_segment.proofs.Images.{all_fit_none, all_fit_one}
use Rattle.part_handlers.specs.declared.table.Entry.{Entry}
use Rattle.part_handlers.specs.declared.rules.Role.TheVariants as role
use Rattle.part_handlers.specs.declared.message.Which.{Which}
use Rattle.part_handlers.specs.Registered.{entry_at, is_for_requests, is_for_replies}
use Rattle.part_handlers.specs.Runs.{Frame, IsLawful, Meaning, IsLawfulMeaning, passes_end, is_reply_kind}
use Rattle.spec_node.specs.declared.answer.Why.TheVariants as why
use Rattle.spec_node.specs.Behaviour.{asks_well, replies_well, Asking, Category, Short, Medium, Long}
use Rattle.spec_node.specs.Behaviour.{Contact}
use Rattle.node_core.specs.Kept.{Local, IsKept, start_from, with_writes}
use Rattle.node_core.specs.Library.{is_library, has_library, has_wrong_args, library_refusal, library_writes}
use Rattle.node_core.specs.Library.{library_reply}
use Rattle.node_core.specs.Library.{is_no_fetch, is_no_fill, is_beyond, fetch_said, fill_said, get_handler}
use Rattle.node_core.specs.Library.{memset_handler}
use Rattle.node_core.specs.ClientRules.{content_by, payload_in, payload_len, content_refusal, client_refusal}
use Rattle.node_core.specs.ClientRules.{asking_fault}
use Rattle.node_core.specs.ClientRules.{first_bad, asking_faults, has_handler}
use Rattle.node_core.specs.HandlerRuns.{handlers_of, reply_or_ack, frame_of_run, landing}
use Rattle.node_core.specs.HandlerRuns.{run_request, run_reply}
use Rattle.node_core.proofs.Landings.{client_request, client_reply, client_stays, StaysInside, payload_small}
use Rattle.node_core.proofs.LocalKept.{request_kept as core_request, reply_kept as core_reply}
use Rattle.base_lists.proofs.Tests.{not_false, some_none}

-- ---- clients' handlers, and the library's

-- a content with a client's index is refused as a client's
pub as_client : (settings : Parameters) (table : List (Option Entry)) (content : Content)
    → is_library content.handler ≡ false
    → content_refusal settings table content ≡ client_refusal settings table content
as_client settings table content client = rw client refl

pub as_library : (settings : Parameters) (table : List (Option Entry)) (content : Content)
    → is_library content.handler ≡ true → content_refusal settings table content ≡ library_refusal settings content
as_library settings table content own = rw own refl

-- what the library takes: a kind of its own, right arguments, and a place inside
pub record IsTaken (settings : Parameters) (content : Content) : Type 0 where
  pub known : has_library content.kind content.handler ≡ true
  pub right : has_wrong_args settings content.handler content.args ≡ false
  pub inside : passes_end settings.segment content ≡ false

pub taken : (settings : Parameters) (content : Content) → is_ack (code content.kind) ≡ false
    → is_none (library_refusal settings content) ≡ true → IsTaken settings content
taken settings content other well =
    by_tests (has_library content.kind content.handler) (has_wrong_args settings content.handler content.args)
    (passes_end settings.segment content) refl refl refl (rw other at well)
  where
    by_tests : (known wrong passes : Bool) → has_library content.kind content.handler ≡ known
        → has_wrong_args settings content.handler content.args ≡ wrong → passes_end settings.segment content ≡ passes
        → is_none (if not known then Some why.Handler else (if wrong then Some why.Args
        else (if passes then Some why.Range else None))) ≡ true → IsTaken settings content
    by_tests true false false known_is wrong_is passes_is e =
        record { known = known_is; right = wrong_is; inside = passes_is }
    by_tests true false true known_is wrong_is passes_is e = absurd (true≢false (sym e))
    by_tests true true passes known_is wrong_is passes_is e = absurd (true≢false (sym e))
    by_tests false wrong passes known_is wrong_is passes_is e = absurd (true≢false (sym e))

-- what a client's handler gets has its place inside
client_inside : (settings : Parameters) (table : List (Option Entry)) (content : Content)
    → is_none (client_refusal settings table content) ≡ true → passes_end settings.segment content ≡ false
client_inside settings table content well =
    by_tests (is_ack (code content.kind) || has_handler table content) (passes_end settings.segment content) well
  where
    by_tests : (is_there passes : Bool)
        → is_none (if is_there then (if passes then Some why.Range else None) else Some why.Handler) ≡ true
        → passes ≡ false
    by_tests true false e = refl
    by_tests true true e = absurd (true≢false (sym e))
    by_tests false passes e = absurd (true≢false (sym e))

-- what isn't refused has its place inside, and the library's has right arguments
pub record IsWell (settings : Parameters) (content : Content) : Type 0 where
  pub inside : passes_end settings.segment content ≡ false
  pub right : is_library content.handler ≡ true → IsTaken settings content

pub well_is : (settings : Parameters) (table : List (Option Entry)) (content : Content)
    → is_ack (code content.kind) ≡ false → is_none (content_refusal settings table content) ≡ true
    → IsWell settings content
well_is settings table content other well = elim (cases_Bool (is_library content.handler)) [
  | inl own ↦
      let parts = taken settings content other (ap is_none (sym (as_library settings table content own)) ∙ well) in
      record { inside = parts.inside; right = λ is. parts }
  | inr client ↦ record {
    inside = client_inside settings table content (ap is_none (sym (as_client settings table content client)) ∙ well);
    right = λ is. absurd (true≢false (sym is ∙ client));
  }
]

-- ---- requests of clients

-- no line of a list applies
pub none_bad : (lines : List (Bool × Which)) → first_bad lines ≡ None
    → AllByRecursion (λ (line : Bool × Which). line.0 ≡ false) lines
none_bad [] e = tt
none_bad (line ∷ rest) e = elim (cases_Bool line.0) [
  | inl bad ↦ absurd (some_none (rw bad at e))
  | inr good ↦ (good, none_bad rest (rw good at e))
]

-- the content of a client's request is well, where its handler and its place are
well_by : (settings : Parameters) (table : List (Option Entry)) (content : Content) → is_request content.kind ≡ true
    → is_for_requests (entry_at table content.handler) ≡ true → passes_end settings.segment content ≡ false
    → asks_well (content_refusal settings table) content ≡ true
well_by settings table content asks registered inside =
    let client = client_request table content.handler registered in
    rw (client, asks, registered, inside) (go (is_ack (code content.kind)))
  where
    go : (acks : Bool) → is_none (cond (acks || true) None (Some why.Handler)) ≡ true
    go true = refl
    go false = refl

-- a place that doesn't pass the end with the longest payload doesn't with a shorter one
not_past : (len offset bytes most : ℕ) → bytes ≤ most → nat_lt len (offset + most) ≡ false
    → nat_lt len (offset + bytes) ≡ false
not_past len offset bytes most less inside =
    le-ltb len (offset + bytes) (omega (arith, less, ltb-false len (offset + most) inside))

-- a request without a fault may be delivered
pub asking_well : (settings : Parameters) (table : List (Option Entry)) (segment : List ℕ) (category : Category)
    (asking : Asking) → asking.category ≡ category → asking_fault settings table asking ≡ None
    → asks_well (content_refusal settings table) (content_by category asking (payload_in segment asking.payload))
    ≡ true
asking_well settings table segment category asking is e =
    by_category category is
  where
    good : AllByRecursion (λ (line : Bool × Which). line.0 ≡ false) (asking_faults settings table asking)
    good = none_bad (asking_faults settings table asking) e

    registered : is_for_requests (entry_at table asking.handler) ≡ true
    registered = not_false _ good.0

    by_category : (c : Category) → asking.category ≡ c
        → asks_well (content_refusal settings table) (content_by c asking (payload_in segment asking.payload)) ≡ true
    by_category Short same =
        well_by settings table (content_by Short asking (payload_in segment asking.payload)) refl registered refl
    by_category Medium same =
        well_by settings table (content_by Medium asking (payload_in segment asking.payload)) refl registered refl
    by_category Long same =
        let placed : nat_lt settings.segment (asking.offset + payload_len asking.payload) ≡ false =
        rw same at good.1.1.1.1.0 in
        well_by settings table (content_by Long asking (payload_in segment asking.payload)) refl registered
        (not_past settings.segment asking.offset (length (payload_in segment asking.payload))
        (payload_len asking.payload) (payload_small segment asking.payload) placed)

-- ---- replies

-- the kind of a reply that a handler sends is no request's
pub reply_asks_none : (k : Kind) → is_reply_kind k ≡ true → is_request k ≡ false
reply_asks_none kind.ShortRequest e = absurd (true≢false (sym e))
reply_asks_none kind.MediumRequest e = absurd (true≢false (sym e))
reply_asks_none kind.LongRequest e = absurd (true≢false (sym e))
reply_asks_none kind.ShortReply e = refl
reply_asks_none kind.MediumReply e = refl
reply_asks_none kind.LongReply e = refl
reply_asks_none kind.Ack e = absurd (true≢false (sym e))

-- a reply that a client's handler sent, or an Ack, may be delivered
reply_well : (settings : Parameters) (table : List (Option Entry)) (frame : Frame) (o : Option Content)
    → frame.settings ≡ settings → frame.table ≡ table → IsLawful frame o
    → replies_well (content_refusal settings table) (reply_or_ack o) ≡ true
reply_well settings table frame None same is lawful = refl
reply_well settings table frame (Some content) same is lawful =
    let client = client_reply table content.handler registered in
    rw (client, reply_asks_none content.kind lawful.reply.kind, registered, inside) (go (is_ack (code content.kind)))
  where
    registered : is_for_replies (entry_at table content.handler) ≡ true
    registered = subst (λ t. is_for_replies (entry_at t content.handler) ≡ true) is lawful.registered

    inside : passes_end settings.segment content ≡ false
    inside = elim (cases_Bool (is_long (code content.kind))) [
      | inl long ↦ rw long (le-ltb settings.segment (content.offset + length content.payload)
          (subst (λ (s : Parameters). content.offset + length content.payload ≤ s.segment) same (lawful.inside long)))
      | inr short ↦ rw short refl
    ]

    go : (acks : Bool) → is_none (cond (acks || true) None (Some why.Handler)) ≡ true
    go true = refl
    go false = refl

-- what a get asks for, where its arguments are right
fetch_inside : (settings : Parameters) (content : Content) → (content.handler == get_handler) ≡ true
    → has_wrong_args settings content.handler content.args ≡ false
    → nat_lt settings.segment ((fetch_said content.args).local + (fetch_said content.args).len) ≡ false
fetch_inside settings content gets right =
    let fetch = fetch_said content.args in
    let same : content.handler ≡ get_handler = eqb-true content.handler get_handler gets in
    let right_is : is_no_fetch settings.segment content.args ≡ false =
    ap (λ handler. has_wrong_args settings handler content.args) (sym same) ∙ right in
    let far = nat_lt settings.segment (fetch.remote + fetch.len) in
    (or_parts far (nat_lt settings.segment (fetch.local + fetch.len))
    (or_parts (is_beyond 8192 (argument content.args 2)) _
    (or_parts (not (length content.args == 5)) _ right_is).1).1).1

-- what the library replies may be delivered
library_well : (settings : Parameters) (table : List (Option Entry)) (segment : List ℕ) (content : Content)
    → has_wrong_args settings content.handler content.args ≡ false
    → replies_well (content_refusal settings table) (reply_or_ack (library_reply segment content)) ≡ true
library_well settings table segment content right = elim (cases_Bool (content.handler == get_handler)) [
  | inl gets ↦
      let fetch = fetch_said content.args in
      let inside : nat_lt settings.segment (fetch.local + length (part segment fetch.remote fetch.len)) ≡ false =
      not_past settings.segment fetch.local (length (part segment fetch.remote fetch.len)) fetch.len
      (omega (arith, length-take fetch.len (drop fetch.remote segment))) (fetch_inside settings content gets right) in
      rw gets (rw inside refl)
  | inr other ↦ rw other refl
]

-- no request is an Ack
pub asks_no_ack : (k : Kind) → is_request k ≡ true → is_ack (code k) ≡ false
asks_no_ack kind.ShortRequest e = refl
asks_no_ack kind.MediumRequest e = refl
asks_no_ack kind.LongRequest e = refl
asks_no_ack kind.ShortReply e = absurd (true≢false (sym e))
asks_no_ack kind.MediumReply e = absurd (true≢false (sym e))
asks_no_ack kind.LongReply e = absurd (true≢false (sym e))
asks_no_ack kind.Ack e = absurd (true≢false (sym e))

-- the reply of a run may be delivered
pub run_replies : (settings : Parameters) (table : List (Option Entry)) (meaning : Meaning) (contact : Contact)
    (content : Content) (local : Local) → IsLawfulMeaning meaning
    → asks_well (content_refusal settings table) content ≡ true
    → replies_well (content_refusal settings table)
    (run_request (handlers_of settings table meaning) contact content local).1 ≡ true
run_replies settings table meaning contact content local lawful well =
    let parts = and_parts _ _ well in
    let is = well_is settings table content (asks_no_ack content.kind parts.0) parts.1 in
    let start = start_from settings (with_writes local (landing content)) in
    let frame = frame_of_run (handlers_of settings table meaning) role.Request contact content in
    elim (cases_Bool (is_library content.handler)) [
      | inl own ↦ rw own (library_well settings table start.segment content (is.right own).right)
      | inr client ↦ rw client (reply_well settings table frame (meaning content.handler frame start).reply refl refl
          (lawful content.handler frame start).reply)
    ]

-- ---- what a run leaves

-- the payload of a content that isn't refused lands inside
pub landing_fits : (settings : Parameters) (content : Content) → passes_end settings.segment content ≡ false
    → AllFit settings.segment (landing content)
landing_fits settings content inside = elim (cases_Bool (is_long (code content.kind))) [
  | inl long ↦ rw long (all_fit_one settings.segment (record { offset = content.offset; bytes = content.payload })
      (ltb-false settings.segment (content.offset + length content.payload) (rw long at inside)))
  | inr short ↦ rw short (all_fit_none settings.segment)
]

-- so does what a memset writes
filling_fits : (settings : Parameters) (content : Content)
    → has_wrong_args settings content.handler content.args ≡ false
    → AllFit settings.segment (library_writes content)
filling_fits settings content right = elim (cases_Bool (content.handler == memset_handler)) [
  | inl fills ↦
      let fill = fill_said content.args in
      let same : content.handler ≡ memset_handler = eqb-true content.handler memset_handler fills in
      let right_is : is_no_fill settings.segment content.args ≡ false =
      ap (λ handler. has_wrong_args settings handler content.args) (sym same) ∙ right in
      let inside : nat_lt settings.segment (fill.remote + fill.len) ≡ false =
      (or_parts (is_beyond 255 (argument content.args 3)) _
      (or_parts (is_beyond 8192 (argument content.args 2)) _
      (or_parts (not (length content.args == 4)) _ right_is).1).1).1 in
      rw fills (all_fit_one settings.segment (record { offset = fill.remote; bytes = replicate fill.len fill.byte })
      (subst (λ len. fill.remote + len ≤ settings.segment) (sym (length-replicate fill.len fill.byte))
      (ltb-false settings.segment (fill.remote + fill.len) inside)))
  | inr other ↦ rw other (all_fit_none settings.segment)
]

-- so do both
stays : (settings : Parameters) (content : Content) → IsWell settings content → StaysInside settings.segment content
stays settings content is =
    let landed = landing_fits settings content is.inside in
    elim (cases_Bool (is_library content.handler)) [
      | inl own ↦ record { landed = landed; written = filling_fits settings content (is.right own).right }
      | inr client ↦ client_stays settings.segment content client landed
    ]

-- a run leaves what is good
pub request_kept : (settings : Parameters) (table : List (Option Entry)) (meaning : Meaning) (contact : Contact)
    (content : Content) (local : Local) → IsLawfulMeaning meaning
    → asks_well (content_refusal settings table) content ≡ true → IsKept settings contact.me local
    → IsKept settings contact.me (run_request (handlers_of settings table meaning) contact content local).0
request_kept settings table meaning contact content local lawful well good =
    let parts = and_parts _ _ well in
    core_request (handlers_of settings table meaning) contact content local lawful
    (stays settings content (well_is settings table content (asks_no_ack content.kind parts.0) parts.1)) good

pub reply_kept : (settings : Parameters) (table : List (Option Entry)) (meaning : Meaning) (contact : Contact)
    (content : Content) (local : Local) → IsLawfulMeaning meaning
    → replies_well (content_refusal settings table) content ≡ true → IsKept settings contact.me local
    → IsKept settings contact.me (run_reply (handlers_of settings table meaning) contact content local)
reply_kept settings table meaning contact content local lawful well good =
    elim (cases_Bool (is_ack (code content.kind))) [
      | inl acks ↦ rw acks good
      | inr other ↦ core_reply (handlers_of settings table meaning) contact content local lawful
          (stays settings content (well_is settings table content other (and_parts _ _ well).1)) good
    ]
