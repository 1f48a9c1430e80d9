-- Contents that have a spelling wherever they go.
use Rattle.std.proofs.Common.{◌≡◌, inl, inr, ℕ, ◌+◌, ◌<◌, ◌≤◌, ◌^◌, not, Bool, true, false, true≢false}
use Rattle.std.proofs.Common.{List, [], ◌∷◌, length, Option, None, Some, refl, sym, ap, ◌∙◌, arith, nat_lt}
use Rattle.std.proofs.Common.{ℤ, slice_index}
use Rattle.std.specs.Prelude.{drop, slice_get, ◌-◌, pos, negsuc, option_and_then, ◌==◌}
use Rattle.std.specs.List.{AllByRecursion}
use Rattle.std.proofs.lemmas.Bool.{cases_Bool, or_parts, ltb-false, eqb-true}
use Rattle.std.proofs.lemmas.List.{length-take}
use Rattle.std.proofs.lemmas.Option.{slice_get_within}
use Rattle.base_lists.proofs.Cases.{none_some}
use Rattle.wire_message.specs.Parameters.{Parameters, AreInRange}
use Rattle.wire_message.specs.declared.content.Address.{Address}
use Rattle.wire_message.specs.declared.kind.Kind.{Kind}
use Rattle.wire_message.specs.declared.kind.Kind.TheVariants as kind
use Rattle.wire_message.specs.declared.notification.BarrierNotification.{BarrierNotification}
use Rattle.wire_message.specs.Content.{Content, message_at_address, ack, short_request, code, is_ack, is_kind, is_long}
use Rattle.wire_message.specs.Content.{IsWellAddressed, IsWellFormed}
use Rattle.wire_message.specs.Message.{IsMessage}
use Rattle.wire_message.specs.Notifications.{IsNotification, notification_arguments, argument}
use Rattle.wire_message.proofs.Addressing.{IsForHandler, for_handler, ack_formed}
use Rattle.wire_message.proofs.Ranges.{is_message}
use Rattle.part_segment.specs.Bytes.{part}
use Rattle.part_handlers.specs.declared.table.Entry.{Entry}
use Rattle.part_handlers.specs.declared.message.Which.{Which}
use Rattle.part_handlers.specs.Registered.{entry_at, is_for_requests, is_for_replies}
use Rattle.part_handlers.specs.Runs.{Frame, IsGood, IsLawful, is_reply_kind}
use Rattle.spec_node.specs.Behaviour.{Asking, Category, Short, Medium, Long, PayloadFrom, Lent, Own}
use Rattle.node_core.specs.ClientRules.{said_in, content_by, payload_in, payload_len, asking_fault, asking_faults}
use Rattle.node_core.specs.ClientRules.{first_bad}
use Rattle.node_core.specs.Library.{Work, Put, Get, Memset, Notification, WorkFits, work_content, get_handler, fetched_content}
use Rattle.node_core.specs.Library.{fetch_said}
use Rattle.node_core.specs.Library.{memset_handler, notification_handler, fetch_arguments, fill_arguments}
use Rattle.node_core.specs.Library.{has_wrong_args, is_no_fetch, is_beyond, natural, library_reply}
use Rattle.node_core.specs.HandlerRuns.{reply_or_ack}
use Rattle.law_traces.specs.Fitting.{AreNumbers, AreBytes, ContentFits, ReplyFits, PayloadFits}
use Rattle.law_traces.proofs.Bytes.{bytes_none, bytes_part, high_fits, low_fits, small_fits}
use Rattle.base_lists.proofs.Tests.{not_false}
use Rattle.node_rules.proofs.Handled.{none_bad}
use Rattle.node_core.proofs.Landings.{payload_small}

-- wherever it goes it has a spelling
pub record IsSpoken (content : Content) : Type 0 where
  pub formed : (address : Address) → IsWellAddressed address → IsWellFormed (message_at_address address content)
  pub handler : content.handler < 2 ^ 8
  pub offset : content.offset < 2 ^ 64
  pub fits : ContentFits content

-- the numbers of an address are in their ranges
pub record IsPlace (address : Address) : Type 0 where
  pub well : IsWellAddressed address
  pub job : address.job < 2 ^ 64
  pub from : address.from < 2 ^ 16
  pub to : address.to < 2 ^ 16
  pub slot : address.slot < 2 ^ 16
  pub number : address.number < 2 ^ 64

pub spoken_message : (address : Address) (content : Content) → IsPlace address → IsSpoken content
    → IsMessage (message_at_address address content)
spoken_message address content at says =
    is_message (message_at_address address content) (record {
      job = at.job;
      from = at.from;
      to = at.to;
      slot = at.slot;
      number = at.number;
      handler = says.handler;
      offset = says.offset;
      payload = says.fits.payload;
    }) says.fits.args (says.formed address at.well)

spoken_by : (content : Content) → IsForHandler content → content.handler < 2 ^ 8 → content.offset < 2 ^ 64
    → ContentFits content → IsSpoken content
spoken_by content is handler offset fits = record {
  formed = λ address at. for_handler address content at is;
  handler = handler;
  offset = offset;
  fits = fits;
}

pub ack_spoken : IsSpoken ack
ack_spoken = record {
  formed = ack_formed;
  handler = omega arith;
  offset = omega arith;
  fits = record { args = tt; payload = bytes_none };
}

-- ---- the index of a client's handler

record IsIndex (index : ℕ) : Type 0 where
  low : 128 ≤ index
  high : index < 2 ^ 8

index_is : (table : List (Option Entry)) (index : ℕ) (entry : Entry) → length table ≤ 128
    → entry_at table index ≡ Some entry → IsIndex index
index_is table index entry few is = elim (cases_Bool (nat_lt index 128)) [
  | inl below ↦ absurd (none_some (rw below at is))
  | inr above ↦ by_place (slice_get table (index - 128)) refl (ltb-false index 128 above) (rw above at is)
]
  where
    by_place : (found : Option (Option Entry)) → slice_get table (index - 128) ≡ found → 128 ≤ index
        → option_and_then (λ (e : Option Entry). e) found ≡ Some entry → IsIndex index
    by_place None at low e = absurd (none_some e)
    by_place (Some one) at low e =
        record { low = low; high = omega (arith, low, few, slice_get_within table (index - 128) one at) }

request_index : (table : List (Option Entry)) (index : ℕ) → length table ≤ 128
    → is_for_requests (entry_at table index) ≡ true → IsIndex index
request_index table index few is = by_entry (entry_at table index) refl is
  where
    by_entry : (found : Option Entry) → entry_at table index ≡ found → is_for_requests found ≡ true → IsIndex index
    by_entry None at e = absurd (true≢false (sym e))
    by_entry (Some entry) at e = index_is table index entry few at

reply_index : (table : List (Option Entry)) (index : ℕ) → length table ≤ 128
    → is_for_replies (entry_at table index) ≡ true → IsIndex index
reply_index table index few is = by_entry (entry_at table index) refl is
  where
    by_entry : (found : Option Entry) → entry_at table index ≡ found → is_for_replies found ≡ true → IsIndex index
    by_entry None at e = absurd (true≢false (sym e))
    by_entry (Some entry) at e = index_is table index entry few at

-- ---- requests of threads

payload_bytes : (segment : List ℕ) (payload : PayloadFrom) → AreBytes segment → PayloadFits payload
    → AreBytes (payload_in segment payload)
payload_bytes segment (Lent bytes) all fits = fits
payload_bytes segment (Own offset len) all fits = bytes_part segment offset len all

-- a request without a fault
pub asked_spoken : (settings : Parameters) (table : List (Option Entry)) (segment : List ℕ) (asking : Asking)
    → AreInRange settings → length table ≤ 128 → asking_fault settings table asking ≡ None
    → AreNumbers asking.args → PayloadFits asking.payload → AreBytes segment → IsSpoken (said_in segment asking)
asked_spoken settings table segment asking range few none args payload bytes = by_category asking.category refl
  where
    good : AllByRecursion (λ (line : Bool × Which). line.0 ≡ false) (asking_faults settings table asking)
    good = none_bad (asking_faults settings table asking) none

    index : IsIndex asking.handler
    index = request_index table asking.handler few (not_false _ good.0)

    count : length asking.args ≤ 16
    count = ltb-false 16 (length asking.args) good.1.0

    said : List ℕ
    said = payload_in segment asking.payload

    small : payload_len asking.payload ≤ 8192 → length said ≤ 8192
    small less = omega (arith, less, payload_small segment asking.payload)

    by_category : (category : Category) → asking.category ≡ category → IsSpoken (content_by category asking said)
    by_category Short is = spoken_by (content_by Short asking said) (record {
      kind = refl;
      no_ack = refl;
      some_handler = omega (arith, index.low);
      few_args = count;
      long_offset = λ e. refl;
      short_payload = omega arith;
      bare_payload = λ e. refl;
    }) index.high (omega arith) (record { args = args; payload = bytes_none })
    by_category Medium is =
        let less : nat_lt 8192 (payload_len asking.payload) ≡ false = rw is at good.1.1.0 in
        spoken_by (content_by Medium asking said) (record {
          kind = refl;
          no_ack = refl;
          some_handler = omega (arith, index.low);
          few_args = count;
          long_offset = λ e. refl;
          short_payload = small (ltb-false 8192 (payload_len asking.payload) less);
          bare_payload = λ e. absurd (true≢false (sym e));
        }) index.high (omega arith)
        (record { args = args; payload = payload_bytes segment asking.payload bytes payload })
    by_category Long is =
        let less : nat_lt 8192 (payload_len asking.payload) ≡ false = rw is at good.1.1.0 in
        let placed : nat_lt settings.segment (asking.offset + payload_len asking.payload) ≡ false =
        rw is at good.1.1.1.1.0 in
        let inside = ltb-false settings.segment (asking.offset + payload_len asking.payload) placed in
        spoken_by (content_by Long asking said) (record {
          kind = refl;
          no_ack = refl;
          some_handler = omega (arith, index.low);
          few_args = count;
          long_offset = λ e. absurd (true≢false e);
          short_payload = small (ltb-false 8192 (payload_len asking.payload) less);
          bare_payload = λ e. absurd (true≢false (sym e));
        }) index.high (omega (arith, inside, range.segment))
        (record { args = args; payload = payload_bytes segment asking.payload bytes payload })

-- ---- replies of clients' handlers

record IsReply (content : Content) : Type 0 where
  kind : is_kind (code content.kind) ≡ true
  no_ack : is_ack (code content.kind) ≡ false

reply_is : (content : Content) (k : Kind) → content.kind ≡ k → is_reply_kind k ≡ true → IsReply content
reply_is content kind.ShortRequest is e = absurd (true≢false (sym e))
reply_is content kind.MediumRequest is e = absurd (true≢false (sym e))
reply_is content kind.LongRequest is e = absurd (true≢false (sym e))
reply_is content kind.ShortReply is e = record { kind = rw is refl; no_ack = rw is refl }
reply_is content kind.MediumReply is e = record { kind = rw is refl; no_ack = rw is refl }
reply_is content kind.LongReply is e = record { kind = rw is refl; no_ack = rw is refl }
reply_is content kind.Ack is e = absurd (true≢false (sym e))

-- a reply that was let through
client_spoken : (frame : Frame) (content : Content) → AreInRange frame.settings → length frame.table ≤ 128
    → IsGood frame content → ContentFits content → IsSpoken content
client_spoken frame content range few good fits =
    let index = reply_index frame.table content.handler few good.registered in
    let is = reply_is content content.kind refl good.reply.kind in
    spoken_by content (record {
      kind = is.kind;
      no_ack = is.no_ack;
      some_handler = omega (arith, index.low);
      few_args = good.few;
      long_offset = good.reply.unplaced;
      short_payload = good.small;
      bare_payload = λ bare. ap length (good.reply.bare bare);
    }) index.high (elim (cases_Bool (is_long (code content.kind))) [
      | inl long ↦ omega (arith, good.inside long, range.segment)
      | inr short ↦ (let at_first = good.reply.unplaced short in omega (arith, at_first))
    ]) fits

pub reply_spoken : (frame : Frame) (reply : Option Content) → AreInRange frame.settings → length frame.table ≤ 128
    → IsLawful frame reply → ReplyFits reply → IsSpoken (reply_or_ack reply)
reply_spoken frame None range few lawful fits = ack_spoken
reply_spoken frame (Some content) range few lawful fits = client_spoken frame content range few lawful fits

-- ---- replies of the library

-- what isn't beyond
pub within : (most : ℕ) (number : ℤ) → is_beyond most number ≡ false → natural number ≤ most
within most (pos number) e = ltb-false most number e
within most (negsuc number) e = absurd (true≢false e)

record IsFetched (settings : Parameters) (content : Content) : Type 0 where
  few : (fetch_said content.args).len ≤ 8192
  inside : (fetch_said content.args).local + (fetch_said content.args).len ≤ settings.segment

fetched_is : (settings : Parameters) (content : Content) → (content.handler == get_handler) ≡ true
    → has_wrong_args settings content.handler content.args ≡ false → IsFetched settings content
fetched_is settings content gets right =
    let fetch = fetch_said content.args in
    let same : content.handler ≡ get_handler = eqb-true content.handler get_handler gets in
    let right_is : is_no_fetch settings.segment content.args ≡ false =
    ap (λ handler. has_wrong_args settings handler content.args) (sym same) ∙ right in
    let counted = or_parts (not (length content.args == 5)) _ right_is in
    let beyond = or_parts (is_beyond 8192 (argument content.args 2)) _ counted.1 in
    let ranges = or_parts (nat_lt settings.segment (fetch.remote + fetch.len)) _ beyond.1 in
    record {
      few = within 8192 (argument content.args 2) beyond.0;
      inside = ltb-false settings.segment (fetch.local + fetch.len) ranges.1;
    }

pub library_spoken : (settings : Parameters) (segment : List ℕ) (content : Content) → AreInRange settings
    → has_wrong_args settings content.handler content.args ≡ false → AreBytes segment
    → IsSpoken (reply_or_ack (library_reply segment content))
library_spoken settings segment content range right bytes = elim (cases_Bool (content.handler == get_handler)) [
  | inl gets ↦
      let fetch = fetch_said content.args in
      let is = fetched_is settings content gets right in
      rw gets (spoken_by (fetched_content segment fetch) (record {
        kind = refl;
        no_ack = refl;
        some_handler = omega arith;
        few_args = omega arith;
        long_offset = λ e. absurd (true≢false e);
        short_payload = omega (arith, length-take fetch.len (drop fetch.remote segment), is.few);
        bare_payload = λ e. absurd (true≢false (sym e));
      }) (omega arith) (omega (arith, is.inside, range.segment))
      (record { args = tt; payload = bytes_part segment fetch.remote fetch.len bytes }))
  | inr other ↦ rw other ack_spoken
]

-- ---- requests of the library

-- the arguments of a notification
notification_numbers : (version nodes : ℕ) (notification : BarrierNotification) → IsNotification nodes notification → AreNumbers (notification_arguments version notification)
notification_numbers version nodes notification is = elim (cases_Bool (version == 1)) [
  | inl first ↦ rw first (
    high_fits notification.phase is.phase,
    (
      low_fits notification.phase,
      (
        low_fits (slice_index notification.mask 0),
        (
          high_fits (slice_index notification.mask 0) (is.mask.words 0),
          (
            is.id,
            (small_fits notification.flags (omega (arith, is.flags)), tt),
          ),
        ),
      ),
    ),
  )
  | inr second ↦ rw second (
    high_fits notification.phase is.phase,
    (
      low_fits notification.phase,
      (
        low_fits (slice_index notification.mask 0),
        (
          high_fits (slice_index notification.mask 0) (is.mask.words 0),
          (
            low_fits (slice_index notification.mask 1),
            (
              high_fits (slice_index notification.mask 1) (is.mask.words 1),
              (
                low_fits (slice_index notification.mask 2),
                (
                  high_fits (slice_index notification.mask 2) (is.mask.words 2),
                  (
                    low_fits (slice_index notification.mask 3),
                    (
                      high_fits (slice_index notification.mask 3) (is.mask.words 3),
                      (
                        is.id,
                        (small_fits notification.flags (omega (arith, is.flags)), tt),
                      ),
                    ),
                  ),
                ),
              ),
            ),
          ),
        ),
      ),
    ),
  )
]

notification_few : (version : ℕ) (notification : BarrierNotification) → length (notification_arguments version notification) ≤ 16
notification_few version notification = elim (cases_Bool (version == 1)) [
  | inl first ↦ rw first (omega arith)
  | inr second ↦ rw second (omega arith)
]

-- a Short request of the library
short_spoken : (handler : ℕ) (args : List ℤ) → 1 ≤ handler → handler < 2 ^ 8 → length args ≤ 16 → AreNumbers args
    → IsSpoken (short_request handler args)
short_spoken handler args some low few fit = spoken_by (short_request handler args) (record {
  kind = refl;
  no_ack = refl;
  some_handler = some;
  few_args = few;
  long_offset = λ e. refl;
  short_payload = omega arith;
  bare_payload = λ e. refl;
}) low (omega arith) (record { args = fit; payload = bytes_none })

-- work that fits
pub work_spoken : (settings : Parameters) (segment : List ℕ) (work : Work) → AreInRange settings
    → WorkFits settings work → AreBytes segment → IsSpoken (work_content settings.version segment work)
work_spoken settings segment (Put local remote len) range fits bytes =
    spoken_by (work_content settings.version segment (Put local remote len)) (record {
      kind = refl;
      no_ack = refl;
      some_handler = omega arith;
      few_args = omega arith;
      long_offset = λ e. absurd (true≢false e);
      short_payload = omega (arith, length-take len (drop local segment), fits.0.few);
      bare_payload = λ e. absurd (true≢false (sym e));
    }) (omega arith) (omega (arith, fits.1.inside, range.segment))
    (record { args = tt; payload = bytes_part segment local len bytes })
work_spoken settings segment (Get local remote len) range fits bytes =
    short_spoken get_handler (fetch_arguments local remote len) (omega arith) (omega arith) (omega arith) (
      high_fits remote (omega (arith, fits.1.inside, range.segment)),
      (
        low_fits remote,
        (
          small_fits len fits.0.few,
          (
            high_fits local (omega (arith, fits.0.inside, range.segment)),
            (low_fits local, tt),
          ),
        ),
      ),
    )
work_spoken settings segment (Memset remote len byte) range fits bytes =
    short_spoken memset_handler (fill_arguments remote len byte) (omega arith) (omega arith) (omega arith) (
      high_fits remote (omega (arith, fits.0.inside, range.segment)),
      (
        low_fits remote,
        (
          small_fits len fits.0.few,
          (small_fits byte (let low = fits.1 in omega (arith, low)), tt),
        ),
      ),
    )
work_spoken settings segment (Notification notification) range fits bytes =
    short_spoken notification_handler (notification_arguments settings.version notification) (omega arith) (omega arith)
    (notification_few settings.version notification) (notification_numbers settings.version settings.nodes notification fits)
