-- What the reply of a request of the local node is, for the run of its handler.
use Rattle.std.proofs.Common.{ℕ, zero, suc, ◌≡◌, ◌+◌, ◌-◌, ◌≤◌, ◌++◌, List, [], ◌∷◌, Option, Some, None, Bool, true}
use Rattle.std.proofs.Common.{false}
use Rattle.std.proofs.Common.{length, take, drop, refl, sym, ap, ap₂, ◌∙◌, subst, arith, inl, inr, eq-eqb, take_all}
use Rattle.std.proofs.Common.{pos, ℤ}
use Rattle.std.specs.Prelude.{if◌then◌else◌, nat_lt, slice_get, option_and_then, replicate, map}
use Rattle.std.proofs.lemmas.Bool.{cases_Bool, ltb-false, lt-leb}
use Rattle.std.proofs.lemmas.Option.{same_Some}
use Rattle.std.proofs.lemmas.List.{take-append-le, length-append, length-replicate, length-drop, length-take-le}
use Rattle.wire_message.specs.Parameters.{Parameters}
use Rattle.wire_message.specs.Content.{Content, code, is_long, spelling}
use Rattle.part_handlers.specs.declared.lock_answer.Held.{Held}
use Rattle.part_handlers.specs.Locks.{blocking_lock}
use Rattle.part_handlers.proofs.LockLaws.{unblocked_parts}
use Rattle.part_handlers.specs.declared.table.Entry.{Entry}
use Rattle.part_handlers.specs.declared.message.Reply.{Reply}
use Rattle.part_handlers.specs.Registered.{entry_at, is_for_replies, serves_replies, locks_in_replies, reply_locks}
use Rattle.part_handlers.specs.Runs.{Frame, IsLawful, IsGood, IsPlaced, reply_bytes, outgoing_reply}
use Rattle.part_handlers.specs.Tokens.{reply_from, reply_after, buffer_after}
use Rattle.node_core.specs.HandlerRuns.{entry_locks, frame_of_run, listed_for, place_of, shown_payload}
use Rattle.node_core.specs.Landed.{content_at, asked_place, IsLanded}
use Rattle.spec_node.specs.Behaviour.{Asking, Category, Short, Medium, Long, PayloadFrom, Lent, Own}
use Rattle.node_core.specs.ClientRules.{IsFine, content_by, has_payload, has_place, passes_source, payload_in}
use Rattle.node_core.specs.ClientRules.{payload_len, said_in}
use Rattle.part_handlers.specs.declared.lock_answer.Owner.TheVariants as owner
use Rattle.part_handlers.specs.Locks.{holds}
use Rattle.part_handlers.specs.Runs.{Meaning}
use Rattle.node_core.specs.declared.context.OwnReply.{OwnReply}
use Rattle.node_core.specs.HandlerContextRuns.{HandlerContextRun, OwnFrame, HandlerState, Ran, LeavesTouched, RunsReply}
use Rattle.node_core.specs.HandlerContextRuns.{RunsOwn, CanRunOwnReply}
use Rattle.node_core.specs.HandlerContextRuns.{own_reply_run, landed_on, start_on}
use Rattle.part_handlers.specs.declared.rules.Role.TheVariants as role
use Rattle.part_handlers.specs.LogState.{LogRecord, notes}
use Rattle.part_handlers.specs.Runs.{after_return, violation}
use Rattle.part_segment.specs.Image.{written_by}
use Rattle.spec_node.specs.Step.{with_itself}
use Rattle.part_handlers.specs.Runs.{IsLawfulMeaning}
use Rattle.node_core.specs.Library.{is_library}
use Rattle.node_core.proofs.Landings.{client_reply}
use Rattle.node_core.specs.CoreState.{CoreState}
use Rattle.node_core.specs.CoreStep.{handlers_at, landed_core, with_outcome, with_own_reply, with_own_run}

-- ---- locks

-- where no lock of any handler of replies is held by a thread, none of this one's is
replies_free : (table : List (Option Entry)) (place : ℕ) (entry : Entry) (held : List Held)
    → slice_get table place ≡ Some (Some entry) → serves_replies entry.serves ≡ true
    → blocking_lock held (reply_locks table) ≡ None → blocking_lock held entry.locks ≡ None
replies_free [] place entry held there role free = absurd (cc)
replies_free (one ∷ rest) zero entry held there role free =
    let first = (unblocked_parts held (locks_in_replies one) (reply_locks rest) free).0 in
    let same : one ≡ Some entry = same_Some one (Some entry) there in
    let locks : locks_in_replies one ≡ entry.locks = rw (same, role) refl in
    subst (λ (listed : ℕ). blocking_lock held listed ≡ None) locks first
replies_free (one ∷ rest) (suc place) entry held there role free =
    replies_free rest place entry held there role
    (unblocked_parts held (locks_in_replies one) (reply_locks rest) free).1

-- the same, by the handler's index
pub reply_free : (table : List (Option Entry)) (handler : ℕ) (held : List Held)
    → is_for_replies (entry_at table handler) ≡ true → blocking_lock held (reply_locks table) ≡ None
    → blocking_lock held (listed_for table handler) ≡ None
reply_free table handler held registered free =
    by_test (nat_lt handler 128) (slice_get table (handler - 128)) refl registered
  where
    by_test : (low : Bool) (found : Option (Option Entry)) → slice_get table (handler - 128) ≡ found
        → is_for_replies (if low then None else option_and_then (λ e. e) found) ≡ true
        → blocking_lock held (entry_locks (if low then None else option_and_then (λ e. e) found)) ≡ None
    by_test true found is registered = absurd (cc)
    by_test false None is registered = absurd (cc)
    by_test false (Some None) is registered = absurd (cc)
    by_test false (Some (Some entry)) is registered =
        replies_free table (handler - 128) entry held is registered free

-- ---- the reply

-- a prefix of a list
prefix : {X : Type 0} (xs ys : List X) → take (length xs) (xs ++ ys) ≡ xs
prefix xs ys = take-append-le (length xs) xs ys (omega arith) ∙ take_all (length xs) xs (omega arith)

-- the reply of a request of the local node is this content, and its payload stands at the beginning of the buffer
pub record IsOwnReply (frame : Frame) (content : Content) (buffer : List ℕ) (reply : Reply) : Type 0 where
  pub good : IsGood frame content
  pub content_is : content_at buffer reply ≡ content
  pub few : reply.count ≤ 16
  pub args : length reply.args ≡ 16
  pub len : reply.len ≤ length buffer

-- the content of a reply, part by part
abbrev a_content : Content → List ℤ → List ℕ → Content
a_content content args payload = record {
  kind = content.kind;
  handler = content.handler;
  args = args;
  offset = content.offset;
  payload = payload;
}

-- a reply that was sent to the local node
pub own_reply_is : (frame : Frame) (sent : Option Content) (reply : Reply) (buffer new_buffer : List ℕ)
    → frame.arrival.source ≡ frame.arrival.me → IsLawful frame sent
    → Some reply ≡ reply_after frame.settings frame.arrival sent
    → new_buffer ≡ buffer_after frame.settings frame.arrival sent buffer
    → (content : Content) × (sent ≡ Some content) × IsOwnReply frame content new_buffer reply
own_reply_is frame None reply buffer new_buffer own good is written = absurd (cc)
own_reply_is frame (Some content) reply buffer new_buffer own good is written =
    let arrival = frame.arrival in
    let same : reply ≡ reply_from frame.settings arrival content =
    same_Some reply (reply_from frame.settings arrival content) is in
    let bytes : reply_bytes frame.settings arrival content ≡ content.payload =
    ap (λ (b : Bool). if b then content.payload
    else spelling (outgoing_reply frame.settings arrival content)) (eq-eqb arrival.source arrival.me own) in
    let at : new_buffer ≡ content.payload ++ drop (length content.payload) buffer =
    written ∙ ap (λ (bs : List ℕ). bs ++ drop (length bs) buffer) bytes in
    let len : reply.len ≡ length content.payload =
    ap (λ (x : Reply). x.len) same ∙ ap (λ (bs : List ℕ). length bs) bytes in
    let count : reply.count ≡ length content.args = ap (λ (x : Reply). x.count) same in
    let zeros : List ℤ = replicate (16 - length content.args) (pos 0) in
    let args : reply.args ≡ content.args ++ zeros = ap (λ (x : Reply). x.args) same in
    let long = ap (λ (bs : List ℕ). length bs) at
    ∙ length-append content.payload (drop (length content.payload) buffer) in
    let all = ap (λ (xs : List ℤ). length xs) args ∙ length-append content.args zeros in
    let zeros_are : length zeros ≡ 16 - length content.args = length-replicate (16 - length content.args) (pos 0) in
    let args_are : take reply.count reply.args ≡ content.args =
    ap₂ (λ (n : ℕ) (xs : List ℤ). take n xs) count args ∙ prefix content.args zeros in
    let payload_is : take reply.len new_buffer ≡ content.payload =
    ap₂ (λ (n : ℕ) (bs : List ℕ). take n bs) len at ∙ prefix content.payload (drop (length content.payload) buffer) in (
      content,
      refl,
      record {
        good = good;
        content_is =
            ap (λ (x : Reply). record {
              kind = x.kind;
              handler = x.handler;
              args = take reply.count reply.args;
              offset = x.offset;
              payload = take reply.len new_buffer;
            }) same
            ∙ ap₂ (a_content content) args_are payload_is;
        few = omega (arith, count, good.few);
        args = omega (arith, all, zeros_are, good.few);
        len = omega (arith, len, long);
      },
    )

-- the place of a Long's payload lies inside
placed_inside : (segment : ℕ) (content : Content)
    → (is_long (code content.kind) ≡ true → content.offset + length content.payload ≤ segment)
    → IsPlaced segment (place_of content)
placed_inside segment content inside = elim (cases_Bool (is_long (code content.kind))) [
  | inl long ↦ rw long (inside long)
  | inr other ↦ rw other tt
]

-- the handler of the reply can run
pub can_run_own : (run : HandlerContextRun) (middle : HandlerState) (reply : Reply) (buffer new_buffer : List ℕ) (own : OwnReply)
    → run.frame.arrival.source ≡ run.frame.arrival.me → Ran run middle buffer new_buffer (Some reply)
    → own.reply ≡ reply → own.settings.now ≡ run.frame.settings → own.table.now ≡ run.frame.table
    → length run.before.segment ≡ run.frame.settings.segment → holds owner.Handler run.before.locks ≡ false
    → blocking_lock run.before.locks (reply_locks run.frame.table) ≡ None
    → CanRunOwnReply own middle.segment middle.locks new_buffer
can_run_own run middle reply buffer new_buffer own to_itself ran reply_is settings_is table_is sized unheld free =
    let it = own_reply_is run.frame run.outcome.reply reply buffer new_buffer to_itself ran.lawful ran.reply_is
    ran.buffer_is in
    let as_long = ran.left.same_length ∙ sized in
    let handler : reply.handler ≡ it.0.handler = ap (λ (c : Content). c.handler) it.2.content_is in
    rw reply_is (record {
      few = it.2.few;
      args = it.2.args;
      len = it.2.len;
      placed =
          subst (λ (c : Content). IsPlaced (length middle.segment) (place_of c)) (sym it.2.content_is)
          (placed_inside (length middle.segment) it.0
          (λ long. subst (λ (n : ℕ). it.0.offset + length it.0.payload ≤ n) (sym as_long) (it.2.good.inside long)));
      sized = as_long ∙ ap (λ (s : Parameters). s.segment) (sym settings_is);
      free = rw (table_is, handler, ran.left.locks_are) (record {
        unblocked = reply_free run.frame.table it.0.handler run.before.locks it.2.good.registered free;
        unheld = unheld;
      });
    })

-- the reply ran
pub replied_ran : (meaning : Meaning) (run : HandlerContextRun) (middle after : HandlerState) (reply : Reply)
    (buffer new_buffer : List ℕ) → run.frame.arrival.source ≡ run.frame.arrival.me
    → Ran run middle buffer new_buffer (Some reply)
    → LeavesTouched (own_reply_run meaning (record {
      settings = run.frame.settings;
      table = run.frame.table;
      me = run.frame.arrival.me;
    }) (content_at new_buffer reply) (landed_on middle (content_at new_buffer reply))) after
    → RunsOwn meaning run after
replied_ran meaning run middle after reply buffer new_buffer to_itself ran left =
    let own : OwnFrame = record {
      settings = run.frame.settings;
      table = run.frame.table;
      me = run.frame.arrival.me;
    } in
    let it = own_reply_is run.frame run.outcome.reply reply buffer new_buffer to_itself ran.lawful ran.reply_is
    ran.buffer_is in
    record {
      middle = middle;
      left = ran.left;
      replied =
          subst (λ (sent : Option Content). RunsReply meaning run sent middle after) (sym it.1)
          (subst (λ (c : Content). LeavesTouched (own_reply_run meaning own c (landed_on middle c)) after)
          it.2.content_is
          left);
    }

-- there was none
pub unreplied_ran : (meaning : Meaning) (run : HandlerContextRun) (after : HandlerState) (sent : Option Reply)
    (buffer new_buffer : List ℕ) → Ran run after buffer new_buffer sent
    → ((reply : Reply) → sent ≡ Some reply → ⊥) → RunsOwn meaning run after
unreplied_ran meaning run after sent buffer new_buffer ran none = record {
  middle = after;
  left = ran.left;
  replied = by_reply run.outcome.reply ran.reply_is;
}
  where
    by_reply : (content : Option Content) → sent ≡ reply_after run.frame.settings run.frame.arrival content
        → RunsReply meaning run content after after
    by_reply None is = refl
    by_reply (Some content) is = absurd (none (reply_from run.frame.settings run.frame.arrival content) is)

-- ---- a request to the local node

-- the core with what handlers write
abbrev pub with_touched : CoreState → HandlerState → CoreState
with_touched core found = record core {
  cells = found.cells;
  segment = found.segment;
  locks = found.locks;
  log = found.log;
}

abbrev a_touched : List ℤ → List ℕ → List Held → LogRecord → HandlerState
a_touched cells segment locks log = record { cells = cells; segment = segment; locks = locks; log = log }

-- what a run leaves of what it found
abbrev after_run : HandlerContextRun → HandlerState
after_run run = a_touched run.outcome.cells (written_by run.before.segment run.outcome.writes) run.before.locks
    (notes run.before.log (map (violation run.frame.arrival.role) run.outcome.refused))

left_is : (run : HandlerContextRun) (after : HandlerState) → LeavesTouched run after → after ≡ after_run run
left_is run after left =
    ap (λ (cells : List ℤ). a_touched cells after.segment after.locks after.log) left.cells_are
    ∙ (ap (λ (segment : List ℕ). a_touched run.outcome.cells segment after.locks after.log) left.segment_is
    ∙ (ap (λ (locks : List Held). a_touched run.outcome.cells
    (written_by run.before.segment run.outcome.writes) locks after.log) left.locks_are
    ∙ ap (λ (log : LogRecord). a_touched run.outcome.cells
    (written_by run.before.segment run.outcome.writes) run.before.locks log) left.log_is))

-- what handlers find at a core
abbrev touched_at : CoreState → HandlerState
touched_at core = a_touched core.cells core.segment core.locks core.log

-- the run of an own request at a core where its payload landed
abbrev pub own_request_run : Meaning → CoreState → Content → HandlerContextRun
own_request_run meaning core content =
    let frame = frame_of_run (handlers_at meaning core) role.Request (with_itself core.me) content in
    record {
      frame = frame;
      outcome = after_return frame (meaning content.handler frame (start_on (touched_at (landed_core core content))));
      before = touched_at (landed_core core content);
    }

-- the run of an own request, and of its reply, leave the core that they should
pub own_run_is : (meaning : Meaning) (core : CoreState) (content : Content) (after : HandlerState)
    → IsLawfulMeaning meaning → is_library content.handler ≡ false
    → RunsOwn meaning (own_request_run meaning core content) after
    → with_touched core after ≡ with_own_run meaning core content
own_run_is meaning core content after lawful client ran =
    rw client (by_reply run.outcome.reply
    (lawful content.handler run.frame (start_on run.before)).reply
    (subst (λ (middle : HandlerState). RunsReply meaning run run.outcome.reply middle after)
    (left_is run ran.middle ran.left) ran.replied))
  where
    run : HandlerContextRun
    run = own_request_run meaning core content

    by_reply : (sent : Option Content) → IsLawful run.frame sent → RunsReply meaning run sent (after_run run) after
        → with_touched core after
        ≡ with_own_reply meaning (with_outcome (landed_core core content) role.Request run.outcome) sent
    by_reply None good same = ap (with_touched core) same
    by_reply (Some reply) good left =
        rw (client_reply run.frame.table reply.handler good.registered) (ap (with_touched core) (left_is _ after left))

-- ---- what an own request finds

-- the run of a handler in this frame, that found this
abbrev a_run : Meaning → (handler : ℕ) → Frame → HandlerState → HandlerContextRun
a_run meaning handler frame before = record {
  frame = frame;
  outcome = after_return frame (meaning handler frame (start_on before));
  before = before;
}

-- what stays the same while a request of the local node runs
abbrev a_frame : CoreState → (listed : ℕ) → List ℤ → List ℕ → Option (ℕ × ℕ) → Frame
a_frame core listed args payload place = record {
  settings = core.settings;
  table = core.table;
  listed = listed;
  arrival =
      record {
        role = role.Request;
        me = core.me;
        source = core.me;
        slot = 0;
        number = 0;
        args = args;
        payload = payload;
        place = place;
      };
}

asked_args : (category : Category) (asking : Asking) (payload : List ℕ)
    → asking.args ≡ (content_by category asking payload).args
asked_args Short asking payload = refl
asked_args Medium asking payload = refl
asked_args Long asking payload = refl

asked_handler : (category : Category) (asking : Asking) (payload : List ℕ)
    → asking.handler ≡ (content_by category asking payload).handler
asked_handler Short asking payload = refl
asked_handler Medium asking payload = refl
asked_handler Long asking payload = refl

-- a payload whose range lies inside has as many bytes as it is asked for
payload_whole : (bytes : List ℕ) (payload : PayloadFrom) → passes_source (length bytes) payload ≡ false
    → payload_len payload ≡ length (payload_in bytes payload)
payload_whole bytes (Lent lent) inside = refl
payload_whole bytes (Own offset len) inside =
    let low = ltb-false (length bytes) (offset + len) inside in
    let rest = length-drop offset bytes in
    sym (length-take-le len (drop offset bytes) (omega (arith, low, rest)))

asked_place_is : (bytes : List ℕ) (asking : Asking) → IsFine (length bytes) asking
    → asked_place asking ≡ place_of (said_in bytes asking)
asked_place_is bytes asking fine = by_category asking.category fine.source
  where
    by_category : (category : Category)
        → (has_payload category ≡ true → passes_source (length bytes) asking.payload ≡ false)
        → (if has_place category then Some (asking.offset, payload_len asking.payload) else None)
        ≡ place_of (content_by category asking (payload_in bytes asking.payload))
    by_category Short source = refl
    by_category Medium source = refl
    by_category Long source =
        ap (λ (len : ℕ). Some (asking.offset, len)) (payload_whole bytes asking.payload (source refl))

-- the handler of a request without a fault is a client's
pub fine_client : (bytes : List ℕ) (asking : Asking) → IsFine (length bytes) asking
    → is_library (said_in bytes asking).handler ≡ false
fine_client bytes asking fine =
    let client : is_library asking.handler ≡ false = lt-leb asking.handler 127 (omega (arith, fine.handler)) in
    subst (λ (index : ℕ). is_library index ≡ false)
    (asked_handler asking.category asking (payload_in bytes asking.payload)) client

-- the place of an own request lies inside
pub asked_inside : (segment : ℕ) (asking : Asking) → IsFine segment asking → IsPlaced segment (asked_place asking)
asked_inside segment asking fine = elim (cases_Bool (has_place asking.category)) [
  | inl placed ↦ rw placed (fine.inside placed)
  | inr other ↦ rw other tt
]

-- the run of an own request at a core
pub own_found : (meaning : Meaning) (core : CoreState) (asking : Asking) (listed shown : ℕ)
    (new_segment buffer shown_bytes : List ℕ) (place : Option (ℕ × ℕ)) → IsFine (length core.segment) asking
    → listed ≡ listed_for core.table asking.handler
    → IsLanded (said_in core.segment asking) core.segment new_segment buffer shown
    → shown_bytes ≡ take shown buffer → place ≡ asked_place asking
    → a_run meaning asking.handler (a_frame core listed asking.args shown_bytes place)
    (a_touched core.cells new_segment core.locks core.log)
    ≡ own_request_run meaning core (said_in core.segment asking)
own_found meaning core asking listed shown new_segment buffer shown_bytes place fine listed_is landed shown_is
    place_is =
    let content = said_in core.segment asking in
    let payload = payload_in core.segment asking.payload in
    let args = asking.args in
    let bytes = shown_bytes in
    let from = a_touched core.cells new_segment core.locks core.log in
    ap (λ (one : ℕ). a_run meaning asking.handler (a_frame core one args bytes place) from) listed_is
    ∙ (ap (λ (one : ℕ). a_run meaning one (a_frame core (listed_for core.table one) args bytes place) from)
    (asked_handler asking.category asking payload)
    ∙ (ap (λ (one : List ℤ). a_run meaning content.handler
    (a_frame core (listed_for core.table content.handler) one bytes place) from)
    (asked_args asking.category asking payload)
    ∙ (ap (λ (one : List ℕ). a_run meaning content.handler
    (a_frame core (listed_for core.table content.handler) content.args one place) from) (shown_is ∙ landed.shown_is)
    ∙ (ap (λ (one : Option (ℕ × ℕ)). a_run meaning content.handler
    (a_frame core (listed_for core.table content.handler) content.args (shown_payload content) one) from)
    (place_is ∙ asked_place_is core.segment asking fine)
    ∙ ap (λ (one : List ℕ). a_run meaning content.handler
    (a_frame core (listed_for core.table content.handler) content.args (shown_payload content) (place_of content))
    (a_touched core.cells one core.locks core.log)) landed.landed))))
