-- Where a chunk that was issued comes from.
use Rattle.std.proofs.Common.{◌≡◌, ◌⊎◌, inl, inr, ℕ, suc, ◌==◌, Bool, true, false, List, [], ◌∷◌, ◌++◌, length, Option}
use Rattle.std.proofs.Common.{None, Some, refl, sym, ap, ◌∙◌, subst}
use Rattle.std.specs.List.{slice_get}
use Rattle.std.proofs.lemmas.Bool.{cases_Bool}
use Rattle.std.proofs.lemmas.Option.{same_Some}
use Rattle.wire_message.specs.Parameters.{Parameters}
use Rattle.wire_message.specs.Content.{Content}
use Rattle.wire_message.specs.declared.notification.BarrierNotification.{BarrierNotification}
use Rattle.part_handlers.specs.declared.table.Entry.{Entry}
use Rattle.part_handlers.specs.Runs.{Meaning}
use Rattle.base_lists.specs.Numbered.{element_at, change}
use Rattle.base_lists.proofs.Put.{put_same}
use Rattle.base_lists.proofs.Places.{slice_get_push, slice_get_last}
use Rattle.base_lists.proofs.Numbered.{numbered-change, numbered-changed}
use Rattle.spec_node.specs.declared.answer.Ticked.{Ticked}
use Rattle.spec_node.specs.declared.answer.Ticked.TheVariants as ticked
use Rattle.spec_node.specs.Behaviour.{Contact, Sending}
use Rattle.spec_node.specs.Step.{request_slot}
use Rattle.spec_node.specs.NodeStep.{site_of, OfTick}
use Rattle.spec_network.specs.World.{Event, Ticks, WorldAnswer, OfNode}
use Rattle.spec_network.specs.Plain.{Plain, PlainRequest, IsRequest}
use Rattle.spec_network.specs.PlainStep.{SendsFirst, plain_can_ask, plain_exhausted}
use Rattle.part_segment.specs.Image.{Write}
use Rattle.spec_network.proofs.PlainGrowing.{pair_same}
use Rattle.part_barrier.specs.Record.{SentNotification}
use Rattle.part_transfers.specs.declared.operation.Next.{Next}
use Rattle.part_transfers.specs.declared.operation.Transfer.{Transfer}
use Rattle.part_transfers.specs.declared.operation.Transfer.TheVariants as transfers
use Rattle.part_transfers.specs.Operation.{Operation, SentChunk, target, size, next_chunk, chunk_of, with_sent, issue, IsFirst}
use Rattle.part_transfers.proofs.Issued.{next_is_first}
use Rattle.node_core.specs.Kept.{segment_of}
use Rattle.node_core.specs.Library.{Notification, work_content, notification_handler}
use Rattle.node_rules.specs.EndpointLocal.{EndpointLocal}
use Rattle.node_rules.specs.EndpointRules.{OtherCall, job_of, chunk_work, notification_first, next_notification, after_sent}
use Rattle.node_rules.specs.EndpointRules.{sent_as}
use Rattle.node_rules.specs.Tracking.{chunk_at}
use Rattle.node_rules.specs.declared.answer.Answer.{Answer}
use Rattle.law_transfers.proofs.LocalSteps.{LocalStep, Same, Notifications, RunsHere, Runs, Takes, Sends, Calls}
use Rattle.law_transfers.proofs.Marking.{Chunked, Evolves, evolves_same, evolves_alike, evolves_back}
use Rattle.law_transfers.proofs.Effects.{Extends, extends_same, extends_more, run_extends, take_extends, call_effect}
use Rattle.node_core.specs.HandlerRuns.{handlers_of, run_request}
use Rattle.node_rules.proofs.Sending.{issued_operations}

-- ---- what a tick sends

-- a notification of the barrier, or the next chunk
given_says : (settings : Parameters) (segment : List ℕ) (notification : Option SentNotification) (next : Option Next) (to : ℕ)
    (content : Content) → notification_first settings segment notification next ≡ Some (record { to = to; content = content })
    → ((said : BarrierNotification) × (content ≡ work_content settings.version segment (Notification said)))
    ⊎ ((chunk : Next) × (next ≡ Some chunk) × (to ≡ target chunk.transfer)
    × (content ≡ work_content settings.version segment (chunk_work chunk)))
given_says settings segment (Some sent) next to content is =
    let same = same_Some _ _ is in
    inl (sent.notification, ap (λ (s : Sending). s.content) (sym same))
given_says settings segment None None to content is = absurd (cc)
given_says settings segment None (Some chunk) to content is =
    let same = same_Some _ _ is in
    inr (chunk, refl, ap (λ (s : Sending). s.to) (sym same), ap (λ (s : Sending). s.content) (sym same))

-- a chunk's request isn't one of the barrier
chunk_handler : (version : ℕ) (segment : List ℕ) (number : ℕ) (transfer : Transfer) (start len : ℕ)
    → ((work_content version segment (chunk_work
    (record { number = number; transfer = transfer; start = start; len = len }))).handler
    == notification_handler) ≡ false
chunk_handler version segment number (transfers.Put to remote local size) start len = refl
chunk_handler version segment number (transfers.Get to remote local size) start len = refl
chunk_handler version segment number (transfers.Memset to remote size byte) start len = refl

-- the chunk is issued as that request
pub record SentNow (settings : Parameters) (p q : Plain EndpointLocal) (e : Event OtherCall) (a : WorldAnswer Answer)
    (node : ℕ) (chunk : Next) (number : ℕ) : Type 0 where
  pub event : e ≡ Ticks node
  pub slot : ℕ
  pub answered : a ≡ OfNode (OfTick (ticked.Chunk (request_slot (target chunk.transfer) slot)))
  pub next : number ≡ suc (length (p.requests node (target chunk.transfer)))
  pub accepted :
      let content = work_content settings.version (segment_of settings (p.local node).core) (chunk_work chunk) in
      IsRequest q node (target chunk.transfer) number (record { content = content; slot = slot })

-- what a node keeps after a tick sent its request
sends_local : (settings : Parameters) (table : List (Option Entry)) (meaning : Meaning) (node : ℕ)
    (p q : Plain EndpointLocal) (a : Ticked) (first : SendsFirst (site_of (job_of settings table meaning) node) p a q)
    → q.local node
    ≡ after_sent settings (record {
      me = node;
      peer = first.to;
      slot = first.request.slot;
      number = first.claim.number;
    })
    first.request.content (p.local node)
sends_local settings table meaning node p q a first =
    ap (λ (r : Plain EndpointLocal). r.local node) first.leaves ∙ put_same p.local node _

-- its request, under its number
sends_request : (settings : Parameters) (table : List (Option Entry)) (meaning : Meaning) (node : ℕ)
    (p q : Plain EndpointLocal) (a : Ticked) (first : SendsFirst (site_of (job_of settings table meaning) node) p a q)
    → IsRequest q node first.to first.claim.number first.request
sends_request settings table meaning node p q a first =
    let requests = p.requests node first.to in
    ap (λ (r : Plain EndpointLocal). element_at (r.requests node first.to) first.claim.number) first.leaves
    ∙ (ap (λ (xs : List PlainRequest). element_at xs first.claim.number)
    (pair_same p.requests node first.to (requests ++ first.request ∷ []))
    ∙ (ap (element_at (requests ++ first.request ∷ [])) first.next.number ∙ slice_get_last requests first.request))

-- the operations after a tick's request, where it isn't a chunk's, and where it is
notification_keeps : (settings : Parameters) (contact : Contact) (content : Content) (local : EndpointLocal)
    → (content.handler == notification_handler) ≡ true → (after_sent settings contact content local).operations
    ≡ local.operations
notification_keeps settings contact content local is = rw is refl

-- writes stay
sent_writes : (settings : Parameters) (contact : Contact) (content : Content) (local : EndpointLocal)
    → (after_sent settings contact content local).core.writes ≡ local.core.writes
sent_writes settings contact content local = elim (cases_Bool (content.handler == notification_handler))
    [ inl is ↦ rw is refl | inr isnt ↦ rw isnt refl ]

-- ---- the operation of a chunk that is issued

-- a chunk afterwards was one before, or is the one that is issued
change_chunk : (operations : List Operation) (chunk : Next) (can : ℕ → Bool) (slot request : ℕ) (bytes : List ℕ)
    (number index k : ℕ) (transfer : Transfer) → IsFirst can operations chunk
    → Chunked (change (with_sent slot request bytes) operations chunk.number) number index k transfer
    → Chunked operations number index k transfer ⊎ ((chunk_at transfer number index ≡ chunk) × (k ≡ request))
change_chunk operations chunk can slot request bytes number index k transfer first C =
    let was = numbered-change (with_sent slot request bytes) operations chunk.number number C.operation C.there in
    elim was.2 [
      | inl other ↦ inl (record {
        operation = was.0;
        sent = C.sent;
        there = was.1;
        at = ap (λ (o : Operation). slice_get o.sent index) (sym other.1) ∙ C.at;
        transfer_is = ap (λ (o : Operation). o.transfer) (sym other.1) ∙ C.transfer_is;
        request_is = C.request_is;
      })
      | inr here ↦ (
          let new : SentChunk = record { slot = slot; number = request; bytes = bytes; back = false } in
          let same : was.0 ≡ first.operation = same_Some _ _
          (sym was.1 ∙ (ap (element_at operations) here.0 ∙ first.here)) in
          elim (slice_get_push was.0.sent new index C.sent
          (ap (λ (o : Operation). slice_get o.sent index) (sym here.1) ∙ C.at)) [
            | inl old ↦ inl (record {
              operation = was.0;
              sent = C.sent;
              there = was.1;
              at = old;
              transfer_is = ap (λ (o : Operation). o.transfer) (sym here.1) ∙ C.transfer_is;
              request_is = C.request_is;
            })
            | inr it ↦ inr (
              named transfer number index was.0 (ap (λ (o : Operation). o.transfer) (sym here.1) ∙ C.transfer_is) it.0
                  here.0
                  ∙ (ap (λ (o : Operation). chunk_of chunk.number o) same ∙ sym first.chunk),
              sym (ap (λ (s : SentChunk). s.number) it.1 ∙ C.request_is),
            )
          ])
    ]
  where
    named : (t : Transfer) (n i : ℕ) (o : Operation) → o.transfer ≡ t → i ≡ length o.sent → n ≡ chunk.number
        → chunk_at t n i ≡ chunk_of chunk.number o
    named t n i o is at here = rw (sym is, at, here) refl

-- operations keep their transfers
change_kept : (operations : List Operation) (place slot request : ℕ) (bytes : List ℕ) (number : ℕ) (old : Operation)
    → element_at operations number ≡ Some old
    → (new : Operation) × (element_at (change (with_sent slot request bytes) operations place) number ≡ Some new)
    × (new.transfer ≡ old.transfer)
change_kept operations place slot request bytes number old at =
    let new = numbered-changed (with_sent slot request bytes) operations place number old at in (
      new.0,
      new.1,
      elim new.2 [
        | inl same ↦ ap (λ (o : Operation). o.transfer) same
        | inr sent ↦ ap (λ (o : Operation). o.transfer) sent
      ],
    )

-- what a tick's request leaves of the node's operations
pub record SendEffect (settings : Parameters) (p q : Plain EndpointLocal) (e : Event OtherCall) (a : WorldAnswer Answer)
    (node : ℕ) : Type 0 where
  pub kept : (number : ℕ) (old : Operation) → element_at (p.local node).operations number ≡ Some old
      → (new : Operation) × (element_at (q.local node).operations number ≡ Some new) × (new.transfer ≡ old.transfer)
  pub chunk : (number index request : ℕ) (transfer : Transfer)
      → Chunked (q.local node).operations number index request transfer
      → Chunked (p.local node).operations number index request transfer
      ⊎ SentNow settings p q e a node (chunk_at transfer number index) request
  pub writes : Extends (p.local node).core.writes (q.local node).core.writes

-- where nothing is issued
evolving : (settings : Parameters) (p q : Plain EndpointLocal) (e : Event OtherCall) (a : WorldAnswer Answer) (node : ℕ)
    → Evolves (p.local node).operations (q.local node).operations
    → Extends (p.local node).core.writes (q.local node).core.writes → SendEffect settings p q e a node
evolving settings p q e a node E W = record {
  kept = E.kept;
  chunk = λ number index request transfer C. inl (E.chunk number index request transfer C);
  writes = W;
}

-- a chunk is issued
chunk_sent : (settings : Parameters) (table : List (Option Entry)) (meaning : Meaning) (node : ℕ)
    (p q : Plain EndpointLocal) (a : Ticked) (first : SendsFirst (site_of (job_of settings table meaning) node) p a q)
    (chunk : Next)
    → next_chunk (plain_can_ask (site_of (job_of settings table meaning) node) p) 1 (p.local node).operations
    ≡ Some chunk
    → first.to ≡ target chunk.transfer
    → first.request.content ≡ work_content settings.version (segment_of settings (p.local node).core) (chunk_work chunk)
    → SendEffect settings p q (Ticks node) (OfNode (OfTick a)) node
chunk_sent settings table meaning node p q a first chunk is to says =
    let content = work_content settings.version (segment_of settings (p.local node).core) (chunk_work chunk) in
    let other : (first.request.content.handler == notification_handler)
    ≡ false = ap (λ (c : Content). c.handler == notification_handler) says
    ∙ chunk_handler settings.version (segment_of settings (p.local node).core) chunk.number chunk.transfer chunk.start
    chunk.len in
    let contact : Contact = record {
      me = node;
      peer = first.to;
      slot = first.request.slot;
      number = first.claim.number;
    } in
    let local = sends_local settings table meaning node p q a first in
    let can = plain_can_ask (site_of (job_of settings table meaning) node) p in
    let it = next_is_first can (p.local node).operations chunk is in
    let bytes = first.request.content.payload in
    let operations : (q.local node).operations
    ≡ change (with_sent first.request.slot first.claim.number bytes) (p.local node).operations chunk.number
    = ap (λ (l : EndpointLocal). l.operations) local
    ∙ (issued_operations settings contact first.request.content (p.local node) other
    ∙ (ap (λ n. issue n first.request.slot first.claim.number bytes (p.local node).operations) to
    ∙ it.issued first.request.slot first.claim.number bytes)) in
    record {
      kept = λ number old at. subst (λ (ops : List Operation). (new : Operation) × (element_at ops number ≡ Some new)
          × (new.transfer ≡ old.transfer)) (sym operations)
          (change_kept (p.local node).operations chunk.number first.request.slot first.claim.number bytes number old
          at);
      chunk = λ number index request transfer C.
          elim (change_chunk (p.local node).operations chunk can first.request.slot first.claim.number bytes number
          index request transfer it
          (subst (λ (ops : List Operation). Chunked ops number index request transfer) operations C)) [
            | inl old ↦ inl old
            | inr new ↦ inr (subst (λ (n : Next). SentNow settings p q (Ticks node) (OfNode (OfTick a)) node n request)
                (sym new.0)
                (subst (λ n. SentNow settings p q (Ticks node) (OfNode (OfTick a)) node chunk n) (sym new.1)
                (record {
                  event = refl;
                  slot = first.request.slot;
                  answered = ap (λ (t : Ticked). OfNode (OfTick t))
                      (first.sends_as ∙ sent_chunk first.request.content first.to other)
                      ∙ ap (λ n. OfNode (OfTick (ticked.Chunk (request_slot n first.request.slot)))) to;
                  next = first.next.number ∙ ap (λ n. suc (length (p.requests node n))) to;
                  accepted = subst (λ n. IsRequest q node n first.claim.number
                      (record { content = content; slot = first.request.slot })) to
                      (sends_request settings table meaning node p q a first
                      ∙ ap (λ (c : Content). Some (record { content = c; slot = first.request.slot })) says);
                })))
          ];
      writes = extends_same (p.local node).core.writes (q.local node).core.writes
          (ap (λ (l : EndpointLocal). l.core.writes) local
          ∙ sent_writes settings contact first.request.content (p.local node));
    }
  where
    sent_chunk : (content : Content) (to : ℕ) → (content.handler == notification_handler) ≡ false
        → sent_as content (request_slot to first.request.slot) ≡ ticked.Chunk (request_slot to first.request.slot)
    sent_chunk content to other = rw other refl

-- a notification is sent
notification_sent : (settings : Parameters) (table : List (Option Entry)) (meaning : Meaning) (node : ℕ)
    (p q : Plain EndpointLocal) (a : Ticked) (first : SendsFirst (site_of (job_of settings table meaning) node) p a q)
    (said : BarrierNotification)
    → first.request.content ≡ work_content settings.version (segment_of settings (p.local node).core) (Notification said)
    → SendEffect settings p q (Ticks node) (OfNode (OfTick a)) node
notification_sent settings table meaning node p q a first said says =
    let notification : (first.request.content.handler == notification_handler)
    ≡ true = ap (λ (c : Content). c.handler == notification_handler) says in
    let contact : Contact = record {
      me = node;
      peer = first.to;
      slot = first.request.slot;
      number = first.claim.number;
    } in
    let local = sends_local settings table meaning node p q a first in
    evolving settings p q _ _ node
    (evolves_same (p.local node).operations (q.local node).operations
    (ap (λ (l : EndpointLocal). l.operations) local
    ∙ notification_keeps settings contact first.request.content (p.local node) notification))
    (extends_same (p.local node).core.writes (q.local node).core.writes
    (ap (λ (l : EndpointLocal). l.core.writes) local
    ∙ sent_writes settings contact first.request.content (p.local node)))

send_effect : (settings : Parameters) (table : List (Option Entry)) (meaning : Meaning) (node : ℕ)
    (p q : Plain EndpointLocal) (a : Ticked) → SendsFirst (site_of (job_of settings table meaning) node) p a q
    → SendEffect settings p q (Ticks node) (OfNode (OfTick a)) node
send_effect settings table meaning node p q a first =
    let can = plain_can_ask (site_of (job_of settings table meaning) node) p in
    elim (given_says settings (segment_of settings (p.local node).core)
    (next_notification settings node can (p.local node).barrier)
    (next_chunk can 1 (p.local node).operations) first.to first.request.content first.given) [
      | inl notification ↦ notification_sent settings table meaning node p q a first notification.0 notification.1
      | inr chunk ↦ chunk_sent settings table meaning node p q a first chunk.0 chunk.1 chunk.2 chunk.3
    ]

-- what any event leaves of the node's operations and writes
pub step_effect : (settings : Parameters) (table : List (Option Entry)) (meaning : Meaning) (p q : Plain EndpointLocal)
    (e : Event OtherCall) (a : WorldAnswer Answer) (node : ℕ) → LocalStep (job_of settings table meaning) p q e a node
    → SendEffect settings p q e a node
step_effect settings table meaning p q e a node (Same is) =
    evolving settings p q e a node
    (evolves_same _ _ (ap (λ (l : EndpointLocal). l.operations) is))
    (extends_same _ _ (ap (λ (l : EndpointLocal). l.core.writes) is))
step_effect settings table meaning p q e a node (Notifications thread forbidden is) =
    evolving settings p q e a node
    (evolves_same _ _ (ap (λ (l : EndpointLocal). l.operations) is))
    (extends_same _ _ (ap (λ (l : EndpointLocal). l.core.writes) is))
step_effect settings table meaning p q e a node (RunsHere content is) =
    let handlers = handlers_of settings table meaning in
    let contact : Contact = record { me = node; peer = node; slot = 0; number = 0 } in
    let core = (p.local node).core in
    let out = run_request handlers contact content core in
    evolving settings p q e a node
    (subst (λ (ops : List Operation). Evolves (p.local node).operations ops)
    (sym (ap (λ (l : EndpointLocal). l.operations) is))
    (evolves_back node 0 0 (p.local node).operations))
    (subst (λ (writes : List Write). Extends core.writes writes) (sym (ap (λ (l : EndpointLocal). l.core.writes) is))
    (extends_more core.writes out.0.writes _ (run_extends handlers contact content core)
    (take_extends handlers contact out.1 out.0)))
step_effect settings table meaning p q e a node (Runs contact content is) =
    let handlers = handlers_of settings table meaning in
    evolving settings p q e a node
    (evolves_same _ _ (ap (λ (l : EndpointLocal). l.operations) is))
    (subst (λ (writes : List Write). Extends (p.local node).core.writes writes)
    (sym (ap (λ (l : EndpointLocal). l.core.writes) is))
    (run_extends handlers contact content (p.local node).core))
step_effect settings table meaning p q e a node (Takes contact content is) =
    let handlers = handlers_of settings table meaning in
    evolving settings p q e a node
    (subst (λ (ops : List Operation). Evolves (p.local node).operations ops)
    (sym (ap (λ (l : EndpointLocal). l.operations) is))
    (evolves_back contact.peer contact.slot contact.number (p.local node).operations))
    (subst (λ (writes : List Write). Extends (p.local node).core.writes writes)
    (sym (ap (λ (l : EndpointLocal). l.core.writes) is))
    (take_extends handlers contact content (p.local node).core))
step_effect settings table meaning p q e a node (Sends answer event answered first) =
    subst (λ (x : Event OtherCall). SendEffect settings p q x a node) (sym event)
    (subst (λ (x : WorldAnswer Answer). SendEffect settings p q (Ticks node) x node) (sym answered)
    (send_effect settings table meaning node p q answer first))
step_effect settings table meaning p q e a node (Calls thread call event is) =
    let it = call_effect settings table meaning
    (record { settings = settings; me = node; thread = thread; exhausted = plain_exhausted settings p node }) call
    (p.local node) in
    evolving settings p q e a node
    (subst (λ (ops : List Operation). Evolves (p.local node).operations ops)
    (sym (ap (λ (l : EndpointLocal). l.operations) is))
    (evolves_alike _ _ it.operations))
    (subst (λ (writes : List Write). Extends (p.local node).core.writes writes)
    (sym (ap (λ (l : EndpointLocal). l.core.writes) is)) it.writes)
