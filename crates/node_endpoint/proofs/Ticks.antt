-- A tick, as its parts made it, is the endpoint's.
use Rattle.std.proofs.Common.{inl, inr, eqb, ◌≡◌, ℕ, suc, ◌<◌, Bool, true, false, List, Option, None, Some, length}
use Rattle.std.proofs.Common.{true≢false}
use Rattle.std.proofs.Common.{refl, sym, ap, ◌∙◌, subst, arith}
use Rattle.std.specs.List.{list_any}
use Rattle.std.proofs.lemmas.Bool.{cases_Bool, lt-leb}
use Rattle.wire_message.specs.Parameters.{Parameters}
use Rattle.wire_message.specs.declared.notification.BarrierNotification.{BarrierNotification}
use Rattle.part_handlers.specs.declared.table.Entry.{Entry}
use Rattle.part_handlers.specs.Runs.{Meaning, IsLawfulMeaning}
use Rattle.spec_node.specs.Record.{Node}
use Rattle.spec_node.specs.Requests.{Due, free_slot, next_claim, taken_slots, outstanding}
use Rattle.spec_node.specs.Credits.{limits_of}
use Rattle.spec_node.specs.Behaviour.{Sending}
use Rattle.spec_node.specs.Step.{next_due, choice_of, tick_choice, tick_answer, after_tick, can_ask, TickChoice}
use Rattle.spec_node.specs.Step.{Sends}
use Rattle.spec_node.specs.Step.{Rests, claim_answer, request_slot, after_sending, with_request}
use Rattle.spec_node.specs.NodeStep.{site_of, Ticks, OfTick, NodeAnswer}
use Rattle.spec_node.specs.Under.{under}
use Rattle.spec_node.specs.declared.answer.Asked.{Asked}
use Rattle.spec_node.specs.declared.answer.Asked.TheVariants as asked
use Rattle.spec_node.specs.declared.answer.SlotRef.{SlotRef}
use Rattle.spec_node.specs.declared.answer.Ticked.{Ticked}
use Rattle.spec_node.specs.declared.answer.Ticked.TheVariants as ticked
use Rattle.spec_node.proofs.Answers.{CanAsk, can_says}
use Rattle.spec_node.proofs.Slots.{taken_numbered, free_outside, free_le}
use Rattle.part_barrier.specs.Record.{BarrierRecord, SentNotification, send, notification_to}
use Rattle.part_barrier.specs.BarrierState.{BarrierState}
use Rattle.part_barrier.specs.Stands.{BarrierStands}
use Rattle.part_transfers.specs.declared.transfers.Transfers.{Transfers}
use Rattle.part_transfers.specs.declared.operation.Next.{Next}
use Rattle.part_transfers.specs.Operation.{Operation, target, next_chunk, issue, IsFreeSlot}
use Rattle.part_transfers.specs.Stands.{Stands as TransfersStand, room_of}
use Rattle.node_core.specs.Kept.{Local, segment_of}
use Rattle.node_core.specs.Library.{Work, WorkFits, Notification, work_content}
use Rattle.node_core.specs.ClientRules.{rules}
use Rattle.node_core.specs.CoreState.{CoreState}
use Rattle.node_core.specs.Known.{IsDue as CoreIsDue, IsNextDue as CoreNextDue}
use Rattle.node_core.specs.Stands.{CoreStands}
use Rattle.node_core.specs.CoreContracts.{CoreSteps, CoreTold, IsSameNode, AsksOwn, retransmits, core_job}
use Rattle.node_rules.specs.EndpointLocal.{EndpointLocal, core_of}
use Rattle.node_rules.specs.EndpointRules.{transition, job_of, next_sending, notification_first, next_notification, chunk_work}
use Rattle.node_rules.specs.EndpointRules.{sending_of}
use Rattle.node_rules.specs.Tracking.{NodeTracks}
use Rattle.node_rules.specs.declared.answer.Answer.TheVariants as answers
use Rattle.node_rules.proofs.Sending.{chunk_no_notification}
use Rattle.node_rules.proofs.Works.{sending_well, notification_work_fits, chunk_work_fits}
use Rattle.node_endpoint.specs.declared.extended.Extended.{Extended}
use Rattle.std.specs.Prelude.{is_some, nat_le}
use Rattle.node_endpoint.specs.EndpointState.{EndpointState, EndpointStands, ForItsRecord, NodeSteps, job_here}
use Rattle.node_endpoint.specs.EndpointState.{IsDue, IsNextDue, IsTickTarget}
use Rattle.node_endpoint.specs.EndpointState.{sends_again, sent_to}
use Rattle.node_endpoint.specs.Parts.{EndpointKeeps, Parts, IsWhole, CanSend, PartSends, endpoint_of, whole, found_notification}
use Rattle.node_endpoint.specs.Parts.{HasRecord}
use Rattle.node_endpoint.proofs.Stepping.{steps_by, keeps_of, nothing_runs, barrier_of, stays_whole}
use Rattle.node_endpoint.proofs.Calling.{stands_with, same_extended}

-- the core's tick
abbrev pub CoreTicks : CoreState → (now : ℕ) → Option SlotRef → CoreState → Type 0
CoreTicks core now at new =
    (meaning : Meaning) → CoreSteps meaning core
    (record { now = now; event = Ticks; answer = OfTick (retransmits at) }) new

-- how the core's tick was answered
abbrev core_ticked : NodeAnswer CoreTold → Ticked
core_ticked (OfTick answer) = answer
core_ticked _ = ticked.Nothing

-- ---- a request that is due

-- where one is sent again
due_again : (meaning : Meaning) (core new : CoreState) (extended : Extended) (now : ℕ) (at : SlotRef)
    (node : Node EndpointLocal) (due : Option Due) (sending : Option Sending) → IsSameNode core new
    → EndpointStands (endpoint_of core extended) node
    → ticked.Retransmission at ≡ tick_answer (rules core.settings core.table meaning) (under core_of node) (choice_of due None)
    → CoreStands new
    (after_tick (site_of (core_job meaning core) core.me) (under core_of node) now (choice_of due None))
    → let job = job_here meaning (endpoint_of core extended) in
    (answers.Ticked (ticked.Retransmission at) ≡ answers.Ticked
    (tick_answer job.behaviour.messages node (choice_of due sending)))
    × EndpointKeeps (endpoint_of new extended) (after_tick (site_of job core.me) node now (choice_of due sending))
due_again meaning core new extended now at node None sending same S e there = absurd (no e)
  where
    no : ticked.Retransmission at ≡ ticked.Nothing → ⊥
    no h = cc
due_again meaning core new extended now at node (Some due) sending same S e there = (
  ap (λ (t : Ticked). answers.Ticked t) e,
  record {
    core = there;
    transfers = S.transfers;
    regions_are = S.regions_are;
    registers_are = S.registers_are;
    barrier = barrier_of core new extended.barrier node.local.barrier node.local.barrier same refl S.barrier;
  },
)

pub resend_steps : (core new : CoreState) (extended : Extended) (now : ℕ) (at : SlotRef)
    → CoreTicks core now (Some at) new → (meaning : Meaning) → IsLawfulMeaning meaning
    → NodeSteps meaning (endpoint_of core extended) (transition now Ticks (answers.Ticked (ticked.Retransmission at)))
    (endpoint_of new extended)
resend_steps core new extended now at C meaning lawful =
    steps_by meaning (endpoint_of core extended) (endpoint_of new extended) now Ticks _ lawful (C meaning).same
    (λ node S.
    let it = (C meaning).steps (under core_of node) S.core in
    due_again meaning core new extended now at node (next_due core.settings node now) _ (C meaning).same S
    (ap core_ticked it.0) it.1)

-- where none is due
none_due : (meaning : Meaning) (core new : CoreState) (now : ℕ) (node : Node Local) (due : Option Due)
    → ticked.Nothing ≡ tick_answer (rules core.settings core.table meaning) node (choice_of due None)
    → CoreStands new (after_tick (site_of (core_job meaning core) core.me) node now (choice_of due None))
    → (due ≡ None) × CoreStands new node
none_due meaning core new now node None e there = (refl, there)
none_due meaning core new now node (Some due) e there = absurd (no e)
  where
    no : ticked.Nothing ≡ ticked.Retransmission (request_slot due.peer due.slot) → ⊥
    no h = cc

pub rests_due : (core new : CoreState) (extended : Extended) (now : ℕ) → CoreTicks core now None new
    → (node : Node EndpointLocal) → EndpointStands (endpoint_of core extended) node
    → (next_due core.settings node now ≡ None) × EndpointStands (endpoint_of new extended) node
rests_due core new extended now C node S =
    let it = (C nothing_runs).steps (under core_of node) S.core in
    let none = none_due nothing_runs core new now (under core_of node) (next_due core.settings node now)
    (ap core_ticked it.0) it.1 in
    (none.0, stands_with core new extended node (C nothing_runs).same none.1 S)

-- what holds of the same node
pub of_same : (P : Parameters → List (Option Entry) → ℕ → Type 0) (old new : CoreState) → IsSameNode old new
    → P new.settings new.table new.me → P old.settings old.table old.me
of_same P old new same p =
    subst (λ me. P old.settings old.table me) same.me_is
    (subst (λ t. P old.settings t new.me) same.table
    (subst (λ (s : Parameters). P s new.table new.me) same.settings p))

-- what a node sends next
abbrev pub SendsNext : CoreState → Extended → (to : ℕ) → Work → Type 0
SendsNext core extended to work =
    (meaning : Meaning) → ForItsRecord (endpoint_of core extended) (λ node.
    next_sending core.settings core.me
    (can_ask (site_of (job_here meaning (endpoint_of core extended)) core.me) node) node.local
    ≡ Some (sending_of core.settings (segment_of core.settings node.local.core) to work))

-- nothing is sent next
abbrev pub SendsNothing : CoreState → Extended → Type 0
SendsNothing core extended =
    (meaning : Meaning) → ForItsRecord (endpoint_of core extended) (λ node.
    next_sending core.settings core.me
    (can_ask (site_of (job_here meaning (endpoint_of core extended)) core.me) node) node.local
    ≡ None)

-- a request of the node's own accord
pub sent_steps : (core mid : CoreState) (extended : Extended) (now to : ℕ) (work : Work) (answer : Ticked)
    (new : Parts) → CoreTicks core now None mid → SendsNext mid extended to work
    → PartSends (record { core = mid; extended = extended }) (record { now = now; to = to; work = work }) answer new
    → (same : IsSameNode core new.core) → (meaning : Meaning) → IsLawfulMeaning meaning
    → NodeSteps meaning (endpoint_of core extended) (transition now Ticks (answers.Ticked answer)) (whole new)
sent_steps core mid extended now to work answer new C next P same meaning lawful =
    steps_by meaning (endpoint_of core extended) (whole new) now Ticks _ lawful same
    (λ node S.
    let due = rests_due core mid extended now C node S in
    let site = site_of (job_here meaning (endpoint_of core extended)) core.me in
    let middle = (C meaning).same in
    let sending = of_same (λ s t me.
    next_sending s me (can_ask (site_of (job_of s t meaning) me) node) node.local
    ≡ Some (sending_of s (segment_of s node.local.core) to work)) core mid middle (next meaning node due.1) in
    let did = of_same (λ s t me.
    (answer ≡ tick_answer (job_of s t meaning).behaviour.messages node
    (Sends (sending_of s (segment_of s node.local.core) to work)))
    × EndpointKeeps (whole new) (after_sending (site_of (job_of s t meaning) me) node now
    (sending_of s (segment_of s node.local.core) to work))) core mid middle (P.steps meaning node due.1) in
    let choice : tick_choice site node now
    ≡ Sends (sending_of core.settings (segment_of core.settings node.local.core) to work) =
    ap (λ d. choice_of d (next_sending core.settings core.me (can_ask site node) node.local)) due.0
    ∙ ap (λ s. choice_of None s) sending in (
      ap (λ (t : Ticked). answers.Ticked t)
          (did.0 ∙ ap (λ (c : TickChoice). tick_answer site.behaviour node c) (sym choice)),
      subst (λ (c : TickChoice). EndpointKeeps (whole new) (after_tick site node now c)) (sym choice) did.1,
    ))

-- nothing is sent
pub rest_steps : (core new : CoreState) (extended : Extended) (now : ℕ) → CoreTicks core now None new
    → SendsNothing new extended → (meaning : Meaning) → IsLawfulMeaning meaning
    → NodeSteps meaning (endpoint_of core extended) (transition now Ticks (answers.Ticked ticked.Nothing))
    (endpoint_of new extended)
rest_steps core new extended now C next meaning lawful =
    steps_by meaning (endpoint_of core extended) (endpoint_of new extended) now Ticks _ lawful (C meaning).same
    (λ node S.
    let due = rests_due core new extended now C node S in
    let site = site_of (job_here meaning (endpoint_of core extended)) core.me in
    let sending = of_same (λ s t me.
    next_sending s me (can_ask (site_of (job_of s t meaning) me) node) node.local ≡ None) core new (C meaning).same
    (next meaning node due.1) in
    let choice : tick_choice site node now ≡ Rests =
    ap (λ d. choice_of d (next_sending core.settings core.me (can_ask site node) node.local)) due.0
    ∙ ap (λ s. choice_of None s) sending in (
      ap (λ (c : TickChoice). answers.Ticked (tick_answer site.behaviour node c)) (sym choice),
      subst (λ (c : TickChoice). EndpointKeeps (endpoint_of new extended) (after_tick site node now c)) (sym choice)
          (keeps_of (endpoint_of new extended) node due.1),
    ))

-- ---- what goes next

-- the notification that was found
abbrev pub FindsNotification : CoreState → Extended → Option (ℕ × BarrierNotification) → Type 0
FindsNotification core extended found =
    (meaning : Meaning) → ForItsRecord (endpoint_of core extended) (λ node.
    found_notification found ≡ next_notification core.settings core.me
    (can_ask (site_of (job_here meaning (endpoint_of core extended)) core.me) node) node.local.barrier)

-- and the chunk
abbrev pub FindsChunk : CoreState → Extended → Option Next → Type 0
FindsChunk core extended next =
    (meaning : Meaning) → ForItsRecord (endpoint_of core extended) (λ node.
    next ≡ next_chunk (can_ask (site_of (job_here meaning (endpoint_of core extended)) core.me) node) 1
    node.local.operations)

pub notification_next : (core : CoreState) (extended : Extended) (found : ℕ × BarrierNotification)
    → FindsNotification core extended (Some found) → SendsNext core extended found.0 (Notification found.1)
notification_next core extended found notification meaning node S =
    ap (λ (n : Option SentNotification). notification_first core.settings (segment_of core.settings node.local.core) n
    (next_chunk (can_ask (site_of (job_here meaning (endpoint_of core extended)) core.me) node) 1
    node.local.operations)) (sym (notification meaning node S))

pub chunk_next : (core : CoreState) (extended : Extended) (next : Next) → FindsNotification core extended None
    → FindsChunk core extended (Some next) → SendsNext core extended (target next.transfer) (chunk_work next)
chunk_next core extended next notification chunk meaning node S =
    let segment = segment_of core.settings node.local.core in
    let can = can_ask (site_of (job_here meaning (endpoint_of core extended)) core.me) node in
    ap (λ (n : Option SentNotification). notification_first core.settings segment n (next_chunk can 1 node.local.operations))
    (sym (notification meaning node S))
    ∙ ap (λ (n : Option Next). notification_first core.settings segment None n) (sym (chunk meaning node S))

pub nothing_next : (core : CoreState) (extended : Extended) → FindsNotification core extended None
    → FindsChunk core extended None → SendsNothing core extended
nothing_next core extended notification chunk meaning node S =
    let segment = segment_of core.settings node.local.core in
    let can = can_ask (site_of (job_here meaning (endpoint_of core extended)) core.me) node in
    ap (λ (n : Option SentNotification). notification_first core.settings segment n (next_chunk can 1 node.local.operations))
    (sym (notification meaning node S))
    ∙ ap (λ (n : Option Next). notification_first core.settings segment None n) (sym (chunk meaning node S))

-- what goes next may be asked
pub may_send : (core : CoreState) (extended : Extended) (to : ℕ) (work : Work) → IsWhole core extended
    → SendsNext core extended to work → WorkFits core.settings work → CanSend core extended to work
may_send core extended to work W next fits = record {
  there = says.to_in;
  other = says.other;
  fits = fits;
  can = λ node S meaning. can meaning node S;
}
  where
    can : (meaning : Meaning) (node : Node EndpointLocal) → EndpointStands (endpoint_of core extended) node
        → can_ask (site_of (job_here meaning (endpoint_of core extended)) core.me) node to ≡ true
    can meaning node S =
        (sending_well core.settings core.table core.me
        (can_ask (site_of (job_here meaning (endpoint_of core extended)) core.me) node) node.local _ S.core.range S.kept
        (next meaning node S)).0

    says : CanAsk (site_of (job_here nothing_runs (endpoint_of core extended)) core.me)
        W.record_.0 to
    says = can_says (site_of (job_here nothing_runs (endpoint_of core extended)) core.me) W.record_.0 to
        (can nothing_runs W.record_.0 W.record_.1)

pub notification_may : (core : CoreState) (extended : Extended) (found : ℕ × BarrierNotification) → IsWhole core extended
    → FindsNotification core extended (Some found) → CanSend core extended found.0 (Notification found.1)
notification_may core extended found W notification =
    may_send core extended found.0 (Notification found.1) W (notification_next core extended found notification)
    (notification_work_fits core.settings core.me
    (can_ask (site_of (job_here nothing_runs (endpoint_of core extended)) core.me) W.record_.0) W.record_.0.local
    (record { to = found.0; notification = found.1 }) W.record_.1.core.range W.record_.1.kept
    (sym (notification nothing_runs W.record_.0 W.record_.1)))

pub chunk_may : (core : CoreState) (extended : Extended) (next : Next) → IsWhole core extended
    → FindsNotification core extended None → FindsChunk core extended (Some next)
    → CanSend core extended (target next.transfer) (chunk_work next)
chunk_may core extended next W notification chunk =
    may_send core extended (target next.transfer) (chunk_work next) W (chunk_next core extended next notification chunk)
    (chunk_work_fits core.settings core.me
    (can_ask (site_of (job_here nothing_runs (endpoint_of core extended)) core.me) W.record_.0) W.record_.0.local
    next W.record_.1.kept (sym (chunk nothing_runs W.record_.0 W.record_.1)))

-- ---- what was asked

-- a node that can be asked accepts, in its next slot, with its next number
pub claims : (meaning : Meaning) (endpoint : EndpointState) (node : Node EndpointLocal) (to : ℕ)
    → can_ask (site_of (job_here meaning endpoint) endpoint.core.me) node to ≡ true
    → claim_answer (limits_of endpoint.core.settings endpoint.core.me to) to (node.asked to)
    ≡ asked.Accepted to (next_claim (node.asked to)).slot (next_claim (node.asked to)).number
claims meaning endpoint node to can =
    let says = can_says (site_of (job_here meaning endpoint) endpoint.core.me) node to can in
    rw (
      lt-leb endpoint.core.settings.last (length (node.asked to)) says.left,
      lt-leb (limits_of endpoint.core.settings endpoint.core.me to).credits (outstanding (node.asked to)) says.free,
    ) refl

-- so the answer of the core is an acceptance
pub is_accepted_as : (core new : CoreState) (extended : Extended) (now to : ℕ) (work : Work) (answer : Asked)
    (node : Node EndpointLocal) → CanSend core extended to work
    → AsksOwn core (record { now = now; to = to; work = work; answer = answer }) new
    → EndpointStands (endpoint_of core extended) node
    → answer ≡ asked.Accepted to (next_claim (node.asked to)).slot (next_claim (node.asked to)).number
is_accepted_as core new extended now to work answer node may C S =
    (C.steps (under core_of node) S.core).0
    ∙ claims nothing_runs (endpoint_of core extended) node to (may.can node S nothing_runs)

-- a slot that is free has no chunk that is out
pub slot_free : (version to : ℕ) (node : Node EndpointLocal) → NodeTracks version node
    → IsFreeSlot node.local.operations to (free_slot (node.asked to))
slot_free version to node T place index operation sent here is issued slot =
    elim (cases_Bool sent.back) [
      | inl back ↦ back
      | inr out ↦ (
          let it = T.request (suc place) index
          (record { operation = operation; sent = sent; numbered_so = here; issued = issued }) in
          let taken_so = taken_numbered (node.asked (target operation.transfer)) sent.number it.request it.accepted
          (it.back ∙ out) in
          let same : list_any (eqb (free_slot (node.asked to))) (taken_slots (node.asked to)) ≡ true =
          subst (λ t. list_any (eqb (free_slot (node.asked to))) (taken_slots (node.asked t)) ≡ true) is
          (subst (λ q. list_any (eqb q) (taken_slots (node.asked (target operation.transfer))) ≡ true) (it.slot ∙ slot)
          taken_so) in
          absurd (true≢false (sym same ∙ free_outside (node.asked to))))
    ]

-- what the library asked, as the core made it
asked_core : (core new : CoreState) (extended : Extended) (now to slot number : ℕ) (work : Work)
    (node : Node EndpointLocal) → CanSend core extended to work
    → AsksOwn core (record { now = now; to = to; work = work; answer = asked.Accepted to slot number }) new
    → EndpointStands (endpoint_of core extended) node
    → (slot ≡ (next_claim (node.asked to)).slot) × (number ≡ (next_claim (node.asked to)).number)
    × CoreStands new (with_request (under core_of node) now to (next_claim (node.asked to)).slot
    (work_content core.settings.version (segment_of core.settings node.local.core) work))
asked_core core new extended now to slot number work node may C S =
    let is = is_accepted_as core new extended now to work (asked.Accepted to slot number) node may C S in
    let slot_is : slot ≡ (next_claim (node.asked to)).slot = cc in
    let number_is : number ≡ (next_claim (node.asked to)).number = cc in (
      slot_is,
      number_is,
      subst (λ q. CoreStands new (with_request (under core_of node) now to q
          (work_content core.settings.version (segment_of core.settings node.local.core) work))) slot_is
          (C.steps (under core_of node) S.core).1,
    )

-- a notification
pub notification_sends : (core new : CoreState) (extended : Extended) (barrier : BarrierState) (now to slot number : ℕ)
    (notification : BarrierNotification) → CanSend core extended to (Notification notification)
    → AsksOwn core (record { now = now; to = to; work = Notification notification; answer = asked.Accepted to slot number }) new
    → ((nodes me : ℕ) (kept : BarrierRecord) → BarrierStands nodes me extended.barrier kept
    → BarrierStands nodes me barrier (send kept to (notification_to nodes me kept to)))
    → PartSends (record { core = core; extended = extended })
    (record { now = now; to = to; work = Notification notification }) (ticked.Notification (request_slot to slot))
    (record { core = new; extended = record extended { barrier = barrier } })
notification_sends core new extended barrier now to slot number notification may C sent = record {
  same = C.same;
  frame = record { nodes = refl; me_is = refl; threads = refl; room = refl };
  steps = λ meaning node S.
      let it = asked_core core new extended now to slot number (Notification notification) node may C S in (
        ap (λ q. ticked.Notification (request_slot to q)) it.0,
        record {
          core = it.2;
          transfers = S.transfers;
          regions_are = S.regions_are;
          registers_are = S.registers_are;
          barrier = barrier_of core new barrier _ _ C.same refl
              (sent core.settings.nodes core.me node.local.barrier S.barrier);
        },
      );
}

-- a chunk
pub chunk_sends : (core new : CoreState) (extended : Extended) (transfers : Transfers) (now slot number : ℕ)
    (next : Next) → CanSend core extended (target next.transfer) (chunk_work next)
    → ((meaning : Meaning) → ForItsRecord (endpoint_of core extended) (λ node.
    next_chunk (can_ask (site_of (job_here meaning (endpoint_of core extended)) core.me) node) 1 node.local.operations
    ≡ Some next))
    → AsksOwn core (record {
      now = now;
      to = target next.transfer;
      work = chunk_work next;
      answer = asked.Accepted (target next.transfer) slot number;
    }) new
    → ((can : ℕ → Bool) (bytes : List ℕ) (operations : List Operation) → TransfersStand extended.transfers operations
    → next_chunk can 1 operations ≡ Some next → IsFreeSlot operations (target next.transfer) slot
    → TransfersStand transfers (issue (target next.transfer) slot number bytes operations))
    → room_of transfers ≡ room_of extended.transfers
    → PartSends (record { core = core; extended = extended })
    (record { now = now; to = target next.transfer; work = chunk_work next })
    (ticked.Chunk (request_slot (target next.transfer) slot))
    (record { core = new; extended = record extended { transfers = transfers } })
chunk_sends core new extended transfers now slot number next may found C noted room = record {
  same = C.same;
  frame = record { nodes = refl; me_is = refl; threads = refl; room = room };
  steps = λ meaning node S.
      let to = target next.transfer in
      let it = asked_core core new extended now to slot number (chunk_work next) node may C S in
      let segment = segment_of core.settings node.local.core in
      let other = chunk_no_notification core.settings.version segment next in
      let bytes = (work_content core.settings.version segment (chunk_work next)).payload in
      let claim = next_claim (node.asked to) in
      let free = subst (λ q. IsFreeSlot node.local.operations to q) (sym it.0)
      (slot_free core.settings.version to node S.tracks) in
      let can = can_ask (site_of (job_here meaning (endpoint_of core extended)) core.me) node in
      let stands = noted can bytes node.local.operations S.transfers (found meaning node S) free in
      let issued = subst (λ q. TransfersStand transfers (issue to q claim.number bytes node.local.operations)) it.0
      (subst (λ n. TransfersStand transfers (issue to slot n bytes node.local.operations)) it.1 stands) in (
        rw other (ap (λ q. ticked.Chunk (request_slot to q)) it.0),
        rw other (record {
          core = it.2;
          transfers = issued;
          regions_are = S.regions_are;
          registers_are = S.registers_are;
          barrier = barrier_of core new extended.barrier _ _ C.same refl S.barrier;
        }),
      );
}

-- its slot is among those of the transfers
pub slot_within : (core new : CoreState) (extended : Extended) (now to slot number : ℕ) (work : Work)
    → IsWhole core extended → CanSend core extended to work
    → AsksOwn core (record { now = now; to = to; work = work; answer = asked.Accepted to slot number }) new
    → slot < (room_of extended.transfers).credits
slot_within core new extended now to slot number work W may C =
    let node = W.record_.0 in
    let S = W.record_.1 in
    let it = asked_core core new extended now to slot number work node may C S in
    let says = can_says (site_of (job_here nothing_runs (endpoint_of core extended)) core.me) node to
    (may.can node S nothing_runs) in
    omega (arith, it.0, free_le (node.asked to), says.free, W.room to may.there may.other)

-- the core's answer is no other
pub never_refused : (core new : CoreState) (extended : Extended) (now to : ℕ) (work : Work) (answer : Asked)
    → IsWhole core extended → CanSend core extended to work
    → AsksOwn core (record { now = now; to = to; work = work; answer = answer }) new
    → ((other slot number : ℕ) → answer ≡ asked.Accepted other slot number → ⊥) → ⊥
never_refused core new extended now to work answer W may C never =
    never to _ _ (is_accepted_as core new extended now to work answer W.record_.0 may C W.record_.1)

-- it is of the node that was asked
pub accepted_own : (core new : CoreState) (extended : Extended) (now to : ℕ) (work : Work) (answer : Asked)
    (peer slot number : ℕ) → IsWhole core extended → CanSend core extended to work
    → answer ≡ asked.Accepted peer slot number
    → AsksOwn core (record { now = now; to = to; work = work; answer = answer }) new
    → AsksOwn core (record { now = now; to = to; work = work; answer = asked.Accepted to slot number }) new
accepted_own core new extended now to work answer peer slot number W may e C =
    let is = is_accepted_as core new extended now to work answer W.record_.0 may C W.record_.1 in
    let peer_is : peer ≡ to = cc in
    subst (λ (a : Asked). AsksOwn core (record { now = now; to = to; work = work; answer = a }) new)
    (e ∙ ap (λ p. asked.Accepted p slot number) peer_is) C

-- where the node and the work are these
pub asked_of : (core new : CoreState) (now to other : ℕ) (work others : Work) (answer : Asked) → other ≡ to
    → others ≡ work → AsksOwn core (record { now = now; to = other; work = others; answer = answer }) new
    → AsksOwn core (record { now = now; to = to; work = work; answer = answer }) new
asked_of core new now to other work others answer same is C =
    subst (λ w. AsksOwn core (record { now = now; to = to; work = w; answer = answer }) new) is
    (subst (λ t. AsksOwn core (record { now = now; to = t; work = others; answer = answer }) new) same C)

-- where nothing is due what is whole stays so
pub rests_whole : (core new : CoreState) (extended : Extended) (now : ℕ) → IsWhole core extended
    → CoreTicks core now None new → IsWhole new extended
rests_whole core new extended now W C =
    stays_whole (record { core = core; extended = extended }) (record { core = new; extended = extended }) W
    (C nothing_runs).same (same_extended extended)
    (W.record_.0, (rests_due core new extended now C W.record_.0 W.record_.1).1)

-- ---- which node a tick would ask

due_first : (due : Option Due) (sending : Option Sending) → true ≡ is_some due
    → None ≡ sent_to (choice_of due sending)
due_first (Some due) sending e = refl
due_first None sending e = absurd (true≢false e)

none_first : (due : Option Due) (sending : Option Sending) → false ≡ is_some due → due ≡ None
none_first (Some due) sending e = absurd (true≢false (sym e))
none_first None sending e = refl

-- whether one is sent again
abbrev pub TellsDue : CoreState → (now : ℕ) → Bool → Type 0
TellsDue core now is_due =
    (node : Node Local) → CoreStands core node → is_due ≡ is_some (next_due core.settings node now)

pub target_due : (core : CoreState) (extended : Extended) (now : ℕ) → TellsDue core now true
    → IsTickTarget (endpoint_of core extended) now None
target_due core extended now due meaning node S =
    due_first (next_due core.settings node now) _ (due (under core_of node) S.core)

pub target_next : (core : CoreState) (extended : Extended) (now to : ℕ) (work : Work) → TellsDue core now false
    → SendsNext core extended to work → IsTickTarget (endpoint_of core extended) now (Some to)
target_next core extended now to work due next meaning node S =
    let can = can_ask (site_of (job_here meaning (endpoint_of core extended)) core.me) node in
    let none = none_first (next_due core.settings node now) None (due (under core_of node) S.core) in
    sym (ap (λ d. sent_to (choice_of d (next_sending core.settings core.me can node.local))) none
    ∙ ap (λ s. sent_to (choice_of None s)) (next meaning node S))

pub target_none : (core : CoreState) (extended : Extended) (now : ℕ) → TellsDue core now false
    → SendsNothing core extended → IsTickTarget (endpoint_of core extended) now None
target_none core extended now due next meaning node S =
    let can = can_ask (site_of (job_here meaning (endpoint_of core extended)) core.me) node in
    let none = none_first (next_due core.settings node now) None (due (under core_of node) S.core) in
    sym (ap (λ d. sent_to (choice_of d (next_sending core.settings core.me can node.local))) none
    ∙ ap (λ s. sent_to (choice_of None s)) (next meaning node S))

-- whether a tick sends a request again is whether one is due
again_is : (due : Option Due) (sending : Option Sending) → is_some due ≡ sends_again (choice_of due sending)
again_is (Some due) sending = refl
again_is None (Some sending) = refl
again_is None None = refl

due_here : (core : CoreState) (extended : Extended) (now : ℕ) (is_due : Bool) → CoreIsDue core now is_due
    → IsDue (endpoint_of core extended) now is_due
due_here core extended now is_due told meaning node S =
    told (under core_of node) S.core ∙ again_is (next_due core.settings node now) _

-- so it is of the time from which on it does
pub next_due_here : (core : CoreState) (extended : Extended) (time : Option ℕ) → CoreNextDue core time
    → IsNextDue (endpoint_of core extended) time
next_due_here core extended None never = λ now low. due_here core extended now false (never now low)
next_due_here core extended (Some time) from = λ now. due_here core extended now (nat_le time now) (from now)

-- there is one answer to this
pub one_target : (endpoint : EndpointState) (now : ℕ) (first second : Option ℕ) → HasRecord endpoint
    → IsTickTarget endpoint now first → IsTickTarget endpoint now second → first ≡ second
one_target endpoint now first second has one other =
    one nothing_runs has.0 has.1 ∙ sym (other nothing_runs has.0 has.1)
