-- Events that no collective makes.
use Rattle.std.proofs.Common.{◌≡◌, inl, inr, ℕ, ◌<◌, ◌≤◌, Bool, true, false, List, [], ◌∷◌, ◌++◌, Option, Some}
use Rattle.std.proofs.Common.{None, refl, sym, ap, ◌∙◌, subst, arith}
use Rattle.std.specs.Prelude.{◌≢◌, ◌==◌, ◌||◌, if◌then◌else◌}
use Rattle.std.proofs.lemmas.Bool.{cases_eq, ne_eqb}
use Rattle.std.proofs.lemmas.Option.{same_Some}
use Rattle.base_lists.specs.Numbered.{element_at}
use Rattle.base_lists.proofs.Cases.{none_some}
use Rattle.base_lists.proofs.Numbered.{numbered_nil}
use Rattle.wire_message.specs.Parameters.{Parameters}
use Rattle.wire_message.specs.Content.{Content}
use Rattle.part_segment.specs.Image.{Write}
use Rattle.part_barrier.specs.Record.{SentNotification}
use Rattle.part_transfers.specs.declared.operation.Next.{Next}
use Rattle.part_handlers.specs.declared.table.Entry.{Entry}
use Rattle.part_handlers.specs.Runs.{Meaning}
use Rattle.spec_node.specs.declared.answer.Delivered.{Delivered}
use Rattle.spec_node.specs.declared.answer.Delivered.TheVariants as delivered
use Rattle.spec_node.specs.declared.answer.SlotRef.{SlotRef}
use Rattle.spec_node.specs.Behaviour.{Asking, Category, Short, Medium, Long, Sending}
use Rattle.spec_node.specs.NodeStep.{OfDelivery}
use Rattle.spec_node.specs.Record.{Request}
use Rattle.spec_node.specs.Step.{reply_slot}
use Rattle.std.proofs.Common.{map}
use Rattle.spec_network.specs.World.{Event, RequestComes, EventAt, OfNode, WorldAnswer, IsAmong}
use Rattle.spec_network.specs.World.{world_answer, world_after}
use Rattle.spec_network.specs.Plain.{PlainRequest, Plain, plain_request, put_pair, plain_of}
use Rattle.spec_network.specs.Invariant.{Holds}
use Rattle.spec_network.proofs.PlainSteps.{step_plain}
use Rattle.spec_network.proofs.Worlds.{step_keeps}
use Rattle.node_core.specs.ClientRules.{said_in}
use Rattle.node_core.specs.Kept.{segment_of}
use Rattle.node_core.specs.Library.{Work, Put, Get, Memset, Notification, notification_handler, run_answer, work_content}
use Rattle.node_rules.specs.EndpointLocal.{EndpointLocal, IsEndpointKept}
use Rattle.node_rules.specs.EndpointRules.{OtherCall, Records, chunk_work, job_of, notification_first}
use Rattle.node_rules.specs.declared.answer.Answer.{Answer}
use Rattle.law_transfers.specs.Chunks.{writes_at}
use Rattle.law_transfers.proofs.Stretches.{AreSound}
use Rattle.part_collective_area.specs.Area.{Area, IsArea}
use Rattle.part_collective_area.specs.Served.{HasCollectives, collective_handler}
use Rattle.law_collectives.specs.Groups.{Group, IsGroupEvent, IsNoCollective, Other, collective_writes}
use Rattle.part_collective_area.specs.Area.{SpareArea}
use Rattle.law_collectives.specs.Groups.{content_writes, request_writes}
use Rattle.law_collectives.specs.Invariant.{GroupHolds, asks_phase, ran_phase}
use Rattle.law_collectives.proofs.Phases.{cases_two}
use Rattle.law_collectives.proofs.Messages.{IsPart}
use Rattle.law_messages.specs.Steps.{IsNoRun, RequestStep, Same, ThreadAsks, NodeAsks, Runs}
use Rattle.law_messages.proofs.Steps.{request_step}
use Rattle.law_collectives.proofs.Quiet.{AsksSame, NoneFresh, Quiet, RanSame, asks_more, asks_same, fresh_more, fresh_same}
use Rattle.law_collectives.proofs.Quiet.{asks_none, quiet_kept, ran_apart, ran_push, ran_same, with_records}
use Rattle.law_collectives.proofs.Running.{message_at, part_kept, runs_kept, written_so}

-- ---- requests that are no messages of collectives

-- a request has the handler that is asked for
pub said_handler : (segment : List ℕ) (asking : Asking) → (said_in segment asking).handler ≡ asking.handler
said_handler segment asking = by_category asking.category asking
  where
    by_category : (category : Category) (asking : Asking)
        → (said_in segment (record asking { category = category })).handler ≡ asking.handler
    by_category Short asking = refl
    by_category Medium asking = refl
    by_category Long asking = refl

-- the library's own requests have handlers of the library
work_handler : (version : ℕ) (segment : List ℕ) (work : Work)
    → (work_content version segment work).handler ≢ collective_handler
work_handler version segment (Put local remote len) is = omega (arith, is)
work_handler version segment (Get local remote len) is = omega (arith, is)
work_handler version segment (Memset remote len byte) is = omega (arith, is)
work_handler version segment (Notification notification) is = omega (arith, is)

sending_handler : (settings : Parameters) (segment : List ℕ) (notification : Option SentNotification) (chunk : Option Next)
    (sending : Sending) → notification_first settings segment notification chunk ≡ Some sending
    → sending.content.handler ≢ collective_handler
sending_handler settings segment (Some sent) chunk sending is =
    subst (λ (it : Sending). it.content.handler ≢ collective_handler) (same_Some _ _ is)
    (work_handler settings.version segment (Notification sent.notification))
sending_handler settings segment None (Some next) sending is =
    subst (λ (it : Sending). it.content.handler ≢ collective_handler) (same_Some _ _ is)
    (work_handler settings.version segment (chunk_work next))
sending_handler settings segment None None sending is = absurd (none_some is)

-- ---- what is written

no_run_writes : (size : ℕ) (plain : Plain EndpointLocal) (node : ℕ) (event : Event OtherCall)
    (answer : WorldAnswer Answer) → IsNoRun event answer → collective_writes size plain node event answer ≡ []
no_run_writes size plain node (RequestComes from to number) (OfNode (OfDelivery (delivered.Ran at))) none = absurd none
no_run_writes size plain node event answer none = refl

-- a request that runs, where its handler is another one
other_run_writes : (size : ℕ) (plain : Plain EndpointLocal) (node from to number : ℕ) (request : PlainRequest)
    (answer : Delivered) → element_at (plain.requests from to) number ≡ Some request
    → request.content.handler ≢ collective_handler
    → collective_writes size plain node (RequestComes from to number) (OfNode (OfDelivery answer)) ≡ []
other_run_writes size plain node from to number request (delivered.Ran at) there other =
    by_node (to == node)
    (ap (request_writes size) there ∙ nothing request.content other)
  where
    nothing : (content : Content) → content.handler ≢ collective_handler → content_writes size content ≡ []
    nothing content differ = rw (ne_eqb content.handler collective_handler differ) refl

    by_node : (here : Bool) {writes : List Write} → writes ≡ [] → (if here then writes else []) ≡ []
    by_node true is = is
    by_node false is = refl
other_run_writes size plain node from to number request answer there other = refl

run_writes : (size : ℕ) (plain : Plain EndpointLocal) (node from to number : ℕ) (request : PlainRequest)
    (answer : Delivered) (at : SlotRef) → element_at (plain.requests from to) number ≡ Some request
    → answer ≡ delivered.Ran at
    → collective_writes size plain node (RequestComes from to number) (OfNode (OfDelivery answer))
    ≡ message_at size to node request.content
run_writes size plain node from to number request answer at there is =
    ap (λ (given : Delivered). collective_writes size plain node (RequestComes from to number)
    (OfNode (OfDelivery given))) is
    ∙ ap (λ (found : Option PlainRequest). if to == node then request_writes size found else []) there

-- ---- quiet events

-- a job with collectives
pub record Setting (settings : Parameters) (table : List (Option Entry)) (meaning : Meaning) (area : Area)
    : Type 0 where
  pub sound : AreSound settings table meaning
  pub nodes : area.nodes ≡ settings.nodes
  pub few : area.nodes ≤ 256
  pub good : IsArea settings.segment area
  pub registered : HasCollectives table

-- records that keep requests and runs of collectives, and of which only the rest of each segment was written
pub quiet_by : (settings : Parameters) (table : List (Option Entry)) (meaning : Meaning) (area : Area) (group : Group)
    (next : Records) → Setting settings table meaning area → GroupHolds (job_of settings table meaning) area group
    → Holds (job_of settings table meaning) (IsEndpointKept settings) next
    → AsksSame (plain_of group.records) (plain_of next) → NoneFresh (plain_of group.records) (plain_of next)
    → RanSame (plain_of group.records) (plain_of next)
    → ((node : ℕ) → node < settings.nodes
    → (beside : List Write) × (writes_at next node ≡ (writes_at group.records node ++ []) ++ beside)
    × SpareArea area beside)
    → Quiet (job_of settings table meaning) area group.records next
quiet_by settings table meaning area group next setting holds after asks fresh ran writes = record {
  records = after;
  asks = asks;
  fresh = fresh;
  ran = ran;
  parts = λ node parity from has low has_from.
      let job = job_of settings table meaning in
      let it = writes node has in
      let there : IsPart settings.segment area parity from = record {
        good = setting.good;
        low = low;
        there = subst (λ (n : ℕ). from < n) (sym setting.nodes) has_from;
      } in
      part_kept job area group.records next node parity from []
      (written_so job area group.records next node [] it.0 holds.records after it.1 it.2) there
      (record { all = λ offset len at to. tt });
}

-- a run of another handler
ran_other : (now next : Plain EndpointLocal) (from to : ℕ) (request : PlainRequest) (number : ℕ) (reply : Content)
    → next.requests ≡ now.requests
    → next.runs ≡ put_pair now.runs from to (now.runs from to ++ record { number = number; reply = reply } ∷ [])
    → element_at (now.requests from to) number ≡ Some request → request.content.handler ≢ collective_handler
    → RanSame now next
ran_other now next from to request number reply requests runs there other one another phase =
    elim (cases_two one another from to) [
      | inr apart ↦ ran_apart now next from to _ requests runs one another phase apart
      | inl both ↦ subst (λ (f : ℕ). ran_phase next f another phase ≡ ran_phase now f another phase) (sym both.0)
          (subst (λ (t : ℕ). ran_phase next from t phase ≡ ran_phase now from t phase) (sym both.1)
          (ran_push now next from to _ requests runs phase
          ∙ (ap (λ (asks : Bool). ran_phase now from to phase || (asks || false))
          (ap (asks_phase phase) there ∙ asks_none phase request other)
          ∙ or_false (ran_phase now from to phase))))
    ]
  where
    or_false : (ran : Bool) → (ran || (false || false)) ≡ ran
    or_false true = refl
    or_false false = refl

-- ---- an event that no collective makes

-- what is written beside messages of collectives, where the event is answered so
abbrev pub WrittenBeside : Parameters → Area → (now next : Records) → Event OtherCall → WorldAnswer Answer → Type 0
WrittenBeside settings area now next event answer =
    (node : ℕ) → node < settings.nodes
    → (beside : List Write)
    × (writes_at next node
    ≡ (writes_at now node ++ collective_writes settings.segment (plain_of now) node event answer) ++ beside)
    × SpareArea area beside

-- none of it is of a message
beside_only : (settings : Parameters) (area : Area) (now next : Records) (event : Event OtherCall)
    (answer : WorldAnswer Answer)
    → ((node : ℕ) → collective_writes settings.segment (plain_of now) node event answer ≡ [])
    → WrittenBeside settings area now next event answer → (node : ℕ) → node < settings.nodes
    → (beside : List Write) × (writes_at next node ≡ (writes_at now node ++ []) ++ beside) × SpareArea area beside
beside_only settings area now next event answer none written node has =
    let it = written node has in
    (it.0, it.1 ∙ ap (λ (writes : List Write). (writes_at now node ++ writes) ++ it.0) (none node), it.2)

-- of the node itself, none asks anything
pub apart_nodes : (settings : Parameters) (table : List (Option Entry)) (meaning : Meaning) (area : Area) (group : Group)
    (from to number : ℕ) (request : PlainRequest) → GroupHolds (job_of settings table meaning) area group
    → element_at ((plain_of group.records).requests from to) number ≡ Some request → from ≢ to
apart_nodes settings table meaning area group from to number request holds there same =
    let own = subst (λ (at : ℕ). element_at ((plain_of group.records).requests from at) number ≡ Some request) (sym same)
    there in
    numbered_nil number request
    (sym (ap (λ (list : List Request). element_at (map plain_request list) number) (holds.records.own from)) ∙ own)

other_by : (settings : Parameters) (table : List (Option Entry)) (meaning : Meaning) (area : Area) (group : Group)
    (next : Records) (event : Event OtherCall) (answer : WorldAnswer Answer) → Setting settings table meaning area
    → GroupHolds (job_of settings table meaning) area group
    → Holds (job_of settings table meaning) (IsEndpointKept settings) next
    → IsAmong settings event → IsNoCollective event → WrittenBeside settings area group.records next event answer
    → RequestStep (job_of settings table meaning) (plain_of group.records) (plain_of next) event answer
    → GroupHolds (job_of settings table meaning) area (with_records group next)
other_by settings table meaning area group next event answer setting holds after among none written
    (Same quiet requests runs) =
    quiet_kept (job_of settings table meaning) area group next holds
    (quiet_by settings table meaning area group next setting holds after
    (asks_same (plain_of group.records) (plain_of next) requests)
    (fresh_same (plain_of group.records) (plain_of next) requests)
    (ran_same (plain_of group.records) (plain_of next)
    (asks_same (plain_of group.records) (plain_of next) requests) runs)
    (beside_only settings area group.records next event answer
    (λ node. no_run_writes settings.segment (plain_of group.records) node event answer quiet) written))
other_by settings table meaning area group next event answer setting holds after among none written
    (ThreadAsks from ask slot is requests runs) =
    let plain = plain_of group.records in
    let other : ask.what.handler ≢ collective_handler = subst IsNoCollective is none in
    let differs = λ (same : (said_in (segment_of settings (plain.local from).core) ask.what).handler
    ≡ collective_handler). other (sym (said_handler (segment_of settings (plain.local from).core) ask.what) ∙ same) in
    quiet_kept (job_of settings table meaning) area group next holds
    (quiet_by settings table meaning area group next setting holds after
    (asks_more plain (plain_of next) from ask.to _ requests differs)
    (fresh_more plain (plain_of next) from ask.to _ requests differs)
    (ran_same plain (plain_of next) (asks_more plain (plain_of next) from ask.to _ requests differs) runs)
    (beside_only settings area group.records next event answer
    (λ node. ap (λ (it : Event OtherCall). collective_writes settings.segment plain node it answer) is) written))
other_by settings table meaning area group next event answer setting holds after among none written
    (NodeAsks from to request is given requests runs) =
    let plain = plain_of group.records in
    let differs : request.content.handler ≢ collective_handler = sending_handler settings _ _ _ _ given in
    quiet_kept (job_of settings table meaning) area group next holds
    (quiet_by settings table meaning area group next setting holds after
    (asks_more plain (plain_of next) from to request requests differs)
    (fresh_more plain (plain_of next) from to request requests differs)
    (ran_same plain (plain_of next) (asks_more plain (plain_of next) from to request requests differs) runs)
    (beside_only settings area group.records next event answer
    (λ node. ap (λ (it : Event OtherCall). collective_writes settings.segment plain node it answer) is) written))
other_by settings table meaning area group next event answer setting holds after among none written
    (Runs from to number said is answered first) =
    let job = job_of settings table meaning in
    let plain = plain_of group.records in
    let requests = ap (λ (p : Plain EndpointLocal). p.requests) first.leaves in
    let runs = ap (λ (p : Plain EndpointLocal). p.runs) first.leaves in
    let nodes : (from < settings.nodes) × (to < settings.nodes) = subst (λ (it : Event OtherCall). IsAmong settings it)
    is among in
    let as_one = λ (node : ℕ). ap (λ (it : Event OtherCall). collective_writes settings.segment plain node it answer) is
    ∙ ap (λ (it : WorldAnswer Answer).
    collective_writes settings.segment plain node (RequestComes from to number) it) answered in
    elim (cases_eq first.request.content.handler collective_handler) [
      | inl ours ↦ runs_kept job area group next from to number (record {
        nodes = setting.nodes;
        few = setting.few;
        good = setting.good;
        holds = holds;
        after = after;
        has_from = nodes.0;
        has_to = nodes.1;
        apart = apart_nodes settings table meaning area group from to number first.request holds first.fresh.is;
        answer = said;
        first = first;
        handler = ours;
        writes = λ node has.
            let it = written node has in
            let at = reply_slot from first.request.slot in
            let told : said ≡ delivered.Ran at = first.runs_as ∙ ran_as settings.version first.request.content at ours
            in
            written_so job area group.records next node _ it.0 holds.records after
            (it.1 ∙ ap (λ (writes : List Write). (writes_at group.records node ++ writes) ++ it.0)
            (as_one node ∙ run_writes settings.segment plain node from to number first.request said at first.fresh.is
            told)) it.2;
      })
      | inr differs ↦ quiet_kept job area group next holds
          (quiet_by settings table meaning area group next setting holds after
          (asks_same plain (plain_of next) requests) (fresh_same plain (plain_of next) requests)
          (ran_other plain (plain_of next) from to first.request number _ requests runs first.fresh.is differs)
          (beside_only settings area group.records next event answer
          (λ node. as_one node ∙ other_run_writes settings.segment plain node from to number first.request said
          first.fresh.is differs) written))
    ]
  where
    ran_as : (version : ℕ) (content : Content) (at : SlotRef) → content.handler ≡ collective_handler
        → run_answer version content at ≡ delivered.Ran at
    ran_as version content at ours = rw (ne_eqb content.handler notification_handler (λ same. omega (arith, same, ours))) refl

pub other_kept : (settings : Parameters) (table : List (Option Entry)) (meaning : Meaning) (area : Area)
    (group : Group) (e : EventAt OtherCall) → Setting settings table meaning area
    → GroupHolds (job_of settings table meaning) area group
    → IsGroupEvent (job_of settings table meaning) area group (Other e)
    → GroupHolds (job_of settings table meaning) area
    (with_records group (world_after (job_of settings table meaning) group.records e))
other_kept settings table meaning area group e setting holds allowed =
    let job = job_of settings table meaning in
    let next = world_after job group.records e in
    let answer = world_answer job group.records e in
    other_by settings table meaning area group next e.event answer setting holds
    (step_keeps job (IsEndpointKept settings) group.records e setting.sound holds.records allowed.0) allowed.0
    allowed.1
    (λ node has. let it = allowed.2 node has in (it.beside, it.writes, it.spare))
    (request_step job (plain_of group.records) (plain_of next) e.event answer
    (step_plain job (IsEndpointKept settings) group.records e setting.sound holds.records))
