-- What C says of its handlers is told of each run, and is lawful.
use Rattle.std.proofs.Common.{◌≡◌, ◌≢◌, inl, inr, ℕ, Bool, true, false, true≢false}
use Rattle.std.proofs.Common.{if◌then◌else◌, List, [], ◌∷◌, ◌++◌, length, Option, None, Some, refl, sym, ap}
use Rattle.std.proofs.Common.{◌∙◌, subst}
use Rattle.std.specs.Prelude.{◌==◌, ℤ}
use Rattle.wire_message.specs.Parameters.{Parameters}
use Rattle.wire_message.specs.Content.{Content, code, is_ack, short_reply, medium_reply, long_reply}
use Rattle.part_handlers.specs.declared.table.Entry.{Entry}
use Rattle.part_handlers.specs.declared.message.Replied.{Replied}
use Rattle.part_handlers.specs.declared.message.Replied.TheVariants as replied
use Rattle.part_handlers.specs.declared.rules.Role.{Role}
use Rattle.part_handlers.specs.declared.rules.Role.TheVariants as role
use Rattle.part_handlers.specs.Runs.{Arrival, Frame, Start, Outcome, Meaning, IsLawfulMeaning, after_answer, answer, nothing_done}
use Rattle.part_handlers.specs.Runs.{replying}
use Rattle.part_handlers.proofs.Laws.{cells-replying}
use Rattle.part_segment.specs.Image.{Write}
use Rattle.spec_node.specs.Step.{with_itself, request_content}
use Rattle.spec_node.specs.NodeStep.{Asks, Does, Comes, Ticks, site_of}
use Rattle.spec_network.specs.World.{Fall, falls}
use Rattle.node_core.specs.Kept.{start_from, with_writes}
use Rattle.node_core.specs.Library.{is_library}
use Rattle.node_core.specs.HandlerRuns.{frame_of_run, handlers_of, landing, run_request}
use Rattle.node_core.proofs.InPlace.{lawful_keeping}
use Rattle.node_endpoint.specs.EndpointState.{EndpointState}
use Rattle.node_rules.specs.EndpointRules.{OtherCall, RecordEvent, Records, at_the_opening, job_of}
use Rattle.node_atomics.specs.BatchRequests.{BatchRequest, batch_handler}
use Rattle.node_atomics.specs.Served.{after_batch, block_reply, changes_of, outcome_of_batch, request_for}
use Rattle.node_atomics.specs.Served.{after_request as after_batch_request}
use Rattle.part_collective_area.specs.Served.{collective_handler, outcome_of_piece}
use Rattle.gasnet_c.specs.OwnHandlers.{serving}
use Rattle.gasnet_c.specs.Lawful.{asking_lawful, both_lawful}
use Rattle.gasnet_c.specs.Replayed.{answering, asked_in, asking, both_replayed_by, leaving, left_write, outcome_of_run}
use Rattle.gasnet_c.specs.Replayed.{both_replayed, replayed_as, with_own_run, writing_if}
use Rattle.gasnet_c.specs.ServingLawful.{serving_lawful}
use Rattle.gasnet_c.specs.declared.replay.OwnRuns.{OwnRuns}
use Rattle.gasnet_c.specs.declared.replay.Reply.{Reply}
use Rattle.gasnet_c.specs.Meanings.{AnswersAlike, AreLawful, AreOfC, AreTold, AtOwnRuns, AtRuns, NodeBefore, COfOneMeaning}
use Rattle.gasnet_c.specs.Meanings.{IsCall}
use Rattle.gasnet_c.specs.Meanings.{IsDeliveryOfC, IsOfC, IsOfCAt, IsRequestOfC, IsToldRun, IsToldAt, MeantEvent, after_meant}
use Rattle.gasnet_c.specs.Meanings.{is_asked, is_counted, is_served}
use Rattle.gasnet_c.proofs.Meanings.{alike, have_one_meaning}
use Rattle.gasnet_c.proofs.Growing.{numbered_return, numbered_run, said_handler, uncounted_other, uncounted_reply}

-- ---- what runs leave of the cells, and which reply they have

written_cells : (write : Option Write) (outcome : Outcome) → (writing_if write outcome).cells ≡ outcome.cells
written_cells None outcome = refl
written_cells (Some write) outcome = refl

written_reply : (write : Option Write) (outcome : Outcome) → (writing_if write outcome).reply ≡ outcome.reply
written_reply None outcome = refl
written_reply (Some write) outcome = refl

either_cells : (test : Bool) (one other : Outcome) (cells : List ℤ) → one.cells ≡ cells → other.cells ≡ cells
    → (if test then one else other).cells ≡ cells
either_cells true one other cells first second = first
either_cells false one other cells first second = second

answered_cells : (reply : Reply) (frame : Frame) (outcome : Outcome)
    → (answering reply frame outcome).cells ≡ outcome.cells
answered_cells reply frame outcome =
    let args = reply.args.now in
    let payload = reply.payload.now in
    either_cells (reply.category == 0) _ _ outcome.cells
    (cells-replying frame (short_reply reply.handler args) outcome)
    (either_cells (reply.category == 1) _ _ outcome.cells
    (cells-replying frame (medium_reply reply.handler args payload) outcome)
    (either_cells (reply.category == 2) _ _ outcome.cells
    (cells-replying frame (long_reply reply.handler args reply.offset payload) outcome) refl))

-- a reply to such a handler, or none
alike_answer : (handler : ℕ) (result : Replied) (content : Content) (outcome : Outcome)
    → is_served content.handler ≡ is_served handler → AnswersAlike handler outcome.reply
    → AnswersAlike handler (after_answer result content outcome).reply
alike_answer handler replied.Sent content outcome same before = same
alike_answer handler (replied.Forbidden forbidden) content outcome same before = before
alike_answer handler (replied.BadArg part) content outcome same before = before

alike_replying : (handler : ℕ) (frame : Frame) (content : Content) (outcome : Outcome)
    → is_served content.handler ≡ is_served handler → AnswersAlike handler outcome.reply
    → AnswersAlike handler (replying frame content outcome).reply
alike_replying handler frame content outcome same before =
    alike_answer handler (answer frame content outcome) content outcome same before

alike_either : (handler : ℕ) (test : Bool) (one other : Outcome) → AnswersAlike handler one.reply
    → AnswersAlike handler other.reply → AnswersAlike handler (if test then one else other).reply
alike_either handler true one other first second = first
alike_either handler false one other first second = second

alike_answering : (handler : ℕ) (reply : Reply) (frame : Frame) (outcome : Outcome)
    → is_served reply.handler ≡ is_served handler → AnswersAlike handler outcome.reply
    → AnswersAlike handler (answering reply frame outcome).reply
alike_answering handler reply frame outcome same before =
    let args = reply.args.now in
    let payload = reply.payload.now in
    alike_either handler (reply.category == 0) _ _
    (alike_replying handler frame (short_reply reply.handler args) outcome same before)
    (alike_either handler (reply.category == 1) _ _
    (alike_replying handler frame (medium_reply reply.handler args payload) outcome same before)
    (alike_either handler (reply.category == 2) _ _
    (alike_replying handler frame (long_reply reply.handler args reply.offset payload) outcome same before) before))

-- ---- the library's own handlers

batch_cells : (frame : Frame) (segment : List ℕ) (request : Option BatchRequest) (outcome : Outcome)
    → (after_batch frame segment request outcome).cells ≡ outcome.cells
batch_cells frame segment None outcome = refl
batch_cells frame segment (Some request) outcome =
    cells-replying frame (block_reply segment request)
    (record outcome { writes = outcome.writes ++ changes_of segment request.ops })

batch_alike : (handler : ℕ) (frame : Frame) (segment : List ℕ) (request : Option BatchRequest) (outcome : Outcome)
    → is_served handler ≡ true → AnswersAlike handler outcome.reply
    → AnswersAlike handler (after_batch frame segment request outcome).reply
batch_alike handler frame segment None outcome served before = before
batch_alike handler frame segment (Some request) outcome served before =
    alike_replying handler frame (block_reply segment request)
    (record outcome { writes = outcome.writes ++ changes_of segment request.ops }) (sym served) before

served_cells : (handler : ℕ) (frame : Frame) (start : Start) → (serving handler frame start).cells ≡ start.cells
served_cells handler frame start =
    either_cells (handler == collective_handler) (outcome_of_piece frame start (nothing_done start))
    (outcome_of_batch handler frame start (nothing_done start)) start.cells refl
    (either_cells (handler == batch_handler) (after_batch_request frame start (nothing_done start))
    (nothing_done start) start.cells
    (batch_cells frame _ (request_for (length start.segment) frame.arrival) (nothing_done start)) refl)

served_alike : (handler : ℕ) (frame : Frame) (start : Start) → is_served handler ≡ true
    → AnswersAlike handler (serving handler frame start).reply
served_alike handler frame start served =
    alike_either handler (handler == collective_handler) (outcome_of_piece frame start (nothing_done start))
    (outcome_of_batch handler frame start (nothing_done start)) tt
    (alike_either handler (handler == batch_handler) (after_batch_request frame start (nothing_done start))
    (nothing_done start)
    (batch_alike handler frame _ (request_for (length start.segment) frame.arrival) (nothing_done start) served tt) tt)

-- ---- what is told of runs

-- what the library serves isn't counted
served_uncounted : (handler : ℕ) (arrival : Arrival) → is_served handler ≡ true → is_counted handler arrival ≡ false
served_uncounted handler arrival served = rw served refl

-- a run that isn't counted, and is no request of the node to itself
told_uncounted : (meaning : Meaning) (handler : ℕ) (frame : Frame) (start : Start)
    → (is_served handler ≡ true → meaning handler frame start ≡ serving handler frame start)
    → (meaning handler frame start).cells ≡ start.cells → is_counted handler frame.arrival ≡ false
    → (frame.arrival.number ≡ 0 → is_asked frame.arrival.role ≡ true
    → AnswersAlike handler (meaning handler frame start).reply)
    → IsToldRun meaning handler frame start
told_uncounted meaning handler frame start served cells uncounted reply = record {
  served = served;
  cells = rw uncounted cells;
  reply = reply;
}

-- a message of another node
told_delivery : (meaning : Meaning) (handler : ℕ) (frame : Frame) (start : Start) → IsDeliveryOfC handler meaning
    → frame.arrival.number ≢ 0 → IsToldRun meaning handler frame start
told_delivery meaning handler frame start (inl is) other =
    subst (λ (it : Meaning). IsToldRun it handler frame start) (sym is)
    (told_uncounted serving handler frame start (λ served. refl) (served_cells handler frame start)
    (uncounted_other handler frame.arrival other) (λ own. absurd (other own)))
told_delivery meaning handler frame start (inr it) other =
    subst (λ (as_said : Meaning). IsToldRun as_said handler frame start) (sym it.3)
    (told_uncounted (asked_in it.0 it.1) handler frame start
    (λ served. absurd (true≢false (sym served ∙ it.2))) (asked_cells it.0 it.1)
    (uncounted_other handler frame.arrival other) (λ own. absurd (other own)))
  where
    asked_cells : (held : Option EndpointState) (reply : Reply)
        → (asked_in held reply handler frame start).cells ≡ start.cells
    asked_cells None reply = answered_cells reply frame (nothing_done start)
    asked_cells (Some endpoint) reply = answered_cells reply frame (nothing_done start)

-- the reply of a request of the node to itself
told_reply : (meaning : Meaning) (handler asked_handler : ℕ) (frame : Frame) (start : Start)
    → IsRequestOfC asked_handler meaning → is_served handler ≡ is_served asked_handler
    → frame.arrival.role ≡ role.Reply → IsToldRun meaning handler frame start
told_reply meaning handler asked_handler frame start (inl is) same reply =
    subst (λ (it : Meaning). IsToldRun it handler frame start) (sym is.1)
    (told_uncounted serving handler frame start (λ served. refl) (served_cells handler frame start)
    (uncounted_reply handler frame.arrival reply)
    (λ own asked. absurd (true≢false (sym asked ∙ ap is_asked reply))))
told_reply meaning handler asked_handler frame start (inr it) same reply =
    subst (λ (as_said : Meaning). IsToldRun as_said handler frame start) (sym it.3)
    (told_uncounted (both_replayed_by it.0) handler frame start
    (λ served. absurd (true≢false (sym served ∙ (same ∙ it.1))))
    (rw reply (written_cells (left_write (length start.segment) frame.arrival.place it.0.reply.bytes.now)
    (nothing_done start)))
    (uncounted_reply handler frame.arrival reply)
    (λ own asked. absurd (true≢false (sym asked ∙ ap is_asked reply))))

-- what C says of the request's handler is what it did
request_outcome : (it : OwnRuns) (frame : Frame) (start : Start) → frame.arrival.role ≡ role.Request
    → both_replayed it frame start ≡ outcome_of_run it.request frame (with_own_run start)
request_outcome it frame start request = ap (λ (which : Role). replayed_as which it frame start) request

counted_request : (handler : ℕ) (arrival : Arrival) → is_served handler ≡ false → arrival.role ≡ role.Request
    → arrival.number ≡ 0 → is_counted handler arrival ≡ true
counted_request handler arrival other request own = rw (other, own, request) refl

-- the request itself
told_request : (meaning : Meaning) (handler : ℕ) (frame : Frame) (start : Start) → IsRequestOfC handler meaning
    → frame.arrival.role ≡ role.Request → frame.arrival.number ≡ 0 → IsToldRun meaning handler frame start
told_request meaning handler frame start (inl is) request own =
    subst (λ (it : Meaning). IsToldRun it handler frame start) (sym is.1) (record {
      served = λ served. refl;
      cells = rw (served_uncounted handler frame.arrival is.0) (served_cells handler frame start);
      reply = λ _ _. served_alike handler frame start is.0;
    })
told_request meaning handler frame start (inr it) request own =
    let run = it.0.request in
    let counted_start = with_own_run start in
    let left = left_write (length start.segment) frame.arrival.place run.left.now in
    let did = leaving run.left.now frame counted_start in
    let outcome_is = request_outcome it.0 frame start request in
    subst (λ (as_said : Meaning). IsToldRun as_said handler frame start) (sym it.3) (record {
      served = λ served. absurd (true≢false (sym served ∙ it.1));
      cells = rw (counted_request handler frame.arrival it.1 request own)
          (ap (λ (outcome : Outcome). outcome.cells) outcome_is
          ∙ (answered_cells run.reply frame did ∙ written_cells left (nothing_done counted_start)));
      reply = λ _ _. subst (λ (outcome : Outcome). AnswersAlike handler outcome.reply) (sym outcome_is)
          (alike_answering handler run.reply frame did (it.2 ∙ sym it.1)
          (subst (AnswersAlike handler) (sym (written_reply left (nothing_done counted_start))) tt));
    })

-- ---- events

-- both runs of a request of the node to itself
own_told : (at : NodeBefore) (meaning : Meaning) (handler : ℕ) (content : Content) → content.handler ≡ handler
    → is_library handler ≡ false → IsRequestOfC handler meaning
    → AtOwnRuns (handlers_of at.settings at.table meaning) at.me content at.node.local.core (IsToldRun meaning)
own_told at meaning handler content is client said =
    let handlers = handlers_of at.settings at.table meaning in
    let out = run_request handlers (with_itself at.me) content at.node.local.core in
    let of_content = subst (λ (one : ℕ). IsRequestOfC one meaning) (sym is) said in
    let own_client : is_library content.handler ≡ false = ap is_library is ∙ client in
    let same : is_ack (code out.1.kind) ≡ false → is_served out.1.handler ≡ is_served content.handler
    = rw own_client (alike content.handler _
    ((told_request meaning content.handler
    (frame_of_run handlers role.Request (with_itself at.me) content)
    (start_from at.settings (with_writes at.node.local.core (landing content))) of_content refl refl).reply refl refl)) in (
      λ _. told_request meaning content.handler _ _ of_content refl refl,
      λ reply _. told_reply meaning out.1.handler content.handler _ _ of_content (same reply) refl,
    )

event_told : (at : NodeBefore) (meaning : Meaning) (event : RecordEvent) → IsOfC event meaning
    → AtRuns at meaning event (IsToldRun meaning)
event_told at meaning (Asks ask) said = λ ran.
    own_told at meaning ask.what.handler
    (request_content (site_of (job_of at.settings at.table meaning) at.me) at.node ask)
    (said_handler ask.what.category ask.what _) said.0 said.1
event_told at meaning (Does thread call) said = tt
event_told at meaning (Comes message) said = (
  λ is _. told_delivery meaning message.handler _ _ said (numbered_run at meaning message is),
  λ is _ _. told_delivery meaning message.handler _ _ said (numbered_return at meaning message is),
)
event_told at meaning Ticks said = tt

fall_told : (settings : Parameters) (table : List (Option Entry)) (world : Records) (meaning : Meaning)
    (at : Option (Fall OtherCall)) → IsOfCAt meaning at → IsToldAt settings table world meaning at
fall_told settings table world meaning None said = tt
fall_told settings table world meaning (Some fall) said = (
  is_call fall.event said,
  event_told (record { settings = settings; table = table; me = fall.node; node = world fall.node }) meaning fall.event
      said,
)
  where
    is_call : (event : RecordEvent) → IsOfC event meaning → IsCall event
    is_call (Asks ask) said = said.0
    is_call (Does thread call) said = said.0
    is_call (Comes message) said = tt
    is_call Ticks said = tt

all_told : (settings : Parameters) (table : List (Option Entry)) (world : Records) (steps : List MeantEvent)
    → AreOfC settings table world steps → AreTold settings table world steps
all_told settings table world [] said = tt
all_told settings table world (step ∷ later) said = (
  fall_told settings table world step.meaning (falls settings world step.timed.event) said.0,
  all_told settings table (after_meant settings table world step) later said.1,
)

-- ---- what is said is lawful

asked_lawful : (held : Option EndpointState) (reply : Reply) → IsLawfulMeaning (asked_in held reply)
asked_lawful None reply = λ handler frame start. asking_lawful reply frame start
asked_lawful (Some endpoint) reply =
    lawful_keeping endpoint.core.segment (λ handler frame start. asking reply frame start)
    (λ handler frame start. asking_lawful reply frame start)

request_lawful : (handler : ℕ) (meaning : Meaning) → IsRequestOfC handler meaning → IsLawfulMeaning meaning
request_lawful handler meaning (inl is) = subst IsLawfulMeaning (sym is.1) serving_lawful
request_lawful handler meaning (inr it) =
    subst IsLawfulMeaning (sym it.3) (λ handler frame start. both_lawful it.0 frame start)

delivery_lawful : (handler : ℕ) (meaning : Meaning) → IsDeliveryOfC handler meaning → IsLawfulMeaning meaning
delivery_lawful handler meaning (inl is) = subst IsLawfulMeaning (sym is) serving_lawful
delivery_lawful handler meaning (inr it) = subst IsLawfulMeaning (sym it.3) (asked_lawful it.0 it.1)

event_lawful : (event : RecordEvent) (meaning : Meaning) → IsOfC event meaning → IsLawfulMeaning meaning
event_lawful (Asks ask) meaning said = request_lawful ask.what.handler meaning said.1
event_lawful (Does thread call) meaning said = subst IsLawfulMeaning (sym said.1) serving_lawful
event_lawful (Comes message) meaning said = delivery_lawful message.handler meaning said
event_lawful Ticks meaning said = subst IsLawfulMeaning (sym said) serving_lawful

fall_lawful : (meaning : Meaning) (at : Option (Fall OtherCall)) → IsOfCAt meaning at → IsLawfulMeaning meaning
fall_lawful meaning None said = subst IsLawfulMeaning (sym said) serving_lawful
fall_lawful meaning (Some fall) said = event_lawful fall.event meaning said

all_lawful : (settings : Parameters) (table : List (Option Entry)) (world : Records) (steps : List MeantEvent)
    → AreOfC settings table world steps → AreLawful steps
all_lawful settings table world [] said = tt
all_lawful settings table world (step ∷ later) said = (
  fall_lawful step.meaning (falls settings world step.timed.event) said.0,
  all_lawful settings table (after_meant settings table world step) later said.1,
)

pub c_of_one_meaning : COfOneMeaning
c_of_one_meaning settings table steps few said =
    let world = at_the_opening settings in
    have_one_meaning settings table steps few (all_lawful settings table world steps said)
    (all_told settings table world steps said)
