-- One meaning of all events, where what their handlers did is told event by event.
use Rattle.std.proofs.Common.{◌≡◌, inl, inr, ℕ, ◌+◌, ◌<◌, ◌≤◌, ◌^◌, Bool, true, false}
use Rattle.std.proofs.Common.{true≢false, not, if◌then◌else◌, List, [], ◌∷◌, length, Option, None, Some, refl, sym, ap}
use Rattle.std.proofs.Common.{◌∙◌, subst, arith, ne_eqb}
use Rattle.std.specs.Prelude.{nat_le}
use Rattle.std.proofs.lemmas.Bool.{cases_Bool, cases_eq, lt-ltb, le-ltb, le-leb, lt-leb}
use Rattle.wire_message.specs.Parameters.{Parameters}
use Rattle.wire_message.specs.Message.{Message}
use Rattle.wire_message.specs.Content.{Content, code, is_ack, content_of}
use Rattle.base_lists.specs.Numbered.{element_at, change}
use Rattle.base_lists.specs.Put.{put}
use Rattle.base_lists.proofs.Numbered.{numbered-change_here}
use Rattle.base_lists.proofs.Put.{put_same, put_other}
use Rattle.part_handlers.specs.declared.table.Entry.{Entry}
use Rattle.part_handlers.specs.declared.rules.Role.TheVariants as role
use Rattle.part_handlers.specs.Runs.{Frame, Start, Outcome, Meaning, IsLawfulMeaning, IsLawfulRun}
use Rattle.part_handlers.proofs.Lawful.{lawful-untouched}
use Rattle.spec_node.specs.declared.answer.Asked.{Asked}
use Rattle.spec_node.specs.Record.{Node, Request, Run}
use Rattle.spec_node.specs.Requests.{as_back}
use Rattle.spec_node.specs.Executed.{greatest}
use Rattle.spec_node.specs.Step.{with_itself, with_sender, request_content, verdict, Verdict, Runs}
use Rattle.spec_node.specs.Step.{Returns, after_request, after_delivery, with_local, ran_here}
use Rattle.spec_node.specs.NodeStep.{Asks, Does, Comes, Ticks, site_of}
use Rattle.spec_node.specs.NodeStep.{node_after}
use Rattle.spec_node.proofs.Answers.{runs_says, returns_says}
use Rattle.spec_network.specs.Plain.{is_back}
use Rattle.spec_network.specs.World.{Fall, OfNode, falls, after_at, answer_at}
use Rattle.node_core.specs.Library.{is_library}
use Rattle.node_core.specs.HandlerRuns.{handlers_of, run_request}
use Rattle.node_core.specs.HandlerRuns.{reply_or_ack}
use Rattle.node_rules.specs.EndpointLocal.{EndpointLocal}
use Rattle.node_rules.specs.EndpointRules.{OtherCall, RecordEvent, Records, at_the_opening, job_of, endpoint_rules}
use Rattle.gasnet_c.specs.OwnHandlers.{serving}
use Rattle.gasnet_c.specs.Replayed.{own_count}
use Rattle.gasnet_c.specs.ServingLawful.{serving_lawful}
use Rattle.gasnet_c.specs.Meanings.{AtRun, AtReply, AtOwnRuns, NodeBefore, AtRuns, is_served, AnswersAlike}
use Rattle.gasnet_c.specs.Meanings.{IsToldRun, IsCall, MeantEvent, IsToldAt, after_meant, AreTold, AreLawful, AreTheSame}
use Rattle.gasnet_c.specs.Meanings.{HaveOneMeaning, is_over, first_over, one_meaning}
use Rattle.gasnet_c.proofs.EventsAlike.{Agree, event_same, answer_same}
use Rattle.gasnet_c.proofs.Growing.{Grows, Room, event_grows, stays_over, same_node, own_counts, reply_cells, greatest_own}
use Rattle.gasnet_c.proofs.Growing.{open_some, numbered_run, numbered_return, said_handler}

-- ---- the runs of an event weren't over, and are

-- so it is of a run, at a node that this record leaves
record IsFresh (at : NodeBefore) (new : Node EndpointLocal) (handler : ℕ) (frame : Frame) (start : Start) : Type 0 where
  here : frame.arrival.me ≡ at.me
  before : is_served handler ≡ false → is_over at.node frame start ≡ false
  after : is_served handler ≡ false → is_over new frame start ≡ true

-- a reply that is no Ack goes to a handler of the library's own exactly where the request did
pub alike : (handler : ℕ) (reply : Option Content) → AnswersAlike handler reply
    → is_ack (code (reply_or_ack reply).kind) ≡ false
    → is_served (reply_or_ack reply).handler ≡ is_served handler
alike handler None same other = absurd (true≢false other)
alike handler (Some content) same other = same

own_fresh : (at : NodeBefore) (meaning : Meaning) (content : Content)
    → AtOwnRuns (handlers_of at.settings at.table meaning) at.me content at.node.local.core (IsToldRun meaning)
    → is_library content.handler ≡ false → Room at.node.local.core.cells
    → AtOwnRuns (handlers_of at.settings at.table meaning) at.me content at.node.local.core
    (IsFresh at
    (with_local at.node (ran_here (endpoint_rules at.settings at.table meaning) at.me content at.node.local)))
own_fresh at meaning content told client few =
    let handlers = handlers_of at.settings at.table meaning in
    let core = at.node.local.core in
    let out = run_request handlers (with_itself at.me) content core in
    let last = ap own_count (reply_cells handlers (with_itself at.me) out.1 out.0 told.1) in
    let same : (reply : Bool) → is_ack (code out.1.kind) ≡ false → is_served out.1.handler ≡ is_served content.handler
    = λ reply. rw client (alike content.handler _ ((told.0 client).reply refl refl)) in (
      λ _. record {
        here = refl;
        before = λ own. le-ltb (own_count core.cells) (own_count core.cells) (omega arith);
        after = λ own. (let first = own_counts handlers at.me content core told.0 client own few in
            lt-ltb (own_count core.cells) _ (omega (arith, first, last)));
      },
      λ reply _. record {
        here = refl;
        before = λ own. (let first = own_counts handlers at.me content core told.0 client
            (sym (same true reply) ∙ own) few in
            lt-leb (own_count out.0.cells) (own_count core.cells) (omega (arith, first)));
        after = λ own. le-leb (own_count out.0.cells) _ (omega (arith, last));
      },
    )

run_fresh : (at : NodeBefore) (meaning : Meaning) (message : Message)
    → verdict (site_of (job_of at.settings at.table meaning) at.me) at.node message ≡ Runs
    → AtRun (handlers_of at.settings at.table meaning) role.Request (with_sender at.me message) (content_of message)
    at.node.local.core
    (IsFresh at (after_delivery (site_of (job_of at.settings at.table meaning) at.me) at.node message Runs))
run_fresh at meaning message is client =
    let says = runs_says (site_of (job_of at.settings at.table meaning) at.me) at.node message is in
    let other = numbered_run at meaning message is in
    record {
      here = refl;
      before = λ own. rw (ne_eqb message.number 0 other) (lt-leb message.number _ says.above);
      after = λ own. rw (ne_eqb message.number 0 other)
          (ap (λ (runs : List Run). nat_le message.number (greatest message.slot runs))
          (put_same at.node.ran message.from _)
          ∙ le-leb message.number _ (greatest_own (at.node.ran message.from) _));
    }

return_fresh : (at : NodeBefore) (meaning : Meaning) (message : Message)
    → verdict (site_of (job_of at.settings at.table meaning) at.me) at.node message ≡ Returns
    → AtReply (handlers_of at.settings at.table meaning) (with_sender at.me message) (content_of message)
    at.node.local.core
    (IsFresh at (after_delivery (site_of (job_of at.settings at.table meaning) at.me) at.node message Returns))
return_fresh at meaning message is reply client =
    let says = returns_says (site_of (job_of at.settings at.table meaning) at.me) at.node message is in
    let other = numbered_return at meaning message is in
    let requests = at.node.asked message.from in
    let it = open_some message.slot (element_at requests message.number) says.open_ in
    record {
      here = refl;
      before = λ own. rw (ne_eqb message.number 0 other) (ap is_back it.1 ∙ it.2);
      after = λ own. rw (ne_eqb message.number 0 other)
          (ap (λ (all : List Request). is_back (element_at all message.number))
          (put_same at.node.asked message.from (change as_back requests message.number))
          ∙ ap is_back (numbered-change_here as_back requests message.number it.0 it.1));
    }

event_fresh : (at : NodeBefore) (meaning : Meaning) (now : ℕ) (event : RecordEvent) → IsCall event
    → AtRuns at meaning event (IsToldRun meaning) → Room at.node.local.core.cells
    → AtRuns at meaning event
    (IsFresh at (node_after (job_of at.settings at.table meaning) at.me at.node now event))
event_fresh at meaning now (Asks ask) call told few = λ ran.
    subst (λ (answer : Asked). AtOwnRuns (handlers_of at.settings at.table meaning) at.me
    (request_content (site_of (job_of at.settings at.table meaning) at.me) at.node ask) at.node.local.core
    (IsFresh at (after_request (site_of (job_of at.settings at.table meaning) at.me) at.node now ask answer)))
    (sym ran)
    (own_fresh at meaning (request_content (site_of (job_of at.settings at.table meaning) at.me) at.node ask)
    (told ran) (ap is_library (said_handler ask.what.category ask.what _) ∙ call) few)
event_fresh at meaning now (Does thread call) untouched told few = tt
event_fresh at meaning now (Comes message) call told few = (
  λ is. subst (λ (what : Verdict).
      AtRun (handlers_of at.settings at.table meaning) role.Request (with_sender at.me message) (content_of message)
      at.node.local.core
      (IsFresh at (after_delivery (site_of (job_of at.settings at.table meaning) at.me) at.node message what)))
      (sym is) (run_fresh at meaning message is),
  λ is. subst (λ (what : Verdict).
      AtReply (handlers_of at.settings at.table meaning) (with_sender at.me message) (content_of message)
      at.node.local.core
      (IsFresh at (after_delivery (site_of (job_of at.settings at.table meaning) at.me) at.node message what)))
      (sym is) (return_fresh at meaning message is),
)
event_fresh at meaning now Ticks call told few = tt

-- ---- the runs of an event, one by one

runs_both : (at : NodeBefore) (meaning : Meaning) (event : RecordEvent)
    (First Second Third : (handler : ℕ) → Frame → Start → Type 0)
    → ((handler : ℕ) (frame : Frame) (start : Start)
    → First handler frame start → Second handler frame start → Third handler frame start)
    → AtRuns at meaning event First → AtRuns at meaning event Second → AtRuns at meaning event Third
runs_both at meaning (Asks ask) First Second Third go one two = λ ran. (
  λ client. go _ _ _ ((one ran).0 client) ((two ran).0 client),
  λ reply client. go _ _ _ ((one ran).1 reply client) ((two ran).1 reply client),
)
runs_both at meaning (Does thread call) First Second Third go one two = tt
runs_both at meaning (Comes message) First Second Third go one two = (
  λ is client. go _ _ _ (one.0 is client) (two.0 is client),
  λ is reply client. go _ _ _ (one.1 is reply client) (two.1 is reply client),
)
runs_both at meaning Ticks First Second Third go one two = tt

-- ---- all events

abbrev Serves : Meaning → Type 0
Serves meaning = (handler : ℕ) (frame : Frame) (start : Start)
    → is_served handler ≡ true → meaning handler frame start ≡ serving handler frame start

-- from this world on the meaning is what these events say
abbrev Follows : Parameters → List (Option Entry) → Meaning → Records → List MeantEvent → Type 0
Follows settings table meaning world steps = (handler : ℕ) (frame : Frame) (start : Start)
    → is_served handler ≡ false → is_over (world frame.arrival.me) frame start ≡ false
    → meaning handler frame start ≡ first_over settings table world steps handler frame start

-- what isn't over later wasn't before
not_before : (frame : Frame) (start : Start) (old new : Node EndpointLocal) → Grows old new
    → is_over new frame start ≡ false → is_over old frame start ≡ false
not_before frame start old new grows is = elim (cases_Bool (is_over old frame start)) [
  | inl over ↦ absurd (true≢false (sym (stays_over frame start old new grows over) ∙ is))
  | inr not ↦ not
]

world_grows : (settings : Parameters) (table : List (Option Entry)) (world : Records) (step : MeantEvent)
    (at : Option (Fall OtherCall)) → IsToldAt settings table world step.meaning at
    → ((node : ℕ) → Room (world node).local.core.cells)
    → (node : ℕ) → Grows (world node) (after_at (job_of settings table step.meaning) world step.timed.now at node)
world_grows settings table world step None told few node = same_node (world node)
world_grows settings table world step (Some fall) told few node = elim (cases_eq node fall.node) [
  | inl same ↦ subst
      (λ (here : ℕ). Grows (world here)
      (after_at (job_of settings table step.meaning) world step.timed.now (Some fall) here)) (sym same)
      (subst (Grows (world fall.node)) (sym (put_same world fall.node _))
      (event_grows (before settings table world fall) step.meaning step.timed.now fall.event told.0 told.1
      (few fall.node)))
  | inr apart ↦ subst (Grows (world node)) (sym (put_other world fall.node _ node apart)) (same_node (world node))
]
  where
    before : Parameters → List (Option Entry) → Records → Fall OtherCall → NodeBefore
    before settings table world fall =
        record { settings = settings; table = table; me = fall.node; node = world fall.node }

-- an event is the same by a meaning that says what it does
fall_same : (settings : Parameters) (table : List (Option Entry)) (meaning : Meaning) (world : Records)
    (step : MeantEvent) (later : List MeantEvent) (at : Option (Fall OtherCall))
    → at ≡ falls settings world step.timed.event
    → IsToldAt settings table world step.meaning at
    → ((node : ℕ) → Room (world node).local.core.cells)
    → Serves meaning → Follows settings table meaning world (step ∷ later)
    → (after_at (job_of settings table meaning) world step.timed.now at
    ≡ after_at (job_of settings table step.meaning) world step.timed.now at)
    × (answer_at (job_of settings table meaning) world step.timed.now at
    ≡ answer_at (job_of settings table step.meaning) world step.timed.now at)
fall_same settings table meaning world step later None at_is told few serves follows = (refl, refl)
fall_same settings table meaning world step later (Some fall) at_is told few serves follows =
    let at : NodeBefore = record { settings = settings; table = table; me = fall.node; node = world fall.node } in
    let now = step.timed.now in
    let after : Node EndpointLocal = node_after (job_of settings table step.meaning) fall.node (world fall.node) now fall.event in
    let leaves : after_meant settings table world step fall.node ≡ after
    = ap (λ (it : Option (Fall OtherCall)). after_at (job_of settings table step.meaning) world now it fall.node)
    (sym at_is) ∙ put_same world fall.node after in
    let agrees = runs_both at step.meaning fall.event (IsToldRun step.meaning) (IsFresh at after)
    (Agree meaning step.meaning)
    (λ handler frame start told_run fresh. elim (cases_Bool (is_served handler)) [
      | inl served ↦ serves handler frame start served ∙ sym (told_run.served served)
      | inr own ↦ follows handler frame start own
          (ap (λ (node : ℕ). is_over (world node) frame start) fresh.here ∙ fresh.before own)
          ∙ ap (λ (over : Bool). if over then step.meaning handler frame start
          else first_over settings table (after_meant settings table world step) later handler frame start)
          (ap (λ (node : ℕ). is_over (after_meant settings table world step node) frame start) fresh.here
          ∙ (ap (λ (node : Node EndpointLocal). is_over node frame start) leaves ∙ fresh.after own))
    ]) told.1 (event_fresh at step.meaning now fall.event told.0 told.1 (few fall.node)) in (
      ap (put world fall.node) (event_same at meaning step.meaning now fall.event agrees),
      ap OfNode (answer_same at meaning step.meaning now fall.event),
    )

-- so it is of all events
all_same : (settings : Parameters) (table : List (Option Entry)) (meaning : Meaning) (steps : List MeantEvent)
    (world : Records) → Serves meaning → Follows settings table meaning world steps
    → ((node : ℕ) → own_count (world node).local.core.cells + length steps < 2 ^ 64)
    → ((node : ℕ) → 2 ≤ length (world node).local.core.cells)
    → AreTold settings table world steps → AreTheSame settings table meaning world steps
all_same settings table meaning [] world serves follows few long told = tt
all_same settings table meaning (step ∷ later) world serves follows few long told =
    let at = falls settings world step.timed.event in
    let one : (node : ℕ) → Room (world node).local.core.cells
    = λ node. (let all = few node in (omega (arith, all), long node)) in
    let same = fall_same settings table meaning world step later at refl told.0 one serves follows in
    let grows = world_grows settings table world step at told.0 one in
    let new = after_meant settings table world step in (
      same.0,
      same.1,
      all_same settings table meaning later new serves
          (λ handler frame start own is.
          follows handler frame start own
          (not_before frame start (world frame.arrival.me) (new frame.arrival.me) (grows frame.arrival.me) is)
          ∙ ap (λ (over : Bool). if over then step.meaning handler frame start
          else first_over settings table new later handler frame start) is)
          (λ node. (let all = few node in let most = (grows node).most in omega (arith, all, most)))
          (λ node. (grows node).long (long node))
          told.1,
    )

-- ---- the meaning that is made

lawful_if : {frame : Frame} {start : Start} {one other : Outcome} (test : Bool) → IsLawfulRun frame start one
    → IsLawfulRun frame start other → IsLawfulRun frame start (if test then one else other)
lawful_if true one other = one
lawful_if false one other = other

first_lawful : (settings : Parameters) (table : List (Option Entry)) (world : Records) (steps : List MeantEvent)
    → AreLawful steps → IsLawfulMeaning (first_over settings table world steps)
first_lawful settings table world [] lawful handler frame start = lawful-untouched frame start
first_lawful settings table world (step ∷ later) lawful handler frame start =
    let new = after_meant settings table world step in
    lawful_if (is_over (new frame.arrival.me) frame start) (lawful.0 handler frame start)
    (first_lawful settings table new later lawful.1 handler frame start)

pub have_one_meaning : HaveOneMeaning
have_one_meaning settings table steps few lawful told =
    let world = at_the_opening settings in
    let serves : Serves (one_meaning settings table world steps) = λ handler frame start served. rw served refl in
    record {
      meaning = one_meaning settings table world steps;
      lawful = λ handler frame start.
          lawful_if (is_served handler) (serving_lawful handler frame start)
          (first_lawful settings table world steps lawful handler frame start);
      serves = serves;
      same = all_same settings table (one_meaning settings table world steps) steps world serves
          (λ handler frame start own is. rw own refl)
          (λ node. omega (arith, few)) (λ node. omega arith) told;
    }
