-- What an event leaves of the count, of what ran and of what is back: nothing that is over begins again.
use Rattle.std.proofs.Common.{◌≡◌, ◌≢◌, inl, inr, ℕ, suc, ◌+◌, ◌<◌, ◌≤◌, ◌%◌, ◌^◌, max, true, false}
use Rattle.std.proofs.Common.{true≢false, not, List, [], ◌∷◌, ◌++◌, length, Option, None, Some, refl, sym, ap}
use Rattle.std.proofs.Common.{◌∙◌, subst, arith, eqb, eq-eqb, ne_eqb}
use Rattle.std.specs.Prelude.{ℤ}
use Rattle.std.proofs.lemmas.Bool.{cases_Bool, cases_eq, ltb-true, lt-ltb, leb-true, le-leb}
use Rattle.std.proofs.lemmas.Bool.{not-true, and_parts}
use Rattle.wire_message.specs.Parameters.{Parameters}
use Rattle.wire_message.specs.Message.{Message}
use Rattle.wire_message.specs.Content.{Content, code, is_ack, content_of}
use Rattle.base_lists.specs.Numbered.{element_at, change}
use Rattle.base_lists.specs.Put.{put}
use Rattle.base_lists.proofs.Numbered.{numbered_in, numbered_kept, numbered-changed}
use Rattle.base_lists.proofs.Put.{put_same, put_other}
use Rattle.part_handlers.specs.declared.rules.Role.{Role}
use Rattle.part_handlers.specs.declared.rules.Role.TheVariants as role
use Rattle.part_handlers.specs.Runs.{Arrival, Frame, Start, Meaning}
use Rattle.spec_node.specs.declared.answer.Asked.{Asked}
use Rattle.spec_node.specs.declared.answer.Asked.TheVariants as asked
use Rattle.spec_node.specs.Record.{Node, Request, Run}
use Rattle.spec_node.specs.Requests.{is_open, as_back, sent_at}
use Rattle.spec_node.specs.Executed.{greatest}
use Rattle.spec_node.specs.Behaviour.{Ask, Asking, Category, Short, Medium, Long, Contact}
use Rattle.spec_node.specs.Step.{with_itself, with_sender, request_answer, request_content, verdict, Verdict, Runs}
use Rattle.spec_node.specs.Step.{Returns, after_request, after_delivery, with_local, ran_here}
use Rattle.spec_node.specs.Step.{TickChoice, Retransmits, Sends, Rests, after_tick, tick_choice}
use Rattle.spec_node.specs.NodeStep.{Asks, Does, Comes, Ticks, site_of}
use Rattle.spec_node.specs.NodeStep.{node_after}
use Rattle.spec_node.proofs.Answers.{runs_says, returns_says}
use Rattle.spec_node.proofs.Runs.{greatest_push}
use Rattle.spec_network.specs.Plain.{is_back}
use Rattle.node_core.specs.Kept.{Local, start_from, with_writes}
use Rattle.node_core.specs.Library.{is_library}
use Rattle.node_core.specs.HandlerRuns.{NodeHandlers, handlers_of, landing, run_request, run_reply, outcome}
use Rattle.node_core.specs.HandlerRuns.{arrival_in}
use Rattle.node_core.specs.ClientRules.{content_by}
use Rattle.node_core.specs.Library.{notification_handler}
use Rattle.spec_node.specs.Step.{with_asked, is_exhausted}
use Rattle.node_rules.specs.TransferCalls.{Caller}
use Rattle.node_rules.specs.EndpointRules.{after_sent}
use Rattle.node_rules.proofs.Frames.{call_framed}
use Rattle.node_rules.specs.EndpointLocal.{EndpointLocal}
use Rattle.node_rules.specs.EndpointRules.{RecordEvent, job_of, endpoint_rules}
use Rattle.wire_message.proofs.Notified.{joined_again}
use Rattle.gasnet_c.specs.Replayed.{own_count, with_count, with_one_more}
use Rattle.gasnet_c.specs.Meanings.{AtRun, AtReply, AtOwnRuns, NodeBefore, AtRuns, is_served, is_counted}
use Rattle.gasnet_c.specs.Meanings.{IsToldRun, IsCall}
use Rattle.gasnet_c.specs.Meanings.{own_is_over, came_is_over, is_over}

-- ---- what an event leaves

-- nothing that is over begins again, and at most one request more is counted
pub record Grows (old new : Node EndpointLocal) : Type 0 where
  pub least : own_count old.local.core.cells ≤ own_count new.local.core.cells
  pub most : own_count new.local.core.cells ≤ suc (own_count old.local.core.cells)
  pub ran : (peer slot : ℕ) → greatest slot (old.ran peer) ≤ greatest slot (new.ran peer)
  pub back : (peer number : ℕ) → is_back (element_at (old.asked peer) number) ≡ true
      → is_back (element_at (new.asked peer) number) ≡ true
  pub long : 2 ≤ length old.local.core.cells → 2 ≤ length new.local.core.cells

grows_count : (node : Node EndpointLocal) (local : EndpointLocal)
    → own_count node.local.core.cells ≤ own_count local.core.cells
    → own_count local.core.cells ≤ suc (own_count node.local.core.cells)
    → (2 ≤ length node.local.core.cells → 2 ≤ length local.core.cells) → Grows node (with_local node local)
grows_count node local least most long = record {
  least = least;
  most = most;
  ran = λ peer slot. omega arith;
  back = λ peer number is. is;
  long = long;
}

still_long : (old new : List ℤ) → new ≡ old → 2 ≤ length old → 2 ≤ length new
still_long old new same long = subst (λ (cells : List ℤ). 2 ≤ length cells) (sym same) long

grows_cells : (node : Node EndpointLocal) (local : EndpointLocal) → local.core.cells ≡ node.local.core.cells
    → Grows node (with_local node local)
grows_cells node local same =
    let counts = ap own_count same in
    grows_count node local (omega (arith, counts)) (omega (arith, counts)) (still_long _ local.core.cells same)

-- what holds at a place, and of what it gets, holds after it
put_keeps : {X : Type 0} (P : X → Type 0) (f : ℕ → X) (place : ℕ) (x : X) (other : ℕ) → (P (f place) → P x)
    → P (f other) → P (put f place x other)
put_keeps P f place x other go is = elim (cases_eq other place) [
  | inl same ↦ subst (λ at. P (put f place x at)) (sym same)
      (subst P (sym (put_same f place x)) (go (subst (λ at. P (f at)) same is)))
  | inr apart ↦ subst P (sym (put_other f place x other apart)) is
]

-- a request that is back is there
back_some : (request : Option Request) → is_back request ≡ true
    → (it : Request) × (request ≡ Some it) × (it.back ≡ true)
back_some None is = absurd (true≢false (sym is))
back_some (Some it) is = (it, refl, is)

-- one request more
push_back : (requests : List Request) (request : Request) (number : ℕ)
    → is_back (element_at requests number) ≡ true → is_back (element_at (requests ++ request ∷ []) number) ≡ true
push_back requests request number is =
    let it = back_some (element_at requests number) is in
    ap is_back (numbered_kept requests request number it.0 it.1) ∙ it.2

-- a request that changed, and is back if it was
change_back : (f : Request → Request) (requests : List Request) (at number : ℕ)
    → ((request : Request) → request.back ≡ true → (f request).back ≡ true)
    → is_back (element_at requests number) ≡ true → is_back (element_at (change f requests at) number) ≡ true
change_back f requests at number keeps is =
    let it = back_some (element_at requests number) is in
    let found = numbered-changed f requests at number it.0 it.1 in
    ap is_back found.1 ∙ elim found.2 [
      | inl same ↦ ap (λ (r : Request). r.back) same ∙ it.2
      | inr new ↦ ap (λ (r : Request). r.back) new ∙ keeps it.0 it.2
    ]

greatest_more : (slot : ℕ) (runs : List Run) (run : Run) → greatest slot runs ≤ greatest slot (runs ++ run ∷ [])
greatest_more slot runs run = elim (cases_Bool (eqb run.slot slot)) [
  | inl here ↦ (let is : greatest slot (runs ++ run ∷ []) ≡ max run.number (greatest slot runs)
      = greatest_push slot runs run ∙ rw here refl in omega (arith, is))
  | inr apart ↦ (let is : greatest slot (runs ++ run ∷ []) ≡ greatest slot runs
      = greatest_push slot runs run ∙ rw apart refl in omega (arith, is))
]

-- the run itself is among them
pub greatest_own : (runs : List Run) (run : Run) → run.number ≤ greatest run.slot (runs ++ run ∷ [])
greatest_own runs run =
    let is : greatest run.slot (runs ++ run ∷ []) ≡ max run.number (greatest run.slot runs)
    = greatest_push run.slot runs run ∙ rw (eq-eqb run.slot run.slot refl) refl in
    omega (arith, is)

-- what is over stays over
own_stays : (which : Role) (found old new : ℕ) → old ≤ new → own_is_over which found old ≡ true
    → own_is_over which found new ≡ true
own_stays role.Request found old new most is =
    let below = ltb-true found old is in lt-ltb found new (omega (arith, most, below))
own_stays role.Reply found old new most is =
    let below = leb-true found old is in le-leb found new (omega (arith, most, below))

came_stays : (which : Role) (arrival : Arrival) (old new : Node EndpointLocal) → Grows old new
    → came_is_over which old arrival ≡ true → came_is_over which new arrival ≡ true
came_stays role.Request arrival old new grows is =
    let below = leb-true arrival.number _ is in
    let more = grows.ran arrival.source arrival.slot in
    le-leb arrival.number _ (omega (arith, below, more))
came_stays role.Reply arrival old new grows is = grows.back arrival.source arrival.number is

pub stays_over : (frame : Frame) (start : Start) (old new : Node EndpointLocal) → Grows old new
    → is_over old frame start ≡ true → is_over new frame start ≡ true
stays_over frame start old new grows is = elim (cases_Bool (eqb frame.arrival.number 0)) [
  | inl own ↦ rw own (own_stays frame.arrival.role _ _ _ grows.least (rw own at is))
  | inr other ↦ rw other (came_stays frame.arrival.role frame.arrival old new grows (rw other at is))
]

-- ---- what runs count

-- a message of another node isn't counted, nor is a reply
pub uncounted_other : (handler : ℕ) (arrival : Arrival) → arrival.number ≢ 0 → is_counted handler arrival ≡ false
uncounted_other handler arrival other = elim (cases_Bool (is_served handler)) [
  | inl served ↦ rw served refl
  | inr own ↦ rw (own, ne_eqb arrival.number 0 other) refl
]

pub uncounted_reply : (handler : ℕ) (arrival : Arrival) → arrival.role ≡ role.Reply → is_counted handler arrival ≡ false
uncounted_reply handler arrival reply = elim (cases_Bool (is_served handler)) [
  | inl served ↦ rw served refl
  | inr own ↦ elim (cases_Bool (eqb arrival.number 0)) [
    | inl here ↦ rw (own, here, reply) refl
    | inr other ↦ rw (own, other) refl
  ]
]

-- a run that isn't counted keeps the cells
kept_cells : (handlers : NodeHandlers) (which : Role) (contact : Contact) (content : Content) (local : Local)
    → AtRun handlers which contact content local (IsToldRun handlers.meaning)
    → is_counted content.handler (arrival_in which contact content) ≡ false
    → (outcome handlers which contact content
    (start_from handlers.settings (with_writes local (landing content)))).cells
    ≡ local.cells
kept_cells handlers which contact content local told uncounted =
    elim (cases_Bool (is_library content.handler)) [
      | inl own ↦ rw own refl
      | inr client ↦ rw client ((told client).cells ∙ rw uncounted refl)
    ]

-- so does a reply
pub reply_cells : (handlers : NodeHandlers) (contact : Contact) (content : Content) (local : Local)
    → AtReply handlers contact content local (IsToldRun handlers.meaning)
    → (run_reply handlers contact content local).cells ≡ local.cells
reply_cells handlers contact content local told = elim (cases_Bool (is_ack (code content.kind))) [
  | inl ack ↦ rw ack refl
  | inr reply ↦ rw reply (kept_cells handlers role.Reply contact content local (told reply)
      (uncounted_reply content.handler (arrival_in role.Reply contact content) refl))
]

-- a request of the node to itself that the library serves isn't counted
served_cells : (handlers : NodeHandlers) (me : ℕ) (content : Content) (local : Local)
    → AtRun handlers role.Request (with_itself me) content local (IsToldRun handlers.meaning)
    → is_library content.handler ≡ false → is_served content.handler ≡ true
    → (run_request handlers (with_itself me) content local).0.cells ≡ local.cells
served_cells handlers me content local told client served =
    rw client ((told client).cells ∙ rw served refl)

-- and one that C's handler runs is
own_cells : (handlers : NodeHandlers) (me : ℕ) (content : Content) (local : Local)
    → AtRun handlers role.Request (with_itself me) content local (IsToldRun handlers.meaning)
    → is_library content.handler ≡ false → is_served content.handler ≡ false
    → (run_request handlers (with_itself me) content local).0.cells ≡ with_one_more local.cells
own_cells handlers me content local told client own = rw client ((told client).cells ∙ rw own refl)

-- the count is the number that was put into the cells
counted_is : (count : ℕ) (cells : List ℤ) → 2 ≤ length cells → count < 2 ^ 64
    → own_count (with_count count cells) ≡ count
counted_is count [] long few = absurd (omega (arith, long))
counted_is count (one ∷ []) long few = absurd (omega (arith, long))
counted_is count (one ∷ two ∷ cells) long few = joined_again count few

small_mod : (count : ℕ) → suc count < 2 ^ 64 → (count + 1) % 2 ^ 64 ≡ suc count
small_mod count few = omega (arith, few)

-- there is room for one more
abbrev pub Room : List ℤ → Type 0
Room cells = (suc (own_count cells) < 2 ^ 64) × (2 ≤ length cells)

one_more : (cells : List ℤ) → Room cells → own_count (with_one_more cells) ≡ suc (own_count cells)
one_more cells room =
    counted_is ((own_count cells + 1) % 2 ^ 64) cells room.1 (omega arith) ∙ small_mod (own_count cells) room.0

more_long : (cells : List ℤ) → 2 ≤ length cells → 2 ≤ length (with_one_more cells)
more_long [] long = absurd (omega (arith, long))
more_long (one ∷ []) long = absurd (omega (arith, long))
more_long (one ∷ two ∷ cells) long = omega arith

pub own_counts : (handlers : NodeHandlers) (me : ℕ) (content : Content) (local : Local)
    → AtRun handlers role.Request (with_itself me) content local (IsToldRun handlers.meaning)
    → is_library content.handler ≡ false → is_served content.handler ≡ false → Room local.cells
    → own_count (run_request handlers (with_itself me) content local).0.cells ≡ suc (own_count local.cells)
own_counts handlers me content local told client own room =
    ap own_count (own_cells handlers me content local told client own) ∙ one_more local.cells room

-- ---- events

pub same_node : (node : Node EndpointLocal) → Grows node node
same_node node = record {
  least = omega arith;
  most = omega arith;
  ran = λ peer slot. omega arith;
  back = λ peer number is. is;
  long = λ long. long;
}

-- the handler of a request is the one that it asks for
pub said_handler : (category : Category) (asking : Asking) (payload : List ℕ)
    → (content_by category asking payload).handler ≡ asking.handler
said_handler Short asking payload = refl
said_handler Medium asking payload = refl
said_handler Long asking payload = refl

-- what a request of the node to itself counts: at most one
own_grows : (at : NodeBefore) (meaning : Meaning) (content : Content)
    → AtOwnRuns (handlers_of at.settings at.table meaning) at.me content at.node.local.core (IsToldRun meaning)
    → is_library content.handler ≡ false → Room at.node.local.core.cells
    → Grows at.node
    (with_local at.node (ran_here (endpoint_rules at.settings at.table meaning) at.me content at.node.local))
own_grows at meaning content told client few =
    let handlers = handlers_of at.settings at.table meaning in
    let core = at.node.local.core in
    let out = run_request handlers (with_itself at.me) content core in
    let reply = reply_cells handlers (with_itself at.me) out.1 out.0 told.1 in
    elim (cases_Bool (is_served content.handler)) [
      | inl served ↦
          grows_cells at.node _ (reply ∙ served_cells handlers at.me content core told.0 client served)
      | inr own ↦ (let first = own_counts handlers at.me content core told.0 client own few in
          let last = ap own_count reply in
          grows_count at.node _ (omega (arith, first, last)) (omega (arith, first, last))
          (λ long. still_long _ _ (reply ∙ own_cells handlers at.me content core told.0 client own)
          (more_long core.cells long)))
    ]

asked_grows : (at : NodeBefore) (meaning : Meaning) (now : ℕ) (ask : Ask) (answer : Asked)
    → is_library ask.what.handler ≡ false → Room at.node.local.core.cells
    → (answer ≡ asked.Ran
    → AtOwnRuns (handlers_of at.settings at.table meaning) at.me
    (request_content (site_of (job_of at.settings at.table meaning) at.me) at.node ask) at.node.local.core
    (IsToldRun meaning))
    → Grows at.node (after_request (site_of (job_of at.settings at.table meaning) at.me) at.node now ask answer)
asked_grows at meaning now ask (asked.Accepted to slot number) client few told = record {
  least = omega arith;
  most = omega arith;
  ran = λ peer any. omega arith;
  back = λ peer any is. put_keeps (λ requests. is_back (element_at requests any) ≡ true) at.node.asked ask.to _ peer
      (push_back (at.node.asked ask.to) _ any) is;
  long = λ long. long;
}
asked_grows at meaning now ask asked.Ran client few told =
    own_grows at meaning (request_content (site_of (job_of at.settings at.table meaning) at.me) at.node ask) (told refl)
    (ap is_library (said_handler ask.what.category ask.what _) ∙ client) few
asked_grows at meaning now ask (asked.Forbidden forbidden) client few told = grows_cells at.node _ refl
asked_grows at meaning now ask _ client few told = same_node at.node

delivered_grows : (at : NodeBefore) (meaning : Meaning) (message : Message) (what : Verdict) → message.number ≢ 0
    → (what ≡ Runs
    → AtRun (handlers_of at.settings at.table meaning) role.Request (with_sender at.me message) (content_of message)
    at.node.local.core (IsToldRun meaning))
    → (what ≡ Returns
    → AtReply (handlers_of at.settings at.table meaning) (with_sender at.me message) (content_of message)
    at.node.local.core (IsToldRun meaning))
    → Grows at.node (after_delivery (site_of (job_of at.settings at.table meaning) at.me) at.node message what)
delivered_grows at meaning message Runs other runs returns =
    let handlers = handlers_of at.settings at.table meaning in
    let contact = with_sender at.me message in
    let content = content_of message in
    let same = kept_cells handlers role.Request contact content at.node.local.core (runs refl)
    (uncounted_other content.handler (arrival_in role.Request contact content) other) in
    let run : Run = record {
      number = message.number;
      slot = message.slot;
      content = content;
      reply = (run_request handlers contact content at.node.local.core).1;
    } in
    let count = ap own_count same in
    record {
      least = omega (arith, count);
      most = omega (arith, count);
      ran = λ peer slot.
          put_keeps (λ (runs : List Run). greatest slot (at.node.ran peer) ≤ greatest slot runs) at.node.ran message.from
          (at.node.ran message.from ++ run ∷ []) peer
          (λ less. (let more = greatest_more slot (at.node.ran message.from) run in omega (arith, less, more)))
          (omega arith);
      back = λ peer number is. is;
      long = still_long _ _ same;
    }
delivered_grows at meaning message Returns other runs returns =
    let same = reply_cells (handlers_of at.settings at.table meaning) (with_sender at.me message) (content_of message)
    at.node.local.core (returns refl) in
    let count = ap own_count same in
    record {
      least = omega (arith, count);
      most = omega (arith, count);
      ran = λ peer slot. omega arith;
      back = λ peer number is. put_keeps (λ requests. is_back (element_at requests number) ≡ true) at.node.asked
          message.from _ peer
          (change_back as_back (at.node.asked message.from) message.number number (λ request back. refl)) is;
      long = still_long _ _ same;
    }
delivered_grows at meaning message _ other runs returns = same_node at.node

-- a request that is open is there, and isn't back
pub open_some : (slot : ℕ) (request : Option Request) → is_open slot request ≡ true
    → (it : Request) × (request ≡ Some it) × (it.back ≡ false)
open_some slot None is = absurd (true≢false (sym is))
open_some slot (Some it) is = (it, refl, not-true it.back (and_parts (not it.back) (eqb it.slot slot) is).0)

-- what comes from another node has a number
pub numbered_run : (at : NodeBefore) (meaning : Meaning) (message : Message)
    → verdict (site_of (job_of at.settings at.table meaning) at.me) at.node message ≡ Runs → message.number ≢ 0
numbered_run at meaning message is zero_is =
    let above = (runs_says (site_of (job_of at.settings at.table meaning) at.me) at.node message is).above in
    omega (arith, above, zero_is)

pub numbered_return : (at : NodeBefore) (meaning : Meaning) (message : Message)
    → verdict (site_of (job_of at.settings at.table meaning) at.me) at.node message ≡ Returns → message.number ≢ 0
numbered_return at meaning message is zero_is =
    let says = returns_says (site_of (job_of at.settings at.table meaning) at.me) at.node message is in
    let it = open_some message.slot (element_at (at.node.asked message.from) message.number) says.open_ in
    let inside = numbered_in (at.node.asked message.from) message.number it.0 it.1 in
    omega (arith, inside.0, zero_is)

-- what is sent of the node's own accord leaves the core
sent_core : (settings : Parameters) (contact : Contact) (content : Content) (local : EndpointLocal)
    → (after_sent settings contact content local).core ≡ local.core
sent_core settings contact content local = elim (cases_Bool (eqb content.handler notification_handler)) [
  | inl notification ↦ rw notification refl
  | inr chunk ↦ rw chunk refl
]

tick_grows : (at : NodeBefore) (meaning : Meaning) (now : ℕ) (choice : TickChoice)
    → Grows at.node (after_tick (site_of (job_of at.settings at.table meaning) at.me) at.node now choice)
tick_grows at meaning now (Retransmits due) = record {
  least = omega arith;
  most = omega arith;
  ran = λ peer slot. omega arith;
  back = λ peer number is. put_keeps (λ requests. is_back (element_at requests number) ≡ true) at.node.asked due.peer _
      peer (change_back (sent_at now) (at.node.asked due.peer) due.number number (λ request back. back)) is;
  long = λ long. long;
}
tick_grows at meaning now (Sends sending) =
    let cells = ap (λ (core : Local). core.cells)
    (sent_core at.settings (with_asked at.me at.node sending.to) sending.content at.node.local) in
    let same = ap own_count cells in
    record {
      least = omega (arith, same);
      most = omega (arith, same);
      ran = λ peer slot. omega arith;
      back = λ peer number is. put_keeps (λ requests. is_back (element_at requests number) ≡ true) at.node.asked
          sending.to _ peer (push_back (at.node.asked sending.to) _ number) is;
      long = still_long _ _ cells;
    }
tick_grows at meaning now Rests = same_node at.node

pub event_grows : (at : NodeBefore) (meaning : Meaning) (now : ℕ) (event : RecordEvent) → IsCall event
    → AtRuns at meaning event (IsToldRun meaning) → Room at.node.local.core.cells
    → Grows at.node (node_after (job_of at.settings at.table meaning) at.me at.node now event)
event_grows at meaning now (Asks ask) call told few =
    asked_grows at meaning now ask
    (request_answer (site_of (job_of at.settings at.table meaning) at.me) at.node ask) call few told
event_grows at meaning now (Does thread call) untouched told few =
    let caller : Caller = record {
      settings = at.settings;
      me = at.me;
      thread = thread;
      exhausted = is_exhausted at.settings at.node;
    } in
    grows_cells at.node _
    ((call_framed at.settings at.table meaning caller call at.node.local).cells untouched)
event_grows at meaning now (Comes message) call told few =
    comes (verdict (site_of (job_of at.settings at.table meaning) at.me) at.node message) refl
  where
    comes : (what : Verdict)
        → verdict (site_of (job_of at.settings at.table meaning) at.me) at.node message ≡ what
        → Grows at.node (after_delivery (site_of (job_of at.settings at.table meaning) at.me) at.node message what)
    comes Runs is =
        delivered_grows at meaning message Runs (numbered_run at meaning message is) (λ runs. told.0 is)
        (λ returns. absurd (cc))
    comes Returns is =
        delivered_grows at meaning message Returns (numbered_return at meaning message is) (λ runs. absurd (cc))
        (λ returns. told.1 is)
    comes _ is = same_node at.node
event_grows at meaning now Ticks call told few =
    tick_grows at meaning now (tick_choice (site_of (job_of at.settings at.table meaning) at.me) at.node now)
