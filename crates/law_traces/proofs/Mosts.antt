-- The most that a node held in a run of traces is the most that it held after an entry of its own.
use Rattle.std.proofs.Common.{◌≡◌, ◌≢◌, ◌⊎◌, inl, inr, ℕ, ◌+◌, ◌≤◌, max, Bool, true, false, cond, List, []}
use Rattle.std.proofs.Common.{◌∷◌, ◌++◌, length, Option, None, Some, refl, sym, ap, ap₂, ◌∙◌, subst, arith, ne_eqb}
use Rattle.std.proofs.Common.{eq-eqb}
use Rattle.std.proofs.lemmas.List.{length-append}
use Rattle.std.proofs.lemmas.Bool.{cases_eq}
use Rattle.std.proofs.lemmas.Bool.Decides.{nat_tests}
use Rattle.wire_message.specs.Parameters.{Parameters, credits_of}
use Rattle.wire_message.specs.declared.refused.Refused.{Refused}
use Rattle.wire_message.specs.Refusals.{first_refusal}
use Rattle.base_lists.specs.Put.{put}
use Rattle.base_lists.proofs.Put.{put_same, put_other}
use Rattle.base_lists.proofs.Sums.{sum_le}
use Rattle.spec_node.specs.declared.answer.Asked.{Asked}
use Rattle.spec_node.specs.declared.answer.Asked.TheVariants as asked
use Rattle.spec_node.specs.Record.{Request, Run, Node}
use Rattle.spec_node.specs.Requests.{taken_slots, outstanding}
use Rattle.spec_node.specs.Executed.{slots_run}
use Rattle.spec_node.specs.Held.{held_with, held_buffers}
use Rattle.spec_node.specs.Behaviour.{Ask}
use Rattle.spec_node.specs.Step.{new_request, request_content}
use Rattle.spec_node.specs.Step.{Site, request_answer, after_request, TickChoice, Retransmits, Sends, Rests, tick_choice}
use Rattle.spec_node.specs.Step.{after_tick}
use Rattle.spec_node.specs.NodeStep.{Job, site_of, NodeEvent, Asks as NodeAsks, Does as NodeDoes, Comes}
use Rattle.spec_node.specs.NodeStep.{Ticks as NodeTicks}
use Rattle.spec_node.specs.NodeStep.{node_after}
use Rattle.spec_node.proofs.Slots.{taken_push, outstanding-sent}
use Rattle.spec_network.specs.World.{World, EventAt, world_after, run}
use Rattle.spec_network.specs.MostHeld.{most_then, most_after}
use Rattle.node_rules.specs.Called.{Requests, Performs}
use Rattle.node_rules.specs.EndpointRules.{OtherCall}
use Rattle.law_traces.specs.Scripts.{NodeJob, ThreadCall}
use Rattle.law_traces.specs.Turn.{MachineState, Turn, turn, turn_events, node_run, coming, comes, events_of}
use Rattle.law_traces.specs.Order.{NodeEntry, own_entries, Machines, turn_of, after_entry}
use Rattle.law_traces.specs.WorldRun.{AreEvents, AreTurns, joined_events}
use Rattle.law_traces.specs.Most.{most_in}
use Rattle.law_traces.proofs.Stages.{fallen_here, fallen_other}

-- ---- all but a delivery leave at least as much held

-- one peer's requests are changed to others of which at least as many aren't back
asked_more : {Kept : Type 0} (settings : Parameters) (me to : ℕ) (requests : List Request) (r q : Node Kept)
    → q.asked ≡ put r.asked to requests → q.ran ≡ r.ran → outstanding (r.asked to) ≤ outstanding requests
    → (peer : ℕ) → held_with settings me r peer ≤ held_with settings me q peer
asked_more settings me to requests r q e f more peer =
    let runs : slots_run (q.ran peer) (credits_of settings peer me) ≡ slots_run (r.ran peer)
    (credits_of settings peer me) =
    ap (λ (g : ℕ → List Run). slots_run (g peer) (credits_of settings peer me)) f in
    elim (cases_eq peer to) [
      | inl same ↦ (let at : outstanding (q.asked peer) ≡ outstanding requests =
          ap (λ (g : ℕ → List Request). outstanding (g peer)) e
          ∙ ap outstanding (ap (put r.asked to requests) same ∙ put_same r.asked to requests) in
          let was : outstanding (r.asked peer) ≡ outstanding (r.asked to) = ap (λ p. outstanding (r.asked p)) same in
          omega (arith, runs, at, was, more))
      | inr other ↦ (let at : outstanding (q.asked peer) ≡ outstanding (r.asked peer) =
          ap (λ (g : ℕ → List Request). outstanding (g peer)) e
          ∙ ap outstanding (put_other r.asked to requests peer other) in
          omega (arith, runs, at))
    ]

-- one request more
outstanding_push : (requests : List Request) (request : Request)
    → outstanding requests ≤ outstanding (requests ++ request ∷ [])
outstanding_push requests request =
    let e : outstanding (requests ++ request ∷ []) ≡ length (taken_slots requests) + length (taken_slots (request ∷ [])) =
    ap length (taken_push requests request) ∙ length-append (taken_slots requests) (taken_slots (request ∷ [])) in
    omega (arith, e)

request_grows : {Kept : Type 0} (site : Site Kept) (r : Node Kept) (now : ℕ) (ask : Ask) (answer : Asked) (peer : ℕ)
    → held_with site.settings site.me r peer
    ≤ held_with site.settings site.me (after_request site r now ask answer) peer
request_grows site r now ask (asked.Accepted p slot k) peer =
    asked_more site.settings site.me ask.to _ r (after_request site r now ask (asked.Accepted p slot k)) refl refl
    (outstanding_push (r.asked ask.to) (new_request now slot (request_content site r ask))) peer
request_grows site r now ask asked.Ran peer = omega arith
request_grows site r now ask (asked.BadArg part) peer = omega arith
request_grows site r now ask (asked.Forbidden forbidden) peer = omega arith
request_grows site r now ask (asked.LockBusy lock) peer = omega arith
request_grows site r now ask asked.Exhausted peer = omega arith
request_grows site r now ask asked.NotYet peer = omega arith

tick_grows : {Kept : Type 0} (site : Site Kept) (r : Node Kept) (now : ℕ) (choice : TickChoice) (peer : ℕ)
    → held_with site.settings site.me r peer ≤ held_with site.settings site.me (after_tick site r now choice) peer
tick_grows site r now (Retransmits due) peer =
    asked_more site.settings site.me due.peer _ r (after_tick site r now (Retransmits due)) refl refl
    (let e = outstanding-sent now (r.asked due.peer) due.number in omega (arith, e)) peer
tick_grows site r now (Sends sending) peer =
    asked_more site.settings site.me sending.to _ r (after_tick site r now (Sends sending)) refl refl
    (outstanding_push (r.asked sending.to) _) peer
tick_grows site r now Rests peer = omega arith

-- it is no delivery
abbrev pub IsOwn : {Call : Type 0} → NodeEvent Call → Type 0
IsOwn (NodeAsks ask) = Unit {0}
IsOwn (NodeDoes thread call) = Unit {0}
IsOwn (Comes message) = ⊥
IsOwn NodeTicks = Unit {0}

own_grows : {Local Call Told : Type 0} (job : Job Local Call Told) (me : ℕ) (r : Node Local) (now : ℕ)
    (event : NodeEvent Call) → IsOwn event
    → held_buffers job.settings me r ≤ held_buffers job.settings me (node_after job me r now event)
own_grows job me r now (NodeAsks ask) own =
    sum_le (held_with job.settings me r) _ job.settings.nodes
    (λ peer low. request_grows (site_of job me) r now ask (request_answer (site_of job me) r ask) peer)
own_grows job me r now (NodeDoes thread call) own =
    sum_le (held_with job.settings me r) (held_with job.settings me r) job.settings.nodes (λ peer low. omega arith)
own_grows job me r now (Comes message) own = absurd own
own_grows job me r now NodeTicks own =
    sum_le (held_with job.settings me r) _ job.settings.nodes
    (λ peer low. tick_grows (site_of job me) r now (tick_choice (site_of job me) r now) peer)

-- ---- the events of a turn

abbrev pub AreAllOwn : {Call : Type 0} → List (NodeEvent Call) → Type 0
AreAllOwn [] = Unit {0}
AreAllOwn (event ∷ events) = IsOwn event × AreAllOwn events

-- at most the first is a delivery
abbrev AtMostOne : {Call : Type 0} → List (NodeEvent Call) → Type 0
AtMostOne [] = Unit {0}
AtMostOne (event ∷ events) = AreAllOwn events

calls_own : (thread : ℕ) (calls : List ThreadCall) → AreAllOwn (events_of thread calls)
calls_own thread [] = tt
calls_own thread (Requests to asking ∷ calls) = (tt, calls_own thread calls)
calls_own thread (Performs call ∷ calls) = (tt, calls_own thread calls)

own_then : (Call : Type 0) (events : List (NodeEvent Call)) → AreAllOwn events → AtMostOne events
own_then Call [] h = tt
own_then Call (event ∷ events) h = h.1

-- of a turn
turn_at_most : (Call : Type 0) (version : ℕ) (polls : Bool) (got : Option (List ℕ)) (more : List (NodeEvent Call))
    → AreAllOwn more → AtMostOne (cond polls (comes version got ++ NodeTicks ∷ []) [] ++ more)
turn_at_most Call version false got more own = own_then Call more own
turn_at_most Call version true None more own = own
turn_at_most Call version true (Some bytes) more own = by_refusal (first_refusal version bytes)
  where
    by_refusal : (o : Option Refused) → AtMostOne ((coming version o bytes ++ NodeTicks ∷ []) ++ more)
    by_refusal None = (tt, own)
    by_refusal (Some refused) = own

events_at_most : {Kept Own : Type 0} (job : NodeJob Kept Own) (me : ℕ) (state : MachineState Kept Own)
    (thread now : ℕ) (got : Option (List ℕ)) → AtMostOne (turn_events job me state thread now got)
events_at_most job me state thread now got =
    turn_at_most OtherCall job.job.settings.version (job.polls thread state.node.local) got _ (calls_own thread _)

-- ---- the most that was held, over the events of a turn

max_of : (a b : ℕ) → b ≤ a → max a b ≡ a
max_of a b h = grind (arith, nat_tests)

at_least : (a b : ℕ) → b ≤ max a b
at_least a b = grind (arith, nat_tests)

three : (a b c : ℕ) → b ≤ c → max (max a b) c ≡ max a c
three a b c h = grind (arith, nat_tests)

-- no delivery is among them
own_most : {Local Call Told : Type 0} (job : Job Local Call Told) (n now : ℕ) (events : List (NodeEvent Call))
    (happened : List (EventAt Call)) (world : World Local) (most : ℕ → ℕ)
    → AreEvents job world n now events happened → AreAllOwn events → held_buffers job.settings n (world n) ≤ most n
    → (most_after job happened world most n ≡ max (most n) (held_buffers job.settings n (run job happened world n)))
    × (held_buffers job.settings n (world n) ≤ held_buffers job.settings n (run job happened world n))
own_most job n now [] [] world most A own le = (sym (max_of (most n) (held_buffers job.settings n (world n)) le), omega arith)
own_most job n now [] (timed ∷ rest) world most A own le = absurd A
own_most job n now (event ∷ events) [] world most A own le = absurd A
own_most {Local} job n now (event ∷ events) (timed ∷ rest) world most A own le =
    let x = world_after job world timed in
    let here : x n ≡ node_after job n (world n) timed.now event = fallen_here job world n event timed A.1 in
    let up : held_buffers job.settings n (world n) ≤ held_buffers job.settings n (x n) =
    subst (λ (r : Node Local). held_buffers job.settings n (world n) ≤ held_buffers job.settings n r) (sym here)
    (own_grows job n (world n) timed.now event own.0) in
    let ih = own_most job n now events rest x (most_then job.settings x most) A.2 own.1
    (at_least (most n) (held_buffers job.settings n (x n))) in (
      ih.0 ∙ three (most n) (held_buffers job.settings n (x n)) (held_buffers job.settings n (run job rest x n)) ih.1,
      omega (arith, up, ih.1),
    )

-- of the node of a turn
turn_most : {Local Call Told : Type 0} (job : Job Local Call Told) (n now : ℕ) (events : List (NodeEvent Call))
    (happened : List (EventAt Call)) (world : World Local) (most : ℕ → ℕ)
    → AreEvents job world n now events happened → AtMostOne events → held_buffers job.settings n (world n) ≤ most n
    → most_after job happened world most n ≡ max (most n) (held_buffers job.settings n (run job happened world n))
turn_most job n now [] [] world most A one le = sym (max_of (most n) (held_buffers job.settings n (world n)) le)
turn_most job n now [] (timed ∷ rest) world most A one le = absurd A
turn_most job n now (event ∷ events) [] world most A one le = absurd A
turn_most job n now (event ∷ events) (timed ∷ rest) world most A one le =
    let x = world_after job world timed in
    let more = own_most job n now events rest x (most_then job.settings x most) A.2 one
    (at_least (most n) (held_buffers job.settings n (x n))) in
    more.0 ∙ three (most n) (held_buffers job.settings n (x n)) (held_buffers job.settings n (run job rest x n)) more.1

-- of every other node
other_most : {Local Call Told : Type 0} (job : Job Local Call Told) (n now i : ℕ) (events : List (NodeEvent Call))
    (happened : List (EventAt Call)) (world : World Local) (most : ℕ → ℕ)
    → AreEvents job world n now events happened → i ≢ n → held_buffers job.settings i (world i) ≤ most i
    → (most_after job happened world most i ≡ most i) × (run job happened world i ≡ world i)
other_most job n now i [] [] world most A o le = (refl, refl)
other_most job n now i [] (timed ∷ rest) world most A o le = absurd A
other_most job n now i (event ∷ events) [] world most A o le = absurd A
other_most {Local} job n now i (event ∷ events) (timed ∷ rest) world most A o le =
    let x = world_after job world timed in
    let same : x i ≡ world i = fallen_other job world n event timed A.1 i o in
    let then_same : most_then job.settings x most i ≡ most i =
    ap (λ (r : Node Local). max (most i) (held_buffers job.settings i r)) same
    ∙ max_of (most i) (held_buffers job.settings i (world i)) le in
    let ih = other_most job n now i events rest x (most_then job.settings x most) A.2 o
    (both (ap (λ (r : Node Local). held_buffers job.settings i r) (sym same)) (sym then_same) le) in
    (ih.0 ∙ then_same, ih.1 ∙ same)
  where
    both : {a b c d : ℕ} → a ≡ b → c ≡ d → a ≤ c → b ≤ d
    both p q h = omega (arith, p, q, h)

-- ---- over all turns

-- the node after the events of a turn
run_here : {Local Call Told : Type 0} (job : Job Local Call Told) (n now : ℕ) (events : List (NodeEvent Call))
    (happened : List (EventAt Call)) (world : World Local) → AreEvents job world n now events happened
    → run job happened world n ≡ node_run job n now events (world n)
run_here job n now [] [] world A = refl
run_here job n now [] (timed ∷ rest) world A = absurd A
run_here job n now (event ∷ events) [] world A = absurd A
run_here job n now (event ∷ events) (timed ∷ rest) world A =
    run_here job n now events rest (world_after job world timed) A.2
    ∙ ap (node_run job n now events)
    (fallen_here job world n event timed A.1 ∙ ap (λ k. node_after job n (world n) k event) A.0)

most-append : {Local Call Told : Type 0} (job : Job Local Call Told) (first second : List (EventAt Call))
    (world : World Local) (most : ℕ → ℕ) (i : ℕ)
    → most_after job (first ++ second) world most i
    ≡ most_after job second (run job first world) (most_after job first world most) i
most-append job [] second world most i = refl
most-append job (timed ∷ rest) second world most i =
    let x = world_after job world timed in
    most-append job rest second x (most_then job.settings x most) i

-- what depends on the number of node i alone
most_at : {Local Call Told : Type 0} (job : Job Local Call Told) (events : List (EventAt Call)) (world : World Local)
    (f g : ℕ → ℕ) (i : ℕ) → f i ≡ g i → most_after job events world f i ≡ most_after job events world g i
most_at job [] world f g i e = e
most_at job (timed ∷ rest) world f g i e =
    let x = world_after job world timed in
    most_at job rest x (most_then job.settings x f) (most_then job.settings x g) i
    (ap (λ (a : ℕ). max a (held_buffers job.settings i (x i))) e)

-- the most that node i held is that of its own entries
pub run_most : {Kept Own : Type 0} (job : NodeJob Kept Own) (i : ℕ) (items : List NodeEntry)
    (turns : List (List (EventAt OtherCall))) (machines : Machines Kept Own) (world : World Kept) (most : ℕ → ℕ)
    → AreTurns job machines world items turns → ((n : ℕ) → world n ≡ (machines n).node)
    → held_buffers job.job.settings i (world i) ≤ most i
    → most_after job.job (joined_events turns) world most i
    ≡ most_in job i (machines i) (own_entries i items) (most i)
run_most job i [] [] machines world most T all le = refl
run_most job i [] (happened ∷ more) machines world most T all le = absurd T
run_most job i (item ∷ items) [] machines world most T all le = absurd T
run_most {Kept} {Own} job i (item ∷ items) (happened ∷ more) machines world most T all le =
    most-append job.job happened (joined_events more) world most i
    ∙ by_node (λ now_most h. run_most job i items more (after_entry job machines item) v now_most T.1 after_same h)
    (cases_eq item.node i)
  where
    t : Turn Kept Own
    t = turn_of job machines item

    v : World Kept
    v = run job.job happened world

    holds : Node Kept → ℕ
    holds r = held_buffers job.job.settings i r

    -- the records after the turn
    here : v item.node ≡ t.after.node
    here =
        run_here job.job item.node item.entry.now t.events happened world T.0.events
        ∙ ap (node_run job.job item.node item.entry.now t.events) (all item.node)

    others : (k : ℕ) → k ≢ item.node → v k ≡ world k
    others k o =
        (other_most job.job item.node item.entry.now k t.events happened world
        (λ q. held_buffers job.job.settings q (world q)) T.0.events o (omega arith)).1

    after_same : (k : ℕ) → v k ≡ (after_entry job machines item k).node
    after_same k = elim (cases_eq k item.node) [
      | inl e ↦ ap v e ∙ (here ∙ ap (λ (m : MachineState Kept Own). m.node)
          (sym (ap (put machines item.node t.after) e ∙ put_same machines item.node t.after)))
      | inr o ↦ others k o ∙ (all k ∙ ap (λ (m : MachineState Kept Own). m.node)
          (sym (put_other machines item.node t.after k o)))
    ]

    by_node : ((now_most : ℕ → ℕ) → held_buffers job.job.settings i (v i) ≤ now_most i
        → most_after job.job (joined_events more) v now_most i
        ≡ most_in job i (after_entry job machines item i) (own_entries i items) (now_most i))
        → (item.node ≡ i) ⊎ (item.node ≢ i)
        → most_after job.job (joined_events more) v (most_after job.job happened world most) i
        ≡ most_in job i (machines i) (own_entries i (item ∷ items)) (most i)
    by_node go (inl e) =
        let now_most : most_after job.job happened world most i ≡ max (most i) (held_buffers job.job.settings i (v i)) =
        subst (λ k. most_after job.job happened world most k ≡ max (most k) (held_buffers job.job.settings k (v k))) e
        (turn_most job.job item.node item.entry.now t.events happened world most T.0.events
        (events_at_most job item.node (machines item.node) item.entry.thread item.entry.now item.entry.got)
        (subst (λ k. held_buffers job.job.settings k (world k) ≤ most k) (sym e) le)) in
        let rest = go (λ q. max (most q) (held_buffers job.job.settings q (v q)))
        (at_least (most i) (held_buffers job.job.settings i (v i))) in
        let mine : after_entry job machines item i
        ≡ (turn job i (machines i) item.entry.thread item.entry.now item.entry.got).after =
        ap (put machines item.node t.after) (sym e)
        ∙ (put_same machines item.node t.after
        ∙ ap (λ k. (turn job k (machines k) item.entry.thread item.entry.now item.entry.got).after) e) in
        let node_is : v i ≡ (turn job i (machines i) item.entry.thread item.entry.now item.entry.got).after.node =
        after_same i ∙ ap (λ (m : MachineState Kept Own). m.node) mine in
        most_at job.job (joined_events more) v (most_after job.job happened world most)
        (λ q. max (most q) (held_buffers job.job.settings q (v q))) i now_most
        ∙ (rest
        ∙ (ap₂ (λ (m : MachineState Kept Own) (a : ℕ). most_in job i m (own_entries i items) a) mine
        (ap (λ (r : Node Kept). max (most i) (held_buffers job.job.settings i r)) node_is)
        ∙ ap (λ (b : Bool). most_in job i (machines i)
        (cond b (item.entry ∷ own_entries i items) (own_entries i items)) (most i)) (sym (eq-eqb item.node i e))))
    by_node go (inr n) =
        let o : i ≢ item.node = λ h. n (sym h) in
        let kept = other_most job.job item.node item.entry.now i t.events happened world most T.0.events o le in
        let rest = go most (subst (λ (r : Node Kept). held_buffers job.job.settings i r ≤ most i) (sym kept.1) le) in
        let mine : after_entry job machines item i ≡ machines i = put_other machines item.node t.after i o in
        most_at job.job (joined_events more) v (most_after job.job happened world most) most i kept.0
        ∙ (rest
        ∙ (ap (λ (m : MachineState Kept Own). most_in job i m (own_entries i items) (most i)) mine
        ∙ ap (λ (b : Bool). most_in job i (machines i)
        (cond b (item.entry ∷ own_entries i items) (own_entries i items)) (most i)) (sym (ne_eqb item.node i n))))
