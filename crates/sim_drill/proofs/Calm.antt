-- The drill notes no violation: none of its calls is forbidden, and nothing is refused to a handler of it.
use Rattle.std.proofs.Common.{◌≡◌, ℕ, zero, suc, ◌+◌, ◌%◌, ◌||◌, Bool, true, false, cond, eqb, List, [], ◌∷◌}
use Rattle.std.specs.Prelude.{◌*◌, pos}
use Rattle.std.proofs.Common.{◌++◌, map, Option, Some, None, Result, Ok, refl, sym, ap, subst, ◌∙◌}
use Rattle.std.proofs.lemmas.Bool.{eqb-true}
use Rattle.wire_message.specs.Content.{Content, code, content_of, is_ack, is_request, short_reply}
use Rattle.wire_message.specs.Message.{Message}
use Rattle.part_handlers.specs.Registered.{entry_at, is_for_replies, is_for_requests}
use Rattle.part_handlers.specs.Rules.{context_of, rule}
use Rattle.part_handlers.specs.Runs.{Frame, Outcome, Start, after_answer, answer, after_return, first_fault, judgement}
use Rattle.part_handlers.specs.Runs.{passes_end}
use Rattle.part_handlers.specs.Runs.{refusal, reply_faults, nothing_done}
use Rattle.part_handlers.specs.declared.message.Replied.{Replied}
use Rattle.part_handlers.specs.declared.message.Replied.TheVariants as replied
use Rattle.part_handlers.specs.declared.message.Which.{Which}
use Rattle.part_handlers.specs.declared.rules.CallKind.TheVariants as call
use Rattle.part_handlers.specs.declared.rules.Context.TheVariants.{Thread}
use Rattle.part_handlers.specs.declared.rules.Forbidden.{Forbidden}
use Rattle.part_handlers.specs.declared.rules.Role.{Role}
use Rattle.part_handlers.specs.declared.rules.Role.TheVariants as role
use Rattle.part_handlers.specs.declared.table.Entry.{Entry}
use Rattle.part_handlers.specs.Locks.{holds}
use Rattle.part_handlers.specs.declared.lock_answer.Owner.TheVariants as owner
use Rattle.spec_node.specs.declared.answer.Asked.{Asked}
use Rattle.spec_node.specs.declared.answer.Asked.TheVariants as asked
use Rattle.spec_node.specs.declared.answer.Why.{Why}
use Rattle.spec_node.specs.declared.answer.Why.TheVariants as why
use Rattle.spec_node.specs.Behaviour.{Ask, Behaviour, Contact}
use Rattle.spec_node.specs.Credits.{limits_of}
use Rattle.spec_node.specs.Executed.{run_of}
use Rattle.spec_node.specs.Invariant.{reply_message, request_message}
use Rattle.spec_node.specs.NodeStep.{Asks as NodeAsks, Does as NodeDoes, Comes, Ticks as NodeTicks}
use Rattle.spec_node.specs.NodeStep.{node_after, site_of}
use Rattle.spec_node.specs.Record.{Node, Request, Run}
use Rattle.spec_node.specs.Step.{Site, TickChoice, Retransmits, Sends, Rests, after_delivery, after_request, after_tick}
use Rattle.spec_node.specs.Step.{claim_answer, first_why, is_exhausted, own_answer, request_answer, request_fault}
use Rattle.spec_node.specs.Step.{request_content}
use Rattle.spec_node.specs.Step.{unless_bad, unless_refused, unless_waiting, tick_choice, verdict, with_sender}
use Rattle.spec_node.specs.Step.{Verdict, Refused, Duplicated, Passed, Runs, Missed, Returns, Waits}
use Rattle.spec_node.specs.Step as step
use Rattle.base_lists.specs.Numbered.{element_at}
use Rattle.base_lists.specs.Put.{put}
use Rattle.spec_network.specs.World.{Asks, Does, Ticks, after_at, reply_event, request_event}
use Rattle.spec_network.specs.World.{world_after}
use Rattle.node_core.specs.ClientRules.{content_refusal, short_asking}
use Rattle.node_core.specs.HandlerRuns.{NodeHandlers, client_outcome, frame_of_run, landing, left_by_run}
use Rattle.node_core.specs.HandlerRuns.{handlers_of as node_handlers}
use Rattle.node_core.specs.HandlerRuns.{outcome}
use Rattle.node_core.specs.HandlerRuns.{run_reply, run_request}
use Rattle.node_core.specs.Kept.{Local, start_from, with_writes}
use Rattle.node_core.specs.Library.{is_library, library_outcome, library_refusal}
use Rattle.part_transfers.specs.declared.operation.Mode.{Mode}
use Rattle.part_transfers.specs.declared.operation.ImplicitKinds.{ImplicitKinds}
use Rattle.part_transfers.specs.declared.operation.ImplicitKinds.TheVariants as some
use Rattle.part_transfers.specs.declared.operation.Transfer.{Transfer}
use Rattle.part_transfers.specs.declared.operation.Transfer.TheVariants as transfers
use Rattle.node_rules.specs.EndpointLocal.{EndpointLocal}
use Rattle.node_rules.specs.EndpointRules.{OnTransfers, Records, endpoint_rules, job_of, timed_event}
use Rattle.node_rules.specs.EndpointRules.{unless_forbidden}
use Rattle.node_rules.specs.TransferCalls.{BeginImplicit, Caller, SyncImplicit, after_beginning, begin_says}
use Rattle.node_rules.specs.TransferCalls.{implicit_mode, transfer_does}
use Rattle.node_rules.specs.declared.answer.Answer.{Answer}
use Rattle.node_rules.specs.declared.answer.Begun.{Begun}
use Rattle.node_rules.specs.declared.answer.Begun.TheVariants as begun
use Rattle.sim_world.specs.Settling.{WorldJob}
use Rattle.text_steps.specs.declared.steps.Action.{Action}
use Rattle.text_steps.specs.declared.steps.Action.TheVariants as action
use Rattle.text_calls.specs.declared.values.Operand.TheVariants as operand
use Rattle.text_steps.specs.declared.steps.ReplyAction.TheVariants as reply
use Rattle.text_script.specs.Bodies.{act, acts, operand_at, operand_value, script_meaning}
use Rattle.text_script.specs.Registration.{handlers_of, registry_of}
use Rattle.text_steps.specs.declared.steps.TimedEvent.{TimedEvent}
use Rattle.sim_run.specs.Schedules.{Nodes, nodes_after, nodes_behind, opening_nodes, world_job}
use Rattle.sim_run.proofs.LinesRun.{schedule_runs}
use Rattle.sim_run.specs.RunText.{any_violation, is_violated, run_records, violations}
use Rattle.sim_drill.specs.Draws.{before_round, round_at}
use Rattle.sim_drill.specs.Rounds.{bare_job, deed_lines, drill_job, drill_schedule, drill_settings, delivered_number}
use Rattle.sim_drill.specs.Rounds.{round_lines}
use Rattle.sim_drill.specs.Rounds.{rounds_lines}
use Rattle.sim_drill.specs.declared.rounds.Deed.{Deed}
use Rattle.sim_drill.specs.declared.rounds.Deed.TheVariants as deeds
use Rattle.sim_drill.specs.declared.rounds.Round.{Round}
use Rattle.sim_drill.proofs.Drawn.{apart_there}

-- ---- what the rule table allows

-- a handler without locks may return
return_allowed : (which : Role) (sent : Bool)
    → refusal (rule (context_of which) (holds owner.Handler []) sent call.Return)
    ≡ []
return_allowed role.Request sent = refl
return_allowed role.Reply sent = refl

-- ---- runs of handlers

-- nothing was refused, and no lock is held
abbrev pub IsQuiet : Outcome → Type 0
IsQuiet outcome = (outcome.locks ≡ []) × (outcome.refused ≡ [])

closed_quiet : (frame : Frame) (outcome : Outcome) → IsQuiet outcome → (after_return frame outcome).refused ≡ []
closed_quiet frame outcome quiet =
    rw (quiet.0, quiet.1) (return_allowed frame.arrival.role _)

-- the answer to a reply that the rule table allows
abbrev IsLetThrough : Replied → Type 0
IsLetThrough (replied.Forbidden forbidden) = ⊥
IsLetThrough answer = Unit {0}

through_by : (bad : Bool) (part : Which) (answer : Replied) → IsLetThrough answer
    → IsLetThrough (cond bad (replied.BadArg part) answer)
through_by true part answer is = tt
through_by false part answer is = is

let_through : (faults : List (Bool × Which)) → IsLetThrough (first_fault faults)
let_through [] = tt
let_through (line ∷ rest) = through_by line.0 line.1 (first_fault rest) (let_through rest)

reply_quiet : (answer : Replied) (content : Content) (outcome : Outcome) → IsLetThrough answer → IsQuiet outcome
    → IsQuiet (after_answer answer content outcome)
reply_quiet replied.Sent content outcome is quiet = quiet
reply_quiet (replied.BadArg part) content outcome is quiet = quiet
reply_quiet (replied.Forbidden forbidden) content outcome is quiet = absurd is

-- the body of the handler of requests, and that of replies
abbrev request_body : List Action
request_body = action.Add 0 (operand.Argument 0) ∷ action.Reply (reply.Short 129 (operand.Argument 0 ∷ [])) ∷ []

abbrev reply_body : List Action
reply_body = action.Add 1 (operand.Argument 0) ∷ []

abbrev added : Frame → Start → Outcome
added frame start = act frame start (nothing_done start) (action.Add 0 (operand.Argument 0))

abbrev asked_reply : Frame → Start → Content
asked_reply frame start = short_reply 129 (map (operand_at frame (added frame start)) (operand.Argument 0 ∷ []))

request_quiet : (frame : Frame) (start : Start) → frame.arrival.role ≡ role.Request → start.locks ≡ []
    → IsQuiet (acts frame start (nothing_done start) request_body)
request_quiet frame start which locks =
    let allowed : judgement frame call.Reply (added frame start) ≡ Ok tt = rw (which, locks) refl in
    let through : IsLetThrough (answer frame (asked_reply frame start) (added frame start)) = rw allowed
    (let_through (reply_faults frame.settings frame.table (asked_reply frame start))) in
    reply_quiet (answer frame (asked_reply frame start) (added frame start)) (asked_reply frame start)
    (added frame start) through (locks, refl)

-- a body by the index of its handler
by_index : (frame : Frame) (start : Start) (first second : Bool) → (first ≡ true → frame.arrival.role ≡ role.Request)
    → start.locks ≡ []
    → IsQuiet (acts frame start (nothing_done start) (cond first request_body (cond second reply_body [])))
by_index frame start true second which locks = request_quiet frame start (which refl) locks
by_index frame start false true which locks = (locks, refl)
by_index frame start false false which locks = (locks, refl)

pub meaning_quiet : (index : ℕ) (frame : Frame) (start : Start)
    → (eqb 128 index ≡ true → frame.arrival.role ≡ role.Request) → start.locks ≡ []
    → IsQuiet (script_meaning (handlers_of bare_job) index frame start)
meaning_quiet index frame start which locks = by_index frame start (eqb 128 index) (eqb 129 index) which locks

-- ---- what a core keeps

-- no lock is held, and no violation was noted
abbrev pub IsClean : Local → Type 0
IsClean local = (local.locks ≡ []) × (local.violations ≡ [])

-- a node by these handlers
abbrev handlers : List (Option Entry) → NodeHandlers
handlers table = node_handlers drill_settings table (script_meaning (handlers_of bare_job))

outcome_by : (table : List (Option Entry)) (which : Role) (contact : Contact) (content : Content) (start : Start)
    (library : Bool) → (eqb 128 content.handler ≡ true → which ≡ role.Request) → start.locks ≡ []
    → (cond library (library_outcome content start)
    (client_outcome (handlers table) which contact content start)).refused
    ≡ []
outcome_by table which contact content start true right locks = refl
outcome_by table which contact content start false right locks =
    let frame = frame_of_run (handlers table) which contact content in
    closed_quiet frame (script_meaning (handlers_of bare_job) content.handler frame start)
    (meaning_quiet content.handler frame start right locks)

outcome_quiet : (table : List (Option Entry)) (which : Role) (contact : Contact) (content : Content) (start : Start)
    → (eqb 128 content.handler ≡ true → which ≡ role.Request) → start.locks ≡ []
    → (outcome (handlers table) which contact content start).refused ≡ []
outcome_quiet table which contact content start right locks =
    outcome_by table which contact content start (is_library content.handler) right locks

left_clean : (which : Role) (outcome : Outcome) (local : Local) → outcome.refused ≡ [] → IsClean local
    → IsClean (left_by_run which outcome local)
left_clean which outcome local none clean = (clean.0, rw (clean.1, none) refl)

run_clean : (table : List (Option Entry)) (contact : Contact) (content : Content) (local : Local) → IsClean local
    → IsClean (run_request (handlers table) contact content local).0
run_clean table contact content local clean =
    let landed = with_writes local (landing content) in
    let start = start_from drill_settings landed in
    left_clean role.Request (outcome (handlers table) role.Request contact content start) landed
    (outcome_quiet table role.Request contact content start (λ e. refl) clean.0) clean

take_by : (table : List (Option Entry)) (contact : Contact) (content : Content) (local : Local) (ack : Bool)
    → (ack ≡ false → eqb 128 content.handler ≡ false) → IsClean local
    → IsClean (cond ack local (left_by_run role.Reply (outcome (handlers table) role.Reply contact content
    (start_from drill_settings (with_writes local (landing content)))) (with_writes local (landing content))))
take_by table contact content local true other clean = clean
take_by table contact content local false other clean =
    let landed = with_writes local (landing content) in
    let start = start_from drill_settings landed in
    left_clean role.Reply (outcome (handlers table) role.Reply contact content start) landed
    (outcome_quiet table role.Reply contact content start (λ e. absurd (not_both (other refl) e)) clean.0) clean
  where
    not_both : {b : Bool} → b ≡ false → b ≡ true → ⊥
    not_both h k = cc

take_clean : (table : List (Option Entry)) (contact : Contact) (content : Content) (local : Local)
    → (is_ack (code content.kind) ≡ false → eqb 128 content.handler ≡ false) → IsClean local
    → IsClean (run_reply (handlers table) contact content local)
take_clean table contact content local other clean =
    take_by table contact content local (is_ack (code content.kind)) other clean

-- ---- the events of a node

-- the drill's world, by this table
abbrev job : List (Option Entry) → WorldJob
job table = job_of drill_settings table (script_meaning (handlers_of bare_job))

-- a thread without locks may make a request, a transfer and a synchronisation
request_allowed : (thread : ℕ) (local : Local) → local.locks ≡ []
    → rule (Thread thread) (holds (owner.Thread thread) local.locks) false call.Request ≡ Ok tt
request_allowed thread local locks = rw locks refl

transfer_allowed : (thread : ℕ) (local : Local) → local.locks ≡ []
    → rule (Thread thread) (holds (owner.Thread thread) local.locks) false call.Transfer ≡ Ok tt
transfer_allowed thread local locks = rw locks refl

sync_allowed : (thread : ℕ) (local : Local) → local.locks ≡ []
    → rule (Thread thread) (holds (owner.Thread thread) local.locks) false call.Sync ≡ Ok tt
sync_allowed thread local locks = rw locks refl

-- a request to another node, and what it leaves
abbrev IsHarmless : Asked → Type 0
IsHarmless asked.Ran = ⊥
IsHarmless (asked.Forbidden forbidden) = ⊥
IsHarmless (asked.LockBusy lock) = ⊥
IsHarmless answer = Unit {0}

bad_harmless : (fault : Option Which) (answer : Asked) → IsHarmless answer → IsHarmless (unless_bad fault answer)
bad_harmless None answer is = is
bad_harmless (Some part) answer is = tt

claim_harmless : (exhausted full : Bool) (to slot number : ℕ)
    → IsHarmless (cond exhausted asked.Exhausted (cond full asked.NotYet (asked.Accepted to slot number)))
claim_harmless true full to slot number = tt
claim_harmless false true to slot number = tt
claim_harmless false false to slot number = tt

answer_by : (allowed : Result (Unit {0}) Forbidden) (own : Bool) (fault : Option Which) (here claim : Asked)
    → allowed ≡ Ok tt → own ≡ false
    → step.unless_forbidden allowed (unless_bad fault (cond own here claim)) ≡ unless_bad fault claim
answer_by allowed own fault here claim h k = rw (h, k) refl

asked_same : (site : Site EndpointLocal) (node : Node EndpointLocal) (now : ℕ) (ask : Ask) (answer : Asked)
    → IsHarmless answer → (after_request site node now ask answer).local ≡ node.local
asked_same site node now ask (asked.Accepted to slot number) is = refl
asked_same site node now ask (asked.BadArg part) is = refl
asked_same site node now ask asked.Exhausted is = refl
asked_same site node now ask asked.NotYet is = refl
asked_same site node now ask asked.Ran is = absurd is
asked_same site node now ask (asked.Forbidden forbidden) is = absurd is
asked_same site node now ask (asked.LockBusy lock) is = absurd is

asks_clean : (table : List (Option Entry)) (me : ℕ) (node : Node EndpointLocal) (now : ℕ) (ask : Ask)
    → eqb ask.to me ≡ false → IsClean node.local.core
    → IsClean (node_after (job table) me node now (NodeAsks ask)).local.core
asks_clean table me node now ask other clean =
    let site = site_of (job table) me in
    let claim = claim_answer (limits_of drill_settings me ask.to) ask.to (node.asked ask.to) in
    let fault = request_fault drill_settings site.behaviour ask in
    let here = own_answer (site.behaviour.busy (request_content site node ask) node.local) in
    let answer : request_answer site node ask ≡ unless_bad fault claim =
    answer_by (site.behaviour.judges ask.thread call.Request node.local) (eqb ask.to me) fault here claim
    (request_allowed ask.thread node.local.core clean.0) other in
    let harmless = bad_harmless fault claim (claim_harmless _ _ _ _ _) in
    subst (λ (local : EndpointLocal). IsClean local.core) (sym (ap
    (λ (a : Asked). (after_request site node now ask a).local) answer
    ∙ asked_same site node now ask (unless_bad fault claim) harmless)) clean

-- a call that the rule table allows
allowed_does : (behaviour : Behaviour EndpointLocal) (thread : ℕ) (allowed : Result (Unit {0}) Forbidden)
    (local : EndpointLocal) (outcome : Answer × EndpointLocal) → allowed ≡ Ok tt → IsClean outcome.1.core
    → IsClean (unless_forbidden behaviour thread allowed local outcome).1.core
allowed_does behaviour thread allowed local outcome h clean =
    subst (λ (a : Result (Unit {0}) Forbidden). IsClean (unless_forbidden behaviour thread a local outcome).1.core)
    (sym h) clean

both_clean : (t : Bool) (a b : Answer × EndpointLocal) → IsClean a.1.core → IsClean b.1.core
    → IsClean (cond t a b).1.core
both_clean true a b h k = h
both_clean false a b h k = k

abbrev caller : (me thread : ℕ) → Node EndpointLocal → Caller
caller me thread node =
    record { settings = drill_settings; me = me; thread = thread; exhausted = is_exhausted drill_settings node }

sync_clean : (table : List (Option Entry)) (me : ℕ) (node : Node EndpointLocal) (now thread : ℕ) (some : ImplicitKinds)
    → IsClean node.local.core
    → IsClean (node_after (job table) me node now (NodeDoes thread (OnTransfers (SyncImplicit some)))).local.core
sync_clean table me node now thread some clean =
    let rules = endpoint_rules drill_settings table (script_meaning (handlers_of bare_job)) in
    allowed_does rules thread (rules.judges thread call.Sync node.local) node.local
    (transfer_does (caller me thread node) (SyncImplicit some) node.local)
    (sync_allowed thread node.local.core clean.0) (both_clean _ _ _ clean clean)

begin_by : (caller : Caller) (transfer : Transfer) (mode : Mode) (says : Begun) (local : EndpointLocal)
    → IsClean local.core → IsClean (after_beginning caller transfer mode says local).core
begin_by caller transfer mode (begun.Handle handle) local clean = clean
begin_by caller transfer mode begun.Done local clean = clean
begin_by caller transfer mode (begun.BadArg part) local clean = clean
begin_by caller transfer mode begun.TooMany local clean = clean

begin_clean : (table : List (Option Entry)) (me : ℕ) (node : Node EndpointLocal) (now thread : ℕ) (transfer : Transfer)
    → IsClean node.local.core
    → IsClean (node_after (job table) me node now (NodeDoes thread (OnTransfers (BeginImplicit transfer)))).local.core
begin_clean table me node now thread transfer clean =
    let rules = endpoint_rules drill_settings table (script_meaning (handlers_of bare_job)) in
    let who = caller me thread node in
    allowed_does rules thread (rules.judges thread call.Transfer node.local) node.local
    (transfer_does who (BeginImplicit transfer) node.local) (transfer_allowed thread node.local.core clean.0)
    (begin_by who transfer (implicit_mode node.local.regions thread)
    (begin_says who transfer node.local.operations) node.local clean)

-- a reply that comes back isn't for the handler of requests
not_refused : (o : Option Why) (v : Verdict) → unless_refused o v ≡ Returns → (o ≡ None) × (v ≡ Returns)
not_refused None v h = (refl, h)
not_refused (Some reason) v h = absurd (cc)

second_none : (a b : Option Why) → first_why a b ≡ None → b ≡ None
second_none None b h = h
second_none (Some reason) b h = absurd (cc)

no_return : (same passed : Bool) (lock : Option ℕ)
    → cond same Duplicated (cond passed Passed (unless_waiting lock Runs)) ≡ Returns → ⊥
no_return true passed lock h = cc
no_return false true lock h = cc
no_return false false None h = cc
no_return false false (Some l) h = cc

kind_by : (request : Bool) (ran back : Verdict) → (ran ≡ Returns → ⊥) → cond request ran back ≡ Returns
    → request ≡ false
kind_by true ran back never h = absurd (never h)
kind_by false ran back never h = refl

no_handler : (library ack request for_requests for_replies passes : Bool) (other : Option Why) → library ≡ false
    → ack ≡ false → request ≡ false → for_replies ≡ false
    → cond library other (cond (ack || cond request for_requests for_replies) (cond passes (Some why.Range) None)
    (Some why.Handler)) ≡ None → ⊥
no_handler library ack request for_requests for_replies passes other l a r f h =
    let left : ◌≡◌ {A = Option Why} (Some why.Handler) None = rw (l, a, r, f) at h in cc

right_by : (table : List (Option Entry)) (content : Content) (t : Bool) → eqb 128 content.handler ≡ t
    → is_for_replies (entry_at table 128) ≡ false → is_request content.kind ≡ false
    → is_ack (code content.kind) ≡ false → content_refusal drill_settings table content ≡ None → t ≡ false
right_by table content true e none kind ack h =
    let is : content.handler ≡ 128 = sym (eqb-true 128 content.handler e) in
    absurd (no_handler (is_library content.handler) (is_ack (code content.kind)) (is_request content.kind)
    (is_for_requests (entry_at table content.handler)) (is_for_replies (entry_at table content.handler))
    (passes_end drill_settings.segment content) (library_refusal drill_settings content) (ap is_library is) ack kind
    (ap (λ (n : ℕ). is_for_replies (entry_at table n)) is ∙ none) h)
right_by table content false e none kind ack h = refl

returns_right : (table : List (Option Entry)) (me : ℕ) (node : Node EndpointLocal) (message : Message)
    → is_for_replies (entry_at table 128) ≡ false → verdict (site_of (job table) me) node message ≡ Returns
    → is_ack (code message.kind) ≡ false → eqb 128 message.handler ≡ false
returns_right table me node message none h ack =
    let parts = not_refused _ _ h in
    let kind = kind_by (is_request message.kind) _ _ (no_return _ _ _) parts.1 in
    right_by table (content_of message) (eqb 128 message.handler) refl none kind ack (second_none _ _ parts.0)

came_by : (table : List (Option Entry)) (me : ℕ) (node : Node EndpointLocal) (message : Message) (v : Verdict)
    → (v ≡ Returns → is_ack (code message.kind) ≡ false → eqb 128 message.handler ≡ false)
    → IsClean node.local.core → IsClean (after_delivery (site_of (job table) me) node message v).local.core
came_by table me node message Runs right clean =
    run_clean table (with_sender me message) (content_of message) node.local.core clean
came_by table me node message Returns right clean =
    take_clean table (with_sender me message) (content_of message) node.local.core (right refl) clean
came_by table me node message (Refused reason) right clean = clean
came_by table me node message Duplicated right clean = clean
came_by table me node message Passed right clean = clean
came_by table me node message Missed right clean = clean
came_by table me node message (Waits lock) right clean = clean

comes_clean : (table : List (Option Entry)) (me : ℕ) (node : Node EndpointLocal) (now : ℕ) (message : Message)
    → is_for_replies (entry_at table 128) ≡ false → IsClean node.local.core
    → IsClean (node_after (job table) me node now (Comes message)).local.core
comes_clean table me node now message none clean =
    came_by table me node message (verdict (site_of (job table) me) node message)
    (returns_right table me node message none) clean

local_by : (t : Bool) (a b : EndpointLocal) → IsClean a.core → IsClean b.core → IsClean (cond t a b).core
local_by true a b h k = h
local_by false a b h k = k

tick_by : (table : List (Option Entry)) (me : ℕ) (node : Node EndpointLocal) (now : ℕ) (choice : TickChoice)
    → IsClean node.local.core → IsClean (after_tick (site_of (job table) me) node now choice).local.core
tick_by table me node now (Retransmits due) clean = clean
tick_by table me node now (Sends sending) clean = local_by _ _ _ clean clean
tick_by table me node now Rests clean = clean

-- ---- the events of a world

abbrev pub AreClean : Records → Type 0
AreClean records = (node : ℕ) → IsClean (records node).local.core

put_by : (t : Bool) (a b : Node EndpointLocal) → IsClean a.local.core → IsClean b.local.core
    → IsClean (cond t a b).local.core
put_by true a b h k = h
put_by false a b h k = k

put_clean : (records : Records) (node : ℕ) (new : Node EndpointLocal) → AreClean records → IsClean new.local.core
    → AreClean (put records node new)
put_clean records node new all one = λ other. put_by (eqb other node) new (records other) one (all other)

asked_world : (table : List (Option Entry)) (w : Records) (now node : ℕ) (ask : Ask) → eqb ask.to node ≡ false
    → AreClean w → AreClean (world_after (job table) w (timed_event now (Asks node ask)))
asked_world table w now node ask other all =
    put_clean w node (node_after (job table) node (w node) now (NodeAsks ask)) all
    (asks_clean table node (w node) now ask other (all node))

sync_world : (table : List (Option Entry)) (w : Records) (now node thread : ℕ) (some : ImplicitKinds) → AreClean w
    → AreClean (world_after (job table) w (timed_event now (Does node thread (OnTransfers (SyncImplicit some)))))
sync_world table w now node thread some all =
    put_clean w node (node_after (job table) node (w node) now (NodeDoes thread (OnTransfers (SyncImplicit some)))) all
    (sync_clean table node (w node) now thread some (all node))

begin_world : (table : List (Option Entry)) (w : Records) (now node thread : ℕ) (transfer : Transfer) → AreClean w
    → AreClean (world_after (job table) w (timed_event now (Does node thread (OnTransfers (BeginImplicit transfer)))))
begin_world table w now node thread transfer all =
    put_clean w node (node_after (job table) node (w node) now (NodeDoes thread (OnTransfers (BeginImplicit transfer))))
    all (begin_clean table node (w node) now thread transfer (all node))

tick_world : (table : List (Option Entry)) (w : Records) (now node : ℕ) → AreClean w
    → AreClean (world_after (job table) w (timed_event now (Ticks node)))
tick_world table w now node all =
    put_clean w node (node_after (job table) node (w node) now NodeTicks) all
    (tick_by table node (w node) now (tick_choice (site_of (job table) node) (w node) now) (all node))

request_by : (table : List (Option Entry)) (w : Records) (now from to number : ℕ) (o : Option Request)
    → is_for_replies (entry_at table 128) ≡ false → AreClean w
    → AreClean (after_at (job table) w now (request_event drill_settings from to number o))
request_by table w now from to number None none all = all
request_by table w now from to number (Some request) none all =
    let message = request_message drill_settings from to number request in
    put_clean w to (node_after (job table) to (w to) now (Comes message)) all
    (comes_clean table to (w to) now message none (all to))

reply_by : (table : List (Option Entry)) (w : Records) (now from to : ℕ) (o : Option Run)
    → is_for_replies (entry_at table 128) ≡ false → AreClean w
    → AreClean (after_at (job table) w now (reply_event drill_settings from to o))
reply_by table w now from to None none all = all
reply_by table w now from to (Some ran) none all =
    let message = reply_message drill_settings from to ran in
    put_clean w from (node_after (job table) from (w from) now (Comes message)) all
    (comes_clean table from (w from) now message none (all from))

-- ---- rounds

-- what lines leave
abbrev AreCleanBehind : (table : List (Option Entry)) → List TimedEvent → Nodes → Type 0
AreCleanBehind table lines nodes = AreClean (nodes_behind (job table) lines nodes).group.records

deed_clean : (table : List (Option Entry)) (time : ℕ) (deed : Deed) (round : Round) (before nodes : Nodes)
    → is_for_replies (entry_at table 128) ≡ false → eqb round.to round.from ≡ false → AreClean nodes.group.records
    → AreCleanBehind table (deed_lines time deed round before) nodes
deed_clean table time deeds.Short round before nodes none other all =
    let w = nodes.group.records in
    let words = operand.Number (pos (round.rest % 1000)) ∷ [] in
    let asking = short_asking 128 (map (operand_value (w round.from).local.core.cells []) words) in
    asked_world table w time round.from (record { thread = 0; to = round.to; what = asking }) other all
deed_clean table time deeds.Put round before nodes none other all =
    let w = nodes.group.records in
    let tried = world_after (job table) w (timed_event time (Does round.from 0 (OnTransfers (SyncImplicit some.All)))) in
    begin_world table tried time round.from 0 (transfers.Put round.to (round.rest % 8 * 4096) 0 4096)
    (sync_world table w time round.from 0 some.All all)
deed_clean table time deeds.Tick round before nodes none other all =
    tick_world table nodes.group.records time round.from all
deed_clean table time deeds.Request round before nodes none other all =
    let w = nodes.group.records in
    let number = delivered_number round before.group.records in
    request_by table w time round.from round.to number (element_at ((w round.from).asked round.to) number) none all
deed_clean table time deeds.Reply round before nodes none other all =
    let w = nodes.group.records in
    reply_by table w time round.from round.to
    (run_of (delivered_number round before.group.records) ((w round.to).ran round.from))
    none all

-- lines, and lines behind them
behind_both : (drill : WorldJob) (xs ys : List TimedEvent) (nodes : Nodes)
    → nodes_behind drill (xs ++ ys) nodes ≡ nodes_behind drill ys (nodes_behind drill xs nodes)
behind_both drill [] ys nodes = refl
behind_both drill (x ∷ xs) ys nodes = behind_both drill xs ys (nodes_after drill nodes x)

rounds_clean : (table : List (Option Entry)) (seed count : ℕ) (nodes : Nodes)
    → is_for_replies (entry_at table 128) ≡ false → AreClean nodes.group.records
    → AreCleanBehind table (rounds_lines (job table) seed count nodes) nodes
unfolding rounds_lines
rounds_clean table seed zero nodes none all = all
rounds_clean table seed (suc count) nodes none all =
    let drill = job table in
    let earlier = rounds_lines drill seed count nodes in
    let after = nodes_behind drill earlier nodes in
    let more = round_lines count (round_at seed count) after in
    subst (λ (left : Nodes). AreClean left.group.records) (sym (behind_both drill earlier more nodes))
    (deed_clean table count (round_at seed count).deed (round_at seed count) after after none
    (apart_there (before_round seed count)) (rounds_clean table seed count nodes none all))

-- ---- the drill

none_noted : (records : Records) (node count : ℕ) → AreClean records → any_violation records node count ≡ false
none_noted records node zero all = refl
none_noted records node (suc count) all =
    let none : violations (records node) ≡ 0 = rw (all node).1 refl in
    rw (none, none_noted records (node + 1) count all) refl

pub drill_calm : (seed : ℕ) → is_violated (drill_job seed) ≡ false
unfolding drill_schedule
drill_calm seed =
    none_noted (run_records (drill_job seed)) 0 4
    (subst AreClean (schedule_runs (world_job bare_job) (drill_schedule seed) (opening_nodes bare_job))
    (rounds_clean (registry_of (handlers_of bare_job)).table seed 20000 (opening_nodes bare_job) refl
    (λ node. (refl, refl))))
