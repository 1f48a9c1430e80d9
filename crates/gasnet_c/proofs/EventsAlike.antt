-- An event of a node goes by what handlers mean at its runs alone.
use Rattle.std.proofs.Common.{◌≡◌, inl, inr, ℕ, false}
use Rattle.std.proofs.Common.{List, Option, refl, ap}
use Rattle.std.proofs.Common.{◌∙◌}
use Rattle.std.proofs.lemmas.Bool.{cases_Bool}
use Rattle.wire_message.specs.Parameters.{Parameters}
use Rattle.wire_message.specs.Message.{Message}
use Rattle.wire_message.specs.Content.{Content, code, is_ack, content_of}
use Rattle.part_handlers.specs.declared.table.Entry.{Entry}
use Rattle.part_handlers.specs.declared.rules.Role.{Role}
use Rattle.part_handlers.specs.declared.rules.Role.TheVariants as role
use Rattle.part_handlers.specs.Runs.{Frame, Start, Outcome, Meaning, after_return}
use Rattle.spec_node.specs.declared.answer.Asked.{Asked}
use Rattle.spec_node.specs.declared.answer.Asked.TheVariants as asked
use Rattle.spec_node.specs.Behaviour.{Ask, Contact}
use Rattle.spec_node.specs.Step.{with_itself, with_sender, request_answer, request_content, verdict, Verdict, Runs}
use Rattle.spec_node.specs.Step.{Returns, after_request, after_delivery, with_local, with_run, with_back, ran_here}
use Rattle.spec_node.specs.NodeStep.{Asks, Does, Comes, Ticks, site_of}
use Rattle.spec_node.specs.NodeStep.{node_after, node_answer}
use Rattle.node_core.specs.Kept.{Local, start_from, with_writes}
use Rattle.node_core.specs.Library.{is_library}
use Rattle.node_core.specs.HandlerRuns.{handlers_of, landing, frame_of_run, run_request, run_reply, outcome}
use Rattle.node_core.specs.HandlerRuns.{left_by_run, reply_or_ack}
use Rattle.node_rules.specs.EndpointLocal.{EndpointLocal}
use Rattle.node_rules.specs.EndpointRules.{RecordEvent, job_of, endpoint_rules}
use Rattle.node_rules.specs.EndpointRules.{after_notification}
use Rattle.part_transfers.specs.Operation.{come_back}
use Rattle.gasnet_c.specs.Meanings.{AtRun, AtReply, AtOwnRuns, NodeBefore, AtRuns}

-- ---- an event goes by what its runs mean

-- both mean the same there
abbrev pub Agree : Meaning → Meaning → (handler : ℕ) → Frame → Start → Type 0
Agree one other handler frame start = one handler frame start ≡ other handler frame start

outcome_same : (settings : Parameters) (table : List (Option Entry)) (one other : Meaning) (which : Role)
    (contact : Contact) (content : Content) (start : Start)
    → (is_library content.handler ≡ false
    → Agree one other content.handler (frame_of_run (handlers_of settings table other) which contact content) start)
    → outcome (handlers_of settings table one) which contact content start
    ≡ outcome (handlers_of settings table other) which contact content start
outcome_same settings table one other which contact content start same =
    elim (cases_Bool (is_library content.handler)) [
      | inl own ↦ rw own refl
      | inr client ↦ rw client
          (ap (after_return (frame_of_run (handlers_of settings table other) which contact content)) (same client))
    ]

request_same : (settings : Parameters) (table : List (Option Entry)) (one other : Meaning) (contact : Contact)
    (content : Content) (local : Local)
    → AtRun (handlers_of settings table other) role.Request contact content local (Agree one other)
    → run_request (handlers_of settings table one) contact content local
    ≡ run_request (handlers_of settings table other) contact content local
request_same settings table one other contact content local same =
    let landed = with_writes local (landing content) in
    ap (λ (run : Outcome). (left_by_run role.Request run landed, reply_or_ack run.reply))
    (outcome_same settings table one other role.Request contact content (start_from settings landed) same)

reply_same : (settings : Parameters) (table : List (Option Entry)) (one other : Meaning) (contact : Contact)
    (content : Content) (local : Local)
    → AtReply (handlers_of settings table other) contact content local (Agree one other)
    → run_reply (handlers_of settings table one) contact content local
    ≡ run_reply (handlers_of settings table other) contact content local
reply_same settings table one other contact content local same =
    let landed = with_writes local (landing content) in
    elim (cases_Bool (is_ack (code content.kind))) [
      | inl ack ↦ rw ack refl
      | inr reply ↦ rw reply (ap (λ (run : Outcome). left_by_run role.Reply run landed)
          (outcome_same settings table one other role.Reply contact content (start_from settings landed) (same reply)))
    ]

-- what a request of the node to itself leaves, where the runs leave this of the core
abbrev left_here : NodeBefore → Content → EndpointLocal → Local → EndpointLocal
left_here at content local core = record local {
  core = core;
  barrier = after_notification at.settings content local.barrier;
  operations = come_back at.me 0 0 local.operations;
}

own_same : (at : NodeBefore) (one other : Meaning) (content : Content) (local : EndpointLocal)
    → AtOwnRuns (handlers_of at.settings at.table other) at.me content local.core (Agree one other)
    → ran_here (endpoint_rules at.settings at.table one) at.me content local
    ≡ ran_here (endpoint_rules at.settings at.table other) at.me content local
own_same at one other content local same =
    let out = run_request (handlers_of at.settings at.table other) (with_itself at.me) content local.core in
    ap (λ (it : Local × Content). left_here at content local
    (run_reply (handlers_of at.settings at.table one) (with_itself at.me) it.1 it.0))
    (request_same at.settings at.table one other (with_itself at.me) content local.core same.0)
    ∙ ap (left_here at content local)
    (reply_same at.settings at.table one other (with_itself at.me) out.1 out.0 same.1)

asked_same : (at : NodeBefore) (one other : Meaning) (now : ℕ) (ask : Ask) (answer : Asked)
    → (answer ≡ asked.Ran
    → AtOwnRuns (handlers_of at.settings at.table other) at.me
    (request_content (site_of (job_of at.settings at.table other) at.me) at.node ask) at.node.local.core
    (Agree one other))
    → after_request (site_of (job_of at.settings at.table one) at.me) at.node now ask answer
    ≡ after_request (site_of (job_of at.settings at.table other) at.me) at.node now ask answer
asked_same at one other now ask asked.Ran same =
    ap (with_local at.node)
    (own_same at one other (request_content (site_of (job_of at.settings at.table other) at.me) at.node ask)
    at.node.local (same refl))
asked_same at one other now ask _ same = refl

delivered_same : (at : NodeBefore) (one other : Meaning) (message : Message) (what : Verdict)
    → (what ≡ Runs
    → AtRun (handlers_of at.settings at.table other) role.Request (with_sender at.me message) (content_of message)
    at.node.local.core (Agree one other))
    → (what ≡ Returns
    → AtReply (handlers_of at.settings at.table other) (with_sender at.me message) (content_of message)
    at.node.local.core (Agree one other))
    → after_delivery (site_of (job_of at.settings at.table one) at.me) at.node message what
    ≡ after_delivery (site_of (job_of at.settings at.table other) at.me) at.node message what
delivered_same at one other message Runs runs returns =
    let content = content_of message in
    let local = at.node.local in
    ap (λ (out : Local × Content). with_run at.node (with_sender at.me message) content
    (record local { core = out.0; barrier = after_notification at.settings content local.barrier }, out.1))
    (request_same at.settings at.table one other (with_sender at.me message) content local.core (runs refl))
delivered_same at one other message Returns runs returns =
    let local = at.node.local in
    ap (λ (core : Local). with_back at.node message.from message.number
    (record local {
      core = core;
      operations = come_back message.from message.slot message.number local.operations;
    }))
    (reply_same at.settings at.table one other (with_sender at.me message) (content_of message) local.core
    (returns refl))
delivered_same at one other message _ runs returns = refl

pub event_same : (at : NodeBefore) (one other : Meaning) (now : ℕ) (event : RecordEvent)
    → AtRuns at other event (Agree one other)
    → node_after (job_of at.settings at.table one) at.me at.node now event
    ≡ node_after (job_of at.settings at.table other) at.me at.node now event
event_same at one other now (Asks ask) same =
    asked_same at one other now ask (request_answer (site_of (job_of at.settings at.table other) at.me) at.node ask)
    same
event_same at one other now (Does thread call) same = refl
event_same at one other now (Comes message) same =
    delivered_same at one other message
    (verdict (site_of (job_of at.settings at.table other) at.me) at.node message) same.0 same.1
event_same at one other now Ticks same = refl

pub answer_same : (at : NodeBefore) (one other : Meaning) (now : ℕ) (event : RecordEvent)
    → node_answer (job_of at.settings at.table one) at.me at.node now event
    ≡ node_answer (job_of at.settings at.table other) at.me at.node now event
answer_same at one other now (Asks ask) = refl
answer_same at one other now (Does thread call) = refl
answer_same at one other now (Comes message) = refl
answer_same at one other now Ticks = refl
