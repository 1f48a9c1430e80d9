-- A start.
use Rattle.std.proofs.Common.{◌≡◌, inl, inr, ℕ, List, []}
use Rattle.std.proofs.Common.{◌++◌, Option, refl, sym, ap, ◌∙◌, append-nil}
use Rattle.std.specs.Prelude.{◌≢◌, if◌then◌else◌}
use Rattle.std.proofs.lemmas.Bool.{cases_eq}
use Rattle.wire_message.specs.Parameters.{Parameters}
use Rattle.wire_message.specs.Content.{Content, ack}
use Rattle.part_segment.specs.Image.{AllFit}
use Rattle.part_handlers.specs.declared.table.Entry.{Entry}
use Rattle.part_handlers.specs.declared.rules.Role.TheVariants as role
use Rattle.part_handlers.specs.Runs.{Frame, Meaning, Outcome, Start, after_return}
use Rattle.base_lists.specs.Put.{put}
use Rattle.base_lists.proofs.Put.{put_same, put_other}
use Rattle.spec_node.specs.declared.answer.Asked.{Asked}
use Rattle.spec_node.specs.declared.answer.Asked.TheVariants as asked
use Rattle.spec_node.specs.Behaviour.{Ask, Contact}
use Rattle.spec_node.specs.Step.{request_content, with_itself}
use Rattle.spec_node.specs.NodeStep.{site_of}
use Rattle.spec_network.specs.Plain.{Plain, plain_of, with_plain}
use Rattle.spec_network.specs.PlainStep.{AskStep}
use Rattle.spec_network.specs.Invariant.{Holds}
use Rattle.node_core.specs.Kept.{Local, start_from, with_writes}
use Rattle.node_core.specs.Library.{is_library, library_outcome}
use Rattle.node_core.specs.HandlerRuns.{frame_of_run, handlers_of, landing, reply_or_ack, run_reply, run_request}
use Rattle.node_rules.specs.EndpointLocal.{EndpointLocal, IsEndpointKept}
use Rattle.node_rules.specs.EndpointRules.{Records, job_of}
use Rattle.law_transfers.specs.Chunks.{writes_at}
use Rattle.part_collective_area.specs.Area.{Area}
use Rattle.part_collective_area.specs.Served.{ServesCollectives, collective_handler}
use Rattle.law_collectives.specs.Groups.{Group, content_writes}
use Rattle.law_collectives.specs.Invariant.{GroupHolds}
use Rattle.law_collectives.proofs.Messages.{collective_left}
use Rattle.law_collectives.proofs.Quiet.{asks_same, fresh_same, quiet_kept, ran_same, with_records}
use Rattle.law_collectives.proofs.Events.{Setting, quiet_by}

-- ---- events that leave segments as they are

-- nothing was asked, run or written
pub quiet_still : (settings : Parameters) (table : List (Option Entry)) (meaning : Meaning) (area : Area)
    (group : Group) (next : Records) → Setting settings table meaning area
    → GroupHolds (job_of settings table meaning) area group
    → Holds (job_of settings table meaning) (IsEndpointKept settings) next
    → (plain_of next).requests ≡ (plain_of group.records).requests
    → (plain_of next).runs ≡ (plain_of group.records).runs
    → ((node : ℕ) → writes_at next node ≡ writes_at group.records node)
    → GroupHolds (job_of settings table meaning) area (with_records group next)
quiet_still settings table meaning area group next setting holds after requests runs writes =
    let plain = plain_of group.records in
    quiet_kept (job_of settings table meaning) area group next holds
    (quiet_by settings table meaning area group next setting holds after
    (asks_same plain (plain_of next) requests) (fresh_same plain (plain_of next) requests)
    (ran_same plain (plain_of next) (asks_same plain (plain_of next) requests) runs)
    (λ node has. (
      [],
      writes node ∙ (sym (append-nil (writes_at group.records node))
          ∙ sym (append-nil (writes_at group.records node ++ []))),
      tt,
    )))

-- what one node keeps changed, but not what was written
local_still : (now next : Records) (node : ℕ) (local : EndpointLocal) → plain_of next ≡ with_plain (plain_of now) node local
    → local.core.writes ≡ writes_at now node → (other : ℕ) → writes_at next other ≡ writes_at now other
local_still now next node local is same other =
    ap (λ (plain : Plain EndpointLocal). (plain.local other).core.writes) is
    ∙ elim (cases_eq other node) [
      | inl here ↦ ap (λ (at : EndpointLocal). at.core.writes)
          (ap (put (plain_of now).local node local) here ∙ put_same (plain_of now).local node local)
          ∙ (same ∙ ap (writes_at now) (sym here))
      | inr apart ↦ ap (λ (at : EndpointLocal). at.core.writes) (put_other (plain_of now).local node local other apart)
    ]

-- all is as it was
same_still : (settings : Parameters) (table : List (Option Entry)) (meaning : Meaning) (area : Area)
    (group : Group) (next : Records) → Setting settings table meaning area
    → GroupHolds (job_of settings table meaning) area group
    → Holds (job_of settings table meaning) (IsEndpointKept settings) next
    → plain_of next ≡ plain_of group.records
    → GroupHolds (job_of settings table meaning) area (with_records group next)
same_still settings table meaning area group next setting holds after is =
    quiet_still settings table meaning area group next setting holds after
    (ap (λ (plain : Plain EndpointLocal). plain.requests) is) (ap (λ (plain : Plain EndpointLocal). plain.runs) is)
    (λ node. ap (λ (plain : Plain EndpointLocal). (plain.local node).core.writes) is)

-- a request that isn't accepted and doesn't run leaves all of that as it was
pub ask_still : (settings : Parameters) (table : List (Option Entry)) (meaning : Meaning) (area : Area)
    (group : Group) (next : Records) (node : ℕ) (ask : Ask) (answer : Asked) → Setting settings table meaning area
    → GroupHolds (job_of settings table meaning) area group
    → Holds (job_of settings table meaning) (IsEndpointKept settings) next
    → AskStep (site_of (job_of settings table meaning) node) (plain_of group.records) ask answer (plain_of next)
    → answer ≢ asked.Ran → ((to slot number : ℕ) → answer ≢ asked.Accepted to slot number)
    → GroupHolds (job_of settings table meaning) area (with_records group next)
ask_still settings table meaning area group next node ask (asked.Accepted to slot number) setting holds after step ran
    accepted = absurd (accepted to slot number refl)
ask_still settings table meaning area group next node ask asked.Ran setting holds after step ran accepted =
    absurd (ran refl)
ask_still settings table meaning area group next node ask (asked.Forbidden forbidden) setting holds after step ran
    accepted =
    quiet_still settings table meaning area group next setting holds after
    (ap (λ (plain : Plain EndpointLocal). plain.requests) step.1)
    (ap (λ (plain : Plain EndpointLocal). plain.runs) step.1)
    (local_still group.records next node _ step.1 refl)
ask_still settings table meaning area group next node ask asked.NotYet setting holds after step ran accepted =
    same_still settings table meaning area group next setting holds after step.3
ask_still settings table meaning area group next node ask asked.Exhausted setting holds after step ran accepted =
    same_still settings table meaning area group next setting holds after step.2
ask_still settings table meaning area group next node ask (asked.BadArg part) setting holds after step ran accepted =
    same_still settings table meaning area group next setting holds after step.2
ask_still settings table meaning area group next node ask (asked.LockBusy lock) setting holds after step ran accepted =
    same_still settings table meaning area group next setting holds after step.3

-- ---- the message of a start runs at its own node

-- a message of collectives has no reply but an Ack
pub collective_acks : (settings : Parameters) (table : List (Option Entry)) (meaning : Meaning) (contact : Contact)
    (content : Content) (local : Local) → ServesCollectives meaning → content.handler ≡ collective_handler
    → (run_request (handlers_of settings table meaning) contact content local).1 ≡ ack
collective_acks settings table meaning contact content local serves handler =
    let handlers = handlers_of settings table meaning in
    let frame = frame_of_run handlers role.Request contact content in
    let start = start_from settings (with_writes local (landing content)) in
    ap (λ (run : Outcome). reply_or_ack run.reply)
    (client content.handler frame start handler ∙ ap (after_return frame) (serves frame start))
  where
    client : (index : ℕ) (frame : Frame) (at : Start) → index ≡ collective_handler
        → (if is_library index then library_outcome content at else after_return frame (meaning index frame at))
        ≡ after_return frame (meaning collective_handler frame at)
    client index frame at is = rw is refl

-- what the node wrote then: what the message says
pub own_left : (settings : Parameters) (table : List (Option Entry)) (meaning : Meaning) (now next : Records)
    (node : ℕ) (ask : Ask) → ServesCollectives meaning
    → Holds (job_of settings table meaning) (IsEndpointKept settings) now
    → AskStep (site_of (job_of settings table meaning) node) (plain_of now) ask asked.Ran (plain_of next)
    → (request_content (site_of (job_of settings table meaning) node) (now node) ask).handler ≡ collective_handler
    → AllFit settings.segment (landing (request_content (site_of (job_of settings table meaning) node) (now node) ask))
    → writes_at next node ≡ writes_at now node
    ++ content_writes settings.segment (request_content (site_of (job_of settings table meaning) node) (now node) ask)
own_left settings table meaning now next node ask serves holds step handler fit =
    let handlers = handlers_of settings table meaning in
    let content = request_content (site_of (job_of settings table meaning) node) (now node) ask in
    let core = (now node).local.core in
    let out = run_request handlers (with_itself node) content core in
    let written : writes_at next node ≡ (run_reply handlers (with_itself node) out.1 out.0).writes
    = ap (λ (plain : Plain EndpointLocal). (plain.local node).core.writes) step.3
    ∙ ap (λ (local : EndpointLocal). local.core.writes) (put_same (plain_of now).local node _) in
    written
    ∙ (ap (λ (reply : Content). (run_reply handlers (with_itself node) reply out.0).writes)
    (collective_acks settings table meaning (with_itself node) content core serves handler)
    ∙ collective_left settings table meaning (with_itself node) content node core serves handler fit
    (holds.kept node).core)
