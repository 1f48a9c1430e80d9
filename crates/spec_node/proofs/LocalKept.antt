-- What a node keeps beside its requests and runs stays good.
use Rattle.std.proofs.Common.{◌≡◌, ℕ}
use Rattle.std.proofs.Common.{refl}
use Rattle.wire_message.specs.Content.{content_of}
use Rattle.wire_message.specs.Message.{Message}
use Rattle.spec_node.specs.declared.answer.Asked.{Asked}
use Rattle.spec_node.specs.declared.answer.Asked.TheVariants as asked
use Rattle.spec_node.specs.Record.{Node}
use Rattle.spec_node.specs.Behaviour.{Ask, IsSound}
use Rattle.spec_node.specs.Step.{Site, request_answer}
use Rattle.spec_node.specs.Step.{after_request, request_content, with_itself, Verdict}
use Rattle.spec_node.specs.Step.{Runs, Returns}
use Rattle.spec_node.specs.Step.{verdict, after_delivery, with_sender, can_ask, next_due, TickChoice, Sends}
use Rattle.spec_node.specs.Step.{tick_choice, with_asked, after_tick, is_exhausted}
use Rattle.spec_node.specs.NodeStep.{Job, site_of, IsAllSound, NodeEvent, Asks, Does, Comes, Ticks, node_after}
use Rattle.spec_node.proofs.Answers.{here_says, runs_says, returns_says, sends_choice}

-- a thread makes a request
request_kept : {Local : Type 0} (site : Site Local) (IsKept : (me : ℕ) → Local → Type 0) (node : Node Local) (now : ℕ)
    (ask : Ask) (answer : Asked) → IsSound site.behaviour IsKept → IsKept site.me node.local
    → request_answer site node ask ≡ answer → IsKept site.me (after_request site node now ask answer).local
request_kept site IsKept node now ask (asked.Forbidden forbidden) S G e =
    S.notes site.me ask.thread forbidden node.local G
request_kept site IsKept node now ask asked.Ran S G e =
    let content = request_content site node ask in
    let well = S.says site.me ask.what node.local G (here_says site node ask e) in
    let out = site.behaviour.run (with_itself site.me) content node.local in
    S.take (with_itself site.me) out.1 out.0 (S.run (with_itself site.me) content node.local G well)
    (S.replies (with_itself site.me) content node.local G well)
request_kept site IsKept node now ask _ S G e = G

-- a message is delivered
delivery_kept : {Local : Type 0} (site : Site Local) (IsKept : (me : ℕ) → Local → Type 0) (node : Node Local)
    (message : Message) (v : Verdict) → IsSound site.behaviour IsKept → IsKept site.me node.local
    → verdict site node message ≡ v → IsKept site.me (after_delivery site node message v).local
delivery_kept site IsKept node message Runs S G e =
    S.run (with_sender site.me message) (content_of message) node.local G (runs_says site node message e).well
delivery_kept site IsKept node message Returns S G e =
    S.take (with_sender site.me message) (content_of message) node.local G (returns_says site node message e).well
delivery_kept site IsKept node message _ S G e = G

-- a tick
tick_kept : {Local : Type 0} (site : Site Local) (IsKept : (me : ℕ) → Local → Type 0) (node : Node Local) (now : ℕ)
    (choice : TickChoice) → IsSound site.behaviour IsKept → IsKept site.me node.local
    → tick_choice site node now ≡ choice → IsKept site.me (after_tick site node now choice).local
tick_kept site IsKept node now (Sends sending) S G e =
    let next = site.behaviour.next site.me (can_ask site node) node.local in
    S.issued (with_asked site.me node sending.to) (can_ask site node) sending.content node.local G
    (sends_choice (next_due site.settings node now) next sending e)
tick_kept site IsKept node now _ S G e = G

-- any event: nothing is asked of the bytes that come
pub event_kept : {Local Call Told : Type 0} (job : Job Local Call Told) (IsKept : (me : ℕ) → Local → Type 0) (me : ℕ)
    (node : Node Local) (now : ℕ) (event : NodeEvent Call) → IsAllSound job.behaviour IsKept → IsKept me node.local
    → IsKept me (node_after job me node now event).local
event_kept job IsKept me node now (Asks ask) S G = request_kept (site_of job me) IsKept node now ask _ S.messages G refl
event_kept job IsKept me node now (Does thread call) S G =
    S.does me (is_exhausted job.settings node) thread call node.local G
event_kept job IsKept me node now (Comes message) S G =
    delivery_kept (site_of job me) IsKept node message _ S.messages G refl
event_kept job IsKept me node now Ticks S G = tick_kept (site_of job me) IsKept node now _ S.messages G refl
