-- A node that keeps a part of what a larger one keeps answers as that one, and the part is left as it leaves it.
use Rattle.std.proofs.Common.{◌≡◌, ℕ, Option, None, Some, Result, Ok, Err, refl, ap}
use Rattle.wire_message.specs.Content.{Content, content_of}
use Rattle.wire_message.specs.Message.{Message}
use Rattle.part_handlers.specs.declared.rules.CallKind.{CallKind}
use Rattle.part_handlers.specs.declared.rules.CallKind.TheVariants as call
use Rattle.part_handlers.specs.declared.rules.Forbidden.{Forbidden}
use Rattle.spec_node.specs.declared.answer.Asked.{Asked}
use Rattle.spec_node.specs.declared.answer.Asked.TheVariants as asked
use Rattle.spec_node.specs.Record.{Node}
use Rattle.spec_node.specs.Requests.{Due}
use Rattle.spec_node.specs.Behaviour.{Behaviour, Ask}
use Rattle.spec_node.specs.Step.{Site, request_answer, after_request, after_check, verdict, Verdict, Runs, Returns}
use Rattle.spec_node.specs.Step.{after_delivery, after_resend, with_sender, with_itself, judged_local, with_local}
use Rattle.spec_node.specs.Step.{ran_here}
use Rattle.spec_node.specs.Under.{under, IsOver, site_with}

-- ---- answers

-- a thread's request is answered alike
pub request_alike : {Larger Smaller : Type 0} (part : Larger → Smaller) (own : Behaviour Smaller) (site : Site Larger)
    (node : Node Larger) (ask : Ask) → IsOver part site.behaviour own
    → request_answer site node ask ≡ request_answer (site_with site own) (under part node) ask
request_alike part own site node ask over =
    rw (over.judges ask.thread call.Request node.local)
    (rw (over.faults ask.what)
    (rw (over.says ask.what node.local)
    (rw (over.busy (own.says ask.what (part node.local)) node.local) refl)))

-- the same becomes of a message
pub verdict_alike : {Larger Smaller : Type 0} (part : Larger → Smaller) (own : Behaviour Smaller) (site : Site Larger)
    (node : Node Larger) (message : Message) → IsOver part site.behaviour own
    → verdict site node message ≡ verdict (site_with site own) (under part node) message
verdict_alike part own site node message over =
    rw (over.refuses (content_of message)) (rw (over.waits (content_of message) node.local) refl)

-- ---- what is left

-- after the rule table judged a call so
judged_under : {Larger Smaller : Type 0} (part : Larger → Smaller) (own : Behaviour Smaller)
    (behaviour : Behaviour Larger) (thread : ℕ) (local : Larger) → IsOver part behaviour own
    → (judgement : Result (Unit {0}) Forbidden)
    → part (judged_local behaviour thread judgement local) ≡ judged_local own thread judgement (part local)
judged_under part own behaviour thread local over (Ok allowed) = refl
judged_under part own behaviour thread local over (Err forbidden) = over.notes thread forbidden local

-- after the rule table judged a call
pub check_under : {Larger Smaller : Type 0} (part : Larger → Smaller) (own : Behaviour Smaller)
    (behaviour : Behaviour Larger) (node : Node Larger) (thread : ℕ) (kind : CallKind) → IsOver part behaviour own
    → under part (after_check behaviour node thread kind) ≡ after_check own (under part node) thread kind
check_under part own behaviour node thread kind over =
    rw (judged_under part own behaviour thread node.local over (behaviour.judges thread kind node.local))
    (rw (over.judges thread kind node.local) refl)

-- after a run of a request to the local node
ran_under : {Larger Smaller : Type 0} (part : Larger → Smaller) (own : Behaviour Smaller)
    (behaviour : Behaviour Larger) (me : ℕ) (content : Content) (local : Larger) → IsOver part behaviour own
    → part (ran_here behaviour me content local) ≡ ran_here own me content (part local)
ran_under part own behaviour me content local over =
    rw (over.take (with_itself me) (behaviour.run (with_itself me) content local).1
    (behaviour.run (with_itself me) content local).0)
    (rw (over.run (with_itself me) content local) (rw (over.reply (with_itself me) content local) refl))

-- after a thread's request
pub request_under : {Larger Smaller : Type 0} (part : Larger → Smaller) (own : Behaviour Smaller) (site : Site Larger)
    (node : Node Larger) (now : ℕ) (ask : Ask) (answer : Asked) → IsOver part site.behaviour own
    → under part (after_request site node now ask answer)
    ≡ after_request (site_with site own) (under part node) now ask answer
request_under part own site node now ask (asked.Accepted to slot number) over =
    rw (over.says ask.what node.local) refl
request_under part own site node now ask asked.Ran over =
    rw (over.says ask.what node.local)
    (ap (with_local (under part node))
    (ran_under part own site.behaviour site.me (own.says ask.what (part node.local)) node.local over))
request_under part own site node now ask (asked.Forbidden forbidden) over =
    ap (with_local (under part node)) (over.notes ask.thread forbidden node.local)
request_under part own site node now ask _ over = refl

-- after a delivery
pub delivery_under : {Larger Smaller : Type 0} (part : Larger → Smaller) (own : Behaviour Smaller) (site : Site Larger)
    (node : Node Larger) (message : Message) (verdict : Verdict) → IsOver part site.behaviour own
    → under part (after_delivery site node message verdict)
    ≡ after_delivery (site_with site own) (under part node) message verdict
delivery_under part own site node message Runs over =
    let contact = with_sender site.me message in
    rw (over.run contact (content_of message) node.local)
    (rw (over.reply contact (content_of message) node.local) refl)
delivery_under part own site node message Returns over =
    rw (over.take (with_sender site.me message) (content_of message) node.local) refl
delivery_under part own site node message _ over = refl

-- after a request was sent again
pub resend_under : {Larger Smaller : Type 0} (part : Larger → Smaller) (node : Node Larger) (now : ℕ)
    (due : Option Due) → under part (after_resend node now due) ≡ after_resend (under part node) now due
resend_under part node now None = refl
resend_under part node now (Some due) = refl
