-- What an event sends stands in the slot that its answer names.
use Rattle.std.proofs.Common.{◌≡◌, inl, inr, ℕ, ◌≤◌, Bool, true, false, true≢false, eqb, List, [], Option}
use Rattle.std.proofs.Common.{None}
use Rattle.std.proofs.Common.{Some, refl, sym, ap, ap₂, ◌∙◌, subst, arith}
use Rattle.std.specs.Prelude.{nat_lt, if◌then◌else◌}
use Rattle.std.proofs.lemmas.Bool.{cases_Bool, eqb-true}
use Rattle.wire_message.specs.Message.{Message}
use Rattle.wire_message.specs.Content.{content_of}
use Rattle.part_handlers.specs.Runs.{Meaning}
use Rattle.spec_node.specs.declared.answer.Asked.{Asked as AskedAnswer}
use Rattle.spec_node.specs.declared.answer.Asked.TheVariants as asked
use Rattle.spec_node.specs.Record.{Request, Run, Node, element_at}
use Rattle.spec_node.specs.Requests.{Due, is_open}
use Rattle.spec_node.specs.declared.answer.Why.{Why}
use Rattle.spec_node.specs.Executed.{greatest, run_at}
use Rattle.spec_node.specs.Behaviour.{Ask, is_request}
use Rattle.spec_node.specs.Step.{Verdict, Refused, Duplicated, Passed, Runs, Missed, Returns, verdict, answer_by}
use Rattle.spec_node.specs.Step.{request_answer, request_slot, reply_slot, next_due, choice_of, tick_answer}
use Rattle.spec_node.specs.Step.{unless_refused, unless_waiting, verdict_of_number, taken_back, refusal}
use Rattle.spec_node.specs.NodeStep.{Job, site_of}
use Rattle.spec_node.proofs.Answers.{accepted_says}
use Rattle.spec_node.proofs.Runs.{greatest_there, run_at_says, run_at_from}
use Rattle.node_rules.specs.Sent.{Packet, asking, replying, asked_sends, delivered_sends, ticked_sends}
use Rattle.node_rules.proofs.PlainTicks.{IsOpenAt, all_dues_open, earliest_has}
use Rattle.node_rules.specs.PlainAnswers.{is_plain_answer}
use Rattle.node_rules.proofs.PlainAnswers.{answers_plain}
use Rattle.node_rules.specs.EndpointRules.{OtherCall, transition, asked_answer, does_call}
use Rattle.node_rules.specs.CoreCalls.{OnSegment}
use Rattle.node_core.specs.ClientRules.{rules}
use Rattle.node_rules.specs.EndpointLocal.{EndpointLocal}
use Rattle.node_rules.specs.EndpointRules.{OnCore}
use Rattle.node_rules.specs.EndpointRules.{sent_as}
use Rattle.node_rules.specs.TransferCalls.{Caller}
use Rattle.node_core.specs.Library.{notification_handler, run_answer}
use Rattle.spec_node.specs.declared.answer.SlotRef.{SlotRef}
use Rattle.spec_node.specs.Behaviour.{Sending}
use Rattle.spec_node.specs.Requests.{next_claim}
use Rattle.wire_message.specs.Content.{Content}
use Rattle.std.specs.Prelude.{◌==◌}
use Rattle.node_endpoint.specs.Parts.{caller_in}
use Rattle.node_rules.specs.Sends.{sends}
use Rattle.node_rules.specs.Called.{Meant, Requests, Performs, meant, node_event}
use Rattle.node_endpoint.specs.EndpointState.{EndpointState, EndpointSteps, NodeSteps, job_here}
use Rattle.node_endpoint.specs.Sends.{AreThatOf, NodeSends, StepSends}
use Rattle.node_rules.specs.declared.call.Event.{Event}
use Rattle.node_rules.specs.declared.call.Event.TheVariants as event
use Rattle.node_rules.specs.declared.answer.Answer.{Answer}
use Rattle.node_rules.specs.declared.answer.Answer.TheVariants as answers

-- the answer is the record's, so what is said of the record's holds of it
at_answer : (answer told_is : Answer) (packets : List Packet) → answer ≡ told_is
    → AreThatOf (sends told_is) packets → AreThatOf (sends answer) packets
at_answer answer told_is packets same holds = subst (λ a. AreThatOf (sends a) packets) (sym same) holds

-- a request of a thread
asked_slot : (job : Job EndpointLocal OtherCall Answer) (me : ℕ) (node : Node EndpointLocal) (ask : Ask)
    (a : AskedAnswer)
    → request_answer (site_of job me) node ask ≡ a
    → AreThatOf (sends (asked_answer a)) (asked_sends (site_of job me) node ask a)
asked_slot job me node ask (asked.Accepted to slot number) e =
    let says = accepted_says (site_of job me) node ask to slot number e in
    (_, refl, ap (λ t. request_slot t slot) (sym says.peer_is))
asked_slot job me node ask _ e = refl

-- a request that comes again
repeated_slot : (me from slot number : ℕ) (runs : List Run) → 1 ≤ number → number ≡ greatest slot runs
    → AreThatOf (Some (reply_slot from slot)) (replying from me number (run_at slot number runs))
repeated_slot me from slot number runs some same = elim (greatest_there slot runs) [
  | inl none ↦ absurd (omega (arith, some, same, none))
  | inr it ↦ (let found = run_at_from runs it.0 it.1 it.2 in
      let at : run_at slot number runs ≡ Some found.0 =
      ap₂ (λ q n. run_at q n runs) (sym it.3) (same ∙ sym it.4) ∙ found.1 in
      let says = run_at_says slot number runs found.0 at in
      subst (λ o. AreThatOf (Some (reply_slot from slot)) (replying from me number o)) (sym at)
      (_, refl, ap (reply_slot from) says.1))
]

-- only a request with the greatest number of its slot comes again
repeated_says : (reason : Option Why) (is_asked : Bool) (number top slot : ℕ) (lock : Option ℕ) (open_ : Option Request)
    → unless_refused reason (if is_asked then verdict_of_number number top lock else taken_back slot open_ lock) ≡ Duplicated
    → number ≡ top
repeated_says (Some why) is_asked number top slot lock open_ e = absurd (refused e)
  where
    refused : Refused why ≡ Duplicated → ⊥
    refused h = cc
repeated_says None true number top slot lock open_ e = elim (cases_Bool (eqb number top)) [
  | inl same ↦ eqb-true number top same
  | inr other ↦ absurd (later (nat_lt number top) lock (rw other at e))
]
  where
    later : (less : Bool) (wait : Option ℕ) → (if less then Passed else unless_waiting wait Runs) ≡ Duplicated → ⊥
    later true wait h = cc
    later false None h = cc
    later false (Some k) h = cc
repeated_says None false number top slot lock open_ e = absurd (taken (is_open slot open_) lock e)
  where
    taken : (is : Bool) (wait : Option ℕ) → (if is then unless_waiting wait Returns else Missed) ≡ Duplicated → ⊥
    taken true None h = cc
    taken true (Some k) h = cc
    taken false wait h = cc

-- how a run is answered
run_slot : (version : ℕ) (content : Content) (at : SlotRef)
    → sends (answers.Delivered (run_answer version content at)) ≡ Some at
run_slot version content at = elim (cases_Bool (content.handler == notification_handler)) [
  | inl notification ↦ rw notification refl
  | inr other ↦ rw other refl
]

-- a message that is delivered
delivered_slot : (meaning : Meaning) (old : EndpointState) (node : Node EndpointLocal) (m : Message) (v : Verdict)
    → 1 ≤ m.number
    → verdict (site_of (job_here meaning old) old.core.me) node m ≡ v
    → AreThatOf (sends (answers.Delivered (answer_by (job_here meaning old).behaviour.messages m v)))
    (delivered_sends (site_of (job_here meaning old) old.core.me) node m v)
delivered_slot meaning old node m Runs some e =
    rw (run_slot old.core.settings.version (content_of m) (reply_slot m.from m.slot)) (_, refl, refl)
delivered_slot meaning old node m Duplicated some e =
    repeated_slot old.core.me m.from m.slot m.number (node.ran m.from) some
    (repeated_says (refusal (site_of (job_here meaning old) old.core.me) m) (is_request m.kind) m.number
    (greatest m.slot (node.ran m.from)) m.slot
    ((job_here meaning old).behaviour.messages.waits (content_of m) node.local)
    (element_at (node.asked m.from) m.number) e)
delivered_slot meaning old node m _ some e = refl

-- how a tick is answered that sends
sent_slot : (content : Content) (at : SlotRef) → sends (answers.Ticked (sent_as content at)) ≡ Some at
sent_slot content at = elim (cases_Bool (content.handler == notification_handler)) [
  | inl notification ↦ rw notification refl
  | inr other ↦ rw other refl
]

-- a tick
ticked_slot : (meaning : Meaning) (old : EndpointState) (node : Node EndpointLocal) (due : Option Due)
    (next : Option Sending) (now : ℕ) → next_due old.core.settings node now ≡ due
    → AreThatOf (sends (answers.Ticked (tick_answer (job_here meaning old).behaviour.messages node
    (choice_of due next)))) (ticked_sends old.core.me node (choice_of due next))
ticked_slot meaning old node None None now e = refl
ticked_slot meaning old node None (Some sending) now e =
    rw (sent_slot sending.content (request_slot sending.to (next_claim (node.asked sending.to)).slot)) (_, refl, refl)
ticked_slot meaning old node (Some due) next now e =
    let it = earliest_has (IsOpenAt node.asked) _ due
    (all_dues_open now old.core.settings.resend node.asked old.core.settings.nodes) e in
    subst (λ o. AreThatOf (Some (request_slot due.peer due.slot)) (asking old.core.me due.peer due.number o)) (sym it.1)
    (_, refl, ap (request_slot due.peer) (sym it.3))

-- a plain answer tells of no message
plain_slot : (answer : Answer) → is_plain_answer answer ≡ true → sends answer ≡ None
plain_slot (answers.Asked asked) plain = absurd (true≢false (sym plain))
plain_slot (answers.Delivered delivered) plain = absurd (true≢false (sym plain))
plain_slot (answers.Ticked ticked) plain = absurd (true≢false (sym plain))
plain_slot _ plain = refl

-- a call that is no request sends nothing
call_slot : (meaning : Meaning) (endpoint : EndpointState) (caller : Caller) (call : OtherCall)
    (kept : EndpointLocal)
    → sends (does_call (job_here meaning endpoint).behaviour.messages
    (rules endpoint.core.settings endpoint.core.table meaning) caller call kept).0 ≡ None
call_slot meaning endpoint caller (OnCore (OnSegment call)) kept = refl
call_slot meaning endpoint caller call kept =
    let behaviour = (job_here meaning endpoint).behaviour.messages in
    let own = rules endpoint.core.settings endpoint.core.table meaning in
    plain_slot (does_call behaviour own caller call kept).0 (answers_plain behaviour own caller call kept refl)

-- ---- an event of a node

-- a thread's call
call_sends : (meaning : Meaning) (old new : EndpointState) (now thread : ℕ) (m : Meant) (answer : Answer)
    → NodeSteps meaning old (transition now (node_event thread m) answer) new
    → NodeSends meaning old (transition now (node_event thread m) answer)
call_sends meaning old new now thread (Requests to asking) answer N = λ node S.
    at_answer answer _ _ (N.steps node S).0
    (asked_slot (job_here meaning old) old.core.me node (record { thread = thread; to = to; what = asking }) _ refl)
call_sends meaning old new now thread (Performs call) answer N = λ node S.
    at_answer answer _ _ (N.steps node S).0
    (subst (λ o. AreThatOf o []) (sym (call_slot meaning old (caller_in old.core node thread) call node.local)) refl)

-- any event
pub steps_send : (meaning : Meaning) (old new : EndpointState) (now : ℕ) (e : Event) (answer : Answer)
    → EndpointSteps meaning old (transition now e answer) new → StepSends meaning old (transition now e answer)
steps_send meaning old new now (event.Call thread call) answer N =
    call_sends meaning old new now thread (meant call) answer N
steps_send meaning old new now (event.Deliver bytes) answer B = λ m version spelled node S.
    at_answer answer _ _ ((B.comes m version spelled).steps node S).0
    (delivered_slot meaning old node m _ spelled.fits.numbered refl)
steps_send meaning old new now event.Tick answer N = λ node S.
    at_answer answer _ _ (N.steps node S).0 (ticked_slot meaning old node _ _ now refl)
