-- A delivery, as its core made it and its other part heard of it, is the endpoint's.
use Rattle.std.proofs.Common.{◌≡◌, inl, inr, ℕ, true, List, Option, None, Some, refl, sym, ap, ap₂, ◌∙◌, subst}
use Rattle.std.specs.Prelude.{◌==◌}
use Rattle.std.proofs.lemmas.Bool.{cases_Bool}
use Rattle.wire_message.specs.Parameters.{Parameters}
use Rattle.wire_message.specs.Content.{Content, content_of}
use Rattle.wire_message.specs.Message.{Message}
use Rattle.wire_message.specs.Refusals.{first_refusal}
use Rattle.wire_message.specs.Reading.{message_at}
use Rattle.wire_message.specs.declared.refused.Refused.{Refused as RefusedBytes}
use Rattle.wire_message.proofs.Laws.{takes}
use Rattle.wire_message.proofs.Words.{IsBytes}
use Rattle.part_handlers.specs.Runs.{Meaning, IsLawfulMeaning}
use Rattle.spec_node.specs.Record.{Node}
use Rattle.spec_node.specs.Step.{Verdict, Runs, Refused, Duplicated, Passed, Missed, Returns, Waits, verdict, answer_by}
use Rattle.spec_node.specs.Step.{after_delivery}
use Rattle.spec_node.specs.NodeStep.{site_of, Comes, OfDelivery, NodeAnswer}
use Rattle.spec_node.specs.Under.{under}
use Rattle.spec_node.specs.declared.answer.Delivered.{Delivered}
use Rattle.spec_node.specs.declared.answer.Delivered.TheVariants as delivered
use Rattle.spec_node.specs.declared.answer.SlotRef.{SlotRef}
use Rattle.spec_node.proofs.Under.{verdict_alike, delivery_under}
use Rattle.part_barrier.specs.Record.{BarrierRecord}
use Rattle.part_transfers.specs.Operation.{Operation}
use Rattle.part_transfers.specs.Stands.{Stands as TransfersStand}
use Rattle.node_core.specs.Kept.{Local}
use Rattle.node_core.specs.Library.{run_answer, notification_handler, notification_said}
use Rattle.node_core.specs.ClientRules.{rules}
use Rattle.node_core.specs.Stands.{CoreStands}
use Rattle.node_core.specs.CoreState.{CoreState}
use Rattle.node_core.specs.CoreContracts.{CoreSteps, CoreTold, Delivers, core_job}
use Rattle.node_core.specs.WouldDeliver.{WouldDeliver as CoreWouldDeliver}
use Rattle.wire_message.specs.declared.notification.BarrierNotification.{BarrierNotification}
use Rattle.node_rules.specs.BarrierCalls.{has_ranges}
use Rattle.node_rules.specs.EndpointLocal.{EndpointLocal, core_of}
use Rattle.node_rules.specs.EndpointRules.{transition, after_notification}
use Rattle.node_rules.specs.declared.answer.Answer.TheVariants as answers
use Rattle.node_rules.proofs.Over.{endpoint_over}
use Rattle.node_endpoint.specs.declared.extended.Extended.{Extended}
use Rattle.node_endpoint.specs.EndpointState.{EndpointState, NodeSteps, BytesCome, WouldDeliver, IsAnsweredAlways, job_here}
use Rattle.node_endpoint.specs.Parts.{IsWhole, Hears, endpoint_of, after_answer, heard_by}
use Rattle.node_endpoint.proofs.Stepping.{steps_by, barrier_of, stays_whole, has_next}

-- what a delivery's answer tells the operations and the barrier is what the record's node keeps of them
pub record IsTold (answer : Delivered) (old new : EndpointLocal) : Type 0 where
  pub operations : new.operations ≡ after_answer answer old.operations
  pub barrier : new.barrier ≡ heard_by answer old.barrier
  pub regions : new.regions ≡ old.regions
  pub registers : new.registers ≡ old.registers

-- a run, by whether it is a notification's
run_operations : (settings : Parameters) (content : Content) (at : SlotRef) (operations : List Operation)
    → operations ≡ after_answer (run_answer settings.version content at) operations
run_operations settings content at operations = elim (cases_Bool (content.handler == notification_handler)) [
  | inl notification ↦ rw notification refl
  | inr other ↦ rw other refl
]

run_barrier : (settings : Parameters) (content : Content) (at : SlotRef) (barrier : BarrierRecord)
    → ((place : SlotRef) (notification : BarrierNotification) → run_answer settings.version content at ≡ delivered.Notified place notification
    → has_ranges notification ≡ true)
    → after_notification settings content barrier ≡ heard_by (run_answer settings.version content at) barrier
run_barrier settings content at barrier ranged = elim (cases_Bool (content.handler == notification_handler)) [
  | inl notification ↦ rw (notification, ranged at (notification_said settings.version content.args) (rw notification refl)) refl
  | inr other ↦ rw other refl
]

told_by : (meaning : Meaning) (endpoint : EndpointState) (node : Node EndpointLocal) (message : Message) (v : Verdict)
    → ((place : SlotRef) (notification : BarrierNotification)
    → answer_by (job_here meaning endpoint).behaviour.messages message v ≡ delivered.Notified place notification
    → has_ranges notification ≡ true)
    → IsTold (answer_by (job_here meaning endpoint).behaviour.messages message v) node.local
    (after_delivery (site_of (job_here meaning endpoint) endpoint.core.me) node message v).local
told_by meaning endpoint node message Runs ranged = record {
  operations = run_operations endpoint.core.settings (content_of message) _ node.local.operations;
  barrier = run_barrier endpoint.core.settings (content_of message) _ node.local.barrier ranged;
  regions = refl;
  registers = refl;
}
told_by meaning endpoint node message Returns ranged =
    record { operations = refl; barrier = refl; regions = refl; registers = refl }
told_by meaning endpoint node message (Refused reason) ranged =
    record { operations = refl; barrier = refl; regions = refl; registers = refl }
told_by meaning endpoint node message Duplicated ranged =
    record { operations = refl; barrier = refl; regions = refl; registers = refl }
told_by meaning endpoint node message Passed ranged =
    record { operations = refl; barrier = refl; regions = refl; registers = refl }
told_by meaning endpoint node message Missed ranged =
    record { operations = refl; barrier = refl; regions = refl; registers = refl }
told_by meaning endpoint node message (Waits lock) ranged =
    record { operations = refl; barrier = refl; regions = refl; registers = refl }

-- an answer of the core to a delivery
abbrev pub core_delivered : NodeAnswer CoreTold → Delivered
core_delivered (OfDelivery answer) = answer
core_delivered _ = delivered.Late

-- a message
message_steps : (meaning : Meaning) (core new : CoreState) (extended heard : Extended) (now : ℕ) (message : Message)
    (answer : Delivered) → IsLawfulMeaning meaning
    → CoreSteps meaning core (record { now = now; event = Comes message; answer = OfDelivery answer }) new
    → Hears extended answer heard
    → NodeSteps meaning (endpoint_of core extended) (transition now (Comes message) (answers.Delivered answer))
    (endpoint_of new heard)
message_steps meaning core new extended heard now message answer lawful C H =
    let old : EndpointState = endpoint_of core extended in
    steps_by meaning old (endpoint_of new heard) now (Comes message) (answers.Delivered answer) lawful C.same
    (λ node S.
    let it = C.steps (under core_of node) S.core in
    let site = site_of (job_here meaning old) core.me in
    let own = rules core.settings core.table meaning in
    let over = endpoint_over core.settings core.table meaning in
    let v = verdict site node message in
    let alike = verdict_alike core_of own site node message over in
    let is : answer ≡ answer_by site.behaviour message v =
    ap core_delivered it.0 ∙ ap (λ (w : Verdict). answer_by own message w) (sym alike) in
    let next = after_delivery site node message v in
    let told = told_by meaning old node message v
    (λ place notification e. H.ranged place notification (is ∙ e)) in
    let left : CoreStands new (under core_of next) =
    subst (λ (n : Node Local). CoreStands new n)
    (sym (delivery_under core_of own site node message v over
    ∙ ap (λ (w : Verdict). after_delivery (site_of (core_job meaning core) core.me) (under core_of node) message w)
    alike)) it.1 in (
      ap (λ (a : Delivered). answers.Delivered a) is,
      record {
        core = left;
        transfers = subst (λ os. TransfersStand heard.transfers os)
            (ap (λ (a : Delivered). after_answer a node.local.operations) is ∙ sym told.operations)
            (H.transfers node.local.operations S.transfers);
        regions_are = H.regions ∙ (S.regions_are ∙ sym told.regions);
        registers_are = H.registers ∙ (S.registers_are ∙ sym told.registers);
        barrier = barrier_of core new heard.barrier _ _ C.same
            (told.barrier ∙ ap (λ (a : Delivered). heard_by a node.local.barrier) (sym is))
            (H.barrier core.settings.nodes core.me node.local.barrier S.barrier);
      },
    ))

-- bytes
pub bytes_steps : (meaning : Meaning) (core new : CoreState) (extended heard : Extended) (now : ℕ) (bytes : List ℕ)
    (answer : Delivered) → IsLawfulMeaning meaning → Delivers meaning core bytes answer new
    → Hears extended answer heard
    → BytesCome meaning (endpoint_of core extended) (transition now bytes (answers.Delivered answer))
    (endpoint_of new heard)
bytes_steps meaning core new extended heard now bytes answer lawful D H = record {
  same = D.same;
  comes = λ message version spelled.
      message_steps meaning core new extended heard now message answer lawful (D.comes message version spelled now) H;
  refused = λ reason is.
      let no = D.refused reason is in (
        ap (λ (a : Delivered). answers.Delivered a) no.0,
        ap₂ (λ (c : CoreState) (e : Extended). endpoint_of c e) no.1 (H.refused _ no.0),
      );
}

pub version_at : (version : ℕ) (bytes : List ℕ) → (message_at version bytes).version ≡ version
unfolding message_at
version_at version bytes = refl

-- bytes of any kind leave what is whole: they spell a message, or they are refused
pub bytes_whole : (meaning : Meaning) (core new : CoreState) (extended heard : Extended) (bytes : List ℕ)
    (answer : Delivered) → IsLawfulMeaning meaning → IsBytes bytes → IsWhole core extended
    → Delivers meaning core bytes answer new → Hears extended answer heard → IsWhole new heard
bytes_whole meaning core new extended heard bytes answer lawful are W D H =
    by (first_refusal core.settings.version bytes) refl
  where
    by : (refused : Option RefusedBytes) → first_refusal core.settings.version bytes ≡ refused → IsWhole new heard
    by (Some reason) e =
        let no = D.refused reason e in
        subst (λ (x : Extended). IsWhole new x) (sym (H.refused _ no.0))
        (subst (λ (k : CoreState). IsWhole k extended) (sym no.1) W)
    by None e =
        let version = core.settings.version in
        let message = message_at version bytes in
        let spelled = takes version bytes W.record_.1.core.range.version are e in
        let N = message_steps meaning core new extended heard 0 message answer lawful
        (D.comes message (version_at version bytes) spelled 0) H in
        stays_whole (record { core = core; extended = extended }) (record { core = new; extended = heard }) W D.same
        H.frame (has_next meaning (endpoint_of core extended) (endpoint_of new heard) 0 (Comes message)
        (answers.Delivered answer) N W.record_)

-- what a delivery would be answered
pub would_deliver_here : (core : CoreState) (extended : Extended) (bytes : List ℕ) (answer : Delivered)
    → CoreWouldDeliver core bytes answer → WouldDeliver (endpoint_of core extended) bytes answer
would_deliver_here core extended bytes answer D = record {
  comes = λ message version spelled meaning node S.
      let site = site_of (job_here meaning (endpoint_of core extended)) core.me in
      let own = rules core.settings core.table meaning in
      let over = endpoint_over core.settings core.table meaning in
      D.comes message version spelled meaning (under core_of node) S.core
      ∙ ap (λ (w : Verdict). answer_by own message w) (sym (verdict_alike core_of own site node message over));
  refused = D.refused;
}

-- and every delivery is answered so
pub answered_always : (core : CoreState) (extended : Extended) (bytes : List ℕ) (answer : Delivered) → IsBytes bytes
    → IsWhole core extended → WouldDeliver (endpoint_of core extended) bytes answer
    → IsAnsweredAlways (endpoint_of core extended) bytes answer
answered_always core extended bytes answer are W told meaning now given new comes =
    by (first_refusal core.settings.version bytes) refl
  where
    by : (refused : Option RefusedBytes) → first_refusal core.settings.version bytes ≡ refused
        → given ≡ answers.Delivered answer
    by (Some reason) e =
        (comes.refused reason e).0 ∙ sym (ap (λ (a : Delivered). answers.Delivered a) (told.refused reason e))
    by None e =
        let version = core.settings.version in
        let message = message_at version bytes in
        let spelled = takes version bytes W.record_.1.core.range.version are e in
        let same = version_at version bytes in
        ((comes.comes message same spelled).steps W.record_.0 W.record_.1).0
        ∙ sym (ap (λ (a : Delivered). answers.Delivered a)
        (told.comes message same spelled meaning W.record_.0 W.record_.1))
