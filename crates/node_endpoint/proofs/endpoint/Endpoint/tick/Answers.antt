use Rattle.std.proofs.Common.{sym, subst}
use Rattle.std.specs.Prelude.{None}
use Rattle.part_handlers.specs.Runs.{Meaning, IsLawfulMeaning}
use Rattle.spec_node.specs.NodeStep.{Ticks}
use Rattle.spec_node.specs.declared.answer.Ticked.TheVariants as ticked
use Rattle.node_core.specs.Library.{Notification}
use Rattle.part_transfers.specs.Operation.{target}
use Rattle.node_rules.specs.EndpointRules.{transition, chunk_work}
use Rattle.node_rules.specs.declared.answer.Answer.TheVariants as answers
use Rattle.node_endpoint.specs.EndpointState.{EndpointState, NodeSteps}
use Rattle.node_endpoint.specs.Parts.{IsWhole, endpoint_of}
use Rattle.node_endpoint.proofs.Stepping.{nothing_runs, nothing_lawful, same_node}
use Rattle.node_endpoint.proofs.Ticks.{CoreTicks, FindsNotification, resend_steps, rests_whole, sent_steps, rest_steps}
use Rattle.node_endpoint.proofs.Ticks.{notification_next, chunk_next, nothing_next, notification_may, chunk_may}
use Rattle.node_endpoint.proofs.Calling.{same_extended, step_whole}
use Rattle.node_endpoint.proofs.endpoint.Endpoint.tick.Goals as goal
use Rattle.node_endpoint.proofs.endpoint.Endpoint.tick.Goals.{In-Some, In_default, In_default-next_notification}
use Rattle.node_endpoint.proofs.endpoint.Endpoint.tick.Goals.{After-send_notification, After-send_chunk}

-- ---- a request is due again

retransmitted : (c : In-Some) (meaning : Meaning) → IsLawfulMeaning meaning
    → NodeSteps meaning (endpoint_of c.self.inside.core c.self.inside.extended)
    (transition c.args.now Ticks (answers.Ticked (ticked.Retransmission c.in-Some.at)))
    (endpoint_of c.tick.new.self c.self.inside.extended)
retransmitted c =
    resend_steps c.self.inside.core c.tick.new.self c.self.inside.extended c.args.now c.in-Some.at c.in-Some.ensures

pub invariant_of-self : goal.invariant_of-self
invariant_of-self c =
    step_whole c.self.inside.core c.tick.new.self c.self.inside.extended c.self.inside.extended c.args.now Ticks
    (answers.Ticked (ticked.Retransmission c.in-Some.at)) c.self.invariant (same_extended c.self.inside.extended)
    (retransmitted (goal.at.invariant_of-self c).In-Some nothing_runs nothing_lawful)

pub returns-in-Some : goal.returns-in-Some
returns-in-Some c meaning lawful =
    subst (λ (e : EndpointState). NodeSteps meaning e
    (transition c.args.now Ticks (answers.Ticked (ticked.Retransmission c.in-Some.at)))
    (endpoint_of c.tick.new.self c.self.inside.extended)) c.self.view_is
    (retransmitted (goal.at.returns-in-Some c).In-Some meaning lawful)

-- ---- none is

rested : (c : In_default) → CoreTicks c.self.inside.core c.args.now None c.tick.new.self
rested c = subst (λ due. CoreTicks c.self.inside.core c.args.now due c.tick.new.self) c.in_default.is c.tick.ensures

still_whole : (c : In_default) → IsWhole c.tick.new.self c.self.inside.extended
still_whole c =
    rests_whole c.self.inside.core c.tick.new.self c.self.inside.extended c.args.now c.self.invariant (rested c)

pub next_notification-requires : goal.next_notification-requires
next_notification-requires c = still_whole (goal.at.next_notification-requires c).In_default

-- ---- a notification

pub send_notification-requires-clause-whole : goal.send_notification-requires-clause-whole
send_notification-requires-clause-whole c = still_whole (goal.at.send_notification-requires-clause-whole c).In_default

pub send_notification-requires-clause-can : goal.send_notification-requires-clause-can
send_notification-requires-clause-can c =
    notification_may c.tick.new.self c.self.inside.extended (c.in-Some-next_notification.to, c.in-Some-next_notification.notification)
    (still_whole (goal.at.send_notification-requires-clause-can c).In_default) c.in-Some-next_notification.ensures.next

notification_steps : (c : After-send_notification) → CoreTicks c.self.inside.core c.args.now None c.tick.new.self
    → (meaning : Meaning) → IsLawfulMeaning meaning
    → NodeSteps meaning (endpoint_of c.self.inside.core c.self.inside.extended)
    (transition c.args.now Ticks (answers.Ticked c.send_notification.result))
    (endpoint_of c.send_notification.new.core c.send_notification.new.self)
notification_steps c C =
    let core = c.self.inside.core in
    let mid = c.tick.new.self in
    let extended = c.self.inside.extended in
    sent_steps core mid extended c.args.now c.in-Some-next_notification.to (Notification c.in-Some-next_notification.notification)
    c.send_notification.result (record { core = c.send_notification.new.core; extended = c.send_notification.new.self }) C
    (notification_next mid extended (c.in-Some-next_notification.to, c.in-Some-next_notification.notification) c.in-Some-next_notification.ensures.next)
    c.send_notification.ensures
    (same_node core mid c.send_notification.new.core (C nothing_runs).same c.send_notification.ensures.same)

pub invariant_of-self-in-Some-next_notification : goal.invariant_of-self-in-Some-next_notification
invariant_of-self-in-Some-next_notification c =
    step_whole c.self.inside.core c.send_notification.new.core c.self.inside.extended c.send_notification.new.self c.args.now Ticks
    (answers.Ticked c.send_notification.result) c.self.invariant c.send_notification.ensures.frame
    (notification_steps (goal.at.invariant_of-self-in-Some-next_notification c).After-send_notification
    (rested (goal.at.invariant_of-self-in-Some-next_notification c).In_default) nothing_runs nothing_lawful)

pub returns-in-Some-next_notification : goal.returns-in-Some-next_notification
returns-in-Some-next_notification c meaning lawful =
    subst (λ (e : EndpointState). NodeSteps meaning e (transition c.args.now Ticks (answers.Ticked c.send_notification.result))
    (endpoint_of c.send_notification.new.core c.send_notification.new.self)) c.self.view_is
    (notification_steps (goal.at.returns-in-Some-next_notification c).After-send_notification
    (rested (goal.at.returns-in-Some-next_notification c).In_default) meaning lawful)

-- ---- no notification

no_notification : (c : In_default-next_notification) → FindsNotification c.tick.new.self c.self.inside.extended None
no_notification c =
    subst (λ found. FindsNotification c.tick.new.self c.self.inside.extended found) c.in_default-next_notification.is
    c.next_notification.ensures.next

pub next_chunk-requires : goal.next_chunk-requires
next_chunk-requires c = still_whole (goal.at.next_chunk-requires c).In_default

pub send_chunk-requires-clause-whole : goal.send_chunk-requires-clause-whole
send_chunk-requires-clause-whole c = still_whole (goal.at.send_chunk-requires-clause-whole c).In_default

pub send_chunk-requires-clause-can : goal.send_chunk-requires-clause-can
send_chunk-requires-clause-can c =
    chunk_may c.tick.new.self c.self.inside.extended c.in-Some-next_chunk.next
    (still_whole (goal.at.send_chunk-requires-clause-can c).In_default)
    (no_notification (goal.at.send_chunk-requires-clause-can c).In_default-next_notification) c.in-Some-next_chunk.ensures.next

pub send_chunk-requires-clause-next : goal.send_chunk-requires-clause-next
send_chunk-requires-clause-next c meaning node S =
    sym (c.in-Some-next_chunk.ensures.next meaning node S)

chunk_steps : (c : After-send_chunk) → CoreTicks c.self.inside.core c.args.now None c.tick.new.self
    → FindsNotification c.tick.new.self c.self.inside.extended None → (meaning : Meaning) → IsLawfulMeaning meaning
    → NodeSteps meaning (endpoint_of c.self.inside.core c.self.inside.extended)
    (transition c.args.now Ticks (answers.Ticked c.send_chunk.result))
    (endpoint_of c.send_chunk.new.core c.send_chunk.new.self)
chunk_steps c C none =
    let core = c.self.inside.core in
    let mid = c.tick.new.self in
    let extended = c.self.inside.extended in
    let next = c.in-Some-next_chunk.next in
    sent_steps core mid extended c.args.now (target next.transfer) (chunk_work next) c.send_chunk.result
    (record { core = c.send_chunk.new.core; extended = c.send_chunk.new.self }) C
    (chunk_next mid extended next none
    c.in-Some-next_chunk.ensures.next)
    c.send_chunk.ensures
    (same_node core mid c.send_chunk.new.core (C nothing_runs).same c.send_chunk.ensures.same)

pub invariant_of-self-in-Some-next_chunk : goal.invariant_of-self-in-Some-next_chunk
invariant_of-self-in-Some-next_chunk c =
    step_whole c.self.inside.core c.send_chunk.new.core c.self.inside.extended c.send_chunk.new.self c.args.now Ticks
    (answers.Ticked c.send_chunk.result) c.self.invariant c.send_chunk.ensures.frame
    (chunk_steps (goal.at.invariant_of-self-in-Some-next_chunk c).After-send_chunk
    (rested (goal.at.invariant_of-self-in-Some-next_chunk c).In_default)
    (no_notification (goal.at.invariant_of-self-in-Some-next_chunk c).In_default-next_notification)
    nothing_runs nothing_lawful)

pub returns-in-Some-next_chunk : goal.returns-in-Some-next_chunk
returns-in-Some-next_chunk c meaning lawful =
    subst (λ (e : EndpointState). NodeSteps meaning e (transition c.args.now Ticks (answers.Ticked c.send_chunk.result))
    (endpoint_of c.send_chunk.new.core c.send_chunk.new.self)) c.self.view_is
    (chunk_steps (goal.at.returns-in-Some-next_chunk c).After-send_chunk
    (rested (goal.at.returns-in-Some-next_chunk c).In_default)
    (no_notification (goal.at.returns-in-Some-next_chunk c).In_default-next_notification)
    meaning lawful)

-- ---- nothing

pub invariant_of-self-in-None : goal.invariant_of-self-in-None
invariant_of-self-in-None c = still_whole (goal.at.invariant_of-self-in-None c).In_default

pub returns-in-None : goal.returns-in-None
returns-in-None c meaning lawful =
    let core = c.self.inside.core in
    let mid = c.tick.new.self in
    let extended = c.self.inside.extended in
    subst (λ (e : EndpointState). NodeSteps meaning e (transition c.args.now Ticks (answers.Ticked ticked.Nothing))
    (endpoint_of mid extended)) c.self.view_is
    (rest_steps core mid extended c.args.now (rested (goal.at.returns-in-None c).In_default)
    (nothing_next mid extended (no_notification (goal.at.returns-in-None c).In_default-next_notification) c.in-None.ensures.next)
    meaning lawful)
