use Rattle.std.proofs.Common.{◌≢◌, ◌<◌, sym, subst, false}
use Rattle.std.specs.Prelude.{None, Some}
use Rattle.node_core.specs.Library.{Notification}
use Rattle.part_transfers.specs.Operation.{target}
use Rattle.node_rules.specs.EndpointRules.{chunk_work}
use Rattle.node_endpoint.specs.EndpointState.{EndpointState, IsTickTarget}
use Rattle.node_endpoint.specs.Parts.{endpoint_of}
use Rattle.node_endpoint.proofs.Ticks.{FindsNotification, TellsDue, target_due, target_next, target_none, notification_next, chunk_next}
use Rattle.node_endpoint.proofs.Ticks.{nothing_next, notification_may, chunk_may}
use Rattle.node_endpoint.proofs.endpoint.Endpoint.next_target.Goals as goal

pub returns-then-is_due-clause-target : goal.returns-then-is_due-clause-target
returns-then-is_due-clause-target c =
    let core = c.self.inside.core in
    let extended = c.self.inside.extended in
    subst (λ (e : EndpointState). IsTickTarget e c.args.now None) c.self.view_is
    (target_due core extended c.args.now
    (subst (λ b. TellsDue core c.args.now b) c.if-is_due.true c.is_due.ensures))

pub returns-in-Some-clause-target : goal.returns-in-Some-clause-target
returns-in-Some-clause-target c =
    let core = c.self.inside.core in
    let extended = c.self.inside.extended in
    let due : TellsDue core c.args.now false =
    subst (λ b. TellsDue core c.args.now b) c.if-is_due.false c.is_due.ensures in
    subst (λ (e : EndpointState). IsTickTarget e c.args.now (Some c.in-Some.to)) c.self.view_is
    (target_next core extended c.args.now c.in-Some.to (Notification c.in-Some.field-0-1) due
    (notification_next core extended (c.in-Some.to, c.in-Some.field-0-1) c.in-Some.ensures.next))

pub returns-in-Some-clause-other : goal.returns-in-Some-clause-other
returns-in-Some-clause-other c =
    let core = c.self.inside.core in
    let extended = c.self.inside.extended in
    subst (λ (e : EndpointState). c.in-Some.to ≢ e.core.me) c.self.view_is
    (notification_may core extended (c.in-Some.to, c.in-Some.field-0-1) c.self.invariant c.in-Some.ensures.next).other

pub returns-in-Some-next_chunk-clause-target : goal.returns-in-Some-next_chunk-clause-target
returns-in-Some-next_chunk-clause-target c =
    let core = c.self.inside.core in
    let extended = c.self.inside.extended in
    let due : TellsDue core c.args.now false =
    subst (λ b. TellsDue core c.args.now b) c.if-is_due.false c.is_due.ensures in
    let none : FindsNotification core extended None =
    subst (λ o. FindsNotification core extended o) c.in_default.is c.next_notification.ensures.next in
    subst (λ (e : EndpointState). IsTickTarget e c.args.now (Some c.target.result)) c.self.view_is
    (subst (λ t. IsTickTarget (endpoint_of core extended) c.args.now (Some t)) (sym c.target.ensures)
    (target_next core extended c.args.now (target c.in-Some-next_chunk.next.transfer)
    (chunk_work c.in-Some-next_chunk.next) due
    (chunk_next core extended c.in-Some-next_chunk.next none c.in-Some-next_chunk.ensures.next)))

pub returns-in-Some-next_chunk-clause-there : goal.returns-in-Some-next_chunk-clause-there
returns-in-Some-next_chunk-clause-there c =
    let core = c.self.inside.core in
    let extended = c.self.inside.extended in
    let none : FindsNotification core extended None =
    subst (λ o. FindsNotification core extended o) c.in_default.is c.next_notification.ensures.next in
    subst (λ (e : EndpointState). c.target.result < e.core.settings.nodes) c.self.view_is
    (subst (λ t. t < core.settings.nodes) (sym c.target.ensures)
    (chunk_may core extended c.in-Some-next_chunk.next c.self.invariant none c.in-Some-next_chunk.ensures.next).there)

pub returns-in-Some-next_chunk-clause-other : goal.returns-in-Some-next_chunk-clause-other
returns-in-Some-next_chunk-clause-other c =
    let core = c.self.inside.core in
    let extended = c.self.inside.extended in
    let none : FindsNotification core extended None =
    subst (λ o. FindsNotification core extended o) c.in_default.is c.next_notification.ensures.next in
    subst (λ (e : EndpointState). c.target.result ≢ e.core.me) c.self.view_is
    (subst (λ t. t ≢ core.me) (sym c.target.ensures)
    (chunk_may core extended c.in-Some-next_chunk.next c.self.invariant none c.in-Some-next_chunk.ensures.next).other)

pub returns-in-None-clause-target : goal.returns-in-None-clause-target
returns-in-None-clause-target c =
    let core = c.self.inside.core in
    let extended = c.self.inside.extended in
    let due : TellsDue core c.args.now false =
    subst (λ b. TellsDue core c.args.now b) c.if-is_due.false c.is_due.ensures in
    let none : FindsNotification core extended None =
    subst (λ o. FindsNotification core extended o) c.in_default.is c.next_notification.ensures.next in
    subst (λ (e : EndpointState). IsTickTarget e c.args.now None) c.self.view_is
    (target_none core extended c.args.now due (nothing_next core extended none c.in-None.ensures.next))
