use Rattle.std.proofs.Common.{◌≡◌, suc, ◌+◌, ◌-◌, sym, ap, ◌∙◌, arith}
use Rattle.std.proofs.lemmas.Bool.{lt-ltb}
use Rattle.part_barrier.specs.Record.{notification_to}
use Rattle.spec_node.specs.Step.{can_ask}
use Rattle.spec_node.specs.NodeStep.{site_of}
use Rattle.spec_node.specs.Under.{under}
use Rattle.node_core.specs.ClientRules.{rules}
use Rattle.node_rules.specs.EndpointLocal.{core_of}
use Rattle.node_rules.specs.EndpointRules.{notification_among}
use Rattle.node_endpoint.specs.EndpointState.{job_here}
use Rattle.node_endpoint.specs.Parts.{endpoint_of}
use Rattle.node_endpoint.proofs.Barriers.{among_here, among_undue, among_unasked, among_skip, among_quiet}
use Rattle.node_endpoint.proofs.extended.Extended.next_notification.Goals as goal
use Rattle.node_endpoint.proofs.extended.Extended.next_notification.Goals.{in_default, in-Some+else-can_ask}

pub returns-then-has_notified_nothing-clause-next : goal.returns-then-has_notified_nothing-clause-next
returns-then-has_notified_nothing-clause-next c meaning node S =
    let core = c.args.core.now in
    rw (lt-ltb core.me core.settings.nodes c.requires.me_in)
    (sym (among_quiet (notification_to core.settings.nodes core.me node.local.barrier)
    (can_ask (site_of (job_here meaning (endpoint_of core c.args.self.now)) core.me) node) 0 core.settings.nodes
    (c.has_notified_nothing.ensures.none c.if-has_notified_nothing.true core.settings.nodes core.me node.local.barrier S.barrier)))

pub returns-then-can_ask-clause-next : goal.returns-then-can_ask-clause-next
returns-then-can_ask-clause-next c meaning node S =
    let core = c.args.core.now in
    let due = notification_to core.settings.nodes core.me node.local.barrier in
    let can = can_ask (site_of (job_here meaning (endpoint_of core c.args.self.now)) core.me) node in
    let at = c.loop-to.to in
    let rest = core.settings.nodes - at - 1 in
    let more : core.settings.nodes - at ≡ suc rest = omega (arith, c.loop-to-test.true, c.requires.nodes) in
    rw (lt-ltb core.me core.settings.nodes c.requires.me_in)
    (sym (c.loop-to.invariant meaning node S
    ∙ (ap (notification_among due can at) more
    ∙ among_here due can at rest c.in-Some.notification
    (sym (c.can_ask.ensures (rules core.settings core.table meaning) (under core_of node) S.core) ∙ c.if-can_ask.true)
    (sym (c.in-Some.ensures.notification core.settings.nodes core.me node.local.barrier S.barrier)))))

pub returns-clause-next : goal.returns-clause-next
returns-clause-next c meaning node S =
    let core = c.args.core.now in
    let due = notification_to core.settings.nodes core.me node.local.barrier in
    let can = can_ask (site_of (job_here meaning (endpoint_of core c.args.self.now)) core.me) node in
    let none : core.settings.nodes - c.loop-to.to ≡ 0 = omega (arith, c.loop-to-test.false, c.requires.nodes) in
    rw (lt-ltb core.me core.settings.nodes c.requires.me_in)
    (sym (c.loop-to.invariant meaning node S ∙ ap (notification_among due can c.loop-to.to) none))

pub loop-to-init : goal.loop-to-init
loop-to-init c meaning node S =
    let core = c.args.core.now in
    let due = notification_to core.settings.nodes core.me node.local.barrier in
    let can = can_ask (site_of (job_here meaning (endpoint_of core c.args.self.now)) core.me) node in
    let first = c.first_owed-to.result in
    let from : 0 + first ≡ first = omega arith in
    among_skip due can 0 core.settings.nodes first
    (λ to below. c.first_owed-to.ensures core.settings.nodes core.me node.local.barrier S.barrier to (omega (arith, below)))
    ∙ ap (λ n. notification_among due can n (core.settings.nodes - first)) from

pub loop-to-preserved : goal.loop-to-preserved
loop-to-preserved c meaning node S =
    let core = c.args.core.now in
    let due = notification_to core.settings.nodes core.me node.local.barrier in
    let can = can_ask (site_of (job_here meaning (endpoint_of core c.args.self.now)) core.me) node in
    let at = c.loop-to.to in
    let rest = core.settings.nodes - at - 1 in
    let more : core.settings.nodes - at ≡ suc rest = omega (arith, c.loop-to-test.true, c.requires.nodes) in
    let less : rest ≡ core.settings.nodes - (at + 1) = omega arith in
    c.loop-to.invariant meaning node S
    ∙ (ap (notification_among due can at) more
    ∙ ((elim c.match-notification_to.branch [
      | in_default w ↦
          among_undue due can at rest
          (sym (c.notification_to.ensures.notification core.settings.nodes core.me node.local.barrier S.barrier) ∙ w.in_default.is)
      | in-Some+else-can_ask w ↦
          among_unasked due can at rest
          (sym (w.can_ask.ensures (rules core.settings core.table meaning) (under core_of node) S.core)
          ∙ w.if-can_ask.false)
    ])
    ∙ ap (notification_among due can (at + 1)) less))
