use Rattle.std.proofs.Common.{ap, subst, sym}
use Rattle.spec_node.specs.declared.answer.Ticked.{Ticked}
use Rattle.spec_node.specs.declared.answer.Ticked.TheVariants as ticked
use Rattle.node_core.specs.Library.{Notification}
use Rattle.node_endpoint.specs.Parts.{PartSends}
use Rattle.node_endpoint.proofs.Ticks.{never_refused, accepted_own, notification_sends}
use Rattle.node_endpoint.proofs.extended.Extended.send_notification.Goals as goal

pub unreachable-requires : goal.unreachable-requires
unreachable-requires c =
    never_refused c.args.core.now c.ask.new.self c.args.self.now c.args.now c.args.to (Notification c.args.notification.now)
    c.ask.result c.requires.whole c.requires.can c.ask.ensures
    (λ other slot number e. c.in_default.not-Accepted other slot number e)

pub returns : goal.returns
returns c =
    subst (λ (t : Ticked). PartSends (record { core = c.args.core.now; extended = c.args.self.now })
    (record { now = c.args.now; to = c.args.to; work = Notification c.args.notification.now }) t
    (record { core = c.ask.new.self; extended = record c.args.self.now { barrier = c.sent.new.self } }))
    (ap (λ at. ticked.Notification at) (sym c.of_request.ensures))
    (notification_sends c.args.core.now c.ask.new.self c.args.self.now c.sent.new.self c.args.now c.args.to c.in-Accepted.slot
    c.in-Accepted.number c.args.notification.now c.requires.can
    (accepted_own c.args.core.now c.ask.new.self c.args.self.now c.args.now c.args.to (Notification c.args.notification.now)
    c.ask.result c.in-Accepted.to c.in-Accepted.slot c.in-Accepted.number c.requires.whole c.requires.can
    c.in-Accepted.is c.ask.ensures)
    c.sent.ensures.stands)
