use Rattle.std.proofs.Common.{rules, ◌≡◌, true, refl, sym, subst}
use Rattle.wire_message.specs.declared.notification.BarrierNotification.{BarrierNotification}
use Rattle.node_rules.specs.BarrierCalls.{has_ranges}
use Rattle.spec_node.specs.declared.answer.Delivered.{Delivered}
use Rattle.part_barrier.specs.Record.{hear}
use Rattle.part_barrier.specs.Stands.{BarrierStands}
use Rattle.node_endpoint.specs.declared.extended.Extended.{Extended}
use Rattle.node_endpoint.specs.Parts.{Hears}
use Rattle.node_endpoint.proofs.extended.Extended.hear.Goals as goal

pub returns-in-Notified : goal.returns-in-Notified
returns-in-Notified c =
    let new : Extended = record c.args.self.now { barrier = c.heard.new.self } in
    let is : c.notification_of-notification.result ≡ c.in-Notified.notification = search rules in
    subst (λ (a : Delivered). Hears c.args.self.now a new) (sym c.in-Notified.is) (record {
      frame = record { nodes = refl; me_is = refl; threads = refl; room = refl };
      regions = refl;
      registers = refl;
      refused = λ reason e. absurd (cc);
      ranged = λ at notification e.
          let same : c.in-Notified.notification ≡ notification = cc in
          subst (λ (n : BarrierNotification). has_ranges n ≡ true) same
          (subst (λ (n : BarrierNotification). has_ranges n ≡ true) is c.notification_of-notification.ensures.ranged);
      transfers = λ operations S. S;
      barrier = λ nodes me kept S.
          subst (λ (n : BarrierNotification). BarrierStands nodes me c.heard.new.self (hear kept n)) is
          (c.heard.ensures.stands nodes me kept S);
    })
