use Rattle.std.proofs.Common.{◌≡◌, length, rules, sym, subst}
use Rattle.node_endpoint.specs.EndpointState.{IsNodeOf}
use Rattle.sim_world.specs.Sizes.{AreOpening}
use Rattle.sim_world.proofs.Opening.{opening_push}
use Rattle.sim_world.proofs.world.opening_endpoints.Goals as goal

pub loop-node-preserved : goal.loop-node-preserved
loop-node-preserved c =
    let s = c.args.settings.now in
    let table = c.args.table.now in
    let endpoints = c.loop-node.endpoints.items in
    let e = c.in_ok-new.field-0 in
    let count : length endpoints ≡ c.loop-node.node = search rules in (
      search rules,
      subst (λ es. AreOpening s table es) (sym c.in_ok-push.ensures.items)
          (opening_push s table endpoints e c.loop-node.invariant.1
          (subst (λ n. IsNodeOf s table n e) (sym count) c.in_ok-new.ensures.node) c.in_ok-new.ensures.stands),
    )
