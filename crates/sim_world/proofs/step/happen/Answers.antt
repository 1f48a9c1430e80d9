use Rattle.std.proofs.Common.{rules, ◌<◌, get_or, length, subst}
use Rattle.std.proofs.lemmas.Option.{slice_get-get_or}
use Rattle.node_endpoint.specs.EndpointState.{EndpointState}
use Rattle.sim_world.specs.EventScopes.{IsBetween}
use Rattle.sim_world.specs.declared.event.WorldEvent.{WorldEvent}
use Rattle.sim_world.proofs.Sendings.{tick_happens}
use Rattle.sim_world.proofs.step.happen.Goals as goal

pub returns-in-Tick : goal.returns-in-Tick
returns-in-Tick g c =
    let node = c.in-Tick.node in
    let was : EndpointState = get_or c.args.endpoints.now node c.index-endpoints-node-in-Tick.result in
    let low : node < length c.args.endpoints.now =
    subst (λ (e : WorldEvent). IsBetween (length c.args.endpoints.now) e) c.in-Tick.is c.requires.between in
    tick_happens (g.H.Handlers.meaning c.args.context.handlers.now)
    (record { endpoints = c.args.endpoints.now; exchanges = c.args.exchanges.now; most = c.args.most.now })
    c.args.context.now node c.args.context.event.now c.args.context.sends c.fall-in-Tick.result was
    (record {
      endpoint = c.fall-in-Tick.new.endpoint;
      exchanges = c.fall-in-Tick.new.exchanges;
      most = c.fall-in-Tick.new.most;
    })
    c.in-Tick.is (slice_get-get_or c.args.endpoints.now node c.index-endpoints-node-in-Tick.result low)
    c.fall-in-Tick.ensures.same c.requires.sends
    (search (rules, c.fall-in-Tick.ensures.steps))
