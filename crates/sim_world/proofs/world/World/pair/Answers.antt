use Rattle.std.proofs.Common.{◌≡◌, ◌<◌, sym, subst}
use Rattle.std.specs.Prelude.{get_or}
use Rattle.spec_network.specs.World.{IsAmong}
use Rattle.sim_world.specs.Aims.{FallsAt, aim_of}
use Rattle.sim_world.specs.Events.{event_of}
use Rattle.sim_world.specs.declared.event.WorldEvent.{WorldEvent}
use Rattle.sim_world.proofs.Reading.{world_of, tick_aim}
use Rattle.sim_world.proofs.world.World.pair.Goals as goal

pub returns-in-Tick : goal.returns-in-Tick
returns-in-Tick c =
    let v = c.args.self.now in
    let node = c.in-Tick.node in
    let there : node < v.settings.nodes =
    subst (λ (e : WorldEvent). IsAmong v.settings (event_of e)) c.in-Tick.is c.requires in
    subst (λ (e : WorldEvent). FallsAt v c.args.now e (aim_of e node c.unwrap_or.result)) (sym c.in-Tick.is)
    (tick_aim (world_of c.self.inside.settings c.self.inside.table c.self.inside.endpoints.items
    c.self.inside.exchanges.items c.self.inside.most.items) v c.args.now node c.index.result.now
    c.next_target-target.result c.unwrap_or.result c.self.view_is c.self.invariant there
    (subst (λ n. c.index.result.now ≡ get_or c.self.inside.endpoints.items n c.index.result.now) c.from.ensures
    c.index.ensures)
    c.next_target-target.ensures.target c.next_target-target.ensures.there c.next_target-target.ensures.other
    c.unwrap_or.ensures)
