use Rattle.std.proofs.Common.{rules, ℕ, Bool, List, length, take, ◌++◌, ◌<◌, Option, refl, ap, sym, ◌∙◌}
use Rattle.std.proofs.Common.{subst, subst₂}
use Rattle.spec_network.specs.World.{IsAmong}
use Rattle.node_rules.specs.EndpointRules.{transition}
use Rattle.sim_world.specs.Events.{event_of}
use Rattle.sim_world.specs.WorldState.{WorldState}
use Rattle.sim_world.specs.Aims.{Aim, AimsAt, FallsAt, MayFall, aim_of}
use Rattle.node_endpoint.specs.EndpointState.{EndpointState}
use Rattle.sim_world.specs.EventScopes.{EventScope, EventScopeSteps, IsHeld, IsCallable, IsPlanned, ChangesOne}
use Rattle.sim_world.proofs.EventScopes.{sized_after, pair_place, changes_kept}
use Rattle.sim_world.proofs.Aimed.{Happened, recorded, spot_held, founded_after, unaimed_steps, aim_among, aims_node}
use Rattle.sim_world.proofs.Aimed.{callable, planned}
use Rattle.sim_world.proofs.world.World.step_as_recorded.Given.{Over}
use Rattle.sim_world.proofs.Reading.{world_of, other_there}
use Rattle.sim_world.proofs.world.World.step_as_recorded.Goals as goal

pub returns-in_default-clause-steps : goal.returns-in_default-clause-steps
returns-in_default-clause-steps g c =
    unaimed_steps (g.H.Handlers.meaning c.args.handlers.now) c.args.self.now c.args.now c.args.event.now
    c.in_default.ensures

pub index_mut-requires : goal.index_mut-requires
index_mut-requires g c =
    let s = c.self.inside.settings in
    let v = c.args.self.now in
    let aim = aim_of c.args.event.now c.in-Some.from c.in-Some.to in
    let at : FallsAt v c.args.now c.args.event.now aim =
    subst (λ (o : Option (ℕ × ℕ)). AimsAt v (transition c.args.now c.args.event.now o)) c.in-Some.is c.pair.ensures in
    let there = aim_among v c.args.now c.args.event.now aim c.requires.among at in
    let low = subst (λ (w : WorldState). (aim.node < w.settings.nodes) × (aim.from < w.settings.nodes)
    × (aim.to < w.settings.nodes)) (sym c.self.view_is) there in
    let place = pair_place s.nodes aim.from aim.to low.1 low.2 in
    search (rules, c.place_of-place.ensures, c.self.invariant.sized.exchanges_are, place)

pub happen-requires-clause-held : goal.happen-requires-clause-held
happen-requires-clause-held g c =
    let aim = aim_of c.args.event.now c.in-Some.from c.in-Some.to in
    let inside : WorldState = record {
      settings = c.self.inside.settings;
      table = c.self.inside.table;
      endpoints = c.self.inside.endpoints.items;
      exchanges = c.self.inside.exchanges.items;
      most = c.self.inside.most.items;
    } in
    let aims : FallsAt inside c.args.now c.args.event.now aim =
    subst (λ (w : WorldState). FallsAt w c.args.now c.args.event.now aim) (sym c.self.view_is)
    (subst (λ (o : Option (ℕ × ℕ)). AimsAt c.args.self.now (transition c.args.now c.args.event.now o)) c.in-Some.is
    c.pair.ensures) in
    let held = spot_held (g.H.Handlers.meaning c.args.handlers.now) inside c.args.self.now c.args.event.now c.args.now
    aim c.from-node.result c.place_of-place.result _ _ (g.met.H.Handlers.is_lawful c.args.handlers.now) c.self.view_is
    c.self.invariant c.requires.among aims (record {
      node_is = c.from-node.ensures ∙ c.node_of.ensures;
      place_is = c.place_of-place.ensures;
      exchanges_were = c.index_mut.ensures.value;
      most_was = c.index_mut-2.ensures.value;
    }) in
    subst (λ (l : List EndpointState). IsHeld l c.index_mut.result.now.list c.args.event.now)
    (sym c.deref_mut.ensures.value) held

pub happen-requires-clause-called : goal.happen-requires-clause-called
happen-requires-clause-called g c =
    subst (λ (l : List EndpointState). IsCallable l c.args.event.now)
    (sym c.deref_mut.ensures.value)
    (callable (world_of c.self.inside.settings c.self.inside.table c.self.inside.endpoints.items
    c.self.inside.exchanges.items c.self.inside.most.items) c.args.event.now c.self.invariant
    (subst (λ (w : WorldState). MayFall w.settings c.args.event.now) (sym c.self.view_is) c.requires.called))

pub happen-requires-clause-sends : goal.happen-requires-clause-sends
happen-requires-clause-sends g c =
    let aim = aim_of c.args.event.now c.in-Some.from c.in-Some.to in
    let at : FallsAt c.args.self.now c.args.now c.args.event.now aim =
    subst (λ (o : Option (ℕ × ℕ)). AimsAt c.args.self.now (transition c.args.now c.args.event.now o)) c.in-Some.is
    c.pair.ensures in
    subst₂ (λ (l : List EndpointState) (b : Bool). IsPlanned l (transition c.args.now c.args.event.now b))
    (sym (c.deref_mut.ensures.value ∙ ap (λ (w : WorldState). w.endpoints) c.self.view_is))
    (other_there c.in-Some.from c.in-Some.to)
    (planned c.args.self.now c.args.now c.args.event.now aim at)

-- what was read of the world
abbrev inside_of : (g : Over) → goal.After-self-3-1 g → WorldState
inside_of g c = record {
  settings = c.self.inside.settings;
  table = c.self.inside.table;
  endpoints = c.self.inside.endpoints.items;
  exchanges = c.self.inside.exchanges.items;
  most = c.self.inside.most.items;
}

-- where the event fell
abbrev aimed : (g : Over) → goal.After-self-3-1 g → Aim
aimed g c = aim_of c.args.event.now c.in-Some.from c.in-Some.to

-- the scope on which it fell, before and after it
abbrev was : (g : Over) → goal.After-self-3-1 g → EventScope
was g c = record {
  endpoint = c.happen.ensures.was;
  exchanges = c.index_mut.result.now;
  most = c.index_mut-2.result.now;
}

abbrev is : (g : Over) → goal.After-self-3-1 g → EventScope
is g c = record {
  endpoint = c.happen.ensures.is;
  exchanges = c.happen.new.exchanges;
  most = c.happen.new.most;
}

-- what happened to the scope
abbrev happened : (g : Over) (c : goal.After-self-3-1 g)
    → Happened (g.H.Handlers.meaning c.args.handlers.now) (inside_of g c) (was g c)
    (transition c.args.now c.args.event.now c.happen.result) (is g c) (aimed g c) c.from-node.result
    c.place_of-place.result
happened g c = record {
  aims = subst (λ (w : WorldState). FallsAt w c.args.now c.args.event.now (aimed g c)) (sym c.self.view_is)
      (subst (λ (o : Option (ℕ × ℕ)). AimsAt c.args.self.now (transition c.args.now c.args.event.now o)) c.in-Some.is
      c.pair.ensures);
  spot = record {
    node_is = c.from-node.ensures ∙ c.node_of.ensures;
    place_is = c.place_of-place.ensures;
    exchanges_were = c.index_mut.ensures.value;
    most_was = c.index_mut-2.ensures.value;
  };
  steps = subst (λ (l : List EndpointState). EventScopeSteps (g.H.Handlers.meaning c.args.handlers.now) l (was g c)
      (transition c.args.now c.args.event.now c.happen.result) (is g c)) c.deref_mut.ensures.value
      c.happen.ensures.steps;
}

-- one endpoint changed, in the list that was lent, whatever stands behind what comes back
abbrev changed : (g : Over) (c : goal.After-self-3-1 g) (behind : List EndpointState)
    → ChangesOne (inside_of g c).endpoints (take c.self.inside.endpoints.len (c.happen.new.endpoints ++ behind))
    c.from-node.result (was g c).endpoint (is g c).endpoint
changed g c behind =
    changes_kept (inside_of g c).endpoints c.deref_mut.result.now c.happen.new.endpoints behind
    c.self.inside.endpoints.len _ c.from-node.result c.happen.ensures.was c.happen.ensures.is
    c.deref_mut.ensures.value
    (sym (ap (λ (l : List EndpointState). length l) c.deref_mut.ensures.value) ∙ c.deref_mut.ensures.len)
    (aims_node (inside_of g c) c.args.now c.args.event.now (aimed g c) (happened g c).aims
    ∙ sym (c.from-node.ensures ∙ c.node_of.ensures))
    c.happen.ensures.changes

pub invariant_of-self : goal.invariant_of-self
invariant_of-self g c =
    let meaning = g.H.Handlers.meaning c.args.handlers.now in
    let inside = inside_of g c in
    record {
      sized = sized_after inside.settings inside.table inside.endpoints _ inside.exchanges inside.most
          c.from-node.result c.place_of-place.result (was g c).endpoint (is g c).endpoint (is g c).exchanges
          (is g c).most c.self.invariant.sized (changed g c _);
      founded = founded_after meaning inside _ c.args.now c.args.event.now c.happen.result c.self.invariant.founded
          (recorded meaning inside inside _ c.args.now c.args.event.now (aimed g c) c.happen.result _
          c.from-node.result c.place_of-place.result (was g c) (is g c) (g.met.H.Handlers.is_lawful c.args.handlers.now)
          refl c.self.invariant
          (subst (λ (v : WorldState). IsAmong v.settings (event_of c.args.event.now)) (sym c.self.view_is)
          c.requires.among)
          (happened g c) (changed g c _) refl);
    }

pub returns-clause-steps : goal.returns-clause-steps
returns-clause-steps g c =
    recorded (g.H.Handlers.meaning c.args.handlers.now) (inside_of g c) c.args.self.now _ c.args.now c.args.event.now
    (aimed g c) c.happen.result _ c.from-node.result c.place_of-place.result (was g c) (is g c)
    (g.met.H.Handlers.is_lawful c.args.handlers.now) c.self.view_is c.self.invariant c.requires.among (happened g c)
    (changed g c _) refl
