-- The way of a delivered message, from the node that keeps it to the one to which it comes.
use Rattle.std.proofs.Common.{◌≡◌, ◌≢◌, ◌<◌, ℕ, List, Some, refl, sym, ap, ◌∙◌, subst}
use Rattle.std.specs.Prelude.{slice_get}
use Rattle.part_handlers.specs.Runs.{Meaning}
use Rattle.node_rules.specs.EndpointRules.{transition}
use Rattle.node_endpoint.specs.EndpointState.{EndpointState}
use Rattle.sim_world.specs.declared.event.WorldEvent.{WorldEvent}
use Rattle.sim_world.specs.declared.event.WorldEvent.TheVariants as world_event
use Rattle.sim_world.specs.declared.event.WorldAnswer.{WorldAnswer}
use Rattle.sim_world.specs.EventScopes.{EventScope, ScopeStage, ChangesOne, EventScopeSteps, Happens}
use Rattle.sim_world.specs.EventScopes.{DeliveredFalls, IsBetween, IsDelivery, event_way, event_node, scope_with}

-- both nodes are there, and they differ
pub record IsWay (count : ℕ) (way : ℕ × ℕ) : Type 0 where
  pub sender : way.0 < count
  pub receiver : way.1 < count
  pub apart : way.0 ≢ way.1

event_goes : (count : ℕ) (e : WorldEvent) → IsDelivery e → IsBetween count e → IsWay count (event_way e)
event_goes count (world_event.Call node thread k) delivers between = absurd delivers
event_goes count (world_event.Request from to number) delivers between =
    record { sender = between.0; receiver = between.1; apart = between.2 }
event_goes count (world_event.Reply from to number) delivers between =
    record { sender = between.1; receiver = between.0; apart = λ same. between.2 (sym same) }
event_goes count (world_event.Tick node) delivers between = absurd delivers

pub way_goes : (count : ℕ) (e : WorldEvent) (way : ℕ × ℕ) → way ≡ event_way e → IsDelivery e → IsBetween count e
    → IsWay count way
way_goes count e way way_is delivers between =
    subst (λ (p : ℕ × ℕ). IsWay count p) (sym way_is) (event_goes count e delivers between)

-- it comes to the node on which the event falls
way_ends : (e : WorldEvent) → (event_way e).1 ≡ event_node e
way_ends (world_event.Call node thread k) = refl
way_ends (world_event.Request from to number) = refl
way_ends (world_event.Reply from to number) = refl
way_ends (world_event.Tick node) = refl

-- where it comes from there, the event did to the scope what it says
way_steps : (meaning : Meaning) (endpoints : List EndpointState) (e : WorldEvent) (sender : EndpointState)
    (old : EventScope) (now : ℕ) (answer : WorldAnswer) (new : EventScope)
    → IsDelivery e → slice_get endpoints (event_way e).0 ≡ Some sender
    → DeliveredFalls meaning sender old (transition now e answer) new
    → EventScopeSteps meaning endpoints old (transition now e answer) new
way_steps meaning endpoints (world_event.Call node thread k) sender old now answer new delivers at falls = absurd delivers
way_steps meaning endpoints (world_event.Request from to number) sender old now answer new delivers at falls =
    record { sender = sender; lent = at; falls = falls }
way_steps meaning endpoints (world_event.Reply from to number) sender old now answer new delivers at falls =
    record { sender = sender; lent = at; falls = falls }
way_steps meaning endpoints (world_event.Tick node) sender old now answer new delivers at falls = absurd delivers

-- and so it happened to the stage
pub delivers_happens : (meaning : Meaning) (old : ScopeStage) (now : ℕ) (e : WorldEvent) (answer : WorldAnswer)
    (new : ScopeStage) (way : ℕ × ℕ) (was is sender : EndpointState) → way ≡ event_way e → IsDelivery e
    → ChangesOne old.endpoints new.endpoints way.1 was is → slice_get old.endpoints way.0 ≡ Some sender
    → DeliveredFalls meaning sender (scope_with old was) (transition now e answer) (scope_with new is)
    → Happens meaning old (transition now e answer) new
delivers_happens meaning old now e answer new way was is sender way_is delivers changes at falls = record {
  was = was;
  is = is;
  changes = subst (λ (n : ℕ). ChangesOne old.endpoints new.endpoints n was is)
      (ap (λ (p : ℕ × ℕ). p.1) way_is ∙ way_ends e) changes;
  steps = way_steps meaning old.endpoints e sender (scope_with old was) now answer (scope_with new is) delivers
      (ap (λ (p : ℕ × ℕ). slice_get old.endpoints p.0) (sym way_is) ∙ at) falls;
}
