-- Each event of a world, by where it falls.
use Rattle.std.proofs.Common.{◌≡◌, ℕ, ◌+◌, ◌*◌, ◌<◌, Some, None, refl, sym, ◌∙◌, subst, subst₂, List, length, get_or}
use Rattle.std.proofs.Common.{set}
use Rattle.std.specs.Prelude.{Option, is_some, unwrap_or}
use Rattle.std.specs.List.{slice_get}
use Rattle.std.proofs.lemmas.Option.{slice_get_read}
use Rattle.wire_message.specs.Parameters.{Parameters}
use Rattle.part_handlers.specs.Runs.{Meaning, IsLawfulMeaning}
use Rattle.spec_network.specs.World.{IsAmong, world_after}
use Rattle.node_rules.specs.EndpointRules.{transition, timed_event}
use Rattle.sim_world.specs.WorldState.{WorldState}
use Rattle.sim_world.specs.EventScopes.{EventScope, EventScopeSteps, CallFalls, IsCallable, IsPlanned, event_node}
use Rattle.sim_world.specs.EventScopes.{ChangesOne, IsHeld}
use Rattle.node_rules.specs.Called.{Meant, Requests, Performs, meant, event_at, is_to_other}
use Rattle.sim_world.specs.Events.{StepsInWorld, event_of, job_in}
use Rattle.sim_world.specs.Stands.{IsFounded, IsWholeWorld}
use Rattle.node_endpoint.specs.EndpointState.{EndpointState, MayBeCalled}
use Rattle.sim_world.specs.ExchangesState.{ExchangesState}
use Rattle.sim_world.proofs.EventScopes.{falls_at, pair_place}
use Rattle.sim_world.proofs.Lodgings.{event_held}
use Rattle.spec_network.specs.MostHeld.{most_then}
use Rattle.sim_world.specs.Aims.{FallsAt, FallsNowhere, MayFall}
use Rattle.spec_node.specs.Transition.{Transition}
use Rattle.sim_world.specs.Aims.{Aim}
use Rattle.node_rules.specs.declared.call.Event.TheVariants as event
use Rattle.sim_world.specs.declared.event.WorldEvent.{WorldEvent}
use Rattle.sim_world.specs.declared.event.WorldEvent.TheVariants as world_event
use Rattle.sim_world.specs.declared.event.WorldAnswer.{WorldAnswer}
use Rattle.sim_world.specs.declared.event.WorldAnswer.TheVariants as world_answers
use Rattle.sim_world.proofs.Standing.{Falls}
use Rattle.sim_world.proofs.Asks.{call_falls}
use Rattle.sim_world.proofs.Sendings.{tick_steps, target_is}
use Rattle.sim_world.proofs.Events.{scope_node}
use Rattle.sim_world.proofs.Deliveries.{request_steps, reply_steps, own_request_steps, own_reply_steps}

-- the node of a call is there
caller_in : (s : Parameters) (node thread : ℕ) (m : Meant) → IsAmong s (event_at node thread m) → node < s.nodes
caller_in s node thread (Requests to asking) l = l
caller_in s node thread (Performs call) l = l

-- an event that falls somewhere does to the world what it does to its scope
pub aimed_steps : (meaning : Meaning) (v z : WorldState) (now : ℕ) (e : WorldEvent) (aim : Aim) (a : WorldAnswer)
    (old new : EventScope) → IsLawfulMeaning meaning → IsFounded v → IsAmong v.settings (event_of e) → FallsAt v now e aim
    → Falls v z aim.node (aim.from * v.settings.nodes + aim.to) old new
    → EventScopeSteps meaning v.endpoints old (transition now e a) new
    → StepsInWorld meaning v (transition now (event_of e) a) z
aimed_steps meaning v z now (world_event.Call node thread k) aim a old new lawful founded among at F C =
    call_falls meaning v z now node aim.to thread k a old new lawful (caller_in v.settings node thread (meant k) among)
    (at.target.to_in (caller_in v.settings node thread (meant k) among)) at.target.to_is
    (subst₂ (λ n m. Falls v z n (m * v.settings.nodes + aim.to) old new) at.node_is at.from_is F)
    (is_to_other node k) refl C
aimed_steps meaning v z now (world_event.Request i j k) aim a old new lawful founded among at F C =
    request_steps meaning v z now i j k C.sender a old new lawful among.0 among.1 at.0
    (subst (λ n. Falls v z n (i * v.settings.nodes + j) old new) at.1.node_is
    (subst₂ (λ p q. Falls v z aim.node (p * v.settings.nodes + q) old new) at.1.from_is at.1.to_is F)) C.lent C.falls
aimed_steps meaning v z now (world_event.Reply i j k) aim a old new lawful founded among at F C =
    reply_steps meaning v z now i j k C.sender a old new lawful among.0 among.1 at.0
    (subst (λ n. Falls v z n (i * v.settings.nodes + j) old new) at.1.node_is
    (subst₂ (λ p q. Falls v z aim.node (p * v.settings.nodes + q) old new) at.1.from_is at.1.to_is F)) C.lent C.falls
aimed_steps meaning v z now (world_event.Tick i) aim a old new lawful founded among at F C =
    let place = i * v.settings.nodes + unwrap_or aim.target i in
    let here : Falls v z i place old new = subst (λ n. Falls v z n place old new) at.node_is
    (subst₂ (λ p q. Falls v z aim.node (p * v.settings.nodes + q) old new) at.from_is at.to_is F) in
    let was = scope_node v z founded.records founded.most i place old new founded.stands here among in
    let sends = at.sends old.endpoint here.endpoint_was in
    let same : C.target ≡ aim.target =
    target_is meaning v i now old.endpoint (founded.records i) C.target was.0 was.1 C.sends
    ∙ sym (target_is meaning v i now old.endpoint (founded.records i) aim.target was.0 was.1 sends) in
    tick_steps meaning v z now i a aim.target old new lawful among at.there here sends
    (subst (λ (t : Option ℕ). CallFalls meaning old (is_some t) (transition now event.Tick a) new) same C.falls)

-- an event that falls nowhere is the delivery of a message of a node to itself
pub unaimed_steps : (meaning : Meaning) (v : WorldState) (now : ℕ) (e : WorldEvent) → FallsNowhere e
    → StepsInWorld meaning v (transition now (event_of e) world_answers.Unsent) v
unaimed_steps meaning v now (world_event.Call node thread k) at = absurd at
unaimed_steps meaning v now (world_event.Request i j k) at = own_request_steps meaning v now i j k at
unaimed_steps meaning v now (world_event.Reply i j k) at = own_reply_steps meaning v now i j k at
unaimed_steps meaning v now (world_event.Tick i) at = absurd at

-- the nodes of where an event falls are there
pub aim_among : (v : WorldState) (now : ℕ) (e : WorldEvent) (aim : Aim) → IsAmong v.settings (event_of e)
    → FallsAt v now e aim
    → (aim.node < v.settings.nodes) × (aim.from < v.settings.nodes) × (aim.to < v.settings.nodes)
aim_among v now (world_event.Call node thread k) aim among at =
    let s = v.settings in
    let l = caller_in s node thread (meant k) among in (
      subst (λ n. n < s.nodes) (sym at.node_is) l,
      subst (λ n. n < s.nodes) (sym at.from_is) l,
      at.target.to_in l,
    )
aim_among v now (world_event.Request i j k) aim among at = let s = v.settings in (
  subst (λ n. n < s.nodes) (sym at.1.node_is) among.1,
  subst (λ n. n < s.nodes) (sym at.1.from_is) among.0,
  subst (λ n. n < s.nodes) (sym at.1.to_is) among.1,
)
aim_among v now (world_event.Reply i j k) aim among at = let s = v.settings in (
  subst (λ n. n < s.nodes) (sym at.1.node_is) among.0,
  subst (λ n. n < s.nodes) (sym at.1.from_is) among.0,
  subst (λ n. n < s.nodes) (sym at.1.to_is) among.1,
)
aim_among v now (world_event.Tick i) aim among at = let s = v.settings in (
  subst (λ n. n < s.nodes) (sym at.node_is) among,
  subst (λ n. n < s.nodes) (sym at.from_is) among,
  subst (λ n. n < s.nodes) (sym at.to_is) (target_in s.nodes i aim.target among (λ to e. (at.there to e).0)),
)
  where
    target_in : (nodes i : ℕ) (target : Option ℕ) → i < nodes → ((to : ℕ) → target ≡ Some to → to < nodes)
        → unwrap_or target i < nodes
    target_in nodes i None low there = low
    target_in nodes i (Some to) low there = there to refl

-- the node of an event is that of where it falls
pub aims_node : (v : WorldState) (now : ℕ) (e : WorldEvent) (aim : Aim) → FallsAt v now e aim → event_node e ≡ aim.node
aims_node v now (world_event.Call node thread k) aim at = sym at.node_is
aims_node v now (world_event.Request i j k) aim at = sym at.1.node_is
aims_node v now (world_event.Reply i j k) aim at = sym at.1.node_is
aims_node v now (world_event.Tick i) aim at = sym at.node_is

-- a call may be made at its node
pub callable : (v : WorldState) (e : WorldEvent) → IsWholeWorld v → MayFall v.settings e → IsCallable v.endpoints e
callable v (world_event.Call node thread k) whole may = λ endpoint at.
    subst (λ s. MayBeCalled s thread k) (sym (whole.sized.nodes node endpoint at).settings_are) may
callable v (world_event.Request i j k) whole may = tt
callable v (world_event.Reply i j k) whole may = tt
callable v (world_event.Tick i) whole may = tt

-- a tick sends what was planned
pub planned : (v : WorldState) (now : ℕ) (e : WorldEvent) (aim : Aim) → FallsAt v now e aim
    → IsPlanned v.endpoints (transition now e (is_some aim.target))
planned v now (world_event.Call node thread k) aim at = tt
planned v now (world_event.Request i j k) aim at = tt
planned v now (world_event.Reply i j k) aim at = tt
planned v now (world_event.Tick i) aim at = λ endpoint lent.
    record { target = aim.target; target_is = at.sends endpoint lent; sends_is = refl }

-- what a world stands for after a step
pub founded_after : (meaning : Meaning) (old new : WorldState) (now : ℕ) (e : WorldEvent) (a : WorldAnswer)
    → IsFounded old → StepsInWorld meaning old (transition now (event_of e) a) new → IsFounded new
founded_after meaning old new now e (world_answers.Node answer) F steps = record {
  records = world_after (job_in meaning old) F.records (timed_event now (event_of e));
  most = most_then old.settings (world_after (job_in meaning old) F.records (timed_event now (event_of e))) F.most;
  stands = (steps F.records F.most F.stands).1;
}
founded_after meaning old new now e world_answers.Unsent F steps = record {
  records = world_after (job_in meaning old) F.records (timed_event now (event_of e));
  most = most_then old.settings (world_after (job_in meaning old) F.records (timed_event now (event_of e))) F.most;
  stands = (steps F.records F.most F.stands).1;
}
founded_after meaning old new now e world_answers.NoMemory F steps = record {
  records = F.records;
  most = F.most;
  stands = steps.1 F.records F.most F.stands;
}

-- ---- the world that is written where an event falls

-- what stood where the event falls
pub record Spot (world : WorldState) (aim : Aim) (node place : ℕ) (exchanges : ExchangesState) (most : ℕ) : Type 0 where
  pub node_is : node ≡ aim.node
  pub place_is : place ≡ aim.from * world.settings.nodes + aim.to
  pub exchanges_were : exchanges ≡ get_or world.exchanges place exchanges
  pub most_was : most ≡ get_or world.most node most

-- what happened where it falls
pub record Happened (meaning : Meaning) (inside : WorldState) (old : EventScope) (step : Transition WorldEvent WorldAnswer)
    (new : EventScope) (aim : Aim) (node place : ℕ) : Type 0 where
  pub aims : FallsAt inside step.now step.event aim
  pub spot : Spot inside aim node place old.exchanges old.most
  pub steps : EventScopeSteps meaning inside.endpoints old step new

-- what the event does to its scope it does to the world
pub recorded : (meaning : Meaning) (inside v z : WorldState) (now : ℕ) (e : WorldEvent) (aim : Aim) (a : WorldAnswer)
    (ends : List EndpointState) (node place : ℕ) (old new : EventScope) → IsLawfulMeaning meaning → inside ≡ v
    → IsWholeWorld inside → IsAmong v.settings (event_of e)
    → Happened meaning inside old (transition now e a) new aim node place
    → ChangesOne inside.endpoints ends node old.endpoint new.endpoint
    → record {
      settings = inside.settings;
      table = inside.table;
      endpoints = ends;
      exchanges = set inside.exchanges place new.exchanges;
      most = set inside.most node new.most;
    } ≡ z
    → StepsInWorld meaning v (transition now (event_of e) a) z
recorded meaning inside v z now e aim a ends node place old new lawful view whole among it changes after =
    let at : FallsAt v now e aim = subst (λ (w : WorldState). FallsAt w now e aim) view it.aims in
    let low = aim_among v now e aim among at in
    let falls = falls_at inside.settings inside.table v z inside.endpoints ends inside.exchanges inside.most aim.from
    aim.to aim.node node place old new view whole.sized low.1 low.2 low.0 it.spot.node_is it.spot.place_is changes
    it.spot.exchanges_were it.spot.most_was after in
    aimed_steps meaning v z now e aim a old new lawful
    (subst (λ (w : WorldState). IsFounded w) view whole.founded) among at falls
    (subst (λ (w : WorldState). EventScopeSteps meaning w.endpoints old (transition now e a) new) view it.steps)

-- the message that it delivers was held
pub spot_held : (meaning : Meaning) (inside v : WorldState) (e : WorldEvent) (now : ℕ) (aim : Aim) (node place : ℕ)
    (exchanges : ExchangesState) (most : ℕ) → IsLawfulMeaning meaning → inside ≡ v → IsWholeWorld inside
    → IsAmong v.settings (event_of e) → FallsAt inside now e aim
    → Spot inside aim node place exchanges most → IsHeld inside.endpoints exchanges.list e
spot_held meaning inside v e now aim node place exchanges most lawful view whole among aims spot =
    let inner : IsAmong inside.settings (event_of e) =
    subst (λ (w : WorldState). IsAmong w.settings (event_of e)) (sym view) among in
    let low = aim_among inside now e aim inner aims in
    let within : place < length inside.exchanges = subst₂ (λ p l. p < l) (sym spot.place_is)
    (sym whole.sized.exchanges_are) (pair_place inside.settings.nodes aim.from aim.to low.1 low.2) in
    let pair = slice_get_read inside.exchanges (length inside.exchanges) place exchanges refl within
    spot.exchanges_were in
    event_held meaning inside whole.founded.records whole.founded.most e now aim exchanges lawful whole.founded.stands
    inner aims (subst (λ p. slice_get inside.exchanges p ≡ Some exchanges) spot.place_is pair)
