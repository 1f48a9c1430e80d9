-- What a world delivers is held by its sender: a request that didn't run, and the reply to one that isn't back.
use Rattle.std.proofs.Common.{◌≡◌, ◌≢◌, ℕ, ◌+◌, ◌*◌, ◌<◌, List, Some, sym, ap, ◌∙◌, subst}
use Rattle.std.specs.List.{slice_get}
use Rattle.std.proofs.lemmas.Option.{same_Some}
use Rattle.spec_node.specs.Executed.{run_of}
use Rattle.spec_node.specs.Step.{request_slot, reply_slot}
use Rattle.part_handlers.specs.Runs.{Meaning, IsLawfulMeaning}
use Rattle.node_core.specs.ClientRules.{content_refusal}
use Rattle.node_rules.specs.EndpointRules.{Records}
use Rattle.sim_world.specs.ExchangesState.{ExchangesState}
use Rattle.node_endpoint.specs.EndpointState.{EndpointState}
use Rattle.sim_world.specs.WorldState.{WorldState}
use Rattle.sim_world.specs.EventScopes.{HoldsMessage, HoldsRequest, HoldsReply, IsHeld}
use Rattle.sim_world.specs.EventScopes.{request_envelope, reply_envelope}
use Rattle.sim_world.specs.Stands.{WorldStands, StandsForPair}
use Rattle.sim_world.specs.declared.exchanges.Exchange.{Exchange}
use Rattle.sim_world.specs.Aims.{FallsAt}
use Rattle.sim_world.specs.Events.{event_of}
use Rattle.sim_world.specs.Aims.{Aim}
use Rattle.sim_world.specs.declared.event.WorldEvent.{WorldEvent}
use Rattle.sim_world.specs.declared.event.WorldEvent.TheVariants as world_event
use Rattle.spec_network.specs.World.{IsAmong}
use Rattle.sim_world.proofs.PairStands.{sent_is}
use Rattle.sim_world.proofs.Events.{other_node}
use Rattle.sim_world.proofs.Messages.{request_stands, run_stands, held_there}
use Rattle.sim_world.proofs.Deliveries.{not_ran, did_run, not_back}

-- the exchanges of a pair stand for it
pair_there : (v : WorldState) (w : Records) (most : ℕ → ℕ) (i j : ℕ) (exchanges : ExchangesState) → WorldStands v w most
    → i < v.settings.nodes → j < v.settings.nodes
    → slice_get v.exchanges (i * v.settings.nodes + j) ≡ Some exchanges
    → StandsForPair exchanges.list ((w i).asked j) ((w j).ran i)
pair_there v w most i j exchanges S i_in j_in at =
    let it = S.exchanges i j i_in j_in in
    subst (λ (l : List Exchange). StandsForPair l ((w i).asked j) ((w j).ran i))
    (ap (λ (x : ExchangesState). x.list) (same_Some _ _ (sym it.2 ∙ at))) it.3

-- a request that didn't run
pub request_held : (v : WorldState) (w : Records) (most : ℕ → ℕ) (i j k : ℕ) (exchanges : ExchangesState)
    (sender : EndpointState) → WorldStands v w most → i < v.settings.nodes → j < v.settings.nodes → i ≢ j
    → slice_get v.exchanges (i * v.settings.nodes + j) ≡ Some exchanges → slice_get v.endpoints i ≡ Some sender
    → HoldsRequest exchanges.list sender (request_envelope i j k)
request_held v w most i j k exchanges sender S i_in j_in apart pair lent = λ exchange at out.
    let s = v.settings in
    let it = sent_is exchanges.list ((w i).asked j) ((w j).ran i) k exchange
    (pair_there v w most i j exchanges S i_in j_in pair) at in
    let here = other_node v w most i sender S lent i_in in
    let none = not_ran (run_of k ((w j).ran i)) (sym out ∙ it.stands.ran) in
    let found = request_stands s (content_refusal s v.table) w i j k it.x S.invariant_ apart it.at
    (not_back s (content_refusal s v.table) w i j k it.x S.invariant_ it.at none) in
    subst (λ q. HoldsMessage sender (request_slot j q)) (sym it.stands.slot)
    (held_there s v.table i sender (w i) (request_slot j it.x.slot) _ here.0 here.1 found)

-- the reply to a request that ran and isn't back
pub reply_held : (meaning : Meaning) (v : WorldState) (w : Records) (most : ℕ → ℕ) (i j k : ℕ)
    (exchanges : ExchangesState) (sender : EndpointState) → IsLawfulMeaning meaning → WorldStands v w most
    → i < v.settings.nodes → j < v.settings.nodes
    → slice_get v.exchanges (i * v.settings.nodes + j) ≡ Some exchanges → slice_get v.endpoints j ≡ Some sender
    → HoldsReply exchanges.list sender (reply_envelope i j k)
reply_held meaning v w most i j k exchanges sender lawful S i_in j_in pair lent = λ exchange at did out.
    let s = v.settings in
    let it = sent_is exchanges.list ((w i).asked j) ((w j).ran i) k exchange
    (pair_there v w most i j exchanges S i_in j_in pair) at in
    let here = other_node v w most j sender S lent j_in in
    let r = did_run (run_of k ((w j).ran i)) (sym did ∙ it.stands.ran) in
    let found =
    run_stands meaning v w i j k it.x r.0 S.range lawful S.invariant_ it.at (sym it.stands.back ∙ out) r.1 in
    subst (λ q. HoldsMessage sender (reply_slot i q)) (sym it.stands.slot)
    (held_there s v.table j sender (w j) (reply_slot i it.x.slot) _ here.0 here.1 found)

-- what an event delivers, where it falls on this pair
pub event_held : (meaning : Meaning) (v : WorldState) (w : Records) (most : ℕ → ℕ) (e : WorldEvent) (now : ℕ)
    (aim : Aim)
    (exchanges : ExchangesState) → IsLawfulMeaning meaning → WorldStands v w most → IsAmong v.settings (event_of e)
    → FallsAt v now e aim
    → slice_get v.exchanges (aim.from * v.settings.nodes + aim.to) ≡ Some exchanges
    → IsHeld v.endpoints exchanges.list e
event_held meaning v w most (world_event.Call node thread k) now aim exchanges lawful S among at pair = tt
event_held meaning v w most (world_event.Request i j k) now aim exchanges lawful S among at pair = λ sender lent.
    request_held v w most i j k exchanges sender S among.0 among.1 at.0
    (ap (λ n. slice_get v.exchanges (n * v.settings.nodes + j)) (sym at.1.from_is)
    ∙ (ap (λ n. slice_get v.exchanges (aim.from * v.settings.nodes + n)) (sym at.1.to_is) ∙ pair)) lent
event_held meaning v w most (world_event.Reply i j k) now aim exchanges lawful S among at pair = λ sender lent.
    reply_held meaning v w most i j k exchanges sender lawful S among.0 among.1
    (ap (λ n. slice_get v.exchanges (n * v.settings.nodes + j)) (sym at.1.from_is)
    ∙ (ap (λ n. slice_get v.exchanges (aim.from * v.settings.nodes + n)) (sym at.1.to_is) ∙ pair)) lent
event_held meaning v w most (world_event.Tick i) now aim exchanges lawful S among at pair = tt
