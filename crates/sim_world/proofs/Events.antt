-- What an event does to its scope is the records' step.
use Rattle.std.proofs.Common.{◌≡◌, inl, inr, ℕ, ◌+◌, ◌*◌, ◌<◌, max, List, Option, None, Some, refl, sym, ap, ap₂}
use Rattle.std.proofs.Common.{◌∙◌, subst, subst₂}
use Rattle.std.specs.List.{slice_get}
use Rattle.std.proofs.lemmas.Bool.{cases_eq}
use Rattle.std.proofs.lemmas.Option.{same_Some}
use Rattle.wire_message.specs.Parameters.{Parameters}
use Rattle.part_handlers.specs.declared.table.Entry.{Entry}
use Rattle.spec_node.specs.Record.{Request, Node, change}
use Rattle.spec_node.specs.Requests.{Due, sent_at}
use Rattle.spec_node.specs.Step.{put, after_resend, after_tick, TickChoice, Retransmits, Sends, Rests}
use Rattle.spec_node.specs.NodeStep.{site_of, node_answer, node_after}
use Rattle.spec_node.specs.Held.{held_buffers}
use Rattle.node_rules.specs.EndpointLocal.{EndpointLocal, IsEndpointKept}
use Rattle.part_handlers.specs.Runs.{Meaning, IsLawfulMeaning}
use Rattle.node_core.specs.ClientRules.{content_refusal}
use Rattle.spec_node.proofs.Puts.{put_same, put_other}
use Rattle.spec_network.specs.World.{IsAmong, falls, answer_at, after_at, world_answer, world_after}
use Rattle.spec_network.specs.MostHeld.{most_then}
use Rattle.spec_network.specs.Invariant.{WorldInvariant}
use Rattle.node_rules.specs.EndpointRules.{Records, RecordsEvent, RecordEvent, timed_event, transition, job_of, answer_told}
use Rattle.sim_world.specs.WorldTold.{world_told}
use Rattle.sim_world.specs.ExchangesState.{ExchangesState}
use Rattle.node_endpoint.specs.EndpointState.{EndpointState, EndpointStands, NodeSteps, sent_to, IsNodeOf}
use Rattle.sim_world.specs.WorldState.{WorldState}
use Rattle.sim_world.specs.EventScopes.{EventScope, MostIs, IsSame}
use Rattle.sim_world.specs.Stands.{StandsForPair, WorldStands}
use Rattle.sim_world.specs.Events.{job_in}
use Rattle.node_rules.specs.declared.answer.Answer.{Answer}
use Rattle.sim_world.specs.declared.event.WorldAnswer.{WorldAnswer}
use Rattle.sim_world.specs.declared.event.WorldAnswer.TheVariants as world_answers
use Rattle.sim_world.specs.declared.exchanges.Exchange.{Exchange}
use Rattle.spec_network.proofs.Worlds.{step_keeps}
use Rattle.node_rules.proofs.Sound.{rules_sound}
use Rattle.sim_world.proofs.PairStands.{pair_sent}
use Rattle.sim_world.proofs.Standing.{Falls, Sends as SendsAt, IsQuiet, quiet_pairs, Moves, moves_stand, still_stands}
use Rattle.sim_world.proofs.Standing.{max_same}
use Rattle.sim_world.proofs.EventScopes.{node_kept}
use Rattle.base_lists.proofs.Cases.{none_some}

-- the answer is the records', and the world stands for the records' next ones
abbrev pub Stepped : Meaning → WorldState → (now : ℕ) → RecordsEvent → WorldAnswer → WorldState → Records → (ℕ → ℕ)
    → Type 0
Stepped meaning v now e a z w most = (a ≡ world_told (world_answer (job_in meaning v) w (timed_event now e)))
    × WorldStands z (world_after (job_in meaning v) w (timed_event now e))
    (most_then v.settings (world_after (job_in meaning v) w (timed_event now e)) most)

-- ---- what was there

-- the endpoint stood for its node's record
pub scope_node : (v z : WorldState) (w : Records) (most : ℕ → ℕ) (i place : ℕ) (old new : EventScope)
    → WorldStands v w most
    → Falls v z i place old new → i < v.settings.nodes
    → IsNodeOf v.settings v.table i old.endpoint × EndpointStands old.endpoint (w i)
scope_node v z w most i place old new S F low =
    let it = S.endpoints i low in
    subst (λ (e : EndpointState). IsNodeOf v.settings v.table i e × EndpointStands e (w i))
    (same_Some _ _ (sym it.1 ∙ F.endpoint_was)) (it.2, it.3)

-- the exchanges stood for the pair
pub scope_pair : (v z : WorldState) (w : Records) (most : ℕ → ℕ) (node i j : ℕ) (old new : EventScope)
    → WorldStands v w most
    → Falls v z node (i * v.settings.nodes + j) old new → i < v.settings.nodes → j < v.settings.nodes
    → StandsForPair old.exchanges.list ((w i).asked j) ((w j).ran i)
scope_pair v z w most node i j old new S F i_in j_in =
    let it = S.exchanges i j i_in j_in in
    let same : record { list = it.0; room = it.1 } ≡ old.exchanges = same_Some _ _ (sym it.2 ∙ F.exchanges_were) in
    subst (λ (l : List Exchange). StandsForPair l ((w i).asked j) ((w j).ran i))
    (ap (λ (x : ExchangesState). x.list) same) it.3

-- the greatest number held
pub scope_most : (v z : WorldState) (w : Records) (most : ℕ → ℕ) (i place : ℕ) (old new : EventScope)
    → WorldStands v w most
    → Falls v z i place old new → i < v.settings.nodes → old.most ≡ most i
scope_most v z w most i place old new S F low = same_Some _ _ (sym F.most_was ∙ S.most_is i low)

-- the endpoint of another node stood for that node's record
pub other_node : (v : WorldState) (w : Records) (most : ℕ → ℕ) (i : ℕ) (e : EndpointState) → WorldStands v w most
    → slice_get v.endpoints i ≡ Some e → i < v.settings.nodes
    → IsNodeOf v.settings v.table i e × EndpointStands e (w i)
other_node v w most i e S at low =
    let it = S.endpoints i low in
    subst (λ (y : EndpointState). IsNodeOf v.settings v.table i y × EndpointStands y (w i))
    (same_Some _ _ (sym it.1 ∙ at)) (it.2, it.3)

-- ---- a step of the endpoint

-- what holds of an endpoint's settings, table and node holds of its world's
pub at_home : (s : Parameters) (table : List (Option Entry)) (me : ℕ) (e : EndpointState)
    (P : Parameters → List (Option Entry) → ℕ → Type 0) → IsNodeOf s table me e
    → P e.core.settings e.core.table e.core.me → P s table me
at_home s table me e P N p =
    subst (λ x. P x table me) N.settings_are
    (subst (λ x. P e.core.settings x me) N.table_is (subst (λ x. P e.core.settings e.core.table x) N.me_is p))

-- the endpoint answers as the record of its node does, and stands for its next one
pub record Stepping (meaning : Meaning) (v : WorldState) (w : Records) (now i : ℕ) (ne : RecordEvent) (answer : Answer)
    (new : EndpointState) : Type 0 where
  pub answer_is : answer ≡ answer_told (node_answer (job_in meaning v) i (w i) now ne)
  pub stands : EndpointStands new (node_after (job_in meaning v) i (w i) now ne)
  pub node : IsNodeOf v.settings v.table i new

-- the endpoint of a scope does
pub scope_steps : (meaning : Meaning) (v z : WorldState) (w : Records) (most : ℕ → ℕ) (now i place : ℕ)
    (ne : RecordEvent) (answer : Answer) (old new : EventScope) → WorldStands v w most → Falls v z i place old new
    → i < v.settings.nodes
    → NodeSteps meaning old.endpoint (transition now ne answer) new.endpoint
    → Stepping meaning v w now i ne answer new.endpoint
scope_steps meaning v z w most now i place ne answer old new S F low N =
    let it = scope_node v z w most i place old new S F low in
    let P : Parameters → List (Option Entry) → ℕ
    → Type 0 =
    λ s t m. (answer ≡ answer_told (node_answer (job_of s t meaning) m (w i) now ne)) × EndpointStands new.endpoint
    (node_after (job_of s t meaning) m (w i) now ne) in
    let at = at_home v.settings v.table i old.endpoint P it.0 (N.steps (w i) it.1) in
    record {
      answer_is = at.0;
      stands = at.1;
      node = node_kept v.settings v.table i old.endpoint new.endpoint it.0
          N.same;
    }

-- ---- a step of the world

-- an event that falls on a node, where what it sends stands
pub event_steps : (meaning : Meaning) (v z : WorldState) (now : ℕ) (e : RecordsEvent) (i a b : ℕ) (ne : RecordEvent)
    (answer : Answer) (old new : EventScope) (w : Records) (most : ℕ → ℕ)
    → IsLawfulMeaning meaning → WorldStands v w most → IsAmong v.settings e → i < v.settings.nodes
    → b < v.settings.nodes
    → Falls v z i (a * v.settings.nodes + b) old new
    → falls v.settings w e ≡ Some (record { node = i; event = ne }) → Stepping meaning v w now i ne answer new.endpoint
    → new.most ≡ max old.most (held_buffers v.settings i (node_after (job_in meaning v) i (w i) now ne))
    → SendsAt w (put w i (node_after (job_in meaning v) i (w i) now ne)) a b new
    → Stepped meaning v now e (world_answers.Node answer) z w most
event_steps meaning v z now e i a b ne answer old new w most lawful S among i_in b_in F at N H A =
    let s = v.settings in
    let job = job_in meaning v in
    let x = node_after job i (w i) now ne in
    let after_is : world_after job w (timed_event now e) ≡ put w i x = ap (after_at job w now) at in
    let M : Moves v w most i x new = record {
      invariant_ =
          subst (λ (y : Records). WorldInvariant s (content_refusal v.settings v.table) (IsEndpointKept v.settings) y)
          after_is
          (step_keeps job (IsEndpointKept v.settings) w (timed_event now e) (rules_sound s v.table meaning S.range lawful)
          S.invariant_ among);
      node = N.node;
      stands = N.stands;
      most_is =
          H ∙ ap (λ p. max p (held_buffers s i x)) (scope_most v z w most i (a * s.nodes + b) old new S F i_in);
    } in (
      ap (λ n. world_answers.Node n) N.answer_is
          ∙ sym (ap (λ o. world_told (answer_at job w now o)) at),
      subst
          (λ (y : Records). WorldStands z y (most_then s y most)) (sym after_is)
          (moves_stand v z w most i a b x old new S b_in F M A),
    )

-- the greatest number held, where it was raised to what the endpoint holds
pub most_raised : (s : Parameters) (table : List (Option Entry)) (i : ℕ) (x : Node EndpointLocal) (old new : EventScope)
    → IsNodeOf s table i new.endpoint → EndpointStands new.endpoint x → MostIs old.most new.endpoint new.most
    → new.most ≡ max old.most (held_buffers s i x)
most_raised s table i x old new N S H =
    let P : Parameters → List (Option Entry) → ℕ → Type 0 = λ p t m. new.most ≡ max old.most (held_buffers p m x) in
    at_home s table i new.endpoint P N (H x S)

-- nothing is sent that is new
pub quiet_sends : (v z : WorldState) (w : Records) (most : ℕ → ℕ) (i a b : ℕ) (x : Node EndpointLocal) (old new : EventScope)
    → WorldStands v w most → a < v.settings.nodes → b < v.settings.nodes
    → Falls v z i (a * v.settings.nodes + b) old new
    → new.exchanges.list ≡ old.exchanges.list → IsQuiet (w i) x
    → SendsAt w (put w i x) a b new
quiet_sends v z w most i a b x old new S a_in b_in F list Q = record {
  pair =
      subst (λ (l : List Exchange). StandsForPair l ((put w i x a).asked b) ((put w i x b).ran a)) (sym list)
      (quiet_pairs w i x Q a b old.exchanges.list (scope_pair v z w most i a b old new S F a_in b_in));
  others = λ c d other. quiet_pairs w i x Q c d;
}

-- ---- what is quiet

-- a node that asked and ran the same
pub same_quiet : (r x : Node EndpointLocal) → x.asked ≡ r.asked → x.ran ≡ r.ran → IsQuiet r x
same_quiet r x asked ran = record {
  asked =
      λ peer list rs P. subst (λ (f : ℕ → List Request). StandsForPair list (f peer) rs) (sym asked) P;
  ran = ran;
}

-- a tick
pub tick_quiet : (now : ℕ) (r : Node EndpointLocal) (d : Option Due) → IsQuiet r (after_resend r now d)
tick_quiet now r None = same_quiet r r refl refl
tick_quiet now r (Some d) =
    let xs = change (sent_at now) (r.asked d.peer) d.number in
    record {
      asked = λ peer list rs P. elim (cases_eq peer d.peer) [
        | inl e ↦ subst (λ n. StandsForPair list (put r.asked d.peer xs n) rs) (sym e)
            (subst (λ (ys : List Request). StandsForPair list ys rs) (sym (put_same r.asked d.peer xs))
            (pair_sent now list (r.asked d.peer) rs d.number
            (subst (λ n. StandsForPair list (r.asked n) rs) e P)))
        | inr n ↦ subst (λ (ys : List Request). StandsForPair list ys rs)
            (sym (put_other r.asked d.peer xs peer n)) P
      ];
      ran = refl;
    }

-- a tick that sends no request for the first time
pub choice_quiet : (meaning : Meaning) (v : WorldState) (i now : ℕ) (r : Node EndpointLocal) (choice : TickChoice)
    → None ≡ sent_to choice → IsQuiet r (after_tick (site_of (job_in meaning v) i) r now choice)
choice_quiet meaning v i now r (Retransmits due) none = tick_quiet now r (Some due)
choice_quiet meaning v i now r (Sends sending) none = absurd (none_some none)
choice_quiet meaning v i now r Rests none = same_quiet r r refl refl

-- ---- an event that changes no record

-- one that falls on a node, of which its endpoint knows the answer
pub still_steps : (meaning : Meaning) (v z : WorldState) (now : ℕ) (e : RecordsEvent) (i a b : ℕ) (ne : RecordEvent)
    (answer : Answer) (old new : EventScope) (w : Records) (most : ℕ → ℕ)
    → IsLawfulMeaning meaning → WorldStands v w most → IsAmong v.settings e → i < v.settings.nodes
    → a < v.settings.nodes
    → b < v.settings.nodes → Falls v z i (a * v.settings.nodes + b) old new
    → falls v.settings w e ≡ Some (record { node = i; event = ne })
    → answer ≡ answer_told (node_answer (job_in meaning v) i (w i) now ne)
    → node_after (job_in meaning v) i (w i) now ne ≡ w i → IsSame old new
    → Stepped meaning v now e (world_answers.Node answer) z w most
still_steps meaning v z now e i a b ne answer old new w most lawful S among i_in a_in b_in F at answers after I =
    let s = v.settings in
    let x = node_after (job_in meaning v) i (w i) now ne in
    let place = a * s.nodes + b in
    let node = scope_node v z w most i place old new S F i_in in
    let most_was = scope_most v z w most i place old new S F i_in in
    let N : Stepping meaning v w now i ne answer new.endpoint = record {
      answer_is = answers;
      stands =
          subst₂ (λ (d : EndpointState) (r : Node EndpointLocal). EndpointStands d r) (sym I.endpoint) (sym after)
          node.1;
      node = subst (λ (d : EndpointState). IsNodeOf s v.table i d) (sym I.endpoint) node.0;
    } in
    let highest : old.most ≡ max old.most (held_buffers s i x) =
    most_was ∙ (max_same (most i) (held_buffers s i (w i)) (S.held_le i i_in)
    ∙ ap₂ (λ m (r : Node EndpointLocal). max m (held_buffers s i r)) (sym most_was) (sym after)) in
    event_steps meaning v z now e i a b ne answer old new w most lawful S among i_in b_in F at N
    (I.most_is ∙ highest)
    (quiet_sends v z w most i a b x old new S a_in b_in F I.list
    (same_quiet (w i) x (ap (λ (r : Node EndpointLocal). r.asked) after)
    (ap (λ (r : Node EndpointLocal). r.ran) after)))

-- ---- a message that was never sent

-- an event that falls nowhere changes no record
pub nowhere_steps : (meaning : Meaning) (v z : WorldState) (now : ℕ) (e : RecordsEvent) (w : Records) (most : ℕ → ℕ)
    → z.settings ≡ v.settings → WorldStands z w most → falls v.settings w e ≡ None
    → Stepped meaning v now e world_answers.Unsent z w most
nowhere_steps meaning v z now e w most same S none =
    let job = job_in meaning v in
    let after_is : world_after job w (timed_event now e) ≡ w = ap (after_at job w now) none in (
      sym (ap (λ o. world_told (answer_at job w now o)) none),
      subst
          (λ (y : Records). WorldStands z y (most_then v.settings y most)) (sym after_is)
          (still_stands z v.settings w most same S),
    )
