-- Each tick, by what it did to its scope.
use Rattle.std.proofs.Common.{◌≡◌, ◌≢◌, inl, inr, ℕ, ◌+◌, ◌*◌, ◌<◌, true≢false, List, []}
use Rattle.std.proofs.Common.{◌∷◌, ◌++◌, refl, sym, ap, ◌∙◌, subst, subst₂}
use Rattle.std.specs.Prelude.{Bool, Option, Some, None, is_some, unwrap_or, slice_get, slice_set, ◌==◌}
use Rattle.std.proofs.lemmas.Bool.{cases_Bool}
use Rattle.std.proofs.lemmas.Option.{same_Some}
use Rattle.wire_message.specs.Parameters.{Parameters}
use Rattle.wire_message.specs.Content.{Content}
use Rattle.part_handlers.specs.declared.table.Entry.{Entry}
use Rattle.part_handlers.specs.Runs.{Meaning, IsLawfulMeaning}
use Rattle.spec_node.specs.declared.answer.SlotRef.{SlotRef}
use Rattle.spec_node.specs.Record.{Node}
use Rattle.spec_node.specs.Behaviour.{Sending}
use Rattle.spec_node.specs.Credits.{limits_of}
use Rattle.spec_node.specs.Requests.{next_claim}
use Rattle.spec_node.specs.Step.{put, new_request, request_slot, tick_choice, tick_answer, after_tick, after_sending}
use Rattle.spec_node.specs.Step.{TickChoice, Retransmits, Sends, Rests}
use Rattle.spec_node.specs.NodeStep.{OfTick, Ticks as NodeTicks, site_of, node_after}
use Rattle.spec_node.proofs.Puts.{put_same, put_other}
use Rattle.node_core.specs.ClientRules.{content_refusal}
use Rattle.node_core.specs.Library.{notification_handler}
use Rattle.spec_network.specs.World.{OfNode, Ticks}
use Rattle.node_rules.specs.EndpointLocal.{EndpointLocal}
use Rattle.node_rules.specs.EndpointRules.{Records, job_of, transition, sent_as}
use Rattle.node_rules.specs.declared.call.Event.TheVariants as event
use Rattle.node_rules.specs.declared.answer.Answer.{Answer}
use Rattle.node_rules.specs.declared.answer.Answer.TheVariants as answers
use Rattle.node_endpoint.specs.EndpointState.{EndpointState, EndpointStands, IsNodeOf, IsTickTarget, sent_to}
use Rattle.sim_world.specs.WorldState.{WorldState}
use Rattle.sim_world.specs.EventScopes.{EventScope, ScopeStage, scope_with, Happens, IsPlanned, asked_list, CallFalls}
use Rattle.sim_world.specs.EventScopes.{AloneFallsIn}
use Rattle.sim_world.specs.EventScopes.{AskFalls}
use Rattle.sim_world.specs.Exchanges.{new_exchange}
use Rattle.sim_world.specs.Stands.{StandsForPair, WorldStands}
use Rattle.sim_world.specs.Events.{Accepts, StepsInWorld, job_in}
use Rattle.sim_world.specs.declared.exchanges.Exchange.{Exchange}
use Rattle.node_core.specs.CoreContracts.{IsSameNode}
use Rattle.sim_world.specs.declared.event.WorldEvent.{WorldEvent}
use Rattle.sim_world.specs.declared.event.WorldEvent.TheVariants as world_event
use Rattle.sim_world.specs.declared.event.WorldAnswer.{WorldAnswer}
use Rattle.sim_world.specs.declared.event.WorldAnswer.TheVariants as world_answers
use Rattle.sim_world.proofs.PairStands.{pair_accepted}
use Rattle.sim_world.proofs.Standing.{Falls, Sends as SendsAt, only_asked, same_stands}
use Rattle.sim_world.proofs.Events.{Stepping, scope_node, scope_pair, scope_steps, event_steps, quiet_sends}
use Rattle.sim_world.proofs.Events.{choice_quiet, most_raised, at_home}
use Rattle.base_lists.proofs.Cases.{none_some}

-- ---- what a tick does

-- what it does at a node's record
abbrev pub choice_at : Meaning → WorldState → (now node : ℕ) → Node EndpointLocal → TickChoice
choice_at meaning v now i r = tick_choice (site_of (job_in meaning v) i) r now

-- the node to which the endpoint says that it sends is that of the record's choice
pub target_is : (meaning : Meaning) (v : WorldState) (i now : ℕ) (e : EndpointState) (r : Node EndpointLocal)
    (target : Option ℕ) → IsNodeOf v.settings v.table i e → EndpointStands e r → IsTickTarget e now target
    → target ≡ sent_to (choice_at meaning v now i r)
target_is meaning v i now e r target N S T =
    let P : Parameters → List (Option Entry) → ℕ → Type 0 =
    λ s t m. target ≡ sent_to (tick_choice (site_of (job_of s t meaning) m) r now) in
    at_home v.settings v.table i e P N (T meaning r S)

-- a tick that sends to a node
pub record IsSending (choice : TickChoice) (to : ℕ) : Type 0 where
  pub sending : Sending
  pub is : choice ≡ Sends sending
  pub to_is : sending.to ≡ to

sending_is : (choice : TickChoice) (to : ℕ) → Some to ≡ sent_to choice → IsSending choice to
sending_is (Retransmits due) to e = absurd (none_some (sym e))
sending_is (Sends sending) to e = record { sending = sending; is = refl; to_is = sym (same_Some _ _ e) }
sending_is Rests to e = absurd (none_some (sym e))

-- how it is answered, the exchanges get the slot of its request
sent_listed : (list : List Exchange) (content : Content) (at : SlotRef)
    → asked_list list (answers.Ticked (sent_as content at)) ≡ list ++ new_exchange at.slot ∷ []
sent_listed list content at = elim (cases_Bool (content.handler == notification_handler)) [
  | inl notification ↦ rw notification refl
  | inr other ↦ rw other refl
]

-- and it accepts
sent_accepts : (content : Content) (at : SlotRef) → Accepts (OfNode (OfTick (sent_as content at)))
sent_accepts content at = elim (cases_Bool (content.handler == notification_handler)) [
  | inl notification ↦ rw notification tt
  | inr other ↦ rw other tt
]

-- a record whose tick sends to some node accepts
accepts_at : (meaning : Meaning) (v : WorldState) (i now : ℕ) (r : Node EndpointLocal) (to : ℕ)
    → Some to ≡ sent_to (choice_at meaning v now i r)
    → Accepts (OfNode (OfTick (tick_answer (job_in meaning v).behaviour.messages r (choice_at meaning v now i r))))
accepts_at meaning v i now r to e =
    let it = sending_is (choice_at meaning v now i r) to e in
    subst (λ (choice : TickChoice).
    Accepts (OfNode (OfTick (tick_answer (job_in meaning v).behaviour.messages r choice)))) (sym it.is)
    (sent_accepts it.sending.content (request_slot it.sending.to (next_claim (r.asked it.sending.to)).slot))

-- what a tick does to the scope of its node, it does to the stage
pub tick_happens : (meaning : Meaning) (old : ScopeStage) (now node : ℕ) (planned : WorldEvent) (sends : Bool)
    (answer : WorldAnswer) (was : EndpointState) (new : EventScope)
    → planned ≡ world_event.Tick node → slice_get old.endpoints node ≡ Some was
    → IsSameNode was.core new.endpoint.core → IsPlanned old.endpoints (transition now planned sends)
    → CallFalls meaning (scope_with old was) sends (transition now event.Tick answer) new
    → Happens meaning old (transition now planned answer) (record {
      endpoints = slice_set old.endpoints node new.endpoint;
      exchanges = new.exchanges;
      most = new.most;
    })
tick_happens meaning old now node planned sends answer was new e there same plan falls =
    subst (λ (p : WorldEvent). IsPlanned old.endpoints (transition now p sends)
    → Happens meaning old (transition now p answer) (record {
      endpoints = slice_set old.endpoints node new.endpoint;
      exchanges = new.exchanges;
      most = new.most;
    })) (sym e) (λ plan. let it = plan was there in record {
      was = was;
      is = new.endpoint;
      changes = record { there = there; changed = refl; same = same };
      steps = record {
        target = it.target;
        sends = it.target_is;
        falls = subst (λ (b : Bool). CallFalls meaning (scope_with old was) b (transition now event.Tick answer) new)
            it.sends_is falls;
      };
    }) plan

-- ---- a tick that sends

-- the request is accepted: its pair is that of the node and its target
sending_sends : (meaning : Meaning) (v z : WorldState) (now i : ℕ) (sending : Sending) (old new : EventScope) (w : Records)
    (most : ℕ → ℕ) → WorldStands v w most → i < v.settings.nodes → sending.to < v.settings.nodes → sending.to ≢ i
    → Falls v z i (i * v.settings.nodes + sending.to) old new
    → new.exchanges.list ≡ old.exchanges.list ++ new_exchange (next_claim ((w i).asked sending.to)).slot ∷ []
    → SendsAt w (put w i (after_sending (site_of (job_in meaning v) i) (w i) now sending)) i sending.to new
sending_sends meaning v z now i sending old new w most S i_in to_in other F list =
    let s = v.settings in
    let j = sending.to in
    let r = w i in
    let xs = r.asked j in
    let y = new_request now (next_claim xs).slot sending.content in
    let x = after_sending (site_of (job_in meaning v) i) r now sending in
    let pair =
    pair_accepted (limits_of s i j) (content_refusal v.settings v.table) old.exchanges.list xs ((w j).ran i) y
    (S.invariant_.pair i j) (scope_pair v z w most i i j old new S F i_in to_in) refl in
    let asked_now : (put w i x i).asked j ≡ xs ++ y ∷ [] = ap (λ (t : Node EndpointLocal). t.asked j) (put_same w i x)
    ∙ put_same r.asked j (xs ++ y ∷ []) in
    let ran_now : (put w i x j).ran i ≡ (w j).ran i =
    ap (λ (t : Node EndpointLocal). t.ran i) (put_other w i x j other) in
    record {
      pair = subst₂ (λ A R. StandsForPair new.exchanges.list A R) (sym asked_now) (sym ran_now)
          (subst (λ (l : List Exchange). StandsForPair l (xs ++ y ∷ []) ((w j).ran i)) (sym list) pair);
      others = only_asked w i x j (xs ++ y ∷ []) refl refl;
    }

-- by what the tick does: it sends to this node
tick_sends : (meaning : Meaning) (v z : WorldState) (now i to : ℕ) (answer : Answer) (old new : EventScope) (w : Records)
    (most : ℕ → ℕ) → WorldStands v w most → i < v.settings.nodes → to < v.settings.nodes → to ≢ i
    → Falls v z i (i * v.settings.nodes + to) old new
    → Stepping meaning v w now i NodeTicks answer new.endpoint
    → new.exchanges.list ≡ asked_list old.exchanges.list answer
    → (choice : TickChoice) → choice_at meaning v now i (w i) ≡ choice → Some to ≡ sent_to choice
    → SendsAt w (put w i (after_tick (site_of (job_in meaning v) i) (w i) now choice)) i to new
tick_sends meaning v z now i to answer old new w most S i_in to_in other F N list (Retransmits due) is e =
    absurd (none_some (sym e))
tick_sends meaning v z now i to answer old new w most S i_in to_in other F N list (Sends sending) is e =
    let same : to ≡ sending.to = same_Some _ _ e in
    let content = sending.content in
    let at = request_slot sending.to (next_claim ((w i).asked sending.to)).slot in
    let listed : new.exchanges.list ≡ old.exchanges.list ++ new_exchange at.slot ∷ [] =
    list ∙ (ap (asked_list old.exchanges.list) (N.answer_is
    ∙ ap (λ (c : TickChoice). answers.Ticked (tick_answer (job_in meaning v).behaviour.messages (w i) c)) is)
    ∙ sent_listed old.exchanges.list content at) in
    subst (λ t. SendsAt w (put w i (after_sending (site_of (job_in meaning v) i) (w i) now sending)) i t new) (sym same)
    (sending_sends meaning v z now i sending old new w most S i_in
    (subst (λ t. t < v.settings.nodes) same to_in) (subst (λ t. t ≢ i) same other)
    (subst (λ t. Falls v z i (i * v.settings.nodes + t) old new) same F) listed)
tick_sends meaning v z now i to answer old new w most S i_in to_in other F N list Rests is e =
    absurd (none_some (sym e))

-- one that sends to no node
still_sends : (meaning : Meaning) (v z : WorldState) (now i b : ℕ) (old new : EventScope) (w : Records) (most : ℕ → ℕ)
    → WorldStands v w most → i < v.settings.nodes → b < v.settings.nodes
    → Falls v z i (i * v.settings.nodes + b) old new → new.exchanges.list ≡ old.exchanges.list
    → None ≡ sent_to (choice_at meaning v now i (w i))
    → SendsAt w (put w i (node_after (job_in meaning v) i (w i) now NodeTicks)) i b new
still_sends meaning v z now i b old new w most S i_in b_in F list none =
    quiet_sends v z w most i i b _ old new S i_in b_in F list
    (choice_quiet meaning v i now (w i) (choice_at meaning v now i (w i)) none)

-- ---- a tick

-- one that sends nothing for the first time
rest_steps : (meaning : Meaning) (v z : WorldState) (now i b : ℕ) (a : WorldAnswer) (old new : EventScope)
    → IsLawfulMeaning meaning → i < v.settings.nodes → b < v.settings.nodes
    → Falls v z i (i * v.settings.nodes + b) old new → IsTickTarget old.endpoint now None
    → AloneFallsIn meaning old (transition now event.Tick a) new → StepsInWorld meaning v (transition now (Ticks i) a) z
rest_steps meaning v z now i b (world_answers.Node answer) old new lawful low b_in F T C = λ w most S.
    let place = i * v.settings.nodes + b in
    let was = scope_node v z w most i place old new S F low in
    let N = scope_steps meaning v z w most now i place NodeTicks answer old new S F low C.steps in
    event_steps meaning v z now (Ticks i) i i b NodeTicks answer old new w most lawful S low low b_in F refl N
    (most_raised v.settings v.table i _ old new N.node N.stands C.most_is)
    (still_sends meaning v z now i b old new w most S low b_in F C.list
    (target_is meaning v i now old.endpoint (w i) None was.0 was.1 T))
rest_steps meaning v z now i b world_answers.NoMemory old new lawful low b_in F T C = absurd C
rest_steps meaning v z now i b world_answers.Unsent old new lawful low b_in F T C = absurd C

-- one that sends a request for the first time
send_steps : (meaning : Meaning) (v z : WorldState) (now i to : ℕ) (a : WorldAnswer) (old new : EventScope)
    → IsLawfulMeaning meaning → i < v.settings.nodes → to < v.settings.nodes → to ≢ i
    → Falls v z i (i * v.settings.nodes + to) old new → IsTickTarget old.endpoint now (Some to)
    → AskFalls meaning old (transition now event.Tick a) new → StepsInWorld meaning v (transition now (Ticks i) a) z
send_steps meaning v z now i to (world_answers.Node answer) old new lawful low to_in other F T (inl C) = λ w most S.
    let place = i * v.settings.nodes + to in
    let was = scope_node v z w most i place old new S F low in
    let N = scope_steps meaning v z w most now i place NodeTicks answer old new S F low C.steps in
    event_steps meaning v z now (Ticks i) i i to NodeTicks answer old new w most lawful S low low to_in F refl N
    (most_raised v.settings v.table i _ old new N.node N.stands C.most_is)
    (tick_sends meaning v z now i to answer old new w most S low to_in other F N C.list _ refl
    (target_is meaning v i now old.endpoint (w i) (Some to) was.0 was.1 T))
send_steps meaning v z now i to (world_answers.Node answer) old new lawful low to_in other F T (inr D) =
    absurd (true≢false (sym (D.declined (Some to) T)))
send_steps meaning v z now i to world_answers.NoMemory old new lawful low to_in other F T C = (
  record {
    request = tt;
    accepts = λ w most S.
        let was = scope_node v z w most i (i * v.settings.nodes + to) old new S F low in
        accepts_at meaning v i now (w i) to (target_is meaning v i now old.endpoint (w i) (Some to) was.0 was.1 T);
  },
  λ w most S. same_stands v z w most i (i * v.settings.nodes + to) old new S F C.same,
)
send_steps meaning v z now i to world_answers.Unsent old new lawful low to_in other F T C = absurd C

-- by the node to which it sends
pub tick_steps : (meaning : Meaning) (v z : WorldState) (now i : ℕ) (a : WorldAnswer) (target : Option ℕ)
    (old new : EventScope) → IsLawfulMeaning meaning → i < v.settings.nodes
    → ((to : ℕ) → target ≡ Some to → (to < v.settings.nodes) × (to ≢ i))
    → Falls v z i (i * v.settings.nodes + unwrap_or target i) old new → IsTickTarget old.endpoint now target
    → CallFalls meaning old (is_some target) (transition now event.Tick a) new
    → StepsInWorld meaning v (transition now (Ticks i) a) z
tick_steps meaning v z now i a None old new lawful low there F T C =
    rest_steps meaning v z now i i a old new lawful low low F T C
tick_steps meaning v z now i a (Some to) old new lawful low there F T C =
    let it = there to refl in send_steps meaning v z now i to a old new lawful low it.0 it.1 F T C
