-- Each call of a thread, by what it did to its scope.
use Rattle.std.proofs.Common.{◌≡◌, inl, inr, ℕ, ◌+◌, ◌*◌, ◌<◌, max, Bool, true, false, true≢false, List, []}
use Rattle.std.proofs.Common.{◌∷◌, ◌++◌, refl, sym, ap, ◌∙◌, subst, subst₂}
use Rattle.std.specs.Prelude.{not, ◌==◌, Option, Some, ◌≢◌, ◌⊎◌}
use Rattle.std.proofs.lemmas.Bool.{cases_eq, ne_eqb, eq-eqb}
use Rattle.wire_message.specs.Parameters.{Parameters}
use Rattle.part_handlers.specs.declared.table.Entry.{Entry}
use Rattle.spec_node.specs.declared.answer.Asked.{Asked as AskedAnswer}
use Rattle.spec_node.specs.declared.answer.Asked.TheVariants as asked
use Rattle.spec_node.specs.Record.{Node}
use Rattle.spec_node.specs.Behaviour.{Ask}
use Rattle.spec_node.specs.Credits.{limits_of}
use Rattle.spec_node.specs.Step.{put, request_content, request_answer, after_request, new_request, with_request}
use Rattle.spec_node.specs.Held.{held_buffers}
use Rattle.spec_node.specs.NodeStep.{Job, site_of, OfRequest, Asks, node_after}
use Rattle.spec_node.proofs.Answers.{accepted_says}
use Rattle.spec_node.proofs.Puts.{put_same, put_other}
use Rattle.node_rules.specs.EndpointLocal.{EndpointLocal}
use Rattle.part_handlers.specs.Runs.{Meaning, IsLawfulMeaning}
use Rattle.node_core.specs.ClientRules.{content_refusal}
use Rattle.node_core.specs.Known.{is_accepted}
use Rattle.spec_network.specs.World.{OfNode, IsAmong, falls}
use Rattle.node_rules.specs.EndpointRules.{transition}
use Rattle.node_rules.specs.EndpointRules.{OtherCall, Records, asked_answer, job_of}
use Rattle.node_rules.specs.Called.{Meant, Requests, Performs, meant, node_event, event_of_call, event_at, called_at}
use Rattle.node_rules.specs.Called.{IsAskedOf, HasTarget, is_of_another, is_to_other}
use Rattle.node_endpoint.specs.EndpointState.{EndpointState, EndpointStands, NodeSteps, WouldAcceptCall}
use Rattle.node_endpoint.specs.EndpointState.{IsNodeOf}
use Rattle.sim_world.specs.WorldState.{WorldState}
use Rattle.sim_world.specs.EventScopes.{EventScope, IsSame, MostIs, asked_list, AskFalls, AloneFallsIn, CallFalls}
use Rattle.sim_world.specs.Stands.{StandsForPair, WorldStands}
use Rattle.sim_world.specs.Events.{Accepts, StepsInWorld, job_in}
use Rattle.sim_world.specs.declared.exchanges.Exchange.{Exchange}
use Rattle.node_rules.specs.declared.call.Call.{Call}
use Rattle.node_rules.specs.declared.call.Event.TheVariants as event
use Rattle.node_rules.specs.declared.answer.Answer.{Answer}
use Rattle.node_rules.specs.declared.answer.Answer.TheVariants as answers
use Rattle.sim_world.specs.declared.event.WorldAnswer.{WorldAnswer}
use Rattle.sim_world.specs.declared.event.WorldAnswer.TheVariants as world_answers
use Rattle.sim_world.proofs.PairStands.{pair_accepted}
use Rattle.sim_world.proofs.Standing.{Falls, Sends, IsQuiet, only_asked, same_stands}
use Rattle.sim_world.proofs.Events.{Stepped, Stepping, scope_node, scope_pair, scope_steps, event_steps, quiet_sends}
use Rattle.sim_world.proofs.Events.{same_quiet, most_raised, at_home}

-- ---- events that send nothing

-- a request that isn't accepted leaves the node quiet
request_quiet : (job : Job EndpointLocal OtherCall Answer) (i now : ℕ) (r : Node EndpointLocal) (ask : Ask)
    → ask.to ≡ i → (a : AskedAnswer) → request_answer (site_of job i) r ask ≡ a
    → IsQuiet r (after_request (site_of job i) r now ask a)
request_quiet job i now r ask own (asked.Accepted p q n) e =
    let it = accepted_says (site_of job i) r ask p q n e in absurd (it.other own)
request_quiet job i now r ask own _ e = same_quiet r _ refl refl

-- a call that is no request to another node leaves the node quiet
call_quiet : (job : Job EndpointLocal OtherCall Answer) (i now thread : ℕ) (r : Node EndpointLocal) (m : Meant)
    → ((to : ℕ) → IsAskedOf m to → to ≡ i)
    → IsQuiet r (node_after job i r now (node_event thread m))
call_quiet job i now thread r (Requests to asking) own =
    request_quiet job i now r (record { thread = thread; to = to; what = asking }) (own to refl) _ refl
call_quiet job i now thread r (Performs call) own = same_quiet r _ refl refl

-- a call of a thread falls on its node
falls_there : (v : WorldState) (w : Records) (i thread : ℕ) (m : Meant)
    → falls v.settings w (event_at i thread m) ≡ Some (record { node = i; event = node_event thread m })
falls_there v w i thread (Requests to asking) = refl
falls_there v w i thread (Performs call) = refl

-- whose node is there
caller_among : (v : WorldState) (i thread : ℕ) (m : Meant) → i < v.settings.nodes
    → IsAmong v.settings (event_at i thread m)
caller_among v i thread (Requests to asking) low = low
caller_among v i thread (Performs call) low = low

-- a call of a thread is an event of its node
call_steps : (meaning : Meaning) (v z : WorldState) (now i b thread : ℕ) (m : Meant) (answer : Answer) (old new : EventScope)
    (w : Records) (most : ℕ → ℕ) → IsLawfulMeaning meaning → WorldStands v w most → i < v.settings.nodes
    → b < v.settings.nodes → Falls v z i (i * v.settings.nodes + b) old new
    → Stepping meaning v w now i (node_event thread m) answer new.endpoint
    → new.most ≡ max old.most (held_buffers v.settings i (node_after (job_in meaning v) i (w i) now (node_event thread m)))
    → Sends w (put w i (node_after (job_in meaning v) i (w i) now (node_event thread m))) i b new
    → Stepped meaning v now (event_at i thread m) (world_answers.Node answer) z w most
call_steps meaning v z now i b thread m answer old new w most lawful S low b_in F N H A =
    event_steps meaning v z now (event_at i thread m) i i b _ answer old new w most lawful S
    (caller_among v i thread m low) low b_in F (falls_there v w i thread m) N H A

-- a call that is no request to another node
alone_steps : (meaning : Meaning) (v z : WorldState) (now i b thread : ℕ) (k : Call) (a : WorldAnswer)
    (old new : EventScope) → IsLawfulMeaning meaning → i < v.settings.nodes → b < v.settings.nodes
    → ((to : ℕ) → HasTarget k to → to ≡ i) → Falls v z i (i * v.settings.nodes + b) old new
    → AloneFallsIn meaning old (transition now (event.Call thread k) a) new
    → StepsInWorld meaning v (transition now (called_at i thread k) a) z
alone_steps meaning v z now i b thread k (world_answers.Node answer) old new lawful low b_in own F C = λ w most S.
    let N = scope_steps meaning v z w most now i (i * v.settings.nodes + b) (event_of_call thread k) answer old new S F low
    C.steps in
    call_steps meaning v z now i b thread (meant k) answer old new w most lawful S low b_in F N
    (most_raised v.settings v.table i _ old new N.node N.stands C.most_is)
    (quiet_sends v z w most i i b _ old new S low b_in F C.list
    (call_quiet (job_in meaning v) i now thread (w i) (meant k) own))
alone_steps meaning v z now i b thread k world_answers.NoMemory old new lawful low b_in own F C = absurd C
alone_steps meaning v z now i b thread k world_answers.Unsent old new lawful low b_in own F C = absurd C

-- ---- a request to another node

-- one that is accepted
accepted_sends : (meaning : Meaning) (v z : WorldState) (now i p q n : ℕ) (ask : Ask) (old new : EventScope) (w : Records)
    (most : ℕ → ℕ) → WorldStands v w most → i < v.settings.nodes
    → Falls v z i (i * v.settings.nodes + ask.to) old new
    → request_answer (site_of (job_in meaning v) i) (w i) ask ≡ asked.Accepted p q n
    → new.exchanges.list ≡ asked_list old.exchanges.list (answers.Asked (asked.Accepted p q n))
    → Sends w (put w i (with_request (w i) now ask.to q (request_content (site_of (job_in meaning v) i) (w i) ask))) i ask.to new
accepted_sends meaning v z now i p q n ask old new w most S i_in F e list =
    let s = v.settings in
    let j = ask.to in
    let r = w i in
    let xs = r.asked j in
    let it = accepted_says (site_of (job_in meaning v) i) r ask p q n e in
    let content = request_content (site_of (job_in meaning v) i) r ask in
    let y = new_request now q content in
    let x = with_request r now j q content in
    let pair =
    pair_accepted (limits_of s i j) (content_refusal v.settings v.table) old.exchanges.list xs ((w j).ran i) y
    (S.invariant_.pair i j) (scope_pair v z w most i i j old new S F i_in it.to_in) refl in
    let asked_now : (put w i x i).asked j ≡ xs ++ y ∷ [] = ap (λ (t : Node EndpointLocal). t.asked j) (put_same w i x)
    ∙ put_same r.asked j (xs ++ y ∷ []) in
    let ran_now : (put w i x j).ran i ≡ (w j).ran i =
    ap (λ (t : Node EndpointLocal). t.ran i) (put_other w i x j it.other) in
    record {
      pair = subst₂ (λ A R. StandsForPair new.exchanges.list A R) (sym asked_now) (sym ran_now)
          (subst (λ (l : List Exchange). StandsForPair l (xs ++ y ∷ []) ((w j).ran i)) (sym list) pair);
      others = only_asked w i x j (xs ++ y ∷ []) refl refl;
    }

-- by its answer: the pair is that of the node and of the target, where that is there
request_sends : (meaning : Meaning) (v z : WorldState) (now i b : ℕ) (ask : Ask) (answer : Answer) (old new : EventScope)
    (w : Records) (most : ℕ → ℕ) → WorldStands v w most → i < v.settings.nodes → b < v.settings.nodes
    → (ask.to < v.settings.nodes → b ≡ ask.to) → Falls v z i (i * v.settings.nodes + b) old new
    → Stepping meaning v w now i (Asks ask) answer new.endpoint
    → new.exchanges.list ≡ asked_list old.exchanges.list answer
    → (a : AskedAnswer) → request_answer (site_of (job_in meaning v) i) (w i) ask ≡ a
    → Sends w (put w i (after_request (site_of (job_in meaning v) i) (w i) now ask a)) i b new
request_sends meaning v z now i b ask answer old new w most S i_in b_in target F N list (asked.Accepted p q n) e =
    let is = target (accepted_says (site_of (job_in meaning v) i) (w i) ask p q n e).to_in in
    subst (λ t. Sends w (put w i (with_request (w i) now ask.to q (request_content (site_of (job_in meaning v) i) (w i) ask))) i t
    new) (sym is)
    (accepted_sends meaning v z now i p q n ask old new w most S i_in
    (subst (λ t. Falls v z i (i * v.settings.nodes + t) old new) is F) e
    (list ∙ ap (asked_list old.exchanges.list) (N.answer_is ∙ ap asked_answer e)))
request_sends meaning v z now i b ask answer old new w most S i_in b_in target F N list _ e =
    quiet_sends v z w most i i b _ old new S i_in b_in F
    (list ∙ ap (asked_list old.exchanges.list) (N.answer_is ∙ ap asked_answer e)) (same_quiet (w i) _ refl refl)

-- one that isn't accepted
declined_sends : (meaning : Meaning) (v z : WorldState) (now i b : ℕ) (ask : Ask) (old new : EventScope) (w : Records)
    (most : ℕ → ℕ) → WorldStands v w most → i < v.settings.nodes → b < v.settings.nodes
    → Falls v z i (i * v.settings.nodes + b) old new → new.exchanges.list ≡ old.exchanges.list
    → (a : AskedAnswer) → request_answer (site_of (job_in meaning v) i) (w i) ask ≡ a → false ≡ is_accepted a
    → Sends w (put w i (after_request (site_of (job_in meaning v) i) (w i) now ask a)) i b new
declined_sends meaning v z now i b ask old new w most S i_in b_in F list (asked.Accepted p q n) e declined =
    absurd (true≢false (sym declined))
declined_sends meaning v z now i b ask old new w most S i_in b_in F list _ e declined =
    quiet_sends v z w most i i b _ old new S i_in b_in F list (same_quiet (w i) _ refl refl)

-- what the endpoint says of a request that a thread would make
abbrev pub WouldAccept : EndpointState → Ask → Bool → Type 0
WouldAccept endpoint ask would = WouldAcceptCall endpoint ask.thread (Requests ask.to ask.what) would

-- whether the record accepts it
would_accept : (meaning : Meaning) (v : WorldState) (i : ℕ) (e : EndpointState) (r : Node EndpointLocal) (ask : Ask)
    (would : Bool) → IsNodeOf v.settings v.table i e → EndpointStands e r → WouldAccept e ask would
    → would ≡ is_accepted (request_answer (site_of (job_in meaning v) i) r ask)
would_accept meaning v i e r ask would N S W =
    let P : Parameters → List (Option Entry) → ℕ → Type 0 =
    λ s t m. would ≡ is_accepted (request_answer (site_of (job_of s t meaning) m) r ask) in
    at_home v.settings v.table i e P N (W meaning r S)

-- a request that is accepted is an answer that accepts
accepts_if : (a : AskedAnswer) → true ≡ is_accepted a → Accepts (OfNode (OfRequest a))
accepts_if (asked.Accepted p q n) e = tt
accepts_if _ e = absurd (true≢false e)

-- what becomes of a call that is a request of another node
abbrev pub AskTold : Meaning → EventScope → (now thread : ℕ) → Meant → WorldAnswer → EventScope → Type 0
AskTold meaning old now thread m a new = elim a [
  | world_answers.Node answer ↦
      NodeSteps meaning old.endpoint (transition now (node_event thread m) answer) new.endpoint
      × MostIs old.most new.endpoint new.most
      × ((new.exchanges.list ≡ asked_list old.exchanges.list answer)
      ⊎ ((new.exchanges.list ≡ old.exchanges.list) × WouldAcceptCall old.endpoint thread m false))
  | world_answers.NoMemory ↦ IsSame old new × WouldAcceptCall old.endpoint thread m true
  | world_answers.Unsent ↦ ⊥
]

-- which its scope tells
ask_told : (meaning : Meaning) (old : EventScope) (now thread : ℕ) (k : Call) (a : WorldAnswer) (new : EventScope)
    → AskFalls meaning old (transition now (event.Call thread k) a) new
    → AskTold meaning old now thread (meant k) a new
ask_told meaning old now thread k (world_answers.Node answer) new (inl C) = (C.steps, C.most_is, inl C.list)
ask_told meaning old now thread k (world_answers.Node answer) new (inr D) =
    (D.falls.steps, D.falls.most_is, inr (D.falls.list, D.declined))
ask_told meaning old now thread k world_answers.NoMemory new C = (C.same, C.accepted)
ask_told meaning old now thread k world_answers.Unsent new C = absurd C

-- what it sends, where it was made or declined
ask_sends : (meaning : Meaning) (v z : WorldState) (now i b : ℕ) (ask : Ask) (answer : Answer) (old new : EventScope)
    (w : Records) (most : ℕ → ℕ) → WorldStands v w most → i < v.settings.nodes → b < v.settings.nodes
    → (ask.to < v.settings.nodes → b ≡ ask.to) → Falls v z i (i * v.settings.nodes + b) old new
    → Stepping meaning v w now i (Asks ask) answer new.endpoint
    → (new.exchanges.list ≡ asked_list old.exchanges.list answer)
    ⊎ ((new.exchanges.list ≡ old.exchanges.list) × WouldAccept old.endpoint ask false)
    → Sends w (put w i (node_after (job_in meaning v) i (w i) now (Asks ask))) i b new
ask_sends meaning v z now i b ask answer old new w most S i_in b_in target F N (inl list) =
    request_sends meaning v z now i b ask answer old new w most S i_in b_in target F N list _ refl
ask_sends meaning v z now i b ask answer old new w most S i_in b_in target F N (inr D) =
    let was = scope_node v z w most i (i * v.settings.nodes + b) old new S F i_in in
    declined_sends meaning v z now i b ask old new w most S i_in b_in F D.0 _ refl
    (would_accept meaning v i old.endpoint (w i) ask false was.0 was.1 D.1)

-- ---- a call

-- it is no request to another node
is_not_other : (to i : ℕ) → not (to == i) ≡ false → to ≡ i
is_not_other to i e = elim (cases_eq to i) [
  | inl same ↦ same
  | inr apart ↦ absurd (true≢false (sym (ap not (ne_eqb to i apart)) ∙ e))
]

-- it is one
is_other : (to i : ℕ) → not (to == i) ≡ true → to ≢ i
is_other to i e same = true≢false (sym e ∙ ap not (eq-eqb to i same))

-- a call that is no request to another node has no other target
no_other : (i : ℕ) (m : Meant) → is_of_another i m ≡ false → (to : ℕ) → IsAskedOf m to → to ≡ i
no_other i (Requests to asking) e target is = sym is ∙ is_not_other to i e
no_other i (Performs call) e target is = absurd is

-- a request to another node
ask_steps : (meaning : Meaning) (v z : WorldState) (now i b thread : ℕ) (m : Meant) (a : WorldAnswer) (old new : EventScope)
    → IsLawfulMeaning meaning → i < v.settings.nodes → b < v.settings.nodes
    → ((to : ℕ) → IsAskedOf m to → to < v.settings.nodes → b ≡ to) → Falls v z i (i * v.settings.nodes + b) old new
    → is_of_another i m ≡ true → AskTold meaning old now thread m a new
    → StepsInWorld meaning v (transition now (event_at i thread m) a) z
ask_steps meaning v z now i b thread (Performs call) a old new lawful i_in b_in target F e C =
    absurd (true≢false (sym e))
ask_steps meaning v z now i b thread (Requests to asking) (world_answers.Node answer) old new lawful i_in b_in target F
    e C = λ w most S.
    let m = Requests to asking in
    let N = scope_steps meaning v z w most now i (i * v.settings.nodes + b) (node_event thread m) answer old new S F
    i_in C.0 in
    call_steps meaning v z now i b thread m answer old new w most lawful S i_in b_in F N
    (most_raised v.settings v.table i _ old new N.node N.stands C.1)
    (ask_sends meaning v z now i b (record { thread = thread; to = to; what = asking }) answer old new w most S i_in
    b_in (target to refl) F N C.2)
ask_steps meaning v z now i b thread (Requests to asking) world_answers.NoMemory old new lawful i_in b_in target F e C
    = (
      record {
        request = is_other to i e;
        accepts = λ w most S.
            let ask : Ask = record { thread = thread; to = to; what = asking } in
            let was = scope_node v z w most i (i * v.settings.nodes + b) old new S F i_in in
            accepts_if _ (would_accept meaning v i old.endpoint (w i) ask true was.0 was.1 C.1);
      },
      λ w most S. same_stands v z w most i (i * v.settings.nodes + b) old new S F C.0,
    )
ask_steps meaning v z now i b thread (Requests to asking) world_answers.Unsent old new lawful i_in b_in target F e C =
    absurd C

-- a call of a thread
pub call_falls : (meaning : Meaning) (v z : WorldState) (now i b thread : ℕ) (k : Call) (a : WorldAnswer)
    (old new : EventScope) → IsLawfulMeaning meaning → i < v.settings.nodes → b < v.settings.nodes
    → ((to : ℕ) → HasTarget k to → to < v.settings.nodes → b ≡ to) → Falls v z i (i * v.settings.nodes + b) old new
    → (is_ask : Bool) → is_to_other i k ≡ is_ask
    → CallFalls meaning old is_ask (transition now (event.Call thread k) a) new
    → StepsInWorld meaning v (transition now (called_at i thread k) a) z
call_falls meaning v z now i b thread k a old new lawful low b_in target F false e C =
    alone_steps meaning v z now i b thread k a old new lawful low b_in (no_other i (meant k) e) F C
call_falls meaning v z now i b thread k a old new lawful low b_in target F true e C =
    ask_steps meaning v z now i b thread (meant k) a old new lawful low b_in target F e
    (ask_told meaning old now thread k a new C)
