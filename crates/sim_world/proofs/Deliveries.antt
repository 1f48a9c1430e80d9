-- Each delivery of a message that was sent, by what it did to its scope.
use Rattle.std.proofs.Common.{◌≡◌, ◌≢◌, inl, inr, ℕ, ◌+◌, ◌*◌, ◌<◌, ◌≤◌, Bool, true, false, true≢false}
use Rattle.std.proofs.Common.{List, [], ◌∷◌, ◌++◌, Option, None, Some, refl, sym, ap, ◌∙◌, subst, subst₂, arith}
use Rattle.std.specs.Prelude.{is_some, if◌then◌else◌, ◌==◌, nat_lt, ◌&&◌, not}
use Rattle.std.specs.List.{slice_get}
use Rattle.std.proofs.lemmas.Bool.{and_parts, cases_Bool, cases_order, eq-eqb, ne_eqb, lt-ltb}
use Rattle.wire_message.specs.Parameters.{Parameters, credits_of}
use Rattle.wire_message.specs.Message.{Message}
use Rattle.wire_message.specs.Content.{Content, content_of}
use Rattle.part_handlers.specs.declared.table.Entry.{Entry}
use Rattle.spec_node.specs.declared.answer.Why.{Why}
use Rattle.spec_node.specs.declared.answer.SlotRef.{SlotRef}
use Rattle.spec_node.specs.Record.{Request, Run, Node, element_at, change}
use Rattle.spec_node.specs.Requests.{as_back}
use Rattle.spec_node.specs.Executed.{greatest, run_of}
use Rattle.spec_node.specs.Behaviour.{is_request}
use Rattle.spec_node.specs.Credits.{limits_of}
use Rattle.spec_node.specs.NodeStep.{site_of, Comes}
use Rattle.spec_node.specs.Step.{Site, put, after_delivery, with_run, with_back, with_sender}
use Rattle.spec_node.specs.Step.{request_slot, reply_slot, Verdict, Runs, Missed, Returns, verdict_of_number, verdict, answer_by}
use Rattle.spec_node.specs.Invariant.{request_message, reply_message}
use Rattle.spec_node.proofs.Answers.{runs_says, returns_says}
use Rattle.spec_node.proofs.Lists.{numbered_in, run_of_there}
use Rattle.spec_node.proofs.Puts.{put_same, put_other}
use Rattle.spec_node.specs.Under.{under}
use Rattle.node_rules.specs.EndpointLocal.{EndpointLocal, IsEndpointKept, core_of}
use Rattle.part_handlers.specs.Runs.{Meaning, IsLawfulMeaning}
use Rattle.node_core.specs.ClientRules.{content_refusal}
use Rattle.node_core.specs.Library.{run_answer, notification_handler}
use Rattle.spec_network.specs.World.{RequestComes, ReplyComes, request_event, reply_event}
use Rattle.spec_network.specs.Invariant.{WorldInvariant}
use Rattle.spec_network.proofs.Laws.{none_ran}
use Rattle.spec_network.proofs.PlainDeliveries.{past, request_judged, reply_judged}
use Rattle.node_rules.specs.EndpointRules.{transition, Records}
use Rattle.sim_world.specs.Exchanges.{with_ran, with_returned}
use Rattle.node_endpoint.specs.EndpointState.{EndpointState}
use Rattle.sim_world.specs.WorldState.{WorldState}
use Rattle.sim_world.specs.EventScopes.{EventScope, ran_list, returned_list, request_envelope, reply_envelope}
use Rattle.sim_world.specs.EventScopes.{RequestFalls, RequestRuns, RequestRepeats, answer_to_duplicate}
use Rattle.sim_world.specs.EventScopes.{ReplyFalls, ReplyReturns, ReplyIsLate}
use Rattle.sim_world.specs.Stands.{StandsForPair, WorldStands}
use Rattle.sim_world.specs.Events.{StepsInWorld, job_in}
use Rattle.sim_world.specs.declared.exchanges.Exchange.{Exchange}
use Rattle.node_rules.specs.declared.answer.Answer.{Answer}
use Rattle.node_rules.specs.declared.answer.Answer.TheVariants as answers
use Rattle.sim_world.specs.declared.event.WorldAnswer.{WorldAnswer}
use Rattle.sim_world.specs.declared.event.WorldAnswer.TheVariants as world_answers
use Rattle.sim_world.proofs.PairStands.{pair_ran, pair_returned, sent_is, none_sent}
use Rattle.sim_world.proofs.Standing.{Falls, Sends, only_asked, only_ran, same_stands}
use Rattle.sim_world.proofs.Events.{Stepped, Stepping, scope_node, scope_pair, scope_steps, event_steps, quiet_sends}
use Rattle.sim_world.proofs.Events.{same_quiet, still_steps, nowhere_steps, most_raised, other_node, at_home}
use Rattle.sim_world.proofs.Messages.{request_stands, run_says, run_stands, node_invariant, carried}
use Rattle.base_lists.proofs.Numbered.{numbered_none}

-- ---- whether a request ran

-- what didn't run has no run
pub not_ran : (o : Option Run) → false ≡ is_some o → o ≡ None
not_ran None e = refl
not_ran (Some r) e = absurd (true≢false (sym e))

-- what ran has one
pub did_run : (o : Option Run) → true ≡ is_some o → (r : Run) × (o ≡ Some r)
did_run None e = absurd (true≢false e)
did_run (Some r) e = (r, refl)

-- nothing isn't a run
no_run : {r : Run} → None ≡ Some r → ⊥
no_run e = cc

-- what didn't run isn't back
pub not_back : (s : Parameters) (refuses : Content → Option Why) (w : Records) (i j k : ℕ) (x : Request)
    → WorldInvariant s refuses (IsEndpointKept s) w → element_at ((w i).asked j) k ≡ Some x
    → run_of k ((w j).ran i) ≡ None
    → x.back ≡ false
not_back s refuses w i j k x holds at none = elim (cases_Bool x.back) [
  | inl back ↦ (let ran = (holds.pair i j).back_ran k x at back in absurd (no_run (sym none ∙ ran.1)))
  | inr out ↦ out
]

-- ---- a request is delivered

-- one that runs
ran_sends : (meaning : Meaning) (v z : WorldState) (now i j k : ℕ) (x : Request) (old new : EventScope) (w : Records)
    (most : ℕ → ℕ) → WorldStands v w most → i < v.settings.nodes → j < v.settings.nodes → i ≢ j
    → Falls v z j (i * v.settings.nodes + j) old new
    → element_at ((w i).asked j) k ≡ Some x → run_of k ((w j).ran i) ≡ None
    → new.exchanges.list ≡ with_ran old.exchanges.list k
    → Sends w (put w j
    (after_delivery (site_of (job_in meaning v) j) (w j) (request_message v.settings i j k x) Runs)) i j new
ran_sends meaning v z now i j k x old new w most S i_in j_in apart F sent none list =
    let r = w j in
    let rs = r.ran i in
    let site = site_of (job_in meaning v) j in
    let m = request_message v.settings i j k x in
    let out = site.behaviour.run (with_sender j m) (content_of m) r.local in
    let t : Run = record { number = k; slot = x.slot; content = content_of m; reply = out.1 } in
    let y = with_run r (with_sender j m) (content_of m) out in
    let pair = pair_ran old.exchanges.list ((w i).asked j) rs t (numbered_in ((w i).asked j) k x sent).0 none
    (scope_pair v z w most j i j old new S F i_in j_in) in
    let asked_now : (put w j y i).asked j ≡ (w i).asked j = ap (λ (q : Node EndpointLocal). q.asked j)
    (put_other w j y i apart) in
    let ran_now : (put w j y j).ran i ≡ rs ++ t ∷ [] = ap (λ (q : Node EndpointLocal). q.ran i) (put_same w j y)
    ∙ put_same r.ran i (rs ++ t ∷ []) in
    record {
      pair = subst₂ (λ A R. StandsForPair new.exchanges.list A R) (sym asked_now) (sym ran_now)
          (subst (λ (l : List Exchange). StandsForPair l ((w i).asked j) (rs ++ t ∷ [])) (sym list) pair);
      others = only_ran w j y i (rs ++ t ∷ []) refl refl;
    }

-- the answer to a delivery, by what becomes of the message
abbrev pub delivery_told : (meaning : Meaning) (v : WorldState) → Message → Verdict → Answer
delivery_told meaning v m x = answers.Delivered (answer_by (job_in meaning v).behaviour.messages m x)

-- whatever the run is, the exchanges have it as run
ran_listed : (version : ℕ) (list : List Exchange) (k : ℕ) (content : Content) (at : SlotRef)
    → ran_list list k (answers.Delivered (run_answer version content at)) ≡ with_ran list k
ran_listed version list k content at = elim (cases_Bool (content.handler == notification_handler)) [
  | inl notification ↦ rw notification refl
  | inr other ↦ rw other refl
]

-- by what becomes of it
delivered_sends : (meaning : Meaning) (v z : WorldState) (now i j k : ℕ) (x : Request) (answer : Answer)
    (old new : EventScope) (w : Records) (most : ℕ → ℕ) → WorldStands v w most → i < v.settings.nodes
    → j < v.settings.nodes
    → i ≢ j → Falls v z j (i * v.settings.nodes + j) old new
    → element_at ((w i).asked j) k ≡ Some x → run_of k ((w j).ran i) ≡ None → is_request x.content.kind ≡ true
    → Stepping meaning v w now j (Comes (request_message v.settings i j k x)) answer new.endpoint
    → new.exchanges.list ≡ ran_list old.exchanges.list k answer
    → (d : Verdict) → verdict (site_of (job_in meaning v) j) (w j) (request_message v.settings i j k x) ≡ d
    → Sends w (put w j (after_delivery (site_of (job_in meaning v) j) (w j) (request_message v.settings i j k x) d))
    i j new
delivered_sends meaning v z now i j k x answer old new w most S i_in j_in apart F sent none request N list Runs e =
    ran_sends meaning v z now i j k x old new w most S i_in j_in apart F sent none
    (list ∙ (ap (ran_list old.exchanges.list k)
    (N.answer_is ∙ ap (delivery_told meaning v (request_message v.settings i j k x)) e)
    ∙ ran_listed v.settings.version old.exchanges.list k x.content (reply_slot i x.slot)))
delivered_sends meaning v z now i j k x answer old new w most S i_in j_in apart F sent none request N list Returns e =
    let says = returns_says (site_of (job_in meaning v) j) (w j) (request_message v.settings i j k x) e in
    absurd (true≢false (sym request ∙ says.reply))
delivered_sends meaning v z now i j k x answer old new w most S i_in j_in apart F sent none request N list _ e =
    quiet_sends v z w most j i j _ old new S i_in j_in F
    (list ∙ ap (ran_list old.exchanges.list k)
    (N.answer_is ∙ ap (delivery_told meaning v (request_message v.settings i j k x)) e))
    (same_quiet (w j) _ refl refl)

-- one that didn't run: its message stands at its node
first_steps : (meaning : Meaning) (v z : WorldState) (now i j k : ℕ) (x : Request) (sender : EndpointState)
    (answer : Answer) (old new : EventScope) (w : Records) (most : ℕ → ℕ) → IsLawfulMeaning meaning
    → WorldStands v w most
    → i < v.settings.nodes → j < v.settings.nodes → i ≢ j → Falls v z j (i * v.settings.nodes + j) old new
    → slice_get v.endpoints i ≡ Some sender → element_at ((w i).asked j) k ≡ Some x
    → run_of k ((w j).ran i) ≡ None
    → RequestRuns meaning (record { sender = sender; slot = x.slot }) old (transition now (request_envelope i j k) answer)
    new
    → Stepped meaning v now (RequestComes i j k) (world_answers.Node answer) z w most
first_steps meaning v z now i j k x sender answer old new w most lawful S i_in j_in apart F lent sent none R =
    let s = v.settings in
    let m = request_message s i j k x in
    let at = other_node v w most i sender S lent i_in in
    let here = scope_node v z w most j (i * s.nodes + j) old new S F j_in in
    let found = request_stands s (content_refusal s v.table) w i j k x S.invariant_ apart sent
    (not_back s (content_refusal s v.table) w i j k x S.invariant_ sent none) in
    let fits = (node_invariant s v.table i sender (w i) at.0 at.1).asked j k x sent in
    let N = scope_steps meaning v z w most now j (i * s.nodes + j) (Comes m) answer old new S F j_in
    (carried s v.table i sender (w i) (request_slot j x.slot) m meaning old.endpoint now answer new.endpoint at.0 at.1
    found fits (ap (λ (t : Parameters). t.version) (sym here.0.settings_are)) R.carries) in
    let request = (and_parts _ _ ((S.invariant_.pair i j).well k x sent)).0 in
    event_steps meaning v z now (RequestComes i j k) j i j (Comes m) answer old new w most lawful S (i_in, j_in) j_in
    j_in F (ap (request_event s i j k) sent) N
    (most_raised s v.table j _ old new N.node N.stands R.most_is)
    (delivered_sends meaning v z now i j k x answer old new w most S i_in j_in apart F sent none request N R.list _
    refl)

-- a number that isn't above the greatest one is answered by the numbers alone, and changes nothing
repeats_by : (site : Site EndpointLocal) (r : Node EndpointLocal) (m : Message) (top : ℕ) (lock : Option ℕ)
    → m.number ≤ top
    → (answer_by site.behaviour m (verdict_of_number m.number top lock) ≡ answer_to_duplicate m.from m.slot (m.number == top))
    × (after_delivery site r m (verdict_of_number m.number top lock) ≡ r)
repeats_by site r m top lock low = elim (cases_order m.number top) [
  | inl same ↦ rw (eq-eqb m.number top same) (refl, refl)
  | inr other ↦ elim other [
    | inl less ↦ rw (ne_eqb m.number top (λ e. omega (arith, e, less)), lt-ltb m.number top less) (refl, refl)
    | inr more ↦ absurd (omega (arith, low, more))
  ]
]

-- a slot of another node is there
in_range : (from me slot nodes credits : ℕ) (is_last : Bool) → from < nodes → from ≢ me → slot < credits
    → ((nat_lt from nodes && not (from == me)) && (nat_lt slot credits && is_last)) ≡ is_last
in_range from me slot nodes credits is_last low other below =
    rw (lt-ltb from nodes low, ne_eqb from me other, lt-ltb slot credits below) refl

-- one that ran
again_steps : (meaning : Meaning) (v z : WorldState) (now i j k : ℕ) (x : Request) (t : Run) (answer : Answer)
    (old new : EventScope) (w : Records) (most : ℕ → ℕ) → IsLawfulMeaning meaning → WorldStands v w most
    → i < v.settings.nodes → j < v.settings.nodes → i ≢ j → Falls v z j (i * v.settings.nodes + j) old new
    → element_at ((w i).asked j) k ≡ Some x → run_of k ((w j).ran i) ≡ Some t
    → RequestRepeats x.slot old (transition now (request_envelope i j k) answer) new
    → Stepped meaning v now (RequestComes i j k) (world_answers.Node answer) z w most
again_steps meaning v z now i j k x t answer old new w most lawful S i_in j_in apart F sent ran R =
    let s = v.settings in
    let job = job_in meaning v in
    let m = request_message s i j k x in
    let rs = (w j).ran i in
    let top = greatest x.slot rs in
    let P = S.invariant_.pair i j in
    let low = past (limits_of s i j) (content_refusal v.settings v.table) ((w i).asked j) rs k x t P sent ran in
    let judged_is = request_judged job (IsEndpointKept s) w i j k x S.invariant_ sent in
    let by = repeats_by (site_of job j) (w j) m top (job.behaviour.messages.waits x.content (w j).local) low in
    let here = scope_node v z w most j (i * s.nodes + j) old new S F j_in in
    let Q : Parameters → List (Option Entry) → ℕ → Type 0 =
    λ p table n. R.is_last ≡ ((nat_lt i p.nodes && not (i == n)) && (nat_lt x.slot (credits_of p i n) && (k == top))) in
    let last_is = at_home s v.table j old.endpoint Q here.0 (R.told (under core_of (w j)) here.1.core)
    ∙ in_range i j x.slot s.nodes (credits_of s i j) (k == top) i_in apart (P.orderly.low k x sent) in
    still_steps meaning v z now (RequestComes i j k) j i j (Comes m) answer old new w most lawful S (i_in, j_in) j_in
    i_in j_in F (ap (request_event s i j k) sent)
    (R.is_answer ∙ ap (λ b. answers.Delivered b)
    (ap (answer_to_duplicate i x.slot) last_is ∙ (sym by.0 ∙ ap (λ d. answer_by job.behaviour.messages m d) (sym judged_is))))
    (ap (λ d. after_delivery (site_of job j) (w j) m d) judged_is ∙ by.1) R.same

-- a request that was sent
pub request_steps : (meaning : Meaning) (v z : WorldState) (now i j k : ℕ) (sender : EndpointState) (a : WorldAnswer)
    (old new : EventScope) → IsLawfulMeaning meaning → i < v.settings.nodes → j < v.settings.nodes → i ≢ j
    → Falls v z j (i * v.settings.nodes + j) old new → slice_get v.endpoints i ≡ Some sender
    → RequestFalls meaning sender old (transition now (request_envelope i j k) a) new
    → StepsInWorld meaning v (transition now (RequestComes i j k) a) z
request_steps meaning v z now i j k sender (world_answers.Node answer) old new lawful i_in j_in apart F lent R =
    λ w most S.
    let step = transition now (request_envelope i j k) answer in
    let it = sent_is old.exchanges.list ((w i).asked j) ((w j).ran i) k R.exchange
    (scope_pair v z w most j i j old new S F i_in j_in) R.sent in
    elim (cases_Bool R.exchange.ran) [
      | inl ran ↦ (let t = did_run (run_of k ((w j).ran i)) (sym ran ∙ it.stands.ran) in
          again_steps meaning v z now i j k it.x t.0 answer old new w most lawful S i_in j_in apart F it.at t.1
          (subst (λ q. RequestRepeats q old step new) it.stands.slot (R.repeats ran)))
      | inr new_one ↦ first_steps meaning v z now i j k it.x sender answer old new w most lawful S i_in j_in apart F
          lent it.at (not_ran (run_of k ((w j).ran i)) (sym new_one ∙ it.stands.ran))
          (subst (λ q. RequestRuns meaning (record { sender = sender; slot = q }) old step new) it.stands.slot
          (R.runs new_one))
    ]
request_steps meaning v z now i j k sender world_answers.NoMemory old new lawful i_in j_in apart F lent R = absurd R
request_steps meaning v z now i j k sender world_answers.Unsent old new lawful i_in j_in apart F lent R = λ w most S.
    nowhere_steps meaning v z now (RequestComes i j k) w most F.settings
    (same_stands v z w most j (i * v.settings.nodes + j) old new S F R.same)
    (ap (request_event v.settings i j k)
    (none_sent old.exchanges.list ((w i).asked j) ((w j).ran i) k
    (scope_pair v z w most j i j old new S F i_in j_in) R.unsent))

-- ---- a reply is delivered

-- one that comes back
returned_sends : (meaning : Meaning) (v z : WorldState) (i j k : ℕ) (r : Run) (l : EndpointLocal) (old new : EventScope)
    (w : Records) (most : ℕ → ℕ) → WorldStands v w most → i < v.settings.nodes → j < v.settings.nodes → i ≢ j
    → Falls v z i (i * v.settings.nodes + j) old new
    → r.number ≡ k → 1 ≤ k → new.exchanges.list ≡ with_returned old.exchanges.list k
    → Sends w (put w i (with_back (w i) j r.number l)) i j new
returned_sends meaning v z i j k r l old new w most S i_in j_in apart F number some list =
    let xs = change as_back ((w i).asked j) r.number in
    let y = with_back (w i) j r.number l in
    let pair = pair_returned old.exchanges.list ((w i).asked j) ((w j).ran i) r.number
    (subst (λ n. 1 ≤ n) (sym number) some) (scope_pair v z w most i i j old new S F i_in j_in) in
    let asked_now : (put w i y i).asked j ≡ xs = ap (λ (q : Node EndpointLocal). q.asked j) (put_same w i y)
    ∙ put_same (w i).asked j xs in
    let ran_now : (put w i y j).ran i ≡ (w j).ran i = ap (λ (q : Node EndpointLocal). q.ran i)
    (put_other w i y j (λ e. apart (sym e))) in
    record {
      pair = subst₂ (λ A R. StandsForPair new.exchanges.list A R) (sym asked_now) (sym ran_now)
          (subst (λ (q : List Exchange). StandsForPair q xs ((w j).ran i))
          (ap (with_returned old.exchanges.list) number ∙ sym list) pair);
      others = only_asked w i y j xs refl refl;
    }

-- by what becomes of it
replied_sends : (meaning : Meaning) (v z : WorldState) (now i j k : ℕ) (r : Run) (answer : Answer) (old new : EventScope)
    (w : Records) (most : ℕ → ℕ) → WorldStands v w most → i < v.settings.nodes → j < v.settings.nodes → i ≢ j
    → Falls v z i (i * v.settings.nodes + j) old new
    → r.number ≡ k → 1 ≤ k → is_request r.reply.kind ≡ false
    → Stepping meaning v w now i (Comes (reply_message v.settings i j r)) answer new.endpoint
    → new.exchanges.list ≡ returned_list old.exchanges.list k answer
    → (d : Verdict) → verdict (site_of (job_in meaning v) i) (w i) (reply_message v.settings i j r) ≡ d
    → Sends w (put w i (after_delivery (site_of (job_in meaning v) i) (w i) (reply_message v.settings i j r) d)) i j
    new
replied_sends meaning v z now i j k r answer old new w most S i_in j_in apart F number some kind N list Runs e =
    let says = runs_says (site_of (job_in meaning v) i) (w i) (reply_message v.settings i j r) e in
    absurd (true≢false (sym says.request ∙ kind))
replied_sends meaning v z now i j k r answer old new w most S i_in j_in apart F number some kind N list Returns e
    =
    returned_sends meaning v z i j k r _ old new w most S i_in j_in apart F number some
    (list ∙ ap (returned_list old.exchanges.list k)
    (N.answer_is ∙ ap (delivery_told meaning v (reply_message v.settings i j r)) e))
replied_sends meaning v z now i j k r answer old new w most S i_in j_in apart F number some kind N list _ e =
    quiet_sends v z w most i i j _ old new S i_in j_in F
    (list ∙ ap (returned_list old.exchanges.list k)
    (N.answer_is ∙ ap (delivery_told meaning v (reply_message v.settings i j r)) e))
    (same_quiet (w i) _ refl refl)

-- a kind that is no request's
no_request : (b c : Bool) → (if b then false else true) ≡ true → b ≡ false
no_request true c e = absurd (true≢false (sym e))
no_request false c e = refl

-- one to a request that isn't back: it stands at the node that ran the request
take_steps : (meaning : Meaning) (v z : WorldState) (now i j k : ℕ) (x : Request) (r : Run) (sender : EndpointState)
    (answer : Answer) (old new : EventScope) (w : Records) (most : ℕ → ℕ) → IsLawfulMeaning meaning
    → WorldStands v w most
    → i < v.settings.nodes → j < v.settings.nodes → i ≢ j → Falls v z i (i * v.settings.nodes + j) old new
    → slice_get v.endpoints j ≡ Some sender → element_at ((w i).asked j) k ≡ Some x → x.back ≡ false
    → run_of k ((w j).ran i) ≡ Some r
    → ReplyReturns meaning (record { sender = sender; slot = x.slot }) old (transition now (reply_envelope i j k) answer)
    new
    → Stepped meaning v now (ReplyComes i j k) (world_answers.Node answer) z w most
take_steps meaning v z now i j k x r sender answer old new w most lawful S i_in j_in apart F lent sent out ran R =
    let s = v.settings in
    let m = reply_message s i j r in
    let there = run_of_there k ((w j).ran i) r ran in
    let at = other_node v w most j sender S lent j_in in
    let here = scope_node v z w most i (i * s.nodes + j) old new S F i_in in
    let found = run_stands meaning v w i j k x r S.range lawful S.invariant_ sent out ran in
    let fits = (node_invariant s v.table j sender (w j) at.0 at.1).replied i there.1.0 r there.1.1 in
    let N = scope_steps meaning v z w most now i (i * s.nodes + j) (Comes m) answer old new S F i_in
    (carried s v.table j sender (w j) (reply_slot i x.slot) m meaning old.endpoint now answer new.endpoint at.0 at.1
    found fits (ap (λ (t : Parameters). t.version) (sym here.0.settings_are)) R.carries) in
    let kind = no_request (is_request r.reply.kind) true
    (and_parts _ _ ((S.invariant_.pair i j).replies there.1.0 r there.1.1)).0 in
    event_steps meaning v z now (ReplyComes i j k) i i j (Comes m) answer old new w most lawful S (i_in, j_in) i_in
    j_in F (ap (reply_event s i j) ran) N
    (most_raised s v.table i _ old new N.node N.stands R.most_is)
    (replied_sends meaning v z now i j k r answer old new w most S i_in j_in apart F there.0
    (numbered_in ((w i).asked j) k x sent).0 kind N R.list _ refl)

-- one to a request that is back
late_steps : (meaning : Meaning) (v z : WorldState) (now i j k : ℕ) (x : Request) (r : Run) (answer : Answer)
    (old new : EventScope) (w : Records) (most : ℕ → ℕ) → IsLawfulMeaning meaning → WorldStands v w most
    → i < v.settings.nodes → j < v.settings.nodes → Falls v z i (i * v.settings.nodes + j) old new
    → element_at ((w i).asked j) k ≡ Some x → x.back ≡ true → run_of k ((w j).ran i) ≡ Some r
    → ReplyIsLate old answer new → Stepped meaning v now (ReplyComes i j k) (world_answers.Node answer) z w most
late_steps meaning v z now i j k x r answer old new w most lawful S i_in j_in F sent back ran R =
    let s = v.settings in
    let job = job_in meaning v in
    let m = reply_message s i j r in
    let there = run_of_there k ((w j).ran i) r ran in
    let says = run_says s (content_refusal s v.table) w i j k x r S.invariant_ sent ran in
    let judged_is = reply_judged job (IsEndpointKept s) w i j r x S.invariant_
    ((S.invariant_.pair i j).replies there.1.0 r there.1.1)
    (ap (element_at ((w i).asked j)) says.0 ∙ sent) says.1 in
    let missed : verdict (site_of job i) (w i) m ≡ Missed = judged_is ∙ rw back refl in
    still_steps meaning v z now (ReplyComes i j k) i i j (Comes m) answer old new w most lawful S (i_in, j_in) i_in
    i_in j_in F (ap (reply_event s i j) ran)
    (R.late ∙ ap (λ d. answers.Delivered (answer_by job.behaviour.messages m d)) (sym missed))
    (ap (λ d. after_delivery (site_of job i) (w i) m d) missed) R.same

-- a reply that was sent
pub reply_steps : (meaning : Meaning) (v z : WorldState) (now i j k : ℕ) (sender : EndpointState) (a : WorldAnswer)
    (old new : EventScope) → IsLawfulMeaning meaning → i < v.settings.nodes → j < v.settings.nodes → i ≢ j
    → Falls v z i (i * v.settings.nodes + j) old new → slice_get v.endpoints j ≡ Some sender
    → ReplyFalls meaning sender old (transition now (reply_envelope i j k) a) new
    → StepsInWorld meaning v (transition now (ReplyComes i j k) a) z
reply_steps meaning v z now i j k sender (world_answers.Node answer) old new lawful i_in j_in apart F lent R =
    λ w most S.
    let step = transition now (reply_envelope i j k) answer in
    let it = sent_is old.exchanges.list ((w i).asked j) ((w j).ran i) k R.exchange
    (scope_pair v z w most i i j old new S F i_in j_in) R.sent in
    let r = did_run (run_of k ((w j).ran i)) (sym R.ran ∙ it.stands.ran) in
    elim (cases_Bool R.exchange.back) [
      | inl back ↦ late_steps meaning v z now i j k it.x r.0 answer old new w most lawful S i_in j_in F it.at
          (sym it.stands.back ∙ back) r.1 (R.late back)
      | inr out ↦ take_steps meaning v z now i j k it.x r.0 sender answer old new w most lawful S i_in j_in apart F
          lent it.at (sym it.stands.back ∙ out) r.1
          (subst (λ q. ReplyReturns meaning (record { sender = sender; slot = q }) old step new) it.stands.slot
          (R.returns out))
    ]
reply_steps meaning v z now i j k sender world_answers.NoMemory old new lawful i_in j_in apart F lent R = absurd R
reply_steps meaning v z now i j k sender world_answers.Unsent old new lawful i_in j_in apart F lent R = λ w most S.
    nowhere_steps meaning v z now (ReplyComes i j k) w most F.settings
    (same_stands v z w most i (i * v.settings.nodes + j) old new S F R.same)
    (ap (reply_event v.settings i j) (none_there w most S (run_of k ((w j).ran i)) refl))
  where
    none_there : (w : Records) (most : ℕ → ℕ) → WorldStands v w most → (o : Option Run) → run_of k ((w j).ran i) ≡ o
        → run_of k ((w j).ran i) ≡ None
    none_there w most S None ran = ran
    none_there w most S (Some r) ran =
        let there = run_of_there k ((w j).ran i) r ran in
        let x = (S.invariant_.pair i j).named there.1.0 r there.1.1 in
        let sent : element_at ((w i).asked j) k ≡ Some x.0 = ap (element_at ((w i).asked j)) (sym there.0) ∙ x.1 in
        let it = (scope_pair v z w most i i j old new S F i_in j_in).each k x.0 sent in
        absurd (true≢false (sym (it.2.ran ∙ ap is_some ran) ∙ R.unsent it.0 it.1))

-- ---- a node sends nothing to itself

-- a request of a node to itself was never sent
pub own_request_steps : (meaning : Meaning) (v : WorldState) (now i j k : ℕ) → i ≡ j
    → StepsInWorld meaning v (transition now (RequestComes i j k) world_answers.Unsent) v
own_request_steps meaning v now i j k same =
    λ w most S. nowhere_steps meaning v v now (RequestComes i j k) w most refl S
    (ap (request_event v.settings i j k)
    (numbered_none ((w i).asked j) k (ap (λ n. (w i).asked n) (sym same) ∙ S.invariant_.own i)))

-- a reply of a node to itself was never sent
pub own_reply_steps : (meaning : Meaning) (v : WorldState) (now i j k : ℕ) → i ≡ j
    → StepsInWorld meaning v (transition now (ReplyComes i j k) world_answers.Unsent) v
own_reply_steps meaning v now i j k same = λ w most S. nowhere_steps meaning v v now (ReplyComes i j k) w most refl S
    (ap (λ rs. reply_event v.settings i j (run_of k rs))
    (none_ran (limits_of v.settings i j) (content_refusal v.settings v.table) ((w i).asked j) ((w j).ran i)
    (ap (λ n. (w i).asked n) (sym same) ∙ S.invariant_.own i) (S.invariant_.pair i j)))
