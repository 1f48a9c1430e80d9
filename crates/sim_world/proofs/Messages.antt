-- The message that a node keeps in a slot for a request that isn't back, or for the reply to one.
use Rattle.std.proofs.Common.{◌≡◌, ◌≢◌, ℕ, false, Option, Some, refl, sym, ap, ◌∙◌}
use Rattle.std.proofs.Common.{eq-eqb, ne_eqb, lt-ltb, eqb}
use Rattle.std.specs.Prelude.{nat_lt, List}
use Rattle.std.specs.Option.{option_map}
use Rattle.std.proofs.lemmas.Option.{same_Some}
use Rattle.wire_message.specs.Parameters.{Parameters, AreInRange, credits_of}
use Rattle.wire_message.specs.Message.{Message, IsMessage, spelling}
use Rattle.wire_message.specs.Content.{Content, message_at_address}
use Rattle.part_handlers.specs.declared.table.Entry.{Entry}
use Rattle.spec_node.specs.declared.answer.SlotRef.{SlotRef}
use Rattle.spec_node.specs.declared.answer.Why.{Why}
use Rattle.spec_node.specs.Record.{Request, Run, Node, element_at}
use Rattle.spec_node.specs.Requests.{is_open, open_in}
use Rattle.spec_node.specs.Executed.{run_of}
use Rattle.spec_node.specs.Step.{request_slot, reply_slot}
use Rattle.spec_node.specs.NodeStep.{Comes}
use Rattle.spec_node.specs.Invariant.{NodeInvariant, address_in, request_message, reply_message}
use Rattle.spec_node.specs.SlotMessages.{message_at}
use Rattle.spec_node.proofs.Keeping.{open_says}
use Rattle.spec_node.proofs.Lists.{run_of_there}
use Rattle.node_core.specs.Kept.{IsKept}
use Rattle.spec_node.specs.Under.{under}
use Rattle.node_rules.specs.EndpointLocal.{EndpointLocal, IsEndpointKept, core_of}
use Rattle.part_handlers.specs.Runs.{Meaning, IsLawfulMeaning}
use Rattle.node_core.specs.ClientRules.{content_refusal}
use Rattle.spec_network.specs.Invariant.{WorldInvariant}
use Rattle.spec_network.specs.Plain.{plain_request}
use Rattle.spec_network.specs.PlainStep.{request_name}
use Rattle.base_lists.proofs.Numbered.{numbered_map}
use Rattle.spec_network.proofs.PlainReadings.{is_back_at, reply_of_from}
use Rattle.spec_network.proofs.PlainSlots.{none_passes, reply_stands}
use Rattle.node_rules.specs.EndpointRules.{transition}
use Rattle.node_rules.specs.EndpointRules.{Records}
use Rattle.node_endpoint.specs.EndpointState.{EndpointState, EndpointStands, NodeSteps}
use Rattle.sim_world.specs.Events.{job_in}
use Rattle.node_endpoint.specs.EndpointState.{IsNodeOf}
use Rattle.sim_world.specs.WorldState.{WorldState}
use Rattle.sim_world.specs.EventScopes.{Carries, HoldsMessage}
use Rattle.node_rules.specs.declared.answer.Answer.{Answer}
use Rattle.sim_world.proofs.Events.{at_home}
use Rattle.node_rules.proofs.Sound.{rules_sound}
use Rattle.base_lists.proofs.Tests.{gate}

-- ---- what stands in a slot

-- the message of a request that isn't back stands in its slot
pub request_stands : (s : Parameters) (refuses : Content → Option Why) (w : Records) (i j k : ℕ) (x : Request)
    → WorldInvariant s refuses (IsEndpointKept s) w → i ≢ j → element_at ((w i).asked j) k ≡ Some x → x.back ≡ false
    → message_at s i (w i) (request_slot j x.slot) ≡ Some (spelling (request_message s i j k x))
request_stands s refuses w i j k x holds apart at out =
    let xs = (w i).asked j in
    let orderly = (holds.pair i j).orderly in
    let there = open_says xs x.slot k orderly.apart (ap (is_open x.slot) at ∙ rw out (eq-eqb x.slot x.slot refl)) in
    let same : there.0 ≡ x = same_Some _ _ (sym there.1 ∙ at) in
    let found : open_in x.slot xs ≡ Some (k, x) = there.4 ∙ ap (λ (y : Request). Some (k, y)) same in
    gate (nat_lt j s.nodes) (eqb j i) (nat_lt x.slot (credits_of s i j)) _
    (lt-ltb j s.nodes (holds.nodes i j k x at).1) (ne_eqb j i (λ e. apart (sym e)))
    (lt-ltb x.slot (credits_of s i j) (orderly.low k x at))
    ∙ ap (option_map (λ (o : ℕ × Request). spelling (request_message s i j o.0 o.1))) found

-- a run of a request, by its number and its slot
pub run_says : (s : Parameters) (refuses : Content → Option Why) (w : Records) (i j k : ℕ) (x : Request) (r : Run)
    → WorldInvariant s refuses (IsEndpointKept s) w → element_at ((w i).asked j) k ≡ Some x
    → run_of k ((w j).ran i) ≡ Some r
    → (r.number ≡ k) × (x.slot ≡ r.slot)
run_says s refuses w i j k x r holds at ran =
    let there = run_of_there k ((w j).ran i) r ran in
    let it = (holds.pair i j).named there.1.0 r there.1.1 in
    let same : it.0 ≡ x = same_Some _ _ (sym it.1 ∙ (ap (element_at ((w i).asked j)) there.0 ∙ at)) in
    (there.0, ap (λ (y : Request). y.slot) (sym same) ∙ it.2)

-- the reply of a run whose request isn't back stands in the slot of the request
pub run_stands : (meaning : Meaning) (v : WorldState) (w : Records) (i j k : ℕ) (x : Request) (r : Run)
    → AreInRange v.settings → IsLawfulMeaning meaning
    → WorldInvariant v.settings (content_refusal v.settings v.table) (IsEndpointKept v.settings) w
    → element_at ((w i).asked j) k ≡ Some x → x.back ≡ false → run_of k ((w j).ran i) ≡ Some r
    → message_at v.settings j (w j) (reply_slot i x.slot) ≡ Some (spelling (reply_message v.settings i j r))
run_stands meaning v w i j k x r range lawful holds at out ran =
    let s = v.settings in
    let job = job_in meaning v in
    let says = run_says s (content_refusal s v.table) w i j k x r holds at ran in
    let is = numbered_map plain_request ((w i).asked j) k x at in
    let last = none_passes job (IsEndpointKept s) w holds i j k (plain_request x) is
    (is_back_at (element_at ((w i).asked j) k) x at ∙ out) in
    let stands = reply_stands job (IsEndpointKept s) w (rules_sound s v.table meaning range lawful) holds (request_name i j k)
    (plain_request x)
    r.reply is (reply_of_from ((w j).ran i) k r ran) last in
    stands.message ∙ ap Some (same_spelling s r x.slot says.1 says.0)
  where
    same_spelling : (s : Parameters) (t : Run) (slot : ℕ) → slot ≡ t.slot → t.number ≡ k
        → spelling (message_at_address (address_in s j i slot k) t.reply) ≡ spelling (reply_message s i j t)
    same_spelling s t slot e f = λ p. spelling (message_at_address (address_in s j i (e p) (sym f p)) t.reply)

-- ---- what comes out of it

-- the invariant of the part of an endpoint's node that its core keeps
pub node_invariant : (s : Parameters) (table : List (Option Entry)) (i : ℕ) (e : EndpointState) (x : Node EndpointLocal)
    → IsNodeOf s table i e → EndpointStands e x → NodeInvariant s (IsKept s) i (under core_of x)
node_invariant s table i e x N S =
    let P : Parameters → List (Option Entry) → ℕ → Type 0 = λ p t m. NodeInvariant p (IsKept p) m (under core_of x) in
    at_home s table i e P N S.core.invariant_

-- the message that stands in the sender's slot comes
pub carried : (s : Parameters) (table : List (Option Entry)) (i : ℕ) (sender : EndpointState) (r : Node EndpointLocal)
    (at : SlotRef) (m : Message) (meaning : Meaning) (old : EndpointState) (now : ℕ) (answer : Answer)
    (new : EndpointState) → IsNodeOf s table i sender → EndpointStands sender r
    → message_at s i r at ≡ Some (spelling m) → IsMessage m → m.version ≡ old.core.settings.version
    → Carries meaning sender old (transition now at answer) new
    → NodeSteps meaning old (transition now (Comes m) answer) new
carried s table i sender r at m meaning old now answer new N S found fits version C =
    let P : Parameters → List (Option Entry) → ℕ → Type 0 = λ p t n. message_at p n r at ≡ Some C.bytes in
    C.comes.comes m version (record {
      fits = fits;
      is = same_Some _ _ (sym (at_home s table i sender P N (C.stands r S)) ∙ found);
    })

-- what stands in a slot by the world's record is held there
pub held_there : (s : Parameters) (table : List (Option Entry)) (i : ℕ) (sender : EndpointState)
    (r : Node EndpointLocal)
    (at : SlotRef) (message : List ℕ) → IsNodeOf s table i sender → EndpointStands sender r
    → message_at s i r at ≡ Some message → HoldsMessage sender at
held_there s table i sender r at message N S found =
    let P : Parameters → List (Option Entry) → ℕ → Type 0 =
    λ p t n. message_at p n r at ≡ Some message
    → message_at sender.core.settings sender.core.me r at ≡ Some message in
    record {
      node = r;
      stands = S;
      bytes = message;
      message = at_home s table i sender P N (λ e. e) found;
    }
