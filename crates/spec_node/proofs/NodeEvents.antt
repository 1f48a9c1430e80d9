-- Each event of a node keeps what holds of its record, whatever bytes come, where what it sends has a spelling.
use Rattle.std.proofs.Common.{◌≡◌, inl, inr, ℕ, zero, suc, List, [], ◌∷◌, ◌++◌, refl, sym, ap, ◌∙◌, subst, subst₂}
use Rattle.wire_message.specs.Content.{Content}
use Rattle.wire_message.specs.Message.{Message, IsMessage}
use Rattle.base_lists.specs.Numbered.{change}
use Rattle.base_lists.specs.Put.{put}
use Rattle.base_lists.proofs.Numbered.{numbered_push, numbered-change}
use Rattle.spec_node.specs.declared.answer.Asked.{Asked}
use Rattle.spec_node.specs.declared.answer.Asked.TheVariants as asked
use Rattle.spec_node.specs.Record.{Request, Node}
use Rattle.spec_node.specs.Requests.{free_slot, next_claim, as_back, sent_at}
use Rattle.spec_node.specs.Credits.{limits_of}
use Rattle.spec_node.specs.Behaviour.{Ask, Sending}
use Rattle.spec_node.specs.Step.{Site, new_request, with_request, request_content, request_answer, after_request}
use Rattle.spec_node.specs.Step.{Verdict, Runs, Returns, after_delivery, can_ask}
use Rattle.spec_node.specs.Step.{TickChoice, Retransmits, Sends, Rests, next_due, after_tick}
use Rattle.spec_node.specs.NodeStep.{Job, site_of, IsAllSound, NodeEvent, Asks, Does, Comes, Ticks, node_after}
use Rattle.spec_node.specs.Invariant.{IsOrderly, NodeInvariant, request_message}
use Rattle.spec_node.specs.Spelled.{IsAskSpelled, IsReplySpelled, IsTickSpelled, IsSpelled, run_made}
use Rattle.spec_node.proofs.Orderly.{orderly_accepts, orderly_back, orderly_sent}
use Rattle.spec_node.proofs.NodeKeeps.{asked_keeps, ran_keeps, same_keeps}
use Rattle.spec_node.proofs.Answers.{accepted_says, CanAsk, can_says, sends_choice}
use Rattle.spec_node.proofs.LocalKept.{event_kept}

-- a request is accepted
pub accept_keeps : {Local : Type 0} (site : Site Local) (IsKept : (me : ℕ) → Local → Type 0) (now to slot : ℕ)
    (content : Content) (r q : Node Local) → NodeInvariant site.settings IsKept site.me r → IsKept site.me q.local
    → CanAsk site r to → slot ≡ free_slot (r.asked to)
    → q.asked ≡ (with_request r now to slot content).asked → q.ran ≡ r.ran
    → IsMessage
    (request_message site.settings site.me to (next_claim (r.asked to)).number (new_request now slot content))
    → NodeInvariant site.settings IsKept site.me q
accept_keeps site IsKept now to slot content r q holds kept can is asked ran spelled =
    let limits = limits_of site.settings site.me to in
    let requests = r.asked to in
    asked_keeps site.settings IsKept site.me to r q (requests ++ new_request now slot content ∷ []) holds asked ran kept
    (λ same. absurd (can.other (sym same)))
    (subst (λ n. IsOrderly limits (requests ++ new_request now n content ∷ [])) (sym is)
    (orderly_accepts limits requests content now (holds.orderly to) can.free can.left))
    (λ k x e. elim (numbered_push requests (new_request now slot content) k x e) [
      | inl was ↦ holds.asked to k x was
      | inr new ↦ subst₂ (λ number (request : Request). IsMessage
          (request_message site.settings site.me to number request))
          (sym new.0) new.1 spelled
    ])

-- a request is changed, in its time or by coming back
pub change_keeps : {Local : Type 0} (site : Site Local) (IsKept : (me : ℕ) → Local → Type 0) (peer number : ℕ)
    (f : Request → Request) (r q : Node Local) → NodeInvariant site.settings IsKept site.me r → IsKept site.me q.local
    → q.asked ≡ put r.asked peer (change f (r.asked peer) number) → q.ran ≡ r.ran
    → IsOrderly (limits_of site.settings site.me peer) (change f (r.asked peer) number)
    → ((request : Request) → ((f request).slot ≡ request.slot) × ((f request).content ≡ request.content))
    → NodeInvariant site.settings IsKept site.me q
change_keeps site IsKept peer number f r q holds kept asked ran orderly same =
    asked_keeps site.settings IsKept site.me peer r q (change f (r.asked peer) number) holds asked ran kept
    (λ e. change_none f number (r.asked peer) (ap r.asked (sym e) ∙ holds.own)) orderly
    (λ k request e. let it = numbered-change f (r.asked peer) number k request e in
    elim it.2 [
      | inl u ↦ subst (λ (y : Request). IsMessage (request_message site.settings site.me peer k y)) (sym u.1)
          (holds.asked peer k it.0 it.1)
      | inr u ↦ subst (λ (y : Request). IsMessage (request_message site.settings site.me peer k y)) (sym u.1)
          (subst₂ (λ slot content. IsMessage (of_parts k slot content)) (sym (same it.0).0) (sym (same it.0).1)
          (holds.asked peer k it.0 it.1))
    ])
  where
    of_parts : (k slot : ℕ) → Content → Message
    of_parts k slot content =
        request_message site.settings site.me peer k (new_request 0 slot content)

    change_none : (f : Request → Request) (k : ℕ) (requests : List Request) → requests ≡ [] → change f requests k ≡ []
    change_none f k requests e = ap (λ ys. change f ys k) e ∙ nil k
      where
        nil : (k : ℕ) → change f [] k ≡ []
        nil zero = refl
        nil (suc place) = refl

-- a thread makes a request
pub request_keeps : {Local : Type 0} (site : Site Local) (IsKept : (me : ℕ) → Local → Type 0) (r : Node Local) (now : ℕ)
    (ask : Ask) (answer : Asked) → NodeInvariant site.settings IsKept site.me r
    → IsKept site.me (after_request site r now ask answer).local → request_answer site r ask ≡ answer
    → IsAskSpelled site r now ask answer
    → NodeInvariant site.settings IsKept site.me (after_request site r now ask answer)
request_keeps site IsKept r now ask (asked.Accepted peer slot number) holds kept e spelled =
    let says = accepted_says site r ask peer slot number e in
    let content = request_content site r ask in
    accept_keeps site IsKept now ask.to slot content r _ holds kept
    (record { to_in = says.to_in; other = says.other; left = says.left; free = says.free }) says.slot_is refl refl
    (subst (λ n. IsMessage (request_message site.settings site.me ask.to n (new_request now slot content)))
    says.number_is spelled)
request_keeps site IsKept r now ask _ holds kept e spelled = same_keeps site.settings IsKept site.me r _ holds kept

-- a message is delivered
pub delivery_keeps : {Local : Type 0} (site : Site Local) (IsKept : (me : ℕ) → Local → Type 0) (r : Node Local)
    (message : Message) (v : Verdict) → NodeInvariant site.settings IsKept site.me r
    → IsKept site.me (after_delivery site r message v).local → IsReplySpelled site r message v
    → NodeInvariant site.settings IsKept site.me (after_delivery site r message v)
delivery_keeps site IsKept r message Runs holds kept spelled =
    ran_keeps site.settings IsKept site.me message.from r _ (run_made site r message) holds refl refl kept spelled
delivery_keeps site IsKept r message Returns holds kept spelled =
    change_keeps site IsKept message.from message.number as_back r _ holds kept refl refl
    (orderly_back (limits_of site.settings site.me message.from) (r.asked message.from) message.number
    (holds.orderly message.from))
    (λ x. (refl, refl))
delivery_keeps site IsKept r message _ holds kept spelled = same_keeps site.settings IsKept site.me r _ holds kept

-- a tick
pub tick_keeps : {Local : Type 0} (site : Site Local) (IsKept : (me : ℕ) → Local → Type 0) (r : Node Local) (now : ℕ)
    (choice : TickChoice) → NodeInvariant site.settings IsKept site.me r
    → IsKept site.me (after_tick site r now choice).local
    → ((sending : Sending) → choice ≡ Sends sending → CanAsk site r sending.to) → IsTickSpelled site r now choice
    → NodeInvariant site.settings IsKept site.me (after_tick site r now choice)
tick_keeps site IsKept r now (Retransmits due) holds kept can spelled =
    change_keeps site IsKept due.peer due.number (sent_at now) r _ holds kept refl refl
    (orderly_sent (limits_of site.settings site.me due.peer) now (r.asked due.peer) due.number (holds.orderly due.peer))
    (λ x. (refl, refl))
tick_keeps site IsKept r now (Sends sending) holds kept can spelled =
    accept_keeps site IsKept now sending.to _ sending.content r _ holds kept (can sending refl) refl refl refl spelled
tick_keeps site IsKept r now Rests holds kept can spelled = holds

-- any event
pub event_keeps : {Local Call Told : Type 0} (job : Job Local Call Told) (IsKept : (me : ℕ) → Local → Type 0) (me : ℕ)
    (r : Node Local) (now : ℕ) (event : NodeEvent Call) → IsAllSound job.behaviour IsKept
    → NodeInvariant job.settings IsKept me r → IsSpelled job me r now event
    → NodeInvariant job.settings IsKept me (node_after job me r now event)
event_keeps job IsKept me r now (Asks ask) sound holds spelled =
    request_keeps (site_of job me) IsKept r now ask _ holds
    (event_kept job IsKept me r now (Asks ask) sound holds.kept) refl spelled
event_keeps job IsKept me r now (Does thread call) sound holds spelled =
    same_keeps job.settings IsKept me r _ holds (event_kept job IsKept me r now (Does thread call) sound holds.kept)
event_keeps {Call = Call} job IsKept me r now (Comes message) sound holds spelled =
    delivery_keeps (site_of job me) IsKept r message _ holds
    (event_kept {Call = Call} job IsKept me r now (Comes message) sound holds.kept) spelled
event_keeps {Call = Call} job IsKept me r now Ticks sound holds spelled =
    let site = site_of job me in
    let next = job.behaviour.messages.next me (can_ask site r) r.local in
    tick_keeps site IsKept r now _ holds (event_kept {Call = Call} job IsKept me r now Ticks sound holds.kept)
    (λ sending e. can_says site r sending.to
    (sound.messages.asks me (can_ask site r) r.local sending holds.kept
    (sends_choice (next_due job.settings r now) next sending e)).0)
    spelled
