-- After each event of a node its record has what it had and what is sent.
use Rattle.std.proofs.Common.{◌≡◌, ◌≢◌, ℕ, ◌<◌, Bool, true, false, if◌then◌else◌, List, []}
use Rattle.std.proofs.Common.{◌∷◌, Option, None, Some, refl, sym, ap, ◌∙◌, subst, arith}
use Rattle.std.specs.List.{Contains, slice_get}
use Rattle.std.proofs.lemmas.Option.{same_Some}
use Rattle.wire_message.specs.Content.{Content}
use Rattle.wire_message.specs.Message.{Message}
use Rattle.base_lists.specs.Numbered.{element_at}
use Rattle.base_lists.proofs.Members.{contains_none, contains_one}
use Rattle.spec_node.specs.declared.answer.Asked.{Asked}
use Rattle.spec_node.specs.declared.answer.Asked.TheVariants as asked
use Rattle.spec_node.specs.declared.answer.Why.{Why}
use Rattle.spec_node.specs.Record.{Request, Run, Node}
use Rattle.spec_node.specs.Requests.{is_open, as_back, sent_at, next_claim}
use Rattle.spec_node.specs.Executed.{greatest, run_of, run_at}
use Rattle.spec_node.specs.Credits.{Limits, limits_of}
use Rattle.spec_node.specs.Behaviour.{Ask}
use Rattle.spec_node.specs.Step.{unless_waiting, taken_back, with_request, request_content, request_answer}
use Rattle.spec_node.specs.Step.{after_request, Verdict, Duplicated, Runs, Missed, Returns, Waits, verdict, with_sender}
use Rattle.spec_node.specs.Step.{after_delivery, TickChoice, Retransmits, Sends, Rests, after_tick}
use Rattle.spec_node.specs.NodeStep.{Job, site_of}
use Rattle.spec_node.specs.Invariant.{request_message, reply_message}
use Rattle.spec_node.proofs.Runs.{run_of_from, run_of_there}
use Rattle.spec_node.proofs.Runs.{run_at_says}
use Rattle.spec_node.proofs.Answers.{accepted_says, runs_says}
use Rattle.spec_network.specs.World.{World}
use Rattle.spec_network.specs.Invariant.{PairInvariant, Holds}
use Rattle.spec_network.specs.Sent.{Packet, Asking, sender, Has, asking, replying}
use Rattle.spec_network.specs.Sent.{asked_sends, delivered_sends, ticked_sends}
use Rattle.spec_network.proofs.PlainDeliveries.{past, reply_judged}
use Rattle.spec_network.proofs.RecordAdds.{Adds, place_at, adds_same, adds_asked, adds_changed, adds_run, adds_again}

-- of a number there is one run
one_run : (limits : Limits) (refuses : Content → Option Why) (requests : List Request) (runs : List Run) (slot k : ℕ)
    (run : Run)
    → PairInvariant limits refuses requests runs → run_at slot k runs ≡ Some run → run_of k runs ≡ Some run
one_run limits refuses requests runs slot k run P e =
    let at = run_at_says slot k runs run e in
    let other = run_of_from runs at.2.0 run at.2.1 in
    let there = run_of_there run.number runs other.0 other.1 in
    let place = P.once at.2.0 there.1.0 run other.0 at.2.1 there.1.1 (sym there.0) in
    let same : run ≡ other.0 = same_Some run other.0 (sym at.2.1 ∙ (ap (slice_get runs) place ∙ there.1.1)) in
    ap (λ n. run_of n runs) (sym at.0) ∙ (other.1 ∙ ap Some (sym same))

-- the record has the reply that is sent again
replying_had : {Local Call Told : Type 0} (job : Job Local Call Told) (IsKept : (me : ℕ) → Local → Type 0)
    (world : World Local)
    (i from slot k : ℕ) (o : Option Run) → Holds job IsKept world → run_at slot k ((world i).ran from) ≡ o
    → (p : Packet) → Contains (replying from i k o) p → (sender p ≡ i) × Has p (world i)
replying_had job IsKept world i from slot k None holds e p h = absurd (contains_none p h)
replying_had job IsKept world i from slot k (Some t) holds e p h =
    subst (λ q. (sender q ≡ i) × Has q (world i)) (sym (contains_one p _ h)) (
      refl,
      (
        t,
        one_run (limits_of job.settings from i) job.behaviour.messages.refuses ((world from).asked i)
            ((world i).ran from) slot
            k t
            (holds.pair from i) e,
        refl,
        refl,
      ),
    )

-- the record has the request that is sent again
asking_had : {Local : Type 0} (me to k : ℕ) (r : Node Local) (o : Option Request) → element_at (r.asked to) k ≡ o
    → (p : Packet) → Contains (asking me to k o) p → (sender p ≡ me) × Has p r
asking_had me to k r None e p h = absurd (contains_none p h)
asking_had me to k r (Some x) e p h =
    subst (λ q. (sender q ≡ me) × Has q r) (sym (contains_one p _ h)) (refl, (x, e, refl, refl))

-- a thread makes a request
pub adds_request : {Local Call Told : Type 0} (job : Job Local Call Told) (r : Node Local) (now i : ℕ) (ask : Ask)
    (a : Asked)
    → request_answer (site_of job i) r ask ≡ a
    → Adds i r (after_request (site_of job i) r now ask a) (asked_sends (site_of job i) r ask a)
adds_request job r now i ask (asked.Accepted peer slot k) e =
    let number = (accepted_says (site_of job i) r ask peer slot k e).number_is in
    let c = request_content (site_of job i) r ask in
    subst (λ q. Adds i r (with_request r now ask.to slot c) (Asking (place_at i ask.to q slot) c ∷ [])) (sym number)
    (adds_asked i now ask.to slot c r _ refl refl)
adds_request job r now i ask _ e = adds_same i r _ refl refl

-- what is delivered to node i, by what becomes of it
abbrev DeliveryAdds : {Local Call Told : Type 0} → Job Local Call Told → (i : ℕ) → Node Local → Message → Verdict
    → Type 0
DeliveryAdds job i r m v = Adds i r (after_delivery (site_of job i) r m v) (delivered_sends (site_of job i) r m v)

-- a request above every number run in its slot wasn't run
fresh_run : (limits : Limits) (refuses : Content → Option Why) (requests : List Request) (runs : List Run) (k : ℕ)
    (request : Request)
    (o : Option Run) → PairInvariant limits refuses requests runs → element_at requests k ≡ Some request
    → greatest request.slot runs < k
    → run_of k runs ≡ o → run_of k runs ≡ None
fresh_run limits refuses requests runs k request None P e more f = f
fresh_run limits refuses requests runs k request (Some t) P e more f =
    absurd (omega (arith, more, past limits refuses requests runs k request t P e f))

-- a request that was accepted comes
pub adds_request_comes : {Local Call Told : Type 0} (job : Job Local Call Told) (IsKept : (me : ℕ) → Local → Type 0)
    (world : World Local) (from to number : ℕ) (request : Request) (v : Verdict) → Holds job IsKept world
    → element_at ((world from).asked to) number ≡ Some request
    → verdict (site_of job to) (world to) (request_message job.settings from to number request) ≡ v
    → DeliveryAdds job to (world to) (request_message job.settings from to number request) v
adds_request_comes job IsKept world from to number request Runs holds e is =
    let m = request_message job.settings from to number request in
    let says = runs_says (site_of job to) (world to) m is in
    adds_run to (with_sender to m) request.content
    (job.behaviour.messages.run (with_sender to m) request.content (world to).local).1
    (world to)
    _ refl refl
    (fresh_run (limits_of job.settings from to) job.behaviour.messages.refuses ((world from).asked to)
    ((world to).ran from) number request _
    (holds.pair from to) e
    says.above refl)
adds_request_comes job IsKept world from to number request Duplicated holds e is =
    adds_again to (world to) _ _ (adds_same to (world to) _ refl refl)
    (replying_had job IsKept world to from request.slot number _ holds refl)
adds_request_comes job IsKept world from to number request Returns holds e is =
    adds_changed to from number as_back (world to) _ refl refl (λ y. (refl, refl))
adds_request_comes job IsKept world from to number request _ holds e is = adds_same to (world to) _ refl refl

-- a reply is neither run nor repeated
reply_answers : (open_ : Option Request) (slot : ℕ) (lock : Option ℕ) (v : Verdict)
    → taken_back slot open_ lock ≡ v → (v ≢ Runs) × (v ≢ Duplicated)
reply_answers o slot lock v e = go (is_open slot o) lock v e
  where
    go : (open_ : Bool) (wait : Option ℕ) (v : Verdict) → (if open_ then unless_waiting wait Returns else Missed) ≡ v
        → (v ≢ Runs) × (v ≢ Duplicated)
    go true None v e = ((λ f. back_runs (e ∙ f)), λ f. back_repeats (e ∙ f))
      where
        back_runs : Returns ≡ Runs → ⊥
        back_runs h = cc

        back_repeats : Returns ≡ Duplicated → ⊥
        back_repeats h = cc
    go true (Some k) v e = ((λ f. waits_runs (e ∙ f)), λ f. waits_repeats (e ∙ f))
      where
        waits_runs : Waits k ≡ Runs → ⊥
        waits_runs h = cc

        waits_repeats : Waits k ≡ Duplicated → ⊥
        waits_repeats h = cc
    go false wait v e = ((λ f. missed_runs (e ∙ f)), λ f. missed_repeats (e ∙ f))
      where
        missed_runs : Missed ≡ Runs → ⊥
        missed_runs h = cc

        missed_repeats : Missed ≡ Duplicated → ⊥
        missed_repeats h = cc

-- the reply of a run comes
pub adds_reply_comes : {Local Call Told : Type 0} (job : Job Local Call Told) (IsKept : (me : ℕ) → Local → Type 0)
    (world : World Local) (from to number : ℕ) (run : Run) (v : Verdict) → Holds job IsKept world
    → run_of number ((world to).ran from) ≡ Some run
    → verdict (site_of job from) (world from) (reply_message job.settings from to run) ≡ v
    → DeliveryAdds job from (world from) (reply_message job.settings from to run) v
adds_reply_comes job IsKept world from to number run v holds e is =
    let P = holds.pair from to in
    let there = run_of_there number ((world to).ran from) run e in
    let x = P.named there.1.0 run there.1.1 in
    let judged_is = reply_judged job IsKept world from to run x.0 holds (P.replies there.1.0 run there.1.1) x.1 x.2 in
    let not_run = reply_answers (Some x.0) run.slot (job.behaviour.messages.waits run.reply (world from).local) v
    (sym judged_is ∙ is) in
    go v not_run.0 not_run.1
  where
    go : (v : Verdict) → v ≢ Runs → v ≢ Duplicated
        → DeliveryAdds job from (world from) (reply_message job.settings from to run) v
    go Runs n o = absurd (n refl)
    go Duplicated n o = absurd (o refl)
    go Returns n o = adds_changed from to run.number as_back (world from) _ refl refl (λ y. (refl, refl))
    go _ n o = adds_same from (world from) _ refl refl

-- a tick
pub adds_tick : {Local Call Told : Type 0} (job : Job Local Call Told) (i now : ℕ) (r : Node Local)
    (choice : TickChoice)
    → Adds i r (after_tick (site_of job i) r now choice) (ticked_sends i r choice)
adds_tick job i now r (Retransmits d) =
    adds_again i r _ _ (adds_changed i d.peer d.number (sent_at now) r _ refl refl (λ y. (refl, refl)))
    (asking_had i d.peer d.number r _ refl)
adds_tick job i now r (Sends sending) =
    adds_asked i now sending.to (next_claim (r.asked sending.to)).slot sending.content r _ refl refl
adds_tick job i now r Rests = adds_same i r _ refl refl
