-- How a request or a reply that was sent is answered where it comes, by the step of the plain world.
use Rattle.std.proofs.Common.{◌≡◌, ℕ, true≢false, None, Some, sym, ap}
use Rattle.std.proofs.Common.{◌∙◌, subst}
use Rattle.std.proofs.lemmas.Option.{same_Some}
use Rattle.wire_message.specs.Content.{Content}
use Rattle.base_lists.proofs.Cases.{none_some}
use Rattle.spec_node.specs.declared.answer.Delivered.{Delivered}
use Rattle.spec_node.specs.declared.answer.Delivered.TheVariants as delivered
use Rattle.spec_node.specs.Step.{reply_slot}
use Rattle.spec_node.specs.NodeStep.{Job, OfDelivery}
use Rattle.spec_network.specs.World.{RequestComes, ReplyComes, WorldAnswer, OfNode, Unsent}
use Rattle.spec_network.specs.Plain.{Plain, PlainRequest, IsRequest, InRuns, IsPassed}
use Rattle.spec_network.specs.PlainStep.{RequestName, IsUnrun, IsToTake, PlainStep}
use Rattle.spec_network.proofs.PlainReadings.{reply_among}

-- a request of a pair by its number is one
one_request : {Local : Type 0} (p : Plain Local) (from to number : ℕ) (request other : PlainRequest)
    → IsRequest p from to number request → IsRequest p from to number other → request ≡ other
one_request p from to number request other e f = same_Some request other (sym e ∙ f)

-- the answer to a delivery
abbrev Is : {Told : Type 0} → WorldAnswer Told → Delivered → Type 0
Is answer b = answer ≡ OfNode (OfDelivery b)

-- a request that hasn't run runs where it comes
pub first_ran : {Local Call Told : Type 0} (job : Job Local Call Told) (p q : Plain Local) (name : RequestName)
    (request : PlainRequest)
    (a : WorldAnswer Told) → IsUnrun p name request
    → job.behaviour.messages.waits request.content (p.local name.to) ≡ None
    → PlainStep job p (RequestComes name.from name.to name.number) a q
    → Is a (job.behaviour.messages.runs_as request.content (reply_slot name.from request.slot))
first_ran job p q name request (OfNode (OfDelivery (delivered.Duplicate at))) F free h = absurd (F.new h.1.ran)
first_ran job p q name request (OfNode (OfDelivery delivered.Stale)) F free h = absurd (F.new h.1.ran)
first_ran job p q name request (OfNode (OfDelivery (delivered.Deferred lock))) F free h =
    let same = one_request p name.from name.to name.number h.0 request h.1.is F.is in
    absurd (none_some (sym free
    ∙ (ap (λ (z : PlainRequest). job.behaviour.messages.waits z.content (p.local name.to)) (sym same) ∙ h.2)))
first_ran job p q name request (OfNode (OfDelivery a)) F free h =
    let same = one_request p name.from name.to name.number h.request request h.fresh.is F.is in
    ap (λ b. OfNode (OfDelivery b))
    (h.runs_as ∙ ap (λ (z : PlainRequest). job.behaviour.messages.runs_as z.content (reply_slot name.from z.slot)) same)
first_ran job p q name request Unsent F free h = absurd (h.0 request F.is)
first_ran job p q name request a F free h = absurd h

-- one that waits for a lock is deferred
pub first_waits : {Local Call Told : Type 0} (job : Job Local Call Told) (p q : Plain Local) (name : RequestName)
    (request : PlainRequest)
    (lock : ℕ) (a : WorldAnswer Told) → IsUnrun p name request
    → job.behaviour.messages.waits request.content (p.local name.to) ≡ Some lock
    → PlainStep job p (RequestComes name.from name.to name.number) a q → Is a (delivered.Deferred lock)
first_waits job p q name request lock (OfNode (OfDelivery (delivered.Duplicate at))) F waits h = absurd (F.new h.1.ran)
first_waits job p q name request lock (OfNode (OfDelivery delivered.Stale)) F waits h = absurd (F.new h.1.ran)
first_waits job p q name request lock (OfNode (OfDelivery (delivered.Deferred other))) F waits h =
    let same = one_request p name.from name.to name.number h.0 request h.1.is F.is in
    ap (λ b. OfNode (OfDelivery (delivered.Deferred b)))
    (same_Some other lock
    (sym h.2 ∙ (ap (λ (z : PlainRequest). job.behaviour.messages.waits z.content (p.local name.to)) same ∙ waits)))
first_waits job p q name request lock (OfNode (OfDelivery a)) F waits h =
    let same = one_request p name.from name.to name.number h.request request h.fresh.is F.is in
    absurd (none_some (sym h.free
    ∙ (ap (λ (z : PlainRequest). job.behaviour.messages.waits z.content (p.local name.to)) same ∙ waits)))
first_waits job p q name request lock Unsent F waits h = absurd (h.0 request F.is)
first_waits job p q name request lock a F waits h = absurd h

-- one that ran, and isn't passed, is answered by its reply
pub then_again : {Local Call Told : Type 0} (job : Job Local Call Told) (p q : Plain Local) (name : RequestName)
    (request : PlainRequest)
    (a : WorldAnswer Told) → IsRequest p name.from name.to name.number request → InRuns p name.from name.to name.number
    → (IsPassed p name.from name.to name.number request → ⊥)
    → PlainStep job p (RequestComes name.from name.to name.number) a q
    → Is a (delivered.Duplicate (reply_slot name.from request.slot))
then_again job p q name request (OfNode (OfDelivery (delivered.Duplicate at))) e ran last h =
    let same = one_request p name.from name.to name.number h.0 request h.1.is e in
    ap (λ b. OfNode (OfDelivery (delivered.Duplicate b))) (h.3 ∙ ap (λ (z : PlainRequest). reply_slot name.from z.slot) same)
then_again job p q name request (OfNode (OfDelivery delivered.Stale)) e ran last h =
    absurd (last (subst (IsPassed p name.from name.to name.number)
    (one_request p name.from name.to name.number h.0 request h.1.is e) h.2))
then_again job p q name request (OfNode (OfDelivery (delivered.Deferred lock))) e ran last h = absurd (h.1.new ran)
then_again job p q name request (OfNode (OfDelivery a)) e ran last h = absurd (h.fresh.new ran)
then_again job p q name request Unsent e ran last h = absurd (h.0 request e)
then_again job p q name request a e ran last h = absurd h

-- one reply is taken for a request
one_reply : {Local : Type 0} (p : Plain Local) (name : RequestName) (request other : PlainRequest) (c d : Content)
    → IsToTake p name request c → IsToTake p name other d → (request ≡ other) × (c ≡ d)
one_reply p name request other c d T U =
    (one_request p name.from name.to name.number request other T.is U.is, same_Some c d (sym T.reply_is ∙ U.reply_is))

-- the reply to one that isn't back gives back its credit
pub gives_back : {Local Call Told : Type 0} (job : Job Local Call Told) (p q : Plain Local) (name : RequestName)
    (request : PlainRequest)
    (c : Content) (a : WorldAnswer Told) → IsToTake p name request c
    → job.behaviour.messages.waits c (p.local name.from) ≡ None
    → PlainStep job p (ReplyComes name.from name.to name.number) a q
    → Is a (delivered.Returned name.to request.slot name.number)
gives_back job p q name request c (OfNode (OfDelivery (delivered.Returned to slot number))) T free h =
    ap (λ b. OfNode (OfDelivery b)) (h.returned
    ∙ ap (λ (z : PlainRequest). delivered.Returned name.to z.slot name.number)
    (one_reply p name h.request request h.reply c h.to_take T).0)
gives_back job p q name request c (OfNode (OfDelivery delivered.Late)) T free h = absurd (true≢false (sym h.0 ∙ T.out))
gives_back job p q name request c (OfNode (OfDelivery (delivered.Deferred lock))) T free h =
    let same = (one_reply p name h.0 request h.1 c h.2 T).1 in
    absurd (none_some (sym free ∙ (ap (λ d. job.behaviour.messages.waits d (p.local name.from)) (sym same) ∙ h.3)))
gives_back job p q name request c Unsent T free h =
    absurd (h.0 (reply_among (p.runs name.from name.to) name.number c T.reply_is))
gives_back job p q name request c a T free h = absurd h

-- one that waits for a lock is deferred
pub take_waits : {Local Call Told : Type 0} (job : Job Local Call Told) (p q : Plain Local) (name : RequestName)
    (request : PlainRequest)
    (c : Content) (lock : ℕ) (a : WorldAnswer Told) → IsToTake p name request c
    → job.behaviour.messages.waits c (p.local name.from) ≡ Some lock
    → PlainStep job p (ReplyComes name.from name.to name.number) a q → Is a (delivered.Deferred lock)
take_waits job p q name request c lock (OfNode (OfDelivery (delivered.Returned to slot number))) T waits h =
    let same = (one_reply p name h.request request h.reply c h.to_take T).1 in
    absurd (none_some (sym h.free ∙ (ap (λ d. job.behaviour.messages.waits d (p.local name.from)) same ∙ waits)))
take_waits job p q name request c lock (OfNode (OfDelivery delivered.Late)) T waits h =
    absurd (true≢false (sym h.0 ∙ T.out))
take_waits job p q name request c lock (OfNode (OfDelivery (delivered.Deferred other))) T waits h =
    let same = (one_reply p name h.0 request h.1 c h.2 T).1 in
    ap (λ b. OfNode (OfDelivery (delivered.Deferred b)))
    (same_Some other lock (sym h.3 ∙ (ap (λ d. job.behaviour.messages.waits d (p.local name.from)) same ∙ waits)))
take_waits job p q name request c lock Unsent T waits h =
    absurd (h.0 (reply_among (p.runs name.from name.to) name.number c T.reply_is))
take_waits job p q name request c lock a T waits h = absurd h
