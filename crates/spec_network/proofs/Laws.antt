-- The laws hold of every state of which the invariant holds.
use Rattle.std.proofs.Common.{◌≡◌, ◌≢◌, ℕ, suc, ◌<◌, ◌≤◌, ◌↔◌, false, leb, List, [], ◌∷◌, length, Some, refl, inl, inr}
use Rattle.std.proofs.Common.{sym, ap, ◌∙◌, subst, arith, ne_eqb}
use Rattle.std.specs.Prelude.{Option}
use Rattle.std.proofs.lemmas.Bool.{cases_Bool}
use Rattle.std.proofs.lemmas.Bool.Decides.{nat_tests}
use Rattle.std.proofs.lemmas.List.{length-map}
use Rattle.wire_message.specs.Parameters.{Parameters, credits_of}
use Rattle.wire_message.specs.Content.{Content}
use Rattle.base_lists.specs.Numbered.{element_at}
use Rattle.base_lists.proofs.Numbered.{numbered_nil, numbered_map}
use Rattle.spec_node.specs.declared.answer.Asked.{Asked}
use Rattle.spec_node.specs.declared.answer.Asked.TheVariants as asked
use Rattle.spec_node.specs.declared.answer.Why.{Why}
use Rattle.spec_node.specs.Record.{Request, Run}
use Rattle.spec_node.specs.Requests.{outstanding, free_slot}
use Rattle.spec_node.specs.Executed.{slots_run}
use Rattle.spec_node.specs.Credits.{Limits, limits_of, greatest_holding}
use Rattle.spec_node.specs.Held.{held_with, held_buffers}
use Rattle.spec_node.specs.Behaviour.{Ask}
use Rattle.spec_node.specs.Step.{claim_answer, request_answer}
use Rattle.spec_node.specs.NodeStep.{Job, site_of, IsAllSound, OfRequest}
use Rattle.spec_node.proofs.Holding.{held_few, no_slots}
use Rattle.spec_network.specs.World.{World, WorldAnswer, OfNode}
use Rattle.spec_network.specs.Invariant.{PairInvariant, WorldInvariant, Holds}
use Rattle.spec_network.specs.Plain.{PlainRequest, plain_request, plain_of}
use Rattle.spec_network.specs.PlainStep.{Passes}
use Rattle.spec_network.specs.Laws.{HoldsFew, NotYetExactly, RunsOnce, IsLawful}
use Rattle.spec_network.proofs.PlainReadings.{outstanding_in_is}
use Rattle.spec_network.proofs.PlainHeld.{counts_agree}
use Rattle.spec_network.proofs.PlainSlots.{back_ran, requests_within, finds_its_slot, reply_stands, none_passes}
use Rattle.spec_network.proofs.PlainSlots.{finds_its_request}

-- ---- what a node holds

-- a node that was asked nothing ran nothing
pub none_ran : (limits : Limits) (refuses : Content → Option Why) (requests : List Request) (runs : List Run)
    → requests ≡ [] → PairInvariant limits refuses requests runs → runs ≡ []
none_ran limits refuses requests [] e P = refl
none_ran limits refuses requests (r ∷ runs) e P =
    let it = P.named 0 r refl in absurd (numbered_nil r.number it.0 (ap (λ ys. element_at ys r.number) (sym e) ∙ it.1))

-- no record holds more than the credits with its peers
pub holding_few : {Local : Type 0} (settings : Parameters) (refuses : Content → Option Why)
    (IsKept : (me : ℕ) → Local → Type 0) (world : World Local) → WorldInvariant settings refuses IsKept world
    → (i : ℕ) → held_buffers settings i (world i) ≤ greatest_holding settings i
holding_few settings refuses IsKept world holds i =
    let credits = credits_of settings i i in
    let none_asked = ap outstanding (holds.own i) in
    let none =
    ap (λ rs. slots_run rs credits)
    (none_ran (limits_of settings i i) refuses ((world i).asked i) ((world i).ran i) (holds.own i) (holds.pair i i))
    ∙ no_slots credits in
    let own : held_with settings i (world i) i ≡ 0 = omega arith in
    held_few settings i (world i) (λ j. (holds.pair i j).orderly.few) own

-- and so no node
holds_few : {Local Call Told : Type 0} (job : Job Local Call Told) (IsKept : (me : ℕ) → Local → Type 0)
    (world : World Local)
    → Holds job IsKept world → HoldsFew job.settings world
holds_few job IsKept world holds i low =
    subst (λ h. h ≤ greatest_holding job.settings i) (sym ((counts_agree job IsKept world holds).held i))
    (holding_few job.settings job.behaviour.messages.refuses IsKept world holds i)

-- ---- a request that waits for a credit

-- the answer to a request
abbrev of_request : (Told : Type 0) → Asked → WorldAnswer Told
of_request Told a = OfNode (OfRequest a)

-- the request is told 'not yet'
abbrev TellsNotYet : (Told : Type 0) → Asked → Type 0
TellsNotYet Told a = of_request Told a ≡ of_request Told asked.NotYet

-- where a number is left, a request is told so exactly where all credits are outstanding
not_yet_where : (Told : Type 0) (limits : Limits) (j : ℕ) (requests : List Request)
    → outstanding requests ≤ limits.credits
    → length requests < limits.last
    → TellsNotYet Told (claim_answer limits j requests) ↔ (outstanding requests ≡ limits.credits)
not_yet_where Told limits j requests few left =
    let given : leb limits.last (length requests) ≡ false = grind (arith, nat_tests) in
    elim (cases_Bool (leb limits.credits (outstanding requests))) [
      | inl full ↦ (let all : outstanding requests ≡ limits.credits = grind (arith, nat_tests) in
          ((λ e. all), λ e. rw (given, full) refl))
      | inr free ↦ (let less : outstanding requests ≢ limits.credits = grind (arith, nat_tests) in
          ((λ e. absurd (accepted_is (rw (given, free) at e))), λ e. absurd (less e)))
    ]
  where
    accepted_is : TellsNotYet Told (asked.Accepted j (free_slot requests) (suc (length requests))) → ⊥
    accepted_is e = cc

-- a request that passes every earlier refusal is answered by its claim
claims : {Local Call Told : Type 0} (job : Job Local Call Told) (world : World Local) (i : ℕ) (ask : Ask)
    → Passes (site_of job i) (plain_of world) ask
    → request_answer (site_of job i) (world i) ask ≡ claim_answer (limits_of job.settings i ask.to) ask.to
    ((world i).asked ask.to)
claims job world i ask P = rw (P.good.allowed, P.good.faultless, ne_eqb ask.to i P.other) refl

-- what is told 'not yet' is exactly what has no credit
not_yet_exactly : {Local Call Told : Type 0} (job : Job Local Call Told) (IsKept : (me : ℕ) → Local → Type 0)
    (world : World Local) → Holds job IsKept world → NotYetExactly job world
not_yet_exactly {Told = Told} job IsKept world holds now i ask P left =
    let requests = (world i).asked ask.to in
    let it = not_yet_where Told (limits_of job.settings i ask.to) ask.to requests (holds.pair i ask.to).orderly.few
    (subst (λ n. n < job.settings.last) (length-map requests plain_request) left) in
    let is = ap (of_request Told) (claims job world i ask P) in
    ((λ e. outstanding_in_is requests ∙ it.0 (sym is ∙ e)), (λ e. is ∙ it.1 (sym (outstanding_in_is requests) ∙ e)))

-- ---- a state

-- a request that was accepted, by what its run says
same_plain_request : (request : Request) (run : Run) → request.slot ≡ run.slot → request.content ≡ run.content
    → ◌≡◌ {A = PlainRequest} (plain_request request) (record { content = run.content; slot = run.slot })
same_plain_request request run e f = λ t. record { content = f t; slot = e t }

-- what a node ran is what was accepted, and none of it twice
runs_once : {Local Call Told : Type 0} (job : Job Local Call Told) (IsKept : (me : ℕ) → Local → Type 0)
    (world : World Local)
    → Holds job IsKept world → (from to : ℕ) → RunsOnce world from to
runs_once job IsKept world holds from to =
    let P = holds.pair from to in
    record {
      accepted = λ place r e.
          let x = P.named place r e in
          numbered_map plain_request ((world from).asked to) r.number x.0 x.1 ∙ ap Some (same_plain_request x.0 r x.2 x.3);
      once = P.once;
    }

-- a state of which the invariant holds is lawful
pub lawful : {Local Call Told : Type 0} (job : Job Local Call Told) (IsKept : (me : ℕ) → Local → Type 0)
    (world : World Local)
    → IsAllSound job.behaviour IsKept → Holds job IsKept world → IsLawful job world
lawful job IsKept world sound holds =
    record {
      within = requests_within job IsKept world holds;
      few = holds_few job IsKept world holds;
      counts = counts_agree job IsKept world holds;
      not_yet = not_yet_exactly job IsKept world holds;
      finds = finds_its_slot job IsKept world sound holds;
      stands = reply_stands job IsKept world sound holds;
      passes = none_passes job IsKept world holds;
      returns = finds_its_request job IsKept world sound holds;
      runs = runs_once job IsKept world holds;
      back = back_ran job IsKept world holds;
    }
