-- A request of a thread that is accepted is among the requests from then on.
use Rattle.std.proofs.Common.{◌≡◌, ℕ, suc, List, [], ◌∷◌, ◌++◌, length, Option, Some, refl, sym, ap, ◌∙◌, subst, subst₂}
use Rattle.wire_message.specs.Parameters.{Parameters}
use Rattle.part_handlers.specs.declared.table.Entry.{Entry}
use Rattle.part_handlers.specs.Runs.{Meaning}
use Rattle.base_lists.specs.Numbered.{element_at}
use Rattle.spec_node.specs.declared.answer.Asked.TheVariants as asked
use Rattle.spec_node.specs.NodeStep.{site_of, OfRequest}
use Rattle.spec_network.specs.World.{EventAt, Asks, OfNode, world_answer, world_after, run}
use Rattle.spec_network.specs.Plain.{Plain, PlainRequest, IsRequest, plain_of}
use Rattle.spec_network.specs.PlainStep.{AskStep, PlainStep}
use Rattle.spec_network.proofs.PlainGrowing.{pair_same}
use Rattle.spec_network.proofs.PlainSteps.{step_plain}
use Rattle.spec_network.proofs.Worlds.{step_keeps}
use Rattle.node_rules.specs.EndpointLocal.{EndpointLocal, IsEndpointKept}
use Rattle.node_rules.specs.EndpointRules.{OtherCall, Records, at_the_opening, job_of}
use Rattle.law_transfers.specs.TransferLaws.{AreAmong}
use Rattle.law_transfers.proofs.Happening.{run_grows}
use Rattle.law_transfers.proofs.Stretches.{AreSound, AllHolds}
use Rattle.law_messages.specs.Events.{after_all}
use Rattle.law_messages.specs.Requests.{AcceptedName, accepted_request}
use Rattle.law_messages.proofs.Events.{opening_all}

-- the last element, by its number
last_there : {X : Type 0} (xs : List X) (x : X) → element_at (xs ++ x ∷ []) (suc (length xs)) ≡ Some x
last_there [] x = refl
last_there (first ∷ xs) x = last_there xs x

-- ---- in the state after the call

there_then : (settings : Parameters) (table : List (Option Entry)) (meaning : Meaning) (world : Records)
    (event : EventAt OtherCall) (name : AcceptedName) → AreSound settings table meaning
    → AllHolds settings table meaning world → event.event ≡ Asks name.from name.ask
    → world_answer (job_of settings table meaning) world event
    ≡ OfNode (OfRequest (asked.Accepted name.to name.slot name.number))
    → IsRequest (plain_of (world_after (job_of settings table meaning) world event)) name.from name.to name.number
    (accepted_request (job_of settings table meaning) world name)
there_then settings table meaning world event name sound holds is answered =
    let job = job_of settings table meaning in
    let plain = plain_of world in
    let after = plain_of (world_after job world event) in
    let said = accepted_request job world name in
    let step : AskStep (site_of job name.from) plain name.ask (asked.Accepted name.to name.slot name.number) after
    = subst₂ (λ it answer. PlainStep job plain it answer after) is answered
    (step_plain job (IsEndpointKept settings) world event sound holds) in
    let before = plain.requests name.from name.ask.to in
    let at_target : element_at (after.requests name.from name.ask.to) name.number ≡ Some said
    = ap (λ (p : Plain EndpointLocal). element_at (p.requests name.from name.ask.to) name.number) step.3
    ∙ (ap (λ (requests : List PlainRequest). element_at requests name.number)
    (pair_same plain.requests name.from name.ask.to (before ++ said ∷ []))
    ∙ (ap (element_at (before ++ said ∷ [])) step.2.number ∙ last_there before said)) in
    subst (λ (to : ℕ). element_at (after.requests name.from to) name.number ≡ Some said) (sym step.1) at_target

-- ---- in any later state

stays : (settings : Parameters) (table : List (Option Entry)) (meaning : Meaning) (before : List (EventAt OtherCall))
    (event : EventAt OtherCall) (later : List (EventAt OtherCall)) (world : Records) (name : AcceptedName)
    → AreSound settings table meaning
    → AreAmong (job_of settings table meaning) (before ++ event ∷ later) → AllHolds settings table meaning world
    → event.event ≡ Asks name.from name.ask
    → world_answer (job_of settings table meaning) (run (job_of settings table meaning) before world) event
    ≡ OfNode (OfRequest (asked.Accepted name.to name.slot name.number))
    → IsRequest (plain_of (run (job_of settings table meaning) (before ++ event ∷ later) world)) name.from name.to
    name.number
    (accepted_request (job_of settings table meaning) (run (job_of settings table meaning) before world) name)
stays settings table meaning [] event later world name sound among holds is answered =
    let job = job_of settings table meaning in
    (run_grows job (IsEndpointKept settings) later (world_after job world event) sound among.1
    (step_keeps job (IsEndpointKept settings) world event sound holds among.0)).requests name.from name.to name.number
    (accepted_request job world name) (there_then settings table meaning world event name sound holds is answered)
stays settings table meaning (first ∷ before) event later world name sound among holds is answered =
    let job = job_of settings table meaning in
    stays settings table meaning before event later (world_after job world first) name sound among.1
    (step_keeps job (IsEndpointKept settings) world first sound holds among.0) is answered

pub accepted_stays : (settings : Parameters) (table : List (Option Entry)) (meaning : Meaning)
    (before later : List (EventAt OtherCall)) (event : EventAt OtherCall) (name : AcceptedName)
    → AreSound settings table meaning → AreAmong (job_of settings table meaning) (before ++ event ∷ later)
    → event.event ≡ Asks name.from name.ask
    → world_answer (job_of settings table meaning) (after_all (job_of settings table meaning) before) event
    ≡ OfNode (OfRequest (asked.Accepted name.to name.slot name.number))
    → IsRequest (plain_of (after_all (job_of settings table meaning) (before ++ event ∷ later))) name.from name.to
    name.number
    (accepted_request (job_of settings table meaning) (after_all (job_of settings table meaning) before) name)
accepted_stays settings table meaning before later event name sound among is answered =
    stays settings table meaning before event later (at_the_opening settings) name sound among
    (opening_all settings table meaning) is answered
