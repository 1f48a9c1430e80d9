-- A request of a thread is a step of the plain world.
use Rattle.std.proofs.Common.{◌≡◌, inl, inr, ℕ, suc, ◌<◌, true≢false}
use Rattle.std.proofs.Common.{length, refl, sym}
use Rattle.std.proofs.Common.{ap, ◌∙◌, subst, arith, eqb, eq-eqb, ne_eqb}
use Rattle.std.specs.List.{list_any}
use Rattle.std.proofs.lemmas.Bool.Decides.{nat_tests}
use Rattle.std.proofs.lemmas.Bool.{cases_eq, cases_lt}
use Rattle.std.proofs.lemmas.List.{length-map}
use Rattle.wire_message.specs.Parameters.{Parameters, credits_of}
use Rattle.wire_message.specs.Content.{Content}
use Rattle.base_lists.specs.Numbered.{element_at}
use Rattle.base_lists.specs.Put.{put}
use Rattle.base_lists.proofs.Cases.{cases_option, cases_result}
use Rattle.base_lists.proofs.Numbered.{numbered_map, numbered_mapped}
use Rattle.base_lists.proofs.Put.{put_own}
use Rattle.part_handlers.specs.declared.rules.CallKind.TheVariants as call
use Rattle.spec_node.specs.declared.answer.Asked.{Asked}
use Rattle.spec_node.specs.declared.answer.Asked.TheVariants as asked
use Rattle.spec_node.specs.Requests.{taken_slots, outstanding, free_slot, next_claim}
use Rattle.spec_node.specs.Credits.{limits_of}
use Rattle.spec_node.specs.Behaviour.{Ask}
use Rattle.spec_node.specs.Step.{with_request, request_content, claim_answer, request_fault, request_answer, after_request}
use Rattle.spec_node.specs.NodeStep.{Job, site_of}
use Rattle.spec_node.proofs.Slots.{free_outside, free_below, taken_numbered, taken_from}
use Rattle.spec_network.specs.World.{World}
use Rattle.spec_network.specs.Invariant.{Holds}
use Rattle.spec_network.specs.Plain.{PlainRequest, plain_of, plain_request, IsLeastFree}
use Rattle.spec_network.specs.Plain.{with_plain_request}
use Rattle.spec_network.specs.PlainStep.{IsNext, Passes, AskStep}
use Rattle.spec_network.proofs.PlainReadings.{is_back_at}
use Rattle.spec_network.proofs.PlainReadings.{outstanding_in_is}
use Rattle.spec_network.proofs.PlainParts.{same_plain, plain_local, plain_same, plain_accepted}

-- the smallest free slot is the smallest free slot
least_free : {Local : Type 0} (world : World Local) (from to : ℕ)
    → IsLeastFree (plain_of world) from to (free_slot ((world from).asked to))
least_free world from to =
    let requests = (world from).asked to in (
      (λ k x e b same.
          let y = numbered_mapped plain_request requests k x e in
          let slot : y.0.slot ≡ free_slot requests = ap (λ (z : PlainRequest). z.slot) y.2 ∙ same in
          true≢false (sym (taken_numbered requests k y.0 y.1 (sym (is_back_at (element_at requests k) y.0 y.1) ∙ b))
          ∙ (ap (λ q. list_any (eqb q) (taken_slots requests)) slot ∙ free_outside requests))),
      λ l low free.
          let it = taken_from requests l (free_below requests l low) in
          free (suc it.0) (plain_request it.1) (numbered_map plain_request requests (suc it.0) it.1 it.2)
          (is_back_at (element_at requests (suc it.0)) it.1 it.2 ∙ it.3) it.4,
    )

-- where a number and a credit are left
pub is_next : {Local : Type 0} (settings : Parameters) (world : World Local) (from to : ℕ)
    → length ((world from).asked to) < settings.last
    → outstanding ((world from).asked to) < credits_of settings from to
    → IsNext settings (plain_of world) from to (next_claim ((world from).asked to))
is_next settings world from to left free =
    let requests = (world from).asked to in
    record {
      left = rw (length-map requests plain_request) left;
      credit = rw (outstanding_in_is requests) free;
      least = least_free world from to;
      number = ap suc (sym (length-map requests plain_request));
    }

-- a request is accepted
plain_asks : {Local : Type 0} (world : World Local) (i j now slot : ℕ) (c : Content)
    → plain_of (put world i (with_request (world i) now j slot c))
    ≡ with_plain_request (plain_of world) i j (record { content = c; slot = slot })
plain_asks world i j now slot c =
    plain_accepted world i j now slot c (world i).local
    ∙ same_plain _ _ refl refl refl (put_own (plain_of world).local i)

-- a request by its answer is a step of the plain world
abbrev AskIsPlain : {Local Call Told : Type 0} → Job Local Call Told → World Local → (now i : ℕ) → Ask → Asked → Type 0
AskIsPlain job world now i ask a =
    AskStep (site_of job i) (plain_of world) ask a
    (plain_of (put world i (after_request (site_of job i) (world i) now ask a)))

-- a request that passes all earlier refusals
claim_step : {Local Call Told : Type 0} (job : Job Local Call Told) (IsKept : (me : ℕ) → Local → Type 0)
    (world : World Local)
    (now i : ℕ) (ask : Ask) → Holds job IsKept world → Passes (site_of job i) (plain_of world) ask
    → AskIsPlain job world now i ask (claim_answer (limits_of job.settings i ask.to) ask.to ((world i).asked ask.to))
claim_step job IsKept world now i ask holds pass =
    let requests = (world i).asked ask.to in
    let limits = limits_of job.settings i ask.to in
    let orderly = (holds.pair i ask.to).orderly in
    elim (cases_lt (length requests) limits.last) [
      | inl left ↦ elim (cases_lt (outstanding requests) limits.credits) [
        | inl few ↦ at (asked.Accepted ask.to (free_slot requests) (suc (length requests))) (grind (arith, nat_tests)) (
          pass,
          refl,
          is_next job.settings world i ask.to left few,
          plain_asks world i ask.to now (free_slot requests)
              (request_content (site_of job i) (world i) ask),
        )
        | inr full ↦ at asked.NotYet (grind (arith, nat_tests)) (
          pass,
          rw (length-map requests plain_request) left,
          outstanding_in_is requests
              ∙ omega (arith, full, orderly.few),
          plain_same world i,
        )
      ]
      | inr exhausted ↦ at asked.Exhausted (grind (arith, nat_tests))
          (pass, length-map requests plain_request ∙ omega (arith, exhausted, orderly.short), plain_same world i)
    ]
  where
    at : (a : Asked) → claim_answer (limits_of job.settings i ask.to) ask.to ((world i).asked ask.to) ≡ a
        → AskIsPlain job world now i ask a
        → AskIsPlain job world now i ask
        (claim_answer (limits_of job.settings i ask.to) ask.to ((world i).asked ask.to))
    at a e = subst (AskIsPlain job world now i ask) (sym e)

-- a request
pub request_step : {Local Call Told : Type 0} (job : Job Local Call Told) (IsKept : (me : ℕ) → Local → Type 0)
    (world : World Local)
    (now i : ℕ) (ask : Ask) → Holds job IsKept world
    → AskIsPlain job world now i ask (request_answer (site_of job i) (world i) ask)
request_step job IsKept world now i ask holds =
    let u = job.behaviour.messages in
    let c = request_content (site_of job i) (world i) ask in
    elim (cases_result (u.judges ask.thread call.Request (world i).local)) [
      | inr bad ↦ at (asked.Forbidden bad.0) (rw bad.1 refl) (bad.1, plain_local world i _ refl refl)
      | inl allowed ↦ elim (cases_option (request_fault job.settings u ask)) [
        | inr ill ↦ at (asked.BadArg ill.0) (rw (allowed, ill.1) refl) (allowed, ill.1, plain_same world i)
        | inl good ↦ elim (cases_eq ask.to i) [
          | inl here ↦ elim (cases_option (u.busy c (world i).local)) [
            | inl free ↦ at asked.Ran (rw (allowed, good, eq-eqb ask.to i here, free) refl)
                (record { allowed = allowed; faultless = good }, here, free, plain_local world i _ refl refl)
            | inr lock ↦ at (asked.LockBusy lock.0) (rw (allowed, good, eq-eqb ask.to i here, lock.1) refl)
                (record { allowed = allowed; faultless = good }, here, lock.1, plain_same world i)
          ]
          | inr other ↦ at (claim_answer (limits_of job.settings i ask.to) ask.to ((world i).asked ask.to))
              (rw (allowed, good, ne_eqb ask.to i other) refl)
              (claim_step job IsKept world now i ask holds
              (record { good = record { allowed = allowed; faultless = good }; other = other }))
        ]
      ]
    ]
  where
    at : (a : Asked) → request_answer (site_of job i) (world i) ask ≡ a → AskIsPlain job world now i ask a
        → AskIsPlain job world now i ask (request_answer (site_of job i) (world i) ask)
    at a e = subst (AskIsPlain job world now i ask) (sym e)
